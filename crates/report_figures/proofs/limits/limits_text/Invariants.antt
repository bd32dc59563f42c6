use Rattle.std.proofs.Common.{◌≡◌, take, flat_map, string_bytes}
use Rattle.report_figures.specs.Limits.{limit_line}
use Rattle.report_figures.proofs.limits.limits_text.Given as goal

abbrev pub invariant-loop-limit : goal.invariant-loop-limit
invariant-loop-limit l =
    string_bytes l.text ≡ flat_map (limit_line l.header) (take l.limit-index l.limits)
