use Rattle.std.proofs.Common.{◌≡◌, drop}
use Rattle.std.specs.Prelude.{find}
use Rattle.session_reports.specs.Checks.{is_unknown}
use Rattle.session_reports.proofs.limits.first_unknown.Given as goal

abbrev pub invariant-loop-one : goal.invariant-loop-one
invariant-loop-one l = find (is_unknown l.header l.figures) l.wanted ≡ find (is_unknown l.header l.figures) (drop l.one-index l.wanted)
