use Rattle.std.proofs.Common.{◌≡◌, take, flat_map}
use Rattle.session_reports.specs.Checks.{limits_in}
use Rattle.session_reports.proofs.limits.limits_of.Given as goal

abbrev pub invariant-loop-one : goal.invariant-loop-one
invariant-loop-one l = l.limits.items ≡ flat_map (limits_in l.header l.figures) (take l.one-index l.wanted)
