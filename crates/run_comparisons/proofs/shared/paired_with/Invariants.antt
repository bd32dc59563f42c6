use Rattle.std.proofs.Common.{◌≡◌, filter_map, take, zip}
use Rattle.run_comparisons.specs.Shared.{paired_at}
use Rattle.run_comparisons.proofs.shared.paired_with.Given as goal

abbrev pub invariant-loop-number : goal.invariant-loop-number
invariant-loop-number l = l.events.items ≡ filter_map (paired_at l.before l.after) (take l.number (zip l.places l.later))
