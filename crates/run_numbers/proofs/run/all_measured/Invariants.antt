use Rattle.std.proofs.Common.{◌≡◌, map}
use Rattle.list_orders.specs.Search.{numbers}
use Rattle.run_numbers.specs.Past.{past}
use Rattle.run_numbers.specs.Progress.{measured_at}
use Rattle.run_numbers.proofs.run.all_measured.Given as goal

abbrev pub invariant-loop-k : goal.invariant-loop-k
invariant-loop-k l = l.all.items ≡ map (measured_at l.steps (past l.counted.clock.elapsed l.counted.clock.places.items) l.counted.works.items l.counted.crowds.items l.counted.counters.items l.left l.subjects) (numbers l.k)
