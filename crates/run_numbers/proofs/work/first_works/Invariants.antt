use Rattle.std.proofs.Common.{◌≡◌, map}
use Rattle.list_orders.specs.Search.{numbers}
use Rattle.run_numbers.specs.Turns.{work_before}
use Rattle.run_numbers.proofs.work.first_works.Given as goal

abbrev pub invariant-loop-task : goal.invariant-loop-task
invariant-loop-task l = l.works.items ≡ map (work_before l.kernel) (numbers l.task)
