use Rattle.std.proofs.Common.{◌≡◌, map}
use Rattle.list_orders.specs.Search.{numbers}
use Rattle.task_jobs.specs.Crowds.{first_crowd}
use Rattle.run_numbers.specs.Taking.{takers_in}
use Rattle.run_numbers.proofs.work.first_crowds.Given as goal

abbrev pub invariant-loop-mutex : goal.invariant-loop-mutex
invariant-loop-mutex l = l.crowds.items ≡ map (λ mutex. first_crowd (takers_in l.works mutex)) (numbers l.mutex)
