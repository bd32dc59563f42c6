use Rattle.std.proofs.Common.{◌≡◌, map}
use Rattle.list_orders.specs.Search.{numbers}
use Rattle.ready_core.specs.Fields.{first_seat}
use Rattle.ready_core.proofs.first.first_seats.Given as goal

abbrev pub invariant-loop-task : goal.invariant-loop-task
invariant-loop-task l = l.seats.items ≡ map (first_seat l.cores) (numbers l.task)
