use Rattle.std.proofs.Common.{◌≡◌, ◌++◌, flat_map}
use Rattle.list_orders.specs.Search.{numbers}
use Rattle.report_figures.specs.Subjects.{transfers_at}
use Rattle.report_figures.proofs.subjects.push_transfers.Given as goal

abbrev pub invariant-loop-queue : goal.invariant-loop-queue
invariant-loop-queue l = l.subjects.items ≡ l.fn.subjects.items ++ flat_map (transfers_at l.task) (numbers l.queue)
