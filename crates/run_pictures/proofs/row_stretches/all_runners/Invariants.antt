use Rattle.std.proofs.Common.{◌≡◌, map}
use Rattle.list_orders.specs.Search.{numbers}
use Rattle.run_pictures.proofs.RowStretches.{core_from}
use Rattle.run_pictures.proofs.row_stretches.all_runners.Given as goal

abbrev pub invariant-loop-core : goal.invariant-loop-core
invariant-loop-core l = l.runners.items ≡ map (core_from l.cores l.core) (numbers l.tasks)
