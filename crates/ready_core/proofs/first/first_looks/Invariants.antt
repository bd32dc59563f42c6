use Rattle.std.proofs.Common.{◌≡◌, map}
use Rattle.list_orders.specs.Search.{numbers}
use Rattle.bench_model.specs.Start.{first_look}
use Rattle.ready_core.proofs.first.first_looks.Given as goal

abbrev pub invariant-loop-core : goal.invariant-loop-core
invariant-loop-core l = l.looks.items ≡ map first_look (numbers l.core)
