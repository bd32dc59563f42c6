use Rattle.std.proofs.Common.{◌≡◌, ◌++◌, flat_map}
use Rattle.list_orders.specs.Search.{numbers}
use Rattle.report_figures.specs.Subjects.{core_subjects}
use Rattle.report_figures.proofs.subjects.push_cores.Given as goal

abbrev pub invariant-loop-core : goal.invariant-loop-core
invariant-loop-core l =
    l.subjects.items ≡ l.fn.subjects.items ++ flat_map core_subjects (numbers l.core)
