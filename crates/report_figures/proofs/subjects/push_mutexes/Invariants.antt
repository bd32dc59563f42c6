use Rattle.std.proofs.Common.{◌≡◌, ◌++◌, flat_map}
use Rattle.list_orders.specs.Search.{numbers}
use Rattle.report_figures.specs.Subjects.{mutex_subjects}
use Rattle.report_figures.proofs.subjects.push_mutexes.Given as goal

abbrev pub invariant-loop-mutex : goal.invariant-loop-mutex
invariant-loop-mutex l =
    l.subjects.items ≡ l.fn.subjects.items ++ flat_map mutex_subjects (numbers l.mutex)
