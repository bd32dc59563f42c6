use Rattle.std.proofs.Common.{◌≡◌, ◌++◌, flat_map}
use Rattle.list_orders.specs.Search.{numbers}
use Rattle.run_numbers.specs.declared.subject.Cause.TheVariants.{Mutex}
use Rattle.report_figures.specs.Subjects.{calls_for}
use Rattle.report_figures.proofs.subjects.push_takes.Given as goal

abbrev pub invariant-loop-mutex : goal.invariant-loop-mutex
invariant-loop-mutex l = l.subjects.items ≡ l.fn.subjects.items ++ flat_map (λ mutex. calls_for l.task (Mutex mutex)) (numbers l.mutex)
