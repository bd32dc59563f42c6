use Rattle.std.proofs.Common.{◌≡◌, ◌++◌}
use Rattle.report_figures.specs.Subjects.{blocked_on}
use Rattle.report_figures.proofs.subjects.push_blocked.Given as goal

abbrev pub invariant-loop-mutex : goal.invariant-loop-mutex
invariant-loop-mutex l = l.subjects.items ≡ l.fn.subjects.items ++ blocked_on l.mutex l.task
