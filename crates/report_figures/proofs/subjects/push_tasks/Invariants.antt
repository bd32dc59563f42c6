use Rattle.std.proofs.Common.{◌≡◌, ◌++◌}
use Rattle.report_figures.specs.Subjects.{user_subjects}
use Rattle.report_figures.proofs.subjects.push_tasks.Given as goal

abbrev pub invariant-loop-user : goal.invariant-loop-user
invariant-loop-user l =
    l.subjects.items ≡ l.fn.subjects.items ++ user_subjects l.config l.queues l.suspends l.user
