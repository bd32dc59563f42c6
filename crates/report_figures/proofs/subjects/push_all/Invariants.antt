use Rattle.std.proofs.Common.{◌≡◌, ◌++◌, take}
use Rattle.report_figures.proofs.subjects.push_all.Given as goal

abbrev pub invariant-loop-subject : goal.invariant-loop-subject
invariant-loop-subject l =
    l.subjects.items ≡ l.fn.subjects.items ++ take l.subject-index l.all
