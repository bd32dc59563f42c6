use Rattle.std.proofs.Common.{◌≡◌, ◌++◌}
use Rattle.report_figures.specs.Subjects.{on_core}
use Rattle.report_figures.proofs.subjects.push_running.Given as goal

abbrev pub invariant-loop-core : goal.invariant-loop-core
invariant-loop-core l = l.subjects.items ≡ l.fn.subjects.items ++ on_core l.core l.task
