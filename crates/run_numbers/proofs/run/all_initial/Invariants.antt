use Rattle.std.proofs.Common.{◌≡◌, map, take}
use Rattle.run_numbers.specs.Progress.{first}
use Rattle.run_numbers.proofs.run.all_initial.Given as goal

abbrev pub invariant-loop-subject : goal.invariant-loop-subject
invariant-loop-subject l = l.counters.items ≡ map (first l.kernel) (take l.subject-index l.subjects)
