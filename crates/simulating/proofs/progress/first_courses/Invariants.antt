use Rattle.std.proofs.Common.{◌≡◌, map, take}
use Rattle.workload_runs.specs.Courses.{first_course}
use Rattle.simulating.proofs.progress.first_courses.Given as goal

abbrev pub invariant-loop-program : goal.invariant-loop-program
invariant-loop-program l = l.courses.items ≡ map (first_course l.tick) (take l.program-index l.programs)
