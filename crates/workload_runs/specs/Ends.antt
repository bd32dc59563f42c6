-- Which tasks are at the end of their programs when the run of a workload ends.
use Rattle.std.specs.Prelude.{Bool, nat_le, List, length, map}
use Rattle.bench_types.specs.declared.step.Step.{Step}
use Rattle.list_orders.specs.Search.{numbers}
use Rattle.task_programs.specs.declared.instruction.Instruction.{Instruction}
use Rattle.task_programs.specs.declared.workload.Workload.{Workload}
use Rattle.workload_runs.specs.Courses.{Course}
use Rattle.workload_runs.specs.Situations.{Situation, course_at, program_at, situation_at}

-- the walk of the task is behind the last instruction of its program
abbrev pub is_at_end : List Instruction → Course → Bool
is_at_end program course = nat_le (length program) course.walk.index

-- of each user task, in the order of the header, whether it is at the end of its program
abbrev pub ends_in : Workload → Situation → List Bool
ends_in workload now =
    map (λ user. is_at_end (program_at workload user) (course_at now.courses user))
    (numbers (length workload.header.tasks))

-- the same where the run ends
abbrev pub ends_of : Workload → List Step → List Bool
ends_of workload run = ends_in workload (situation_at workload run (length run))
