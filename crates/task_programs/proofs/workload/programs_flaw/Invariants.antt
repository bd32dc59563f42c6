use Rattle.std.proofs.Common.{◌≡◌, drop, take}
use Rattle.std.specs.Prelude.{All}
use Rattle.bench_types.specs.Step.{settings_of}
use Rattle.task_programs.specs.Programs.{IsInstructionOfWords}
use Rattle.task_programs.specs.Workloads.{programs_flaw}
use Rattle.task_programs.proofs.workload.programs_flaw.Given as goal

-- no program so far has a flaw
abbrev pub invariant-loop-task : goal.invariant-loop-task
invariant-loop-task l =
    let settings = settings_of l.header in
    record {
      value : programs_flaw settings l.task (drop l.task l.programs) ≡ programs_flaw settings 0 l.programs;
      words : All (All IsInstructionOfWords) (take l.task l.programs);
    }
