use Rattle.std.proofs.Common.{◌≡◌, [], drop, take}
use Rattle.std.specs.Prelude.{All}
use Rattle.bench_types.specs.Step.{settings_of}
use Rattle.task_programs.specs.Programs.{flaw_from, IsInstructionOfWords}
use Rattle.task_programs.proofs.check.program_flaw.Given as goal

-- no instruction so far has a flaw, so that only those from here on are left to look at
abbrev pub invariant-loop-index : goal.invariant-loop-index
invariant-loop-index l =
    let settings = settings_of l.header in
    record {
      value : flaw_from settings l.program l.around l.index (drop l.index l.program) ≡ flaw_from settings l.program [] 0 l.program;
      words : All IsInstructionOfWords (take l.index l.program);
    }
