use Rattle.std.proofs.Common.{◌≡◌, drop, take}
use Rattle.std.specs.Prelude.{All}
use Rattle.bench_types.specs.Step.{settings_of}
use Rattle.task_programs.specs.Workloads.{interrupts_flaw, IsInterruptOfWords}
use Rattle.task_programs.proofs.workload.interrupts_flaw.Given as goal

-- no interrupt so far has a flaw
abbrev pub invariant-loop-index : goal.invariant-loop-index
invariant-loop-index l =
    let settings = settings_of l.header in
    record {
      value : interrupts_flaw settings l.index (drop l.index l.interrupts) ≡ interrupts_flaw settings 0 l.interrupts;
      words : All IsInterruptOfWords (take l.index l.interrupts);
    }
