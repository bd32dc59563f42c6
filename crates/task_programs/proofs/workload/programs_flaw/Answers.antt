use Rattle.std.proofs.Common.{◌∙◌, sym, ap, subst}
use Rattle.std.specs.Prelude.{All}
use Rattle.std.proofs.lemmas.List.{take_all}
use Rattle.std.proofs.lemmas.List.Elements.{All-more}
use Rattle.bench_types.specs.Step.{settings_of}
use Rattle.task_programs.specs.Programs.{program_flaw, IsInstructionOfWords}
use Rattle.task_programs.proofs.Flaws.{program_on}
use Rattle.task_programs.proofs.workload.programs_flaw.Goals as goal

pub loop-task-preserved : goal.loop-task-preserved
loop-task-preserved c =
    let programs = c.args.programs.now in
    let settings = settings_of c.args.header.now in
    let task = c.loop-task.task in
    let program = c.index-programs-task.result in
    record {
      value = sym (program_on settings programs task program c.loop-task-test.true c.index-programs-task.is
          (ap (program_flaw settings) (sym c.as_slice.ensures) ∙ sym c.in-None.ensures.value))
          ∙ c.loop-task.invariant.value;
      words = All-more (All IsInstructionOfWords) programs task program c.loop-task-test.true c.loop-task.invariant.words
          (subst (All IsInstructionOfWords) (c.as_slice.ensures ∙ c.index-programs-task.is) c.in-None.ensures.words);
    }

pub returns-clause-words : goal.returns-clause-words
returns-clause-words c = subst (All (All IsInstructionOfWords)) (take_all c.loop-task.task c.args.programs.now c.loop-task-test.false)
    c.loop-task.invariant.words
