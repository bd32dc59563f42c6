use Rattle.std.proofs.Common.{◌∙◌, sym, subst}
use Rattle.std.specs.Prelude.{All}
use Rattle.std.proofs.lemmas.List.{take_all}
use Rattle.std.proofs.lemmas.List.Elements.{All-more}
use Rattle.bench_types.specs.Step.{settings_of}
use Rattle.task_programs.specs.Workloads.{IsInterruptOfWords}
use Rattle.task_programs.proofs.Flaws.{interrupt_on}
use Rattle.task_programs.proofs.workload.interrupts_flaw.Goals as goal

pub loop-index-preserved : goal.loop-index-preserved
loop-index-preserved c =
    let settings = settings_of c.args.header.now in
    record {
      value = sym (interrupt_on settings c.args.interrupts.now c.loop-index.index _ c.loop-index-test.true (sym c.in-None.ensures.value))
          ∙ c.loop-index.invariant.value;
      words = All-more IsInterruptOfWords c.args.interrupts.now c.loop-index.index _ c.loop-index-test.true c.loop-index.invariant.words
          c.in-None.ensures.words;
    }

pub returns-clause-words : goal.returns-clause-words
returns-clause-words c = subst (All IsInterruptOfWords) (take_all c.loop-index.index c.args.interrupts.now c.loop-index-test.false)
    c.loop-index.invariant.words
