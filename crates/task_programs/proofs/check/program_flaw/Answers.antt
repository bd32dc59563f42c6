use Rattle.std.proofs.Common.{get_or, ◌∙◌, sym, ap, subst, drop, ◌+◌}
use Rattle.std.specs.Prelude.{All}
use Rattle.std.proofs.lemmas.List.{take_all}
use Rattle.std.proofs.lemmas.List.Elements.{All-more}
use Rattle.bench_types.specs.Step.{settings_of}
use Rattle.task_programs.specs.declared.instruction.Instruction.TheVariants.{Work}
use Rattle.task_programs.specs.Programs.{flaw_from, IsInstructionOfWords}
use Rattle.task_programs.proofs.Flaws.{flaw_on, room_for}
use Rattle.task_programs.proofs.check.program_flaw.Goals as goal

pub pass-requires-clause-room : goal.pass-requires-clause-room
pass-requires-clause-room c =
    let program = c.args.program.now in
    room_for (settings_of c.args.header.now) program c.loop-index.around c.loop-index.index (get_or program c.loop-index.index (Work 0 0))
    (sym c.in-None.ensures.value)

pub loop-index-preserved : goal.loop-index-preserved
loop-index-preserved c =
    let program = c.args.program.now in
    let settings = settings_of c.args.header.now in
    let index = c.loop-index.index in
    record {
      value = ap (λ around. flaw_from settings program around (index + 1) (drop (index + 1) program)) c.pass.ensures
          ∙ sym (flaw_on settings program c.loop-index.around index (Work 0 0) c.loop-index-test.true (sym c.in-None.ensures.value))
          ∙ c.loop-index.invariant.value;
      words = All-more IsInstructionOfWords program index (Work 0 0) c.loop-index-test.true c.loop-index.invariant.words c.in-None.ensures.words;
    }

pub returns-then-is_nothing-clause-words : goal.returns-then-is_nothing-clause-words
returns-then-is_nothing-clause-words c = subst (All IsInstructionOfWords) (take_all c.loop-index.index c.args.program.now c.loop-index-test.false)
    c.loop-index.invariant.words
