use Rattle.std.proofs.Common.{List, suc, drop, fold, ap, sym, ◌∙◌, add-one, arith}
use Rattle.std.proofs.Math.Seq.{drop-cons}
use Rattle.std.proofs.lemmas.List.{drop_all}
use Rattle.kept_edits.specs.declared.edit.WorkChange.{WorkChange}
use Rattle.kept_runs.specs.declared.clocks.Clock.{Clock}
use Rattle.kept_runs.specs.Works.{changed_work}
use Rattle.kept_works.proofs.works.with_changes.Goals as goal

pub loop-change-preserved : goal.loop-change-preserved
loop-change-preserved c =
    let changes = c.args.changes.now in
    let index = c.loop-change.change-index in
    record {
      work = rw add-one
          (ap (λ (work : Clock). fold changed_work work (drop (suc index) changes)) c.changed_work-work.ensures.work
          ∙ sym (ap (λ (rest : List WorkChange). fold changed_work c.loop-change.work rest) (drop-cons changes index _ c.loop-change-test.true))
          ∙ c.loop-change.invariant.work);
      small = c.changed_work-work.ensures.small;
    }

pub returns : goal.returns
returns c =
    sym (ap (λ (rest : List WorkChange). fold changed_work c.loop-change.work rest)
    (drop_all c.loop-change.change-index c.args.changes.now c.loop-change-test.false))
    ∙ c.loop-change.invariant.work
