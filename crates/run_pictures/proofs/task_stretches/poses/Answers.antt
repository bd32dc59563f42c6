use Rattle.std.proofs.Common.{◌≡◌, ◌∙◌, ap, subst, sym}
use Rattle.std.specs.Prelude.{IfOk}
use Rattle.run_pictures.specs.Poses.{openings, detailed_stretches}
use Rattle.run_pictures.specs.RowStretches.{Row}
use Rattle.run_pictures.specs.TaskStretches.{stance_stretches}
use Rattle.run_pictures.proofs.task_stretches.poses.Goals as goal

pub returns-in_ok-stances-in-FirstPlace : goal.returns-in_ok-stances-in-FirstPlace
returns-in_ok-stances-in-FirstPlace c =
    let first = c.args.first in
    let looks = c.args.looks.now in
    let task = c.args.task in
    let stances : c.as_slice.result.now ≡ stance_stretches first looks task =
    c.as_slice.ensures.value ∙ c.in_ok-stances-in-FirstPlace.ensures ∙ ap (λ (row : Row). row.stances) (c.row.view_is ∙ c.requires.row) in
    subst (λ detail. IfOk c.openings.result (λ stretches. stretches.items ≡ detailed_stretches detail first looks task)) (sym c.in-FirstPlace.is)
    (subst (λ stretches. IfOk c.openings.result (λ poses. poses.items ≡ openings first looks task stretches)) stances c.openings.ensures)
