use Rattle.std.proofs.Common.{ℕ, List, None, ap, ◌∙◌}
use Rattle.shown_runs.specs.Pictures.{drawn_in}
use Rattle.shown_runs.proofs.Drawings.{run_pictured, with_columns}
use Rattle.shown_runs.proofs.pictures.picture_of_run.Goals as goal

pub returns : goal.returns
returns c =
    let session = c.args.session.now in
    let columns = c.as_slice.ensures ∙ c.in_ok-columns.ensures.before ∙ ap
    (λ (placed : List ℕ). (drawn_in c.args.extent placed None session session session).columns) c.no_columns.ensures.before in
    run_pictured c.args.extent session (with_columns session None _) c.in_ok-answer.answer c.answer_output.result (ap (with_columns session None) columns)
    c.in_ok-answer.ensures.picture c.answer_output.ensures
