use Rattle.std.proofs.Common.{None, ap, ◌∙◌}
use Rattle.shown_runs.specs.Pictures.{drawn_in}
use Rattle.shown_runs.proofs.Drawings.{same_pictured, with_columns}
use Rattle.shown_runs.proofs.pictures.picture_of_sessions.Goals as goal

pub returns : goal.returns
returns c =
    let extent = c.args.extent in
    let before = c.args.before.now in
    let after = c.args.after.now in
    let columns = c.as_slice.ensures ∙ c.in_ok-columns.ensures.before in
    let more = c.as_slice-2.ensures ∙ c.in_ok-columns.ensures.after in
    same_pictured extent (drawn_in extent c.args.placed.before None before after before) (drawn_in extent c.args.placed.after c.args.known before after after)
    (with_columns before None _) (with_columns after c.args.known _) c.in_ok-answer.answer c.answer_output.result (ap (with_columns before None) columns)
    (ap (with_columns after c.args.known) more) c.in_ok-answer.ensures.picture c.answer_output.ensures
