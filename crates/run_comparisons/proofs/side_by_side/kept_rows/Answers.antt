use Rattle.std.proofs.Common.{ap, ◌∙◌}
use Rattle.bench_types.specs.Session.{Session}
use Rattle.bench_model.specs.Edits.{after_edits}
use Rattle.run_comparisons.specs.Rows.{rows_of}
use Rattle.run_comparisons.specs.Shared.{kept_among}
use Rattle.run_comparisons.proofs.MadePairs.{given_within, kept_events_met, same_events}
use Rattle.run_comparisons.proofs.side_by_side.kept_rows.Goals as goal

pub side_by_side-requires-clause-within : goal.side_by_side-requires-clause-within
side_by_side-requires-clause-within c =
    let session = c.args.edited.now.session in
    let edits = c.args.edited.now.edits in
    let run = c.steps-run.ensures.steps ∙ ap (λ (one : Session). one.steps) c.session-2.ensures in
    let later = c.steps-later.ensures.steps ∙ ap (λ (one : Session). one.steps) c.session-3.ensures in
    given_within c.args.before.now.session.steps c.args.after.now.session.steps _ _ _ _
    (kept_events_met session edits c.args.before.now.session.steps c.args.after.now.session.steps c.requires.before c.requires.after) run later
    (c.as_slice-2.ensures.value ∙ c.in_ok-events.ensures ∙ same_events kept_among _ _ _ _ session.steps (after_edits session edits).steps
    c.args.before.now.session.steps c.args.after.now.session.steps _ (rows_of session edits)
    (c.steps-session.ensures.steps ∙ ap (λ (one : Session). one.steps) c.session.ensures)
    (c.steps-later_session.ensures.steps ∙ ap (λ (one : Session). one.steps) c.edited.ensures) run later
    (c.as_slice.ensures.value ∙ c.in_ok-rows.ensures))
