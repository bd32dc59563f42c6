use Rattle.std.proofs.Common.{List, IfOk, ap, ◌∙◌}
use Rattle.bench_types.specs.Session.{Session}
use Rattle.bench_types.specs.declared.step.Step.{Step}
use Rattle.bench_model.specs.Edits.{after_edits}
use Rattle.settled_runs.specs.SettleLaws.{comes_from_outside}
use Rattle.run_comparisons.specs.declared.place_pair.PlacePair.{PlacePair}
use Rattle.run_comparisons.specs.Rows.{rows_of}
use Rattle.run_comparisons.specs.Shared.{shared_among, shared_events}
use Rattle.run_comparisons.specs.SideBySide.{first_places, AreSideBySide}
use Rattle.run_comparisons.proofs.MadePairs.{given_same, given_within, same_events, shared_met}
use Rattle.run_comparisons.proofs.side_by_side.settled_rows.Goals as goal

pub side_by_side-requires-clause-within : goal.side_by_side-requires-clause-within
side_by_side-requires-clause-within c =
    let session = c.args.edited.now.session in
    let edits = c.args.edited.now.edits in
    let run = c.steps-run.ensures.steps ∙ ap (λ (one : Session). one.steps) c.session-2.ensures in
    let later = c.steps-later.ensures.steps ∙ ap (λ (one : Session). one.steps) c.session-3.ensures in
    given_within c.args.before.now.session.steps c.args.after.now.session.steps _ _ _ _
    (shared_met session edits c.args.before.now c.args.after.now c.requires.before c.requires.after) run later
    (c.as_slice.ensures.value ∙ c.in_ok-shared.ensures ∙ same_events (shared_among comes_from_outside) _ _ _ _ session.steps
    (after_edits session edits).steps c.args.before.now.session.steps c.args.after.now.session.steps _ (rows_of session edits)
    (c.steps-session.ensures.steps ∙ ap (λ (one : Session). one.steps) c.session.ensures)
    (c.steps-later_session.ensures.steps ∙ ap (λ (one : Session). one.steps) c.edited.ensures) run later
    (c.as_slice-rows.ensures.value ∙ c.in_ok-rows.ensures))

pub returns : goal.returns
returns c =
    let session = c.args.edited.now.session in
    let edits = c.args.edited.now.edits in
    let before = c.args.before.now.session.steps in
    let after = c.args.after.now.session.steps in
    let run = c.steps-run.ensures.steps ∙ ap (λ (one : Session). one.steps) c.session-2.ensures in
    let later = c.steps-later.ensures.steps ∙ ap (λ (one : Session). one.steps) c.session-3.ensures in
    given_same (λ (one other : List Step) (events : List PlacePair).
    IfOk c.side_by_side.result (λ rows. AreSideBySide one other events first_places rows.items)) before after _ _ _ (shared_events session edits before after)
    run later
    (c.as_slice.ensures.value ∙ c.in_ok-shared.ensures ∙ same_events (shared_among comes_from_outside) _ _ _ _ session.steps
    (after_edits session edits).steps before after _ (rows_of session edits)
    (c.steps-session.ensures.steps ∙ ap (λ (one : Session). one.steps) c.session.ensures)
    (c.steps-later_session.ensures.steps ∙ ap (λ (one : Session). one.steps) c.edited.ensures) run later
    (c.as_slice-rows.ensures.value ∙ c.in_ok-rows.ensures))
    c.side_by_side.ensures
