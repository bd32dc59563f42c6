use Rattle.std.proofs.Common.{◌≡◌, All, List, ap, sym, subst, ◌∙◌}
use Rattle.bench_types.specs.declared.edit.Edit.{Edit}
use Rattle.bench_types.specs.declared.kernel_data.Settings.{Settings}
use Rattle.bench_types.specs.Edit.{IsCheckedEdit}
use Rattle.bench_types.specs.Session.{Session}
use Rattle.bench_types.specs.Step.{settings_of}
use Rattle.bench_model.specs.Edits.{after_edits}
use Rattle.session_edits.specs.Edited.{EditedView}
use Rattle.kept_edits.specs.Edits.{plain_edits}
use Rattle.kept_runs.specs.Items.{edited_session}
use Rattle.keeping.specs.Progress.{IsComing}
use Rattle.keeping.specs.Works.{IsUnmade}
use Rattle.kept_works.proofs.Edited.{settings_kept}
use Rattle.known_tests.proofs.Made.{end_is, plain_checked}
use Rattle.known_tests.proofs.sample.known_after.Goals as goal

pub make-requires : goal.make-requires
make-requires c =
    let session = c.args.session.now in
    subst (λ (own : Session). All (IsCheckedEdit own.header) c.in_ok-plain.plain.items) (sym c.in_ok-copy.ensures)
    (subst (λ (edits : List Edit). All (IsCheckedEdit session.header) edits) (sym c.in_ok-plain.ensures)
    (plain_checked session.header c.args.edits.now c.requires))

pub keep_run-requires-clause-unmade : goal.keep_run-requires-clause-unmade
keep_run-requires-clause-unmade c =
    let session = c.args.session.now in
    let edits = c.args.edits.now in
    let made : c.edited-2.result.now ≡ edited_session session edits
    = c.edited-2.ensures ∙ ap (λ (view : EditedView). after_edits view.session view.edits) c.in_ok-edited.ensures
    ∙ (λ i. after_edits (c.in_ok-copy.ensures i) (c.in_ok-plain.ensures i)) in
    let header = c.header-header.ensures.header ∙ ap (λ (session : Session). session.header) made in
    subst (λ (settings : Settings). All (IsUnmade settings) c.in_ok-works.works.unmade.items)
    (sym (settings_kept session (plain_edits edits)) ∙ ap settings_of (sym header)) c.in_ok-works.ensures.fit

pub keep_run-requires-clause-outside : goal.keep_run-requires-clause-outside
keep_run-requires-clause-outside c =
    let session = c.args.session.now in
    let edits = c.args.edits.now in
    let made : c.edited-2.result.now ≡ edited_session session edits
    = c.edited-2.ensures ∙ ap (λ (view : EditedView). after_edits view.session view.edits) c.in_ok-edited.ensures
    ∙ (λ i. after_edits (c.in_ok-copy.ensures i) (c.in_ok-plain.ensures i)) in
    let header = c.header-header.ensures.header ∙ ap (λ (session : Session). session.header) made in
    subst (λ (settings : Settings). All (IsComing settings) c.in_ok-works.works.outside.items)
    (sym (settings_kept session (plain_edits edits)) ∙ ap settings_of (sym header)) c.in_ok-works.ensures.comings

pub known_until-requires-clause-end : goal.known_until-requires-clause-end
known_until-requires-clause-end c =
    let session = c.args.session.now in
    let edits = c.args.edits.now in
    let made : c.edited-2.result.now ≡ edited_session session edits
    = c.edited-2.ensures ∙ ap (λ (view : EditedView). after_edits view.session view.edits) c.in_ok-edited.ensures
    ∙ (λ i. after_edits (c.in_ok-copy.ensures i) (c.in_ok-plain.ensures i)) in
    let header = c.header-header.ensures.header ∙ ap (λ (session : Session). session.header) made in
    c.in_ok-kept.ensures.end
    ∙ end_is _ session edits c.in_ok-settled.settled.session.steps c.in_ok-kept.kept.run.session.steps c.header-header.result.now
    c.in_ok-works.works.unmade.items c.in_ok-works.works.outside.items header c.in_ok-works.ensures.unmade c.in_ok-works.ensures.outside
