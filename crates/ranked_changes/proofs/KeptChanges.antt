-- A change of a session with edits, whose run keeps work, is one edit more.
use Rattle.std.proofs.Common.{◌≡◌, ℕ, Bool, true, false, cond, List, [], ◌∷◌, ◌++◌, map, Ok, refl, sym, ap, ◌∙◌, arith}
use Rattle.std.specs.Prelude.{All, is_ok}
use Rattle.std.specs.Option.{option_to_list}
use Rattle.std.proofs.lemmas.List.Elements.{All-append, All-cons, All-nil, filter_map-append}
use Rattle.bench_types.specs.declared.edit.Edit.{Edit}
use Rattle.bench_types.specs.declared.edit.Edit.TheVariants.{Insert, Remove, Replace, ChangeTask}
use Rattle.bench_types.specs.Edit.{edit_check, numbers_check, IsCheckedEdit}
use Rattle.bench_types.specs.Session.{IsSession, Session}
use Rattle.bench_types.specs.Step.{settings_of, task_check, ◌>>◌}
use Rattle.bench_model.specs.Edits.{accepted, after_edit, after_edits, args_of, edited}
use Rattle.kept_edits.specs.declared.edit.KeptEdit.{KeptEdit}
use Rattle.kept_edits.specs.declared.edit.KeptEdit.TheVariants.{Plain}
use Rattle.kept_edits.specs.Edits.{plain_edit, plain_edits}
use Rattle.kept_runs.specs.Items.{edited_session}
use Rattle.kept_edits.specs.Edits.{IsKeptEdit}
use Rattle.kept_works.proofs.Edited.{settings_kept}
use Rattle.kept_sessions.specs.Sessions.{KeptView}
use Rattle.ranked_changes.specs.declared.change.Change.{Change}
use Rattle.ranked_changes.specs.declared.change.Change.TheVariants as change
use Rattle.ranked_changes.specs.Changed.{changed_kept, changed_session, edit_of, IsHeaderChange, IsStepChange}
use Rattle.ranked_changes.proofs.ChangedSessions.{changes_are_edits, own_mask, own_priority, own_word, task_fits}

-- ---- edits, one after another

after_all : (session : Session) (edits more : List Edit) → after_edits session (edits ++ more) ≡ after_edits (after_edits session edits) more
after_all session [] more = refl
after_all session (edit ∷ edits) more = after_all (after_edit session edit) edits more

edited_config : (edit : Edit) (session : Session) → (edited edit session).header.config ≡ session.header.config
edited_config (Insert at step) session = refl
edited_config (Remove at) session = refl
edited_config (Replace at step) session = refl
edited_config (ChangeTask task priority mask) session = refl

-- edits leave the configuration
config_kept : (session : Session) (edits : List Edit) → (after_edits session edits).header.config ≡ session.header.config
config_kept session [] = refl
config_kept session (edit ∷ edits) = config_kept (after_edit session edit) edits ∙ at (is_ok (accepted session edit))
  where
    at : (b : Bool) → (cond b (edited edit session) session).header.config ≡ session.header.config
    at true = edited_config edit session
    at false = refl

plain_more : (edits : List KeptEdit) (more : List Edit) → plain_edits (edits ++ map Plain more) ≡ plain_edits edits ++ more
plain_more edits more = filter_map-append plain_edit edits (map Plain more) ∙ ap (λ own. plain_edits edits ++ own) (same more)
  where
    same : (more : List Edit) → plain_edits (map Plain more) ≡ more
    same [] = refl
    same (edit ∷ more) = ap (λ more. edit ∷ more) (same more)

module _ (made : KeptView) where
  abbrev after : Session
  after = edited_session made.session made.edits

  -- an edit that changes a task as the edited header allows is one of the header before the edits
  before_too : (task priority mask : ℕ) → edit_check after.header (ChangeTask task priority mask) ≡ Ok tt
      → edit_check made.session.header (ChangeTask task priority mask) ≡ Ok tt
  before_too task priority mask fits =
      (λ i. task_check (sym (settings_kept made.session (plain_edits made.edits)) i) task
      >> numbers_check (sym (config_kept made.session (plain_edits made.edits)) i) priority mask)
      ∙ fits

  one_checked : (edit : Edit) → IsCheckedEdit made.session.header edit → All (IsKeptEdit made.session.header) made.edits
      → All (IsKeptEdit made.session.header) (made.edits ++ Plain edit ∷ [])
  one_checked edit checked all =
      All-append (IsKeptEdit made.session.header) made.edits (Plain edit ∷ []) all
      (All-cons (IsKeptEdit made.session.header) (Plain edit) [] checked (All-nil (IsKeptEdit made.session.header)))

  pub edits_checked : (change : Change) → IsSession after → IsHeaderChange after.header change → All (IsKeptEdit made.session.header) made.edits
      → All (IsKeptEdit made.session.header) (changed_kept made change).edits
  edits_checked (change.Priority task priority) is allowed all =
      one_checked (ChangeTask task priority (args_of after.header task).mask)
      (record {
        passes = before_too task priority (args_of after.header task).mask
            (task_fits after.header task priority (args_of after.header task).mask allowed.0 allowed.1 (own_mask after is task allowed.0));
        words = own_word after is task allowed.0;
      }) all
  edits_checked (change.Mask task mask) is allowed all =
      one_checked (ChangeTask task (args_of after.header task).priority mask)
      (record {
        passes = before_too task (args_of after.header task).priority mask
            (task_fits after.header task (args_of after.header task).priority mask allowed.0 (own_priority after is task allowed.0) allowed.1);
        words = allowed.2;
      }) all
  edits_checked (change.Order first second) is allowed all =
      All-append (IsKeptEdit made.session.header) made.edits [] all (All-nil (IsKeptEdit made.session.header))

  -- the edited session has the change
  pub change_made : (own : Change) → IsSession after → IsHeaderChange after.header own → IsStepChange [] own
      → edited_session made.session (changed_kept made own).edits ≡ changed_session after own
  change_made own is allowed places =
      ap (after_edits made.session) (plain_more made.edits (option_to_list (edit_of after.header own)))
      ∙ after_all made.session (plain_edits made.edits) (option_to_list (edit_of after.header own)) ∙ by own allowed places
    where
      by : (one : Change) → IsHeaderChange after.header one → IsStepChange [] one
          → after_edits after (option_to_list (edit_of after.header one)) ≡ changed_session after one
      by (change.Priority task priority) allowed any = changes_are_edits after (change.Priority task priority) is (allowed, tt)
      by (change.Mask task mask) allowed any = changes_are_edits after (change.Mask task mask) is (allowed, tt)
      by (change.Order first second) allowed places = absurd (let low = places.0 in omega (arith, low))

  pub same_settings : (change : Change)
      → settings_of (edited_session made.session (changed_kept made change).edits).header ≡ settings_of after.header
  same_settings change =
      settings_kept made.session (plain_edits (changed_kept made change).edits) ∙ sym (settings_kept made.session (plain_edits made.edits))
