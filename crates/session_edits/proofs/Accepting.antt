-- What a checked edit is refused for, and that edits which were checked stay so.
use Rattle.std.proofs.Common.{◌≡◌, ℕ, ◌+◌, ◌-◌, Bool, true, false, List, get_or, Result, Ok, Err, refl, ap, ◌∙◌}
use Rattle.std.specs.Prelude.{All, is_ok, if◌then◌else◌}
use Rattle.std.proofs.Math.ListN.{length-set}
use Rattle.bench_types.specs.declared.edit.Edit.{Edit}
use Rattle.bench_types.specs.declared.edit.Edit.TheVariants.{Insert, Remove, Replace, ChangeTask}
use Rattle.bench_types.specs.declared.edit.EditFault.{EditFault}
use Rattle.bench_types.specs.declared.header.Header.{Header}
use Rattle.bench_types.specs.declared.kernel_data.Settings.{Settings}
use Rattle.bench_types.specs.Edit.{edit_check, numbers_check, IsCheckedEdit, IsEditOfWords}
use Rattle.bench_types.specs.Session.{IsCheckedSession, Session}
use Rattle.bench_types.specs.Step.{settings_of, step_check, task_check, ◌>>◌}
use Rattle.bench_model.specs.Edits.{accepted, after_edit, args_of, changed, edited}
use Rattle.session_laws.proofs.EditedSessions.{edited_room, edited_session}

-- the session after an accepted edit, and after one that is refused
pub session_is : (session : Session) (edit : Edit) → accepted session edit ≡ Ok tt → after_edit session edit ≡ edited edit session
session_is session edit accepts = ap (λ (check : Result (Unit {0}) EditFault). if is_ok check then edited edit session else session) accepts

pub session_not : (session : Session) (edit : Edit) (why : EditFault) → accepted session edit ≡ Err why → after_edit session edit ≡ session
session_not session edit why refuses = ap (λ (check : Result (Unit {0}) EditFault). if is_ok check then edited edit session else session) refuses

-- a changed task leaves the settings
same_settings : (header : Header) (task priority mask : ℕ) → settings_of (changed task priority mask header) ≡ settings_of header
same_settings header task priority mask =
    ap (λ (count : ℕ). record (settings_of header) { tasks = header.config.cores + count })
    (length-set header.tasks (task - header.config.cores) (record (args_of header task) { priority = priority; mask = mask }))

changed_check : (header : Header) (task priority mask : ℕ) (edit : Edit) → edit_check (changed task priority mask header) edit ≡ edit_check header edit
changed_check header task priority mask (Insert at step) = ap (λ (settings : Settings). step_check settings step) (same_settings header task priority mask)
changed_check header task priority mask (Remove at) = refl
changed_check header task priority mask (Replace at step) = ap (λ (settings : Settings). step_check settings step) (same_settings header task priority mask)
changed_check header task priority mask (ChangeTask other rank cores) =
    ap (λ (settings : Settings). task_check settings other >> numbers_check header.config rank cores) (same_settings header task priority mask)

edited_check : (session : Session) (made edit : Edit) → edit_check (edited made session).header edit ≡ edit_check session.header edit
edited_check session (Insert at step) edit = refl
edited_check session (Remove at) edit = refl
edited_check session (Replace at step) edit = refl
edited_check session (ChangeTask task priority mask) edit = changed_check session.header task priority mask edit

-- the check of an edit is the same after another edit
after_check : (session : Session) (made edit : Edit) → edit_check (after_edit session made).header edit ≡ edit_check session.header edit
after_check session made edit = at (is_ok (accepted session made))
  where
    at : (b : Bool) → edit_check (if b then edited made session else session).header edit ≡ edit_check session.header edit
    at true = edited_check session made edit
    at false = refl

pub still_checked : (session : Session) (made : Edit) (edits : List Edit) → All (IsCheckedEdit session.header) edits → All
    (IsCheckedEdit (after_edit session made).header) edits
still_checked session made edits checked = λ k d within. record {
  passes = after_check session made (get_or edits k d) ∙ (checked k d within).passes;
  words = (checked k d within).words;
}

-- an accepted edit of a session that was checked leaves one
pub edited_checked : (session : Session) (edit : Edit) → IsCheckedSession session → IsEditOfWords edit → accepted session edit ≡ Ok tt → IsCheckedSession
    (edited edit session)
edited_checked session edit is words accepts = record {
  checked = edited_session session edit is.checked words accepts;
  few = edited_room session edit is.few accepts;
}
