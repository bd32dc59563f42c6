-- A change of a session is what edits make of it, and leaves a session; so is one of a header alone.
use Rattle.std.proofs.Common.{◌≡◌, ℕ, ◌+◌, ◌-◌, ◌<◌, ◌^◌, Bool, true, cond, List, [], ◌∷◌, length, get_or, set, Result, Ok, Err, refl, ap, ap₂, ◌∙◌, arith}
use Rattle.std.specs.Prelude.{is_ok, nat_lt, swap}
use Rattle.std.specs.Result.{result_map_both}
use Rattle.std.proofs.lemmas.Bool.{and_parts}
use Rattle.std.proofs.lemmas.Bool.Decides.{nat_tests}
use Rattle.std.proofs.lemmas.List.{get_or_default, length-set}
use Rattle.std.proofs.lemmas.List.Elements.{All-from_recursion, All-nil}
use Rattle.std.proofs.lemmas.List.Sorted.{All-permutation, IsPermutation-swap}
use Rattle.bench_types.specs.declared.edit.Edit.{Edit}
use Rattle.bench_types.specs.declared.edit.Edit.TheVariants.{Replace, ChangeTask}
use Rattle.bench_types.specs.declared.edit.EditFault.{EditFault}
use Rattle.bench_types.specs.declared.edit.EditFault.TheVariants.{Bench, NoPlace, TooLong}
use Rattle.bench_types.specs.declared.fault.Fault.{Fault}
use Rattle.bench_types.specs.declared.fault.Fault.TheVariants.{BadHeader}
use Rattle.bench_types.specs.declared.header.Header.{Header}
use Rattle.bench_types.specs.declared.header.TaskArgs.{TaskArgs}
use Rattle.bench_types.specs.declared.step.Step.{Step}
use Rattle.bench_types.specs.declared.step.Step.TheVariants.{Tick}
use Rattle.bench_types.specs.Edit.{edit_check, numbers_check}
use Rattle.bench_types.specs.Header.{cores_of_mask, has_valid_numbers, IsCheckedHeader}
use Rattle.bench_types.specs.Session.{Session, IsSession}
use Rattle.bench_types.specs.Step.{settings_of, task_check, IsCheckedStep, ◌>>◌}
use Rattle.bench_types.proofs.Passes.{checked_header, has_valid_args}
use Rattle.list_orders.proofs.Filters.{list_all_each}
use Rattle.bench_model.specs.Edits.{accepted, after_edit, after_edits, args_of, edited, has_place, has_room}
use Rattle.session_laws.proofs.EditedSessions.{edited_session}
use Rattle.ranked_changes.specs.declared.change.Change.{Change}
use Rattle.ranked_changes.specs.declared.change.Change.TheVariants as change
use Rattle.ranked_changes.specs.Changed.{changed_header, changed_session, changed_steps, IsHeaderChange, IsStepChange, IsUserTask}
use Rattle.ranked_changes.specs.ChangeLaws.{edits_of, step_at, ChangesAreEdits}

-- ---- accepted edits

verdict : Result (Unit {0}) Fault → Bool → Bool → Result (Unit {0}) EditFault
verdict fits place room =
    result_map_both (λ _. tt) Bench fits >> (cond place (Ok tt) (Err NoPlace)) >> (cond room (Ok tt) (Err TooLong))

accepts : (session : Session) (edit : Edit) → edit_check session.header edit ≡ Ok tt → has_place session.steps edit ≡ true → has_room session.steps edit ≡ true
    → accepted session edit ≡ Ok tt
unfolding verdict
accepts session edit fits place room =
    ap (λ (fits : Result (Unit {0}) Fault). verdict fits (has_place session.steps edit) (has_room session.steps edit)) fits
    ∙ ap (λ (place : Bool). verdict (Ok tt) place (has_room session.steps edit)) place
    ∙ ap (λ (room : Bool). verdict (Ok tt) true room) room

after : (session : Session) (edit : Edit) → accepted session edit ≡ Ok tt → after_edit session edit ≡ edited edit session
after session edit is = ap (λ (r : Result (Unit {0}) EditFault). cond (is_ok r) (edited edit session) session) is

-- ---- changes of a task

user_checked : (header : Header) (task : ℕ) → IsUserTask header task → task_check (settings_of header) task ≡ Ok tt
user_checked header task user = grind (arith, nat_tests, user.0, user.1)

numbers_checked : (header : Header) (priority mask : ℕ) → priority < header.config.priorities → 0 < cores_of_mask header.config.cores mask → has_valid_numbers
    header.config priority mask ≡ true
numbers_checked header priority mask low some = grind (arith, nat_tests, low, some)

pub task_fits : (header : Header) (task priority mask : ℕ) → IsUserTask header task → priority < header.config.priorities → 0 < cores_of_mask header.config.cores
    mask
    → edit_check header (ChangeTask task priority mask) ≡ Ok tt
task_fits header task priority mask user low some =
    ap (λ (checked : Result (Unit {0}) Fault). checked >> numbers_check header.config priority mask) (user_checked header task user)
    ∙ ap (λ (valid : Bool). cond valid (Ok tt) (Err BadHeader)) (numbers_checked header priority mask low some)

module _ (session : Session) (is : IsSession session) (task : ℕ) (user : IsUserTask session.header task) where
  place : task - session.header.config.cores < length session.header.tasks
  place = omega (arith, user.0, user.1)

  no_args : TaskArgs
  no_args = record { name = []; priority = 0; mask = 0 }

  own : has_valid_args session.header.config (args_of session.header task) ≡ true
  own =
      let limits = checked_header session.header is.header.passes in
      All-from_recursion (λ args. has_valid_args session.header.config args ≡ true) session.header.tasks
      (list_all_each (has_valid_args session.header.config) session.header.tasks limits.args) (task - session.header.config.cores)
      (record { name = []; priority = 0; mask = 0 }) place

  own_parts : (nat_lt (args_of session.header task).priority session.header.config.priorities ≡ true) ×
      (nat_lt 0 (cores_of_mask session.header.config.cores (args_of session.header task).mask) ≡ true)
  own_parts = and_parts (nat_lt (args_of session.header task).priority session.header.config.priorities)
      (nat_lt 0 (cores_of_mask session.header.config.cores (args_of session.header task).mask)) own

  pub own_priority : (args_of session.header task).priority < session.header.config.priorities
  own_priority = grind (arith, nat_tests, own_parts.0)

  pub own_mask : 0 < cores_of_mask session.header.config.cores (args_of session.header task).mask
  own_mask = grind (arith, nat_tests, own_parts.1)

  pub own_word : (args_of session.header task).mask < 2 ^ 32
  own_word = is.header.masks (task - session.header.config.cores) (record { name = []; priority = 0; mask = 0 }) place

  pub task_accepted : (priority mask : ℕ) → priority < session.header.config.priorities → 0 < cores_of_mask session.header.config.cores mask
      → accepted session (ChangeTask task priority mask) ≡ Ok tt
  task_accepted priority mask low some = accepts session (ChangeTask task priority mask) (task_fits session.header task priority mask user low some) refl refl

-- ---- exchanges

set_twice : (steps : List Step) (first second : ℕ) → first < length steps → second < length steps
    → set (set steps first (get_or steps second Tick)) second (get_or steps first Tick) ≡ swap steps first second
set_twice [] first second one two = absurd (omega arith)
set_twice (step ∷ steps) first second one two =
    let all : List Step = step ∷ steps in
    ap₂ (λ (at_first at_second : Step). set (set all first at_first) second at_second) (get_or_default all second Tick step two)
    (get_or_default all first Tick step one)

replaced : (session : Session) (at : ℕ) (step : Step) → IsCheckedStep (settings_of session.header) step → at < length session.steps → after_edit session
    (Replace at step) ≡ edited (Replace at step) session
replaced session at step checked within =
    after session (Replace at step) (accepts session (Replace at step) checked.passes (grind (arith, nat_tests, within)) refl)

exchanged : (session : Session) (first second : ℕ) → IsSession session → first < length session.steps → second < length session.steps
    → after_edits session (edits_of session (change.Order first second)) ≡ changed_session session (change.Order first second)
exchanged session first second is one two =
    let there = step_at session.steps second in
    let here = step_at session.steps first in
    let next : Session = edited (Replace first there) session in
    let still : second < length next.steps = omega (arith, length-set session.steps first there) in
    ap (λ (reached : Session). after_edit reached (Replace second here)) (replaced session first there (is.steps second Tick two) one)
    ∙ replaced next second here (is.steps first Tick one) still
    ∙ ap (λ (steps : List Step). record session { steps = steps }) (set_twice session.steps first second one two)

-- ---- all

pub changes_are_edits : ChangesAreEdits
changes_are_edits session (change.Priority task priority) is (allowed, _) =
    after session (ChangeTask task priority (args_of session.header task).mask)
    (task_accepted session is task allowed.0 priority (args_of session.header task).mask allowed.1 (own_mask session is task allowed.0))
changes_are_edits session (change.Mask task mask) is (allowed, _) =
    after session (ChangeTask task (args_of session.header task).priority mask)
    (task_accepted session is task allowed.0 (args_of session.header task).priority mask (own_priority session is task allowed.0) allowed.1)
changes_are_edits session (change.Order first second) is (_, places) = exchanged session first second is places.0 places.1

pub session_kept : (session : Session) (made : Change) → IsSession session → IsHeaderChange session.header made → IsStepChange session.steps made
    → IsSession (changed_session session made)
session_kept session (change.Priority task priority) is allowed any =
    edited_session session (ChangeTask task priority (args_of session.header task).mask) is (own_word session is task allowed.0)
    (task_accepted session is task allowed.0 priority (args_of session.header task).mask allowed.1 (own_mask session is task allowed.0))
session_kept session (change.Mask task mask) is allowed any =
    edited_session session (ChangeTask task (args_of session.header task).priority mask) is allowed.2
    (task_accepted session is task allowed.0 (args_of session.header task).priority mask (own_priority session is task allowed.0) allowed.1)
session_kept session (change.Order first second) is any places = record {
  header = is.header;
  steps = All-permutation (IsCheckedStep (settings_of session.header)) session.steps (swap session.steps first second)
      (IsPermutation-swap session.steps (swap session.steps first second) first second places.0 places.1 refl) is.steps;
}

-- a header with a change made is one
pub header_kept : (header : Header) (made : Change) → IsCheckedHeader header → IsHeaderChange header made → IsCheckedHeader (changed_header header made)
header_kept header (change.Priority task priority) is allowed =
    (session_kept (record { header = header; steps = [] }) (change.Priority task priority)
    (record { header = is; steps = All-nil (IsCheckedStep (settings_of header)) }) allowed tt).header
header_kept header (change.Mask task mask) is allowed =
    (session_kept (record { header = header; steps = [] }) (change.Mask task mask)
    (record { header = is; steps = All-nil (IsCheckedStep (settings_of header)) }) allowed tt).header
header_kept header (change.Order first second) is allowed = is

-- ---- what stays

pub settings_kept : (header : Header) (made : Change) → settings_of (changed_header header made) ≡ settings_of header
settings_kept header (change.Priority task priority) =
    ap (λ (count : ℕ). record (settings_of header) { tasks = header.config.cores + count })
    (length-set header.tasks (task - header.config.cores) (record (args_of header task) { priority = priority }))
settings_kept header (change.Mask task mask) =
    ap (λ (count : ℕ). record (settings_of header) { tasks = header.config.cores + count })
    (length-set header.tasks (task - header.config.cores) (record (args_of header task) { mask = mask }))
settings_kept header (change.Order first second) = refl

pub steps_kept : (steps : List Step) (made : Change) → length (changed_steps steps made) ≡ length steps
steps_kept steps (change.Priority task priority) = refl
steps_kept steps (change.Mask task mask) = refl
steps_kept [] (change.Order first second) = refl
steps_kept (step ∷ steps) (change.Order first second) =
    let all : List Step = step ∷ steps in
    length-set (set all first (get_or all second step)) second (get_or all first step) ∙ length-set all first (get_or all second step)

pub tasks_kept : (header : Header) (made : Change) → length (changed_header header made).tasks ≡ length header.tasks
tasks_kept header (change.Priority task priority) =
    length-set header.tasks (task - header.config.cores) (record (args_of header task) { priority = priority })
tasks_kept header (change.Mask task mask) = length-set header.tasks (task - header.config.cores) (record (args_of header task) { mask = mask })
tasks_kept header (change.Order first second) = refl

pub queues_kept : (header : Header) (made : Change) → (changed_header header made).queues ≡ header.queues
queues_kept header (change.Priority task priority) = refl
queues_kept header (change.Mask task mask) = refl
queues_kept header (change.Order first second) = refl
