-- What the lists of a table show of one task.
use Rattle.std.proofs.Common.{◌≡◌, ℕ, ◌-◌, ◌<◌, Bool, cond, not, ◌&&◌, ◌||◌, length, Option, Some, None, refl, ap, ap₂, ◌∙◌, arith}
use Rattle.std.specs.Prelude.{is_some, option_map, unwrap_or}
use Rattle.bench_types.specs.declared.kernel_data.Delayed.{Delayed}
use Rattle.bench_types.specs.declared.kernel_data.TaskControl.{TaskControl}
use Rattle.bench_types.specs.declared.kernel_data.TaskLook.{TaskLook}
use Rattle.bench_types.specs.declared.note.Notification.{Notification}
use Rattle.bench_model.specs.declared.row.TaskState.{TaskState}
use Rattle.bench_model.specs.declared.row.TaskState.TheVariants.{Ready, Blocked}
use Rattle.bench_model.specs.Control.{Control, task_at}
use Rattle.bench_model.specs.Mutexes.{held_by}
use Rattle.bench_model.specs.State.{call_at}
use Rattle.bench_model.specs.Table as table
use Rattle.bench_model.specs.Table.{Stamps, Table, stamp_queues, row_at, wake_in}
use Rattle.bench_model.specs.Lists as seen
use Rattle.bench_model.specs.Lists.{list_queues, lists_of, wakes_first, view_of}
use Rattle.bench_model.specs.Suspending.{awaits_note, is_suspended}
use Rattle.bench_model.specs.Waiters.{list_awaited}
use Rattle.bench_model.specs.Looks.{ticks_left, note_look, task_look, left_in, look_in}
use Rattle.bench_model.specs.Sound.{IsConsistent}
use Rattle.order_laws.proofs.Entries.{entry_found}
use Rattle.order_laws.proofs.Restamps.{IsGiven, waits}
use Rattle.order_laws.proofs.SeenMoves.{delayed_from, is_ready_seen}

left_at : (tick task : ℕ) (standing : TaskState) → option_map (λ (entry : Delayed). entry.left)
    (cond (waits standing) (Some (record { task = task; left = unwrap_or (wake_in standing) 0 - tick })) None) ≡ option_map (λ wake. wake - tick)
    (wake_in standing)
left_at tick task Ready = refl
left_at tick task (Blocked None) = refl
left_at tick task (Blocked (Some wake)) = refl

-- the ticks left
pub left_seen : (control : Control) (stamps : Stamps) (task : ℕ) → IsGiven stamps → task < length stamps.rows → left_in task (lists_of control stamps).delayed ≡
    ticks_left task stamps
unfolding lists_of
left_seen control stamps task given below =
    ap (option_map (λ (entry : Delayed). entry.left)) (entry_found wakes_first waits (delayed_from stamps.tick) (λ e. e.task) (λ i s. refl) stamps task given
    below)
    ∙ left_at stamps.tick task (row_at stamps task).standing

some_left : (o : Option ℕ) (f : ℕ → ℕ) → is_some (option_map f o) ≡ is_some o
some_left None f = refl
some_left (Some n) f = refl

-- whether a task waits for some ticks or in an event list
pub waits_seen : (control : Control) (stamps : Stamps) (task : ℕ) → IsGiven stamps → task < length stamps.rows → seen.waits task (lists_of control stamps) ≡
    table.waits task stamps
unfolding lists_of
waits_seen control stamps task given below =
    let left = ap is_some (left_seen control stamps task given below) ∙ some_left (wake_in (row_at stamps task).standing) (λ wake. wake - stamps.tick) in
    ap (λ left. left || is_some (list_awaited task stamps.waiters)) left

-- whether it is suspended
pub suspended_seen : (table : Table) (task : ℕ) → IsConsistent table → task < table.settings.tasks → is_suspended list_queues task (view_of table) ≡
    is_suspended stamp_queues task table
unfolding is_suspended
suspended_seen table task sound low =
    let below : task < length table.orders.rows = omega (arith, sound.sized.rows, low) in
    ap₂ (λ ready waits. not ready && not waits && not (awaits_note table.settings.notes task table.notes))
    (is_ready_seen table.control table.orders task sound.stamped.given below)
    (waits_seen table.control table.orders task sound.stamped.given below)

abbrev look_from : TaskControl → Bool → Notification → ℕ → Bool → Bool → Option ℕ → TaskLook
look_from block in_call note held ready suspended left = record {
  in_use = block.in_use;
  base = block.base;
  mask = block.mask;
  preempt = block.preempt;
  ready = ready;
  suspended = suspended;
  left = left;
  held = held;
  in_call = in_call;
  value = note.value;
  state = note.state;
}

same_look : (block : TaskControl) (in_call : Bool) (note : Notification) (held : ℕ) (ready other suspended resumed : Bool) (left ticks : Option ℕ) → ready ≡ other → suspended ≡ resumed → left ≡ ticks
    → look_from block in_call note held ready suspended left ≡ look_from block in_call note held other resumed ticks
same_look block in_call note held ready other suspended resumed left ticks a b c = cc

pub look_seen : (table : Table) (task : ℕ) → IsConsistent table → task < table.settings.tasks → look_in (view_of table) task ≡ task_look table task
unfolding look_in task_look
look_seen table task sound low =
    let below : task < length table.orders.rows = omega (arith, sound.sized.rows, low) in
    same_look (task_at table.control task) (is_some (call_at table.calls task)) (note_look table task 0) (held_by table.holders task) _ _ _ _ _ _
    (is_ready_seen table.control table.orders task sound.stamped.given below)
    (suspended_seen table task sound low)
    (left_seen table.control table.orders task sound.stamped.given below)
