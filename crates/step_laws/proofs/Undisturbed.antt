-- The rules of steps that let no task wait and switch no core leave each core its task, each ready task ready, and the calls.
use Rattle.std.proofs.Common.{◌≡◌, ◌≢◌, ℕ, ◌<◌, Bool, true, false, cond, not, eqb, ltb, ◌&&◌, List, [], ◌∷◌, length, Option, Some, None, refl, sym, ap, subst, ◌∙◌, ◌||◌, arith, inl, inr}
use Rattle.std.specs.Prelude.{is_some, slice_set}
use Rattle.std.specs.Option.{option_map_or, ForSome}
use Rattle.std.specs.List.{AllByRecursion}
use Rattle.std.proofs.lemmas.Bool.Decides.{nat_tests}
use Rattle.bench_types.specs.declared.kernel_data.Hold.{Hold}
use Rattle.bench_types.specs.declared.kernel_data.QueueLook.{QueueLook}
use Rattle.bench_types.specs.declared.kernel_data.Settings.{Settings}
use Rattle.bench_types.specs.declared.kernel_data.TaskControl.{TaskControl}
use Rattle.bench_types.specs.declared.kernel_data.Waiter.{Waiter}
use Rattle.bench_types.specs.declared.note.Note.{Note}
use Rattle.bench_types.specs.declared.note.Notification.{Notification}
use Rattle.bench_types.specs.declared.reply.Reply.{Reply}
use Rattle.bench_types.specs.declared.reply.Reply.TheVariants.{Blocked, Flag, Until}
use Rattle.bench_types.specs.declared.step.BlockingCall.{BlockingCall}
use Rattle.bench_types.specs.declared.step.BlockingCall.TheVariants as blocking
use Rattle.bench_types.specs.declared.step.Direction.{Direction}
use Rattle.bench_types.specs.declared.step.Unfinished.{Unfinished}
use Rattle.bench_types.specs.declared.step.Unfinished.TheVariants.{Made}
use Rattle.bench_model.specs.ControlFields.{with_task, with_base, with_in_use, in_use_set, value_set, in_use_and_value_set}
use Rattle.bench_model.specs.Control.{Control, current, task_at, in_mask, ask_its_core}
use Rattle.bench_model.specs.Mutexes.{held_by, taken, inherited, waited_at, take_from, mutex_take, after_disinherit, disinherited, first_woken, give_from}
use Rattle.bench_model.specs.Mutexes.{mutex_give}
use Rattle.bench_model.specs.Notes.{no_note, note_at, is_received, is_waiting, notified, slot_in, slot_of, state_cleared, take_ended, unawaited, value_cleared, wait_ended}
use Rattle.bench_model.specs.Notifying.{timeout_of, notify, completed, awaited, state_forgotten, bits_cleared}
use Rattle.bench_model.specs.Queues.{can_pass, other_way, passed, queue_at, queue_called, queue_interrupted, queue_waited, with_passed}
use Rattle.bench_model.specs.Seek.{seek, wake, shares_its_time, sliced}
use Rattle.bench_model.specs.PriorityAffinity.{capped, in_use_after, yields_after_priority_set, priority_set, affinity_set, preemption_off, preemption_on}
use Rattle.bench_model.specs.Sound.{IsConsistent, IsHeldWell, IsWaiter}
use Rattle.bench_model.specs.State.{call_at, holder_at, yielded, blocked}
use Rattle.bench_model.specs.Steps.{woken, ticked, delayed_until}
use Rattle.bench_model.specs.Until.{next_wake, is_ahead, ticks_to}
use Rattle.bench_model.specs.Table.{Stamps, Table, stamp_queues, row_at, is_ready, stands_ready, wake_in, waits, add_to_ready_list, suspend, tick_count, advance, due, first_waiter, set_list_value}
use Rattle.bench_model.specs.Suspending.{awaits_note, is_slot_of, is_suspended, resume_interrupted, resumed, suspended, without_waits}
use Rattle.order_laws.proofs.FirstWaiters.{first_waiter_all}
use Rattle.bench_model.specs.Waiters.{event_list}
use Rattle.rule_laws.proofs.Mutexes.{lower_sound}
use Rattle.rule_laws.proofs.Queues.{with_passed_sound}
use Rattle.list_orders.proofs.Filters.{All-weaker, list_any_none}
use Rattle.rule_laws.proofs.Seeks.{seek_more, each_more}
use Rattle.order_laws.proofs.SeenSteps.{due_below}
use Rattle.rule_laws.proofs.PriorityAffinity.{its_core_more, after_priority_set_more, after_affinity_set_more}
use Rattle.order_laws.proofs.SoundSteps.{IsAskedMore, asked_more, add_to_ready_keeps, add_to_ready_length, suspended_length, suspended_other, suspended_ready}
use Rattle.rule_laws.proofs.Suspending.{none_at, note_here, suspended_parts, unawaited_waits, waits_length}
use Rattle.rule_laws.proofs.Notifying.{places_apart}
use Rattle.order_laws.proofs.Revalued.{awaited_revalued}
use Rattle.order_laws.proofs.SoundMutexes.{standing_same, waits_other}
use Rattle.bench_model.specs.declared.row.TaskState.TheVariants.{Ready}
use Rattle.bench_model.specs.declared.row.TaskState.TheVariants as standings
use Rattle.bench_types.specs.declared.note.NotifyAction.{NotifyAction}
use Rattle.bench_types.specs.declared.note.NoteState.TheVariants.{NotWaiting}
use Rattle.list_orders.specs.Search.{numbers}
use Rattle.list_orders.proofs.Stamped.{numbers_below, numbers_have}
use Rattle.std.proofs.lemmas.Bool.{cases_eq, cases_lt}
use Rattle.std.proofs.lemmas.List.{get_or_past, get_or-set_same, get_or-set_other, length-set}

-- a suspended task stays so where it is not ready
abbrev pub StaysAway : Table → Table → ℕ → Type 0
StaysAway table later i =
    is_suspended stamp_queues i table ≡ true → is_ready i later.orders ≡ false → is_suspended stamp_queues i later ≡ true

suspended_from : (table : Table) (i : ℕ) → is_ready i table.orders ≡ false → waits i table.orders ≡ false → awaits_note table.settings.notes i table.notes ≡ false
    → is_suspended stamp_queues i table ≡ true
unfolding is_suspended
suspended_from table i ready waiting note = grind (arith, ready, waiting, note)

pub same_away : (table later : Table) (i : ℕ) → waits i later.orders ≡ waits i table.orders →
    (awaits_note table.settings.notes i table.notes ≡ false → awaits_note later.settings.notes i later.notes ≡ false) → StaysAway table later i
same_away table later i same quiet is off =
    let parts = suspended_parts table i is in suspended_from later i off (same ∙ parts.1) (quiet parts.2)

ready_no_more : (a b : Bool) → (a ≡ true → b ≡ true) → b ≡ false → a ≡ false
ready_no_more true b keeps is = absurd (cc (keeps refl, is))
ready_no_more false b keeps is = refl

-- ---- notifications that a suspended task does not await

-- a note that is set, and the others
module _ (entries i : ℕ) (notes : List Notification) (none : awaits_note entries i notes ≡ false) where
  none_waits : (k : ℕ) → k < entries → is_waiting (note_at notes (slot_in entries i k)).state ≡ false
  none_waits k low = none_at (λ k. is_waiting (note_at notes (slot_in entries i k)).state) k (numbers entries) none (numbers_have entries k low)

  each_quiet : (later : List Notification) → ((k : ℕ) → k < entries → is_waiting (note_at later (slot_in entries i k)).state ≡ false)
      → awaits_note entries i later ≡ false
  each_quiet later quiet =
      list_any_none (λ k. is_waiting (note_at later (slot_in entries i k)).state) (numbers entries)
      (All-weaker (λ k. k < entries) (λ k. is_waiting (note_at later (slot_in entries i k)).state ≡ false) quiet (numbers entries) (numbers_below entries))

  -- one that is awaited only where it was
  quiet_set : (slot : ℕ) (x : Notification) → (is_waiting (note_at notes slot).state ≡ false → is_waiting x.state ≡ false)
      → awaits_note entries i (slice_set notes slot x) ≡ false
  quiet_set slot x keeps = each_quiet (slice_set notes slot x) (λ k low. elim (cases_eq (slot_in entries i k) slot) [
    | inl here ↦
        let was = ap (λ s. is_waiting (note_at notes s).state) (sym here) ∙ none_waits k low in
        ap (λ s. is_waiting (note_at (slice_set notes slot x) s).state) here ∙ at slot (keeps was) was
    | inr away ↦
        ap (λ (note : Notification). is_waiting note.state) (get_or-set_other notes slot (slot_in entries i k) x no_note away) ∙ none_waits k low
  ])
    where
      at : (slot : ℕ) → is_waiting x.state ≡ false → is_waiting (note_at notes slot).state ≡ false
          → is_waiting (note_at (slice_set notes slot x) slot).state ≡ false
      at slot is was = elim (cases_lt slot (length notes)) [
        | inl below ↦ ap (λ (note : Notification). is_waiting note.state) (get_or-set_same notes slot x no_note below) ∙ is
        | inr past ↦
            ap (λ (note : Notification). is_waiting note.state) (get_or_past (slice_set notes slot x) slot no_note (omega (arith, length-set notes slot x, past)))
      ]

  -- one of another task
  quiet_other : (task index : ℕ) (x : Notification) → i ≢ task → index < entries → awaits_note entries i (slice_set notes (slot_in entries task index) x) ≡ false
  quiet_other task index x other few = each_quiet (slice_set notes (slot_in entries task index) x) (λ k low.
      ap (λ (note : Notification). is_waiting note.state) (get_or-set_other notes (slot_in entries task index) (slot_in entries i k) x no_note
      (λ same. other (places_apart entries i k task index low few same).0)) ∙ none_waits k low)

-- a note of a ready task is none of a suspended one
pub quiet_entered : (table : Table) (task index : ℕ) (x : Notification) → is_ready task table.orders ≡ true → index < table.settings.notes → (i : ℕ)
    → is_suspended stamp_queues i table ≡ true → awaits_note table.settings.notes i (slice_set table.notes (slot_of table.settings task index) x) ≡ false
quiet_entered table task index x ready few i is =
    let parts = suspended_parts table i is in
    quiet_other table.settings.notes i table.notes parts.2 task index x (λ same. cc (ap (λ j. is_ready j table.orders) same, ready, parts.0)) few

pub record IsUndisturbed (table later : Table) : Type 0 where
  pub settings : later.settings ≡ table.settings
  pub currents : (c : ℕ) → current later.control c ≡ current table.control c
  pub rows : length later.orders.rows ≡ length table.orders.rows
  pub ready : (i : ℕ) → is_ready i table.orders ≡ true → is_ready i later.orders ≡ true
  pub calls : later.calls ≡ table.calls
  pub hold : later.hold ≡ table.hold
  pub away : (i : ℕ) → StaysAway table later i

pub undisturbed : (table : Table) → IsUndisturbed table table
undisturbed table = record { settings = refl; currents = λ c. refl; rows = refl; ready = λ i is. is; calls = refl; hold = refl; away = λ i. same_away table _ i refl (λ quiet. quiet) }

pub undisturbed_then : (table next last : Table) → IsUndisturbed table next → IsUndisturbed next last → IsUndisturbed table last
undisturbed_then table next last first second = record {
  settings = second.settings ∙ first.settings;
  currents = λ c. second.currents c ∙ first.currents c;
  rows = second.rows ∙ first.rows;
  ready = λ i is. second.ready i (first.ready i is);
  calls = second.calls ∙ first.calls;
  hold = second.hold ∙ first.hold;
  away = λ i is off.
      second.away i (first.away i is (ready_no_more (is_ready i next.orders) (is_ready i last.orders) (second.ready i) off)) off;
}

either_undisturbed : (table one other : Table) (b : Bool) → IsUndisturbed table one → IsUndisturbed table other → IsUndisturbed table (cond b one other)
either_undisturbed table one other true here there = here
either_undisturbed table one other false here there = there

-- asking cores
pub asked_undisturbed : (table : Table) (other : Control) → IsAskedMore table.control other → IsUndisturbed table (record table { control = other })
asked_undisturbed table other more = record { settings = refl; currents = more.currents; rows = refl; ready = λ i is. is; calls = refl; hold = refl; away = λ i. same_away table _ i refl (λ quiet. quiet) }

-- changing a control block, notifications or holders
block_undisturbed : (table : Table) (task : ℕ) (block : TaskControl) → IsUndisturbed table (record table { control = with_task task block table.control })
block_undisturbed table task block = record { settings = refl; currents = λ c. refl; rows = refl; ready = λ i is. is; calls = refl; hold = refl; away = λ i. same_away table _ i refl (λ quiet. quiet) }

pub notes_undisturbed : (table : Table) (notes : List Notification) → ((i : ℕ) → is_suspended stamp_queues i table ≡ true → awaits_note table.settings.notes i
    notes ≡ false) → IsUndisturbed table (record table { notes = notes })
notes_undisturbed table notes quiet = record {
  settings = refl;
  currents = λ c. refl;
  rows = refl;
  ready = λ i is. is;
  calls = refl;
  hold = refl;
  away = λ i is off. same_away table (record table { notes = notes }) i refl (λ none. quiet i is) is off;
}

-- one note, which is awaited only where it was
note_undisturbed : (table : Table) (slot : ℕ) (x : Notification) → (is_waiting (note_at table.notes slot).state ≡ false → is_waiting x.state ≡ false)
    → IsUndisturbed table (record table { notes = slice_set table.notes slot x })
note_undisturbed table slot x keeps =
    notes_undisturbed table (slice_set table.notes slot x)
    (λ i is. quiet_set table.settings.notes i table.notes (suspended_parts table i is).2 slot x keeps)

holders_undisturbed : (table : Table) (holders : List (Option ℕ)) → IsUndisturbed table (record table { holders = holders })
holders_undisturbed table holders = record { settings = refl; currents = λ c. refl; rows = refl; ready = λ i is. is; calls = refl; hold = refl; away = λ i. same_away table _ i refl (λ quiet. quiet) }

queues_undisturbed : (table : Table) (queues : List QueueLook) → IsUndisturbed table (record table { queues = queues })
queues_undisturbed table queues = record { settings = refl; currents = λ c. refl; rows = refl; ready = λ i is. is; calls = refl; hold = refl; away = λ i. same_away table _ i refl (λ quiet. quiet) }

pub taken_undisturbed : (task mutex : ℕ) (table : Table) → IsUndisturbed table (taken task mutex table)
unfolding taken
taken_undisturbed task mutex table = holders_undisturbed table _

readied_ready : (stamps : Stamps) (task : ℕ) → task < length stamps.rows → is_ready task (add_to_ready_list task stamps) ≡ true
unfolding add_to_ready_list
readied_ready stamps task below = ap stands_ready (standing_same stamps task Ready below)

readied_waits : (stamps : Stamps) (task : ℕ) → task < length stamps.rows → (i : ℕ) → i ≢ task → waits i (add_to_ready_list task stamps) ≡ waits i stamps
unfolding add_to_ready_list
readied_waits stamps task below i other = waits_other stamps task Ready below i other

-- making a task ready
pub readied_undisturbed : (table : Table) (task : ℕ) → task < length table.orders.rows → IsUndisturbed table
    (record table { orders = add_to_ready_list task table.orders })
readied_undisturbed table task below = record {
  settings = refl;
  currents = λ c. refl;
  rows = add_to_ready_length table.orders task below;
  ready = λ i is. add_to_ready_keeps table.orders task i below is;
  calls = refl;
  hold = refl;
  away = λ i is off. elim (cases_eq i task) [
    | inl here ↦ absurd (cc (ap (λ j. is_ready j (add_to_ready_list task table.orders)) here ∙ readied_ready table.orders task below, off))
    | inr other ↦ same_away table (record table { orders = add_to_ready_list task table.orders }) i (readied_waits table.orders task below i other) (λ quiet. quiet)
        is off
  ];
}

pub wake_undisturbed : (acting task : ℕ) (table : Table) → task < length table.orders.rows → IsUndisturbed table (wake stamp_queues acting task table)
unfolding wake
wake_undisturbed acting task table below =
    let other = seek acting task (in_mask table.control task) table.control in
    undisturbed_then table (record table { control = other }) _ (asked_undisturbed table other
    (seek_more acting task (in_mask table.control task) table.control))
    (readied_undisturbed (record table { control = other }) task below)

woken_undisturbed : (tasks : List ℕ) (table : Table) → AllByRecursion (λ task. task < length table.orders.rows) tasks → IsUndisturbed table
    (woken stamp_queues tasks table)
woken_undisturbed [] table all = undisturbed table
woken_undisturbed (task ∷ tasks) table all =
    let first = wake_undisturbed 0 task table all.0 in
    let later = wake stamp_queues 0 task table in
    undisturbed_then table later _ first (woken_undisturbed tasks later
    (All-weaker (λ i. i < length table.orders.rows) (λ i. i < length later.orders.rows) (λ i low. subst (λ n. i < n) (sym first.rows) low) tasks all.1))

advanced_undisturbed : (table : Table) → IsUndisturbed table (record table { orders = advance table.orders })
unfolding advance
advanced_undisturbed table = record { settings = refl; currents = λ c. refl; rows = refl; ready = λ i is. is; calls = refl; hold = refl; away = λ i. same_away table _ i refl (λ quiet. quiet) }

sliced_undisturbed : (table : Table) → IsUndisturbed table (sliced stamp_queues table)
unfolding sliced
sliced_undisturbed table = either_undisturbed table _ table table.settings.slicing
    (asked_undisturbed table _ (each_more 0 (shares_its_time stamp_queues table) table.control)) (undisturbed table)

pub ticked_undisturbed : (table : Table) → IsUndisturbed table (ticked stamp_queues table)
unfolding ticked
ticked_undisturbed table =
    let later = record table { orders = advance table.orders } in
    let woke = woken stamp_queues (due later.orders) later in
    undisturbed_then table woke _
    (undisturbed_then table later woke (advanced_undisturbed table) (woken_undisturbed (due later.orders) later (due_below later.orders)))
    (sliced_undisturbed woke)

notified_waits : (action : NotifyAction) (old : Notification) → is_waiting old.state ≡ false → is_waiting (notified action old).state ≡ false
unfolding notified
notified_waits action old is = refl

pub notify_undisturbed : (acting : ℕ) (note : Note) (table : Table) → note.task < length table.orders.rows → IsUndisturbed table
    (notify stamp_queues acting note table)
unfolding notify
notify_undisturbed acting note table below =
    let slot = slot_of table.settings note.task note.index in
    let old = note_at table.notes slot in
    let known = record table { notes = slice_set table.notes slot (notified note.action old) } in
    let first = note_undisturbed table slot (notified note.action old) (notified_waits note.action old) in
    either_undisturbed table (wake stamp_queues acting note.task known) known (is_waiting old.state)
    (undisturbed_then table known _ first (wake_undisturbed acting note.task known below)) first

-- calls that set something
in_use_undisturbed : (task priority : ℕ) (table : Table) → task < length table.orders.rows → IsUndisturbed table (in_use_set stamp_queues task priority table)
unfolding in_use_set
in_use_undisturbed task priority table below =
    let block = record (task_at table.control task) { in_use = priority } in
    let changed = record table { control = with_task task block table.control } in
    at (is_ready task table.orders) (block_undisturbed table task block) (readied_undisturbed changed task below)
  where
    at : (b : Bool) → IsUndisturbed table (record table { control = with_in_use task priority table.control }) → IsUndisturbed
        (record table { control = with_in_use task priority table.control })
        (record table { control = with_in_use task priority table.control; orders = add_to_ready_list task table.orders })
        → IsUndisturbed table (record table {
          control = with_in_use task priority table.control;
          orders = cond b (add_to_ready_list task table.orders)
              table.orders;
        })
    at true first second = undisturbed_then table (record table { control = with_in_use task priority table.control }) _ first second
    at false first second = first

-- another list value
value_undisturbed : (task value : ℕ) (table : Table) → IsUndisturbed table (value_set stamp_queues task value table)
unfolding set_list_value
value_undisturbed task value table =
    record {
      settings = refl;
      currents = λ c. refl;
      rows = refl;
      ready = λ i is. is;
      calls = refl;
      hold = refl;
      away = λ i. same_away table (value_set stamp_queues task value table) i
          (ap (λ list. is_some (wake_in (row_at table.orders i).standing) || is_some list)
          (awaited_revalued task value table.orders.values table.orders.waiters i))
          (λ quiet. quiet);
    }

both_undisturbed : (task priority : ℕ) (table : Table) → task < length table.orders.rows → IsUndisturbed table
    (in_use_and_value_set stamp_queues task priority table)
unfolding in_use_and_value_set
both_undisturbed task priority table below =
    let later = in_use_set stamp_queues task priority table in
    undisturbed_then table later _ (in_use_undisturbed task priority table below) (value_undisturbed task priority later)

pub priority_undisturbed : (acting task priority : ℕ) (table : Table) → task < length table.orders.rows → IsUndisturbed table
    (priority_set stamp_queues acting task priority table)
unfolding priority_set
priority_undisturbed acting task priority table below =
    let block = task_at table.control task in
    let new = capped table.settings.priorities priority in
    let based = record table { control = with_base task new table.control } in
    let raised = in_use_set stamp_queues task (in_use_after block new) based in
    let later = value_set stamp_queues task new raised in
    let ready = is_ready task table.orders in
    either_undisturbed table table _ (eqb new block.base) (undisturbed table)
    (undisturbed_then table later _
    (undisturbed_then table based later (block_undisturbed table task (record block { base = new }))
    (undisturbed_then based raised later (in_use_undisturbed task (in_use_after block new) based below) (value_undisturbed task new raised)))
    (asked_undisturbed later (yields_after_priority_set acting task block.base new ready later.control)
    (after_priority_set_more acting task block.base new ready later.control)))

pub affinity_undisturbed : (acting task mask : ℕ) (table : Table) → IsUndisturbed table (affinity_set stamp_queues acting task mask table)
unfolding affinity_set
affinity_undisturbed acting task mask table =
    let changed = record table { control = with_task task _ table.control } in
    undisturbed_then table changed _ (block_undisturbed table task _) (asked_undisturbed changed _
    (after_affinity_set_more acting task (is_ready task table.orders) changed.control))

pub off_undisturbed : (task : ℕ) (table : Table) → IsUndisturbed table (preemption_off stamp_queues task table)
unfolding preemption_off
off_undisturbed task table = block_undisturbed table task _

pub on_undisturbed : (acting task : ℕ) (table : Table) → IsUndisturbed table (preemption_on stamp_queues acting task table)
unfolding preemption_on
on_undisturbed acting task table =
    let changed = record table { control = with_task task (record (task_at table.control task) { preempt = true }) table.control } in
    undisturbed_then table changed _ (block_undisturbed table task _) (asked_undisturbed changed _ (its_core_more acting task changed.control))

-- giving a mutex
pub after_disinherit_undisturbed : (acting task priority : ℕ) (table : Table) → task < length table.orders.rows → IsUndisturbed table
    (after_disinherit stamp_queues acting task priority table)
unfolding after_disinherit
after_disinherit_undisturbed acting task priority table below =
    let later = in_use_and_value_set stamp_queues task priority table in
    either_undisturbed table table _ (eqb (task_at table.control task).in_use priority) (undisturbed table)
    (undisturbed_then table later _ (both_undisturbed task priority table below) (asked_undisturbed later _ (its_core_more acting task later.control)))

pub inherited_undisturbed : (acting holder priority : ℕ) (table : Table) → holder < length table.orders.rows → IsUndisturbed table
    (inherited stamp_queues acting holder priority table)
unfolding inherited
inherited_undisturbed acting holder priority table below =
    let later = in_use_and_value_set stamp_queues holder priority table in
    let first = both_undisturbed holder priority table below in
    either_undisturbed table _ table (ltb (task_at table.control holder).in_use priority)
    (either_undisturbed table _ later (is_ready holder table.orders) (undisturbed_then table later _ first
    (asked_undisturbed later _ (seek_more acting holder (in_mask later.control holder) later.control))) first)
    (undisturbed table)

disinherited_undisturbed : (core task : ℕ) (table : Table) → task < length table.orders.rows → IsUndisturbed table (disinherited stamp_queues core task table)
unfolding disinherited
disinherited_undisturbed core task table below =
    either_undisturbed table _ table (eqb (held_by table.holders task) 0) (after_disinherit_undisturbed core task (task_at table.control task).base table below)
    (undisturbed table)

first_woken_undisturbed : (acting mutex : ℕ) (table : Table) → IsConsistent table → IsUndisturbed table (first_woken stamp_queues acting mutex table)
unfolding first_woken
first_woken_undisturbed acting mutex table sound = at (first_waiter mutex table.orders) refl
  where
    at : (first : Option Waiter) → first_waiter mutex table.orders ≡ first → IsUndisturbed table
        (option_map_or (λ (waiter : Waiter). wake stamp_queues acting waiter.task table) first table)
    at None same = undisturbed table
    at (Some waiter) same = wake_undisturbed acting waiter.task table
        (first_waiter_all (IsWaiter table.settings table.orders) mutex table.orders waiter sound.mutexes.waits same).0

pub give_undisturbed : (core task mutex : ℕ) (table : Table) → IsConsistent table → task < length table.orders.rows → mutex < table.settings.mutexes →
    IsUndisturbed table (mutex_give stamp_queues core task mutex table).1
unfolding mutex_give
give_undisturbed core task mutex table sound below there = at (holder_at table.holders mutex)
  where
    freed : Table
    freed = record table { holders = slice_set table.holders mutex None }

    lower : Table
    lower = disinherited stamp_queues core task freed

    at : (holder : Option ℕ) → IsUndisturbed table (give_from stamp_queues holder core task mutex table).1
    at None = undisturbed table
    at (Some holder) =
        undisturbed_then table lower _
        (undisturbed_then table freed lower (holders_undisturbed table _) (disinherited_undisturbed core task freed below))
        (first_woken_undisturbed core mutex lower (lower_sound table core task mutex sound (omega (arith, sound.sized.rows)) there))

-- messages that go
pub passed_undisturbed : (core : ℕ) (direction : Direction) (queue : ℕ) (table : Table) → IsConsistent table → IsUndisturbed table
    (passed stamp_queues core direction queue table)
unfolding passed
passed_undisturbed core direction queue table sound =
    let gone = with_passed direction queue table in
    undisturbed_then table gone _ (queues_undisturbed table _)
    (first_woken_undisturbed core (event_list table.settings (other_way direction) queue) gone (with_passed_sound table direction queue sound))

pub queue_called_undisturbed : (core task : ℕ) (direction : Direction) (queue ticks : ℕ) (table : Table) → IsConsistent table →
    (not (can_pass direction (queue_at table.queues queue)) && ltb 0 ticks) ≡ false → IsUndisturbed table
    (queue_called stamp_queues core task direction queue ticks table).1
unfolding queue_called
queue_called_undisturbed core task direction queue ticks table sound goes = at (can_pass direction (queue_at table.queues queue)) (eqb ticks 0) refl goes
  where
    waits : Table
    waits = queue_waited stamp_queues core task direction queue (timeout_of ticks) table

    at : (b d : Bool) → eqb ticks 0 ≡ d → (not b && ltb 0 ticks) ≡ false → IsUndisturbed table
        (cond {A = Reply × Table} b (Flag true, passed stamp_queues core direction queue table) (cond d (Flag false, table) (Blocked, waits))).1
    at true d is goes = passed_undisturbed core direction queue table sound
    at false true none goes = undisturbed table
    at false false some goes = absurd (grind (arith, nat_tests, some, goes))

pub queue_interrupted_undisturbed : (core : ℕ) (direction : Direction) (queue : ℕ) (table : Table) → IsConsistent table → IsUndisturbed table
    (queue_interrupted stamp_queues core direction queue table).1
unfolding queue_interrupted
queue_interrupted_undisturbed core direction queue table sound =
    either_undisturbed table (passed stamp_queues core direction queue table) table (can_pass direction (queue_at table.queues queue))
    (passed_undisturbed core direction queue table sound) (undisturbed table)

-- calls that end at once
pub yielded_undisturbed : (core : ℕ) (table : Table) → core < length table.control.cores → IsUndisturbed table (yielded stamp_queues core table)
unfolding yielded
yielded_undisturbed core table low = asked_undisturbed table _ (asked_more table.control core core low)

pub until_undisturbed : (core task prev inc : ℕ) (table : Table) → core < length table.control.cores → is_ahead (tick_count table.orders) prev
    (next_wake prev inc) ≡ false → IsUndisturbed table (delayed_until stamp_queues core task prev inc table).1
unfolding delayed_until
until_undisturbed core task prev inc table low later = at (is_ahead (tick_count table.orders) prev wake) later
  where
    wake : ℕ
    wake = next_wake prev inc

    at : (b : Bool) → b ≡ false → IsUndisturbed table (cond {A = Reply × Table} b
        (Until true wake, blocked stamp_queues core task (Made (blocking.DelayUntil prev inc)) (Some (ticks_to (tick_count table.orders) wake)) None table)
        (Until false wake, yielded stamp_queues core table)).1
    at true ahead = absurd (cc (ahead))
    at false ahead = yielded_undisturbed core table low

cleared_waits : (note : Notification) → is_waiting note.state ≡ false → is_waiting (state_cleared note).1.state ≡ false
unfolding state_cleared
cleared_waits note is = at (is_received note.state)
  where
    at : (b : Bool) → is_waiting (cond b (record note { state = NotWaiting }) note).state ≡ false
    at true = refl
    at false = is

value_waits : (bits : ℕ) (note : Notification) → is_waiting note.state ≡ false → is_waiting (value_cleared bits note).1.state ≡ false
unfolding value_cleared
value_waits bits note is = is

pub forgotten_undisturbed : (task index : ℕ) (table : Table) → IsUndisturbed table (state_forgotten task index table).1
unfolding state_forgotten
forgotten_undisturbed task index table =
    let slot = slot_of table.settings task index in
    note_undisturbed table slot (state_cleared (note_at table.notes slot)).1 (cleared_waits (note_at table.notes slot))

pub bits_undisturbed : (task bits index : ℕ) (table : Table) → IsUndisturbed table (bits_cleared task bits index table).1
unfolding bits_cleared
bits_undisturbed task bits index table =
    let slot = slot_of table.settings task index in
    note_undisturbed table slot (value_cleared bits (note_at table.notes slot)).1 (value_waits bits (note_at table.notes slot))

wait_over : (exit : ℕ) (note : Notification) → is_waiting (wait_ended exit note).1.state ≡ false
unfolding wait_ended
wait_over exit note = refl

take_over : (clear : Bool) (note : Notification) → is_waiting (take_ended clear note).1.state ≡ false
unfolding take_ended
take_over clear note = refl

pub completed_undisturbed : (task : ℕ) (call : BlockingCall) (table : Table) → IsUndisturbed table (completed task call table).1
unfolding completed
completed_undisturbed task (blocking.Delay ticks) table = undisturbed table
completed_undisturbed task (blocking.DelayUntil prev inc) table = undisturbed table
completed_undisturbed task (blocking.NotifyWait entry exit ticks index) table =
    let slot = slot_of table.settings task index in
    note_undisturbed table slot (wait_ended exit (note_at table.notes slot)).1 (λ is. wait_over exit (note_at table.notes slot))
completed_undisturbed task (blocking.NotifyTake clear ticks index) table =
    let slot = slot_of table.settings task index in
    note_undisturbed table slot (take_ended clear (note_at table.notes slot)).1 (λ is. take_over clear (note_at table.notes slot))

pub timeout_undisturbed : (core task : ℕ) (call : BlockingCall) (ticks : ℕ) (entered : Bool × List Notification) (table : Table) →
    ((i : ℕ) → is_suspended stamp_queues i table ≡ true → awaits_note table.settings.notes i entered.1 ≡ false) → (entered.0 && ltb 0 ticks) ≡
    false → IsUndisturbed table (awaited stamp_queues core task call ticks entered table).1
unfolding awaited
timeout_undisturbed core task call ticks entered table quiet goes = at (entered.0 && ltb 0 ticks) goes
  where
    waiting : Table
    waiting = record table { notes = entered.1 }

    at : (b : Bool) → b ≡ false → IsUndisturbed table (cond {A = Reply × Table} b
        (Blocked, blocked stamp_queues core task (Made call) (timeout_of ticks) None waiting) (completed task call waiting)).1
    at true waits = absurd (cc (waits))
    at false ends = undisturbed_then table waiting _ (notes_undisturbed table entered.1 quiet) (completed_undisturbed task call waiting)

pub take_undisturbed : (core task mutex ticks : ℕ) (table : Table) → (is_some (holder_at table.holders mutex) && ltb 0 ticks) ≡ false → IsUndisturbed table
    (mutex_take stamp_queues core task mutex ticks table).1
unfolding mutex_take
take_undisturbed core task mutex ticks table goes = at (holder_at table.holders mutex) goes
  where
    waits : ℕ → Table
    waits holder = waited_at stamp_queues core task mutex holder (timeout_of ticks) table

    held : (holder : ℕ) (b : Bool) → eqb ticks 0 ≡ b → ltb 0 ticks ≡ false → IsUndisturbed table
        (cond {A = Reply × Table} b (Flag false, table) (Blocked, waits holder)).1
    held holder true none no_ticks = undisturbed table
    held holder false some no_ticks = absurd (grind (arith, nat_tests, some, no_ticks))

    at : (holder : Option ℕ) → (is_some holder && ltb 0 ticks) ≡ false → IsUndisturbed table (take_from stamp_queues holder core task mutex ticks table).1
    at None none = taken_undisturbed task mutex table
    at (Some holder) no_ticks = held holder (eqb ticks 0) refl no_ticks

-- a step of which the same holds, but that the task alone stays ready for sure
pub record IsCalmFor (task : ℕ) (table later : Table) : Type 0 where
  pub settings : later.settings ≡ table.settings
  pub currents : (c : ℕ) → current later.control c ≡ current table.control c
  pub rows : length later.orders.rows ≡ length table.orders.rows
  pub ready : is_ready task table.orders ≡ true → is_ready task later.orders ≡ true
  pub calls : later.calls ≡ table.calls
  pub hold : later.hold ≡ table.hold

pub calm_for : (task : ℕ) (table later : Table) → IsUndisturbed table later → IsCalmFor task table later
calm_for task table later kept = record {
  settings = kept.settings;
  currents = kept.currents;
  rows = kept.rows;
  ready = kept.ready task;
  calls = kept.calls;
  hold = kept.hold;
}

-- suspending another task
pub suspend_calm : (acting other task : ℕ) (table : Table) → other < length table.orders.rows → task ≢ other → IsCalmFor task table
    (suspended stamp_queues acting other table)
unfolding suspended
suspend_calm acting other task table below away = at (is_suspended stamp_queues other table)
  where
    gone : Table
    gone = record table {
      control = ask_its_core acting other table.control;
      notes = without_waits table.settings.notes other table.notes;
      orders = suspend other table.orders;
    }

    at : (b : Bool) → IsCalmFor task table (cond b table gone)
    at true = calm_for task table table (undisturbed table)
    at false = record {
      settings = refl;
      currents = (its_core_more acting other table.control).currents;
      rows = suspended_length table.orders other below;
      ready = λ is. suspended_other table.orders other below task away ∙ is;
      calls = refl;
      hold = refl;
    }

suspend_waits_other : (stamps : Stamps) (task : ℕ) → task < length stamps.rows → (i : ℕ) → i ≢ task → waits i (suspend task stamps) ≡ waits i stamps
unfolding suspend
suspend_waits_other stamps task below i other = waits_other stamps task (standings.Blocked None) below i other

-- nobody begins to wait for a notification where those of a task are awaited no more
still_quiet : (entries task i : ℕ) (notes : List Notification) → awaits_note entries i notes ≡ false → awaits_note entries i (without_waits entries task notes) ≡
    false
still_quiet entries task i notes none =
    each_quiet entries i notes none (without_waits entries task notes) (λ k low. elim (cases_lt (slot_in entries i k) (length notes)) [
      | inl below ↦
          ap (λ (note : Notification). is_waiting note.state) (note_here entries task notes (slot_in entries i k) below)
          ∙ at (is_slot_of entries task (slot_in entries i k)) (note_at notes (slot_in entries i k)) (none_waits entries i notes none k low)
      | inr past ↦
          ap (λ (note : Notification). is_waiting note.state)
          (get_or_past (without_waits entries task notes) (slot_in entries i k) no_note (omega (arith, waits_length entries task notes, past)))
    ])
  where
    at : (b : Bool) (note : Notification) → is_waiting note.state ≡ false → is_waiting (cond b (unawaited note) note).state ≡ false
    at true note is = unawaited_waits note
    at false note is = is

-- other tasks stay suspended where a task is suspended
pub suspend_away : (acting other : ℕ) (table : Table) → other < length table.orders.rows → (i : ℕ) → i ≢ other → StaysAway table
    (suspended stamp_queues acting other table) i
unfolding suspended
suspend_away acting other table below i away = at (is_suspended stamp_queues other table)
  where
    gone : Table
    gone = record table {
      control = ask_its_core acting other table.control;
      notes = without_waits table.settings.notes other table.notes;
      orders = suspend other table.orders;
    }

    at : (b : Bool) → StaysAway table (cond b table gone) i
    at true is off = is
    at false is off = same_away table gone i (suspend_waits_other table.orders other below i away)
        (still_quiet table.settings.notes other i table.notes) is off

-- and the unfinished calls stay
pub suspend_calls : (acting other : ℕ) (table : Table) → (suspended stamp_queues acting other table).calls ≡ table.calls
unfolding suspended
suspend_calls acting other table = at (is_suspended stamp_queues other table)
  where
    at : (b : Bool) → (cond b table (record table {
      control = ask_its_core acting other table.control;
      notes = without_waits table.settings.notes other table.notes;
      orders = suspend other table.orders;
    })).calls ≡ table.calls
    at true = refl
    at false = refl

-- each core runs the task that it ran where a task is suspended
pub suspend_currents : (acting other : ℕ) (table : Table) (c : ℕ) → current (suspended stamp_queues acting other table).control c ≡ current table.control c
unfolding suspended
suspend_currents acting other table c = at (is_suspended stamp_queues other table)
  where
    at : (b : Bool) → current (cond b table (record table {
      control = ask_its_core acting other table.control;
      notes = without_waits table.settings.notes other table.notes;
      orders = suspend other table.orders;
    })).control c ≡ current table.control c
    at true = refl
    at false = (its_core_more acting other table.control).currents c

-- a task that suspends itself is ready no more
pub suspend_waits : (acting task : ℕ) (table : Table) → task < length table.orders.rows → is_ready task (suspended stamp_queues acting task table).orders ≡ false
unfolding suspended
suspend_waits acting task table below = at (is_suspended stamp_queues task table) refl
  where
    at : (b : Bool) → is_suspended stamp_queues task table ≡ b → is_ready task (cond b table (record table {
      control = ask_its_core acting task table.control;
      notes = without_waits table.settings.notes task table.notes;
      orders = suspend task table.orders;
    })).orders ≡ false
    at true is = (suspended_parts table task is).0
    at false is = suspended_ready table.orders task below

-- resuming a task
pub resume_undisturbed : (acting task : ℕ) (table : Table) → task < length table.orders.rows → IsUndisturbed table (resumed stamp_queues acting task table)
unfolding resumed
resume_undisturbed acting task table below =
    either_undisturbed table (wake stamp_queues acting task table) table (is_suspended stamp_queues task table) (wake_undisturbed acting task table below)
    (undisturbed table)

pub resume_interrupted_undisturbed : (core task : ℕ) (table : Table) → task < length table.orders.rows → IsUndisturbed table
    (resume_interrupted stamp_queues core task table).1
unfolding resume_interrupted
resume_interrupted_undisturbed core task table below = resume_undisturbed core task table below

-- an open hold stays what it was
pub held_well : (table later : Table) (hold : Hold) → IsCalmFor (current table.control hold.core) table later → IsHeldWell table hold → IsHeldWell later hold
held_well table later hold kept well = record {
  core_below = subst (λ (s : Settings). hold.core < s.cores) (sym kept.settings) well.core_below;
  depth = well.depth;
  user = omega (arith, well.user, kept.currents hold.core, ap (λ (s : Settings). s.cores) kept.settings);
  ready = ap (λ i. is_ready i later.orders) (kept.currents hold.core) ∙ kept.ready well.ready;
  no_call = ap (call_at later.calls) (kept.currents hold.core) ∙ ap (λ (calls : List (Option Unfinished)). call_at calls (current table.control hold.core))
      kept.calls ∙ well.no_call;
}

pub hold_kept : (table later : Table) → IsUndisturbed table later → ForSome table.hold (IsHeldWell table) → ForSome later.hold (IsHeldWell later)
hold_kept table later kept held =
    λ hold is. held_well table later hold (calm_for (current table.control hold.core) table later kept) (held hold (sym kept.hold ∙ is))
