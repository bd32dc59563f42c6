-- Interrupts that notify, and the calls that clear, await and take notifications: as lists, and that soundness stays.
use Rattle.std.proofs.Common.{◌≡◌, ℕ, ◌-◌, ◌<◌, ◌≤◌, ◌^◌, Bool, true, false, cond, eqb, ltb, ◌&&◌, List, length, Some, None, refl, ap, arith}
use Rattle.std.specs.Prelude.{slice_set}
use Rattle.std.specs.Int.{w32, bit_not}
use Rattle.std.proofs.lemmas.Bool.Decides.{nat_tests}
use Rattle.std.proofs.lemmas.Nat.{and_le_l}
use Rattle.bench_types.specs.declared.note.Note.{Note}
use Rattle.bench_types.specs.declared.note.Notification.{Notification}
use Rattle.bench_types.specs.declared.note.NoteState.TheVariants.{NotWaiting, Waiting}
use Rattle.bench_types.specs.declared.reply.Reply.{Reply}
use Rattle.bench_types.specs.declared.reply.Reply.TheVariants.{Blocked, Isr}
use Rattle.bench_types.specs.declared.step.Unfinished.TheVariants.{Made}
use Rattle.bench_types.specs.declared.step.BlockingCall.{BlockingCall}
use Rattle.bench_types.specs.declared.step.BlockingCall.TheVariants as calls
use Rattle.bench_types.specs.Step.{IsNotifyActionOfWord, IsCheckedCall, as_call}
use Rattle.bench_model.specs.Control.{core_at}
use Rattle.bench_model.specs.Notes.{note_at, is_received, without_bits, wait_entered, wait_ended, take_entered, take_ended, state_cleared, value_cleared}
use Rattle.bench_model.specs.Notes.{slot_of}
use Rattle.bench_model.specs.Notifying.{timeout_of, is_passed, interrupted, state_forgotten, bits_cleared, completed, awaited}
use Rattle.bench_model.specs.State.{State, blocked}
use Rattle.bench_model.specs.Table.{Table, stamp_queues, is_ready}
use Rattle.bench_model.specs.Lists.{View, list_queues, view_of}
use Rattle.bench_model.specs.Lists.{seen_of}
use Rattle.bench_model.specs.Sound.{IsCaller, IsConsistent, IsWait, IsEventTime}
use Rattle.rule_laws.proofs.Notifying.{notify_seen, notify_sound, ruled_sound}
use Rattle.order_laws.proofs.SeenSteps.{blocked_seen}
use Rattle.order_laws.proofs.SoundSteps.{blocked_sound}

-- ---- values stay numbers of 32 bits

without_word : (bits value : ℕ) → value < 2 ^ 32 → without_bits bits value < 2 ^ 32
without_word bits value low = omega (arith, and_le_l value (bit_not w32 bits))

pub wait_entered_word : (entry : ℕ) (note : Notification) → note.value < 2 ^ 32 → (wait_entered entry note).1.value < 2 ^ 32
unfolding wait_entered
wait_entered_word entry note low = at (is_received note.state)
  where
    at : (b : Bool) → (cond {A = Bool × Notification} b (false, note) (true, record { value = without_bits entry note.value; state = Waiting })).1.value < 2 ^
        32
    at true = low
    at false = without_word entry note.value low

wait_ended_word : (exit : ℕ) (note : Notification) → note.value < 2 ^ 32 → (wait_ended exit note).1.value < 2 ^ 32
unfolding wait_ended
wait_ended_word exit note low = at (is_received note.state)
  where
    at : (b : Bool) → cond b (without_bits exit note.value) note.value < 2 ^ 32
    at true = without_word exit note.value low
    at false = low

pub take_entered_word : (note : Notification) → note.value < 2 ^ 32 → (take_entered note).1.value < 2 ^ 32
unfolding take_entered
take_entered_word note low = at (eqb note.value 0)
  where
    at : (b : Bool) → (cond {A = Bool × Notification} b (true, record note { state = Waiting }) (false, note)).1.value < 2 ^ 32
    at true = low
    at false = low

take_ended_word : (clear : Bool) (note : Notification) → note.value < 2 ^ 32 → (take_ended clear note).1.value < 2 ^ 32
unfolding take_ended
take_ended_word true note low = omega arith
take_ended_word false note low = omega arith

state_cleared_word : (note : Notification) → note.value < 2 ^ 32 → (state_cleared note).1.value < 2 ^ 32
unfolding state_cleared
state_cleared_word note low = at (is_received note.state)
  where
    at : (b : Bool) → (cond {A = Notification} b (record note { state = NotWaiting }) note).value < 2 ^ 32
    at true = low
    at false = low

value_cleared_word : (bits : ℕ) (note : Notification) → note.value < 2 ^ 32 → (value_cleared bits note).1.value < 2 ^ 32
unfolding value_cleared
value_cleared_word bits note low = without_word bits note.value low

-- a call that completes changes notifications, or nothing
pub completed_notes : {Orders : Type 0} (task : ℕ) (call : BlockingCall) (state : State Orders) → (notes : List Notification) ×
    ((completed task call state).1 ≡ record state { notes = notes })
unfolding completed
completed_notes task (calls.Delay ticks) state = (state.notes, refl)
completed_notes task (calls.DelayUntil prev inc) state = (state.notes, refl)
completed_notes task (calls.NotifyWait entry exit ticks index) state = (
  let slot = slot_of state.settings task index in slice_set state.notes slot
      (wait_ended exit (note_at state.notes slot)).1,
  refl,
)
completed_notes task (calls.NotifyTake clear ticks index) state = (
  let slot = slot_of state.settings task index in slice_set state.notes slot
      (take_ended clear (note_at state.notes slot)).1,
  refl,
)

-- ---- as lists

abbrev seen_from : Reply → View → Reply × View
seen_from reply view = (reply, view)

same_seen : (reply : Reply) (one other : View) → one ≡ other → seen_from reply one ≡ seen_from reply other
same_seen reply one other a = ap (seen_from reply) a

pub interrupted_seen : (table : Table) (core : ℕ) (note : Note) → IsConsistent table → note.task < table.settings.tasks → seen_of
    (interrupted stamp_queues core note table) ≡ interrupted list_queues core note (view_of table)
unfolding interrupted
interrupted_seen table core note sound low = ap (λ (view : View). (Isr (is_passed note table) (core_at view.control core).pend, view))
    (notify_seen table core note sound low)

pub forgotten_seen : (table : Table) (task index : ℕ) → seen_of (state_forgotten task index table) ≡ state_forgotten task index (view_of table)
unfolding state_forgotten
forgotten_seen table task index = refl

pub bits_seen : (table : Table) (task bits index : ℕ) → seen_of (bits_cleared task bits index table) ≡ bits_cleared task bits index (view_of table)
unfolding bits_cleared
bits_seen table task bits index = refl

pub completed_seen : (table : Table) (task : ℕ) (call : BlockingCall) → seen_of (completed task call table) ≡ completed task call (view_of table)
unfolding completed
completed_seen table task (calls.Delay ticks) = refl
completed_seen table task (calls.NotifyWait entry exit ticks index) = refl
completed_seen table task (calls.NotifyTake clear ticks index) = refl
completed_seen table task (calls.DelayUntil prev inc) = refl

pub timeout_seen : (table : Table) (core task : ℕ) (call : BlockingCall) (ticks : ℕ) (entered : Bool × List Notification) → IsConsistent table → task < length
    table.orders.rows → is_ready task table.orders ≡ true →
    seen_of (awaited stamp_queues core task call ticks entered table) ≡ awaited list_queues core task call ticks entered (view_of table)
unfolding awaited
timeout_seen table core task call ticks entered sound below ready = either (entered.0 && ltb 0 ticks)
  where
    waiting : Table
    waiting = record table { notes = entered.1 }

    either : (b : Bool) → seen_of (cond b (Blocked, blocked stamp_queues core task (Made call) (timeout_of ticks) None waiting) (completed task call waiting)) ≡
        cond b (Blocked, blocked list_queues core task (Made call) (timeout_of ticks) None (view_of waiting)) (completed task call (view_of waiting))
    either true = same_seen Blocked _ _ (blocked_seen core task (Made call) (timeout_of ticks) None waiting sound.stamped.given below ready)
    either false = completed_seen waiting task call

-- ---- soundness stays

pub interrupted_sound : (table : Table) (core : ℕ) (note : Note) → IsConsistent table → note.task < table.settings.tasks → IsNotifyActionOfWord note.action →
    IsConsistent (interrupted stamp_queues core note table).1
unfolding interrupted
interrupted_sound table core note sound low word = notify_sound table core note sound low word

pub forgotten_sound : (table : Table) (task index : ℕ) → IsConsistent table → IsConsistent (state_forgotten task index table).1
unfolding state_forgotten
forgotten_sound table task index sound = ruled_sound (slot_of table.settings task index) state_cleared table sound state_cleared_word

pub bits_sound : (table : Table) (task bits index : ℕ) → IsConsistent table → IsConsistent (bits_cleared task bits index table).1
unfolding bits_cleared
bits_sound table task bits index sound = ruled_sound (slot_of table.settings task index) (value_cleared bits) table sound (value_cleared_word bits)

pub completed_sound : (table : Table) (task : ℕ) (call : BlockingCall) → IsConsistent table → IsConsistent (completed task call table).1
unfolding completed
completed_sound table task (calls.Delay ticks) sound = sound
completed_sound table task (calls.NotifyWait entry exit ticks index) sound = ruled_sound (slot_of table.settings task index) (wait_ended exit) table sound
    (wait_ended_word exit)
completed_sound table task (calls.NotifyTake clear ticks index) sound = ruled_sound (slot_of table.settings task index) (take_ended clear) table sound
    (take_ended_word clear)
completed_sound table task (calls.DelayUntil prev inc) sound = sound

-- the ticks of a wait that does not end at once
pub waits_on : (ticks : ℕ) → 0 < ticks → ticks < 2 ^ 32 → IsWait (timeout_of ticks)
waits_on ticks some low = either (eqb ticks (2 ^ 32 - 1))
  where
    either : (b : Bool) → IsWait (cond b None (Some ticks))
    either true = tt
    either false = (some, low)

-- and of a wait for a mutex
pub waits_short : (ticks : ℕ) → ticks < 2 ^ 32 → IsEventTime (timeout_of ticks)
waits_short ticks low = either (eqb ticks (2 ^ 32 - 1)) refl
  where
    either : (b : Bool) → eqb ticks (2 ^ 32 - 1) ≡ b → IsEventTime (cond b None (Some ticks))
    either true endless = tt
    either false short = grind (arith, nat_tests, short, low)

pub timeout_sound : (table : Table) (core task : ℕ) (call : BlockingCall) (ticks : ℕ) (entered : Bool × List Notification) → IsConsistent
    (record table { notes = entered.1 }) → IsCaller table core task → IsCheckedCall table.settings (as_call call) → length table.control.cores ≤ task → ticks <
    2 ^ 32 →
    IsConsistent (awaited stamp_queues core task call ticks entered table).1
unfolding awaited
timeout_sound table core task call ticks entered sound place checked user low = either (entered.0 && ltb 0 ticks) refl
  where
    waiting : Table
    waiting = record table { notes = entered.1 }

    either : (b : Bool) → (entered.0 && ltb 0 ticks) ≡ b → IsConsistent (cond {A = Reply × Table} b
        (Blocked, blocked stamp_queues core task (Made call) (timeout_of ticks) None waiting) (completed task call waiting)).1
    either true waits = blocked_sound core task (Made call) (timeout_of ticks) None waiting sound place checked user
        (waits_on ticks (grind (arith, nat_tests, waits)) low) tt (refl, λ none. absurd (cc (none)))
    either false done = completed_sound waiting task call sound
