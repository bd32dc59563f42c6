-- Queues and semaphores: each rule as lists, and that it keeps a table sound.
use Rattle.std.proofs.Common.{◌≡◌, ℕ, ◌+◌, ◌*◌, ◌<◌, ◌≤◌, ◌^◌, Bool, true, false, cond, eqb, length, Option, Some, None, refl, sym, ap, ◌∙◌, arith}
use Rattle.std.specs.Prelude.{slice_set, unwrap_or}
use Rattle.std.specs.Option.{option_map_or}
use Rattle.std.proofs.lemmas.Bool.Decides.{nat_tests}
use Rattle.std.proofs.lemmas.List.{length-set}
use Rattle.bench_types.specs.declared.kernel_data.EventWait.{EventWait}
use Rattle.bench_types.specs.declared.kernel_data.Settings.{Settings}
use Rattle.bench_types.specs.declared.reply.Reply.{Reply}
use Rattle.bench_types.specs.declared.reply.Reply.TheVariants.{Blocked, Flag, Isr}
use Rattle.bench_types.specs.declared.step.Direction.{Direction}
use Rattle.bench_types.specs.declared.step.Direction.TheVariants.{Send, Receive}
use Rattle.bench_types.specs.declared.step.Unfinished.{Unfinished}
use Rattle.bench_types.specs.declared.step.Unfinished.TheVariants.{Transfer}
use Rattle.bench_types.specs.Step.{queue_total}
use Rattle.bench_model.specs.Control.{core_at, task_at}
use Rattle.bench_model.specs.Lists.{View, list_queues, seen_of, view_of}
use Rattle.bench_model.specs.Mutexes.{first_woken}
use Rattle.bench_model.specs.Notifying.{timeout_of}
use Rattle.bench_model.specs.Queues.{can_pass, other_way, passed, queue_at, queue_called, queue_finished, queue_interrupted, queue_waited, with_message, with_passed}
use Rattle.bench_model.specs.Sound.{IsCaller, IsConsistent, IsEventTime, IsWait}
use Rattle.bench_model.specs.State.{State, after_return, blocked}
use Rattle.bench_model.specs.Table.{Table, deadline_left, stamp_queues}
use Rattle.bench_model.specs.Waiters.{event_list, event_lists, list_value_of}
use Rattle.order_laws.proofs.SeenMoves.{deadline_left_seen, list_value_seen}
use Rattle.order_laws.proofs.SeenSteps.{blocked_seen}
use Rattle.order_laws.proofs.Sizes.{lengths_of, resized}
use Rattle.order_laws.proofs.SoundSteps.{blocked_sound}
use Rattle.rule_laws.proofs.Awaiting.{waits_on, waits_short}
use Rattle.rule_laws.proofs.Mutexes.{ended_seen, forgotten_sound, still_waits, waiting_below, woken_seen, woken_sound}

abbrev outcome : Reply → View → Reply × View
outcome reply view = (reply, view)

-- an event list of a queue that there is
pub list_there : (settings : Settings) (direction : Direction) (queue : ℕ) → queue < queue_total settings → event_list settings direction queue < event_lists
    settings
list_there settings Send queue below = omega (arith, below)
list_there settings Receive queue below = omega (arith, below)

-- ---- a message that goes

pub with_passed_sound : (table : Table) (direction : Direction) (queue : ℕ) → IsConsistent table → IsConsistent (with_passed direction queue table)
with_passed_sound table direction queue sound = record {
  sized = resized table _ refl (ap (λ a. record (lengths_of table) { queues = a }) (length-set table.queues queue _)) sound.sized;
  stamped = sound.stamped;
  in_place = sound.in_place;
  in_time = sound.in_time;
  blocks = sound.blocks;
  calls = sound.calls;
  notes = sound.notes;
  mutexes = sound.mutexes;
}

module _ (table : Table) (core : ℕ) (direction : Direction) (queue : ℕ) (sound : IsConsistent table) where
  abbrev gone : Table
  gone = with_passed direction queue table

  abbrev woken_list : ℕ
  woken_list = event_list table.settings (other_way direction) queue

  pub passed_seen : view_of (passed stamp_queues core direction queue table) ≡ passed list_queues core direction queue (view_of table)
  unfolding passed
  passed_seen = woken_seen gone core woken_list (with_passed_sound table direction queue sound)

  pub passed_sound : IsConsistent (passed stamp_queues core direction queue table)
  unfolding passed
  passed_sound = woken_sound gone core woken_list (with_passed_sound table direction queue sound)

-- ---- a task that waits

module _ (table : Table) (core task : ℕ) (direction : Direction) (queue : ℕ) (ticks : Option ℕ) (sound : IsConsistent table) (place : IsCaller table core task) where
  abbrev mine : ℕ
  mine = (task_at table.control task).in_use

  -- the wait with this list value, where there is one
  abbrev wait_with : Option ℕ → Option EventWait
  wait_with value = Some (record { list = event_list table.settings direction queue; priority = unwrap_or value mine })

  abbrev wait : Option EventWait
  wait = wait_with (list_value_of task table.orders.values)

  abbrev call : Unfinished
  call = Transfer queue direction

  caller_low : task < table.settings.tasks
  caller_low = omega (arith, sound.sized.rows, place.2)

  pub waited_seen : view_of (queue_waited stamp_queues core task direction queue ticks table) ≡ queue_waited list_queues core task direction queue ticks
      (view_of table)
  unfolding queue_waited
  waited_seen = blocked_seen core task call ticks wait table sound.stamped.given place.2 place.3 ∙ ap
      (λ value. blocked list_queues core task call ticks (wait_with value) (view_of table)) (sym (list_value_seen table.control table.orders task))

  pub waited_sound : length table.control.cores ≤ task → IsWait ticks → IsEventTime ticks → queue < queue_total table.settings → IsConsistent
      (queue_waited stamp_queues core task direction queue ticks table)
  unfolding queue_waited
  waited_sound user fits short below =
      let rank = waiting_below table.orders.values task mine table.settings.priorities sound.mutexes.values (sound.blocks task caller_low).in_use in
      blocked_sound core task call ticks wait table sound place below user fits (list_there table.settings direction queue below, rank) (refl, λ is. short)

-- ---- calls

module _ (table : Table) (core task : ℕ) (direction : Direction) (queue ticks : ℕ) (sound : IsConsistent table) (place : IsCaller table core task) where
  abbrev goes : Bool
  goes = can_pass direction (queue_at table.queues queue)

  pub called_seen : seen_of (queue_called stamp_queues core task direction queue ticks table) ≡ queue_called list_queues core task direction queue ticks
      (view_of table)
  unfolding queue_called
  called_seen = from goes (eqb ticks 0)
    where
      from : (b d : Bool) → seen_of (cond b (Flag true, passed stamp_queues core direction queue table)
          (cond d (Flag false, table) (Blocked, queue_waited stamp_queues core task direction queue (timeout_of ticks) table))) ≡ cond b
          (Flag true, passed list_queues core direction queue (view_of table))
          (cond d (Flag false, view_of table) (Blocked, queue_waited list_queues core task direction queue (timeout_of ticks) (view_of table)))
      from true d = ap (outcome (Flag true)) (passed_seen table core direction queue sound)
      from false true = refl
      from false false = ap (outcome Blocked) (waited_seen table core task direction queue (timeout_of ticks) sound place)

  pub called_sound : length table.control.cores ≤ task → ticks < 2 ^ 32 → queue < queue_total table.settings → IsConsistent
      (queue_called stamp_queues core task direction queue ticks table).1
  unfolding queue_called
  called_sound user few below = from goes (eqb ticks 0) refl
    where
      from : (b d : Bool) → eqb ticks 0 ≡ d → IsConsistent (cond {A = Reply × Table} b (Flag true, passed stamp_queues core direction queue table)
          (cond d (Flag false, table) (Blocked, queue_waited stamp_queues core task direction queue (timeout_of ticks) table))).1
      from true d is = passed_sound table core direction queue sound
      from false true none = sound
      from false false some = waited_sound table core task direction queue (timeout_of ticks) sound place user
          (waits_on ticks (grind (arith, nat_tests, some)) few) (waits_short ticks few) below

-- ---- finishing a wait

abbrev is_over : Option ℕ → Bool
is_over left = option_map_or (λ ticks. eqb ticks 0) left false

module _ (table : Table) (core task : ℕ) (direction : Direction) (queue : ℕ) (sound : IsConsistent table) (place : IsCaller table core task) where
  abbrev over : Table
  over = after_return stamp_queues task table

  abbrev over_view : View
  over_view = after_return list_queues task (view_of table)

  abbrev left : Option ℕ
  left = deadline_left task table.orders

  over_sound : IsConsistent over
  over_sound = forgotten_sound table task sound (omega (arith, sound.sized.rows, place.2)) place.3

  abbrev finished_view : Option ℕ → Reply × View
  finished_view left =
      cond (can_pass direction (queue_at table.queues queue)) (Flag true, passed list_queues core direction queue over_view)
      (cond (is_over left) (Flag false, over_view) (Blocked, queue_waited list_queues core task direction queue left (view_of table)))

  pub finished_seen : seen_of (queue_finished stamp_queues core task direction queue table) ≡ queue_finished list_queues core task direction queue
      (view_of table)
  unfolding queue_finished
  finished_seen =
      from (can_pass direction (queue_at table.queues queue)) (is_over left)
      ∙ ap (λ left. finished_view left) (sym (deadline_left_seen table.control table.orders task))
    where
      from : (b d : Bool) → seen_of (cond b (Flag true, passed stamp_queues core direction queue over)
          (cond d (Flag false, over) (Blocked, queue_waited stamp_queues core task direction queue left table))) ≡ cond b
          (Flag true, passed list_queues core direction queue over_view)
          (cond d (Flag false, over_view) (Blocked, queue_waited list_queues core task direction queue left (view_of table)))
      from true d = ap (outcome (Flag true)) (passed_seen over core direction queue over_sound ∙ ap (passed list_queues core direction queue) (ended_seen table task))
      from false true = ap (outcome (Flag false)) (ended_seen table task)
      from false false = ap (outcome Blocked) (waited_seen table core task direction queue left sound place)

  pub finished_sound : length table.control.cores ≤ task → queue < queue_total table.settings → IsConsistent
      (queue_finished stamp_queues core task direction queue table).1
  unfolding queue_finished
  finished_sound user below = from (can_pass direction (queue_at table.queues queue)) (is_over left) refl
    where
      from : (b d : Bool) → is_over left ≡ d → IsConsistent (cond {A = Reply × Table} b (Flag true, passed stamp_queues core direction queue over)
          (cond d (Flag false, over) (Blocked, queue_waited stamp_queues core task direction queue left table))).1
      from true d is = passed_sound over core direction queue over_sound
      from false true is = over_sound
      from false false on =
          let waits = still_waits table task sound on in
          waited_sound table core task direction queue left sound place user waits.0 waits.1 below

-- ---- interrupts

module _ (table : Table) (core : ℕ) (direction : Direction) (queue : ℕ) (sound : IsConsistent table) where
  abbrev passes : Bool
  passes = can_pass direction (queue_at table.queues queue)

  abbrev answered : {Orders : Type 0} → State Orders → Reply × State Orders
  answered state = (Isr passes (core_at state.control core).pend, state)

  pub interrupted_seen : seen_of (queue_interrupted stamp_queues core direction queue table) ≡ queue_interrupted list_queues core direction queue (view_of table)
  unfolding queue_interrupted
  interrupted_seen = ap answered (from passes)
    where
      from : (b : Bool) → view_of (cond b (passed stamp_queues core direction queue table) table) ≡ cond b
          (passed list_queues core direction queue (view_of table)) (view_of table)
      from true = passed_seen table core direction queue sound
      from false = refl

  pub interrupted_sound : IsConsistent (queue_interrupted stamp_queues core direction queue table).1
  unfolding queue_interrupted
  interrupted_sound = from passes
    where
      from : (b : Bool) → IsConsistent (cond b (passed stamp_queues core direction queue table) table)
      from true = passed_sound table core direction queue sound
      from false = sound
