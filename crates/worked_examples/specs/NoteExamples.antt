-- Worked notifications: what each action, wait and take makes of a value and a state, and who is
-- woken.
use Rattle.std.specs.Prelude.{◌≡◌, ℕ, ◌-◌, ◌^◌, List, [], ◌∷◌, ◌++◌, map, Bool, true, false, Option, Some, None, slice_set}
use Rattle.bench_types.specs.declared.note.NotifyAction.TheVariants.{Nothing, SetBits, Increment, Set, SetNew}
use Rattle.bench_types.specs.declared.note.NoteState.TheVariants.{NotWaiting, Waiting, Received}
use Rattle.bench_types.specs.declared.header.Header.{Header}
use Rattle.bench_types.specs.declared.note.NotifyAction.{NotifyAction}
use Rattle.bench_types.specs.declared.note.Note.{Note}
use Rattle.bench_types.specs.declared.note.Notification.{Notification}
use Rattle.bench_types.specs.declared.reply.Reply.{Reply}
use Rattle.bench_types.specs.declared.reply.Reply.TheVariants.{Done, Blocked, Flag, Value, Waited, Isr}
use Rattle.bench_types.specs.declared.step.Step.{Step}
use Rattle.bench_types.specs.declared.step.Step.TheVariants.{Tick, Switch, Call, Interrupt}
use Rattle.bench_types.specs.declared.step.Call.TheVariants.{Delay, Notify, NotifyWait, NotifyTake, StateClear, ValueClear, Finish}
use Rattle.worked_examples.specs.Examples.{timed, three_tasks}
use Rattle.bench_model.specs.Lists.{view_of}
use Rattle.bench_model.specs.Looks.{note_look, ticks_left}
use Rattle.bench_model.specs.Notes.{no_note, note_at, passes, notified, wait_entered, wait_ended, take_entered, take_ended, state_cleared, value_cleared}
use Rattle.bench_model.specs.Notifying.{notify}
use Rattle.bench_model.specs.Seek.{after_switch}
use Rattle.worked_examples.specs.SeekExamples.{flags, delayed_once}
use Rattle.bench_model.specs.Session.{state_after, state_at, run_results}
use Rattle.bench_model.specs.Start.{start}
use Rattle.bench_model.specs.Table.{Table, stamp_queues, is_ready, delay}

abbrev pub resting : ℕ → Notification
resting value = record { value = value; state = NotWaiting }

abbrev pub waiting : ℕ → Notification
waiting value = record { value = value; state = Waiting }

abbrev pub received : ℕ → Notification
received value = record { value = value; state = Received }

pub record WorkedNotes : Type 0 where
  pub nothing : notified Nothing (resting 5) ≡ received 5
  pub bits : notified (SetBits 3) (waiting 5) ≡ received 7
  pub one_more : notified Increment (received 5) ≡ received 6
  pub wraps : notified Increment (resting (2 ^ 32 - 1)) ≡ received 0
  pub over : notified (Set 9) (received 5) ≡ received 9
  pub new : notified (SetNew 9) (waiting 5) ≡ received 9
  pub not_over : notified (SetNew 9) (received 5) ≡ received 5
  pub not_passed : passes (SetNew 9) Received ≡ false
  pub passed : passes (SetNew 9) Waiting ≡ true
  pub passed_over : passes (Set 9) Received ≡ true

pub record WorkedWaits : Type 0 where
  pub entry_cleared : wait_entered 1 (resting 7) ≡ (true, waiting 6)
  pub waits_again : wait_entered 0 (waiting 7) ≡ (true, waiting 7)
  pub come_before : wait_entered 1 (received 7) ≡ (false, received 7)
  pub exit_cleared : wait_ended 6 (received 7) ≡ ((true, 7), resting 1)
  pub all_cleared : wait_ended (2 ^ 32 - 1) (received 1) ≡ ((true, 1), resting 0)
  pub none_come : wait_ended 6 (waiting 7) ≡ ((false, 7), resting 7)

pub record WorkedTakes : Type 0 where
  pub empty : take_entered (resting 0) ≡ (true, waiting 0)
  pub empty_but_received : take_entered (received 0) ≡ (true, waiting 0)
  pub full : take_entered (resting 2) ≡ (false, resting 2)
  pub counts_down : take_ended false (received 2) ≡ (2, resting 1)
  pub cleared : take_ended true (received 2) ≡ (2, resting 0)
  pub still_empty : take_ended false (waiting 0) ≡ (0, resting 0)

pub record WorkedClears : Type 0 where
  pub forgotten : state_cleared (received 5) ≡ (true, resting 5)
  pub waits_on : state_cleared (waiting 5) ≡ (false, waiting 5)
  pub nothing_there : state_cleared no_note ≡ (false, no_note)
  pub bits_cleared : value_cleared 5 (received 7) ≡ (7, received 2)
  pub no_bits : value_cleared 0 (waiting 7) ≡ (7, waiting 7)

-- task 2 waits for a notification, for so many ticks or without end, and core 0 runs another
abbrev pub awaiting : Option ℕ → Table
awaiting ticks = let table = start three_tasks in
    after_switch stamp_queues 0
    (record table
    { orders = delay 2 ticks None table.orders; notes = slice_set table.notes 2 (waiting 0) })

-- the notification of task 2, whether it is ready, and the flags of the cores
abbrev pub shows : Table → Notification × Bool × List (Bool × Bool)
shows table = (note_at table.notes 2, is_ready 2 table.orders, flags table.control)

-- the ticks of task 3 have run out, and its call that waited for a notification has not completed
-- yet
abbrev pub late : Table → Table
late table = record table { notes = slice_set table.notes 3 (waiting 0) }

abbrev pub known : ℕ → NotifyAction → Note
known task action = record { task = task; action = action; index = 0 }

-- who is woken by a notification, and who is not
pub record WorkedNotifies : Type 0 where
  pub waits : shows (awaiting None) ≡ (waiting 0, false, (false, false) ∷ (false, false) ∷ [])
  pub woken :
      shows (notify stamp_queues 0 (known 2 Increment) (awaiting None))
      ≡ (received 1, true, (false, false) ∷ (false, true) ∷ [])
  pub woken_by_core_1 :
      shows (notify stamp_queues 1 (known 2 Nothing) (awaiting None))
      ≡ (received 0, true, (false, false) ∷ (true, false) ∷ [])
  pub woken_before_its_ticks :
      (view_of (notify stamp_queues 0 (known 2 Increment) (awaiting (Some 5)))).orders.delayed ≡ []
  pub other_notified :
      shows (notify stamp_queues 0 (known 3 Increment) (awaiting None)) ≡ shows (awaiting None)
  pub delay_waits_on :
      shows (notify stamp_queues 0 (known 2 (Set 5)) (delayed_once three_tasks))
      ≡ (received 5, false, (false, false) ∷ (false, false) ∷ [])
  pub ticks_have_run_out :
      (view_of (notify stamp_queues 0 (known 3 Increment) (late (start three_tasks)))).orders.ready
      ≡ 2 ∷ 4 ∷ 3 ∷ 0 ∷ 1 ∷ []
  pub ready_keeps_its_place :
      (notify stamp_queues 0 (known 3 Increment) (start three_tasks)).orders
      ≡ (start three_tasks).orders

abbrev pub replies : Header → List Step → List Reply
replies header steps = map (λ outcome. outcome.0) (run_results (start header) steps)

-- task 2 waits for one tick, and is notified after that
abbrev pub late_wait : List Step
late_wait =
    Call 0 2 (NotifyWait 0 (2 ^ 32 - 1) 1 0) ∷ Tick ∷ Interrupt 1 (known 2 Increment) ∷ Switch 0
    ∷ Call 0 2 Finish ∷ []

-- task 2 takes without end, and core 0 runs task 4
abbrev pub endless_take : List Step
endless_take = Call 0 2 (NotifyTake true (2 ^ 32 - 1) 0) ∷ Switch 0 ∷ Tick ∷ []

-- Task 2 (priority 2) runs on core 0 and task 3 (priority 1) on core 1; task 4 (priority 1) is
-- ready.
pub record WorkedCalls : Type 0 where
  pub takes_at_once :
      replies three_tasks
      (Call 0 2 (NotifyTake false 0 0) ∷ Interrupt 1 (known 2 (Set 2))
      ∷ Interrupt 1 (known 2 (SetNew 9)) ∷ Call 0 2 (NotifyTake false 0 0)
      ∷ Call 0 2 (NotifyTake false 0 0) ∷ Call 0 2 (StateClear 2 0) ∷ [])
      ≡ Value 0 ∷ Isr true false ∷ Isr false false ∷ Value 2 ∷ Value 1 ∷ Flag false ∷ []
  pub waits :
      replies (timed three_tasks) late_wait
      ≡ Blocked ∷ Done ∷ Isr true false ∷ Done ∷ Waited true 1 ∷ []
  pub exit_bits_cleared :
      note_at (state_after (start (timed three_tasks)) late_wait).notes 2 ≡ resting 0
  pub none_came :
      replies three_tasks (Call 0 2 (NotifyWait 0 0 1 0) ∷ Tick ∷ Switch 0 ∷ Call 0 2 Finish ∷ [])
      ≡ Blocked ∷ Done ∷ Done ∷ Waited false 0 ∷ []
  pub entry_bits_cleared :
      replies three_tasks
      (Call 1 3 (Notify (known 2 (Set 7))) ∷ Call 1 3 (StateClear 2 0)
      ∷ Call 0 2 (NotifyWait 5 0 0 0) ∷ Call 1 3 (ValueClear 2 6 0)
      ∷ Call 1 3 (ValueClear 2 0 0) ∷ [])
      ≡ Flag true ∷ Flag true ∷ Waited false 2 ∷ Value 2 ∷ Value 0 ∷ []
  pub without_end :
      ticks_left 2
      (state_after (start three_tasks) (Call 0 2 (NotifyWait 0 0 (2 ^ 32 - 1) 0) ∷ [])).orders
      ≡ None
  pub delay_has_an_end :
      ticks_left 2 (state_after (start three_tasks) (Call 0 2 (Delay (2 ^ 32 - 1)) ∷ [])).orders
      ≡ Some (2 ^ 32 - 1)
  pub woken_by_a_call :
      replies three_tasks
      (endless_take ++ Call 1 3 (Notify (known 2 (SetBits 5))) ∷ Switch 1 ∷ Call 1 2 Finish
      ∷ Call 1 2 (NotifyTake false 0 0) ∷ [])
      ≡ Blocked ∷ Done ∷ Done ∷ Flag true ∷ Done ∷ Value 5 ∷ Value 0 ∷ []
  pub own_core_is_to_switch :
      replies three_tasks (endless_take ++ Interrupt 1 (known 2 Increment) ∷ [])
      ≡ Blocked ∷ Done ∷ Done ∷ Isr true true ∷ []
  pub other_core_is_to_switch :
      replies three_tasks (endless_take ++ Interrupt 0 (known 2 Increment) ∷ [])
      ≡ Blocked ∷ Done ∷ Done ∷ Isr true false ∷ []

-- a task has two notifications
abbrev pub with_two : Header → Header
with_two header = record header { config = record header.config { notes = 2 } }

-- a notification at the index
abbrev pub known_at : ℕ → ℕ → NotifyAction → Note
known_at index task action = record { task = task; action = action; index = index }

-- Task 2 waits at index 1, and an interrupt notifies it at index 0, then one at index 1.
abbrev pub waits_at_one : List Step
waits_at_one =
    Call 0 2 (NotifyWait 0 0 10 1) ∷ Interrupt 1 (known_at 0 2 Increment)
    ∷ Interrupt 1 (known_at 1 2 (Set 9)) ∷ Switch 0 ∷ Call 0 2 Finish ∷ []

abbrev pub two_at_end : Table
two_at_end = state_after (start (with_two three_tasks)) waits_at_one

abbrev pub two_after : ℕ → Table
two_after place = state_at (with_two three_tasks) waits_at_one place

-- each index is waited for and notified by itself
pub record WorkedIndexes : Type 0 where
  pub answers :
      replies (with_two three_tasks) waits_at_one
      ≡ Blocked ∷ Isr true false ∷ Isr true false ∷ Done ∷ Waited true 9 ∷ []
  pub other_index_wakes_nobody : is_ready 2 (two_after 2).orders ≡ false
  pub own_index_wakes : is_ready 2 (two_after 3).orders ≡ true
  pub first_at_end : note_look two_at_end 2 0 ≡ received 1
  pub second_at_end : note_look two_at_end 2 1 ≡ resting 9
