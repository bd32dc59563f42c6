-- Worked queues: what a call, an interrupt and the end of a wait answer, and what is left in the
-- queue.
use Rattle.std.specs.Prelude.{◌≡◌, ℕ, ◌-◌, ◌^◌, List, [], ◌∷◌, ◌++◌, true, false, Some, map}
use Rattle.bench_types.specs.declared.header.Header.{Header}
use Rattle.bench_types.specs.declared.reply.Refusal.TheVariants.{HoldBlock}
use Rattle.bench_types.specs.declared.reply.Reply.TheVariants.{Done, Blocked, Flag, Isr, Refused}
use Rattle.bench_types.specs.declared.step.Call.TheVariants.{Finish, HoldOpen, QueueReceive, QueueSend}
use Rattle.bench_types.specs.declared.step.Direction.TheVariants.{Receive, Send}
use Rattle.bench_types.specs.declared.step.Step.{Step}
use Rattle.bench_types.specs.declared.step.Step.TheVariants.{Tick, Switch, Call, QueueInterrupt}
use Rattle.bench_model.specs.Looks.{ticks_left}
use Rattle.bench_model.specs.Session.{state_after}
use Rattle.bench_model.specs.Start.{start}
use Rattle.worked_examples.specs.MutexExamples.{low_and_high}
use Rattle.worked_examples.specs.NoteExamples.{replies}

-- task 2 of priority 1 on core 1, task 3 of priority 3 on core 0, and a queue for one message
abbrev pub with_a_queue : Header
with_a_queue =
    record low_and_high { queues = Some (record { length = 1; messages = 0 } ∷ []) }

-- how many messages are left
abbrev pub messages_after : List Step → List ℕ
messages_after steps =
    map (λ queue. queue.messages) (state_after (start with_a_queue) steps).queues

-- task 3 waits to receive for 5 ticks
abbrev pub empty : List Step
empty = Call 0 3 (QueueReceive 0 5) ∷ []

-- task 2 sends, and task 3 finishes its call
abbrev pub received : List Step
received = empty ++ Call 1 2 (QueueSend 0 0) ∷ Switch 0 ∷ Call 0 3 Finish ∷ []

-- task 2 sends a tick later, and receives the message itself before task 3 does
abbrev pub taken_by_another : List Step
taken_by_another =
    empty ++ Tick ∷ Call 1 2 (QueueSend 0 0) ∷ Call 1 2 (QueueReceive 0 0) ∷ Switch 0
    ∷ Call 0 3 Finish ∷ []

-- task 2 fills the queue, task 3 waits to send, and task 2 receives
abbrev pub let_in : List Step
let_in =
    Call 1 2 (QueueSend 0 0) ∷ Call 0 3 (QueueSend 0 5) ∷ Call 1 2 (QueueReceive 0 0) ∷ Switch 0
    ∷ Call 0 3 Finish ∷ []

-- task 3 waits for one tick
abbrev pub one_tick : List Step
one_tick = Call 0 3 (QueueReceive 0 1) ∷ Tick ∷ []

pub record WorkedQueues : Type 0 where
  pub receives :
      replies with_a_queue received ≡ Blocked ∷ Flag true ∷ Done ∷ Flag true ∷ []
  pub leaves_none : messages_after received ≡ 0 ∷ []
  -- the woken task has received nothing yet
  pub wakes_only : messages_after (empty ++ Call 1 2 (QueueSend 0 0) ∷ []) ≡ 1 ∷ []
  -- the woken task finds nothing, and waits for the 4 ticks that are left of 5
  pub waits_on :
      replies with_a_queue taken_by_another
      ≡ Blocked ∷ Done ∷ Flag true ∷ Flag true ∷ Done ∷ Blocked ∷ []
  pub waits_for_what_is_left :
      ticks_left 3 (state_after (start with_a_queue) taken_by_another).orders ≡ Some 4
  pub is_let_in :
      replies with_a_queue let_in ≡ Flag true ∷ Blocked ∷ Flag true ∷ Done ∷ Flag true ∷ []
  pub is_full_again : messages_after let_in ≡ 1 ∷ []
  -- the deadline is reached, and there is no message or one
  pub ends_without :
      replies with_a_queue (one_tick ++ Switch 0 ∷ Call 0 3 Finish ∷ [])
      ≡ Blocked ∷ Done ∷ Done ∷ Flag false ∷ []
  pub ends_with :
      replies with_a_queue (one_tick ++ QueueInterrupt 1 0 Send ∷ Switch 0 ∷ Call 0 3 Finish ∷ [])
      ≡ Blocked ∷ Done ∷ Isr true false ∷ Done ∷ Flag true ∷ []
  -- an interrupt sends to an empty queue, to a full one, and receives
  pub interrupts :
      replies with_a_queue
      (QueueInterrupt 1 0 Send ∷ QueueInterrupt 1 0 Send ∷ QueueInterrupt 1 0 Receive
      ∷ QueueInterrupt 1 0 Receive ∷ [])
      ≡ Isr true false ∷ Isr false false ∷ Isr true false ∷ Isr false false ∷ []
  -- one that wakes a task of greater priority asks its core
  pub wakes_a_receiver :
      replies with_a_queue
      (Call 0 3 (QueueReceive 0 (2 ^ 32 - 1)) ∷ Switch 0 ∷ QueueInterrupt 0 0 Send ∷ [])
      ≡ Blocked ∷ Done ∷ Isr true true ∷ []
  -- a task that holds the kernel can't wait, and is told no at once for 0 ticks
  pub held :
      replies with_a_queue
      (Call 0 3 HoldOpen ∷ Call 0 3 (QueueReceive 0 5) ∷ Call 0 3 (QueueReceive 0 0) ∷ [])
      ≡ Done ∷ Refused HoldBlock ∷ Flag false ∷ []
