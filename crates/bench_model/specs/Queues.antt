-- Queues and semaphores, over orders of tasks that are kept in one way or another. What a message
-- says decides no scheduling, so a queue is its length and how many messages it has (FreeRTOS
-- Reference Manual, xQueueSend and xQueueReceive).
use Rattle.std.specs.Prelude.{ℕ, ◌+◌, ◌-◌, List, Bool, true, false, ◌==◌, nat_lt, Option, Some, None, if◌then◌else◌, slice_index_or, slice_set}
use Rattle.std.specs.Option.{option_map_or}
use Rattle.bench_types.specs.declared.kernel_data.EventWait.{EventWait}
use Rattle.bench_types.specs.declared.kernel_data.QueueLook.{QueueLook}
use Rattle.bench_types.specs.declared.reply.Reply.{Reply}
use Rattle.bench_types.specs.declared.reply.Reply.TheVariants.{Blocked, Flag, Isr}
use Rattle.bench_types.specs.declared.step.Direction.{Direction}
use Rattle.bench_types.specs.declared.step.Direction.TheVariants.{Send, Receive}
use Rattle.bench_types.specs.declared.step.Unfinished.TheVariants.{Transfer}
use Rattle.bench_model.specs.Control.{core_at}
use Rattle.bench_model.specs.Mutexes.{first_woken, waiting_priority}
use Rattle.bench_model.specs.Notifying.{timeout_of}
use Rattle.bench_model.specs.State.{State, QueueOps, after_return, blocked}
use Rattle.bench_model.specs.Waiters.{event_list}

abbrev pub queue_at : List QueueLook → ℕ → QueueLook
queue_at queues queue = slice_index_or queues queue (record { length = 0; messages = 0 })

abbrev pub other_way : Direction → Direction
other_way Send = Receive
other_way Receive = Send

-- a message can go that way at once: into a queue that is not full, out of one that is not empty
abbrev pub can_pass : Direction → QueueLook → Bool
can_pass Send queue = nat_lt queue.messages queue.length
can_pass Receive queue = nat_lt 0 queue.messages

-- the queue when a message has gone that way
abbrev pub with_message : Direction → QueueLook → QueueLook
with_message Send queue = record queue { messages = queue.messages + 1 }
with_message Receive queue = record queue { messages = queue.messages - 1 }

module _ {Orders : Type 0} where
  -- the queues when a message of this one has gone that way
  abbrev pub with_passed : Direction → ℕ → State Orders → State Orders
  with_passed direction queue state = record state {
    queues =
        slice_set state.queues queue (with_message direction (queue_at state.queues queue));
  }

module _ {Orders : Type 0} (ops : QueueOps Orders) where
  -- A message goes that way. The first task that waits for one to go the other way is made ready;
  -- nothing goes for it yet (V11 queue.c, xQueueGenericSend and xQueueReceive).
  unfoldable pub passed : ℕ → Direction → ℕ → State Orders → State Orders
  passed acting direction queue state =
      first_woken ops acting (event_list state.settings (other_way direction) queue)
      (with_passed direction queue state)

  -- The task waits until a message can go that way, for so many ticks or without end (V11 queue.c,
  -- xQueueGenericSend and xQueueReceive).
  unfoldable pub queue_waited :
      ℕ → ℕ → Direction → ℕ → Option ℕ → State Orders → State Orders
  queue_waited core task direction queue ticks state =
      let wait : EventWait = record {
        list = event_list state.settings direction queue;
        priority = waiting_priority ops task state;
      } in
      blocked ops core task (Transfer queue direction) ticks (Some wait) state

  -- A call that sends or receives: where the message can go, it does; else the task waits, or is
  -- told no where it waits for 0 ticks (FreeRTOS Reference Manual, xQueueSend and xQueueReceive).
  unfoldable pub queue_called :
      ℕ → ℕ → Direction → ℕ → ℕ → State Orders → Reply × State Orders
  queue_called core task direction queue ticks state =
      if can_pass direction (queue_at state.queues queue)
      then (Flag true, passed core direction queue state)
      else (if ticks == 0 then (Flag false, state)
      else (Blocked, queue_waited core task direction queue (timeout_of ticks) state))

  -- A wait at a queue is finished: with a message that can go, or with none where its deadline is
  -- reached; else the task waits again, for the ticks that are left (V11 queue.c, xQueueGenericSend
  -- and xQueueReceive).
  unfoldable pub queue_finished : ℕ → ℕ → Direction → ℕ → State Orders → Reply × State Orders
  queue_finished core task direction queue state =
      let left = ops.deadline_left task state.orders in
      if can_pass direction (queue_at state.queues queue)
      then (Flag true, passed core direction queue (after_return ops task state))
      else (if option_map_or (λ ticks. ticks == 0) left false
      then (Flag false, after_return ops task state)
      else (Blocked, queue_waited core task direction queue left state))

  -- An interrupt of the core sends or receives where the message can go at once. It answers whether
  -- it could, and whether the core is to switch by its own request then (FreeRTOS Reference Manual,
  -- xQueueSendFromISR and xQueueReceiveFromISR).
  unfoldable pub queue_interrupted : ℕ → Direction → ℕ → State Orders → Reply × State Orders
  queue_interrupted core direction queue state =
      let passes = can_pass direction (queue_at state.queues queue) in
      let later = if passes then passed core direction queue state else state in
      (Isr passes (core_at later.control core).pend, later)
