-- The state of a kernel, and the rules that seek no core, over orders of tasks that are kept in one
-- way or another: as stamps and wakes (Table), or as lists (Lists).
use Rattle.std.specs.Prelude.{ℕ, List, Bool, Option, Some, None, unwrap_or, if◌then◌else◌, slice_index_or, slice_set}
use Rattle.bench_types.specs.declared.kernel_data.Hold.{Hold}
use Rattle.bench_types.specs.declared.kernel_data.EventWait.{EventWait}
use Rattle.bench_types.specs.declared.kernel_data.QueueLook.{QueueLook}
use Rattle.bench_types.specs.declared.kernel_data.Settings.{Settings}
use Rattle.bench_types.specs.declared.kernel_data.Waiter.{Waiter}
use Rattle.bench_types.specs.declared.note.Notification.{Notification}
use Rattle.bench_types.specs.declared.step.Unfinished.{Unfinished}
use Rattle.bench_model.specs.Control.{Control, current, ask, run_on}

pub record State (Orders : Type 0) : Type 0 where
  pub settings : Settings
  pub control : Control
  -- per task its unfinished call
  pub calls : List (Option Unfinished)
  -- the notifications of all tasks, as many for each as the settings say
  pub notes : List Notification
  -- per mutex the task that holds it, if there is one
  pub holders : List (Option ℕ)
  -- per queue how many messages it has
  pub queues : List QueueLook
  -- the open hold, if there is one
  pub hold : Option Hold
  -- which tasks are ready and which wait, how long, and in which order
  pub orders : Orders

-- what the rules do with orders
pub record QueueOps (Orders : Type 0) : Type 0 where
  pub is_ready : ℕ → Orders → Bool
  -- the ready task that the core selects
  pub pick : Control → ℕ → Orders → Option ℕ
  -- the task waits no more and goes to the end of the ready list of its priority
  pub add_to_ready_list : Control → ℕ → Orders → Orders
  -- the task leaves the ready lists and waits, for so many ticks or without end, in an event list
  -- or in none
  pub delay : ℕ → Option ℕ → Option EventWait → Orders → Orders
  -- the task waits for some ticks, or in an event list
  pub waits : ℕ → Orders → Bool
  -- the task leaves the ready lists, waits for no tick and in no event list; its deadline stays
  pub suspend : ℕ → Orders → Orders
  -- the tick count, as a number of 32 bits
  pub tick_count : Orders → ℕ
  -- one tick more, and the tasks that have waited long enough then, in the order in which they
  -- began to wait
  pub advance : Orders → Orders
  pub due : Orders → List ℕ
  -- of the tasks that wait in the event list the first
  pub first_waiter : ℕ → Orders → Option Waiter
  -- the ticks that are left to the end of the task's unfinished wait for an event, none where it
  -- has no end
  pub deadline_left : ℕ → Orders → Option ℕ
  -- the task's wait for an event is over
  pub forget_deadline : ℕ → Orders → Orders
  -- the list value of the task, none where the session has no list values
  pub list_value : ℕ → Orders → Option ℕ
  -- the task's list value becomes this one, where the session has list values; no waiter moves
  pub set_list_value : ℕ → ℕ → Orders → Orders

-- the task that holds the mutex
abbrev pub holder_at : List (Option ℕ) → ℕ → Option ℕ
holder_at holders mutex = slice_index_or holders mutex None

abbrev pub call_at : List (Option Unfinished) → ℕ → Option Unfinished
call_at calls task = slice_index_or calls task None

module _ {Orders : Type 0} (ops : QueueOps Orders) where
  -- the orders at a core's choice: its ready current task is at the end of its list
  abbrev pub queued : ℕ → State Orders → Orders
  queued core state =
      let left = current state.control core in
      if ops.is_ready left state.orders then ops.add_to_ready_list state.control left state.orders
      else state.orders

  -- the task that a switch of the core selects
  abbrev pub selected : ℕ → State Orders → Option ℕ
  selected core state = ops.pick state.control core (queued core state)

  -- A core runs the task that it selects (V11 tasks.c, vTaskSwitchContext).
  unfoldable pub after_select : ℕ → State Orders → State Orders
  after_select core state = record state {
    control = run_on core
        (unwrap_or (selected core state) (current state.control core)) state.control;
    orders = queued core state;
  }

  -- The core asks itself to switch (FreeRTOS Reference Manual, taskYIELD).
  unfoldable pub yielded : ℕ → State Orders → State Orders
  yielded core state = record state { control = ask core core state.control }

  -- The task waits in its call, for so many ticks or without end, in an event list or in none, and
  -- its core asks itself to switch (V11 tasks.c, prvAddCurrentTaskToDelayedList).
  unfoldable pub blocked :
      ℕ → ℕ → Unfinished → Option ℕ → Option EventWait → State Orders → State Orders
  blocked core task call ticks wait state = record state {
    control = ask core core state.control;
    calls = slice_set state.calls task (Some call);
    orders = ops.delay task ticks wait state.orders;
  }

  -- The task's unfinished call is over.
  abbrev pub after_return : ℕ → State Orders → State Orders
  after_return task state =
      record state
      { calls = slice_set state.calls task None; orders = ops.forget_deadline task state.orders }
