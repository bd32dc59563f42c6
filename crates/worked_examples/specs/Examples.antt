-- Worked sessions, without time slicing and with it, and tables that are equal or not.
use Rattle.std.specs.Prelude.{◌≡◌, ℕ, ◌+◌, ◌*◌, ◌^◌, List, Bool, [], ◌∷◌, length, map, Option, Some, None, option_map, reverse, true, false, codes, slice_set}
use Rattle.bench_types.specs.declared.header.Header.{Header}
use Rattle.bench_types.specs.declared.header.TaskArgs.{TaskArgs}
use Rattle.bench_types.specs.declared.kernel_data.Delayed.{Delayed}
use Rattle.bench_types.specs.declared.kernel_data.EventWait.{EventWait}
use Rattle.bench_types.specs.declared.reply.Reply.{Reply}
use Rattle.bench_types.specs.declared.reply.Reply.TheVariants.{Done, Refused}
use Rattle.bench_types.specs.declared.reply.Reply.TheVariants as reply
use Rattle.bench_types.specs.declared.reply.Refusal.TheVariants.{InCall, NotInCall, NotDue}
use Rattle.bench_types.specs.declared.step.Step.{Step}
use Rattle.bench_types.specs.declared.step.Step.TheVariants.{Tick, Switch, Call}
use Rattle.bench_types.specs.declared.step.Call.TheVariants.{Yield, Delay, Finish}
use Rattle.bench_model.specs.declared.row.TaskRow.{TaskRow}
use Rattle.bench_model.specs.declared.row.TaskState.{TaskState}
use Rattle.bench_model.specs.declared.row.TaskState.TheVariants.{Ready, Blocked}
use Rattle.bench_model.specs.Alike.{SamePairwise}
use Rattle.list_orders.specs.Search.{numbers}
use Rattle.bench_model.specs.Control.{running}
use Rattle.bench_model.specs.Steps.{ticked}
use Rattle.bench_model.specs.Table.{Table, stamp_queues, row_at, is_ready, delay, advance, due}
use Rattle.bench_model.specs.Lists.{view_of}
use Rattle.bench_model.specs.Looks.{ticks_left}
use Rattle.bench_model.specs.Start.{start}
use Rattle.bench_model.specs.Session.{state_at, outcome_at}
use Rattle.bench_model.specs.Equal.{Same}

abbrev pub task : List ℕ → ℕ → TaskArgs
task name priority = record { name = name; priority = priority; mask = 3 }

-- 2 cores, 5 priorities, and the tasks, each on both cores
abbrev pub session_of : List TaskArgs → Header
session_of tasks =
    record {
      config = record {
        cores = 2;
        priorities = 5;
        slicing = false;
        tick = 0;
        mutexes = 0;
        notes = 1;
        units = 1;
      };
      queues = None;
      tasks = tasks;
    }

-- the tasks 2, 3 and 4, and the task 2 alone
abbrev pub three_tasks : Header
three_tasks = session_of (task (codes "A") 2 ∷ task (codes "B") 1 ∷ task (codes "C") 1 ∷ [])

abbrev pub one_task : Header
one_task = session_of (task (codes "A") 2 ∷ [])

-- the same with time slicing
abbrev pub timed : Header → Header
timed header = record header { config = record header.config { slicing = true } }

-- the three tasks, where task 3 has priority 3
abbrev pub raised : Header
raised = session_of (task (codes "A") 2 ∷ task (codes "B") 3 ∷ task (codes "C") 1 ∷ [])

abbrev pub at_start : Header → List ℕ
at_start header = running (start header).control

abbrev pub outcomes : Header → List Step → List (Option (Reply × List ℕ))
outcomes header steps = map (outcome_at header steps) (numbers (length steps))

pub record WorkedSessions : Type 0 where
  pub starts : at_start three_tasks ≡ 2 ∷ 3 ∷ []
  pub first_run :
      outcomes three_tasks (Call 0 2 (Delay 2) ∷ Switch 0 ∷ Tick ∷ Call 0 4 Yield ∷ Switch 0 ∷ [])
      ≡ Some (reply.Blocked, 2 ∷ 3 ∷ []) ∷ Some (Done, 4 ∷ 3 ∷ []) ∷ Some (Done, 4 ∷ 3 ∷ [])
      ∷ Some (Done, 4 ∷ 3 ∷ []) ∷ Some (Done, 4 ∷ 3 ∷ []) ∷ []
  pub not_due : outcomes three_tasks (Switch 0 ∷ []) ≡ Some ((Refused NotDue), 2 ∷ 3 ∷ []) ∷ []
  pub starts_alone : at_start one_task ≡ 2 ∷ 0 ∷ []
  pub alone :
      outcomes one_task (Tick ∷ Switch 1 ∷ [])
      ≡ Some (Done, 2 ∷ 0 ∷ []) ∷ Some ((Refused NotDue), 2 ∷ 0 ∷ []) ∷ []
  pub finishes :
      outcomes three_tasks
      (Call 0 2 (Delay 1) ∷ Tick ∷ Switch 0 ∷ Call 0 2 Yield ∷ Call 0 2 Finish ∷ Call 0 2 Finish
      ∷ [])
      ≡ Some (reply.Blocked, 2 ∷ 3 ∷ []) ∷ Some (Done, 2 ∷ 3 ∷ []) ∷ Some (Done, 2 ∷ 3 ∷ [])
      ∷ Some ((Refused InCall), 2 ∷ 3 ∷ []) ∷ Some (Done, 2 ∷ 3 ∷ [])
      ∷ Some ((Refused NotInCall), 2 ∷ 3 ∷ []) ∷ []

-- both cores switch as a task waits, and as it is woken
abbrev pub slept : Step → Step → List Step
slept first second =
    Call 0 2 (Delay 2) ∷ Switch 0 ∷ Tick ∷ Switch 0 ∷ Switch 1 ∷ Tick ∷ first ∷ second ∷ []

-- the same with time slicing, and what a woken task seeks
pub record TimedSessions : Type 0 where
  pub starts : at_start (timed three_tasks) ≡ 2 ∷ 3 ∷ []
  pub starts_alone : at_start (timed one_task) ≡ 2 ∷ 0 ∷ []
  pub starts_raised : at_start (timed raised) ≡ 3 ∷ 2 ∷ []
  pub idle_in_turn :
      outcomes (timed one_task) (Tick ∷ Switch 1 ∷ [])
      ≡ Some (Done, 2 ∷ 0 ∷ []) ∷ Some (Done, 2 ∷ 1 ∷ []) ∷ []
  pub in_turn :
      outcomes (timed three_tasks) (Tick ∷ Switch 1 ∷ [])
      ≡ Some (Done, 2 ∷ 3 ∷ []) ∷ Some (Done, 2 ∷ 4 ∷ []) ∷ []
  pub not_due :
      outcomes (timed three_tasks) (Switch 0 ∷ []) ≡ Some ((Refused NotDue), 2 ∷ 3 ∷ []) ∷ []
  pub sleeps :
      outcomes (timed three_tasks) (slept (Switch 0) (Switch 1))
      ≡ Some (reply.Blocked, 2 ∷ 3 ∷ []) ∷ Some (Done, 4 ∷ 3 ∷ []) ∷ Some (Done, 4 ∷ 3 ∷ [])
      ∷ Some (Done, 4 ∷ 3 ∷ []) ∷ Some (Done, 4 ∷ 3 ∷ []) ∷ Some (Done, 4 ∷ 3 ∷ [])
      ∷ Some (Done, 2 ∷ 3 ∷ []) ∷ Some (Done, 2 ∷ 4 ∷ []) ∷ []
  pub wakes_on_other :
      outcomes (timed three_tasks) (slept (Switch 1) (Switch 0))
      ≡ Some (reply.Blocked, 2 ∷ 3 ∷ []) ∷ Some (Done, 4 ∷ 3 ∷ []) ∷ Some (Done, 4 ∷ 3 ∷ [])
      ∷ Some (Done, 4 ∷ 3 ∷ []) ∷ Some (Done, 4 ∷ 3 ∷ []) ∷ Some (Done, 4 ∷ 3 ∷ [])
      ∷ Some (Done, 4 ∷ 2 ∷ []) ∷ Some (Done, 3 ∷ 2 ∷ []) ∷ []

-- task 2 waits without end, and task 3 beside it for one tick
abbrev pub endless : Table
endless =
    let table = start three_tasks in
    record table { orders = delay 3 (Some 1) None (delay 2 None None table.orders) }

-- whether a task is ready, the ticks to its wake, and the tasks that wait for some ticks
abbrev pub stands : ℕ → Table → Bool × Option ℕ × List Delayed
stands task table =
    (is_ready task table.orders, ticks_left task table.orders, (view_of table).orders.delayed)

pub record EndlessWaits : Type 0 where
  pub begins : stands 2 endless ≡ (false, None, (record { task = 3; left = 1 }) ∷ [])
  pub passed_over :
      (due (advance endless.orders) ≡ 3 ∷ []) × (is_ready 2 (advance endless.orders) ≡ false)
  pub waits_on : stands 2 (ticked stamp_queues endless) ≡ (false, None, [])
  pub other_is_woken : stands 3 (ticked stamp_queues endless) ≡ (true, None, [])

-- a table with a task that waits
abbrev pub waiting : Table
waiting = state_at three_tasks (Call 0 2 (Delay 2) ∷ []) 1

-- one turn of the tick count later, every stamp twice what it was
abbrev pub wake_later : TaskState → TaskState
wake_later Ready = Ready
wake_later (Blocked wake) = Blocked (option_map (λ wake. wake + 2 ^ 32) wake)

abbrev pub row_later : TaskRow → TaskRow
row_later row = record { stamp = 2 * row.stamp; standing = wake_later row.standing }

abbrev pub later : Table → Table
later table =
    let stamps = table.orders in
    record table {
      orders = record {
        rows = map row_later stamps.rows;
        waiters = stamps.waiters;
        deadlines = map (option_map (λ deadline. deadline + 2 ^ 32)) stamps.deadlines;
        values = stamps.values;
        tick = stamps.tick + 2 ^ 32;
        next = 2 * stamps.next;
      };
    }

-- two tasks with each other's rows
abbrev pub exchanged : ℕ → ℕ → Table → Table
exchanged i j table =
    let stamps = table.orders in
    record table {
      orders = record stamps {
        rows = slice_set (slice_set stamps.rows i (row_at stamps j)) j (row_at stamps i);
      };
    }

pub record EqualTables : Type 0 where
  pub other_stamps : Same waiting (later waiting)
  pub other_order : ¬ Same waiting (exchanged 3 4 waiting)

-- the waiters in the opposite order
abbrev pub turned : Table → Table
turned table =
    record table { orders = record table.orders { waiters = reverse table.orders.waiters } }

-- the tasks 3 and 4, of one priority, wait in turn
abbrev pub both_wait : Option ℕ → Option EventWait → Table
both_wait ticks wait =
    let table = start three_tasks in
    record table { orders = delay 4 ticks wait (delay 3 ticks wait table.orders) }

pub record AlikeTables : Type 0 where
  pub other_stamps : (table : Table) → SamePairwise table (later table)
  pub other_ready_order : ¬ SamePairwise waiting (exchanged 3 4 waiting)
  pub other_delay_order :
      ¬ SamePairwise (both_wait (Some 1) None) (exchanged 3 4 (both_wait (Some 1) None))
  pub other_queue_order :
      let table = both_wait None (Some (record { list = 0; priority = 1 })) in
      ¬ SamePairwise table (turned table)
