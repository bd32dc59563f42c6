-- How each task fared in a session: counts over all of its steps, and the greatest priority in use
-- over all of its places.
use Rattle.std.specs.Prelude.{ℕ, suc, max, List, [], ◌∷◌, length, map, count_by, Bool, true, false, not, ◌&&◌, ◌==◌, nat_lt, Option, option_map, slice_get}
use Rattle.std.specs.List.{list_any}
use Rattle.std.specs.Option.{option_map_or}
use Rattle.bench_types.specs.declared.header.Header.{Header}
use Rattle.bench_types.specs.declared.reply.Refusal.TheVariants.{Displaced}
use Rattle.bench_types.specs.declared.reply.Reply.{Reply}
use Rattle.bench_types.specs.declared.reply.Reply.TheVariants.{Flag, Value, Waited, Refused}
use Rattle.bench_types.specs.declared.step.Call.TheVariants.{Finish}
use Rattle.bench_types.specs.declared.step.Step.{Step}
use Rattle.bench_types.specs.declared.step.Step.TheVariants.{Tick, Switch, Call}
use Rattle.bench_types.specs.declared.tally.Tally.{Tally}
use Rattle.bench_types.specs.Step.{settings_of}
use Rattle.list_orders.specs.Search.{numbers}
use Rattle.bench_model.specs.Control.{Control, task_at, current, is_allowed}
use Rattle.bench_model.specs.State.{State, QueueOps}
use Rattle.bench_model.specs.Seek.{effective}
use Rattle.bench_model.specs.Table.{Stamps, stamp_queues}
use Rattle.bench_model.specs.Session.{step_of, state_at}

-- the numbers of one task
pub record TaskTally : Type 0 where
  -- per core the ticks that found the task on it
  pub run : List ℕ
  pub counts : Tally

-- a step of a session: the state that it finds, its reply, and the state that it leaves
pub record Moment (Orders : Type 0) : Type 0 where
  pub before : State Orders
  pub step : Step
  pub reply : Reply
  pub after : State Orders

abbrev pub is_tick : Step → Bool
is_tick Tick = true
is_tick step = false

-- a call that the task makes
abbrev pub is_call_of : ℕ → Step → Bool
is_call_of task (Call core caller call) = caller == task
is_call_of task step = false

-- a call that finishes an unfinished call of the task
abbrev pub is_finish_of : ℕ → Step → Bool
is_finish_of task (Call core caller Finish) = caller == task
is_finish_of task step = false

-- E2
abbrev pub is_displacement : Reply → Bool
is_displacement (Refused Displaced) = true
is_displacement reply = false

-- what the end of a wait answers where its ticks ran out
abbrev pub says_run_out : Reply → Bool
says_run_out (Flag flag) = not flag
says_run_out (Waited ok value) = not ok
says_run_out (Value value) = value == 0
says_run_out reply = false

-- the task is the current one of some core
abbrev pub is_current : Control → ℕ → Bool
is_current control task =
    list_any (λ core. current control core == task) (numbers (length control.cores))

-- a core that the task may run on has a task of lower effective priority
abbrev pub outranks_some : Control → ℕ → Bool
outranks_some control task =
    list_any (λ core. is_allowed control core task
    && nat_lt (effective control (current control core)) (effective control task))
    (numbers (length control.cores))

-- the core has the task now and had another before
abbrev pub changes_to : ℕ → ℕ → Control → Control → Bool
changes_to task core before after = current after core == task && not (current before core == task)

-- a switch puts the task on a core that had another
abbrev pub is_switch_to : ℕ → Control → Step → Control → Bool
is_switch_to task before (Switch core) after = changes_to task core before after
is_switch_to task before step after = false

-- the greatest of the numbers, 0 where there is none
abbrev pub greatest : List ℕ → ℕ
greatest [] = 0
greatest (n ∷ ns) = max n (greatest ns)

-- The tests that are counted, each of one step and for one task.
module _ {Orders : Type 0} where
  -- a tick finds the task on the core, also where it waits and the core has not switched yet
  abbrev pub is_found_on : ℕ → ℕ → Moment Orders → Bool
  is_found_on core task moment = is_tick moment.step && current moment.before.control core == task

  abbrev pub is_switched_in : ℕ → Moment Orders → Bool
  is_switched_in task moment =
      is_switch_to task moment.before.control moment.step moment.after.control

  -- a call of the task is answered E2
  abbrev pub is_displaced : ℕ → Moment Orders → Bool
  is_displaced task moment = is_call_of task moment.step && is_displacement moment.reply

  -- the task finishes a wait whose ticks ran out
  abbrev pub is_timeout : ℕ → Moment Orders → Bool
  is_timeout task moment = is_finish_of task moment.step && says_run_out moment.reply

module _ {Orders : Type 0} (ops : QueueOps Orders) where
  -- the task is ready and on no core
  abbrev pub wants_core : ℕ → State Orders → Bool
  wants_core task state =
      ops.is_ready task state.orders && not (is_current state.control task)

  -- a tick finds that the task wants a core
  abbrev pub is_found_wanting : ℕ → Moment Orders → Bool
  is_found_wanting task moment = is_tick moment.step && wants_core task moment.before

  -- a tick finds it so while a core that it may run on has a task of lower effective priority
  abbrev pub is_inverted : ℕ → Moment Orders → Bool
  is_inverted task moment = is_found_wanting task moment && outranks_some moment.before.control task

-- the step at a place of a session, none past the last
unfoldable pub moment_at : Header → List Step → ℕ → Option (Moment Stamps)
moment_at header steps place =
    let table = state_at header steps place in option_map (λ step. record {
      before = table;
      step = step;
      reply = (step_of step table).0;
      after = state_at header steps (suc place);
    }) (slice_get steps place)

module _ (header : Header) (steps : List Step) where
  -- how many steps of the session pass the test
  abbrev pub steps_that : (Moment Stamps → Bool) → ℕ
  steps_that passes =
      count_by (λ place. option_map_or passes (moment_at header steps place) false)
      (numbers (length steps))

  abbrev pub run_ticks : ℕ → ℕ → ℕ
  run_ticks task core = steps_that (is_found_on core task)

  abbrev pub wait_ticks : ℕ → ℕ
  wait_ticks task = steps_that (is_found_wanting stamp_queues task)

  abbrev pub inverted_ticks : ℕ → ℕ
  inverted_ticks task = steps_that (is_inverted stamp_queues task)

  abbrev pub switches_in : ℕ → ℕ
  switches_in task = steps_that (is_switched_in task)

  abbrev pub displaced_calls : ℕ → ℕ
  displaced_calls task = steps_that (is_displaced task)

  abbrev pub timeouts : ℕ → ℕ
  timeouts task = steps_that (is_timeout task)

  -- the greatest priority in use of the task over all places
  abbrev pub top_priority : ℕ → ℕ
  top_priority task =
      greatest (map (λ place. (task_at (state_at header steps place).control task).in_use)
      (numbers (suc (length steps))))

  -- the numbers of a task
  abbrev pub tally_of : ℕ → TaskTally
  tally_of task = record {
    run = map (run_ticks task) (numbers header.config.cores);
    counts = record {
      wait = wait_ticks task;
      inverted = inverted_ticks task;
      switched = switches_in task;
      displaced = displaced_calls task;
      timeouts = timeouts task;
      top = top_priority task;
    };
  }

  -- those of all tasks, idle tasks too
  abbrev pub tallies : List TaskTally
  tallies = map tally_of (numbers (settings_of header).tasks)
