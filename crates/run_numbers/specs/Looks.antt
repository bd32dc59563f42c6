-- What the conditions of a task hang on.
use Rattle.std.specs.Prelude.{◌≡◌, ◌≢◌, ℕ, ◌<◌, ◌≤◌, ◌==◌, ◌&&◌, false, List, length, Option, Some, None, option_map, slice_index, slice_index_or}
use Rattle.std.specs.Option.{ForSome}
use Rattle.bench_types.specs.Cause.{cause_of}
use Rattle.bench_types.specs.declared.step.Step.{Step}
use Rattle.bench_model.specs.Control.{current, task_at}
use Rattle.bench_model.specs.Lists.{View, list_queues}
use Rattle.bench_model.specs.Seek.{effective}
use Rattle.bench_model.specs.State.{call_at}
use Rattle.bench_model.specs.Suspending.{is_suspended}
use Rattle.bench_model.specs.Tally.{is_call_of, is_current, outranks_some, wants_core}
use Rattle.run_numbers.specs.declared.event.BeforeStep.{BeforeStep}
use Rattle.run_numbers.specs.declared.look.Look.{Look}
use Rattle.run_numbers.specs.Conditions.{is_held_up, is_raised}

-- no core has a task of lower effective priority
abbrev pub IsLowest : View → ℕ → Type 0
IsLowest view task =
    (core : ℕ) → core < length view.control.cores
    → effective view.control task ≤ effective view.control (current view.control core)

-- all of it but on which core the task is
abbrev pub look_of : View → ℕ → Look
look_of view task = record {
  ready = list_queues.is_ready task view.orders;
  current = is_current view.control task;
  inverted = wants_core list_queues task view && outranks_some view.control task;
  held_up = is_held_up list_queues task view;
  suspended = is_suspended list_queues task view;
  raised = is_raised view.control task;
  preempt = (task_at view.control task).preempt;
  cause = option_map cause_of (call_at view.calls task);
}

-- this is known of the task
abbrev pub IsKnown : List (Option Look) → ℕ → Look → Type 0
IsKnown looks task look = slice_index_or looks task None ≡ Some look

-- the tasks of the cores
pub record IsRow (row : List ℕ) (view : View) : Type 0 where
  pub size : length row ≡ view.settings.cores
  pub each : (core : ℕ) → core < view.settings.cores
      → slice_index row core ≡ current view.control core

-- the step does not concern the task: no core has it now and had not before, or the other way
-- round, its priority in use is not raised, it loses no value, and it makes no call
pub record IsApart (row : List ℕ) (before : BeforeStep) (step : Step) (after : View) (task : ℕ) :
    Type 0 where
  pub seats : (core : ℕ) → core < after.settings.cores
      → (slice_index row core == task) ≡ (current after.control core == task)
  pub raised : ForSome before.raised (λ raised. raised.0 ≢ task)
  pub overrun : ForSome before.overrun (λ overrun. overrun ≢ task)
  pub caller : is_call_of task step ≡ false
