-- A step is counted in three parts: what a tick finds, the one event of another step, and the
-- priorities in use after it.
use Rattle.std.specs.Prelude.{◌≡◌, ℕ, ◌+◌, ◌-◌, ◌^◌, ◌≤◌, ◌<◌, max, List, length, map, Bool, true, false, ◌&&◌, ◌==◌, nat_lt, Option, Some, None, if◌then◌else◌}
use Rattle.std.specs.Prelude.{slice_index_or}
use Rattle.bench_types.specs.declared.reply.Reply.{Reply}
use Rattle.bench_types.specs.declared.step.Call.{Call as KernelCall}
use Rattle.bench_types.specs.declared.step.Call.TheVariants.{Finish}
use Rattle.bench_types.specs.declared.step.Step.{Step}
use Rattle.bench_types.specs.declared.step.Step.TheVariants.{Switch, Call}
use Rattle.list_orders.specs.Search.{numbers}
use Rattle.bench_model.specs.Control.{Control, task_at, current}
use Rattle.bench_model.specs.Lists.{View}
use Rattle.bench_model.specs.Seek.{effective}
use Rattle.bench_model.specs.Tally.{TaskTally, is_tick, outranks_some, is_displacement, says_run_out}
use Rattle.bench_model.specs.Tallied.{run_at, tally_at, one_if}
use Rattle.ready_core.specs.Fields.{has_priority}
use Rattle.smp_kernel.specs.Kernel.{wants_core}
use Rattle.tallies.specs.declared.event.Event.{Event}
use Rattle.tallies.specs.declared.event.Event.TheVariants.{SwitchedIn, Displaced, RanOut}

-- the tally with one tick more in which the task waited, where it did
abbrev pub with_wait : Bool → TaskTally → TaskTally
with_wait waits tally =
    record tally { counts = record tally.counts { wait = tally.counts.wait + one_if waits } }

-- the tally with one tick more of an inverted wait, where it was one
abbrev pub with_inversion : Bool → TaskTally → TaskTally
with_inversion inverted tally = record tally {
  counts = record tally.counts { inverted = tally.counts.inverted + one_if inverted };
}

-- the task waits while a core that it may run on has a task of lower effective priority
abbrev pub is_inverted : View → ℕ → Bool
is_inverted before task = wants_core before task && outranks_some before.control task

-- the ticks that each core ran, with one more where the task is its current one
abbrev pub runs_after : Control → ℕ → List ℕ → List ℕ
runs_after control task run =
    map (λ core. slice_index_or run core 0 + one_if (current control core == task))
    (numbers (length run))

-- the tallies with one tick more on each core for its current task
unfoldable pub ran : Control → List TaskTally → List TaskTally
ran control tallies =
    map (λ task. record (tally_at tallies task) {
      run = runs_after control task (tally_at tallies task).run;
    }) (numbers (length tallies))

-- the tallies with one tick more of each task that waits
unfoldable pub waited : View → List TaskTally → List TaskTally
waited before tallies =
    map (λ task. with_wait (wants_core before task) (tally_at tallies task))
    (numbers (length tallies))

-- the tallies with one tick more of each task of the priority whose wait is inverted
unfoldable pub inverted_in : View → ℕ → List TaskTally → List TaskTally
inverted_in before priority tallies =
    map (λ task. with_inversion
    (has_priority before.control priority task && is_inverted before task) (tally_at tallies task))
    (numbers (length tallies))

-- the tallies with one tick more of each task whose wait is inverted
unfoldable pub inverted : View → List TaskTally → List TaskTally
inverted before tallies =
    map (λ task. with_inversion (is_inverted before task) (tally_at tallies task))
    (numbers (length tallies))

-- the tally of the task with what the step finds, if it is a tick
unfoldable pub found_tally : View → Step → ℕ → TaskTally → TaskTally
found_tally before step task tally = record {
  run = map (λ core. run_at tally core
      + one_if (is_tick step && current before.control core == task)) (numbers (length tally.run));
  counts = record tally.counts {
    wait = tally.counts.wait + one_if (is_tick step && wants_core before task);
    inverted = tally.counts.inverted
        + one_if ((is_tick step && wants_core before task) && outranks_some before.control task);
  };
}

unfoldable pub found : View → Step → List TaskTally → List TaskTally
found before step tallies =
    map (λ task. found_tally before step task (tally_at tallies task)) (numbers (length tallies))

-- a core that switches, and the task that it had
unfoldable pub left_by : View → Step → Option (ℕ × ℕ)
left_by before (Switch core) =
    if nat_lt core before.settings.cores then Some (core, current before.control core) else None
left_by before step = None

-- a switch to another task
abbrev pub event_of_switch : ℕ → ℕ → Option Event
event_of_switch left runs = if runs == left then None else Some (SwitchedIn runs)

abbrev pub is_finish : KernelCall → Bool
is_finish Finish = true
is_finish call = false

-- a call that is answered E2, or one that finishes a wait whose ticks ran out
abbrev pub event_of_call : ℕ → KernelCall → Reply → Option Event
event_of_call task call reply =
    if is_displacement reply then Some (Displaced task)
    else if is_finish call && says_run_out reply then Some (RanOut task)
    else None

-- what the step is to a task, by the core that switched, the reply and the cores after it
abbrev pub event_of : Option (ℕ × ℕ) → Step → Reply → Control → Option Event
event_of (Some left) step reply after = event_of_switch left.1 (current after left.0)
event_of None (Call core task call) reply after = event_of_call task call reply
event_of None step reply after = None

-- the task that it is an event of
abbrev pub task_of : Event → ℕ
task_of (SwitchedIn task) = task
task_of (Displaced task) = task
task_of (RanOut task) = task

abbrev pub is_switch_in : Option Event → ℕ → Bool
is_switch_in (Some (SwitchedIn other)) task = other == task
is_switch_in event task = false

abbrev pub is_displaced_call : Option Event → ℕ → Bool
is_displaced_call (Some (Displaced other)) task = other == task
is_displaced_call event task = false

abbrev pub is_run_out : Option Event → ℕ → Bool
is_run_out (Some (RanOut other)) task = other == task
is_run_out event task = false

-- the tally of the task with the event, if it is the task's
unfoldable pub event_tally : Option Event → ℕ → TaskTally → TaskTally
event_tally event task tally = record tally {
  counts = record tally.counts {
    switched = tally.counts.switched + one_if (is_switch_in event task);
    displaced = tally.counts.displaced + one_if (is_displaced_call event task);
    timeouts = tally.counts.timeouts + one_if (is_run_out event task);
  };
}

unfoldable pub with_event : Option Event → List TaskTally → List TaskTally
with_event event tallies =
    map (λ task. event_tally event task (tally_at tallies task)) (numbers (length tallies))

-- the tally of the task with the priority that it has in use now
unfoldable pub top_tally : Control → ℕ → TaskTally → TaskTally
top_tally control task tally = record tally {
  counts = record tally.counts { top = max tally.counts.top (task_at control task).in_use };
}

unfoldable pub topped : Control → List TaskTally → List TaskTally
topped control tallies =
    map (λ task. top_tally control task (tally_at tallies task)) (numbers (length tallies))

-- the lowest effective priority of the current tasks of these cores: one of them has it, and none a
-- lower one
pub record IsLowest (control : Control) (cores lowest : ℕ) : Type 0 where
  pub below : (core : ℕ) → core < cores → lowest ≤ effective control (current control core)
  pub reached :
      (core : ℕ) × (core < cores) × (effective control (current control core) ≡ lowest)

-- one more event can be counted
pub record HasEventRoom (tally : TaskTally) : Type 0 where
  pub switched : tally.counts.switched < 2 ^ 32 - 1
  pub displaced : tally.counts.displaced < 2 ^ 32 - 1
  pub timeouts : tally.counts.timeouts < 2 ^ 32 - 1

-- one more tick can be counted in which the task waits
pub record HasWaitRoom (tally : TaskTally) : Type 0 where
  pub wait : tally.counts.wait < 2 ^ 32 - 1
  pub inverted : tally.counts.inverted < 2 ^ 32 - 1
