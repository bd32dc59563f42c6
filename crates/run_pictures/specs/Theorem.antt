-- What a picture shows is what the replay has.
use Rattle.std.specs.Prelude.{◌≡◌, ℕ, ◌+◌, ◌<◌, List, All, filter, length, map, Bool, Option, is_some}
use Rattle.std.specs.List.{list_any}
use Rattle.list_orders.specs.Search.{numbers}
use Rattle.bench_types.specs.declared.header.Header.{Header}
use Rattle.bench_types.specs.declared.kernel_data.Hold.{Hold}
use Rattle.bench_types.specs.declared.step.Step.{Step}
use Rattle.bench_model.specs.Control.{core_at, current, task_at}
use Rattle.bench_model.specs.Queues.{queue_at}
use Rattle.bench_model.specs.Session.{state_at}
use Rattle.bench_model.specs.State.{holder_at}
use Rattle.bench_model.specs.Table.{Table, tick_count}
use Rattle.run_views.specs.declared.places.Places.{Places}
use Rattle.run_pictures.specs.declared.pose.Detail.TheVariants.{FirstPlace}
use Rattle.run_pictures.specs.declared.pose.Pose.{Pose}
use Rattle.run_pictures.specs.declared.shown.Due.{Due}
use Rattle.run_pictures.specs.declared.shown.Priorities.{Priorities}
use Rattle.run_pictures.specs.declared.stance.Stance.{Stance}
use Rattle.run_pictures.specs.declared.stretch.Stretch.{Stretch}
use Rattle.run_pictures.specs.declared.task_names.Terms.{Terms}
use Rattle.run_pictures.specs.Hindrances.{hindrances_of}
use Rattle.run_pictures.specs.RunLooks.{looks_of, shown_places}
use Rattle.run_pictures.specs.MutexLines.{taken_mutexes}
use Rattle.run_pictures.specs.Poses.{detailed_stretches, pose_of, pose_stretches, stance_of_pose}
use Rattle.run_pictures.specs.Preemption.{preempt_stretches}
use Rattle.run_pictures.specs.TaskStretches.{current_stretches, due_stretches, hold_stretches, holder_stretches, own_hold, priority_stretches, stance_stretches}
use Rattle.run_pictures.specs.QueueLines.{changed_queues, do_differ, queues_of}
use Rattle.run_pictures.specs.TaskStretches.{message_stretches, tick_stretches}
use Rattle.run_pictures.specs.Stances.{stance_of}
use Rattle.run_pictures.specs.StretchesOf.{with_value, Tiles}
use Rattle.run_pictures.specs.TaskNames.{terms_stretches}

abbrev pub priorities_at : Table → ℕ → Priorities
priorities_at table task = record {
  in_use = (task_at table.control task).in_use;
  base = (task_at table.control task).base;
}

abbrev pub terms_at : Table → ℕ → Terms
terms_at table task = record {
  base = (task_at table.control task).base;
  mask = (task_at table.control task).mask;
}

abbrev pub due_at : Table → ℕ → Due
due_at table core = record {
  pend = (core_at table.control core).pend;
  asked = (core_at table.control core).asked;
}

-- the current task of the core at each place that is shown
abbrev pub currents_of : Places → Header → List Step → ℕ → List ℕ
currents_of places header steps core =
    map (λ place. current (state_at header steps place).control core) (shown_places places steps)

-- how the task stands there
abbrev pub stances_of : Places → Header → List Step → ℕ → List Stance
stances_of places header steps task =
    map (λ place. stance_of (state_at header steps place) task) (shown_places places steps)

-- the tick count there
abbrev pub ticks_of : Places → Header → List Step → List ℕ
ticks_of places header steps =
    map (λ place. tick_count (state_at header steps place).orders) (shown_places places steps)

-- how the task stands there, and what is in its way
abbrev pub poses_of : Places → Header → List Step → ℕ → List Pose
poses_of places header steps task =
    map (λ place. pose_of (state_at header steps place) task) (shown_places places steps)

-- the task's priority in use and its base priority there
abbrev pub priorities_of : Places → Header → List Step → ℕ → List Priorities
priorities_of places header steps task =
    map (λ place. priorities_at (state_at header steps place) task) (shown_places places steps)

-- its base priority and its mask there
abbrev pub terms_of : Places → Header → List Step → ℕ → List Terms
terms_of places header steps task =
    map (λ place. terms_at (state_at header steps place) task) (shown_places places steps)

-- whether its preemption is on there
abbrev pub preempts_of : Places → Header → List Step → ℕ → List Bool
preempts_of places header steps task =
    map (λ place. (task_at (state_at header steps place).control task).preempt)
    (shown_places places steps)

-- by whom the core was asked to switch there
abbrev pub dues_of : Places → Header → List Step → ℕ → List Due
dues_of places header steps core =
    map (λ place. due_at (state_at header steps place) core) (shown_places places steps)

-- the hold of the kernel there, where it is the core's
abbrev pub holds_of : Places → Header → List Step → ℕ → List (Option Hold)
holds_of places header steps core =
    map (λ place. own_hold core (state_at header steps place).hold) (shown_places places steps)

-- the task that holds the mutex there
abbrev pub holders_of : Places → Header → List Step → ℕ → List (Option ℕ)
holders_of places header steps mutex =
    map (λ place. holder_at (state_at header steps place).holders mutex)
    (shown_places places steps)

-- the mutexes that a task holds at some of these places
abbrev pub taken_of : Places → Header → List Step → List ℕ
taken_of places header steps =
    filter (λ mutex. list_any is_some (holders_of places header steps mutex))
    (numbers header.config.mutexes)

-- how many messages the queue has there
abbrev pub messages_of : Places → Header → List Step → ℕ → List ℕ
messages_of places header steps queue =
    map (λ place. (queue_at (state_at header steps place).queues queue).messages)
    (shown_places places steps)

-- the queues that have not the same number of messages at all of these places
abbrev pub changed_of : Places → Header → List Step → List ℕ
changed_of places header steps =
    filter (λ queue. do_differ (messages_of places header steps queue))
    (numbers (queues_of header))

-- Of stretches that tell what is in the way at their first place alone: how the task stands there
-- tiles the places, and what each tells is in the way at its first place in the replay.
pub record AreOpened (places : Places) (header : Header) (steps : List Step) (task : ℕ)
    (stretches : List (Stretch Pose)) : Type 0 where
  pub stances : Tiles places.from (stances_of places header steps task)
      (map (with_value stance_of_pose) stretches)
  pub first : All (λ stretch. stretch.value.hindrances
      ≡ hindrances_of (state_at header steps stretch.first) task) stretches

-- the stretches that are drawn tile what the replay has at the places that are shown; a mutex has
-- a row where a task holds it at one of these, and a queue where its messages change among them
pub record IsTiled (places : Places) (header : Header) (steps : List Step) : Type 0 where
  pub cores : (core : ℕ) → core < header.config.cores
      → Tiles places.from (currents_of places header steps core)
      (current_stretches places.from (looks_of places header steps) core)
  pub tasks : (task : ℕ) → task < header.config.cores + length header.tasks
      → Tiles places.from (stances_of places header steps task)
      (stance_stretches places.from (looks_of places header steps) task)
  pub poses : (task : ℕ) → task < header.config.cores + length header.tasks
      → Tiles places.from (poses_of places header steps task)
      (pose_stretches places.from (looks_of places header steps) task)
  pub opened : (task : ℕ) → task < header.config.cores + length header.tasks
      → AreOpened places header steps task
      (detailed_stretches FirstPlace places.from (looks_of places header steps) task)
  pub priorities : (task : ℕ) → task < header.config.cores + length header.tasks
      → Tiles places.from (priorities_of places header steps task)
      (priority_stretches places.from (looks_of places header steps) task)
  pub terms : (task : ℕ) → task < header.config.cores + length header.tasks
      → Tiles places.from (terms_of places header steps task)
      (terms_stretches places.from (looks_of places header steps) task)
  pub preempts : (task : ℕ) → task < header.config.cores + length header.tasks
      → Tiles places.from (preempts_of places header steps task)
      (preempt_stretches places.from (looks_of places header steps) task)
  pub dues : (core : ℕ) → core < header.config.cores
      → Tiles places.from (dues_of places header steps core)
      (due_stretches places.from (looks_of places header steps) core)
  pub holds : (core : ℕ) → core < header.config.cores
      → Tiles places.from (holds_of places header steps core)
      (hold_stretches places.from (looks_of places header steps) core)
  pub holders : (mutex : ℕ) → mutex < header.config.mutexes
      → Tiles places.from (holders_of places header steps mutex)
      (holder_stretches places.from (looks_of places header steps) mutex)
  pub taken : taken_mutexes header (looks_of places header steps) ≡ taken_of places header steps
  pub messages : (queue : ℕ) → queue < queues_of header
      → Tiles places.from (messages_of places header steps queue)
      (message_stretches places.from (looks_of places header steps) queue)
  pub changed : changed_queues header (looks_of places header steps)
      ≡ changed_of places header steps
  pub ticks : Tiles places.from (ticks_of places header steps)
      (tick_stretches places.from (looks_of places header steps))
