-- How tasks stand.
use Rattle.std.specs.Prelude.{ℕ, ◌+◌, ◌%◌, ◌^◌, ◌==◌, List, map, position, slice_index_or, false, Option, Some, None, option_map, if◌then◌else◌}
use Rattle.bench_types.specs.declared.cause.Cause.{Cause}
use Rattle.bench_types.specs.declared.kernel_data.CoreLook.{CoreLook}
use Rattle.bench_types.specs.declared.note.NoteState.TheVariants.{NotWaiting}
use Rattle.list_orders.specs.Search.{numbers}
use Rattle.bench_model.specs.Control.{core_at}
use Rattle.bench_model.specs.Looks.{ticks_left}
use Rattle.bench_model.specs.Table.{Table, stamp_queues, is_ready, tick_count}
use Rattle.bench_model.specs.Suspending.{is_suspended}
use Rattle.run_views.specs.Looks.{cause_in}
use Rattle.run_views.specs.declared.look.Look.{Look}
use Rattle.run_views.specs.declared.look.Standing.{Standing}
use Rattle.run_views.specs.declared.look.Standing.TheVariants as standing
use Rattle.run_views.specs.declared.look.TaskStatus.{TaskStatus}
use Rattle.run_pictures.specs.declared.stance.Stance.{Stance}
use Rattle.run_pictures.specs.declared.stance.Stance.TheVariants.{Runs, Ready, Blocked, Suspended}

-- what a look shows of a task
abbrev pub status_in : ℕ → Look → TaskStatus
status_in task look = slice_index_or look.tasks task (record {
  standing = standing.Ready;
  in_use = 0;
  base = 0;
  mask = 0;
  preempt = false;
  cause = None;
  value = 0;
  state = NotWaiting;
})

-- the first core of which the task is the current one
abbrev pub core_of : ℕ → List CoreLook → Option ℕ
core_of task cores = position (λ core. core.current == task) cores

abbrev pub stance_on : Option ℕ → Stance
stance_on None = Ready
stance_on (Some core) = Runs core

abbrev pub stance_with : Standing → Option Cause → Option ℕ → Stance
stance_with standing.Ready cause core = stance_on core
stance_with (standing.Blocked wake) cause core = Blocked wake cause
stance_with standing.Suspended cause core = Suspended

-- how the task stands in a look
abbrev pub stance_in : ℕ → Look → Stance
stance_in task look =
    let status = status_in task look in
    stance_with status.standing status.cause (core_of task look.cores)

-- How the task stands in a state: one that is ready runs where it is the current task of a core; a
-- task that is in no ready list is suspended, or it is blocked, for the ticks that are left or
-- without end, and waits for what its unfinished call waits for.
abbrev pub stance_of : Table → ℕ → Stance
stance_of table task =
    if is_ready task table.orders
    then stance_on (core_of task (map (core_at table.control) (numbers table.settings.cores)))
    else (if is_suspended stamp_queues task table then Suspended
    else Blocked (option_map (λ left. (tick_count table.orders + left) % 2 ^ 32)
    (ticks_left task table.orders)) (cause_in table task))
