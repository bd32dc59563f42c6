-- What is in the way of a ready task that is on no core.
use Rattle.std.specs.Prelude.{ℕ, suc, List, [], length, map, Bool, ◌||◌, ◌==◌, nat_le, nat_lt, Option, Some, None, if◌then◌else◌}
use Rattle.std.specs.Int.{bit_at}
use Rattle.bench_types.specs.declared.kernel_data.Hold.{Hold}
use Rattle.list_orders.specs.Search.{numbers}
use Rattle.bench_model.specs.Control.{current, is_allowed, is_due, task_at}
use Rattle.bench_model.specs.Seek.{effective}
use Rattle.bench_model.specs.Table.{Table}
use Rattle.run_views.specs.declared.look.Look.{Look}
use Rattle.run_pictures.specs.declared.hindrance.Hindrance.{Hindrance}
use Rattle.run_pictures.specs.declared.hindrance.Obstacle.{Obstacle}
use Rattle.run_pictures.specs.declared.hindrance.Obstacle.TheVariants.{Masked, Held, Due, Unpreempted, Outranked, Lower}
use Rattle.run_pictures.specs.declared.hindrance.Rival.{Rival}
use Rattle.run_pictures.specs.declared.hindrance.Site.{Site}
use Rattle.run_pictures.specs.declared.stance.Stance.{Stance}
use Rattle.run_pictures.specs.declared.stance.Stance.TheVariants.{Runs, Ready, Blocked, Suspended}
use Rattle.run_pictures.specs.TaskStretches.{core_in, current_in}
use Rattle.run_pictures.specs.Stances.{stance_in, stance_of, status_in}

-- The task that runs instead of one of the effective priority: its own is not lower; or it is, and
-- its preemption is off; or else the core was not asked to switch.
abbrev pub obstacle_by : ℕ → Rival → Obstacle
obstacle_by own rival =
    if nat_le own rival.effective then Outranked rival.task rival.priority
    else (if rival.preempt then Lower rival.task rival.priority
    else Unpreempted rival.task rival.priority)

-- a hold of the kernel, where there is one, and else what is found at the core
abbrev pub hold_or : Option Hold → Obstacle → Obstacle
hold_or None found = found
hold_or (Some hold) found = Held hold.core

-- What keeps a core from a ready task of the effective priority, the first of these: its mask, a
-- hold of the kernel, a switch of the core that is to come, and the task that runs there.
abbrev pub obstacle_at : ℕ → Option Hold → Site → Obstacle
obstacle_at own hold site =
    if site.allowed
    then hold_or hold (if site.due then Due else obstacle_by own site.rival)
    else Masked

-- those of a task that is ready and on no core
abbrev pub where_ready : Stance → List Hindrance → List Hindrance
where_ready Ready hindrances = hindrances
where_ready (Runs core) hindrances = []
where_ready (Blocked wake cause) hindrances = []
where_ready Suspended hindrances = []

-- ---- in a look

-- the mask has the core
abbrev pub has_core : ℕ → ℕ → Bool
has_core mask core = bit_at mask core == 1

-- the first tasks are the idle tasks, one for each core
abbrev pub is_idle_in : ℕ → Look → Bool
is_idle_in task look = nat_lt task (length look.cores)

-- the task's effective priority: those in use count from 1, and an idle task has 0
abbrev pub effective_in : ℕ → Look → ℕ
effective_in task look = if is_idle_in task look then 0 else suc (status_in task look).in_use

abbrev pub rival_in : ℕ → Look → Rival
rival_in task look = record {
  task = task;
  priority = (status_in task look).in_use;
  effective = effective_in task look;
  preempt = (status_in task look).preempt;
}

-- a core as the task finds it; an idle task may run on each
abbrev pub site_in : ℕ → Look → ℕ → Site
site_in task look core = record {
  allowed = is_idle_in task look || has_core (status_in task look).mask core;
  due = (core_in core look).pend || (core_in core look).asked;
  rival = rival_in (current_in core look) look;
}

abbrev pub hindrance_in : ℕ → Look → ℕ → Hindrance
hindrance_in task look core = record {
  core = core;
  by = obstacle_at (effective_in task look) look.hold (site_in task look core);
}

-- what is in the way of the task at each core, where it is ready and on none
abbrev pub hindrances_in : ℕ → Look → List Hindrance
hindrances_in task look =
    where_ready (stance_in task look)
    (map (hindrance_in task look) (numbers (length look.cores)))

-- ---- in a state

abbrev pub rival_of : Table → ℕ → Rival
rival_of table task = record {
  task = task;
  priority = (task_at table.control task).in_use;
  effective = effective table.control task;
  preempt = (task_at table.control task).preempt;
}

-- a core as the task finds it
abbrev pub site_of : Table → ℕ → ℕ → Site
site_of table task core = record {
  allowed = is_allowed table.control core task;
  due = is_due table.control core;
  rival = rival_of table (current table.control core);
}

abbrev pub hindrance_of : Table → ℕ → ℕ → Hindrance
hindrance_of table task core = record {
  core = core;
  by = obstacle_at (effective table.control task) table.hold (site_of table task core);
}

-- what is in the way of the task at each core, where it is ready and on none
abbrev pub hindrances_of : Table → ℕ → List Hindrance
hindrances_of table task =
    where_ready (stance_of table task)
    (map (hindrance_of table task) (numbers table.settings.cores))
