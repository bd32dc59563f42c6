-- What can be seen of cores and tasks and carries no order, and the words for it.
use Rattle.std.specs.Prelude.{ℕ, List, length, map, find, Bool, true, false, not, ◌&&◌, ◌||◌, ◌==◌, nat_lt, Option, if◌then◌else◌, slice_index_or, slice_set}
use Rattle.std.specs.List.{list_any}
use Rattle.std.specs.Int.{bit_at}
use Rattle.std.specs.Option.{option_map_or}
use Rattle.bench_types.specs.declared.kernel_data.CoreLook.{CoreLook}
use Rattle.bench_types.specs.declared.kernel_data.TaskControl.{TaskControl}
use Rattle.list_orders.specs.Search.{numbers}

-- the cores, core 0 first, and the tasks' control blocks, task 0 first
pub record Control : Type 0 where
  pub cores : List CoreLook
  pub tasks : List TaskControl

abbrev pub core_at : Control → ℕ → CoreLook
core_at control core =
    slice_index_or control.cores core (record { current = 0; pend = false; asked = false })

abbrev pub with_core : ℕ → CoreLook → Control → Control
with_core core look control = record control { cores = slice_set control.cores core look }

abbrev pub task_at : Control → ℕ → TaskControl
task_at control task =
    slice_index_or control.tasks task (record { base = 0; in_use = 0; mask = 0; preempt = false })

-- the core's current task (V11 tasks.c, pxCurrentTCBs)
abbrev pub current : Control → ℕ → ℕ
current control core = (core_at control core).current

-- the current tasks, core 0 first
abbrev pub running : Control → List ℕ
running control = map (λ core. core.current) control.cores

-- a core that was asked to switch, by itself or by another (V11 tasks.c, xYieldPendings and
-- prvYieldCore)
abbrev pub is_due : Control → ℕ → Bool
is_due control core = (core_at control core).pend || (core_at control core).asked

-- the first tasks are the idle tasks, one for each core (FreeRTOS SMP documentation, idle tasks)
abbrev pub is_idle : Control → ℕ → Bool
is_idle control task = nat_lt task (length control.cores)

-- the task's core affinity mask has the core (FreeRTOS SMP documentation, vTaskCoreAffinitySet)
abbrev pub in_mask : Control → ℕ → ℕ → Bool
in_mask control task core = bit_at (task_at control task).mask core == 1

-- the task may run on the core; an idle task may on each (FreeRTOS SMP documentation, idle tasks)
abbrev pub is_allowed : Control → ℕ → ℕ → Bool
is_allowed control core task = is_idle control task || in_mask control task core

-- the task is the current one of another core
abbrev pub is_elsewhere : Control → ℕ → ℕ → Bool
is_elsewhere control core task =
    list_any (λ other. not (other == core) && current control other == task)
    (numbers (length control.cores))

-- the core may select the task where it is ready (V11 tasks.c, prvSelectHighestPriorityTask)
abbrev pub may_select : Control → ℕ → ℕ → Bool
may_select control core task = is_allowed control core task && not (is_elsewhere control core task)

-- Asking a core: the core that acts notes it for itself, another is interrupted (V11 tasks.c,
-- prvYieldCore).
abbrev pub asked_by : ℕ → ℕ → CoreLook → CoreLook
asked_by acting core look =
    if core == acting then record look { pend = true } else record look { asked = true }

abbrev pub ask : ℕ → ℕ → Control → Control
ask acting core control = with_core core (asked_by acting core (core_at control core)) control

-- The core that the task runs on, and that no other core asked to switch; a blocked task is found
-- there too, until its core switches (V11 tasks.c, taskTASK_IS_RUNNING and xTaskRunState).
unfoldable pub runs_on : Control → ℕ → Option ℕ
runs_on control task =
    find (λ core. current control core == task && not (core_at control core).asked)
    (numbers (length control.cores))

-- that core is asked, if there is one (V11 tasks.c, prvYieldCore)
unfoldable pub ask_its_core : ℕ → ℕ → Control → Control
ask_its_core acting task control =
    option_map_or (λ core. ask acting core control) (runs_on control task) control

-- asking each core that passes the test
abbrev pub asked_where : ℕ → (ℕ → Bool) → Control → ℕ → CoreLook
asked_where acting test control core =
    let look = core_at control core in if test core then asked_by acting core look else look

abbrev pub ask_each : ℕ → (ℕ → Bool) → Control → Control
ask_each acting test control =
    record control
    { cores = map (asked_where acting test control) (numbers (length control.cores)) }

-- the core runs the task and is due no more
abbrev pub run_on : ℕ → ℕ → Control → Control
run_on core task control =
    with_core core (record { current = task; pend = false; asked = false }) control
