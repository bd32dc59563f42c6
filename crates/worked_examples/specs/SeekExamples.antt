-- Worked choices: which core is asked for a task, who is sought another core, and whose time slice
-- ends.
use Rattle.std.specs.Prelude.{◌≡◌, ℕ, ◌==◌, List, [], ◌∷◌, ◌++◌, map, replicate, Bool, true, false, codes, Some, None, slice_set}
use Rattle.bench_types.specs.declared.header.Header.{Header}
use Rattle.bench_types.specs.declared.kernel_data.CoreLook.{CoreLook}
use Rattle.bench_types.specs.declared.kernel_data.TaskControl.{TaskControl}
use Rattle.bench_types.specs.declared.reply.Refusal.TheVariants.{NotDue}
use Rattle.bench_types.specs.declared.step.Step.TheVariants.{Switch, Call}
use Rattle.bench_types.specs.declared.step.Call.TheVariants.{Delay}
use Rattle.list_orders.specs.Search.{numbers}
use Rattle.bench_model.specs.Control.{Control, core_at, with_core, task_at, running}
use Rattle.bench_model.specs.Refusals.{refusal}
use Rattle.bench_model.specs.State.{yielded}
use Rattle.bench_model.specs.Table.{Table, stamp_queues, advance}
use Rattle.bench_model.specs.Seek.{core_to_yield, seek, may_move, wake, after_switch, sliced}
use Rattle.bench_model.specs.Start.{start}
use Rattle.bench_model.specs.Session.{state_at}
use Rattle.worked_examples.specs.Examples.{task, session_of, timed, three_tasks, one_task}

-- a task that may run on four cores
abbrev pub on_all : ℕ → TaskControl
on_all priority = record { base = priority; in_use = priority; mask = 15; preempt = true }

abbrev pub looks : ℕ → CoreLook
looks task = record { current = task; pend = false; asked = false }

-- Four cores with these current tasks, none of them due. Tasks 0 to 3 are the idle tasks, and tasks
-- 4 to 9 have the priorities 0, 1, 1, 2, 3 and 3.
abbrev pub four_cores : List ℕ → Control
four_cores currents = record {
  cores = map looks currents;
  tasks = replicate 4 (on_all 0) ++ map on_all (0 ∷ 1 ∷ 1 ∷ 2 ∷ 3 ∷ 3 ∷ []);
}

-- cores that run priorities 2, 1, 1 and 3
abbrev pub two_alike : Control
two_alike = four_cores (7 ∷ 5 ∷ 6 ∷ 9 ∷ [])

abbrev pub with_pend : ℕ → Control → Control
with_pend core control = with_core core (record (core_at control core) { pend = true }) control

abbrev pub with_asked : ℕ → Control → Control
with_asked core control = with_core core (record (core_at control core) { asked = true }) control

abbrev pub with_preemption_off : ℕ → Control → Control
with_preemption_off task control =
    record control
    { tasks = slice_set control.tasks task (record (task_at control task) { preempt = false }) }

abbrev pub all_cores : ℕ → Bool
all_cores core = true

pub record AskedCores : Type 0 where
  pub lowest : core_to_yield (four_cores (7 ∷ 4 ∷ 5 ∷ 6 ∷ [])) 8 all_cores ≡ Some 1
  pub greater_number_of_two : core_to_yield two_alike 8 all_cores ≡ Some 2
  pub greater_number_of_idle : core_to_yield (four_cores (0 ∷ 1 ∷ 4 ∷ 5 ∷ [])) 8 all_cores ≡ Some 1
  pub idle_below_priority_0 : core_to_yield (four_cores (0 ∷ 5 ∷ 6 ∷ 4 ∷ [])) 8 all_cores ≡ Some 0
  pub priority_0_above_idle : core_to_yield (four_cores (5 ∷ 1 ∷ 6 ∷ 7 ∷ [])) 4 all_cores ≡ Some 1
  pub equal_keeps_its_core : core_to_yield (four_cores (7 ∷ 6 ∷ 8 ∷ 9 ∷ [])) 5 all_cores ≡ None
  pub none_for_idle : core_to_yield (four_cores (0 ∷ 1 ∷ 2 ∷ 4 ∷ [])) 3 all_cores ≡ None
  pub pend_is_due : core_to_yield (with_pend 2 two_alike) 8 all_cores ≡ Some 1
  pub asked_is_due : core_to_yield (with_asked 2 two_alike) 8 all_cores ≡ Some 1
  pub preemption_off : core_to_yield (with_preemption_off 6 two_alike) 8 all_cores ≡ Some 1
  pub among_one : core_to_yield two_alike 8 (λ core. core == 0) ≡ Some 0
  pub among_none : core_to_yield two_alike 8 (λ core. core == 3) ≡ None

abbrev pub with_mask : ℕ → ℕ → Control → Control
with_mask task mask control =
    record control
    { tasks = slice_set control.tasks task (record (task_at control task) { mask = mask }) }

-- task 5 may run on cores 0, 1 and 2, and task 8 on cores 0 and 1
abbrev pub two_masks : Control
two_masks = with_mask 5 7 (with_mask 8 3 two_alike)

abbrev pub flags : Control → List (Bool × Bool)
flags control = map (λ look. (look.pend, look.asked)) control.cores

-- which task a core runs decides whether one is sought, and who acts decides which flag is set
pub record SoughtCores : Type 0 where
  pub other_is_asked :
      flags (seek 0 8 all_cores two_alike)
      ≡ (false, false) ∷ (false, false) ∷ (false, true) ∷ (false, false) ∷ []
  pub own_is_pending :
      flags (seek 2 8 all_cores two_alike)
      ≡ (false, false) ∷ (false, false) ∷ (true, false) ∷ (false, false) ∷ []
  pub runs_already : seek 0 9 all_cores two_alike ≡ two_alike
  pub pending_still_runs : seek 0 9 all_cores (with_pend 3 two_alike) ≡ with_pend 3 two_alike
  pub loser_leaves_cores_of_winner :
      map (may_move two_masks 5 8 1) (numbers 4) ≡ false ∷ false ∷ true ∷ false ∷ []
  pub loser_of_no_lost_core_goes_anywhere :
      map (may_move two_masks 5 8 3) (numbers 4) ≡ true ∷ true ∷ true ∷ false ∷ []
  pub asked_runs_no_more :
      flags (seek 0 9 all_cores (with_asked 3 two_alike))
      ≡ (false, false) ∷ (false, false) ∷ (false, true) ∷ (false, true) ∷ []

-- the tasks 2, 3 and 4; the first two may run on core 0 alone
abbrev pub crowded : Header
crowded =
    session_of ((record (task (codes "U") 3) { mask = 1 })
    ∷ (record (task (codes "V") 2) { mask = 1 }) ∷ task (codes "W") 1 ∷ [])

-- one tick later the task is woken
abbrev pub woken_by_tick : ℕ → Table → Table
woken_by_tick task table = wake stamp_queues 0 task (record table { orders = advance table.orders })

-- Task 2 waits for one tick, and core 0 runs another.
abbrev pub delayed_once : Header → Table
delayed_once header = state_at header (Call 0 2 (Delay 1) ∷ Switch 0 ∷ []) 2

-- task 3 may run on both cores now, and task 2 comes back to core 0
abbrev pub evicted : Table
evicted =
    after_switch stamp_queues 0
    (woken_by_tick 2
    (record (delayed_once crowded) { control = with_mask 3 3 (delayed_once crowded).control }))

pub record WorkedChoices : Type 0 where
  pub start_asks_none :
      flags (start (timed three_tasks)).control ≡ (false, false) ∷ (false, false) ∷ []
  pub start_has_none_due : refusal stamp_queues (Switch 0) (start (timed three_tasks)) ≡ Some NotDue
  pub shared_time :
      flags (sliced stamp_queues (start (timed three_tasks))).control
      ≡ (false, false) ∷ (false, true) ∷ []
  pub next_in_turn :
      running (after_switch stamp_queues 1
      (sliced stamp_queues (start (timed three_tasks)))).control ≡ 2 ∷ 4 ∷ []
  pub idle_share_too :
      flags (sliced stamp_queues (start (timed one_task))).control
      ≡ (false, false) ∷ (false, true) ∷ []
  pub due_is_not_asked :
      flags (sliced stamp_queues (yielded stamp_queues 1 (start (timed three_tasks)))).control
      ≡ (false, false) ∷ (true, false) ∷ []
  pub no_slicing : sliced stamp_queues (start three_tasks) ≡ start three_tasks
  pub woken_asks_greater_number :
      flags (woken_by_tick 2 (delayed_once three_tasks)).control
      ≡ (false, false) ∷ (false, true) ∷ []
  pub loser_seeks_another :
      (running evicted.control ≡ 2 ∷ 4 ∷ [])
      × (flags evicted.control ≡ (false, false) ∷ (false, true) ∷ [])
  pub loser_finds_another : running (after_switch stamp_queues 1 evicted).control ≡ 2 ∷ 3 ∷ []
