-- The calls that set a task's priority, core affinity mask and preemption: how each is seen, and that each keeps soundness.
use Rattle.std.proofs.Common.{◌≡◌, ℕ, ◌-◌, ◌%◌, ◌^◌, ◌<◌, Bool, true, false, cond, not, eqb, ltb, ◌&&◌, ◌||◌, List, length, Option, Some, None, refl, sym, ap}
use Rattle.std.proofs.Common.{subst, ◌∙◌, arith}
use Rattle.std.specs.Option.{option_map_or}
use Rattle.std.proofs.lemmas.Bool.Decides.{nat_tests}
use Rattle.std.proofs.lemmas.Nat.{pow_pos}
use Rattle.std.proofs.Math.Nat.{mod-lt}
use Rattle.bench_types.specs.declared.kernel_data.Settings.{Settings}
use Rattle.bench_types.specs.declared.kernel_data.TaskControl.{TaskControl}
use Rattle.bench_types.specs.Header.{cores_of_mask}
use Rattle.list_orders.specs.Search.{numbers}
use Rattle.bench_model.specs.Control.{Control, core_at, task_at, current, in_mask, ask, runs_on, ask_its_core}
use Rattle.bench_model.specs.Table.{Stamps, Table, stamp_queues, is_ready}
use Rattle.bench_model.specs.Lists as seen
use Rattle.bench_model.specs.Lists.{View, list_queues, lists_of, view_of}
use Rattle.bench_model.specs.Seek.{seek}
use Rattle.bench_model.specs.ControlFields.{with_task, with_base, with_affinity, with_preemption, in_use_set, value_set}
use Rattle.bench_model.specs.PriorityAffinity.{capped, in_use_after, yields_after_priority_set, yields_after_affinity_set, priority_set, affinity_set}
use Rattle.bench_model.specs.PriorityAffinity.{preemption_off, preemption_on}
use Rattle.rule_laws.specs.SetLaws.{on_control}
use Rattle.bench_model.specs.Sound.{IsControlBlock, IsConsistent}
use Rattle.list_orders.proofs.Bests.{found}
use Rattle.rule_laws.proofs.ControlFields.{change_apart, change_sound, in_use_seen, in_use_settings, in_use_sound, value_seen, value_sound}
use Rattle.list_orders.proofs.Filters.{All-has}
use Rattle.rule_laws.proofs.Seeks.{seek_more}
use Rattle.order_laws.proofs.SeenMoves.{is_ready_seen}
use Rattle.order_laws.proofs.SeenSteps.{same_state, lists_of_cores}
use Rattle.order_laws.proofs.SoundSteps.{IsAskedMore, asked_more, more_sound, with_control}
use Rattle.list_orders.proofs.Stamped.{numbers_below}

abbrev keeps_running : Control → ℕ → ℕ → Bool
keeps_running control task core = eqb (current control core) task && not (core_at control core).asked

runs_below : (control : Control) (task core : ℕ) → runs_on control task ≡ Some core → core < length control.cores
unfolding runs_on
runs_below control task core same =
    let cores = length control.cores in
    All-has (λ c. c < cores) core (numbers cores) (numbers_below cores) (found (keeps_running control task) (numbers cores) core same).0

-- what each rule asks: one core, or none
none_more : (control : Control) → IsAskedMore control control
none_more control = record { cores = refl; tasks = refl; currents = λ c. refl; due = λ c is. is }

either_more : (control one other : Control) (b : Bool) → IsAskedMore control one → IsAskedMore control other → IsAskedMore control (cond b one other)
either_more control one other true here there = here
either_more control one other false here there = there

pub its_core_more : (acting task : ℕ) (control : Control) → IsAskedMore control (ask_its_core acting task control)
unfolding ask_its_core
its_core_more acting task control = at (runs_on control task) refl
  where
    at : (o : Option ℕ) → runs_on control task ≡ o → IsAskedMore control (option_map_or (λ core. ask acting core control) o control)
    at None same = none_more control
    at (Some core) same = asked_more control acting core (runs_below control task core same)

pub after_priority_set_more : (acting task old new : ℕ) (ready : Bool) (control : Control) → IsAskedMore control
    (yields_after_priority_set acting task old new ready control)
unfolding yields_after_priority_set
after_priority_set_more acting task old new ready control =
    let asked = ask_its_core acting task control in
    let lowered = ltb new old && (task_at control task).preempt in
    either_more control (seek acting task (in_mask control task) control) (cond lowered asked control) (ltb old new && ready)
    (seek_more acting task (in_mask control task) control)
    (either_more control asked control lowered (its_core_more acting task control) (none_more control))

pub after_affinity_set_more : (acting task : ℕ) (ready : Bool) (control : Control) → IsAskedMore control (yields_after_affinity_set acting task ready control)
unfolding yields_after_affinity_set
after_affinity_set_more acting task ready control = at (runs_on control task) refl
  where
    sought : Control
    sought = seek acting task (in_mask control task) control

    at : (o : Option ℕ) → runs_on control task ≡ o → IsAskedMore control
        (option_map_or (λ core. cond (in_mask control task core) control (ask acting core control)) o (cond ready sought control))
    at None same = either_more control sought control ready (seek_more acting task (in_mask control task) control) (none_more control)
    at (Some core) same = either_more control control (ask acting core control) (in_mask control task core) (none_more control)
        (asked_more control acting core (runs_below control task core same))

-- the orders do not read the cores, some of which may be asked
pub more_apart : (control other : Control) (stamps : Stamps) → IsAskedMore control other → lists_of other stamps ≡ lists_of control stamps
more_apart control other stamps more =
    ap (λ (tasks : List TaskControl). lists_of (record { cores = other.cores; tasks = tasks }) stamps) more.tasks ∙ lists_of_cores control other.cores stamps

more_seen : (table : Table) (other : Control) → IsAskedMore table.control other → view_of (with_control table other) ≡ record (view_of table)
    { control = other }
more_seen table other more = same_state table.settings other other table.calls table.notes table.holders table.queues table.hold _ _ refl
    (more_apart table.control other table.orders more)

pub its_core_seen : (table : Table) (acting task : ℕ) → view_of (on_control (ask_its_core acting task) table) ≡ on_control (ask_its_core acting task)
    (view_of table)
its_core_seen table acting task = more_seen table (ask_its_core acting task table.control) (its_core_more acting task table.control)

pub after_priority_set_seen : (table : Table) (acting task old new : ℕ) (ready : Bool) → view_of
    (on_control (yields_after_priority_set acting task old new ready) table) ≡ on_control (yields_after_priority_set acting task old new ready) (view_of table)
after_priority_set_seen table acting task old new ready = more_seen table (yields_after_priority_set acting task old new ready table.control)
    (after_priority_set_more acting task old new ready table.control)

pub after_affinity_set_seen : (table : Table) (acting task : ℕ) (ready : Bool) → view_of (on_control (yields_after_affinity_set acting task ready) table) ≡
    on_control (yields_after_affinity_set acting task ready) (view_of table)
after_affinity_set_seen table acting task ready = more_seen table (yields_after_affinity_set acting task ready table.control)
    (after_affinity_set_more acting task ready table.control)

pub its_core_sound : (table : Table) (acting task : ℕ) → IsConsistent table → IsConsistent (on_control (ask_its_core acting task) table)
its_core_sound table acting task sound = more_sound table (ask_its_core acting task table.control) (its_core_more acting task table.control) sound

pub after_priority_set_sound : (table : Table) (acting task old new : ℕ) (ready : Bool) → IsConsistent table → IsConsistent
    (on_control (yields_after_priority_set acting task old new ready) table)
after_priority_set_sound table acting task old new ready sound = more_sound table (yields_after_priority_set acting task old new ready table.control)
    (after_priority_set_more acting task old new ready table.control) sound

pub after_affinity_set_sound : (table : Table) (acting task : ℕ) (ready : Bool) → IsConsistent table → IsConsistent
    (on_control (yields_after_affinity_set acting task ready) table)
after_affinity_set_sound table acting task ready sound = more_sound table (yields_after_affinity_set acting task ready table.control)
    (after_affinity_set_more acting task ready table.control) sound

-- a control block that keeps its priority in use
change_seen : (table : Table) (task : ℕ) (block : TaskControl) → block.in_use ≡ (task_at table.control task).in_use → view_of
    (with_control table (with_task task block table.control)) ≡ record (view_of table) { control = with_task task block table.control }
change_seen table task block kept = same_state table.settings _ _ table.calls table.notes table.holders table.queues table.hold _ _ refl
    (change_apart table.control table.orders task block kept)

-- a control block with another preemption flag, and one with a mask that was cut
flagged : (table : Table) (task : ℕ) → IsConsistent table → task < table.settings.tasks → (on : Bool) → IsControlBlock table.settings
    (record (task_at table.control task) { preempt = on })
flagged table task sound low on = let block = sound.blocks task low in record { in_use = block.in_use; base = block.base; mask = block.mask }

masked : (table : Table) (task mask : ℕ) → IsConsistent table → task < table.settings.tasks → IsControlBlock table.settings
    (record (task_at table.control task) { mask = cores_of_mask (length table.control.cores) mask })
masked table task mask sound low =
    let block = sound.blocks task low in
    record {
      in_use = block.in_use;
      base = block.base;
      mask = subst (λ cores. mask % 2 ^ length table.control.cores < 2 ^ cores) sound.sized.cores (mod-lt mask (pow_pos (length table.control.cores)));
    }

pub off_seen : (table : Table) (task : ℕ) → view_of (preemption_off stamp_queues task table) ≡ preemption_off list_queues task (view_of table)
unfolding preemption_off
off_seen table task = change_seen table task (record (task_at table.control task) { preempt = false }) refl

pub off_sound : (table : Table) (task : ℕ) → IsConsistent table → task < table.settings.tasks → IsConsistent (preemption_off stamp_queues task table)
unfolding preemption_off
off_sound table task sound low = change_sound table task (record (task_at table.control task) { preempt = false }) sound (flagged table task sound low false)

pub on_seen : (table : Table) (acting task : ℕ) → view_of (preemption_on stamp_queues acting task table) ≡ preemption_on list_queues acting task (view_of table)
unfolding preemption_on
on_seen table acting task =
    its_core_seen (with_control table (with_preemption task true table.control)) acting task
    ∙ ap (on_control (ask_its_core acting task)) (change_seen table task (record (task_at table.control task) { preempt = true }) refl)

pub on_sound : (table : Table) (acting task : ℕ) → IsConsistent table → task < table.settings.tasks → IsConsistent
    (preemption_on stamp_queues acting task table)
unfolding preemption_on
on_sound table acting task sound low =
    its_core_sound (with_control table (with_preemption task true table.control)) acting task
    (change_sound table task (record (task_at table.control task) { preempt = true }) sound (flagged table task sound low true))

pub ready_seen : (table : Table) (task : ℕ) → IsConsistent table → task < table.settings.tasks → is_ready task table.orders ≡ seen.is_ready task
    (lists_of table.control table.orders)
ready_seen table task sound low = sym (is_ready_seen table.control table.orders task sound.stamped.given (omega (arith, sound.sized.rows)))

pub affinity_seen : (table : Table) (acting task mask : ℕ) → IsConsistent table → task < table.settings.tasks → view_of
    (affinity_set stamp_queues acting task mask table) ≡ affinity_set list_queues acting task mask (view_of table)
unfolding affinity_set
affinity_seen table acting task mask sound low =
    let changed = with_affinity task mask table.control in
    after_affinity_set_seen (with_control table changed) acting task (is_ready task table.orders)
    ∙ ap (on_control (yields_after_affinity_set acting task (is_ready task table.orders))) (change_seen table task _ refl)
    ∙ ap (λ ready. record (view_of table) { control = yields_after_affinity_set acting task ready changed }) (ready_seen table task sound low)

pub affinity_sound : (table : Table) (acting task mask : ℕ) → IsConsistent table → task < table.settings.tasks → IsConsistent
    (affinity_set stamp_queues acting task mask table)
unfolding affinity_set
affinity_sound table acting task mask sound low =
    after_affinity_set_sound (with_control table (with_affinity task mask table.control)) acting task (is_ready task table.orders)
    (change_sound table task _ sound (masked table task mask sound low))

either_below : (x y bound : ℕ) (b : Bool) → x < bound → y < bound → cond b x y < bound
either_below x y bound true here there = here
either_below x y bound false here there = there

capped_below : (priorities priority : ℕ) → 0 < priorities → capped priorities priority < priorities
capped_below priorities priority some = at (ltb priority priorities) refl
  where
    at : (b : Bool) → ltb priority priorities ≡ b → cond b priority (priorities - 1) < priorities
    at true below = grind (arith, nat_tests, below)
    at false above = omega arith

pub either_seen : (b : Bool) (x y : Table) (v w : View) → view_of x ≡ v → view_of y ≡ w → view_of (cond b x y) ≡ cond b v w
either_seen true x y v w here there = here
either_seen false x y v w here there = there

pub either_sound : (b : Bool) (x y : Table) → IsConsistent x → IsConsistent y → IsConsistent (cond b x y)
either_sound true x y here there = here
either_sound false x y here there = there

-- a priority that is set
module _ (table : Table) (task priority : ℕ) (sound : IsConsistent table) (low : task < table.settings.tasks) where
  abbrev block : TaskControl
  block = task_at table.control task

  abbrev new : ℕ
  new = capped table.settings.priorities priority

  abbrev based : Table
  based = with_control table (with_base task new table.control)

  abbrev based_view : View
  based_view = record (view_of table) { control = with_base task new table.control }

  new_below : new < table.settings.priorities
  new_below = capped_below table.settings.priorities priority (omega (arith, (sound.blocks task low).in_use))

  based_sound : IsConsistent based
  based_sound = change_sound table task (record block { base = new }) sound
      (record { in_use = (sound.blocks task low).in_use; base = new_below; mask = (sound.blocks task low).mask })

  set_seen : view_of (in_use_set stamp_queues task (in_use_after block new) based) ≡ in_use_set list_queues task (in_use_after block new) based_view
  set_seen =
      in_use_seen based task (in_use_after block new) based_sound low
      ∙ ap (in_use_set list_queues task (in_use_after block new)) (change_seen table task (record block { base = new }) refl)

  later_seen : view_of (value_set stamp_queues task new (in_use_set stamp_queues task (in_use_after block new) based)) ≡ value_set list_queues task new
      (in_use_set list_queues task (in_use_after block new) based_view)
  later_seen = value_seen (in_use_set stamp_queues task (in_use_after block new) based) task new ∙ ap (value_set list_queues task new) set_seen

  set_sound : IsConsistent (in_use_set stamp_queues task (in_use_after block new) based)
  set_sound = in_use_sound based task (in_use_after block new) based_sound low
      (either_below new block.in_use table.settings.priorities (eqb block.in_use block.base || ltb block.in_use new) new_below (sound.blocks task low).in_use)

  later_sound : IsConsistent (value_set stamp_queues task new (in_use_set stamp_queues task (in_use_after block new) based))
  later_sound = value_sound (in_use_set stamp_queues task (in_use_after block new) based) task new set_sound
      (subst (λ (s : Settings). new < s.priorities) (sym (in_use_settings based task (in_use_after block new))) new_below)

pub priority_seen : (table : Table) (acting task priority : ℕ) → IsConsistent table → task < table.settings.tasks → view_of
    (priority_set stamp_queues acting task priority table) ≡ priority_set list_queues acting task priority (view_of table)
unfolding priority_set
priority_seen table acting task priority sound low =
    let rule = yields_after_priority_set acting task (block table task priority sound low).base (new table task priority sound low) in
    let new = capped table.settings.priorities priority in
    let later = value_set stamp_queues task new
    (in_use_set stamp_queues task (in_use_after (task_at table.control task) new) (based table task priority sound low)) in
    let later_view = value_set list_queues task new
    (in_use_set list_queues task (in_use_after (task_at table.control task) new) (based_view table task priority sound low)) in
    either_seen (eqb (capped table.settings.priorities priority) (task_at table.control task).base) table _ (view_of table) _ refl
    (after_priority_set_seen later acting task (task_at table.control task).base (capped table.settings.priorities priority) (is_ready task table.orders)
    ∙ ap (on_control (rule (is_ready task table.orders))) (later_seen table task priority sound low)
    ∙ ap (λ ready. on_control (rule ready) later_view) (ready_seen table task sound low))

pub priority_sound : (table : Table) (acting task priority : ℕ) → IsConsistent table → task < table.settings.tasks → IsConsistent
    (priority_set stamp_queues acting task priority table)
unfolding priority_set
priority_sound table acting task priority sound low =
    either_sound (eqb (capped table.settings.priorities priority) (task_at table.control task).base) table _ sound
    (after_priority_set_sound _ acting task (task_at table.control task).base (capped table.settings.priorities priority) (is_ready task table.orders)
    (later_sound table task priority sound low))
