-- What changes of a control block do to the orders of a table, and that they keep it sound.
use Rattle.order_laws.proofs.ControlBlocks.{block_same, block_other, outranks_kept, others_stay}
use Rattle.std.proofs.Common.{◌≡◌, ℕ, ◌<◌, Bool, true, false, cond, List, [], length, refl, sym, ap, subst, ◌∙◌, arith, inl, inr}
use Rattle.std.proofs.lemmas.Bool.{cases_eq}
use Rattle.std.proofs.lemmas.List.{length-set}
use Rattle.bench_types.specs.declared.kernel_data.Settings.{Settings}
use Rattle.bench_types.specs.declared.kernel_data.TaskControl.{TaskControl}
use Rattle.list_orders.specs.Search.{placed, ranked, without, has}
use Rattle.bench_model.specs.Control.{Control, task_at}
use Rattle.bench_model.specs.ControlFields.{with_task, with_in_use, in_use_set, value_set, in_use_and_value_set}
use Rattle.bench_model.specs.Table.{Stamps, Table, stamp_queues, stands_ready, is_ready, add_to_ready_list, set_list_value}
use Rattle.bench_model.specs.Lists as seen
use Rattle.bench_model.specs.Lists.{Lists, list_queues, lists_of, outranks, view_of}
use Rattle.bench_model.specs.Sound.{IsControlBlock, IsConsistent}
use Rattle.order_laws.proofs.Entries.{without_absent}
use Rattle.order_laws.proofs.Restamps.{standing_so}
use Rattle.order_laws.proofs.SeenMoves.{is_ready_seen, add_to_ready_seen, set_list_value_seen}
use Rattle.order_laws.proofs.SeenSteps.{same_state}
use Rattle.order_laws.proofs.SoundMutexes.{valued_mutexes}
use Rattle.order_laws.proofs.SoundSteps.{ready_sound}
use Rattle.order_laws.proofs.Sizes.{lengths_of, resized}

-- what is seen of stamps where some items stay in front of others
lists_by : (ℕ → ℕ → Bool) → Stamps → Lists
lists_by front stamps = record (lists_of (record { cores = []; tasks = [] }) stamps) { ready = ranked front (standing_so stands_ready stamps) }

lists_of_by : (control : Control) (stamps : Stamps) → lists_of control stamps ≡ lists_by (outranks control) stamps
unfolding lists_of lists_by
lists_of_by control stamps = refl

pub change_apart : (control : Control) (stamps : Stamps) (task : ℕ) (block : TaskControl) → block.in_use ≡ (task_at control task).in_use → lists_of
    (with_task task block control) stamps ≡ lists_of control stamps
change_apart control stamps task block kept =
    lists_of_by (with_task task block control) stamps ∙ ap (λ front. lists_by front stamps) (outranks_kept control task block kept) ∙ sym
    (lists_of_by control stamps)

pub change_sound : (table : Table) (task : ℕ) (block : TaskControl) → IsConsistent table → IsControlBlock table.settings block → IsConsistent
    (record table { control = with_task task block table.control })
change_sound table task block sound low = record {
  sized = resized table _ refl (ap (λ a. record (lengths_of table) { controls = a }) (length-set table.control.tasks task block)) sound.sized;
  stamped = sound.stamped;
  in_place = record {
    is_task = sound.in_place.is_task;
    on_one_core = sound.in_place.on_one_core;
    blocked_is_due = sound.in_place.blocked_is_due;
    idle_is_ready = sound.in_place.idle_is_ready;
  };
  in_time = sound.in_time;
  blocks = λ i within. elim (cases_eq i task) [
    | inl here ↦ subst (IsControlBlock table.settings) (sym
        (ap (task_at (with_task task block table.control)) here ∙ block_same table.control task block (omega (arith, sound.sized.controls, here, within)))) low
    | inr away ↦ subst (IsControlBlock table.settings) (sym (block_other table.control task block i away)) (sound.blocks i within)
  ];
  calls = sound.calls;
  notes = sound.notes;
  mutexes = sound.mutexes;
}

-- of the changed task the old place is read no more
moved_last : (control changed : Control) (task : ℕ) (stamps : Stamps) → without task (ranked (outranks changed) (standing_so stands_ready stamps)) ≡ without
    task (ranked (outranks control) (standing_so stands_ready stamps)) → seen.add_to_ready_list changed task (lists_of changed stamps) ≡ seen.add_to_ready_list
    changed task (lists_of control stamps)
unfolding lists_of seen.add_to_ready_list
moved_last control changed task stamps same = ap (λ others. record (seen.add_to_ready_list changed task (lists_of control stamps))
    { ready = placed (outranks changed) task others }) same

has_ready : (control : Control) (task : ℕ) (stamps : Stamps) → has task (lists_of control stamps).ready ≡ has task
    (ranked (outranks control) (standing_so stands_ready stamps))
unfolding lists_of
has_ready control task stamps = refl

-- a blocked task has no place that its priority in use decides
blocked_apart : (table : Table) (task priority : ℕ) → IsConsistent table → task < table.settings.tasks → is_ready task table.orders ≡ false → lists_of
    (with_in_use task priority table.control) table.orders ≡ lists_of table.control table.orders
unfolding lists_by lists_of
blocked_apart table task priority sound low blocked =
    lists_of_by changed table.orders ∙ ap (λ ready. record (lists_of table.control table.orders) { ready = ready }) same ∙ sym
    (lists_of_by table.control table.orders)
  where
    changed : Control
    changed = with_in_use task priority table.control

    queue : List ℕ
    queue = standing_so stands_ready table.orders

    absent : (control : Control) → without task (ranked (outranks control) queue) ≡ ranked (outranks control) queue
    absent control = without_absent task (ranked (outranks control) queue)
        (sym (has_ready control task table.orders) ∙ is_ready_seen control table.orders task sound.stamped.given (omega (arith, sound.sized.rows)) ∙ blocked)

    same : ranked (outranks changed) queue ≡ ranked (outranks table.control) queue
    same = sym (absent changed) ∙ others_stay table.control task _ queue ∙ absent table.control

pub in_use_seen : (table : Table) (task priority : ℕ) → IsConsistent table → task < table.settings.tasks → view_of (in_use_set stamp_queues task priority table)
    ≡ in_use_set list_queues task priority (view_of table)
unfolding in_use_set
in_use_seen table task priority sound low = at (is_ready task table.orders) refl (has task (lists_of table.control table.orders).ready)
    (is_ready_seen table.control table.orders task sound.stamped.given below)
  where
    changed : Control
    changed = with_in_use task priority table.control

    below : task < length table.orders.rows
    below = omega (arith, sound.sized.rows)

    at : (b : Bool) → is_ready task table.orders ≡ b → (d : Bool) → d ≡ is_ready task table.orders → view_of
        (record table { control = changed; orders = cond b (add_to_ready_list task table.orders) table.orders }) ≡ record (view_of table)
        { control = changed; orders = cond d (seen.add_to_ready_list changed task (lists_of table.control table.orders)) (lists_of table.control table.orders) }
    at true is true same = same_state table.settings changed changed table.calls table.notes table.holders table.queues table.hold _ _ refl
        (add_to_ready_seen changed table.orders task sound.stamped.given below ∙ moved_last table.control changed task table.orders
        (others_stay table.control task _ (standing_so stands_ready table.orders)))
    at false is false same = same_state table.settings changed changed table.calls table.notes table.holders table.queues table.hold _ _ refl
        (blocked_apart table task priority sound low is)
    at true is false same = absurd (cc (is, same))
    at false is true same = absurd (cc (is, same))

pub in_use_sound : (table : Table) (task priority : ℕ) → IsConsistent table → task < table.settings.tasks → priority < table.settings.priorities → IsConsistent
    (in_use_set stamp_queues task priority table)
unfolding in_use_set
in_use_sound table task priority sound low below = at (is_ready task table.orders)
  where
    changed : Table
    changed = record table { control = with_in_use task priority table.control }

    still : IsConsistent changed
    still = let block = sound.blocks task low in change_sound table task _ sound (record { in_use = below; base = block.base; mask = block.mask })

    at : (b : Bool) → IsConsistent (record changed { orders = cond b (add_to_ready_list task changed.orders) changed.orders })
    at true = ready_sound changed task still low
    at false = still

-- ---- another list value

pub value_seen : (table : Table) (task value : ℕ) → view_of (value_set stamp_queues task value table) ≡ value_set list_queues task value (view_of table)
value_seen table task value = ap (λ orders. record (view_of table) { orders = orders }) (set_list_value_seen table.control table.orders task value)

pub value_sound : (table : Table) (task value : ℕ) → IsConsistent table → value < table.settings.priorities → IsConsistent
    (value_set stamp_queues task value table)
unfolding set_list_value
value_sound table task value sound below = record {
  sized = resized table _ refl (ap (λ a. record (lengths_of table) { values = a }) (length-set table.orders.values task value)) sound.sized;
  stamped = record { given = sound.stamped.given; once = sound.stamped.once };
  in_place = record {
    is_task = sound.in_place.is_task;
    on_one_core = sound.in_place.on_one_core;
    blocked_is_due = sound.in_place.blocked_is_due;
    idle_is_ready = sound.in_place.idle_is_ready;
  };
  in_time = sound.in_time;
  blocks = sound.blocks;
  calls = sound.calls;
  notes = sound.notes;
  mutexes = valued_mutexes table.settings table.calls table.holders table.orders sound.mutexes task value below;
}

-- with the priority in use
pub both_seen : (table : Table) (task priority : ℕ) → IsConsistent table → task < table.settings.tasks → view_of
    (in_use_and_value_set stamp_queues task priority table) ≡ in_use_and_value_set list_queues task priority (view_of table)
unfolding in_use_and_value_set
both_seen table task priority sound low =
    value_seen (in_use_set stamp_queues task priority table) task priority ∙ ap (value_set list_queues task priority) (in_use_seen table task priority sound low)

pub in_use_settings : (table : Table) (task priority : ℕ) → (in_use_set stamp_queues task priority table).settings ≡ table.settings
unfolding in_use_set
in_use_settings table task priority = refl

pub both_sound : (table : Table) (task priority : ℕ) → IsConsistent table → task < table.settings.tasks → priority < table.settings.priorities → IsConsistent
    (in_use_and_value_set stamp_queues task priority table)
unfolding in_use_and_value_set
both_sound table task priority sound low below =
    value_sound (in_use_set stamp_queues task priority table) task priority (in_use_sound table task priority sound low below)
    (subst (λ (s : Settings). priority < s.priorities) (sym (in_use_settings table task priority)) below)
