-- What each rule does to cores and ready lists depends on them alone.
use Rattle.std.proofs.Common.{◌≡◌, ℕ, ◌<◌, Bool, true, false, cond, not, eqb, ltb, ◌&&◌, length, Option, refl, sym, ap, ◌∙◌, arith}
use Rattle.std.specs.Prelude.{unwrap_or}
use Rattle.bench_types.specs.declared.kernel_data.EventWait.{EventWait}
use Rattle.list_orders.specs.Search.{without, has}
use Rattle.bench_model.specs.Control.{Control, task_at, current, in_mask, ask, ask_each, run_on, ask_its_core}
use Rattle.bench_model.specs.State.{after_select}
use Rattle.bench_model.specs.Table.{Table, stamp_queues, is_ready, delay, suspend}
use Rattle.bench_model.specs.Lists as seen
use Rattle.bench_model.specs.Lists.{Lists, View, list_queues, lists_of, view_of}
use Rattle.bench_model.specs.Mutexes.{inherited, after_disinherit}
use Rattle.bench_model.specs.Seek.{seek, may_move, wake, after_eviction, after_switch, shares_its_time, sliced}
use Rattle.rule_laws.specs.SeekLaws.{sought}
use Rattle.bench_model.specs.ControlFields.{with_in_use, in_use_set, in_use_and_value_set}
use Rattle.bench_model.specs.Cores.{cores_of, bare_view, cores_rule}
use Rattle.rule_laws.specs.CoresLaws.{cores_seen}
use Rattle.bench_model.specs.Sound.{IsStamped, IsConsistent}
use Rattle.rule_laws.proofs.ControlFields.{in_use_seen}
use Rattle.order_laws.proofs.SeenMoves.{delay_seen, suspend_seen}
use Rattle.rule_laws.proofs.Mutexes.{inherited_seen, after_disinherit_seen}
use Rattle.rule_laws.proofs.Seeks.{seek_seen, wake_seen, after_switch_seen, sliced_seen}

wake_alone : (acting task : ℕ) (view : View) → cores_of (wake list_queues acting task view) ≡ cores_rule (wake list_queues acting task) (cores_of view)
unfolding wake seen.add_to_ready_list
wake_alone acting task view = refl

after_select_alone : (core : ℕ) (view : View) → cores_of (after_select list_queues core view) ≡ cores_rule (after_select list_queues core) (cores_of view)
unfolding after_select seen.pick seen.add_to_ready_list
after_select_alone core view = at (has left view.orders.ready)
  where
    left : ℕ
    left = current view.control core

    orders : Bool → View → Lists
    orders b of = cond b (seen.add_to_ready_list of.control left of.orders) of.orders

    run : Bool → View → View
    run b of = record of { control = run_on core (unwrap_or (seen.pick of.control core (orders b of)) left) of.control; orders = orders b of }

    at : (b : Bool) → cores_of (run b view) ≡ cores_of (run b (bare_view (cores_of view)))
    at true = refl
    at false = refl

after_eviction_alone : (core loser : ℕ) (view : View) → cores_of (after_eviction list_queues core loser view) ≡ cores_rule
    (after_eviction list_queues core loser) (cores_of view)
unfolding after_eviction
after_eviction_alone core loser view = at (not (eqb (current view.control core) loser) && has loser view.orders.ready)
  where
    among : ℕ → Bool
    among = may_move view.control loser (current view.control core) core

    at : (b : Bool) → cores_of (cond b (sought core loser among view) view) ≡ cores_of
        (cond b (sought core loser among (bare_view (cores_of view))) (bare_view (cores_of view)))
    at true = refl
    at false = refl

switch_alone : (core : ℕ) (view : View) → cores_of (after_switch list_queues core view) ≡ cores_rule (after_switch list_queues core) (cores_of view)
unfolding after_switch
switch_alone core view =
    let loser = current view.control core in
    after_eviction_alone core loser (after_select list_queues core view) ∙ ap (cores_rule (after_eviction list_queues core loser))
    (after_select_alone core view)
    ∙ sym (after_eviction_alone core loser (after_select list_queues core (bare_view (cores_of view))))

sliced_alone : (view : View) → cores_of (sliced list_queues view) ≡ cores_rule (sliced list_queues) (cores_of view)
unfolding sliced
sliced_alone view = at view.settings.slicing
  where
    at : (b : Bool) → cores_of (cond b (record view { control = ask_each 0 (shares_its_time list_queues view) view.control }) view) ≡ cores_of
        (cond b (record (bare_view (cores_of view)) { control = ask_each 0 (shares_its_time list_queues (bare_view (cores_of view))) view.control })
        (bare_view (cores_of view)))
    at true = refl
    at false = refl

in_use_alone : (task priority : ℕ) (view : View) → cores_of (in_use_set list_queues task priority view) ≡ cores_rule (in_use_set list_queues task priority)
    (cores_of view)
unfolding in_use_set seen.add_to_ready_list
in_use_alone task priority view = at (has task view.orders.ready)
  where
    changed : Control
    changed = with_in_use task priority view.control

    at : (b : Bool) → cores_of (record view { control = changed; orders = cond b (seen.add_to_ready_list changed task view.orders) view.orders }) ≡ cores_of
        (record (bare_view (cores_of view)) {
          control = changed;
          orders = cond b (seen.add_to_ready_list changed task (bare_view (cores_of view)).orders)
              (bare_view (cores_of view)).orders;
        })
    at true = refl
    at false = refl

pub seek_on : (table : Table) (acting task : ℕ) (among : ℕ → Bool) → cores_seen (sought acting task among table) ≡ record (cores_seen table)
    { control = seek acting task among table.control }
seek_on table acting task among = ap cores_of (seek_seen table acting task among)

pub wake_on : (table : Table) (acting task : ℕ) → IsStamped table.orders → task < length table.orders.rows → cores_seen (wake stamp_queues acting task table) ≡
    cores_rule (wake list_queues acting task) (cores_seen table)
wake_on table acting task stamped below = ap cores_of (wake_seen table acting task stamped.given below) ∙ wake_alone acting task (view_of table)

pub switch_on : (table : Table) (core : ℕ) → IsConsistent table → core < table.settings.cores → cores_seen (after_switch stamp_queues core table) ≡ cores_rule
    (after_switch list_queues core) (cores_seen table)
switch_on table core sound low = ap cores_of (after_switch_seen table core sound low) ∙ switch_alone core (view_of table)

pub slices_on : (table : Table) → IsConsistent table → cores_seen (sliced stamp_queues table) ≡ cores_rule (sliced list_queues) (cores_seen table)
slices_on table sound = ap cores_of (sliced_seen table sound) ∙ sliced_alone (view_of table)

pub in_use_on : (table : Table) (task priority : ℕ) → IsConsistent table → task < table.settings.tasks → cores_seen
    (in_use_set stamp_queues task priority table) ≡ cores_rule (in_use_set list_queues task priority) (cores_seen table)
in_use_on table task priority sound low = ap cores_of (in_use_seen table task priority sound low) ∙ in_use_alone task priority (view_of table)

pub ask_on : (table : Table) (acting core : ℕ) → cores_seen (record table { control = ask acting core table.control }) ≡ record (cores_seen table)
    { control = ask acting core table.control }
unfolding lists_of
ask_on table acting core = refl

delay_ready : (task : ℕ) (ticks : Option ℕ) (wait : Option EventWait) (lists : Lists) → (seen.delay task ticks wait lists).ready ≡ without task lists.ready
unfolding seen.delay
delay_ready task ticks wait lists = refl

pub wait_on : (table : Table) (task : ℕ) (ticks : Option ℕ) (wait : Option EventWait) → IsConsistent table → task < table.settings.tasks → is_ready task
    table.orders ≡ true → cores_seen (record table { orders = delay task ticks wait table.orders }) ≡ record (cores_seen table)
    { ready = without task (cores_seen table).ready }
wait_on table task ticks wait sound low ready =
    let below : task < length table.orders.rows = omega (arith, sound.sized.rows) in
    ap (λ (lists : Lists). record (cores_seen table) { ready = lists.ready })
    (delay_seen table.control table.orders task ticks wait sound.stamped.given below ready)
    ∙ ap (λ ready. record (cores_seen table) { ready = ready }) (delay_ready task ticks wait (lists_of table.control table.orders))

suspend_ready : (task : ℕ) (lists : Lists) → (seen.suspend task lists).ready ≡ without task lists.ready
unfolding seen.suspend
suspend_ready task lists = refl

pub suspend_on : (table : Table) (task : ℕ) → IsConsistent table → task < table.settings.tasks → cores_seen
    (record table { orders = suspend task table.orders }) ≡ record (cores_seen table) { ready = without task (cores_seen table).ready }
suspend_on table task sound low =
    let below : task < length table.orders.rows = omega (arith, sound.sized.rows) in
    ap (λ (lists : Lists). record (cores_seen table) { ready = lists.ready }) (suspend_seen table.control table.orders task sound.stamped.given below)
    ∙ ap (λ ready. record (cores_seen table) { ready = ready }) (suspend_ready task (lists_of table.control table.orders))

inherited_alone : (acting holder priority : ℕ) (view : View) → cores_of (inherited list_queues acting holder priority view) ≡ cores_rule
    (inherited list_queues acting holder priority) (cores_of view)
unfolding inherited in_use_set in_use_and_value_set seen.add_to_ready_list seen.set_list_value
inherited_alone acting holder priority view = at (ltb (task_at view.control holder).in_use priority) (has holder view.orders.ready)
  where
    changed : Control
    changed = with_in_use holder priority view.control

    later : Bool → View → View
    later b of = record of {
      control = changed;
      orders = seen.set_list_value holder priority (cond b (seen.add_to_ready_list changed holder of.orders) of.orders);
    }

    sought_for : View → View
    sought_for of = record of { control = seek acting holder (in_mask of.control holder) of.control }

    at : (b d : Bool) → cores_of (cond b (cond d (sought_for (later d view)) (later d view)) view) ≡ cores_of
        (cond b (cond d (sought_for (later d (bare_view (cores_of view)))) (later d (bare_view (cores_of view)))) (bare_view (cores_of view)))
    at true true = refl
    at true false = refl
    at false d = refl

after_disinherit_alone : (acting task priority : ℕ) (view : View) → cores_of (after_disinherit list_queues acting task priority view) ≡ cores_rule
    (after_disinherit list_queues acting task priority) (cores_of view)
unfolding after_disinherit in_use_set in_use_and_value_set seen.add_to_ready_list seen.set_list_value
after_disinherit_alone acting task priority view = at (eqb (task_at view.control task).in_use priority) (has task view.orders.ready)
  where
    changed : Control
    changed = with_in_use task priority view.control

    later : Bool → View → View
    later b of = record of {
      control = changed;
      orders = seen.set_list_value task priority (cond b (seen.add_to_ready_list changed task of.orders) of.orders);
    }

    asked : View → View
    asked of = record of { control = ask_its_core acting task of.control }

    at : (b d : Bool) → cores_of (cond b view (asked (later d view))) ≡ cores_of
        (cond b (bare_view (cores_of view)) (asked (later d (bare_view (cores_of view)))))
    at true d = refl
    at false true = refl
    at false false = refl

pub inherited_on : (table : Table) (acting holder priority : ℕ) → IsConsistent table → holder < table.settings.tasks → cores_seen
    (inherited stamp_queues acting holder priority table) ≡ cores_rule (inherited list_queues acting holder priority) (cores_seen table)
inherited_on table acting holder priority sound low = ap cores_of (inherited_seen table acting holder priority sound low) ∙ inherited_alone acting holder
    priority (view_of table)

pub after_disinherit_on : (table : Table) (acting task priority : ℕ) → IsConsistent table → task < table.settings.tasks → cores_seen
    (after_disinherit stamp_queues acting task priority table) ≡ cores_rule (after_disinherit list_queues acting task priority) (cores_seen table)
after_disinherit_on table acting task priority sound low = ap cores_of (after_disinherit_seen table acting task priority sound low) ∙ after_disinherit_alone
    acting task priority (view_of table)
