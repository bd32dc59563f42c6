-- A step that does not delay until a tick count, from states whose tick counts differ alone.
use Rattle.std.proofs.Common.{◌≡◌, ℕ, ◌<◌, ◌^◌, false, refl, sym, ap, subst, ◌∙◌, true≢false, arith}
use Rattle.bench_types.specs.declared.reply.Reply.{Reply}
use Rattle.bench_types.specs.declared.step.Call.TheVariants.{DelayUntil}
use Rattle.bench_types.specs.declared.step.Step.{Step}
use Rattle.bench_types.specs.declared.step.Step.TheVariants.{Call}
use Rattle.bench_types.specs.Step.{IsCheckedStep}
use Rattle.bench_model.specs.Equal.{Same}
use Rattle.bench_model.specs.Lists.{Lists, View, list_queues, lists_of, view_of, pick, add_to_ready_list, delay, suspend, advance, first_waiter, forget_deadline, set_list_value}
use Rattle.bench_model.specs.Suspending.{is_suspended, suspended, resumed, resume_interrupted}
use Rattle.bench_model.specs.Mutexes.{inherited, waited_at, mutex_take, after_disinherit, timed_out, take_finished, disinherited, first_woken, mutex_give}
use Rattle.bench_model.specs.ControlFields.{in_use_set, in_use_and_value_set}
use Rattle.bench_model.specs.Notifying.{state_forgotten, bits_cleared, completed, notify, interrupted, awaited}
use Rattle.bench_model.specs.PriorityAffinity.{priority_set, affinity_set, preemption_off, preemption_on}
use Rattle.bench_model.specs.Queues.{passed, queue_waited, queue_called, queue_finished, queue_interrupted}
use Rattle.bench_model.specs.Refusals.{would_block, refusal}
use Rattle.bench_model.specs.Seek.{wake, after_eviction, after_switch, sliced}
use Rattle.bench_model.specs.Session.{step_of}
use Rattle.bench_model.specs.Shifted.{SameShifted, untimed, later_tick, shifted, shift_between, delays_until}
use Rattle.bench_model.specs.Sound.{IsSound}
use Rattle.bench_model.specs.State.{State, QueueOps, after_select, yielded, blocked}
use Rattle.bench_model.specs.Steps.{ticked, after_finish, delayed_until, called, performed, after}
use Rattle.bench_model.specs.Table.{Table}
use Rattle.step_laws.proofs.Steps.{after_seen}
use Rattle.shift_laws.specs.Shifts.{IsShifted}
use Rattle.shift_laws.proofs.Renamings.{Carries, carried, outcome_carried, after_carried}
use Rattle.shift_laws.proofs.Turns.{turned_lists, turned_later, turned_next, turns}

-- the rules under another reading of the tick count
abbrev clocked : {A : Type 0} → (A → ℕ) → QueueOps A → QueueOps A
clocked count ops = record ops { tick_count = count }

-- only a delay until a tick count reads it
after_clocked :
    {A : Type 0} (count : A → ℕ) (ops : QueueOps A) (step : Step) (state : State A) → delays_until step ≡ false
    → after (clocked count ops) step state ≡ after ops step state
unfolding after performed refusal would_block called ticked sliced wake after_switch after_eviction after_select
    yielded blocked priority_set affinity_set preemption_off preemption_on in_use_set in_use_and_value_set notify interrupted
    state_forgotten bits_cleared awaited completed mutex_take mutex_give take_finished
    after_finish delayed_until inherited waited_at after_disinherit timed_out disinherited first_woken
    passed queue_waited queue_called queue_finished queue_interrupted is_suspended suspended resumed resume_interrupted
after_clocked count ops (Call core task (DelayUntil prev inc)) state delays = absurd (true≢false delays)
after_clocked count ops step state delays = refl

-- rules over lists that read no tick count
abbrev blind : QueueOps Lists
blind = clocked (λ lists. 0) list_queues

turns_carry : (by : ℕ) → Carries (turned_lists by) blind blind
unfolding pick add_to_ready_list delay suspend advance first_waiter forget_deadline set_list_value
turns_carry by = record {
  is_ready = λ task o. refl;
  pick = λ control core o. refl;
  add_to_ready_list = λ control task o. refl;
  delay = λ task ticks wait o. refl;
  waits = λ task o. refl;
  suspend = λ task o. refl;
  tick_count = λ o. refl;
  advance = λ o. ap (λ tick. record (advance o) { tick = tick }) (turned_next by o.tick);
  due = λ o. refl;
  first_waiter = λ list o. refl;
  deadline_left = λ task o. refl;
  forget_deadline = λ task o. refl;
  list_value = λ task o. refl;
  set_list_value = λ task value o. refl;
}

after_turned :
    (by : ℕ) (step : Step) (view : View) → delays_until step ≡ false
    → after list_queues step (carried (turned_lists by) view) ≡ outcome_carried (turned_lists by) (after list_queues step view)
after_turned by step view delays =
    sym (after_clocked (λ lists. 0) list_queues step (carried (turned_lists by) view) delays)
    ∙ after_carried (turns by) blind blind (turns_carry by) step view
    ∙ ap (outcome_carried (turned_lists by)) (after_clocked (λ lists. 0) list_queues step view delays)

-- what can be seen of a table has a tick count of 32 bits
pub tick_below : (table : Table) → (view_of table).orders.tick < 2 ^ 32
unfolding lists_of
tick_below table = omega arith

-- so there the shift is the turn
shifted_turned : (by : ℕ) (view : View) → view.orders.tick < 2 ^ 32 → carried (turned_lists by) view ≡ shifted by view
shifted_turned by view below = ap (λ tick. record view { orders = record view.orders { tick = tick } }) (turned_later by view.orders.tick below)

-- ---- a step of tables that are shifted

pub shifted_after :
    (by : ℕ) (a b : Table) (step : Step) → IsSound a → IsSound b → IsShifted by a b → IsCheckedStep a.settings step → delays_until step ≡ false
    → ((step_of step a).0 ≡ (step_of step b).0) × IsShifted by (step_of step a).1 (step_of step b).1
shifted_after by a b step sound other same checked delays =
    let settings : b.settings ≡ a.settings = ap (λ (view : View). view.settings) same in
    let turned_a = shifted_turned by (view_of a) (tick_below a) in
    let seen_b = after_seen step b other (subst (λ s. IsCheckedStep s step) (sym settings) checked) in
    let both =
    seen_b
    ∙ ap (after list_queues step) (same ∙ sym turned_a)
    ∙ after_turned by step (view_of a) delays
    ∙ ap (outcome_carried (turned_lists by)) (sym (after_seen step a sound checked)) in (
      sym (ap (λ (r : Reply × View). r.0) both),
      ap (λ (r : Reply × View). r.1) both ∙ shifted_turned by (view_of (step_of step a).1) (tick_below (step_of step a).1),
    )

-- ---- equality but for the tick counts

pub same_from_shifted : (by : ℕ) (a b : Table) → IsShifted by a b → SameShifted a b
same_from_shifted by a b same = sym (ap untimed same)

back_at_tick : (from to : ℕ) → from < 2 ^ 32 → to < 2 ^ 32 → to ≡ later_tick (shift_between from to) from
back_at_tick from to low below = omega (arith, low, below)

pub shifted_from_same : (a b : Table) → SameShifted a b → IsShifted (shift_between (view_of a).orders.tick (view_of b).orders.tick) a b
shifted_from_same a b same =
    let with_tick = λ (tick : ℕ) (view : View). let timed : View = record view { orders = record view.orders { tick = tick } } in timed in
    ap (with_tick (view_of b).orders.tick) (sym same)
    ∙ ap (λ tick. with_tick tick (view_of a)) (back_at_tick (view_of a).orders.tick (view_of b).orders.tick (tick_below a) (tick_below b))

-- a shift by no ticks is none
no_shift : (view : View) → view.orders.tick < 2 ^ 32 → shifted 0 view ≡ view
no_shift view below =
    let stays : later_tick 0 view.orders.tick ≡ view.orders.tick = omega (arith, below) in
    ap (λ tick. record view { orders = record view.orders { tick = tick } }) stays

pub unshifted : (a b : Table) → IsShifted 0 a b → Same a b
unshifted a b same = sym (same ∙ no_shift (view_of a) (tick_below a))

pub not_shifted : (a b : Table) → Same a b → IsShifted 0 a b
not_shifted a b same = sym (no_shift (view_of a) (tick_below a) ∙ same)

pub no_ticks_between : (tick : ℕ) → shift_between tick tick ≡ 0
no_ticks_between tick = omega arith

pub same_shifted_after :
    (a b : Table) (step : Step) → IsSound a → IsSound b → SameShifted a b → IsCheckedStep a.settings step → delays_until step ≡ false
    → ((step_of step a).0 ≡ (step_of step b).0) × SameShifted (step_of step a).1 (step_of step b).1
same_shifted_after a b step sound other same checked delays =
    let by = shift_between (view_of a).orders.tick (view_of b).orders.tick in
    let both = shifted_after by a b step sound other (shifted_from_same a b same) checked delays in
    (both.0, same_from_shifted by (step_of step a).1 (step_of step b).1 both.1)
