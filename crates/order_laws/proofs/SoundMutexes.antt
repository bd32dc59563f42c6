-- What is kept of mutexes where tasks are made ready, where a tick passes, and where a task waits, ends its wait, takes or gives.
use Rattle.std.proofs.Common.{◌≡◌, ◌≢◌, ℕ, suc, ◌+◌, ◌<◌, ◌^◌, Bool, true, not, eqb, cond, List, [], false, length, Option, Some, None, refl, sym, ap, ap₂, subst, ◌∙◌, arith, inl, inr}
use Rattle.std.specs.Prelude.{slice_set, is_some, option_map, IfSome, ◌||◌}
use Rattle.std.specs.List.{AllByRecursion}
use Rattle.std.proofs.lemmas.List.Elements.{All-set}
use Rattle.std.proofs.lemmas.Bool.{cases_eq}
use Rattle.std.proofs.lemmas.Bool.Decides.{nat_tests}
use Rattle.std.proofs.lemmas.List.{get_or-set_same, get_or-set_other}
use Rattle.bench_types.specs.declared.kernel_data.EventWait.{EventWait}
use Rattle.bench_types.specs.declared.kernel_data.Settings.{Settings}
use Rattle.bench_types.specs.declared.kernel_data.Waiter.{Waiter}
use Rattle.bench_types.specs.declared.step.Unfinished.{Unfinished}
use Rattle.bench_model.specs.declared.row.TaskState.{TaskState}
use Rattle.bench_model.specs.declared.row.TaskState.TheVariants.{Ready, Blocked}
use Rattle.bench_model.specs.declared.row.TaskRow.{TaskRow}
use Rattle.bench_model.specs.State.{call_at, holder_at}
use Rattle.bench_model.specs.Table.{Stamps, row_at, ahead, deadline_at, is_ready, stands_ready, stamp_of, restamped, wake_in, waits, add_to_ready_list, delay, suspend, forget_deadline, set_list_value, advance}
use Rattle.bench_model.specs.Waiters.{list_awaited, waiter_of, waits_first, with_wait, without_waiter}
use Rattle.bench_model.specs.Sound.{IsEventWait, IsEventTime, IsWaiter, IsWaitOf, HasMutexes, list_of_call}
use Rattle.list_orders.proofs.Filters.{All-both, All-filter, All-filter_passes, All-weaker}
use Rattle.list_orders.proofs.Insertions.{All-inserted}
use Rattle.order_laws.proofs.Restamps.{IsGiven, moved_length, row_same, row_other, stamp_same, stamp_other}
use Rattle.order_laws.proofs.Served.{turn_filter, turn_inserted, turn_moved}
use Rattle.order_laws.proofs.WaitingOnce.{by_mutex_filter, by_mutex_inserted, none_found, once_filter, once_waiting, other_found, others_found, waiter_found, IsNoneOf}
use Rattle.order_laws.proofs.Revalued.{all_revalued, once_revalued, by_mutex_revalued, awaited_revalued, none_revalued, set_none}
use Rattle.bench_model.specs.Turns.{AreByList, AreInTurn, WaitOnce}

-- a task that was set to stand so, and the others
pub standing_same : (stamps : Stamps) (task : ℕ) (standing : TaskState) → task < length stamps.rows → (row_at (restamped task standing stamps) task).standing ≡
    standing
standing_same stamps task standing below = ap (λ (r : TaskRow). r.standing) (row_same stamps task standing below)

pub standing_other : (stamps : Stamps) (task : ℕ) (standing : TaskState) → task < length stamps.rows → (i : ℕ) → i ≢ task →
    (row_at (restamped task standing stamps) i).standing ≡ (row_at stamps i).standing
standing_other stamps task standing below i away = ap (λ (r : TaskRow). r.standing) (row_other stamps task standing below i away)

-- what stands for a task that is not ready stood for it before some task was made ready, and that is another
pub readied_field : {V : Type 0} (field : TaskState → Option V) → field Ready ≡ None → (stamps : Stamps) (task i : ℕ) (value : V) → task < length stamps.rows →
    field (row_at (add_to_ready_list task stamps) i).standing ≡ Some value → (field (row_at stamps i).standing ≡ Some value) × (i ≢ task)
unfolding add_to_ready_list
readied_field field none stamps task i value below has =
    let moved = restamped task Ready stamps in
    elim (cases_eq i task) [
      | inl here ↦ absurd (cc (sym none ∙ ap field (sym (standing_same stamps task Ready below)) ∙ ap (λ j. field (row_at moved j).standing) (sym here) ∙ has))
      | inr away ↦ (ap field (sym (standing_other stamps task Ready below i away)) ∙ has, away)
    ]

-- a waiter is one too where another task stands elsewhere
waiter_moved : (settings : Settings) (stamps : Stamps) (task : ℕ) (standing : TaskState) → task < length stamps.rows → (waiter : Waiter) → waiter.task ≢ task →
    IsWaiter settings stamps waiter → IsWaiter settings (restamped task standing stamps) waiter
waiter_moved settings stamps task standing below waiter away is = (
  omega (arith, moved_length stamps task standing below, is.0),
  ap stands_ready (standing_other stamps task standing below waiter.task away) ∙ is.1,
  is.2,
)

-- a task that goes to where it waits for nothing, and the others
module _ (stamps : Stamps) (task : ℕ) (standing : TaskState) (below : task < length stamps.rows) where
  abbrev is_other : Waiter → Bool
  is_other waiter = not (eqb waiter.task task)

  abbrev others : List Waiter
  others = without_waiter task stamps.waiters

  abbrev gone : Stamps
  gone = restamped task standing (record stamps { waiters = others })

  away_from : (waiter : Waiter) → is_other waiter ≡ true → waiter.task ≢ task
  away_from waiter other same = grind (arith, nat_tests, other, same)

  -- the stamps of the others stay
  others_stamped : AllByRecursion (λ (w : Waiter). stamp_of gone w.task ≡ stamp_of stamps w.task) others
  others_stamped = All-weaker (λ (waiter : Waiter). is_other waiter ≡ true) (λ (w : Waiter). stamp_of gone w.task ≡ stamp_of stamps w.task)
      (λ waiter other. stamp_other stamps task standing below waiter.task (away_from waiter other)) others (All-filter_passes is_other stamps.waiters)

  -- and they wait as before
  gone_waiters : (settings : Settings) → AllByRecursion (IsWaiter settings stamps) stamps.waiters → AllByRecursion (IsWaiter settings gone) others
  gone_waiters settings all =
      All-weaker (λ (waiter : Waiter). (is_other waiter ≡ true) × IsWaiter settings stamps waiter) (IsWaiter settings gone)
      (λ waiter both. waiter_moved settings stamps task standing below waiter (away_from waiter both.0) both.1) others
      (All-both (λ (waiter : Waiter). is_other waiter ≡ true) (IsWaiter settings stamps) others (All-filter_passes is_other stamps.waiters)
      (All-filter (IsWaiter settings stamps) is_other stamps.waiters all))

  -- the task itself waits for nothing
  pub waits_not : wake_in standing ≡ None → waits task gone ≡ false
  waits_not none =
      let wake = ap (λ standing. is_some (wake_in standing)) (standing_same stamps task standing below) ∙ ap is_some none in
      let list = ap (λ waiter. is_some (option_map (λ (w : Waiter). w.wait.list) waiter)) (none_found task others
      (All-weaker (λ (waiter : Waiter). is_other waiter ≡ true) (λ (w : Waiter). w.task ≢ task) away_from others (All-filter_passes is_other stamps.waiters))) in
      ap₂ (λ a b. a || b) wake list

  others_await_still : (i : ℕ) → i ≢ task → list_awaited i others ≡ list_awaited i stamps.waiters
  others_await_still i away = ap (option_map (λ (waiter : Waiter). waiter.wait.list)) (other_found i task away stamps.waiters)

  pub waits_other : (i : ℕ) → i ≢ task → waits i gone ≡ waits i stamps
  waits_other i away =
      ap₂ (λ standing list. is_some (wake_in standing) || is_some list) (standing_other stamps task standing below i away) (others_await_still i away)

  pub gone_mutexes : (settings : Settings) (calls : List (Option Unfinished)) (holders : List (Option ℕ)) → wake_in standing ≡ None → HasMutexes settings calls
      holders stamps → HasMutexes settings calls holders gone
  gone_mutexes settings calls holders none kept = record {
    held_by_tasks = kept.held_by_tasks;
    waits = gone_waiters settings kept.waits;
    once = once_filter is_other stamps.waiters kept.once;
    by_list = by_mutex_filter is_other stamps.waiters kept.by_list;
    awaited = λ i low waiting. elim (cases_eq i task) [
      | inl here ↦ absurd (cc (sym (ap (λ j. waits j gone) here ∙ waits_not none) ∙ waiting))
      | inr away ↦ others_await_still i away ∙ kept.awaited i
          (omega (arith, moved_length stamps task standing below, low)) (sym (waits_other i away) ∙ waiting)
    ];
    turns = λ none. turn_moved stamps gone others others_stamped (turn_filter stamps is_other stamps.waiters (kept.turns none));
    values = kept.values;
    deadlines = kept.deadlines;
  }

module _ (settings : Settings) (calls : List (Option Unfinished)) (holders : List (Option ℕ)) (stamps : Stamps)
    (kept : HasMutexes settings calls holders stamps) where
  pub readied_mutexes : (task : ℕ) → task < length stamps.rows → HasMutexes settings calls holders (add_to_ready_list task stamps)
  unfolding add_to_ready_list
  readied_mutexes task below = gone_mutexes stamps task Ready below settings calls holders refl kept

  -- a task that is suspended
  pub suspended_mutexes : (task : ℕ) → task < length stamps.rows → HasMutexes settings calls holders (suspend task stamps)
  unfolding suspend
  suspended_mutexes task below = gone_mutexes stamps task (Blocked None) below settings calls holders refl kept

  pub advanced_mutexes : HasMutexes settings calls holders (advance stamps)
  unfolding advance
  advanced_mutexes = record {
    held_by_tasks = kept.held_by_tasks;
    waits = kept.waits;
    once = kept.once;
    by_list = kept.by_list;
    awaited = kept.awaited;
    turns = kept.turns;
    values = kept.values;
    deadlines = λ i deadline has. let near = kept.deadlines i deadline has in (omega (arith, near.0), near.1);
  }

  -- a ready task waits for nothing
  ready_waits_not : (task : ℕ) → is_ready task stamps ≡ true → waits task stamps ≡ false
  ready_waits_not task ready =
      let none = none_found task stamps.waiters (All-weaker (IsWaiter settings stamps) (λ (w : Waiter). w.task ≢ task)
      (λ w is same. cc (ap (λ i. is_ready i stamps) same, ready, is.1)) stamps.waiters kept.waits) in
      ap₂ (λ a b. a || b) (no_wake (row_at stamps task).standing ready) (ap (λ waiter. is_some (option_map (λ (w : Waiter). w.wait.list) waiter)) none)
    where
      no_wake : (standing : TaskState) → stands_ready standing ≡ true → is_some (wake_in standing) ≡ false
      no_wake Ready ready = refl
      no_wake (Blocked wake) ready = absurd (cc)

  -- a ready task whose wait is over
  pub freed_mutexes : (task : ℕ) → is_ready task stamps ≡ true → task < length calls → task < length stamps.deadlines → HasMutexes settings (slice_set calls task None) holders
      (forget_deadline task stamps)
  unfolding forget_deadline
  freed_mutexes task ready in_calls in_deadlines = record {
    held_by_tasks = kept.held_by_tasks;
    waits = kept.waits;
    once = kept.once;
    by_list = kept.by_list;
    awaited = λ i low blocked. elim (cases_eq i task) [
      | inl here ↦ absurd (cc (sym (ap (λ j. waits j stamps) here ∙ ready_waits_not task ready) ∙ blocked))
      | inr away ↦ kept.awaited i low blocked ∙ sym (ap (list_of_call settings) (get_or-set_other calls task i None None away))
    ];
    turns = kept.turns;
    values = kept.values;
    deadlines = λ i deadline has. elim (cases_eq i task) [
      | inl here ↦ absurd (cc (sym (get_or-set_same stamps.deadlines task None None in_deadlines) ∙ ap (λ j. deadline_at (forget_deadline task stamps) j)
          (sym here) ∙ has))
      | inr away ↦
          let near = kept.deadlines i deadline (sym (get_or-set_other stamps.deadlines task i None None away) ∙ has) in
          (near.0, ap (λ call. is_some (list_of_call settings call)) (get_or-set_other calls task i None None away) ∙ near.1)
    ];
  }

  -- a task that holds the mutex from now on, or none
  pub held_mutexes : (mutex : ℕ) (given : Option ℕ) → mutex < length holders → ((task : ℕ) → given ≡ Some task → task < settings.tasks) → HasMutexes settings
      calls (slice_set holders mutex given) stamps
  held_mutexes mutex given below one = record {
    held_by_tasks = λ i task has. elim (cases_eq i mutex) [
      | inl here ↦ one task (sym (get_or-set_same holders mutex given None below) ∙ ap (holder_at (slice_set holders mutex given)) (sym here) ∙ has)
      | inr away ↦ kept.held_by_tasks i task (sym (get_or-set_other holders mutex i given None away) ∙ has)
    ];
    waits = kept.waits;
    once = kept.once;
    by_list = kept.by_list;
    awaited = kept.awaited;
    turns = kept.turns;
    values = kept.values;
    deadlines = kept.deadlines;
  }

  -- another list value, of a priority that there is
  pub valued_mutexes : (task value : ℕ) → value < settings.priorities → HasMutexes settings calls holders (set_list_value task value stamps)
  unfolding set_list_value
  valued_mutexes task value below = record {
    held_by_tasks = kept.held_by_tasks;
    waits = all_revalued task value stamps.values stamps.waiters (IsWaiter settings stamps) (λ w is. (is.0, is.1, (is.2.0, below))) kept.waits;
    once = once_revalued task value stamps.values stamps.waiters kept.once;
    by_list = by_mutex_revalued task value stamps.values stamps.waiters kept.by_list;
    awaited = λ i low blocked.
        let same = awaited_revalued task value stamps.values stamps.waiters i in
        same ∙ kept.awaited i low (sym (ap (λ list. is_some (wake_in (row_at stamps i).standing) || is_some list) same) ∙ blocked);
    turns = λ none. let empty = set_none stamps.values task value none in
        subst (AreInTurn stamps) (sym (none_revalued task value stamps.values stamps.waiters empty)) (kept.turns empty);
    values = All-set (λ v. v < settings.priorities) stamps.values task value below kept.values;
    deadlines = kept.deadlines;
  }

-- the others wait as before where a task begins to wait
pub delay_waits_other : (stamps : Stamps) (task : ℕ) (ticks : Option ℕ) (wait : Option EventWait) → task < length stamps.rows → (i : ℕ) → i ≢ task → waits i
    (delay task ticks wait stamps) ≡ waits i stamps
unfolding delay
delay_waits_other stamps task ticks wait below i away =
    ap₂ (λ standing waiter. is_some (wake_in standing) || is_some (option_map (λ (w : Waiter). w.wait.list) waiter))
    (standing_other stamps task (Blocked (ahead stamps ticks)) below i away) (at wait)
  where
    at : (wait : Option EventWait) → waiter_of i (with_wait task wait stamps.waiters) ≡ waiter_of i stamps.waiters
    at None = refl
    at (Some wait) = others_found waits_first (record { task = task; wait = wait }) stamps.waiters i away

-- the deadline of a wait that begins now
initial_near : (tick deadline : ℕ) (ticks : Option ℕ) (wait : Option EventWait) → (is_some wait ≡ true → IsEventTime ticks) → cond (is_some wait)
    (option_map (λ ticks. tick + ticks) ticks) None ≡ Some deadline → (suc deadline < tick + 2 ^ 32) × (is_some wait ≡ true)
initial_near tick deadline ticks None fits same = absurd (cc (same))
initial_near tick deadline None (Some wait) fits same = absurd (cc (same))
initial_near tick deadline (Some ticks) (Some wait) fits same =
    let at : tick + ticks ≡ deadline = cc (same) in
    (omega (arith, at, fits refl), refl)

some_mapped : (wait : Option EventWait) → is_some wait ≡ true → is_some (option_map (λ (wait : EventWait). wait.list) wait) ≡ true
some_mapped None is = is
some_mapped (Some wait) is = refl

-- a task that waits from now on
module _ (settings : Settings) (calls : List (Option Unfinished)) (holders : List (Option ℕ)) (stamps : Stamps)
    (kept : HasMutexes settings calls holders stamps) (task : ℕ) (call : Unfinished) (ticks : Option ℕ) (wait : Option EventWait) where
  abbrev later_calls : List (Option Unfinished)
  later_calls = slice_set calls task (Some call)

  abbrev standing : TaskState
  standing = Blocked (ahead stamps ticks)

  abbrev moved : Stamps
  moved = restamped task standing stamps

  -- a task that was ready is no waiter yet
  others_wait : task < length stamps.rows → is_ready task stamps ≡ true → AllByRecursion (IsWaiter settings moved) stamps.waiters
  others_wait below ready = All-weaker (IsWaiter settings stamps) (IsWaiter settings moved)
      (λ waiter is. waiter_moved settings stamps task standing below waiter (λ same. cc (ap (λ i. is_ready i stamps) same, ready, is.1)) is) stamps.waiters
      kept.waits

  all_wait : (wait : Option EventWait) → task < length stamps.rows → is_ready task stamps ≡ true → IfSome wait (IsEventWait settings) → AllByRecursion
      (IsWaiter settings moved) (with_wait task wait stamps.waiters)
  all_wait None below ready there = others_wait below ready
  all_wait (Some wait) below ready there = All-inserted waits_first (record { task = task; wait = wait }) (IsWaiter settings moved) stamps.waiters
      (omega (arith, moved_length stamps task standing below), ap stands_ready (standing_same stamps task standing below), there) (others_wait below ready)

  -- the stamps of the others stay
  others_stay : task < length stamps.rows → is_ready task stamps ≡ true → AllByRecursion (λ (w : Waiter). stamp_of moved w.task ≡ stamp_of stamps w.task)
      stamps.waiters
  others_stay below ready = All-weaker (IsWaiter settings stamps) (λ (w : Waiter). stamp_of moved w.task ≡ stamp_of stamps w.task)
      (λ waiter is. stamp_other stamps task standing below waiter.task (λ same. cc (ap (λ i. is_ready i stamps) same, ready, is.1))) stamps.waiters kept.waits

  in_turn : (wait : Option EventWait) → task < length stamps.rows → IsGiven stamps → is_ready task stamps ≡ true → stamps.values ≡ [] → AreInTurn moved
      (with_wait task wait stamps.waiters)
  in_turn None below given ready none = turn_moved stamps moved stamps.waiters (others_stay below ready) (kept.turns none)
  in_turn (Some wait) below given ready none =
      let waiter : Waiter = record { task = task; wait = wait } in
      turn_inserted moved waiter stamps.waiters (turn_moved stamps moved stamps.waiters (others_stay below ready) (kept.turns none)) kept.by_list
      (All-weaker (λ (w : Waiter). IsWaiter settings stamps w × (stamp_of moved w.task ≡ stamp_of stamps w.task))
      (λ (w : Waiter). stamp_of moved w.task < stamp_of moved task)
      (λ w both. omega (arith, both.1, stamp_same stamps task standing below, given w.task both.0.0)) stamps.waiters
      (All-both (IsWaiter settings stamps) (λ (w : Waiter). stamp_of moved w.task ≡ stamp_of stamps w.task) stamps.waiters kept.waits (others_stay below ready)))

  -- nor is it among the waiters
  is_new : is_ready task stamps ≡ true → IsNoneOf task stamps.waiters
  is_new ready = All-weaker (IsWaiter settings stamps) (λ (w : Waiter). w.task ≢ task) (λ w is same. cc (ap (λ i. is_ready i stamps) same, ready, is.1)) stamps.waiters
      kept.waits

  waits_once : (wait : Option EventWait) → is_ready task stamps ≡ true → WaitOnce (with_wait task wait stamps.waiters)
  waits_once None ready = kept.once
  waits_once (Some wait) ready = once_waiting waits_first (record { task = task; wait = wait }) stamps.waiters kept.once (is_new ready)

  in_mutex_order : (wait : Option EventWait) → AreByList (with_wait task wait stamps.waiters)
  in_mutex_order None = kept.by_list
  in_mutex_order (Some wait) = by_mutex_inserted (record { task = task; wait = wait }) stamps.waiters kept.by_list

  task_awaits : (wait : Option EventWait) → is_ready task stamps ≡ true → list_awaited task (with_wait task wait stamps.waiters) ≡ option_map
      (λ (wait : EventWait). wait.list) wait
  task_awaits None ready = ap (option_map (λ (w : Waiter). w.wait.list)) (none_found task stamps.waiters (is_new ready))
  task_awaits (Some wait) ready = ap (option_map (λ (w : Waiter). w.wait.list))
      (waiter_found waits_first (record { task = task; wait = wait }) stamps.waiters (is_new ready))

  others_await : (i : ℕ) (wait : Option EventWait) → i ≢ task → waiter_of i (with_wait task wait stamps.waiters) ≡ waiter_of i stamps.waiters
  others_await i None away = refl
  others_await i (Some wait) away = others_found waits_first (record { task = task; wait = wait }) stamps.waiters i away

  pub waiting_mutexes : task < length stamps.rows → IsGiven stamps → is_ready task stamps ≡ true → task < length calls → task < length stamps.deadlines → IfSome wait
      (IsEventWait settings) →
      IsWaitOf settings call ticks wait → HasMutexes settings later_calls holders (delay task ticks wait stamps)
  unfolding delay
  waiting_mutexes below given ready in_calls in_deadlines there takes = record {
    held_by_tasks = kept.held_by_tasks;
    waits = all_wait wait below ready there;
    once = waits_once wait ready;
    by_list = in_mutex_order wait;
    awaited = λ i low blocked. elim (cases_eq i task) [
      | inl here ↦ ap (λ j. list_awaited j (with_wait task wait stamps.waiters)) here ∙ task_awaits wait ready ∙ takes.0 ∙ sym
          (ap (list_of_call settings) (ap (call_at later_calls) here ∙ get_or-set_same calls task (Some call) None in_calls))
      | inr away ↦ ap (option_map (λ (w : Waiter). w.wait.list)) (others_await i wait away) ∙ kept.awaited i (omega (arith, moved_length stamps task standing below, low))
          (sym (ap₂ (λ standing waiter. is_some (wake_in standing) || is_some (option_map (λ (w : Waiter). w.wait.list) waiter))
          (standing_other stamps task standing below i away) (others_await i wait away)) ∙ blocked) ∙ sym
          (ap (list_of_call settings) (get_or-set_other calls task i (Some call) None away))
    ];
    turns = in_turn wait below given ready;
    values = kept.values;
    deadlines = λ i deadline has. elim (cases_eq i task) [
      | inl here ↦
          let near = initial_near stamps.tick deadline ticks wait takes.1
          (sym (get_or-set_same stamps.deadlines task ends None in_deadlines) ∙ ap (deadline_at (delay task ticks wait stamps)) (sym here) ∙ has) in (
            near.0,
            ap (λ call. is_some (list_of_call settings call)) (ap (call_at later_calls) here ∙ get_or-set_same calls task (Some call) None in_calls) ∙
                ap is_some (sym takes.0) ∙ some_mapped wait near.1,
          )
      | inr away ↦
          let near = kept.deadlines i deadline (sym (get_or-set_other stamps.deadlines task i ends None away) ∙ has) in
          (near.0, ap (λ call. is_some (list_of_call settings call)) (get_or-set_other calls task i (Some call) None away) ∙ near.1)
    ];
  }
    where
      ends : Option ℕ
      ends = cond (is_some wait) (ahead stamps ticks) None
