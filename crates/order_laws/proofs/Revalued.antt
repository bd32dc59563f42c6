-- Waiters where a task gets another list value: what is kept of them.
use Rattle.std.proofs.Common.{◌≡◌, ◌≢◌, ◌≤◌, ℕ, ◌<◌, Bool, true, false, eqb, ltb, cond, List, [], ◌∷◌, length, map, set, refl, sym, ap, subst, ◌∙◌, arith}
use Rattle.std.specs.List.{AllByRecursion}
use Rattle.std.proofs.lemmas.Bool.Decides.{nat_tests}
use Rattle.std.proofs.lemmas.List.{length-set}
use Rattle.bench_types.specs.declared.kernel_data.Waiter.{Waiter}
use Rattle.bench_model.specs.Turns.{AreByList, WaitOnce}
use Rattle.bench_model.specs.Waiters.{list_awaited, revalued, with_value}
use Rattle.list_orders.proofs.Filters.{All-map, All-weaker}

-- a list that is empty after one of its items was set is empty before
pub set_none : (values : List ℕ) (task value : ℕ) → set values task value ≡ [] → values ≡ []
set_none [] task value none = refl
set_none (v ∷ vs) task value none = absurd (cc (ap length none, length-set (v ∷ vs) task value))

-- an empty list
pub none_of : (values : List ℕ) → length values ≡ 0 → values ≡ []
none_of [] none = refl
none_of (v ∷ vs) none = absurd (cc (none))

module _ (task value : ℕ) where
  abbrev changed : Waiter → Waiter
  changed w = with_value task value w

  abbrev so : Bool → Waiter → Waiter
  so b w = cond b (record w { wait = record w.wait { priority = value } }) w

  task_stays : (w : Waiter) → (changed w).task ≡ w.task
  task_stays w = at (eqb w.task task)
    where
      at : (b : Bool) → (so b w).task ≡ w.task
      at true = refl
      at false = refl

  mutex_stays : (w : Waiter) → (changed w).wait.list ≡ w.wait.list
  mutex_stays w = at (eqb w.task task)
    where
      at : (b : Bool) → (so b w).wait.list ≡ w.wait.list
      at true = refl
      at false = refl

  all_changed : (P : Waiter → Type 0) → ((w : Waiter) → P w → P (record w { wait = record w.wait { priority = value } })) → (waiters : List Waiter) →
      AllByRecursion P waiters → AllByRecursion P (map changed waiters)
  all_changed P keeps waiters all = All-map P changed waiters (All-weaker P (λ w. P (changed w)) (λ w is. at w (eqb w.task task) is) waiters all)
    where
      at : (w : Waiter) (b : Bool) → P w → P (so b w)
      at w true is = keeps w is
      at w false is = is

  once_changed : (waiters : List Waiter) → WaitOnce waiters → WaitOnce (map changed waiters)
  once_changed [] once = tt
  once_changed (w ∷ ws) once = (
    all_changed (λ (other : Waiter). other.task ≢ (changed w).task) (λ other away. away) ws
        (All-weaker (λ (other : Waiter). other.task ≢ w.task) (λ (other : Waiter). other.task ≢ (changed w).task)
        (λ other away same. away (same ∙ task_stays w)) ws once.0),
    once_changed ws once.1,
  )

  by_mutex_changed : (waiters : List Waiter) → AreByList waiters → AreByList (map changed waiters)
  by_mutex_changed [] ordered = tt
  by_mutex_changed (w ∷ ws) ordered = (
    all_changed (λ (other : Waiter). (changed w).wait.list ≤ other.wait.list) (λ other low. low) ws
        (All-weaker (λ (other : Waiter). w.wait.list ≤ other.wait.list) (λ (other : Waiter). (changed w).wait.list ≤ other.wait.list)
        (λ other low. omega (arith, low, mutex_stays w)) ws ordered.0),
    by_mutex_changed ws ordered.1,
  )

  awaited_changed : (i : ℕ) (waiters : List Waiter) → list_awaited i (map changed waiters) ≡ list_awaited i waiters
  awaited_changed i [] = refl
  awaited_changed i (w ∷ ws) = at (eqb w.task i) refl (awaited_changed i ws)
    where
      at : (b : Bool) → eqb w.task i ≡ b → list_awaited i (map changed ws) ≡ list_awaited i ws → list_awaited i (map changed (w ∷ ws)) ≡ list_awaited i
          (w ∷ ws)
      at b is rest = grind (arith, is, rest, task_stays w, mutex_stays w)

  module _ (values : List ℕ) (waiters : List Waiter) where
    abbrev either : Bool → List Waiter
    either b = cond b (map changed waiters) waiters

    pub all_revalued : (P : Waiter → Type 0) → ((w : Waiter) → P w → P (record w { wait = record w.wait { priority = value } })) → AllByRecursion P waiters →
        AllByRecursion P (revalued values task value waiters)
    all_revalued P keeps all = at (ltb task (length values))
      where
        at : (b : Bool) → AllByRecursion P (either b)
        at true = all_changed P keeps waiters all
        at false = all

    pub once_revalued : WaitOnce waiters → WaitOnce (revalued values task value waiters)
    once_revalued once = at (ltb task (length values))
      where
        at : (b : Bool) → WaitOnce (either b)
        at true = once_changed waiters once
        at false = once

    pub by_mutex_revalued : AreByList waiters → AreByList (revalued values task value waiters)
    by_mutex_revalued ordered = at (ltb task (length values))
      where
        at : (b : Bool) → AreByList (either b)
        at true = by_mutex_changed waiters ordered
        at false = ordered

    pub awaited_revalued : (i : ℕ) → list_awaited i (revalued values task value waiters) ≡ list_awaited i waiters
    awaited_revalued i = at (ltb task (length values))
      where
        at : (b : Bool) → list_awaited i (either b) ≡ list_awaited i waiters
        at true = awaited_changed i waiters
        at false = refl

    -- with no list values no waiter changes
    pub none_revalued : values ≡ [] → revalued values task value waiters ≡ waiters
    none_revalued none =
        let last : ltb task (length values) ≡ false = grind (arith, nat_tests, ap length none) in
        ap either last
