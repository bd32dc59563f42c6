-- Each task waits at one place, and what is found of it there.
use Rattle.std.proofs.Common.{◌≡◌, ◌≢◌, ◌≤◌, ℕ, zero, suc, Bool, true, false, not, eqb, cond, List, [], ◌∷◌, Some, None, refl, sym, subst, arith}
use Rattle.std.specs.List.{filter, find, insert, prefix_len, AllByRecursion}
use Rattle.std.proofs.lemmas.Bool.Decides.{nat_tests}
use Rattle.bench_types.specs.declared.kernel_data.Waiter.{Waiter}
use Rattle.bench_model.specs.Turns.{AreByList, WaitOnce}
use Rattle.bench_model.specs.Waiters.{waiter_of, waits_first, without_waiter}
use Rattle.list_orders.specs.Search.{inserted}
use Rattle.list_orders.proofs.Filters.{All-filter, All-weaker, find_none}
use Rattle.list_orders.proofs.Insertions.{All-insert, All-inserted, inserted_behind, inserted_here}

-- no waiter is the task
abbrev pub IsNoneOf : ℕ → List Waiter → Type 0
IsNoneOf task waiters = AllByRecursion (λ (waiter : Waiter). waiter.task ≢ task) waiters

pub none_found : (task : ℕ) (waiters : List Waiter) → IsNoneOf task waiters → waiter_of task waiters ≡ None
none_found task waiters away = find_none (λ (waiter : Waiter). eqb waiter.task task) waiters
    (All-weaker (λ (waiter : Waiter). waiter.task ≢ task) (λ (waiter : Waiter). eqb waiter.task task ≡ false)
    (λ waiter other. grind (arith, nat_tests, other)) waiters away)

-- what is looked for is found also among those that a filter keeps, where it keeps all that are
find_kept : (p q : Waiter → Bool) → ((x : Waiter) → p x ≡ true → q x ≡ true) → (xs : List Waiter) → find p (filter q xs) ≡ find p xs
find_kept p q passes [] = refl
find_kept p q passes (x ∷ xs) = at (p x) refl (q x) refl (find_kept p q passes xs)
  where
    at : (a : Bool) → p x ≡ a → (b : Bool) → q x ≡ b → find p (filter q xs) ≡ find p xs → find p (filter q (x ∷ xs)) ≡ find p (x ∷ xs)
    at true is true kept rest = grind (arith, is, kept)
    at true is false gone rest = absurd (cc (passes x is, gone))
    at false is true kept rest = grind (arith, is, kept, rest)
    at false is false gone rest = grind (arith, is, gone, rest)

-- the others stay found where a task is taken out
pub other_found : (i task : ℕ) → i ≢ task → (waiters : List Waiter) → waiter_of i (without_waiter task waiters) ≡ waiter_of i waiters
other_found i task away waiters = find_kept (λ (waiter : Waiter). eqb waiter.task i) (λ (waiter : Waiter). not (eqb waiter.task task))
    (λ waiter is. grind (arith, nat_tests, is, away)) waiters

pub once_filter : (q : Waiter → Bool) (waiters : List Waiter) → WaitOnce waiters → WaitOnce (filter q waiters)
once_filter q [] once = tt
once_filter q (waiter ∷ waiters) once = at (q waiter) (once_filter q waiters once.1)
  where
    at : (b : Bool) → WaitOnce (filter q waiters) → WaitOnce (cond b (waiter ∷ filter q waiters) (filter q waiters))
    at true rest = (All-filter (λ (other : Waiter). other.task ≢ waiter.task) q waiters once.0, rest)
    at false rest = rest

module _ (waiter : Waiter) where
  -- a task that begins to wait waits once
  once_inserted : (n : ℕ) (waiters : List Waiter) → WaitOnce waiters → IsNoneOf waiter.task waiters → WaitOnce (insert waiters n waiter)
  once_inserted zero [] once new = (tt, tt)
  once_inserted zero (w ∷ ws) once new = (new, once)
  once_inserted (suc n) [] once new = (tt, tt)
  once_inserted (suc n) (w ∷ ws) once new = (
    All-insert (λ (other : Waiter). other.task ≢ w.task) waiter (λ same. new.0 (sym same)) n ws once.0,
    once_inserted n ws once.1 new.1,
  )

  -- it is found
  inserted_found : (n : ℕ) (waiters : List Waiter) → IsNoneOf waiter.task waiters → waiter_of waiter.task (insert waiters n waiter) ≡ Some waiter
  inserted_found zero [] new = let self : eqb waiter.task waiter.task ≡ true = grind (arith, nat_tests) in grind (arith, self)
  inserted_found zero (w ∷ ws) new = let self : eqb waiter.task waiter.task ≡ true = grind (arith, nat_tests) in grind (arith, self)
  inserted_found (suc n) [] new = let self : eqb waiter.task waiter.task ≡ true = grind (arith, nat_tests) in grind (arith, self)
  inserted_found (suc n) (w ∷ ws) new =
      let other : eqb w.task waiter.task ≡ false = grind (arith, nat_tests, new.0) in
      grind (arith, other, inserted_found n ws new.1)

  -- and the others as before
  others_found_at : (i n : ℕ) (waiters : List Waiter) → i ≢ waiter.task → waiter_of i (insert waiters n waiter) ≡ waiter_of i waiters
  others_found_at i zero [] away = let other : eqb waiter.task i ≡ false = grind (arith, nat_tests, away) in grind (arith, other)
  others_found_at i zero (w ∷ ws) away = let other : eqb waiter.task i ≡ false = grind (arith, nat_tests, away) in grind (arith, other)
  others_found_at i (suc n) [] away = let other : eqb waiter.task i ≡ false = grind (arith, nat_tests, away) in grind (arith, other)
  others_found_at i (suc n) (w ∷ ws) away = at (eqb w.task i) refl (others_found_at i n ws away)
    where
      at : (b : Bool) → eqb w.task i ≡ b → waiter_of i (insert ws n waiter) ≡ waiter_of i ws → waiter_of i (insert (w ∷ ws) (suc n) waiter) ≡ waiter_of i (w ∷ ws)
      at true is rest = grind (arith, is)
      at false is rest = grind (arith, is, rest)

module _ (front : Waiter → Waiter → Bool) (waiter : Waiter) (waiters : List Waiter) where
  abbrev place : ℕ
  place = prefix_len (λ w. front w waiter) waiters

  pub once_waiting : WaitOnce waiters → IsNoneOf waiter.task waiters → WaitOnce (inserted front waiter waiters)
  once_waiting once new = once_inserted waiter place waiters once new

  pub waiter_found : IsNoneOf waiter.task waiters → waiter_of waiter.task (inserted front waiter waiters) ≡ Some waiter
  waiter_found new = inserted_found waiter place waiters new

  pub others_found : (i : ℕ) → i ≢ waiter.task → waiter_of i (inserted front waiter waiters) ≡ waiter_of i waiters
  others_found i away = others_found_at waiter i place waiters away

-- ---- the order of mutexes

pub by_mutex_filter : (q : Waiter → Bool) (waiters : List Waiter) → AreByList waiters → AreByList (filter q waiters)
by_mutex_filter q [] ordered = tt
by_mutex_filter q (waiter ∷ waiters) ordered = at (q waiter) (by_mutex_filter q waiters ordered.1)
  where
    at : (b : Bool) → AreByList (filter q waiters) → AreByList (cond b (waiter ∷ filter q waiters) (filter q waiters))
    at true rest = (All-filter (λ (other : Waiter). waiter.wait.list ≤ other.wait.list) q waiters ordered.0, rest)
    at false rest = rest

-- one that begins to wait stands behind those of lesser mutexes, and in front of those of greater ones
pub by_mutex_inserted : (waiter : Waiter) (waiters : List Waiter) → AreByList waiters → AreByList (inserted waits_first waiter waiters)
by_mutex_inserted waiter [] ordered = (tt, tt)
by_mutex_inserted waiter (w ∷ ws) ordered = at (waits_first w waiter) refl (by_mutex_inserted waiter ws ordered.1)
  where
    at : (b : Bool) → waits_first w waiter ≡ b → AreByList (inserted waits_first waiter ws) → AreByList (inserted waits_first waiter (w ∷ ws))
    at true on rest =
        let before : w.wait.list ≤ waiter.wait.list = grind (arith, nat_tests, on) in
        subst AreByList (sym (inserted_behind waits_first waiter w ws on))
        (All-inserted waits_first waiter (λ (other : Waiter). w.wait.list ≤ other.wait.list) ws before ordered.0, rest)
    at false off rest =
        let after : waiter.wait.list ≤ w.wait.list = grind (arith, nat_tests, off) in
        subst AreByList (sym (inserted_here waits_first waiter w ws off)) (
          (
            after,
            All-weaker (λ (y : Waiter). w.wait.list ≤ y.wait.list) (λ (y : Waiter). waiter.wait.list ≤ y.wait.list)
                (λ y later. omega (arith, after, later)) ws ordered.0,
          ),
          ordered,
        )
