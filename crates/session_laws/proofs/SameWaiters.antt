-- Waiters of two tables, of which the tasks wait alike and stand in the same order, are the same list.
use Rattle.std.proofs.Common.{◌≡◌, ◌≢◌, ℕ, ◌<◌, ◌≤◌, Bool, true, false, eqb, cond, List, [], ◌∷◌, Option, Some, None, refl, sym, ap, ap₂, subst, ◌∙◌, arith, inl, inr}
use Rattle.std.specs.Prelude.{option_map}
use Rattle.std.specs.List.{AllByRecursion}
use Rattle.std.proofs.lemmas.Bool.{cases_eq}
use Rattle.std.proofs.lemmas.Bool.Decides.{nat_tests}
use Rattle.bench_types.specs.declared.kernel_data.EventWait.{EventWait}
use Rattle.bench_types.specs.declared.kernel_data.Waiter.{Waiter}
use Rattle.bench_model.specs.Alike.{AwaitBoth, SameWaitOrder}
use Rattle.bench_model.specs.Turns.{AreByList, WaitOnce}
use Rattle.bench_model.specs.Waiters.{list_awaited, stands_before, wait_of, waiter_of}
use Rattle.list_orders.proofs.Filters.{All-weaker}
use Rattle.order_laws.proofs.WaitingOnce.{none_found}

abbrev mutex_in : EventWait → ℕ
mutex_in wait = wait.list

-- what holds of all waiters holds of one that is found, which is of the task
found_is : (P : Waiter → Type 0) (task : ℕ) (waiters : List Waiter) (waiter : Waiter) → AllByRecursion P waiters → waiter_of task waiters ≡ Some waiter →
    P waiter × (waiter.task ≡ task)
found_is P task [] waiter all found = absurd (cc found)
found_is P task (w ∷ ws) waiter all found = at (eqb w.task task) refl found (found_is P task ws waiter all.1)
  where
    same : Some w ≡ Some waiter → w ≡ waiter
    same e = cc

    at : (b : Bool) → eqb w.task task ≡ b → cond b (Some w) (waiter_of task ws) ≡ Some waiter → (waiter_of task ws ≡ Some waiter → P waiter × (waiter.task ≡ task)) →
        P waiter × (waiter.task ≡ task)
    at true is here rest = (subst P (same here) all.0, sym (ap (λ (x : Waiter). x.task) (same here)) ∙ grind (arith, nat_tests, is))
    at false is there rest = rest there

self : (n : ℕ) → eqb n n ≡ true
self n = grind (arith, nat_tests)

-- the first of a list, and the others
head_waits : (x : Waiter) (xs : List Waiter) → wait_of x.task (x ∷ xs) ≡ Some x.wait
head_waits x xs = rw (self x.task) refl

other_waits : (x : Waiter) (xs : List Waiter) (i : ℕ) → i ≢ x.task → wait_of i (x ∷ xs) ≡ wait_of i xs
other_waits x xs i away =
    let other : eqb x.task i ≡ false = grind (arith, nat_tests, away) in
    rw other refl

other_awaits : (x : Waiter) (xs : List Waiter) (i : ℕ) → i ≢ x.task → list_awaited i (x ∷ xs) ≡ list_awaited i xs
other_awaits x xs i away =
    let other : eqb x.task i ≡ false = grind (arith, nat_tests, away) in
    rw other refl

others_before : (x : Waiter) (xs : List Waiter) (i j : ℕ) → i ≢ x.task → j ≢ x.task → stands_before i j (x ∷ xs) ≡ stands_before i j xs
others_before x xs i j away far =
    let one : eqb x.task i ≡ false = grind (arith, nat_tests, away) in
    let other : eqb x.task j ≡ false = grind (arith, nat_tests, far) in
    rw (one, other) refl

awaited_by_wait : (i : ℕ) (waiters : List Waiter) → list_awaited i waiters ≡ option_map mutex_in (wait_of i waiters)
awaited_by_wait i waiters = at (waiter_of i waiters)
  where
    at : (found : Option Waiter) → option_map (λ (w : Waiter). w.wait.list) found ≡ option_map mutex_in (option_map (λ (w : Waiter). w.wait) found)
    at None = refl
    at (Some w) = refl

-- the task of the first waits for nothing else
none_waits : (x : Waiter) (xs : List Waiter) (i : ℕ) → i ≡ x.task → WaitOnce (x ∷ xs) → waiter_of i xs ≡ None
none_waits x xs i same once = none_found i xs
    (All-weaker (λ (w : Waiter). w.task ≢ x.task) (λ (w : Waiter). w.task ≢ i) (λ w away here. away (here ∙ same)) xs once.0)

-- a task that waits for a mutex behind the first is another
is_behind : (x : Waiter) (xs : List Waiter) (i mutex : ℕ) → WaitOnce (x ∷ xs) → list_awaited i xs ≡ Some mutex → i ≢ x.task
is_behind x xs i mutex once awaits same =
    absurd (cc (ap (option_map (λ (w : Waiter). w.wait.list)) (none_waits x xs i same once), awaits))

-- the wait of a task that waits behind the first is for no lesser mutex
no_lesser : (x : Waiter) (xs : List Waiter) (i : ℕ) (wait : EventWait) → AreByList (x ∷ xs) → wait_of i xs ≡ Some wait → x.wait.list ≤ wait.list
no_lesser x xs i wait ordered waits = at (waiter_of i xs) refl waits
  where
    same : (w : Waiter) → Some w.wait ≡ Some wait → w.wait ≡ wait
    same w e = cc

    at : (found : Option Waiter) → waiter_of i xs ≡ found → option_map (λ (w : Waiter). w.wait) found ≡ Some wait → x.wait.list ≤ wait.list
    at None is none = absurd (cc none)
    at (Some w) is some = subst (λ (one : EventWait). x.wait.list ≤ one.list) (same w some)
        (found_is (λ (other : Waiter). x.wait.list ≤ other.wait.list) i xs w ordered.0 is).0

abbrev IsBelow : ℕ → Waiter → Type 0
IsBelow n waiter = waiter.task < n

abbrev WaitAlike : ℕ → List Waiter → List Waiter → Type 0
WaitAlike n xs ys = (i : ℕ) → i < n → wait_of i xs ≡ wait_of i ys

-- the first waiters of two such lists are one
module _ (n : ℕ) (x y : Waiter) (xs ys : List Waiter) (once : WaitOnce (x ∷ xs)) (other_once : WaitOnce (y ∷ ys)) (ordered : AreByList (x ∷ xs))
    (other_ordered : AreByList (y ∷ ys)) (low : x.task < n) (other_low : y.task < n) (waits : WaitAlike n (x ∷ xs) (y ∷ ys))
    (order : SameWaitOrder n (x ∷ xs) (y ∷ ys)) where
  x_behind : x.task ≢ y.task → wait_of x.task ys ≡ Some x.wait
  x_behind away = sym (other_waits y ys x.task away) ∙ sym (waits x.task low) ∙ head_waits x xs

  y_behind : x.task ≢ y.task → wait_of y.task xs ≡ Some y.wait
  y_behind away = sym (other_waits x xs y.task (λ same. away (sym same))) ∙ waits y.task other_low ∙ head_waits y ys

  mutexes_same : x.task ≢ y.task → x.wait.list ≡ y.wait.list
  mutexes_same away = omega (arith, no_lesser x xs y.task y.wait ordered (y_behind away), no_lesser y ys x.task x.wait other_ordered (x_behind away))

  await_both : x.task ≢ y.task → AwaitBoth x.wait.list x.task y.task (x ∷ xs)
  await_both away = (
    awaited_by_wait x.task (x ∷ xs) ∙ ap (option_map mutex_in) (head_waits x xs),
    other_awaits x xs y.task (λ same. away (sym same)) ∙ awaited_by_wait y.task xs ∙ ap (option_map mutex_in) (y_behind away) ∙ ap Some (sym (mutexes_same away)),
  )

  x_first : stands_before x.task y.task (x ∷ xs) ≡ true
  x_first = rw (self x.task) (rw (self x.task) refl)

  y_first : x.task ≢ y.task → stands_before x.task y.task (y ∷ ys) ≡ false
  y_first away =
      let other : eqb y.task x.task ≡ false = grind (arith, nat_tests, away) in
      rw (other, self y.task) (rw other refl)

  are_one_task : x.task ≡ y.task
  are_one_task = elim (cases_eq x.task y.task) [
    | inl same ↦ same
    | inr away ↦ absurd (cc (x_first, order x.wait.list x.task y.task low other_low (await_both away), y_first away))
  ]

  one_wait : x.wait ≡ y.wait
  one_wait = same (sym (head_waits x xs) ∙ waits x.task low ∙ ap (λ i. wait_of i (y ∷ ys)) are_one_task ∙ head_waits y ys)
    where
      same : Some x.wait ≡ Some y.wait → x.wait ≡ y.wait
      same e = cc

  pub heads_are_one : x ≡ y
  heads_are_one = λ i. record { task = are_one_task i; wait = one_wait i }

  pub tails_wait : WaitAlike n xs ys
  tails_wait i below = elim (cases_eq i x.task) [
    | inl here ↦ ap (option_map (λ (w : Waiter). w.wait)) (none_waits x xs i here once ∙ sym (none_waits y ys i (here ∙ are_one_task) other_once))
    | inr away ↦ sym (other_waits x xs i away) ∙ waits i below ∙ other_waits y ys i (λ same. away (same ∙ sym are_one_task))
  ]

  pub tails_order : SameWaitOrder n xs ys
  tails_order mutex i j below lower both =
      let away = is_behind x xs i mutex once both.0 in
      let far = is_behind x xs j mutex once both.1 in
      sym (others_before x xs i j away far)
      ∙ order mutex i j below lower (other_awaits x xs i away ∙ both.0, other_awaits x xs j far ∙ both.1)
      ∙ others_before y ys i j (λ same. away (same ∙ sym are_one_task)) (λ same. far (same ∙ sym are_one_task))

pub same_waiters : (n : ℕ) (xs ys : List Waiter) → WaitOnce xs → WaitOnce ys → AreByList xs → AreByList ys → AllByRecursion (IsBelow n) xs → AllByRecursion
    (IsBelow n) ys → WaitAlike n xs ys → SameWaitOrder n xs ys → xs ≡ ys
same_waiters n [] [] once other ordered later low below waits order = refl
same_waiters n [] (y ∷ ys) once other ordered later low below waits order = absurd (cc (waits y.task below.0, head_waits y ys))
same_waiters n (x ∷ xs) [] once other ordered later low below waits order = absurd (cc (waits x.task low.0, head_waits x xs))
same_waiters n (x ∷ xs) (y ∷ ys) once other ordered later low below waits order = ap₂ (λ w ws. w ∷ ws)
    (heads_are_one n x y xs ys once other ordered later low.0 below.0 waits order)
    (same_waiters n xs ys once.1 other.1 ordered.1 later.1 low.1 below.1
    (tails_wait n x y xs ys once other ordered later low.0 below.0 waits order)
    (tails_order n x y xs ys once other ordered later low.0 below.0 waits order))

-- waiters that are the same wait so
pub waits_from_same : (n : ℕ) (xs ys : List Waiter) → xs ≡ ys → WaitAlike n xs ys × SameWaitOrder n xs ys
waits_from_same n xs ys same = (λ i low. ap (wait_of i) same, λ mutex i j low below both. ap (stands_before i j) same)
