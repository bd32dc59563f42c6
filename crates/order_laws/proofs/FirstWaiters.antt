-- The first waiter of a mutex: it is a waiter, and over lists it is that of the table.
use Rattle.std.proofs.Common.{◌≡◌, ℕ, Bool, true, false, eqb, List, [], ◌∷◌, Some, refl}
use Rattle.std.proofs.Common.{cond, subst}
use Rattle.std.specs.List.{find, AllByRecursion}
use Rattle.bench_types.specs.declared.kernel_data.Waiter.{Waiter}
use Rattle.bench_model.specs.Control.{Control}
use Rattle.bench_model.specs.Lists as seen
use Rattle.bench_model.specs.Lists.{lists_of}
use Rattle.bench_model.specs.Table.{Stamps, first_waiter}

-- what holds of all items holds of one that is found
pub found_all : {X : Type 0} (P : X → Type 0) (test : X → Bool) (xs : List X) (x : X) → AllByRecursion P xs → find test xs ≡ Some x → P x
found_all P test [] x all found = absurd (cc (found))
found_all P test (y ∷ ys) x all found = at (test y) found (found_all P test ys x all.1)
  where
    at : (b : Bool) → cond b (Some y) (find test ys) ≡ Some x → (find test ys ≡ Some x → P x) → P x
    at true here rest = subst P (cc (here)) all.0
    at false later rest = rest later

pub first_waiter_all : (P : Waiter → Type 0) (mutex : ℕ) (stamps : Stamps) (waiter : Waiter) → AllByRecursion P stamps.waiters → first_waiter mutex stamps ≡
    Some waiter → P waiter
unfolding first_waiter
first_waiter_all P mutex stamps waiter all first = found_all P (λ (waiter : Waiter). eqb waiter.wait.list mutex) stamps.waiters waiter all first

-- over lists it is that of the table
pub first_waiter_seen : (mutex : ℕ) (stamps : Stamps) (control : Control) → seen.first_waiter mutex (lists_of control stamps) ≡ first_waiter mutex stamps
unfolding lists_of seen.first_waiter first_waiter
first_waiter_seen mutex stamps control = refl
