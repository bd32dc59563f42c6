-- The turn in which waiters are served: what keeps it, and who is first.
use Rattle.std.proofs.Common.{◌≡◌, ◌≢◌, ◌≤◌, ℕ, ◌<◌, Bool, true, false, eqb, cond, List, [], ◌∷◌, Some, refl, sym, subst, arith}
use Rattle.std.specs.List.{filter, AllByRecursion}
use Rattle.std.proofs.lemmas.Bool.Decides.{nat_tests}
use Rattle.bench_types.specs.declared.kernel_data.Waiter.{Waiter}
use Rattle.bench_model.specs.Table.{Stamps, stamp_of}
use Rattle.bench_model.specs.Waiters.{waits_first, first_of}
use Rattle.bench_model.specs.Turns.{is_served_before, IsServedBefore, AreByList, AreInTurn, IsServedFirst}
use Rattle.list_orders.specs.Search.{inserted}
use Rattle.list_orders.proofs.Filters.{All-both, All-filter, All-weaker}
use Rattle.list_orders.proofs.Insertions.{All-inserted, inserted_behind, inserted_here}

-- some of them are in turn as well
pub turn_filter : (stamps : Stamps) (test : Waiter → Bool) (waiters : List Waiter) → AreInTurn stamps waiters → AreInTurn stamps (filter test waiters)
turn_filter stamps test [] turn = tt
turn_filter stamps test (waiter ∷ waiters) turn = at (test waiter) (turn_filter stamps test waiters turn.1)
  where
    at : (b : Bool) → AreInTurn stamps (filter test waiters) → AreInTurn stamps (cond b (waiter ∷ filter test waiters) (filter test waiters))
    at true rest = (All-filter (IsServedBefore stamps waiter) test waiters turn.0, rest)
    at false rest = rest

-- so are they in other stamps, where the waiters keep theirs
pub turn_moved : (one other : Stamps) (waiters : List Waiter) → AllByRecursion (λ (w : Waiter). stamp_of other w.task ≡ stamp_of one w.task) waiters →
    AreInTurn one waiters → AreInTurn other waiters
turn_moved one other [] same turn = tt
turn_moved one other (waiter ∷ waiters) same turn = (
  All-weaker (λ (w : Waiter). (stamp_of other w.task ≡ stamp_of one w.task) × IsServedBefore one waiter w) (IsServedBefore other waiter)
      (λ w both mutex. grind (arith, nat_tests, same.0, both.0, both.1 mutex)) waiters
      (All-both (λ (w : Waiter). stamp_of other w.task ≡ stamp_of one w.task) (IsServedBefore one waiter) waiters same.1 turn.0),
  turn_moved one other waiters same.1 turn.1,
)

-- and with one that begins to wait last
module _ (stamps : Stamps) (waiter : Waiter) where
  abbrev CameEarlier : Waiter → Type 0
  CameEarlier w = stamp_of stamps w.task < stamp_of stamps waiter.task

  pub turn_inserted : (waiters : List Waiter) → AreInTurn stamps waiters → AreByList waiters → AllByRecursion CameEarlier waiters → AreInTurn stamps
      (inserted waits_first waiter waiters)
  turn_inserted [] turn ordered last = (tt, tt)
  turn_inserted (w ∷ ws) turn ordered last = at (waits_first w waiter) refl (turn_inserted ws turn.1 ordered.1 last.1)
    where
      at : (b : Bool) → waits_first w waiter ≡ b → AreInTurn stamps (inserted waits_first waiter ws) → AreInTurn stamps
          (inserted waits_first waiter (w ∷ ws))
      at true on rest =
          let before : IsServedBefore stamps w waiter = λ mutex. grind (arith, nat_tests, on, last.0, mutex) in
          subst (AreInTurn stamps) (sym (inserted_behind waits_first waiter w ws on))
          (All-inserted waits_first waiter (IsServedBefore stamps w) ws before turn.0, rest)
      at false off rest =
          subst (AreInTurn stamps) (sym (inserted_here waits_first waiter w ws off)) (
            (
              λ mutex. grind (arith, nat_tests, off, mutex),
              All-weaker (λ z. IsServedBefore stamps w z × (w.wait.list ≤ z.wait.list)) (IsServedBefore stamps waiter)
                  (λ z both mutex.
                  let one : w.wait.list ≡ z.wait.list = grind (arith, nat_tests, off, both.1, mutex) in
                  grind (arith, nat_tests, off, both.0 one, mutex, one)) ws
                  (All-both (IsServedBefore stamps w) (λ (z : Waiter). w.wait.list ≤ z.wait.list) ws turn.0 ordered.0),
            ),
            turn,
          )

-- the first waiter of a mutex is served before all others of it
pub first_is_served : (stamps : Stamps) (mutex : ℕ) (waiters : List Waiter) (waiter : Waiter) → AreInTurn stamps waiters → first_of mutex waiters ≡ Some waiter →
    IsServedFirst stamps mutex waiters waiter
first_is_served stamps mutex [] waiter turn first = absurd (cc (first))
first_is_served stamps mutex (x ∷ xs) waiter turn first = at (eqb x.wait.list mutex) refl first (first_is_served stamps mutex xs waiter turn.1)
  where
    here : x.wait.list ≡ mutex → AllByRecursion (λ other. other ≢ x → other.wait.list ≡ mutex → is_served_before stamps x other ≡ true) xs
    here its = All-weaker (IsServedBefore stamps x) (λ other. other ≢ x → other.wait.list ≡ mutex → is_served_before stamps x other ≡ true)
        (λ other before away same. before (cc (its, same))) xs turn.0

    at : (b : Bool) → eqb x.wait.list mutex ≡ b → cond b (Some x) (first_of mutex xs) ≡ Some waiter →
        (first_of mutex xs ≡ Some waiter → IsServedFirst stamps mutex xs waiter) → IsServedFirst stamps mutex (x ∷ xs) waiter
    at true its found rest =
        let same : x ≡ waiter = cc (found) in
        let mutex_is : x.wait.list ≡ mutex = grind (arith, nat_tests, its) in
        subst (IsServedFirst stamps mutex (x ∷ xs)) same (mutex_is, (λ away. absurd (away refl), here mutex_is))
    at false other found rest =
        let later = rest found in
        (later.0, (λ away same. absurd (grind (arith, nat_tests, other, same)), later.1))
