-- Waking the tasks that are due one by one, the one of the least stamp first.
use Rattle.order_laws.proofs.DueTasks.{length_due, advance_next}
use Rattle.std.proofs.Common.{◌≡◌, ℕ, zero, suc, ◌+◌, ◌<◌, ◌≤◌, Bool, true, not, eqb, ◌&&◌, List, [], ◌∷◌, length, Some, None, refl, sym, ap, subst, ◌∙◌, arith}
use Rattle.std.specs.List.{filter, find, range_with_len, AllByRecursion}
use Rattle.std.proofs.lemmas.Bool.Decides.{nat_tests}
use Rattle.std.proofs.lemmas.List.{append-nil}
use Rattle.bench_model.specs.declared.row.TaskState.TheVariants.{Ready}
use Rattle.list_orders.specs.Search.{numbers, by_stamp, without}
use Rattle.slow_replay.specs.SlowDue.{first_due}
use Rattle.bench_model.specs.Steps.{woken, ticked}
use Rattle.bench_model.specs.Seek.{wake, sliced}
use Rattle.bench_model.specs.Table.{Stamps, Table, stamp_queues, advance, row_at, stamp_of, wakes_at, add_to_ready_list, due}
use Rattle.bench_model.specs.Sound.{IsStamped, IsConsistent}
use Rattle.list_orders.proofs.Filters.{All-weaker, All-filter_passes, filter_all}
use Rattle.list_orders.proofs.Stamped.{numbers_below, numbers_have, range_all, All-by_stamp, has-by_stamp}
use Rattle.list_orders.proofs.Choices.{IsOrdered, IsOrdered-append, IsOrdered-filter, by_stamp_ordered, by_stamp_early, first_is_best}
use Rattle.order_laws.proofs.SeenSteps.{add_to_ready_once}
use Rattle.order_laws.proofs.SoundSteps.{advanced_stamped}
use Rattle.order_laws.proofs.Restamps.{standing_so, standing_so_moved}

abbrev differ : ℕ → ℕ → Bool
differ a b = not (eqb a b)

-- no number comes twice
numbers_once : (a n : ℕ) → IsOrdered differ (range_with_len a n)
numbers_once a zero = tt
numbers_once a (suc n) = (
  All-weaker (λ i. (a + 1 ≤ i) × (i < a + 1 + n)) (λ i. differ a i ≡ true) (λ i h. grind (arith, nat_tests, h.0))
      (range_with_len (a + 1) n) (range_all (a + 1) n),
  numbers_once (a + 1) n,
)

by_stamp_once : (stamp : ℕ → ℕ) (test : ℕ → Bool) (n bound : ℕ) → IsOrdered differ (by_stamp stamp test (numbers n) bound)
unfolding by_stamp
by_stamp_once stamp test n zero = tt
by_stamp_once stamp test n (suc b) =
    let early = by_stamp stamp test (numbers n) b in
    let last = filter (λ i. test i && eqb (stamp i) b) (numbers n) in
    IsOrdered-append differ early last (by_stamp_once stamp test n b) (IsOrdered-filter differ (λ i. test i && eqb (stamp i) b) (numbers n) (numbers_once 0 n))
    (All-weaker (λ i. stamp i < b) (λ i. AllByRecursion (λ j. differ i j ≡ true) last)
    (λ i h. All-weaker (λ j. (test j && eqb (stamp j) b) ≡ true) (λ j. differ i j ≡ true) (λ j k. grind (arith, nat_tests, h, k, ap stamp)) last
    (All-filter_passes (λ j. test j && eqb (stamp j) b) (numbers n)))
    early (by_stamp_early stamp test (numbers n) b))

-- there are at most as many as numbers
-- the first of the tasks that are due
first_due_is : (stamps : Stamps) → IsStamped stamps → first_due stamps ≡ find (λ _. true) (due stamps)
unfolding first_due due
first_due_is stamps stamped =
    let n = length stamps.rows in
    let test = λ (i : ℕ). wakes_at stamps.tick (row_at stamps i).standing in
    sym (first_is_best (λ i. 0) (stamp_of stamps) test n (by_stamp (stamp_of stamps) test (numbers n) stamps.next)
    (by_stamp_ordered (stamp_of stamps) test (numbers n) stamps.next) (All-by_stamp (stamp_of stamps) test (numbers n) (λ i. i < n) stamps.next
    (numbers_below n))
    (λ i h. grind (arith, nat_tests, has-by_stamp (stamp_of stamps) test (numbers n) i stamps.next, stamped.given i h, numbers_have n i h)) stamped.once)

pub first_due_none : (stamps : Stamps) → IsStamped stamps → first_due stamps ≡ None → due stamps ≡ []
first_due_none stamps stamped none = from (due stamps) (sym (first_due_is stamps stamped) ∙ none)
  where
    from : (xs : List ℕ) → find (λ _. true) xs ≡ None → xs ≡ []
    from [] e = refl
    from (x ∷ xs) e = absurd (cc (e))

due_once : (stamps : Stamps) → IsOrdered differ (due stamps)
unfolding due
due_once stamps = by_stamp_once (stamp_of stamps) (λ i. wakes_at stamps.tick (row_at stamps i).standing) (length stamps.rows) stamps.next

due_without : (stamps : Stamps) (task : ℕ) → IsStamped stamps → task < length stamps.rows → due (add_to_ready_list task stamps) ≡ without task (due stamps)
unfolding due add_to_ready_list
due_without stamps task stamped below = standing_so_moved stamps task Ready below (wakes_at stamps.tick) stamped.given ∙ append-nil
    (without task (standing_so (wakes_at stamps.tick) stamps))

-- waking the first of them leaves the others
pub first_due_some : (stamps : Stamps) (task : ℕ) → IsStamped stamps → task < length stamps.rows → first_due stamps ≡ Some task → due stamps ≡ task ∷ due
    (add_to_ready_list task stamps)
first_due_some stamps task stamped below some = from (due stamps) (sym (first_due_is stamps stamped) ∙ some) (due_once stamps)
    (due_without stamps task stamped below)
  where
    from : (xs : List ℕ) → find (λ _. true) xs ≡ Some task → IsOrdered differ xs → due (add_to_ready_list task stamps) ≡ without task xs → xs ≡ task ∷ due
        (add_to_ready_list task stamps)
    from [] e once rest = absurd (cc (e))
    from (x ∷ xs) e once rest =
        let same : x ≡ task = cc (e) in
        let others = filter_all (λ m. not (eqb m task)) xs (All-weaker (λ y. differ x y ≡ true) (λ y. not (eqb y task) ≡ true)
        (λ y h. grind (arith, nat_tests, h, same)) xs once.0) in
        grind (arith, nat_tests, same, rest, others)

-- old is being ticked: waking the tasks that are still due in now, and then slicing, ends in its tick
pub record IsWaking (old now : Table) : Type 0 where
  pub rest : sliced stamp_queues (woken stamp_queues (due now.orders) now) ≡ ticked stamp_queues old
  pub stamped : IsStamped now.orders
  pub room : now.orders.next + length (due now.orders) ≤ old.orders.next + length old.orders.rows

pub waking_starts : (old now : Table) → IsConsistent old → now ≡ record old { orders = advance old.orders } → IsWaking old now
unfolding ticked
waking_starts old now sound starts =
    let later : Table = record old { orders = advance old.orders } in
    subst (λ t. IsWaking old t) (sym starts) (record {
      rest = refl;
      stamped = advanced_stamped old.orders sound.stamped;
      room = omega (arith, length_due (advance old.orders), advance_next old.orders);
    })

add_to_ready_next : (stamps : Stamps) (task : ℕ) → (add_to_ready_list task stamps).next ≡ suc stamps.next
unfolding add_to_ready_list
add_to_ready_next stamps task = refl

pub waking_goes : (old now next : Table) (task : ℕ) → IsWaking old now → task < length now.orders.rows → first_due now.orders ≡ Some task → next ≡ wake
    stamp_queues 0 task now → IsWaking old next × (length (due next.orders) < length (due now.orders))
unfolding wake
waking_goes old now next task waking below some goes =
    let first = first_due_some now.orders task waking.stamped below some in
    let turn = ap (λ tasks. sliced stamp_queues (woken stamp_queues tasks now)) first in
    let shorter = ap length first in
    subst (λ t. IsWaking old t × (length (due t.orders) < length (due now.orders))) (sym goes) (
      record {
        rest = sym turn ∙ waking.rest;
        stamped = add_to_ready_once now.orders task waking.stamped below;
        room = omega (arith, waking.room, shorter, add_to_ready_next now.orders task);
      },
      omega (arith, shorter),
    )

pub waking_ends : (old now : Table) → IsWaking old now → first_due now.orders ≡ None → sliced stamp_queues now ≡ ticked stamp_queues old
waking_ends old now waking none = sym (ap (λ tasks. sliced stamp_queues (woken stamp_queues tasks now)) (first_due_none now.orders waking.stamped none)) ∙
    waking.rest

pub waking_room : (old now : Table) (task : ℕ) → IsWaking old now → task < length now.orders.rows → first_due now.orders ≡ Some task → now.orders.next + 1 ≤
    old.orders.next + length old.orders.rows
waking_room old now task waking below some = omega (arith, waking.room, ap length (first_due_some now.orders task waking.stamped below some))
