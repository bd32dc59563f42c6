-- A core of a sound table always finds a task to select: there are as many idle tasks as cores.
use Rattle.std.proofs.Common.{◌≡◌, ℕ, ◌+◌, ◌<◌, ◌≤◌, Bool, true, false, not, eqb, ◌&&◌, List, [], ◌∷◌, length, map, Some, refl, sym, ap, ◌∙◌, arith, inl, inr}
use Rattle.std.specs.List.{filter, find, list_any, AllByRecursion}
use Rattle.std.proofs.lemmas.Bool.Decides.{nat_tests}
use Rattle.std.proofs.lemmas.List.{length-map}
use Rattle.std.proofs.lemmas.List.FromFn.{length-range_with_len}
use Rattle.std.proofs.lemmas.Map.Steps.{le-length_from_below}
use Rattle.std.specs.Prelude.{◌⊎◌}
use Rattle.list_orders.specs.Search.{numbers, has, without}
use Rattle.bench_model.specs.Control.{Control, current, is_elsewhere, may_select}
use Rattle.bench_model.specs.Table.{Stamps, is_ready, row_at, stands_ready, stamp_of, tasks_of, pick}
use Rattle.bench_model.specs.Lists as seen
use Rattle.bench_model.specs.Lists.{Lists, lists_of, outranks}
use Rattle.bench_model.specs.Sound.{IsStamped}
use Rattle.list_orders.proofs.Filters.{All-has}
use Rattle.list_orders.proofs.Ranks.{All-ranked}
use Rattle.list_orders.proofs.Stamped.{numbers_below, numbers_have, numbers_one, All-by_stamp}
use Rattle.order_laws.proofs.Restamps.{standing_so}
use Rattle.order_laws.proofs.SeenMoves.{is_ready_seen, pick_seen}

-- how many a filter keeps and drops
length_parts : (p : ℕ → Bool) (ns : List ℕ) → length (filter p ns) + length (filter (λ n. not (p n)) ns) ≡ length ns
length_parts p [] = refl
length_parts p (n ∷ ns) = grind (arith, length_parts p ns)

length_numbers : (n : ℕ) → length (numbers n) ≡ n
length_numbers n = length-range_with_len 0 n

-- one number fewer without one of them
length_without : (n i : ℕ) → i < n → length (without i (numbers n)) + 1 ≡ n
length_without n i below = omega (arith, length_parts (λ m. eqb m i) (numbers n), ap length (numbers_one n i below), length_numbers n)

list_any-map : (p : ℕ → Bool) (f : ℕ → ℕ) (ns : List ℕ) → list_any p (map f ns) ≡ list_any (λ n. p (f n)) ns
list_any-map p f [] = refl
list_any-map p f (n ∷ ns) = grind (arith, list_any-map p f ns)

list_any-filter : (p q : ℕ → Bool) (ns : List ℕ) → list_any p (filter q ns) ≡ list_any (λ n. q n && p n) ns
list_any-filter p q [] = refl
list_any-filter p q (n ∷ ns) = grind (arith, list_any-filter p q ns)

pub list_any_at : (p : ℕ → Bool) (n : ℕ) (ns : List ℕ) → has n ns ≡ true → p n ≡ true → list_any p ns ≡ true
list_any_at p n [] found passes = absurd (cc)
list_any_at p n (m ∷ ms) found passes = grind (arith, nat_tests, found, passes, list_any_at p n ms)

list_any_agrees : (p q : ℕ → Bool) (ns : List ℕ) → ((n : ℕ) → p n ≡ q n) → list_any p ns ≡ list_any q ns
list_any_agrees p q [] same = refl
list_any_agrees p q (n ∷ ns) same = grind (arith, same n, list_any_agrees p q ns same)

-- each number passes, or some does not
all_or_some : (p : ℕ → Bool) (ns : List ℕ) → AllByRecursion (λ n. p n ≡ true) ns ⊎ ((n : ℕ) × (has n ns ≡ true) × (p n ≡ false))
all_or_some p [] = inl tt
all_or_some p (n ∷ ns) = at (p n) refl (all_or_some p ns)
  where
    at : (b : Bool) → p n ≡ b → AllByRecursion (λ n. p n ≡ true) ns ⊎ ((m : ℕ) × (has m ns ≡ true) × (p m ≡ false)) → AllByRecursion (λ n. p n ≡ true) (n ∷ ns)
        ⊎ ((m : ℕ) × (has m (n ∷ ns) ≡ true) × (p m ≡ false))
    at true passes (inl all) = inl (passes, all)
    at true passes (inr some) = inr (some.0, grind (arith, some.1), some.2)
    at false fails rest = inr (n, grind (arith, nat_tests), fails)

-- of as many numbers as cores one is on no other core
pub free_number : (control : Control) (core : ℕ) → core < length control.cores → (i : ℕ) × (i < length control.cores) × (is_elsewhere control core i ≡ false)
free_number control core below = elim (all_or_some (is_elsewhere control core) (numbers (length control.cores))) [
  | inl all ↦ absurd (crowded all)
  | inr some ↦ (some.0, All-has (λ i. i < length control.cores) some.0 (numbers (length control.cores)) (numbers_below (length control.cores)) some.1, some.2)
]
  where
    others : List ℕ
    others = map (current control) (without core (numbers (length control.cores)))

    on_other : (i : ℕ) → is_elsewhere control core i ≡ list_any (eqb i) others
    on_other i = list_any_agrees (λ other. not (eqb other core) && eqb (current control other) i)
        (λ other. not (eqb other core) && eqb i (current control other)) (numbers (length control.cores)) (λ other. grind (arith, nat_tests))
        ∙ sym (list_any-filter (λ other. eqb i (current control other)) (λ other. not (eqb other core)) (numbers (length control.cores)))
        ∙ sym (list_any-map (eqb i) (current control) (without core (numbers (length control.cores))))

    crowded : AllByRecursion (λ i. is_elsewhere control core i ≡ true) (numbers (length control.cores)) → ⊥
    crowded all = omega (
      arith,
      le-length_from_below others (length control.cores)
          (λ q low. sym (on_other q) ∙ All-has (λ i. is_elsewhere control core i ≡ true) q (numbers (length control.cores)) all
          (numbers_have (length control.cores) q low)),
      length-map (without core (numbers (length control.cores))) (current control),
      length_without
          (length control.cores) core below,
    )

find_from_any : (p : ℕ → Bool) (ns : List ℕ) → list_any p ns ≡ true → (n : ℕ) × (find p ns ≡ Some n) × (p n ≡ true) × (has n ns ≡ true)
find_from_any p [] some = absurd (cc)
find_from_any p (m ∷ ms) some = at (p m) refl (find_from_any p ms)
  where
    at : (b : Bool) → p m ≡ b → (list_any p ms ≡ true → (n : ℕ) × (find p ms ≡ Some n) × (p n ≡ true) × (has n ms ≡ true)) → (n : ℕ) ×
        (find p (m ∷ ms) ≡ Some n) × (p n ≡ true) × (has n (m ∷ ms) ≡ true)
    at true passes rest = (m, grind (arith, passes), passes, grind (arith, nat_tests))
    at false fails rest = let r = rest (grind (arith, some, fails)) in (r.0, grind (arith, fails, r.1), r.2, grind (arith, r.3))

ready_below : (control : Control) (stamps : Stamps) → AllByRecursion (λ i. i < length stamps.rows) (lists_of control stamps).ready
unfolding lists_of
ready_below control stamps = All-ranked (outranks control) (λ i. i < length stamps.rows) (standing_so stands_ready stamps)
    (All-by_stamp (stamp_of stamps) (λ i. stands_ready (row_at stamps i).standing) (tasks_of stamps) (λ i. i < length stamps.rows) stamps.next
    (numbers_below (length stamps.rows)))

seen_pick : (control : Control) (core : ℕ) (lists : Lists) → seen.pick control core lists ≡ find (may_select control core) lists.ready
unfolding seen.pick
seen_pick control core lists = refl

-- what a core of a sound table selects: a ready task that it may select
pub selects : (control : Control) (core : ℕ) (stamps : Stamps) → IsStamped stamps → core < length control.cores → length control.cores ≤ length stamps.rows →
    ((i : ℕ) → i < length control.cores → is_ready i stamps ≡ true) → (i : ℕ) × (pick control core stamps ≡ Some i) × (i < length stamps.rows) ×
    (is_ready i stamps ≡ true) × (may_select control core i ≡ true)
selects control core stamps stamped below enough idle_ready =
    let free = free_number control core below in
    let ready = (lists_of control stamps).ready in
    let listed : has free.0 ready ≡ true = is_ready_seen control stamps free.0 stamped.given (omega (arith, free.1)) ∙ idle_ready free.0 free.1 in
    let chosen : may_select control core free.0 ≡ true = grind (arith, nat_tests, free.1, free.2) in
    let found = find_from_any (may_select control core) ready (list_any_at (may_select control core) free.0 ready listed chosen) in
    let low : found.0 < length stamps.rows = All-has (λ i. i < length stamps.rows) found.0 ready (ready_below control stamps) found.3 in (
      found.0,
      sym (pick_seen control core stamps stamped) ∙ seen_pick control core (lists_of control stamps) ∙ found.1,
      low,
      sym
          (is_ready_seen control stamps found.0 stamped.given low) ∙ found.3,
      found.2,
    )
