-- Entries of two tables in the order of a rank: they are equal just where the stamps of tasks of one rank stand in the same order.
use Rattle.std.proofs.Common.{◌≡◌, ℕ, ◌<◌, Bool, true, false, eqb, ltb, ◌&&◌, List, [], ◌∷◌, length, map, refl, sym, ap, ap₂, subst, ◌∙◌, arith, inl, inr}
use Rattle.std.specs.Prelude.{◌↔◌}
use Rattle.std.proofs.lemmas.Bool.{cases_eq}
use Rattle.std.proofs.lemmas.Bool.Decides.{nat_tests}
use Rattle.bench_model.specs.declared.row.TaskState.{TaskState}
use Rattle.list_orders.specs.Search.{numbers, by_stamp, ranked, has}
use Rattle.bench_model.specs.Table.{Stamps, row_at, stamp_of}
use Rattle.bench_model.specs.Sound.{IsStamped}
use Rattle.list_orders.proofs.Choices.{IsOrdered, IsOrdered-weaker, ranked_order, ranked_in_order}
use Rattle.list_orders.proofs.Filters.{map_agrees, All-weaker, All-both, All_each, All-has}
use Rattle.list_orders.proofs.Orders.{either_way, one_list, by_stamp_rises}
use Rattle.list_orders.proofs.Ranks.{IsRank, list_any-ranked, All-ranked, map-ranked}
use Rattle.order_laws.proofs.Restamps.{standing_so}
use Rattle.list_orders.proofs.Stamped.{numbers_below, numbers_have, has-by_stamp, All-by_stamp, All-by_stamp_passes, by_stamp_agrees}

-- the numbers that pass a test, where each stamp was given below the bound
has_stamped : (stamp : ℕ → ℕ) (test : ℕ → Bool) (n bound : ℕ) → ((i : ℕ) → i < n → stamp i < bound) → (i : ℕ) → has i (by_stamp stamp test (numbers n) bound) ≡
    (test i && has i (numbers n))
has_stamped stamp test n bound given i = at (has i (numbers n)) refl
  where
    at : (b : Bool) → has i (numbers n) ≡ b → has i (by_stamp stamp test (numbers n) bound) ≡ (test i && has i (numbers n))
    at true there = grind (
      arith,
      nat_tests,
      has-by_stamp stamp test (numbers n) i bound,
      there,
      given i
          (All-has (λ j. j < n) i (numbers n) (numbers_below n) there),
    )
    at false absent = grind (arith, nat_tests, has-by_stamp stamp test (numbers n) i bound, absent)

-- Two tables of as many rows, of which a test says the same and which have the same entries.
module _ {E : Type 0} (front : E → E → Bool) (rank : IsRank front) (test : TaskState → Bool) (task_of : E → ℕ) (entry other : ℕ → E) (a b : Stamps)
    (rows : length a.rows ≡ length b.rows)
    (named : (i : ℕ) → task_of (entry i) ≡ i)
    (tests : (i : ℕ) → i < length a.rows → test (row_at a i).standing ≡ test (row_at b i).standing)
    (entries : (i : ℕ) → i < length a.rows → entry i ≡ other i) (first : IsStamped a) (second : IsStamped b) where
  abbrev passes : ℕ → Bool
  passes i = test (row_at a i).standing

  abbrev goes : ℕ → ℕ → Bool
  goes i j = front (entry i) (entry j)

  goes-IsRank : IsRank goes
  goes-IsRank = record { total = λ i j. rank.total (entry i) (entry j); chain = λ i j k. rank.chain (entry i) (entry j) (entry k) }

  -- the tasks that pass, by the stamps of either table
  abbrev by : Stamps → List ℕ
  by stamps = by_stamp (stamp_of stamps) passes (numbers (length a.rows)) stamps.next

  abbrev order : Stamps → ℕ → ℕ → Bool
  order stamps = ranked_order goes (λ i j. ltb (stamp_of stamps i) (stamp_of stamps j))

  given : (i : ℕ) → i < length a.rows → stamp_of b i < b.next
  given i low = second.given i (omega (arith, rows, low))

  once : (i j : ℕ) → i < length a.rows → j < length a.rows → stamp_of b i ≡ stamp_of b j → i ≡ j
  once i j low below = second.once i j (omega (arith, rows, low)) (omega (arith, rows, below))

  a_ordered : IsOrdered (order a) (ranked goes (by a))
  a_ordered = ranked_in_order goes (λ i j. ltb (stamp_of a i) (stamp_of a j)) goes-IsRank (by a)
      (by_stamp_rises (stamp_of a) passes (length a.rows) first.once a.next)

  b_ordered : IsOrdered (order b) (ranked goes (by b))
  b_ordered = ranked_in_order goes (λ i j. ltb (stamp_of b i) (stamp_of b j)) goes-IsRank (by b)
      (by_stamp_rises (stamp_of b) passes (length a.rows) once b.next)

  has_a : (i : ℕ) → has i (ranked goes (by a)) ≡ (passes i && has i (numbers (length a.rows)))
  has_a i = list_any-ranked goes (λ m. eqb m i) (by a) ∙ has_stamped (stamp_of a) passes (length a.rows) a.next first.given i

  has_b : (i : ℕ) → has i (ranked goes (by b)) ≡ (passes i && has i (numbers (length a.rows)))
  has_b i = list_any-ranked goes (λ m. eqb m i) (by b) ∙ has_stamped (stamp_of b) passes (length a.rows) b.next given i

  -- the entries, from the tasks in the same order
  from_tasks : (tasks : List ℕ) → map entry (ranked goes tasks) ≡ ranked front (map entry tasks)
  from_tasks tasks = map-ranked goes front entry (λ _. Unit {0}) (λ _ _ _ _. refl) tasks (All_each (λ _. Unit {0}) (λ _. tt) tasks)

  tasks_from : (tasks : List ℕ) → map task_of (map entry tasks) ≡ tasks
  tasks_from [] = refl
  tasks_from (i ∷ tasks) = ap₂ (λ j rest. j ∷ rest) (named i) (tasks_from tasks)

  abbrev listed : List E
  listed = ranked front (map entry (standing_so test a))

  abbrev listed_other : List E
  listed_other = ranked front (map other (standing_so test b))

  others : listed_other ≡ map entry (ranked goes (by b))
  others =
      let n = length a.rows in
      let test_b = λ (i : ℕ). test (row_at b i).standing in
      let sized : standing_so test b ≡ by b = ap (λ m. by_stamp (stamp_of b) test_b (numbers m) b.next) (sym rows)
      ∙ by_stamp_agrees (stamp_of b) test_b passes (numbers n) b.next (All-weaker (λ i. i < n) (λ i. test_b i ≡ passes i) (λ i h. sym (tests i h)) (numbers n)
      (numbers_below n)) in
      ap (ranked front) (ap (map other) sized
      ∙ map_agrees other entry (by b) (All-weaker (λ i. i < n) (λ i. other i ≡ entry i) (λ i h. sym (entries i h)) (by b)
      (All-by_stamp (stamp_of b) passes (numbers n) (λ i. i < n) b.next (numbers_below n))))
      ∙ sym (from_tasks (by b))

  -- the first task came before the second in both tables or in none
  abbrev CameSo : ℕ → ℕ → Type 0
  CameSo i j = (stamp_of a i < stamp_of a j) ↔ (stamp_of b i < stamp_of b j)

  -- two tasks of one rank that pass
  abbrev OfOneRank : ℕ → ℕ → Type 0
  OfOneRank i j = (passes i ≡ true) × (passes j ≡ true) × (goes i j ≡ true) × (goes j i ≡ true)

  came_so : (i j : ℕ) → i < length a.rows → j < length a.rows → OfOneRank i j → ranked goes (by a) ≡ ranked goes (by b) → CameSo i j
  came_so i j low below alike same = elim (cases_eq i j) [
    | inl is ↦ (λ h. absurd (omega (arith, ap (stamp_of a) is, h)), λ h. absurd (omega (arith, ap (stamp_of b) is, h)))
    | inr off ↦ elim (either_way (order a) (order b) (ranked goes (by a)) a_ordered (subst (IsOrdered (order b)) (sym same) b_ordered) i j
        (grind (arith, has_a i, alike.0, numbers_have (length a.rows) i low)) (grind (arith, has_a j, alike.1, numbers_have (length a.rows) j below)) off) [
          | inl ahead ↦ (λ _. grind (arith, nat_tests, ahead.1, alike.2, alike.3), λ _. grind (arith, nat_tests, ahead.0, alike.2, alike.3))
          | inr later ↦ (
            λ h. absurd (grind (arith, nat_tests, later.0, alike.2, alike.3, h)),
            λ h. absurd
                (grind (arith, nat_tests, later.1, alike.2, alike.3, h)),
          )
        ]
  ]

  -- equal entries have the stamps of one rank in the same order
  same_stamps : listed ≡ listed_other → (i j : ℕ) → i < length a.rows → j < length a.rows → OfOneRank i j → CameSo i j
  same_stamps same i j low below alike =
      let tasks = sym (tasks_from (ranked goes (by a))) ∙ ap (map task_of) (from_tasks (by a) ∙ same ∙ others) ∙ tasks_from (ranked goes (by b)) in
      came_so i j low below alike tasks

  apart : (i j : ℕ) → order a i j ≡ true → order a j i ≡ true → ⊥
  apart i j ahead later = grind (arith, nat_tests, rank.total (entry i) (entry j), ahead, later)

  IsListed : ℕ → Type 0
  IsListed i = (i < length a.rows) × (passes i ≡ true)

  follows : ((i j : ℕ) → i < length a.rows → j < length a.rows → OfOneRank i j → CameSo i j) → (i j : ℕ) → IsListed i → IsListed j → order b i j ≡ true → order
      a i j ≡ true
  unfolding IsListed
  follows so i j one another ahead = at (goes i j) refl (goes j i) refl
    where
      at : (c : Bool) → goes i j ≡ c → (d : Bool) → goes j i ≡ d → order a i j ≡ true
      at true forth true back =
          let before = (so i j one.0 another.0 (one.1, another.1, forth, back)).1 (grind (arith, nat_tests, ahead, forth, back)) in
          grind (arith, nat_tests, forth, before)
      at c forth false back = grind (arith, back)
      at false forth true back = absurd (grind (arith, forth, back, ahead))

  -- where the stamps of one rank stand in the same order, the entries are equal
  same_entries : ((i j : ℕ) → i < length a.rows → j < length a.rows → OfOneRank i j → CameSo i j) → listed ≡ listed_other
  unfolding IsListed
  same_entries so =
      let n = length a.rows in
      let all = All-both (λ i. i < n) (λ i. passes i ≡ true) (by b) (All-by_stamp (stamp_of b) passes (numbers n) (λ i. i < n) b.next (numbers_below n))
      (All-by_stamp_passes (stamp_of b) passes (numbers n) b.next) in
      let ordered = IsOrdered-weaker (order b) (order a) IsListed (follows so) (ranked goes (by b)) (All-ranked goes IsListed (by b) all) b_ordered in
      sym (from_tasks (by a)) ∙ ap (map entry) (one_list (order a) apart (ranked goes (by a)) (ranked goes (by b)) a_ordered ordered
      (λ i. has_a i ∙ sym (has_b i))) ∙ sym others

  pub same_orders : (listed ≡ listed_other) ↔ ((i j : ℕ) → i < length a.rows → j < length a.rows → OfOneRank i j → CameSo i j)
  same_orders = (same_stamps, same_entries)
