-- A search for the best of some numbers finds it, and finds none exactly where none passes.
use Rattle.std.proofs.Common.{◌≡◌, ℕ, Bool, true, false, not, eqb, ◌||◌, List, [], ◌∷◌, Some, None, refl, arith, inl, inr}
use Rattle.std.specs.Prelude.{◌⊎◌}
use Rattle.std.specs.List.{find, AllByRecursion}
use Rattle.std.proofs.lemmas.Bool.Decides.{nat_tests}
use Rattle.list_orders.specs.Search.{best, is_best, has}
use Rattle.list_orders.proofs.Filters.{All-has, All-weaker, list_all_from, list_all_each}
use Rattle.list_orders.proofs.Ranks.{IsRank}

-- what a search finds passes and is there
pub found : (p : ℕ → Bool) (ids : List ℕ) (i : ℕ) → find p ids ≡ Some i → (has i ids ≡ true) × (p i ≡ true)
found p [] i same = absurd (cc (same))
found p (j ∷ ids) i same = at (p j) refl (λ same. found p ids i same)
  where
    at : (b : Bool) → p j ≡ b → (find p ids ≡ Some i → (has i ids ≡ true) × (p i ≡ true)) → (has i (j ∷ ids) ≡ true) × (p i ≡ true)
    at true passes rest = let here : j ≡ i = grind (arith, passes, same) in (grind (arith, nat_tests, here), grind (arith, passes, here))
    at false fails rest = let later = rest (grind (arith, fails, same)) in (grind (arith, nat_tests, later.0), later.1)

missed : (p : ℕ → Bool) (ids : List ℕ) → find p ids ≡ None → (i : ℕ) → has i ids ≡ true → p i ≡ false
missed p [] none i there = absurd (cc (there))
missed p (j ∷ ids) none i there = at (p j) refl (eqb j i) refl (λ none there. missed p ids none i there)
  where
    at : (b : Bool) → p j ≡ b → (d : Bool) → eqb j i ≡ d → (find p ids ≡ None → has i ids ≡ true → p i ≡ false) → p i ≡ false
    at true passes d same rest = absurd (grind (arith, passes, none))
    at false fails true same rest = grind (arith, nat_tests, fails, same)
    at false fails false other rest = rest (grind (arith, fails, none)) (grind (arith, other, there))

module _ (test : ℕ → Bool) (before : ℕ → ℕ → Bool) (rank : IsRank before) where
  self : (i : ℕ) → before i i ≡ true
  self i = at (before i i) refl
    where
      at : (b : Bool) → before i i ≡ b → b ≡ true
      at true same = refl
      at false other = absurd (cc (rank.total i i other, other))

  abbrev Leads : ℕ → ℕ → Type 0
  Leads i j = (not (test j) || before i j) ≡ true

  record IsLeader (ids : List ℕ) (i : ℕ) : Type 0 where
    there : has i ids ≡ true
    passes : test i ≡ true
    leads : AllByRecursion (Leads i) ids

  following : (x i j : ℕ) (b : Bool) → test j ≡ b → before x i ≡ true → Leads i j → Leads x j
  following x i j true good first leads = grind (arith, rank.chain x i j first (grind (arith, good, leads)))
  following x i j false bad first leads = grind (arith, bad)

  -- the leader of some numbers and one more
  ahead : (x i : ℕ) (ids : List ℕ) → test x ≡ true → IsLeader ids i → (b : Bool) → before i x ≡ b → (k : ℕ) × IsLeader (x ∷ ids) k
  ahead x i ids passes one true first = (i, record { there = grind (arith, one.there); passes = one.passes; leads = (grind (arith, first), one.leads) })
  ahead x i ids passes one false last = (
    x,
    record {
      there = grind (arith, nat_tests);
      passes = passes;
      leads = (grind (arith, self x), All-weaker (Leads i) (Leads x) (λ j h. following x i j (test j) refl (rank.total i x last) h) ids one.leads);
    },
  )

  -- some number leads all, or none passes
  leader : (ids : List ℕ) → AllByRecursion (λ j. test j ≡ false) ids ⊎ ((i : ℕ) × IsLeader ids i)
  leader [] = inl tt
  leader (x ∷ ids) = at (test x) refl (leader ids)
    where
      at : (b : Bool) → test x ≡ b → AllByRecursion (λ j. test j ≡ false) ids ⊎ ((i : ℕ) × IsLeader ids i) → AllByRecursion (λ j. test j ≡ false) (x ∷ ids) ⊎
          ((i : ℕ) × IsLeader (x ∷ ids) i)
      at true passes (inl none) = inr (
        x,
        record {
          there = grind (arith, nat_tests);
          passes = passes;
          leads = (grind (arith, self x), All-weaker (λ j. test j ≡ false) (Leads x) (λ j h. grind (arith, h)) ids none);
        },
      )
      at true passes (inr some) = inr (ahead x some.0 ids passes some.1 (before some.0 x) refl)
      at false fails (inl none) = inl (fails, none)
      at false fails (inr some) = inr (
        some.0,
        record {
          there = grind (arith, some.1.there);
          passes = some.1.passes;
          leads =
              (grind (arith, fails), some.1.leads);
        },
      )

  -- what is found passes, and goes before each that passes
  pub best_found : (ids : List ℕ) (i : ℕ) → best test before ids ≡ Some i → (has i ids ≡ true) × (test i ≡ true) ×
      ((j : ℕ) → has j ids ≡ true → test j ≡ true → before i j ≡ true)
  unfolding best
  best_found ids i same =
      let it = found (is_best test before ids) ids i same in
      let each = list_all_each (λ j. not (test j) || before i j) ids (grind (arith, it.1)) in
      (it.0, grind (arith, it.1), λ j there good. grind (arith, All-has (Leads i) j ids each there, good))

  -- where none is found, none passes
  pub best_none : (ids : List ℕ) → best test before ids ≡ None → (j : ℕ) → has j ids ≡ true → test j ≡ false
  unfolding best
  best_none ids none j there = elim (leader ids) [
    | inl all ↦ All-has (λ k. test k ≡ false) j ids all there
    | inr some ↦ absurd (grind (
      arith,
      missed (is_best test before ids) ids none some.0 some.1.there,
      some.1.passes,
      list_all_from
          (λ k. not (test k) || before some.0 k) ids some.1.leads,
    ))
  ]
