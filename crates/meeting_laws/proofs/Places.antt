-- Lists of places: their items, their least and their greatest.
use Rattle.std.proofs.Common.{◌≡◌, ◌⊎◌, inl, inr, ⊎_elim, ℕ, zero, suc, ◌<◌, ◌≤◌, min, Bool, true, false, eqb, ◌&&◌, ◌||◌, leb, List, [], ◌∷◌, map, take, refl}
use Rattle.std.proofs.Common.{sym, ap, ap₂, ◌∙◌, arith}
use Rattle.std.specs.Prelude.{filter, slice_get}
use Rattle.std.specs.List.{list_any}
use Rattle.std.proofs.lemmas.Bool.{and_parts}
use Rattle.std.proofs.lemmas.Bool.Decides.{nat_tests}
use Rattle.list_orders.proofs.Filters.{has-filter, list_any-map}
use Rattle.list_orders.specs.Search.{has}
use Rattle.bench_model.specs.Meeting.{least}
use Rattle.order_laws.proofs.Selects.{list_any_at}

pub last_taken : {X : Type 0} (xs : List X) (n : ℕ) → slice_get (take (suc n) xs) n ≡ slice_get xs n
last_taken [] n = refl
last_taken (x ∷ xs) zero = refl
last_taken (x ∷ xs) (suc n) = last_taken xs n

pub has_first : (place : ℕ) (places : List ℕ) → has place (place ∷ places) ≡ true
has_first place places =
    let same : eqb place place ≡ true = grind (arith, nat_tests) in
    ap (λ b. b || has place places) same

pub has_rest : (first place : ℕ) (places : List ℕ) → has place places ≡ true → has place (first ∷ places) ≡ true
has_rest first place places found = at (eqb first place)
  where
    at : (b : Bool) → (b || has place places) ≡ true
    at true = refl
    at false = found

pub has_later : (first place : ℕ) (places : List ℕ) → eqb first place ≡ false → has place (first ∷ places) ≡ true → has place places ≡ true
has_later first place places other found = sym (ap (λ b. b || has place places) other) ∙ found

-- a test that some place passes
pub any_found : (test : ℕ → Bool) (places : List ℕ) → list_any test places ≡ true → (place : ℕ) × (has place places ≡ true) × (test place ≡ true)
any_found test [] found = absurd (cc found)
any_found test (place ∷ places) found = at (test place) refl found (any_found test places)
  where
    at : (b : Bool) → test place ≡ b → (b || list_any test places) ≡ true →
        (list_any test places ≡ true → (other : ℕ) × (has other places ≡ true) × (test other ≡ true)) → (other : ℕ) × (has other (place ∷ places) ≡ true) ×
        (test other ≡ true)
    at true is found later = (place, has_first place places, is)
    at false is found later = let rest = later found in (rest.0, has_rest place rest.0 places rest.1, rest.2)

-- ---- the least of some places

pub least_within : (last : ℕ) (places : List ℕ) → least last places ≤ last
least_within last [] = omega arith
least_within last (place ∷ places) = omega (arith, least_within (min last place) places)

pub least_from : (bound last : ℕ) (places : List ℕ) → bound ≤ last → ((place : ℕ) → has place places ≡ true → bound ≤ place) → bound ≤ least last places
least_from bound last [] low each = low
least_from bound last (place ∷ places) low each =
    let here = each place (has_first place places) in
    least_from bound (min last place) places (omega (arith, low, here)) (λ other found. each other (has_rest place other places found))

pub least_each : (last place : ℕ) (places : List ℕ) → has place places ≡ true → least last places ≤ place
least_each last place [] found = absurd (cc found)
least_each last place (first ∷ places) found = at (eqb first place) refl (least_each (min last first) place places)
  where
    at : (here : Bool) → eqb first place ≡ here → (has place places ≡ true → least (min last first) places ≤ place) → least (min last first) places ≤ place
    at true is later =
        let same : first ≡ place = grind (arith, nat_tests, is) in
        omega (arith, least_within (min last first) places, same)
    at false is later = later (has_later first place places is found)

pub least_reached : (last : ℕ) (places : List ℕ) → (least last places ≡ last) ⊎ (has (least last places) places ≡ true)
least_reached last [] = inl refl
least_reached last (first ∷ places) = ⊎_elim lesser (λ found. inr (has_rest first n places found)) (least_reached (min last first) places)
  where
    n : ℕ
    n = least (min last first) places

    at : (b : Bool) → leb last first ≡ b → n ≡ min last first → (n ≡ last) ⊎ (has n (first ∷ places) ≡ true)
    at true is same =
        let low : last ≤ first = grind (arith, nat_tests, is) in
        inl (omega (arith, same, low))
    at false is same =
        let low : first < last = grind (arith, nat_tests, is) in
        let here : n ≡ first = omega (arith, same, low) in
        inr (ap (λ m. has m (first ∷ places)) here ∙ has_first first places)

    lesser : n ≡ min last first → (n ≡ last) ⊎ (has n (first ∷ places) ≡ true)
    lesser same = at (leb last first) refl same

-- ---- the places that pass a test, moved

module _ (move : ℕ → ℕ) (test : ℕ → Bool) (places : List ℕ) where
  pub moved_found : (n : ℕ) → has n (map move (filter test places)) ≡ true → (place : ℕ) × (has place places ≡ true) × (test place ≡ true) × (move place ≡ n)
  moved_found n found =
      let any = any_found (λ place. eqb (move place) n) (filter test places) (sym (list_any-map (λ m. eqb m n) move (filter test places)) ∙ found) in
      let parts = and_parts (test any.0) (has any.0 places) (sym (has-filter test any.0 places) ∙ any.1) in
      let same : move any.0 ≡ n = grind (arith, nat_tests, any.2) in
      (any.0, parts.1, parts.0, same)

  pub moved_has : (place : ℕ) → has place places ≡ true → test place ≡ true → has (move place) (map move (filter test places)) ≡ true
  moved_has place listed passes =
      let kept = has-filter test place places ∙ ap₂ (λ a b. a && b) passes listed in
      let same : eqb (move place) (move place) ≡ true = grind (arith, nat_tests) in
      list_any-map (λ m. eqb m (move place)) move (filter test places) ∙ list_any_at (λ other. eqb (move other) (move place)) place (filter test places) kept
      same
