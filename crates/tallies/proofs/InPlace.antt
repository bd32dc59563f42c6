-- A list whose items are set one after another, each to what a function gives for its place.
use Rattle.std.proofs.Common.{◌≡◌, ℕ, ◌+◌, ◌<◌, ◌≤◌, List, length, map, get_or, refl, sym, ◌∙◌, subst, arith, inl, inr}
use Rattle.std.specs.Prelude.{slice_set}
use Rattle.std.proofs.lemmas.Bool.{cases_eq}
use Rattle.std.proofs.lemmas.List.{length-set, get_or-set_same, get_or-set_other, ext_get_or}
use Rattle.std.proofs.lemmas.List.FromFn.{get_or-map-range_with_len, length-map-range_with_len}
use Rattle.list_orders.specs.Search.{numbers}

-- the first items are set, and the others are as they were
pub record IsSetTo {X : Type 0} (f : ℕ → X) (d : X) (old : List X) (place : ℕ) (now : List X) : Type 0 where
  pub size : length now ≡ length old
  pub first : (k : ℕ) → k < place → k < length old → get_or now k d ≡ f k
  pub others : (k : ℕ) → place ≤ k → get_or now k d ≡ get_or old k d

pub set_none : {X : Type 0} (f : ℕ → X) (d : X) (old : List X) → IsSetTo f d old 0 old
set_none f d old = record { size = refl; first = λ k low _. absurd (omega (arith, low)); others = λ k _. refl }

pub set_more : {X : Type 0} (f : ℕ → X) (d : X) (old now : List X) (place : ℕ) → IsSetTo f d old place now → place < length now → IsSetTo f d old (place + 1)
    (slice_set now place (f place))
set_more f d old now place set low = record {
  size = length-set now place (f place) ∙ set.size;
  first = λ k below within. elim (cases_eq k place) [
    | inl here ↦ subst (λ j. get_or (slice_set now place (f place)) j d ≡ f j) (sym here) (get_or-set_same now place (f place) d low)
    | inr away ↦ get_or-set_other now place k (f place) d away ∙ set.first k (omega (arith, below, away)) within
  ];
  others = λ k above. get_or-set_other now place k (f place) d (λ (e : k ≡ place). absurd (omega (arith, above, e))) ∙ set.others k (omega (arith, above));
}

pub set_all : {X : Type 0} (f : ℕ → X) (d : X) (old now : List X) (place : ℕ) → IsSetTo f d old place now → length old ≤ place → now ≡ map f
    (numbers (length old))
set_all f d old now place set past =
    ext_get_or d now (map f (numbers (length old))) (set.size ∙ sym (length-map-range_with_len f 0 (length old)))
    (λ k low. set.first k (omega (arith, low, set.size, past)) (omega (arith, low, set.size)) ∙ sym
    (get_or-map-range_with_len f 0 (length old) k k d (omega (arith, low, set.size)) (omega arith)))
