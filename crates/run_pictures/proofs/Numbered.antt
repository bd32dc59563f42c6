-- Lists that a function gives for each number below a bound.
use Rattle.std.proofs.Common.{◌≡◌, ℕ, ◌+◌, ◌<◌, ◌≤◌, List, length, map, get_or, cond, eqb, refl, sym, ◌∙◌, subst, arith, inl, inr}
use Rattle.std.specs.Prelude.{slice_set}
use Rattle.std.proofs.lemmas.Bool.{cases_eq}
use Rattle.std.proofs.lemmas.Bool.Decides.{nat_tests}
use Rattle.std.proofs.lemmas.List.{length-set, get_or-set_same, get_or-set_other, ext_get_or}
use Rattle.std.proofs.lemmas.List.FromFn.{get_or-map-range_with_len, length-map-range_with_len}
use Rattle.list_orders.specs.Search.{numbers}

pub item : {X : Type 0} (f : ℕ → X) (d : X) (count k : ℕ) → k < count → get_or (map f (numbers count)) k d ≡ f k
item f d count k below = get_or-map-range_with_len f 0 count k k d below (omega arith)

pub size : {X : Type 0} (f : ℕ → X) (count : ℕ) → length (map f (numbers count)) ≡ count
size f count = length-map-range_with_len f 0 count

-- a list that has so many items, each of which is what the function gives
pub is_map : {X : Type 0} (f : ℕ → X) (d : X) (count : ℕ) (all : List X)
    → length all ≡ count → ((k : ℕ) → k < count → get_or all k d ≡ f k) → all ≡ map f (numbers count)
is_map f d count all long each =
    ext_get_or d all (map f (numbers count)) (long ∙ sym (size f count))
    (λ k below. let low : k < count = omega (arith, below, long) in each k low ∙ sym (item f d count k low))

-- two functions that give the same for each of the numbers
pub same_map : {X : Type 0} (f g : ℕ → X) (d : X) (count : ℕ) → ((k : ℕ) → k < count → f k ≡ g k) → map f (numbers count) ≡ map g (numbers count)
same_map f g d count each = is_map g d count (map f (numbers count)) (size f count) (λ k low. item f d count k low ∙ each k low)

-- one item is set, where the list has it
pub one_set : {X : Type 0} (f : ℕ → X) (count place : ℕ) (value : X)
    → slice_set (map f (numbers count)) place value ≡ map (λ k. cond (eqb place k) value (f k)) (numbers count)
one_set f count place value =
    let old = map f (numbers count) in
    let now = slice_set old place value in
    is_map (λ k. cond (eqb place k) value (f k)) value count now (length-set old place value ∙ size f count)
    (λ k low. elim (cases_eq k place) [
      | inl here ↦
          let same = get_or-set_same old place value value (omega (arith, low, here, size f count)) in
          let first = subst (λ j. get_or now j value ≡ value) (sym here) same in
          grind (arith, nat_tests, here, first)
      | inr away ↦
          let other = get_or-set_other old place k value value away ∙ item f value count k low in
          grind (arith, nat_tests, away, other)
    ])

-- the first items are set, and the others are as they were
pub record IsSetTo {X : Type 0} (f : ℕ → X) (d : X) (old : List X) (place : ℕ) (now : List X) : Type 0 where
  pub size : length now ≡ length old
  pub first : (k : ℕ) → k < place → k < length old → get_or now k d ≡ f k
  pub others : (k : ℕ) → place ≤ k → get_or now k d ≡ get_or old k d

pub set_none : {X : Type 0} (f : ℕ → X) (d : X) (old : List X) → IsSetTo f d old 0 old
set_none f d old = record { size = refl; first = λ k low _. absurd (omega (arith, low)); others = λ k _. refl }

pub set_more : {X : Type 0} (f : ℕ → X) (d : X) (old now : List X) (place : ℕ) (value : X)
    → IsSetTo f d old place now → place < length now → value ≡ f place → IsSetTo f d old (place + 1) (slice_set now place value)
set_more f d old now place value set low is = record {
  size = length-set now place value ∙ set.size;
  first = λ k below within. elim (cases_eq k place) [
    | inl here ↦ subst (λ j. get_or (slice_set now place value) j d ≡ f j) (sym here) (get_or-set_same now place value d low ∙ is)
    | inr away ↦ get_or-set_other now place k value d away ∙ set.first k (omega (arith, below, away)) within
  ];
  others = λ k above. get_or-set_other now place k value d (λ (e : k ≡ place). absurd (omega (arith, above, e))) ∙ set.others k (omega (arith, above));
}

pub set_all : {X : Type 0} (f : ℕ → X) (d : X) (old now : List X) (place : ℕ)
    → IsSetTo f d old place now → length old ≤ place → now ≡ map f (numbers (length old))
set_all f d old now place set past =
    is_map f d (length old) now set.size (λ k low. set.first k (omega (arith, low, past)) low)
