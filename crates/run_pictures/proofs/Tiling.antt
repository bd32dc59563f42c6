-- Stretches tile the values.
use Rattle.std.proofs.Common.{◌≡◌, ◌≤◌, ℕ, suc, ◌+◌, ◌-◌, List, [], ◌∷◌, ◌++◌, flat_map, length, length-append, append_assoc, replicate, Bool, true, false}
use Rattle.std.proofs.Common.{refl, sym, ap, subst, ◌∙◌, arith, true≢false, add-zero}
use Rattle.std.specs.Prelude.{Decides, if◌then◌else◌}
use Rattle.std.proofs.lemmas.List.{append-nil}
use Rattle.run_pictures.specs.declared.stretch.Stretch.{Stretch}
use Rattle.run_pictures.specs.StretchesOf.{extended, NeighboursDiffer, stretches_of, Tiles, values_in}

module _ {X : Type 0} (same : X → X → Bool) (tells : (a b : X) → Decides (same a b) (a ≡ b)) where
  one : (place : ℕ) (value : X) → replicate (suc place - place) value ≡ value ∷ []
  one place value = ap (λ n. replicate n value) (let n : suc place - place ≡ 1 = omega arith in n)

  -- the first stretch begins earlier
  still : (place : ℕ) (stretch : Stretch X) (stretches : List (Stretch X)) → NeighboursDiffer (stretch ∷ stretches) → NeighboursDiffer
      (record stretch { first = place } ∷ stretches)
  still place stretch [] differ = tt
  still place stretch (next ∷ stretches) differ = differ

  longer : (place : ℕ) (value : X) (values : List X) (stretch : Stretch X) (stretches : List (Stretch X)) → stretch.value ≡ value → Tiles (suc place) values
      (stretch ∷ stretches) → Tiles place (value ∷ values) (record stretch { first = place } ∷ stretches)
  longer place value values stretch stretches same rest =
      let first : stretch.first ≡ suc place = rest.follow.0 in
      let within : stretch.first ≤ stretch.last = rest.follow.1 in
      let count : suc stretch.last - place ≡ suc (suc stretch.last - stretch.first) = omega arith in
      record {
        follow = (refl, omega arith, rest.follow.2);
        cover = ap (λ n. replicate n stretch.value ++ flat_map values_in stretches) count
            ∙ ap (λ (x : X). x ∷ (replicate (suc stretch.last - stretch.first) stretch.value ++ flat_map values_in stretches)) same
            ∙ ap (λ xs. value ∷ xs) rest.cover;
        differ = still place stretch stretches rest.differ;
      }

  apart : (place : ℕ) (value : X) (values : List X) (stretch : Stretch X) (stretches : List (Stretch X)) → (stretch.value ≡ value → ⊥) → Tiles (suc place)
      values (stretch ∷ stretches) → Tiles place (value ∷ values) (record { first = place; last = place; value = value } ∷ stretch ∷ stretches)
  apart place value values stretch stretches differs rest = record {
    follow = (refl, omega arith, rest.follow);
    cover = ap (λ xs. xs ++ flat_map values_in (stretch ∷ stretches)) (one place value) ∙ ap (λ xs. value ∷ xs) rest.cover;
    differ = (λ e. differs (sym e), rest.differ);
  }

  more : (place : ℕ) (value : X) (values : List X) (stretches : List (Stretch X)) → Tiles (suc place) values stretches → Tiles place (value ∷ values)
      (extended same place value stretches)
  more place value values [] rest = record {
    follow = (refl, omega arith, tt);
    cover = ap (λ xs. xs ++ []) (one place value) ∙ ap (λ xs. value ∷ xs) rest.cover;
    differ = tt;
  }
  more place value values (stretch ∷ stretches) rest = at (same stretch.value value) (tells stretch.value value)
    where
      at : (b : Bool) → Decides b (stretch.value ≡ value) → Tiles place (value ∷ values)
          (if b then record stretch { first = place } ∷ stretches else record { first = place; last = place; value = value } ∷ stretch ∷ stretches)
      at true decides = longer place value values stretch stretches (decides.0 refl) rest
      at false decides = apart place value values stretch stretches (λ e. true≢false (sym (decides.1 e))) rest

  pub tiled : (place : ℕ) (values : List X) → Tiles place values (stretches_of same place values)
  tiled place [] = record { follow = tt; cover = refl; differ = tt }
  tiled place (value ∷ values) = more place value values (stretches_of same (suc place) values) (tiled (suc place) values)

-- the stretches are those of the values that are not left, of which the first stands behind these
pub record Stretched {X : Type 0} (same : X → X → Bool) (first : ℕ) (values left : List X) (stretches : List (Stretch X)) : Type 0 where
  pub rest : List X
  pub all : left ++ rest ≡ values
  pub are : stretches ≡ stretches_of same (first + length left) rest

pub all_left : {X : Type 0} (same : X → X → Bool) (first : ℕ) (values : List X) → Stretched same first values values []
all_left same first values = record { rest = []; all = append-nil values; are = refl }

-- the last of those that are left is taken
pub one_taken : {X : Type 0} (same : X → X → Bool) (first : ℕ) (values left less : List X) (value : X) (stretches next : List (Stretch X)) → Stretched same
    first values left stretches → left ≡ less ++ value ∷ []
    → next ≡ extended same (first + length less) value stretches → Stretched same first values less next
one_taken same first values left less value stretches next were last extends =
    let place : first + length left ≡ suc (first + length less) = omega (arith, ap length last, length-append less (value ∷ [])) in
    record {
      rest = value ∷ were.rest;
      all = sym (append_assoc less (value ∷ []) were.rest) ∙ ap (λ xs. xs ++ were.rest) (sym last) ∙ were.all;
      are = extends ∙ ap (extended same (first + length less) value) (were.are ∙ ap (λ n. stretches_of same n were.rest) place);
    }

-- none is left
pub none_left : {X : Type 0} (same : X → X → Bool) (first : ℕ) (values left : List X) (stretches : List (Stretch X)) → Stretched same first values left
    stretches → left ≡ [] → stretches ≡ stretches_of same first values
none_left same first values left stretches were none =
    were.are
    ∙ ap (λ xs. stretches_of same (first + length xs) were.rest) none
    ∙ ap (λ n. stretches_of same n were.rest) (add-zero first)
    ∙ ap (stretches_of same first) (ap (λ xs. xs ++ were.rest) (sym none) ∙ were.all)

-- what is equal to them tiles them too
pub tiled_by : {X : Type 0} (same : X → X → Bool) (tells : (a b : X) → Decides (same a b) (a ≡ b)) (place : ℕ) (values : List X) (stretches : List (Stretch X))
    → stretches ≡ stretches_of same place values → Tiles place values stretches
tiled_by same tells place values stretches are = subst (λ s. Tiles place values s) (sym are) (tiled same tells place values)
