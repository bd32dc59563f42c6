-- Lists that a loop makes, one item after another.
use Rattle.std.proofs.Common.{◌≡◌, ℕ, zero, suc, ◌+◌, ◌<◌, Bool, true, false, cond, eqb, List, [], ◌∷◌, ◌++◌, length, map, take, get_or, refl, sym, ap, ◌∙◌, inl, inr, arith, append_assoc}
use Rattle.std.specs.Prelude.{slice_set}
use Rattle.std.specs.List.{filter}
use Rattle.std.proofs.lemmas.Bool.{cases_eq}
use Rattle.std.proofs.lemmas.Bool.Decides.{nat_tests}
use Rattle.std.proofs.lemmas.List.{append-nil, get_or-set_same, get_or-set_other, map-append, take_more}
use Rattle.std.proofs.lemmas.List.Elements.{filter-append}
use Rattle.list_orders.specs.Search.{numbers}
use Rattle.list_orders.proofs.Stamped.{numbers_more}
use Rattle.kept_works.specs.Rows.{row_at}

module _ {X Y : Type 0} (f : X → Y) where
  pub map_on : (xs : List X) (index : ℕ) (d : X) (done later : List Y) (y : Y) → index < length xs → done ≡ map f (take index xs) → later ≡ done ++ y ∷ []
      → y ≡ f (get_or xs index d) → later ≡ map f (take (index + 1) xs)
  map_on xs index d done later y within was is own =
      is ∙ (λ i. was i ++ own i ∷ [])
      ∙ sym (ap (map f) (take_more xs index d within) ∙ map-append f (take index xs) (get_or xs index d ∷ []))

  module _ (keep : X → Bool) where
    one_kept : (x : X) → (b : Bool) → keep x ≡ b → map f (filter keep (x ∷ [])) ≡ cond b (f x ∷ []) []
    one_kept x b is = ap (λ (b : Bool). map f (cond b (x ∷ []) [])) is ∙ same b
      where
        same : (b : Bool) → map f (cond b (x ∷ []) []) ≡ cond b (f x ∷ []) []
        same true = refl
        same false = refl

    kept_more : (xs : List X) (index : ℕ) (d : X) (b : Bool) → index < length xs → keep (get_or xs index d) ≡ b
        → map f (filter keep (take (index + 1) xs)) ≡ map f (filter keep (take index xs)) ++ cond b (f (get_or xs index d) ∷ []) []
    kept_more xs index d b within is =
        ap (λ (xs : List X). map f (filter keep xs)) (take_more xs index d within)
        ∙ ap (map f) (filter-append keep (take index xs) (get_or xs index d ∷ []))
        ∙ map-append f (filter keep (take index xs)) (filter keep (get_or xs index d ∷ []))
        ∙ ap (λ (ys : List Y). map f (filter keep (take index xs)) ++ ys) (one_kept (get_or xs index d) b is)

    pub kept_on : (xs : List X) (index : ℕ) (d : X) (done later : List Y) (y : Y) → index < length xs → keep (get_or xs index d) ≡ true
        → done ≡ map f (filter keep (take index xs)) → later ≡ done ++ y ∷ [] → y ≡ f (get_or xs index d)
        → later ≡ map f (filter keep (take (index + 1) xs))
    kept_on xs index d done later y within passes was is own =
        is ∙ (λ i. was i ++ own i ∷ []) ∙ sym (kept_more xs index d true within passes)

    pub passed_over : (xs : List X) (index : ℕ) (d : X) (done : List Y) → index < length xs → keep (get_or xs index d) ≡ false
        → done ≡ map f (filter keep (take index xs)) → done ≡ map f (filter keep (take (index + 1) xs))
    passed_over xs index d done within fails was =
        was ∙ sym (append-nil (map f (filter keep (take index xs)))) ∙ sym (kept_more xs index d false within fails)

module _ {Y : Type 0} (f : ℕ → Y) where
  pub numbers_on : (n : ℕ) (before done later : List Y) (y : Y) → done ≡ before ++ map f (numbers n) → later ≡ done ++ y ∷ [] → y ≡ f n
      → later ≡ before ++ map f (numbers (n + 1))
  numbers_on n before done later y was is own =
      is ∙ (λ i. was i ++ own i ∷ []) ∙ append_assoc before (map f (numbers n)) (f n ∷ [])
      ∙ ap (λ (ys : List Y). before ++ ys) (sym (ap (map f) (numbers_more n) ∙ map-append f (numbers n) (n ∷ [])))

  pub numbers_none : (before : List Y) → before ≡ before ++ map f (numbers 0)
  numbers_none before = sym (append-nil before)

pub more_empty : (rows : List (List ℕ)) → ((row : ℕ) → row_at rows row ≡ []) → (row : ℕ) → row_at (rows ++ [] ∷ []) row ≡ []
more_empty [] all zero = refl
more_empty [] all (suc row) = refl
more_empty (one ∷ rows) all zero = all 0
more_empty (one ∷ rows) all (suc row) = more_empty rows (λ row. all (suc row)) row

pub row_put : (rows : List (List ℕ)) (row other number : ℕ) → row < length rows
    → row_at (slice_set rows row (row_at rows row ++ number ∷ [])) other ≡ row_at rows other ++ cond (eqb row other) (number ∷ []) []
row_put rows row other number within = elim (cases_eq other row) [
  | inl own ↦
      let yes : eqb row other ≡ true = grind (arith, nat_tests, own) in
      ap (row_at (slice_set rows row (row_at rows row ++ number ∷ []))) own
      ∙ get_or-set_same rows row (row_at rows row ++ number ∷ []) [] within
      ∙ (λ i. row_at rows (sym own i) ++ cond (sym yes i) (number ∷ []) [])
  | inr away ↦
      let no : eqb row other ≡ false = grind (arith, nat_tests, away) in
      get_or-set_other rows row other (row_at rows row ++ number ∷ []) [] away
      ∙ sym (append-nil (row_at rows other))
      ∙ ap (λ (b : Bool). row_at rows other ++ cond b (number ∷ []) []) (sym no)
]

pub filter_more : (test : ℕ → Bool) (n : ℕ) → filter test (numbers (n + 1)) ≡ filter test (numbers n) ++ cond (test n) (n ∷ []) []
filter_more test n = ap (filter test) (numbers_more n) ∙ filter-append test (numbers n) (n ∷ [])
