-- It is said that no step differs exactly where the runs differ in no row.
use Rattle.std.proofs.Common.{◌≡◌, ℕ, Bool, true, false, cond, List, [], ◌∷◌, ◌++◌, filter, Option, Some, refl, ap, sym, subst, ◌∙◌, arith}
use Rattle.std.specs.Prelude.{All, codes, decimal, flat_map, slice_get}
use Rattle.std.proofs.lemmas.List.Elements.{All-cons, All-head, All-tail}
use Rattle.run_comparisons.specs.declared.rows.Row.{Row}
use Rattle.run_comparisons.specs.Comparison.{differences_text, ends_text, first_text, further_text, last_of, no_difference_text, not_made_text}
use Rattle.run_comparisons.specs.Comparison.{NoDifferenceIsSaid, SaysNoDifference}
use Rattle.run_comparisons.specs.RowWords.{differs}

-- what is told of refused edits begins so, too
refused_says : (refused : List ℕ) → SaysNoDifference (no_difference_text refused)
unfolding not_made_text
refused_says [] = (codes "\n", refl)
refused_says (place ∷ places) = (
  codes "; refused and not made: edit " ++ decimal place ++ flat_map further_text places ++ codes "\n",
  refl,
)

-- and what is told of rows does not
rows_say : (first last : Row) → SaysNoDifference (ends_text first last) → ⊥
unfolding ends_text first_text
rows_say first last says =
    let letters : ◌≡◌ {A = Option ℕ} (Some 116) (Some 110) = ap (λ (text : List ℕ). slice_get text 0) says.1 in
    let letter : ◌≡◌ {A = ℕ} 116 110 = cc letters in
    omega (arith, letter)

-- where no row differs none is left
none_left : (test : Row → Bool) (rows : List Row) → All (λ row. test row ≡ false) rows → filter test rows ≡ []
none_left test [] all = refl
none_left test (row ∷ rows) all =
    ap (λ (b : Bool). cond b (row ∷ filter test rows) (filter test rows)) (All-head (λ one. test one ≡ false) row rows all)
    ∙ none_left test rows (All-tail (λ one. test one ≡ false) row rows all)

all_same : (test : Row → Bool) (rows : List Row) → filter test rows ≡ [] → All (λ row. test row ≡ false) rows
all_same test [] none = λ k d short. absurd (omega (arith, short))
all_same test (row ∷ rows) none = by (all_same test rows) (test row) refl none
  where
    by : (filter test rows ≡ [] → All (λ one. test one ≡ false) rows) → (b : Bool) → test row ≡ b → cond b (row ∷ filter test rows) (filter test rows) ≡ [] →
        All (λ one. test one ≡ false) (row ∷ rows)
    by rest true tells is = absurd (cc is)
    by rest false tells is = All-cons (λ one. test one ≡ false) row rows tells (rest is)

pub no_difference_is_said : NoDifferenceIsSaid
no_difference_is_said before after refused rows = (
  λ says. by (filter (differs before after) rows) refl says,
  λ all. subst (λ (differing : List Row). SaysNoDifference (differences_text refused differing)) (sym (none_left (differs before after) rows all))
      (refused_says refused),
)
  where
    by : (differing : List Row) → filter (differs before after) rows ≡ differing → SaysNoDifference (differences_text refused differing) → All
        (λ row. differs before after row ≡ false) rows
    by [] is says = all_same (differs before after) rows is
    by (row ∷ rest) is says = absurd (rows_say row (last_of row rest) says)
