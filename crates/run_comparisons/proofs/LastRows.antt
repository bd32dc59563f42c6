-- The first and the last of some rows.
use Rattle.std.proofs.Common.{◌≡◌, ℕ, ◌-◌, ◌≤◌, List, [], ◌∷◌, length, drop, get_or, refl, ap, sym, ◌∙◌, arith}
use Rattle.run_comparisons.specs.declared.rows.Row.{Row}
use Rattle.run_comparisons.specs.Comparison.{differences_text, ends_text, last_of, no_difference_text, not_made_line}

last_is : (row : Row) (rows : List Row) (d : Row) → last_of row rows ≡ get_or (row ∷ rows) (length rows) d
last_is row [] d = refl
last_is row (next ∷ rows) d = last_is next rows d

pub ends_printed : (refused : List ℕ) (rows : List Row) (first last d e : Row) → 1 ≤ length rows → first ≡ get_or rows 0 d → last ≡ get_or rows
    (length rows - 1) e → differences_text refused rows ≡ ends_text first last
ends_printed refused [] first last d e some is_first is_last = absurd (omega (arith, some))
ends_printed refused (row ∷ rows) first last d e some is_first is_last =
    let same : length (row ∷ rows) - 1 ≡ length rows = omega arith in
    let ends = is_last ∙ ap (λ (n : ℕ). get_or (row ∷ rows) n e) same in
    ap (λ (one : Row). ends_text one (last_of row rows)) (sym is_first) ∙ ap (ends_text first) (last_is row rows e ∙ sym ends)

-- the first of the edits that are refused, and the others
pub first_printed : (places : List ℕ) (first d : ℕ) (rest : List ℕ) → 1 ≤ length places → first ≡ get_or places 0 d → rest ≡ drop 1 places → no_difference_text
    places ≡ not_made_line first rest
first_printed [] first d rest some is_first are_others = absurd (omega (arith, some))
first_printed (place ∷ places) first d rest some is_first are_others =
    ap (λ (one : ℕ). not_made_line one places) (sym is_first) ∙ ap (not_made_line first) (sym are_others)
