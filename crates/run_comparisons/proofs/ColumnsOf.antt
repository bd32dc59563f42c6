-- Columns, row by row.
use Rattle.std.proofs.Common.{◌≡◌, ℕ, zero, suc, ◌+◌, ◌-◌, ◌<◌, ◌≤◌, List, [], ◌∷◌, ◌++◌, length, map, flat_map, drop, get_or, Some, sym, ap, subst, ◌∙◌}
use Rattle.std.proofs.Common.{append_assoc, arith}
use Rattle.std.specs.Prelude.{slice_get}
use Rattle.std.specs.List.{range_with_len}
use Rattle.std.proofs.Math.Seq.{drop-cons}
use Rattle.std.proofs.lemmas.List.{drop_all}
use Rattle.run_comparisons.specs.declared.columns.Side.{Side}
use Rattle.run_comparisons.specs.declared.columns.Side.TheVariants.{Before, After}
use Rattle.run_comparisons.specs.declared.rows.Row.{Row}
use Rattle.run_comparisons.specs.declared.rows.Row.TheVariants.{Both, Removed, Inserted}
use Rattle.run_comparisons.specs.Columns.{columns_from, columns_of, place_in, ColumnIsRow}

-- the row was given its column
pub column_on : (side : Side) (rows : List Row) (column : ℕ) (row : Row) (columns next : List ℕ) → column < length rows → row ≡ get_or rows column row → next ≡
    columns ++ map (λ place. column) (place_in side row)
    → columns ++ columns_from side column (drop column rows) ≡ columns_of side rows → next ++ columns_from side (column + 1) (drop (column + 1) rows) ≡
    columns_of side rows
column_on side rows column row columns next within is pushed before =
    let more : column + 1 ≡ suc column = omega arith in
    let rest : drop column rows ≡ row ∷ drop (suc column) rows = drop-cons rows column row within ∙ ap (λ (r : Row). r ∷ drop (suc column) rows) (sym is) in
    ap (λ n. next ++ columns_from side n (drop n rows)) more
    ∙ ap (λ xs. xs ++ columns_from side (suc column) (drop (suc column) rows)) pushed
    ∙ append_assoc columns (map (λ place. column) (place_in side row)) (columns_from side (suc column) (drop (suc column) rows))
    ∙ ap (λ xs. columns ++ columns_from side column xs) (sym rest)
    ∙ before

-- behind all rows
pub columns_end : (side : Side) (rows : List Row) (column : ℕ) (columns one two : List ℕ) → length rows ≤ column → column ≤ length rows → one ≡ columns ++
    length rows ∷ [] → two ≡ one ++ (length rows + 1) ∷ []
    → columns ++ columns_from side column (drop column rows) ≡ columns_of side rows → two ≡ columns_of side rows
columns_end side rows column columns one two all within first second before =
    let here : length rows ≡ column = omega (arith, all, within) in
    let more : length rows + 1 ≡ suc (length rows) = omega arith in
    second
    ∙ ap (λ xs. xs ++ (length rows + 1) ∷ []) first
    ∙ append_assoc columns (length rows ∷ []) ((length rows + 1) ∷ [])
    ∙ ap (λ n. columns ++ length rows ∷ n ∷ []) more
    ∙ ap (λ n. columns ++ n ∷ suc n ∷ []) here
    ∙ ap (λ xs. columns ++ columns_from side column xs) (sym (drop_all column rows all))
    ∙ before

-- a place behind the first ones begins at this column
abbrev Begins : ℕ → ℕ → List ℕ → ℕ → Type 0
Begins first place columns column = (first ≤ place) × (slice_get columns (place - first) ≡ Some column)

-- the first place of a list that counts on
head_is : (first count place : ℕ) (rest : List ℕ) → place ∷ rest ≡ range_with_len first count → place ≡ first
head_is first zero place rest same = absurd (cc same)
head_is first (suc count) place rest same = cc same

tail_is : (first count place : ℕ) (rest : List ℕ) → place ∷ rest ≡ range_with_len first count → rest ≡ range_with_len (first + 1) (count - 1)
tail_is first zero place rest same = absurd (cc same)
tail_is first (suc count) place rest same = (let tail : rest ≡ range_with_len (first + 1) count = cc same in tail) ∙ ap (λ n. range_with_len (first + 1) n)
    (let n : count ≡ suc count - 1 = omega arith in n)

-- the first row has the place
here : (from first count place : ℕ) (places rest columns : List ℕ) → places ≡ place ∷ [] → places ++ rest ≡ range_with_len first count → Begins first place
    (map (λ p. from) places ++ columns) (from + 0)
here from first count place places rest columns is counts =
    let same : place ≡ first = head_is first count place rest (sym (ap (λ ps. ps ++ rest) is) ∙ counts) in
    let none : place - first ≡ 0 = omega (arith, same) in
    let column : from ≡ from + 0 = omega arith in (
      omega (arith, same),
      ap (λ n. slice_get (map (λ p. from) places ++ columns) n) none ∙ ap (λ ps. slice_get (map (λ p. from) ps ++ columns) 0) is ∙ ap
          (λ n. Some n) column,
    )

-- a later row has it
later : (from first column place : ℕ) (columns : List ℕ) → Begins (first + 1) place columns (suc from + column) → Begins first place (from ∷ columns)
    (from + suc column)
later from first column place columns begins =
    let behind : place - first ≡ suc (place - (first + 1)) = omega (arith, begins.0) in
    let same : suc from + column ≡ from + suc column = omega arith in
    (omega (arith, begins.0), ap (λ n. slice_get (from ∷ columns) n) behind ∙ begins.1 ∙ ap (λ n. Some n) same)

-- a row before the one that has it
split : (from first count column place : ℕ) (places columns : List ℕ) → ((first count : ℕ) → places ≡ range_with_len first count → Begins first place columns
    (suc from + column)) → (side : Side) (row : Row) → place_in side row ++ places ≡ range_with_len first count
    → Begins first place (map (λ p. from) (place_in side row) ++ columns) (from + suc column)
split from first count column place places columns rest side row = at side row
  where
    own : (p : ℕ) → p ∷ places ≡ range_with_len first count → Begins first place (from ∷ columns) (from + suc column)
    own p counts = later from first column place columns (rest (first + 1) (count - 1) (tail_is first count p places counts))

    none : places ≡ range_with_len first count → Begins first place columns (from + suc column)
    none counts = let same : suc from + column ≡ from + suc column = omega arith in subst (λ n. Begins first place columns n) same (rest first count counts)

    at : (s : Side) (r : Row) → place_in s r ++ places ≡ range_with_len first count → Begins first place (map (λ p. from) (place_in s r) ++ columns)
        (from + suc column)
    at Before (Both before after) counts = own before counts
    at Before (Removed before) counts = own before counts
    at Before (Inserted after) counts = none counts
    at After (Both before after) counts = own after counts
    at After (Removed before) counts = none counts
    at After (Inserted after) counts = own after counts

-- the places of the rows from a column on begin at these columns
rows_begin : (side : Side) (rows : List Row) (from first count column place : ℕ) (row : Row) → flat_map (place_in side) rows ≡ range_with_len first count →
    slice_get rows column ≡ Some row → place_in side row ≡ place ∷ []
    → Begins first place (columns_from side from rows) (from + column)
rows_begin side [] from first count column place row counts is at = absurd (cc is)
rows_begin side (one ∷ rows) from first count zero place row counts is at =
    here from first count place (place_in side one) (flat_map (place_in side) rows) (columns_from side (suc from) rows)
    (ap (place_in side) (let first_row : one ≡ row = cc is in first_row) ∙ at) counts
rows_begin side (one ∷ rows) from first count (suc column) place row counts is at =
    split from first count column place (flat_map (place_in side) rows) (columns_from side (suc from) rows)
    (λ f n printed. rows_begin side rows (suc from) f n column place row printed is at) side one counts

pub column_is_row : ColumnIsRow
column_is_row side rows count column place row counts is at =
    let begins = rows_begin side rows 0 0 count column place row counts is at in
    let same : place - 0 ≡ place = omega arith in
    let number : 0 + column ≡ column = omega arith in
    ap (λ n. slice_get (columns_of side rows) n) (sym same) ∙ begins.1 ∙ ap (λ n. Some n) number
