-- The columns at which the places of a run begin, where each row of two runs has a column.
use Rattle.std.specs.Prelude.{◌≡◌, ℕ, suc, List, [], ◌∷◌, ◌++◌, flat_map, map, Some, slice_get}
use Rattle.list_orders.specs.Search.{numbers}
use Rattle.run_comparisons.specs.declared.columns.Side.{Side}
use Rattle.run_comparisons.specs.declared.columns.Side.TheVariants.{Before, After}
use Rattle.run_comparisons.specs.declared.rows.Row.{Row}
use Rattle.run_comparisons.specs.Rows.{place_after, place_before}

-- the place of the step of a row in the one run, where it has one
abbrev pub place_in : Side → Row → List ℕ
place_in Before row = place_before row
place_in After row = place_after row

-- A place begins where the row of its step does. The place after the last step begins behind all
-- rows, and ends one column further.
abbrev pub columns_from : Side → ℕ → List Row → List ℕ
columns_from side column [] = column ∷ suc column ∷ []
columns_from side column (row ∷ rows) =
    map (λ place. column) (place_in side row) ++ columns_from side (suc column) rows

abbrev pub columns_of : Side → List Row → List ℕ
columns_of side rows = columns_from side 0 rows

-- where each step of the run stands in one row, in its order, a place begins at the row of its step
abbrev pub ColumnIsRow : Type 0
ColumnIsRow =
    (side : Side) (rows : List Row) (count column place : ℕ) (row : Row)
    → flat_map (place_in side) rows ≡ numbers count → slice_get rows column ≡ Some row
    → place_in side row ≡ place ∷ [] → slice_get (columns_of side rows) place ≡ Some column
