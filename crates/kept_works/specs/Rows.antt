-- Numbers in rows.
use Rattle.std.specs.Prelude.{ℕ, List, [], slice_index_or}

-- no number stands in a row that is none
abbrev pub row_at : List (List ℕ) → ℕ → List ℕ
row_at rows row = slice_index_or rows row []
