use Rattle.std.proofs.Common.{◌≡◌, ℕ, [], length}
use Rattle.kept_works.specs.Rows.{row_at}
use Rattle.kept_works.proofs.rows.empty_rows.Given as goal

abbrev pub invariant-loop-row : goal.invariant-loop-row
invariant-loop-row l = record { many : length l.rows.items ≡ l._row; empty : (row : ℕ) → row_at l.rows.items row ≡ [] }
