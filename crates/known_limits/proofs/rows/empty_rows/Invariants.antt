use Rattle.std.proofs.Common.{◌≡◌, ℕ, [], length}
use Rattle.known_limits.specs.Before.{row_at}
use Rattle.known_limits.proofs.rows.empty_rows.Given as goal

abbrev pub invariant-loop-row : goal.invariant-loop-row
invariant-loop-row l = record { many : length l.rows.items ≡ l._row; empty : (row : ℕ) → row_at l.rows.items row ≡ [] }
