-- The steps of a session and those of the edited session, each beside its other.
use Rattle.std.specs.Prelude.{ℕ, suc, ◌-◌, List, [], ◌∷◌, ◌++◌, length, map, Some, None}
use Rattle.std.specs.List.{range_with_len}
use Rattle.bench_types.specs.declared.edit.Edit.{Edit}
use Rattle.bench_types.specs.Session.{Session}
use Rattle.run_comparisons.specs.declared.rows.Row.{Row}
use Rattle.run_comparisons.specs.declared.rows.Row.TheVariants.{Both, Removed, Inserted}
use Rattle.session_edits.specs.Origins.{Origin, all_kept, origins_of}

-- the place before the edits of the step of a row, where it has one
abbrev pub place_before : Row → List ℕ
place_before (Both before after) = before ∷ []
place_before (Removed before) = before ∷ []
place_before (Inserted after) = []

-- and after them
abbrev pub place_after : Row → List ℕ
place_after (Both before after) = after ∷ []
place_after (Removed before) = []
place_after (Inserted after) = after ∷ []

-- the steps from one place up to another, which are removed
abbrev pub removed : ℕ → ℕ → List Row
removed from to = map Removed (range_with_len from (to - from))

-- A step of the edited session. Before a step that both have come those that were removed before
-- it, of which the first that has no row yet is the next.
abbrev pub rows_at : ℕ → ℕ → Origin → List Row
rows_at next place None = Inserted place ∷ []
rows_at next place (Some before) = removed next before ++ Both before place ∷ []

-- the next one after that row
abbrev pub next_after : ℕ → Origin → ℕ
next_after next None = next
next_after next (Some before) = suc before

-- The rows of so many steps before the edits, from the next one on, and of the steps after them,
-- from the place on.
abbrev pub rows_from : ℕ → ℕ → ℕ → List Origin → List Row
rows_from count next place [] = removed next count
rows_from count next place (origin ∷ origins) =
    rows_at next place origin ++ rows_from count (next_after next origin) (suc place) origins

-- the rows of a session and of the session after edits of it
abbrev pub rows_of : Session → List Edit → List Row
rows_of session edits =
    let count = length session.steps in
    rows_from count 0 0 (origins_of session edits (all_kept count))
