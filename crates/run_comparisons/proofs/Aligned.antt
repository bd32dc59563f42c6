-- Origins of steps, and the rows that they give.
use Rattle.std.proofs.Common.{◌≡◌, ℕ, suc, ◌+◌, ◌<◌, List, ◌++◌, length, drop, get_or, ap, sym, ◌∙◌, append_assoc, add-one}
use Rattle.std.proofs.Math.Seq.{drop-cons}
use Rattle.run_comparisons.specs.declared.rows.Row.{Row}
use Rattle.session_edits.specs.Origins.{Origin}
use Rattle.run_comparisons.specs.Rows.{next_after, rows_at, rows_from}

-- the rows of one origin more
pub rows_on : (count next later place : ℕ) (origins : List Origin) (d : Origin) (initial rows more : List Row) → place < length origins → more ≡ rows ++ rows_at
    next place (get_or origins place d) → later ≡ next_after next (get_or origins place d)
    → rows ++ rows_from count next place (drop place origins) ≡ initial ++ rows_from count 0 0 origins → more ++ rows_from count later (place + 1)
    (drop (place + 1) origins) ≡ initial ++ rows_from count 0 0 origins
rows_on count next later place origins d initial rows more within pushed next_is were =
    let origin = get_or origins place d in
    let rest = rows_from count (next_after next origin) (suc place) (drop (suc place) origins) in
    let here : rows_from count next place (drop place origins) ≡ rows_at next place origin ++ rest = ap (rows_from count next place)
    (drop-cons origins place d within) in
    rw add-one
    (ap (λ (n : ℕ). more ++ rows_from count n (suc place) (drop (suc place) origins)) next_is
    ∙ ap (λ some. some ++ rest) pushed
    ∙ append_assoc rows (rows_at next place origin) rest
    ∙ ap (λ some. rows ++ some) (sym here) ∙ were)
