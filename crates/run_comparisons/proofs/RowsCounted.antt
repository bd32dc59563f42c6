-- There are no more rows than steps of both runs.
use Rattle.std.proofs.Common.{◌≤◌, ◌+◌, List, [], ◌∷◌, length, flat_map, ap, ◌∙◌, arith}
use Rattle.std.proofs.lemmas.List.FromFn.{length-range_with_len}
use Rattle.session_runs.specs.Run.{RunView}
use Rattle.run_comparisons.specs.declared.rows.Row.{Row}
use Rattle.run_comparisons.specs.declared.rows.Row.TheVariants.{Both, Removed, Inserted}
use Rattle.run_comparisons.specs.Pairs.{EachStandsOnce}
use Rattle.run_comparisons.specs.Rows.{place_after, place_before}

counted : (rows : List Row) → length rows ≤ length (flat_map place_before rows) + length (flat_map place_after rows)
counted [] = omega arith
counted (Both before after ∷ rows) = omega (arith, counted rows)
counted (Removed before ∷ rows) = omega (arith, counted rows)
counted (Inserted after ∷ rows) = omega (arith, counted rows)

pub few_rows : (before after : RunView) (rows : List Row) → EachStandsOnce before after rows → length rows ≤ length before.session.steps +
    length after.session.steps
few_rows before after rows each =
    let old = ap (λ places. length places) each.each_before ∙ length-range_with_len 0 (length before.session.steps) in
    let new = ap (λ places. length places) each.each_after ∙ length-range_with_len 0 (length after.session.steps) in
    omega (arith, counted rows, old, new)
