use Rattle.std.proofs.Common.{◌≡◌, ◌+◌, ◌++◌, [], ◌∷◌, List, ap, sym, ◌∙◌, arith}
use Rattle.std.proofs.lemmas.List.FromFn.{map-range_with_len_more}
use Rattle.run_comparisons.specs.declared.rows.Row.{Row}
use Rattle.run_comparisons.specs.declared.rows.Row.TheVariants.{Both}
use Rattle.run_comparisons.proofs.comparison.rows_of_both.Goals as goal

pub loop-place-preserved : goal.loop-place-preserved
loop-place-preserved c =
    let place = c.loop-place.place in
    let start : 0 + place ≡ place = omega arith in
    c.in_ok-push.ensures.items ∙ ap (λ (rows : List Row). rows ++ Both place place ∷ []) c.loop-place.invariant
    ∙ sym (map-range_with_len_more (λ n. Both n n) 0 place place start)
