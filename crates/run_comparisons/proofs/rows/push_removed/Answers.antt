use Rattle.std.proofs.Common.{ℕ, ◌+◌, ◌++◌, [], ◌∷◌, map, refl, ap, sym, ◌∙◌, append_assoc}
use Rattle.std.specs.Prelude.{List}
use Rattle.std.specs.List.{range_with_len}
use Rattle.std.proofs.lemmas.List.FromFn.{map-range_with_len_more}
use Rattle.run_comparisons.specs.declared.rows.Row.{Row}
use Rattle.run_comparisons.specs.declared.rows.Row.TheVariants.{Removed}
use Rattle.run_comparisons.proofs.rows.push_removed.Goals as goal

pub loop-count-preserved : goal.loop-count-preserved
loop-count-preserved c =
    let place = c.args.from + c.loop-count.count in
    let more = map-range_with_len_more (λ (n : ℕ). Removed n) c.args.from c.loop-count.count place refl in
    c.in_ok-push.ensures.items
    ∙ ap (λ (rows : List Row). rows ++ Removed place ∷ []) c.loop-count.invariant
    ∙ append_assoc c.args.rows.now.items (map (λ (n : ℕ). Removed n) (range_with_len c.args.from c.loop-count.count)) (Removed place ∷ [])
    ∙ ap (λ (rows : List Row). c.args.rows.now.items ++ rows) (sym more)
