use Rattle.std.proofs.Common.{arith, ℕ, ◌++◌, [], ◌∷◌, Option, Some, ap, sym, ◌∙◌}
use Rattle.std.specs.Prelude.{List}
use Rattle.std.proofs.lemmas.List.FromFn.{map-range_with_len_more}
use Rattle.session_edits.proofs.origins.all_kept.Goals as goal

pub loop-place-preserved : goal.loop-place-preserved
loop-place-preserved c =
    c.in_ok-push.ensures.items
    ∙ ap (λ (items : List (Option ℕ)). items ++ Some c.loop-place.place ∷ []) c.loop-place.invariant
    ∙ sym (map-range_with_len_more (λ (n : ℕ). Some n) 0 c.loop-place.place c.loop-place.place (omega arith))
