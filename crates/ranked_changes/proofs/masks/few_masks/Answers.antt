use Rattle.std.proofs.Common.{[], ◌∷◌, ◌++◌, ap, sym, ◌∙◌, arith}
use Rattle.std.specs.Prelude.{List, ℕ}
use Rattle.ranked_changes.proofs.Ranges.{range_more}
use Rattle.ranked_changes.proofs.masks.few_masks.Goals as goal

pub loop-mask-preserved : goal.loop-mask-preserved
loop-mask-preserved c =
    c.in_ok-push.ensures.items ∙ ap (λ (masks : List ℕ). masks ++ c.loop-mask.mask ∷ []) c.loop-mask.invariant
    ∙ sym (range_more 1 c.loop-mask.mask (omega arith))
