use Rattle.std.proofs.Common.{◌^◌, [], ◌∷◌, ◌++◌, ap₂, sym, ◌∙◌}
use Rattle.std.specs.Prelude.{List, ℕ}
use Rattle.ranked_changes.proofs.Ranges.{map_more}
use Rattle.ranked_changes.proofs.masks.single_masks.Goals as goal

pub loop-core-preserved : goal.loop-core-preserved
loop-core-preserved c =
    c.in_ok-push.ensures.items ∙ ap₂ (λ (masks : List ℕ) (mask : ℕ). masks ++ mask ∷ []) c.loop-core.invariant c.single_mask.ensures
    ∙ sym (map_more (λ core. 2 ^ core) c.loop-core.core)
