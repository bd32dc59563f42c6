use Rattle.std.proofs.Common.{◌≡◌, ◌-◌, flat_map, map}
use Rattle.std.specs.List.{range_with_len}
use Rattle.ranked_changes.specs.Changes.{other_masks}
use Rattle.ranked_changes.specs.declared.change.Change.TheVariants.{Mask}
use Rattle.ranked_changes.proofs.changes.mask_changes.Given as goal

abbrev pub invariant-loop-task : goal.invariant-loop-task
invariant-loop-task l =
    l.changes.items
    ≡ flat_map (λ task. map (Mask task) (other_masks l.family l.header task))
    (range_with_len l.header.config.cores (l.task - l.header.config.cores))
