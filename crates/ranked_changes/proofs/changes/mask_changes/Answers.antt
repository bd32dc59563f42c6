use Rattle.std.proofs.Common.{◌++◌, map, ap₂, sym, ◌∙◌, arith}
use Rattle.std.specs.Prelude.{List}
use Rattle.ranked_changes.specs.declared.change.Change.{Change}
use Rattle.ranked_changes.specs.declared.change.Change.TheVariants.{Mask}
use Rattle.ranked_changes.specs.Changes.{other_masks}
use Rattle.ranked_changes.proofs.Ranges.{flat_map_more}
use Rattle.ranked_changes.proofs.changes.mask_changes.Goals as goal

pub loop-task-preserved : goal.loop-task-preserved
loop-task-preserved c =
    let header = c.args.header.now in
    c.in_ok-append.ensures.items ∙ ap₂ (λ (done more : List Change). done ++ more) c.loop-task.invariant c.in_ok-more.ensures
    ∙ sym (flat_map_more (λ task. map (Mask task) (other_masks c.args.family header task)) header.config.cores c.loop-task.task (omega arith))
