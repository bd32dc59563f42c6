use Rattle.std.proofs.Common.{◌++◌, map, ap₂, sym, ◌∙◌, arith}
use Rattle.std.specs.Prelude.{List}
use Rattle.ranked_changes.specs.declared.change.Change.{Change}
use Rattle.ranked_changes.specs.declared.change.Change.TheVariants.{Priority}
use Rattle.ranked_changes.specs.Changes.{other_priorities}
use Rattle.ranked_changes.proofs.Ranges.{flat_map_more}
use Rattle.ranked_changes.proofs.changes.priority_changes.Goals as goal

pub loop-task-preserved : goal.loop-task-preserved
loop-task-preserved c =
    let header = c.args.header.now in
    c.in_ok-append.ensures.items ∙ ap₂ (λ (done more : List Change). done ++ more) c.loop-task.invariant c.in_ok-more.ensures
    ∙ sym (flat_map_more (λ task. map (Priority task) (other_priorities header task)) header.config.cores c.loop-task.task (omega arith))
