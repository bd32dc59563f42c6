use Rattle.std.proofs.Common.{◌≡◌, ◌-◌, flat_map, map}
use Rattle.std.specs.List.{range_with_len}
use Rattle.ranked_changes.specs.Changes.{other_priorities}
use Rattle.ranked_changes.specs.declared.change.Change.TheVariants.{Priority}
use Rattle.ranked_changes.proofs.changes.priority_changes.Given as goal

abbrev pub invariant-loop-task : goal.invariant-loop-task
invariant-loop-task l =
    l.changes.items
    ≡ flat_map (λ task. map (Priority task) (other_priorities l.header task))
    (range_with_len l.header.config.cores (l.task - l.header.config.cores))
