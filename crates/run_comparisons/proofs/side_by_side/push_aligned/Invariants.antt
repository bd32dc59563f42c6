use Rattle.std.proofs.Common.{◌≡◌, ◌+◌, ◌-◌, ◌++◌, List, length}
use Rattle.run_comparisons.specs.declared.rows.Row.{Row}
use Rattle.run_comparisons.specs.SideBySide.{AreAligned}
use Rattle.run_comparisons.proofs.side_by_side.push_aligned.Given as goal

-- whatever rows are still to come, those made and they are aligned from the first places on
abbrev pub invariant-loop-row : goal.invariant-loop-row
invariant-loop-row l = (made : List Row) × (l.rows.items ≡ l.initial.rows.items ++ made) ×
    ((rest : List Row) → AreAligned l.before l.after l.at rest → AreAligned l.before l.after l.fn.from (made ++ rest))

abbrev pub decreases-loop-row : goal.decreases-loop-row
decreases-loop-row l = length l.before - l.at.before + (length l.after - l.at.after)
