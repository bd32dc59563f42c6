use Rattle.std.proofs.Common.{◌++◌, List, drop}
use Rattle.run_comparisons.specs.declared.rows.Row.{Row}
use Rattle.run_comparisons.specs.SideBySide.{first_places, AreSideBySide}
use Rattle.run_comparisons.proofs.side_by_side.side_by_side.Given as goal

-- whatever rows are still to come, those made and they are the rows from the start
abbrev pub invariant-loop-event : goal.invariant-loop-event
invariant-loop-event l = (rest : List Row) → AreSideBySide l.before l.after (drop l.event-index l.events) l.at rest → AreSideBySide l.before l.after l.events
    first_places (l.rows.items ++ rest)
