use Rattle.std.proofs.Common.{◌≡◌, ◌≤◌, ◌*◌, length}
use Rattle.task_programs.specs.Walks.{walk_after}
use Rattle.task_courses.proofs.position.Position.come.Given as goal

abbrev pub decreases-loop-left : goal.decreases-loop-left
decreases-loop-left l = l.left

-- so many moves from here lead where all of them lead from the start
abbrev pub invariant-loop-left : goal.invariant-loop-left
invariant-loop-left l =
    walk_after l.program l.left l.self ≡ walk_after l.program (2 * length l.program) l.initial.self
