use Rattle.std.proofs.Common.{◌≡◌, ◌≤◌, length, take, reverse}
use Rattle.std.specs.Prelude.{find}
use Rattle.task_programs.specs.Programs.{is_body}
use Rattle.task_programs.proofs.around.Around.innermost_loop.Given as goal

abbrev pub decreases-loop-left : goal.decreases-loop-left
decreases-loop-left l = l.left

-- none of those behind is one
abbrev pub invariant-loop-left : goal.invariant-loop-left
invariant-loop-left l = record {
  within : l.left ≤ length l.blocks;
  found : find is_body (reverse (take l.left l.blocks)) ≡ find is_body (reverse l.blocks);
}
