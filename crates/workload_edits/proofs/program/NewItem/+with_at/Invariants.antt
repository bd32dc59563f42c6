use Rattle.std.proofs.Common.{◌+◌, ◌*◌, length}
use Rattle.workload_edits.proofs.program.NewItem.+with_at.Given as goal

abbrev pub decreases-with_in : goal.decreases-with_in
decreases-with_in l = 3 * length l.path.now

abbrev pub decreases-with_at : goal.decreases-with_at
decreases-with_at l = 3 * length l.path.now

abbrev pub decreases-with_index : goal.decreases-with_index
decreases-with_index l = 3 * length l.path.now + 1

abbrev pub decreases-with_in_branch : goal.decreases-with_in_branch
decreases-with_in_branch l = 3 * length l.path.now + 1

abbrev pub decreases-with_in_list : goal.decreases-with_in_list
decreases-with_in_list l = 3 * length l.path.now + 2
