use Rattle.std.proofs.Common.{◌+◌, ◌*◌}
use Rattle.workload_text.proofs.place.Flawed.+fault_in.Given as goal

abbrev pub decreases-fault_in : goal.decreases-fault_in
decreases-fault_in l = 3 * l.room

abbrev pub decreases-fault_in_item : goal.decreases-fault_in_item
decreases-fault_in_item l = 3 * l.room + 2

abbrev pub decreases-fault_in_member : goal.decreases-fault_in_member
decreases-fault_in_member l = 3 * l.room + 1
