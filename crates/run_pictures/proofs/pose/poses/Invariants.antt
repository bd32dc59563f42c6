use Rattle.std.proofs.Common.{◌≡◌, map, take}
use Rattle.run_pictures.specs.Poses.{pose_in}
use Rattle.run_pictures.proofs.pose.poses.Given as goal

abbrev pub invariant-loop-look : goal.invariant-loop-look
invariant-loop-look l = l.poses.items ≡ map (pose_in l.task) (take l.look-index l.looks)
