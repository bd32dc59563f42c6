use Rattle.std.proofs.Common.{◌≡◌, map, take}
use Rattle.run_pictures.specs.Poses.{opening}
use Rattle.run_pictures.proofs.pose.openings.Given as goal

abbrev pub invariant-loop-stretch : goal.invariant-loop-stretch
invariant-loop-stretch l = l.found.items ≡ map (opening l.first l.looks l.task) (take l.stretch-index l.stretches)
