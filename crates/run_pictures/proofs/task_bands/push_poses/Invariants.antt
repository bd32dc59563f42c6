use Rattle.std.proofs.Common.{◌≡◌, ◌++◌, flat_map, take, string_bytes}
use Rattle.run_pictures.specs.TaskBands.{pose_bar}
use Rattle.run_pictures.proofs.task_bands.push_poses.Given as goal

abbrev pub invariant-loop-stretch : goal.invariant-loop-stretch
invariant-loop-stretch l = string_bytes l.text ≡ string_bytes l.initial.text ++ flat_map (pose_bar l.header l.frame l.y l.task l.detail)
    (take l.stretch-index l.stretches)
