use Rattle.std.proofs.Common.{◌≡◌, ◌++◌, flat_map, take, string_bytes}
use Rattle.run_pictures.specs.Preemption.{off_bar}
use Rattle.run_pictures.proofs.preemption.push_offs.Given as goal

abbrev pub invariant-loop-stretch : goal.invariant-loop-stretch
invariant-loop-stretch l = string_bytes l.text ≡ string_bytes l.initial.text ++ flat_map (off_bar l.header l.frame l.y l.task)
    (take l.stretch-index l.stretches)
