use Rattle.std.proofs.Common.{◌≡◌, ◌++◌, flat_map, take, string_bytes}
use Rattle.run_pictures.specs.Axis.{tick_bar}
use Rattle.run_pictures.proofs.axis.push_ticks.Given as goal

abbrev pub invariant-loop-stretch : goal.invariant-loop-stretch
invariant-loop-stretch l = string_bytes l.text ≡ string_bytes l.initial.text ++ flat_map (tick_bar l.frame l.y) (take l.stretch-index l.stretches)
