use Rattle.std.proofs.Common.{◌≡◌, ◌++◌, flat_map, take, string_bytes}
use Rattle.run_pictures.specs.CoreBands.{due_bar}
use Rattle.run_pictures.proofs.core_bands.push_dues.Given as goal

abbrev pub invariant-loop-stretch : goal.invariant-loop-stretch
invariant-loop-stretch l = string_bytes l.text ≡ string_bytes l.initial.text ++ flat_map (due_bar l.frame l.y l.core) (take l.stretch-index l.stretches)
