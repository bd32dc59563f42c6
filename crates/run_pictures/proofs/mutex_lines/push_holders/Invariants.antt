use Rattle.std.proofs.Common.{◌≡◌, ◌++◌, flat_map, take, string_bytes}
use Rattle.run_pictures.specs.MutexLines.{holder_bar}
use Rattle.run_pictures.proofs.mutex_lines.push_holders.Given as goal

abbrev pub invariant-loop-stretch : goal.invariant-loop-stretch
invariant-loop-stretch l = string_bytes l.text ≡ string_bytes l.initial.text ++ flat_map (holder_bar l.header l.frame l.y l.mutex)
    (take l.stretch-index l.stretches)
