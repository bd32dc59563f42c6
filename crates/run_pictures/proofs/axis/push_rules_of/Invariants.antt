use Rattle.std.proofs.Common.{◌≡◌, ◌++◌, flat_map, take, string_bytes}
use Rattle.run_pictures.specs.Axis.{tick_rule}
use Rattle.run_pictures.proofs.axis.push_rules_of.Given as goal

abbrev pub invariant-loop-stretch : goal.invariant-loop-stretch
invariant-loop-stretch l = string_bytes l.text ≡ string_bytes l.initial.text ++ flat_map (tick_rule l.frame l.top l.bottom) (take l.stretch-index l.stretches)
