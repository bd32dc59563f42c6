use Rattle.std.proofs.Common.{◌≡◌, map, take}
use Rattle.run_pictures.specs.TaskStretches.{tick_in}
use Rattle.run_pictures.proofs.axis.ticks.Given as goal

abbrev pub invariant-loop-look : goal.invariant-loop-look
invariant-loop-look l = l.values.items ≡ map tick_in (take l.look-index l.looks)
