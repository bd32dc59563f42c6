use Rattle.std.proofs.Common.{◌≡◌, take}
use Rattle.run_columns.specs.TimeSlots.{slots_of}
use Rattle.run_columns.proofs.times.slots_of.Given as goal

abbrev pub invariant-loop-time : goal.invariant-loop-time
invariant-loop-time l = l.slots.items ≡ slots_of l.span (take l.time-index l.times)
