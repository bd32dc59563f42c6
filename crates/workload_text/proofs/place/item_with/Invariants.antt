use Rattle.std.proofs.Common.{◌≡◌, ◌-◌, length}
use Rattle.workload_text.specs.Places.{item_with}
use Rattle.workload_text.proofs.place.item_with.Given as goal

abbrev pub invariant-loop-place : goal.invariant-loop-place
invariant-loop-place l =
    item_with l.program l.index (length l.program - l.place) l.place l.first ≡ item_with l.program l.index (length l.program) 0 l.start
