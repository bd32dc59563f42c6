use Rattle.std.proofs.Common.{take}
use Rattle.core_rig.specs.Seats.{IsSameSeat}
use Rattle.core_scripts.specs.Parts.{IsUnderWay}
use Rattle.core_scripts.proofs.part.act_all.Given as goal

-- the core made the actions so far
abbrev pub invariant-loop-done : goal.invariant-loop-done
invariant-loop-done g l = record {
  same : IsSameSeat l.fn.seat l.seat;
  under_way : IsUnderWay (take l.done l.script) l.seat;
}
