use Rattle.std.proofs.Common.{◌≡◌}
use Rattle.std.specs.Vec.{vec_capacity}
use Rattle.smp_kernel.specs.Counting.{meter_after}
use Rattle.run_numbers.specs.Counted.{AreCounted, AreCrowded, AreWorked}
use Rattle.run_numbers.specs.Past.{past}
use Rattle.run_numbers.proofs.run.run_all.Given as goal

abbrev pub invariant-loop-place : goal.invariant-loop-place
invariant-loop-place l = record {
  counted : AreCounted l.session l.place l.kernel l.plan l.counters l.looks l.row (past l.clock.elapsed l.clock.places.items);
  worked : AreWorked l.session l.place l.works l.clock.ticks.items;
  crowded : AreCrowded l.session l.place l.crowds;
  room : vec_capacity l.clock.places ≡ vec_capacity l.fn.clock.places;
  ticks : vec_capacity l.clock.ticks ≡ vec_capacity l.fn.clock.ticks;
  meter : l.meter ≡ meter_after l.place l.fn.meter;
}
