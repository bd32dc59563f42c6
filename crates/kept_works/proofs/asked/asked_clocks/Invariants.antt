use Rattle.std.proofs.Common.{◌≡◌, take}
use Rattle.smp_kernel.specs.Counting.{meter_after}
use Rattle.kept_works.specs.Walk.{IsAt}
use Rattle.kept_works.proofs.Answering.{AreAnswered}
use Rattle.kept_works.proofs.asked.asked_clocks.Given as goal

abbrev pub invariant-loop-place : goal.invariant-loop-place
invariant-loop-place l = record {
  at : IsAt l.run.header (take l.place l.run.steps) l.walk;
  answered : AreAnswered l.run l.asked l.place l.answers.items;
  meter : l.meter ≡ meter_after l.place l.fn.meter;
}
