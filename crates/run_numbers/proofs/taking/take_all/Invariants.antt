use Rattle.run_numbers.specs.Counters.{took_in}
use Rattle.run_numbers.specs.Looks.{look_of, IsKnown}
use Rattle.run_numbers.specs.Taking.{AreTakers, AreTimesKept}
use Rattle.run_numbers.specs.Turns.{turn_in}
use Rattle.run_numbers.proofs.Turning.{AreTurnedTo}
use Rattle.run_numbers.proofs.Visits.{AreVisitedTo}
use Rattle.run_numbers.proofs.taking.take_all.Given as goal

abbrev pub invariant-loop-task : goal.invariant-loop-task
invariant-loop-task l = record {
  visited : AreVisitedTo (took_in l.made) l.made.after.now l.plan l.task l.fn.counters l.counters l.fn.looks l.looks;
  turned : AreTurnedTo (turn_in l.made) (λ task. IsKnown l.fn.looks task (look_of l.made.after.now task)) l.task l.fn.works l.works;
  takers : AreTakers l.works l.crowds;
  times : AreTimesKept l.made.elapsed l.fn.crowds l.crowds;
}
