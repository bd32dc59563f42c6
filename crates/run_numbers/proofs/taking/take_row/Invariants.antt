use Rattle.run_numbers.specs.Counters.{took_in}
use Rattle.run_numbers.proofs.Visits.{IsTakenTo}
use Rattle.run_numbers.proofs.taking.take_row.Given as goal

abbrev pub invariant-loop-place : goal.invariant-loop-place
invariant-loop-place l = IsTakenTo (took_in l.made) l.plan l.row l.first l.place l.fn.counters l.counters
