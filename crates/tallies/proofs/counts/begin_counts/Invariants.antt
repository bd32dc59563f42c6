use Rattle.bench_model.specs.Tallied.{no_counts}
use Rattle.tallies.proofs.Begins.{first_counts}
use Rattle.tallies.proofs.InPlace.{IsSetTo}
use Rattle.tallies.proofs.counts.begin_counts.Given as goal

abbrev pub invariant-loop-task : goal.invariant-loop-task
invariant-loop-task l = IsSetTo (first_counts l.kernel.control) (no_counts 0) l.fn.counts l.task l.counts
