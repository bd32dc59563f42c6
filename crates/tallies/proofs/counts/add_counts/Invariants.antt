use Rattle.bench_model.specs.Tallied.{no_counts}
use Rattle.tallies.specs.Sums.{added_counts}
use Rattle.tallies.specs.Tables.{counts_of}
use Rattle.tallies.proofs.InPlace.{IsSetTo}
use Rattle.tallies.proofs.counts.add_counts.Given as goal

abbrev pub invariant-loop-task : goal.invariant-loop-task
invariant-loop-task l = IsSetTo (λ task. added_counts (counts_of l.fn.counts task) (counts_of l.more task)) (no_counts 0) l.fn.counts l.task l.counts
