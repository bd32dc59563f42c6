use Rattle.bench_model.specs.Tallied.{tally_at}
use Rattle.tallies.specs.Counting.{top_tally}
use Rattle.tallies.proofs.Additions.{nothing}
use Rattle.tallies.proofs.InPlace.{IsSetTo}
use Rattle.tallies.proofs.tallies.raise_tops.Given as goal

abbrev pub invariant-loop-task : goal.invariant-loop-task
invariant-loop-task l = IsSetTo (λ task. top_tally l.kernel.control task (tally_at l.fn.tasks task)) nothing l.fn.tasks l.task l.tasks
