use Rattle.smp_kernel.specs.Kernel.{wants_core}
use Rattle.bench_model.specs.Tallied.{tally_at}
use Rattle.tallies.specs.Counting.{with_wait}
use Rattle.tallies.proofs.Additions.{nothing}
use Rattle.tallies.proofs.InPlace.{IsSetTo}
use Rattle.tallies.proofs.tallies.add_waits.Given as goal

abbrev pub invariant-loop-task : goal.invariant-loop-task
invariant-loop-task l = IsSetTo (λ task. with_wait (wants_core l.kernel task) (tally_at l.fn.tasks task)) nothing l.fn.tasks l.task l.tasks
