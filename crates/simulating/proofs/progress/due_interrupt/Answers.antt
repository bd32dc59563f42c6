use Rattle.std.proofs.Common.{◌∙◌, ◌+◌, ◌-◌, length, sym, None}
use Rattle.std.specs.Prelude.{slice_index_or}
use Rattle.workload_runs.specs.Situations.{has_come}
use Rattle.simulating.proofs.Searches.{find_behind, find_here}
use Rattle.simulating.proofs.progress.due_interrupt.Goals as goal

pub loop-index-preserved : goal.loop-index-preserved
loop-index-preserved c =
    let arrivals = c.args.arrivals.now in
    sym (find_behind (λ index. has_come c.args.time (slice_index_or arrivals index None)) c.loop-index.index (length arrivals) c.loop-index-test.true
    (sym c.has_come.ensures ∙ c.if-has_come.false))
    ∙ c.loop-index.invariant
