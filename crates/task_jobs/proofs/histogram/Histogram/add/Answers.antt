use Rattle.std.proofs.Common.{ℕ, List, ap, rules}
use Rattle.task_jobs.specs.Histograms.{with_time}
use Rattle.task_jobs.proofs.Histograms.{added}
use Rattle.task_jobs.proofs.histogram.Histogram.add.Goals as goal

pub returns : goal.returns
unfolding with_time
returns c =
    let own = c.interval_of-interval in
    ap (λ (counts : List ℕ). record { counts = counts })
    (added c.args.self.now.counts c.args.time own.result (search rules) own.ensures.low own.ensures.own)
