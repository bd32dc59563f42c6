use Rattle.task_jobs.proofs.Histograms.{in_interval}
use Rattle.task_jobs.proofs.histogram.interval_of.Goals as goal

pub returns-in-Some-clause-own : goal.returns-in-Some-clause-own
returns-in-Some-clause-own c k within =
    let found = c.in-Some.ensures in
    in_interval c.args.time c.in-Some.log k found.power_le found.next_power_gt found.bound within
