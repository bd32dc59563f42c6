use Rattle.std.proofs.Common.{refl}
use Rattle.task_jobs.specs.Histograms.{histogram_of}
use Rattle.task_jobs.proofs.histogram.Histogram.none.Goals as goal

pub returns : goal.returns
unfolding histogram_of
returns c = refl
