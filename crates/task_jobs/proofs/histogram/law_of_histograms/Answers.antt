use Rattle.task_jobs.proofs.Histograms.{counts_are_all}
use Rattle.task_jobs.proofs.histogram.law_of_histograms.Goals as goal

pub returns : goal.returns
returns c = counts_are_all
