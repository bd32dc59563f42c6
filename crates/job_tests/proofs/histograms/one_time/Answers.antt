use Rattle.std.proofs.Common.{◌<◌, ◌≤◌, ◌-◌, ◌^◌, [], subst, sym, All, arith}
use Rattle.std.proofs.lemmas.List.Elements.{All-weaker}
use Rattle.task_jobs.specs.declared.histogram.Histogram.{Histogram}
use Rattle.task_jobs.specs.Histograms.{histogram_of}
use Rattle.task_jobs.proofs.Histograms.{counts_few}
use Rattle.job_tests.proofs.histograms.one_time.Goals as goal

pub add-requires : goal.add-requires
add-requires g c =
    subst (λ (one : Histogram). All (λ count. count < 2 ^ 32 - 1) one.counts) (sym c.none-histogram.ensures)
    (All-weaker (λ count. count ≤ 0) (λ count. count < 2 ^ 32 - 1) (λ count low. omega (arith, low)) (histogram_of []).counts
    (counts_few [] 0 (omega arith)))
