use Rattle.std.proofs.Common.{◌≡◌, map, take}
use Rattle.task_jobs.specs.declared.work.Work.{Work}
use Rattle.run_numbers.proofs.run.all_histograms.Given as goal

abbrev pub invariant-loop-work : goal.invariant-loop-work
invariant-loop-work l = l.all.items ≡ map (λ (work : Work). work.histogram) (take l.work-index l.works)
