use Rattle.std.proofs.Common.{sym, subst}
use Rattle.std.specs.Prelude.{OnErr}
use Rattle.smp_kernel.specs.Counting.{CountsUpTo}
use Rattle.run_sources.specs.declared.source.Source.{Source}
use Rattle.run_sources.specs.Sources.{most_of}
use Rattle.run_sources.proofs.making.make_run.Goals as goal

pub returns-in-Workload-clause-some : goal.returns-in-Workload-clause-some
returns-in-Workload-clause-some c =
    subst (λ (source : Source). OnErr c.simulated_run.result (CountsUpTo (most_of source) c.args.meter.now c.simulated_run.new.meter)) (sym c.in-Workload.is)
    c.simulated_run.ensures.some
