use Rattle.std.proofs.Common.{◌≡◌, ◌-◌, length}
use Rattle.bench_types.specs.Limits.{max_steps}
use Rattle.smp_kernel.specs.Counting.{meter_after}
use Rattle.kept_runs.specs.Rule.{after_steps, AreNext}
use Rattle.keeping.specs.Ends.{first_end}
use Rattle.keeping.specs.Progress.{progress_at_start, Holds}
use Rattle.keeping.proofs.run.keep_run.Given as goal

abbrev pub invariant-loop-step : goal.invariant-loop-step
invariant-loop-step l = record {
  next : AreNext (progress_at_start l.fn.order l.fn.header l.fn.unmade.items l.fn.outside.items) l.keeping.run.steps;
  holds :
      Holds l.keeping
      (after_steps (progress_at_start l.fn.order l.fn.header l.fn.unmade.items l.fn.outside.items) l.keeping.run.steps);
  end :
      l.end ≡ first_end (progress_at_start l.fn.order l.fn.header l.fn.unmade.items l.fn.outside.items) l.keeping.run.steps;
  header : l.keeping.run.header ≡ l.fn.header;
  counted : l.meter ≡ meter_after (length l.keeping.run.steps) l.fn.meter;
}

abbrev pub decreases-loop-step : goal.decreases-loop-step
decreases-loop-step l = max_steps - length l.keeping.run.steps
