use Rattle.std.proofs.Common.{◌≡◌, take}
use Rattle.bench_model.specs.Table.{Table}
use Rattle.bench_model.specs.Equal.{StandsFor}
use Rattle.bench_model.specs.Session.{state_after}
use Rattle.session_segments.specs.Counting.{meter_after}
use Rattle.session_segments.proofs.replay.advance.Given as goal

abbrev pub invariant-loop-step : goal.invariant-loop-step
invariant-loop-step l = record {
  state : (table : Table) → StandsFor l.fn.kernel table → StandsFor l.kernel (state_after table (take l.step-index l.steps));
  settings : l.kernel.settings ≡ l.fn.kernel.settings;
  meter : l.meter ≡ meter_after l.step-index l.fn.meter;
}
