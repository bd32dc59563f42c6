use Rattle.std.proofs.Common.{◌≡◌, ℕ, ◌+◌, take}
use Rattle.bench_model.specs.Equal.{StandsFor}
use Rattle.bench_model.specs.Session.{state_after}
use Rattle.bench_model.specs.Table.{Table}
use Rattle.bench_model.specs.Tallied.{shape, shape_of, tallied_after, AllCountsBelow}
use Rattle.tallies.specs.Tops.{HasTops}
use Rattle.session_segments.specs.Counting.{meter_after}
use Rattle.session_segments.proofs.replay.tally_steps.Given as goal

abbrev pub invariant-loop-step : goal.invariant-loop-step
invariant-loop-step l = record {
  state : (table : Table) → StandsFor l.fn.kernel table → StandsFor l.kernel (state_after table (take l.step-index l.steps));
  counted : (table : Table) → StandsFor l.fn.kernel table → l.tallies ≡ tallied_after table (take l.step-index l.steps) l.fn.tallies;
  settings : l.kernel.settings ≡ l.fn.kernel.settings;
  sizes : shape l.tallies ≡ shape_of l.fn.kernel.settings;
  grown : (bound : ℕ) → AllCountsBelow bound l.fn.tallies → AllCountsBelow (bound + l.step-index) l.tallies;
  tops : HasTops l.kernel.control l.tallies;
  meter : l.meter ≡ meter_after l.step-index l.fn.meter;
}
