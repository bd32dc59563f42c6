use Rattle.std.proofs.Common.{◌≡◌, suc}
use Rattle.bench_model.specs.Tallied.{shape, shape_of, AllCountsBelow}
use Rattle.tallies.specs.Tops.{HasTops}
use Rattle.bench_tests.proofs.reports.tallied.Given as goal

abbrev pub invariant-loop-step : goal.invariant-loop-step
invariant-loop-step l = record {
  settings : l.kernel.settings ≡ l.fn.kernel.settings;
  shape : shape l.tallies ≡ shape_of l.fn.kernel.settings;
  room : AllCountsBelow (suc l.step-index) l.tallies;
  tops : HasTops l.kernel.control l.tallies;
}
