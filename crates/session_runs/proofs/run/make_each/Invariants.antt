use Rattle.std.proofs.Common.{◌≡◌, [], take}
use Rattle.std.specs.Vec.{vec_capacity, vec_len}
use Rattle.bench_types.specs.declared.header.Header.{Header}
use Rattle.smp_kernel.specs.Counting.{meter_after}
use Rattle.session_runs.specs.Made.{IsMade}
use Rattle.session_runs.proofs.run.make_each.Given as goal

abbrev pub invariant-loop-step : goal.invariant-loop-step
invariant-loop-step l = record {
  made : (header : Header) → IsMade header [] l.fn.kernel l.fn.outcomes → IsMade header (take l.step-index l.steps) l.kernel l.outcomes;
  settings : l.kernel.settings ≡ l.fn.kernel.settings;
  len : vec_len l.outcomes.each ≡ l.step-index;
  room : vec_capacity l.outcomes.each ≡ vec_capacity l.fn.outcomes.each;
  meter : l.meter ≡ meter_after l.step-index l.fn.meter;
}
