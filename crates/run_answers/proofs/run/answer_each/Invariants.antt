use Rattle.std.proofs.Common.{◌≡◌, map, take}
use Rattle.std.specs.Vec.{vec_capacity, vec_len}
use Rattle.bench_model.specs.Equal.{StandsFor}
use Rattle.bench_model.specs.Session.{state_after}
use Rattle.bench_model.specs.Table.{Table}
use Rattle.list_orders.specs.Search.{numbers}
use Rattle.smp_kernel.specs.Counting.{meter_after}
use Rattle.run_answers.specs.Answers.{own_at}
use Rattle.run_answers.proofs.run.answer_each.Given as goal

abbrev pub invariant-loop-step : goal.invariant-loop-step
invariant-loop-step l = record {
  answers : (table : Table) → StandsFor l.fn.kernel table → l.answers.items ≡ map (own_at table l.steps) (numbers l.step-index);
  stands : (table : Table) → StandsFor l.fn.kernel table → StandsFor l.kernel (state_after table (take l.step-index l.steps));
  settings : l.kernel.settings ≡ l.fn.kernel.settings;
  len : vec_len l.answers ≡ l.step-index;
  room : vec_capacity l.answers ≡ vec_capacity l.fn.answers;
  meter : l.meter ≡ meter_after l.step-index l.fn.meter;
}
