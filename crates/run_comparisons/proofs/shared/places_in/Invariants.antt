use Rattle.std.proofs.Common.{◌≡◌, map}
use Rattle.list_orders.specs.Search.{numbers}
use Rattle.run_comparisons.specs.Shared.{events_before, is_event, place_in}
use Rattle.run_comparisons.proofs.shared.places_in.Given as goal

abbrev pub invariant-loop-step : goal.invariant-loop-step
invariant-loop-step l = record {
  placed : l.places.items ≡ map (place_in (is_event l.kind) l.fn.run l.session) (numbers l.step-index);
  come : l.come ≡ events_before (is_event l.kind) l.session l.step-index;
}
