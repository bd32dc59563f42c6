use Rattle.std.proofs.Common.{◌≡◌, ◌≤◌, ◌+◌, ℕ, length, map, take}
use Rattle.std.specs.Prelude.{count_by, slice_index_or}
use Rattle.list_orders.specs.Search.{numbers}
use Rattle.kept_works.specs.Places.{event_place, is_in_row}
use Rattle.kept_works.proofs.places.event_places.Given as goal

abbrev pub invariant-loop-step : goal.invariant-loop-step
invariant-loop-step l = record {
  many : length l.come.items ≡ l.tasks + 1;
  come : (row : ℕ) → row ≤ l.tasks → slice_index_or l.come.items row 0 ≡ count_by (is_in_row l.tasks row) (take l.step-index l.document);
  places : l.places.items ≡ map (event_place l.tasks l.document l.rows l.end) (numbers l.step-index);
}
