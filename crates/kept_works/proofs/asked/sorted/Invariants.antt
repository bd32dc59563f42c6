use Rattle.std.proofs.Common.{◌≡◌, ◌<◌, ℕ, eqb, length}
use Rattle.std.specs.List.{filter}
use Rattle.list_orders.specs.Search.{numbers}
use Rattle.kept_works.specs.Asked.{asked_at}
use Rattle.kept_works.specs.Rows.{row_at}
use Rattle.kept_works.proofs.asked.sorted.Given as goal

abbrev pub invariant-loop-index : goal.invariant-loop-index
invariant-loop-index l = record {
  many : length l.rows.items ≡ l.places;
  each : (place : ℕ) → place < l.places → row_at l.rows.items place ≡ filter (λ (k : ℕ). eqb (asked_at l.asked k).place place) (numbers l.index);
}
