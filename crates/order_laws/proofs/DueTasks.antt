-- How many tasks are due, and what a tick leaves of the stamps.
use Rattle.std.proofs.Common.{◌≡◌, ◌≤◌, length, refl, arith}
use Rattle.std.proofs.lemmas.List.FromFn.{length-range_with_len}
use Rattle.bench_model.specs.Table.{Stamps, advance, row_at, stamp_of, tasks_of, wakes_at, due}
use Rattle.list_orders.proofs.Stamped.{length_by_stamp}

pub length_due : (stamps : Stamps) → length (due stamps) ≤ length stamps.rows
unfolding due
length_due stamps = omega (
  arith,
  length_by_stamp (stamp_of stamps) (λ i. wakes_at stamps.tick (row_at stamps i).standing) (tasks_of stamps) stamps.next,
  length-range_with_len 0 (length stamps.rows),
)

pub advance_next : (stamps : Stamps) → ((advance stamps).next ≡ stamps.next) × (length (advance stamps).rows ≡ length stamps.rows)
unfolding advance
advance_next stamps = (refl, refl)
