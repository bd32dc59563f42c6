-- The task that a slow tick wakes first.
use Rattle.std.specs.Prelude.{ℕ, Option, nat_le}
use Rattle.list_orders.specs.Search.{best}
use Rattle.bench_model.specs.Table.{Stamps, row_at, stamp_of, tasks_of, wakes_at}

-- of the tasks whose wake is now, the one of the least stamp
unfoldable pub first_due : Stamps → Option ℕ
first_due stamps =
    best (λ i. wakes_at stamps.tick (row_at stamps i).standing)
    (λ i j. nat_le (stamp_of stamps i) (stamp_of stamps j)) (tasks_of stamps)
