-- What the two lists by wakes keep, and the delays that they stand for.
use Rattle.std.specs.Prelude.{◌≡◌, ℕ, ◌<◌, ◌≤◌, ◌^◌, List, ◌++◌, length, map}
use Rattle.std.specs.List.{AllByRecursion}
use Rattle.bench_types.specs.declared.kernel_data.Delayed.{Delayed}
use Rattle.list_orders.specs.Search.{ranked}
use Rattle.list_orders.specs.Listings.{IsListing}
use Rattle.index_lists.specs.Listed.{Listed, ListsView, list_at, items_of, lowest_first}
use Rattle.bench_model.specs.Until.{ticks_to}
use Rattle.tick_delay.specs.Parts.{DelayView, other_list, from_list}

-- the task with the ticks from now to its wake
abbrev pub delayed_at : ℕ → Listed → Delayed
delayed_at tick entry = record { task = entry.item; left = ticks_to tick entry.key }

abbrev pub seen_delays : ℕ → ℕ → ℕ → ListsView → DelayView
seen_delays tasks tick turn lists =
    record {
      tasks = tasks;
      tick = tick;
      turn = turn;
      delayed = map (delayed_at tick) (from_list turn lists);
    }

-- the tasks are a listing, and each wakes in the turn of its list, which is in the order of wakes
pub record IsTwoTurns (tasks tick : ℕ) (this next : List Listed) : Type 0 where
  pub waiting_tasks : IsListing tasks (items_of (this ++ next))
  pub this_turn : AllByRecursion (λ entry. (tick ≤ entry.key) × (entry.key < 2 ^ 32)) this
  pub next_turn : AllByRecursion (λ entry. entry.key < tick) next
  pub this_order : ranked lowest_first this ≡ this
  pub next_order : ranked lowest_first next ≡ next

-- the lists of this turn of the tick count and of the next one
pub record IsDelayShape (tasks tick turn : ℕ) (lists : ListsView) : Type 0 where
  pub turn_low : turn < 2
  pub tick_low : tick < 2 ^ 32
  pub items : lists.items ≡ tasks
  pub both : length lists.lists ≡ 2
  pub turns : IsTwoTurns tasks tick (list_at lists turn) (list_at lists (other_list turn))
