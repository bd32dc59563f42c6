-- What can be seen of the tick count and the tasks that wait, and what each call makes of it.
use Rattle.std.specs.Prelude.{◌≡◌, ◌==◌, ◌+◌, ◌-◌, ◌<◌, ◌%◌, ◌^◌, ◌++◌, nat_lt, length, map, filter, ℕ, List, [], ◌∷◌, Option, Some, None, Bool, true, false}
use Rattle.std.specs.Prelude.{if◌then◌else◌}
use Rattle.std.specs.List.{list_any}
use Rattle.bench_types.specs.declared.kernel_data.Delayed.{Delayed}
use Rattle.index_lists.specs.Listed.{Listed, ListsView, list_at}
use Rattle.bench_model.specs.Lists.{with_delay, one_tick_less, next_tick}
use Rattle.bench_model.specs.Shifted.{later_tick}
use Rattle.bench_model.specs.Until.{next_wake, is_ahead, ticks_to}

pub record DelayView : Type 0 where
  -- how many tasks there are
  pub tasks : ℕ
  -- the tick count
  pub tick : ℕ
  -- the number of the list that is this turn's of the tick count, 0 or 1
  pub turn : ℕ
  -- the blocked tasks with ticks left: the fewest first, those of one number in the order in which
  -- they began to wait
  pub delayed : List Delayed

-- no task waits, and list 0 is this turn's
abbrev pub no_delays : ℕ → ℕ → DelayView
no_delays tick tasks = record { tasks = tasks; tick = tick; turn = 0; delayed = [] }

-- what is seen of the delays but for which list is this turn's
abbrev pub but_for_turn : DelayView → DelayView
but_for_turn view = record view { turn = 0 }

-- what is seen of the delays but for the tick count and for which list is this turn's
abbrev pub but_for_time : DelayView → DelayView
but_for_time view = record view { tick = 0; turn = 0 }

-- the first of the entries is this task's
abbrev pub first_task : List Delayed → Option ℕ
first_task [] = None
first_task (entry ∷ rest) = Some entry.task

-- some entry is the task's
abbrev pub is_delayed : ℕ → List Delayed → Bool
is_delayed task delayed = list_any (λ entry. entry.task == task) delayed

-- the task waits for so many ticks (FreeRTOS Reference Manual, vTaskDelay)
abbrev pub delayed_for : ℕ → ℕ → DelayView → DelayView
delayed_for task ticks view = record view { delayed = with_delay task ticks view.delayed }

-- Whether the task is delayed, and its wake, so many ticks after the last one: where that lies
-- ahead, the task waits for it (FreeRTOS Reference Manual, xTaskDelayUntil).
unfoldable pub until_delayed : ℕ → ℕ → ℕ → DelayView → (Bool × ℕ) × DelayView
until_delayed task prev inc view = let wake = next_wake prev inc in
    if is_ahead view.tick prev wake
    then ((true, wake), delayed_for task (ticks_to view.tick wake) view) else ((false, wake), view)

-- the number of the other list
abbrev pub other_list : ℕ → ℕ
other_list list = 1 - list

-- One tick later. Where the tick count wraps, the other list is this turn's.
unfoldable pub advanced : DelayView → DelayView
advanced view = let tick = next_tick view.tick in record view {
  tick = tick;
  turn = if tick == 0 then other_list view.turn else view.turn;
  delayed = map one_tick_less view.delayed;
}

-- The tick count is so many ticks later, and wraps; no ticks left change, and the list of this turn
-- is the same one.
abbrev pub shifted_delays : ℕ → DelayView → DelayView
shifted_delays by view = record view { tick = later_tick by view.tick }

-- a task that waits, and its wake, a tick count
abbrev pub listed_at : ℕ → Delayed → Listed
listed_at tick entry = record { item = entry.task; key = (tick + entry.left) % 2 ^ 32 }

-- the wake comes before the tick count wraps
abbrev pub wakes_this_turn : ℕ → Delayed → Bool
wakes_this_turn tick entry = nat_lt (tick + entry.left) (2 ^ 32)

-- what stands in this list of two, and after it what stands in the other
abbrev pub from_list : ℕ → ListsView → List Listed
from_list list lists = list_at lists list ++ list_at lists (other_list list)

-- The list of this turn has the tasks that wake before the tick count wraps, each with its wake.
-- With the other list after it, all stand by ticks left and then in the order in which they began
-- to wait.
pub record AreInTurn (lists : ListsView) (view : DelayView) : Type 0 where
  pub first_or_second : view.turn < 2
  pub both : length lists.lists ≡ 2
  pub items : lists.items ≡ view.tasks
  pub this_turn : list_at lists view.turn
      ≡ map (listed_at view.tick) (filter (wakes_this_turn view.tick) view.delayed)
  pub in_order : from_list view.turn lists ≡ map (listed_at view.tick) view.delayed
