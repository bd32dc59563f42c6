-- Waits whose time was over before the task was woken.
use Rattle.std.specs.Prelude.{ℕ, zero, suc, Bool, false, not, ◌&&◌, count_by, if◌then◌else◌}
use Rattle.list_orders.specs.Search.{numbers}
use Rattle.task_jobs.specs.Course.{Course}

module _ (course : Course) where
  -- the step at the place makes the task ready
  abbrev pub wakes_at : ℕ → Bool
  wakes_at place = not (course.ready place) && course.ready (suc place)

  -- the last step before the place that made it ready was a tick
  abbrev pub is_by_tick : ℕ → Bool
  is_by_tick zero = false
  is_by_tick (suc place) = if wakes_at place then course.ticks place else is_by_tick place

  -- the step at the place ends a wait in vain that a tick had ended
  abbrev pub runs_out_at : ℕ → Bool
  runs_out_at place = course.in_vain place && is_by_tick place

  -- how many of the steps before the place do
  abbrev pub run_outs : ℕ → ℕ
  run_outs place = count_by runs_out_at (numbers place)
