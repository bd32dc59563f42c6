-- Moves of a task from core to core.
use Rattle.std.specs.Prelude.{ℕ, zero, suc, Bool, false, not, ◌==◌, Option, count_by}
use Rattle.std.specs.Option.{option_map_or, option_or}
use Rattle.list_orders.specs.Search.{numbers}
use Rattle.task_jobs.specs.Course.{Course}

-- there are two cores, and they are not the same
abbrev pub is_other : Option ℕ → Option ℕ → Bool
is_other last core =
    option_map_or (λ core. option_map_or (λ last. not (last == core)) last false) core false

module _ (course : Course) where
  -- the core that the task has at the place, or had last, if it had one
  abbrev pub last_core : ℕ → Option ℕ
  last_core zero = course.core zero
  last_core (suc place) = option_or (course.core (suc place)) (last_core place)

  -- the step at the place puts the task on another core than its last
  abbrev pub moves_at : ℕ → Bool
  moves_at place = is_other (last_core place) (course.core (suc place))

  -- how many of the steps before the place do
  abbrev pub moves : ℕ → ℕ
  moves place = count_by moves_at (numbers place)
