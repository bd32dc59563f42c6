-- What the fields of the mutexes keep, whatever they show.
use Rattle.std.specs.Prelude.{◌≡◌, ℕ, ◌<◌, ◌≤◌, ◌^◌, List, [], length, All, Option, slice_index_or}
use Rattle.std.specs.List.{AllByRecursion}
use Rattle.std.specs.Option.{ForSome}
use Rattle.index_lists.specs.Listed.{Listed, ListsView}

-- the keys are those of priorities that there are
abbrev pub AreKeys : ℕ → List Listed → Type 0
AreKeys priorities list = AllByRecursion (λ entry. (0 < entry.key) × (entry.key ≤ priorities)) list

-- so they are in each list
abbrev pub AreWaiters : ℕ → List (List Listed) → Type 0
AreWaiters priorities lists = (m : ℕ) → AreKeys priorities (slice_index_or lists m [])

-- each holder is a task, each list value is a priority, there are as many event lists as the number
-- says, and one of each mutex is among them
pub record IsMutexShape (tasks priorities lists : ℕ) (holders : List (Option ℕ)) (values : List ℕ)
    (view : ListsView) : Type 0 where
  pub few_lists : lists < 2 ^ 32
  pub of_mutexes : length holders ≤ lists
  pub held_by_tasks : All (λ holder. ForSome holder (λ task. task < tasks)) holders
  pub items : view.items ≡ tasks
  pub each : length view.lists ≡ lists
  pub waiting : AreWaiters priorities view.lists
  pub list_values : All (λ value. value < priorities) values
