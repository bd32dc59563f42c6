-- The tasks and cores that a selection names, by their numbers.
use Rattle.std.specs.Prelude.{ℕ, ◌+◌, List, [], ◌∷◌, find, flat_map, is_none, nat_le, Option, Some, None, option_map, position}
use Rattle.std.specs.Str.{bytes_eq}
use Rattle.bench_types.specs.declared.header.Header.{Header}
use Rattle.run_views.specs.declared.interest.Interest.{Interest}
use Rattle.shown_runs.specs.Selected.{Selected}

-- the number of the user task with the name
abbrev pub task_named : Header → List ℕ → Option ℕ
task_named header name =
    option_map (λ index. header.config.cores + index)
    (position (λ args. bytes_eq name args.name) header.tasks)

abbrev pub listed : Option ℕ → List ℕ
listed None = []
listed (Some n) = n ∷ []

abbrev pub interest_of : Header → Selected → Interest
interest_of header selected = record {
  tasks = flat_map (λ name. listed (task_named header name)) selected.tasks;
  cores = selected.cores;
}

-- where the first of the names stands that is no task's
abbrev pub unknown_task : Header → List (List ℕ) → Option ℕ
unknown_task header names = position (λ name. is_none (task_named header name)) names

-- the first of the numbers that is no core's
abbrev pub unknown_core : Header → List ℕ → Option ℕ
unknown_core header cores = find (λ core. nat_le header.config.cores core) cores
