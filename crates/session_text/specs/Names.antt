-- The numbers that names stand for: user tasks are numbered from the number of cores on, in the
-- order of the header.
use Rattle.std.specs.Prelude.{ℕ, ◌+◌, List, [], map, position, bytes_eq, Option, Some, None, Result, Ok, Err}
use Rattle.bench_types.specs.declared.flaw.HeaderFlaw.{HeaderFlaw}
use Rattle.bench_types.specs.declared.header.Header.{Header}

-- the number of cores, and the names of the user tasks
pub record TaskNames : Type 0 where
  pub cores : ℕ
  pub names : List (List ℕ)

-- the names of the user tasks
abbrev pub user_names : Header → List (List ℕ)
user_names header = map (λ task. task.name) header.tasks

abbrev pub names_of : Header → TaskNames
names_of header = record { cores = header.config.cores; names = user_names header }

-- no user task has a name
abbrev pub no_names : TaskNames
no_names = record { cores = 0; names = [] }

-- the names that the steps may use; under a header that is refused, no number of theirs is ever
-- looked at
abbrev pub known_names : Result Header HeaderFlaw → TaskNames
known_names (Ok header) = names_of header
known_names (Err flaw) = no_names

-- 0 is an idle task, for which no step may be made
abbrev pub number_at_location : ℕ → Option ℕ → ℕ
number_at_location cores None = 0
number_at_location cores (Some location) = cores + location

abbrev pub number_of : TaskNames → List ℕ → ℕ
number_of names name = number_at_location names.cores (position (bytes_eq name) names.names)
