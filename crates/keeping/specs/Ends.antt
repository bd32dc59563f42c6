-- Where a run is limited by the end of a task.
use Rattle.std.specs.Prelude.{List, length, filter_map, take, slice_get, Option}
use Rattle.bench_types.specs.declared.step.Step.{Step}
use Rattle.list_orders.specs.Search.{numbers}
use Rattle.kept_runs.specs.declared.known_limit.KnownLimit.{KnownLimit}
use Rattle.kept_runs.specs.Known.{end_limit}
use Rattle.kept_runs.specs.Rule.{Progress, after_steps}

-- the limits by ends of tasks of a run from its start on, in the order of their places
abbrev pub end_limits : Progress → List Step → List KnownLimit
end_limits start run =
    filter_map (λ place. end_limit run place (after_steps start (take place run)))
    (numbers (length run))

-- the first of them
unfoldable pub first_end : Progress → List Step → Option KnownLimit
first_end start run = slice_get (end_limits start run) 0
