-- Limits of what is known of a run, one by one.
use Rattle.std.specs.Prelude.{ℕ, Bool, List, filter_map, slice_get, Option, Some, None, option_and_then, if◌then◌else◌}
use Rattle.std.specs.Option.{option_map_or}
use Rattle.bench_types.specs.declared.step.Step.{Step}
use Rattle.bench_types.specs.Session.{Session}
use Rattle.kept_edits.specs.declared.edit.KeptEdit.{KeptEdit}
use Rattle.kept_runs.specs.declared.known_limit.KnownLimit.{KnownLimit}
use Rattle.kept_runs.specs.Known.{answer_limit, differ, earlier, limit_behind}
use Rattle.list_orders.specs.Search.{numbers}
use Rattle.run_answers.specs.declared.answer.Answer.{Answer as Answered}

-- the limit behind the answer to the task's call, where it was another one before the edits
abbrev pub limit_by : ℕ → Option Bool → Option Answered → Option KnownLimit
limit_by task before now =
    option_and_then
    (λ answer. if differ before (Some answer.affirmative)
    then Some (limit_behind task answer.affirmative answer.place) else None)
    now

-- of two the one at the lesser place, the first where both are at one place
abbrev pub sooner : Option KnownLimit → Option KnownLimit → Option KnownLimit
sooner first second = option_map_or (earlier first) second first

-- the limits that answers set to a run, in the order of their places
abbrev pub answer_limits : Session → List KeptEdit → List Step → List Step → ℕ → List KnownLimit
answer_limits session edits settled run places =
    filter_map
    (λ place. option_and_then (answer_limit session edits settled run place)
    (slice_get run place))
    (numbers places)
