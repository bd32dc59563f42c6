-- A session's states and replies: its steps folded from the start of its header.
use Rattle.std.specs.Prelude.{ℕ, suc, List, [], ◌∷◌, length, fold, take, Option, Some, None, nat_le, if◌then◌else◌, option_map, slice_get}
use Rattle.bench_types.specs.declared.header.Header.{Header}
use Rattle.bench_types.specs.declared.reply.Reply.{Reply}
use Rattle.bench_types.specs.declared.step.Step.{Step}
use Rattle.bench_model.specs.Control.{running}
use Rattle.bench_model.specs.Steps.{after}
use Rattle.bench_model.specs.Table.{Table, stamp_queues}
use Rattle.bench_model.specs.Start.{start}

-- the step over the table
abbrev pub step_of : Step → Table → Reply × Table
step_of = after stamp_queues

-- the state after steps from a table on
abbrev pub state_after : Table → List Step → Table
state_after table steps = fold (λ table step. (step_of step table).1) table steps

-- the state at a place: after so many steps
unfoldable pub state_at : Header → List Step → ℕ → Table
state_at header steps place = state_after (start header) (take place steps)

-- the reply of the step at a place, none past the last
unfoldable pub reply_at : Header → List Step → ℕ → Option Reply
reply_at header steps place =
    option_map (λ step. (step_of step (state_at header steps place)).0) (slice_get steps place)

-- the reply of the step at a place with the tasks that run after it, core by core
abbrev pub outcome_at : Header → List Step → ℕ → Option (Reply × List ℕ)
outcome_at header steps place =
    option_map (λ reply. (reply, running (state_at header steps (suc place)).control))
    (reply_at header steps place)

-- the tasks that run at a place, core by core, none past the last place
unfoldable pub running_at : Header → List Step → ℕ → Option (List ℕ)
running_at header steps place =
    if nat_le place (length steps) then Some (running (state_at header steps place).control)
    else None

-- the replies of steps from a table on, each with the tasks that run after it
abbrev pub run_results : Table → List Step → List (Reply × List ℕ)
run_results table [] = []
run_results table (step ∷ steps) =
    let made_step = step_of step table in
    (made_step.0, running made_step.1.control) ∷ run_results made_step.1 steps
