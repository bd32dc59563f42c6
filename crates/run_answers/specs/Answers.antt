-- The answers of a run's calls.
use Rattle.std.specs.Prelude.{ℕ, List, length, map, take, slice_get, Option, Some, None, option_map, option_and_then, if◌then◌else◌}
use Rattle.bench_types.specs.declared.header.Header.{Header}
use Rattle.bench_types.specs.declared.reply.Reply.{Reply}
use Rattle.bench_types.specs.declared.step.Step.{Step}
use Rattle.bench_types.specs.declared.step.Step.TheVariants as steps
use Rattle.bench_model.specs.Session.{state_after, step_of}
use Rattle.bench_model.specs.Table.{Table}
use Rattle.list_orders.specs.Search.{numbers}
use Rattle.workload_runs.specs.Courses.{is_affirmative, is_blocked}
use Rattle.kept_runs.specs.Known.{answer_of, answer_place}
use Rattle.run_answers.specs.declared.answer.Answer.{Answer}

-- the task of a call, or of a `finish`
abbrev pub task_of : Step → Option ℕ
task_of (steps.Call core task call) = Some task
task_of step = None

-- the answer of the task's step at the place: where it comes, and whether it is affirmative
abbrev pub answer_to : Header → List Step → ℕ → ℕ → Option Answer
answer_to header run place task =
    option_and_then
    (λ later. option_map (λ affirmative. record { place = later; affirmative = affirmative })
    (answer_of header run task place))
    (answer_place header run task place)

-- the answer of the step at the place, if it is a call or a `finish`
abbrev pub answer_at : Header → List Step → ℕ → Option Answer
answer_at header run place =
    option_and_then (answer_to header run place) (option_and_then task_of (slice_get run place))

-- ---- what steps answer at their own places

-- the answer that the reply at the place is, none where it tells the task to wait
abbrev pub answered : ℕ → Reply → Option Answer
answered place reply =
    if is_blocked reply then None
    else Some (record { place = place; affirmative = is_affirmative reply })

-- the answer that the reply of the step at the place is to its task, if it has one
abbrev pub own_answer : ℕ → Step → Reply → Option Answer
own_answer place (steps.Call core task call) reply = answered place reply
own_answer place step reply = None

-- that of the step at the place, where the run begins at a table
abbrev pub own_at : Table → List Step → ℕ → Option Answer
own_at table run place =
    option_and_then
    (λ step. own_answer place step (step_of step (state_after table (take place run))).0)
    (slice_get run place)

-- those of all steps
unfoldable pub own_answers : Table → List Step → List (Option Answer)
own_answers table run = map (own_at table run) (numbers (length run))
