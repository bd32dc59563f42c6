-- How far a run that keeps work is known: not what a task does behind its end in the document, nor
-- behind a call that is answered otherwise than before the edits.
use Rattle.std.specs.Prelude.{ℕ, suc, ◌==◌, Bool, true, false, not, ◌&&◌, nat_lt, nat_le, List, ◌++◌, length, take, filter, filter_map, find, fold, count_by, slice_get, Option, Some, None, option_map, option_and_then, is_none, if◌then◌else◌}
use Rattle.std.specs.Option.{option_map_or}
use Rattle.bench_types.specs.declared.header.Header.{Header}
use Rattle.bench_types.specs.declared.step.Step.{Step}
use Rattle.bench_types.specs.declared.step.Step.TheVariants as steps
use Rattle.bench_types.specs.Session.{Session}
use Rattle.bench_model.specs.Session.{reply_at}
use Rattle.kept_edits.specs.declared.edit.KeptEdit.{KeptEdit}
use Rattle.list_orders.specs.Search.{numbers}
use Rattle.settled_runs.specs.Settled.{is_finish}
use Rattle.settled_runs.specs.SettleLaws.{comes_from_outside}
use Rattle.workload_runs.specs.Courses.{is_affirmative, is_blocked}
use Rattle.kept_runs.specs.declared.call_order.CallOrder.{CallOrder}
use Rattle.kept_runs.specs.declared.known_limit.KnownLimit.{KnownLimit}
use Rattle.kept_runs.specs.declared.known_limit.LimitReason.TheVariants.{End, Answer}
use Rattle.kept_runs.specs.Items.{Item, begins_call, edited_items, edited_session, is_alike, passes_at, settled_place}
use Rattle.kept_runs.specs.Rule.{Progress, can_call, firsts, has_worked, is_within_tick, progress_at}
use Rattle.kept_runs.specs.declared.works.Unmade.{Unmade}

-- ---- the ends of tasks

-- the end of a task that could call, and has worked for as long as it did
abbrev pub is_due_end : Progress → Unmade → Bool
is_due_end now one = is_none one.call && (has_worked now one && can_call now.table one)

-- the first task that is at its end; none between a tick and its last unit
unfoldable pub task_at_end : Progress → Option ℕ
task_at_end now =
    if is_within_tick now then None
    else option_map (λ one. one.task) (find (is_due_end now) (firsts now.unmade))

-- a step from outside comes at the place though a task is at its end
abbrev pub end_limit : List Step → ℕ → Progress → Option KnownLimit
end_limit run place now =
    if passes_at comes_from_outside run place
    then option_map (λ task. record { place = place; task = task; reason = End })
    (task_at_end now)
    else None

-- ---- answers

-- a call of the task, or its `finish`
abbrev pub is_step_of : ℕ → Step → Bool
is_step_of task (steps.Call core other call) = other == task
is_step_of task step = false

-- at the place a step of the task stands, and its reply is not that the task waits
abbrev pub answers_at : Header → List Step → ℕ → ℕ → Bool
answers_at header run task place =
    passes_at (is_step_of task) run place
    && option_map_or (λ reply. not (is_blocked reply)) (reply_at header run place) false

-- where the task's call at a place is answered: there, or by a `finish` behind it
abbrev pub answer_place : Header → List Step → ℕ → ℕ → Option ℕ
answer_place header run task place =
    find (λ later. nat_le place later && answers_at header run task later)
    (numbers (length run))

-- whether its answer is affirmative
unfoldable pub answer_of : Header → List Step → ℕ → ℕ → Option Bool
answer_of header run task place =
    option_and_then (λ later. option_map is_affirmative (reply_at header run later))
    (answer_place header run task place)

-- ---- answers before the edits

-- the item of the task's call at a place of a run: before it come as many calls of the task
abbrev pub item_of : List Item → List Step → ℕ → ℕ → Option Item
item_of items run task place =
    slice_get (filter (λ item. begins_call task item.step) items)
    (count_by (begins_call task) (take place run))

-- the item is a call of the document, or stands for one of the same task
abbrev pub was_call : List Step → Item → Bool
was_call document item =
    not item.inserted && passes_at (is_alike item.step) document item.anchor

-- whether the answer was affirmative in the settled run of the document
abbrev pub answer_before : Session → List Step → ℕ → Item → Option Bool
answer_before session settled task item =
    if was_call session.steps item
    then answer_of session.header settled task
    (settled_place session.steps settled item.anchor)
    else None

-- one is affirmative, and the other is not
abbrev pub differ : Option Bool → Option Bool → Bool
differ (Some true) (Some false) = true
differ (Some false) (Some true) = true
differ one other = false

-- the task's call at a place of the run is answered otherwise than before the edits
unfoldable pub is_other_answer :
    Session → List KeptEdit → List Step → List Step → ℕ → ℕ → Bool
is_other_answer session edits settled run task place =
    differ
    (option_and_then (answer_before session settled task)
    (item_of (edited_items session edits) run task place))
    (answer_of (edited_session session edits).header run task place)

-- the answer to the task's call at a place is affirmative
abbrev pub is_affirmed : Header → List Step → ℕ → ℕ → Bool
is_affirmed header run task place =
    option_map_or (λ affirmative. affirmative) (answer_of header run task place) false

-- the limit behind an answer, affirmative now and not before, or the other way round
abbrev pub limit_behind : ℕ → Bool → ℕ → KnownLimit
limit_behind task affirmative later =
    record { place = suc later; task = task; reason = Answer affirmative }

-- so behind the answer of a call at the place nothing is known
abbrev pub answer_limit :
    Session → List KeptEdit → List Step → List Step → ℕ → Step → Option KnownLimit
answer_limit session edits settled run place (steps.Call core task call) =
    if not (is_finish call) && is_other_answer session edits settled run task place
    then option_map
    (limit_behind task (is_affirmed (edited_session session edits).header run task place))
    (answer_place (edited_session session edits).header run task place)
    else None
answer_limit session edits settled run place step = None

-- ---- both

-- all that limits what is known of the run
abbrev pub limits :
    CallOrder → Session → List KeptEdit → List Step → List Step → List KnownLimit
limits order session edits settled run =
    filter_map
    (λ place. option_and_then (answer_limit session edits settled run place)
    (slice_get run place))
    (numbers (length run))
    ++ filter_map
    (λ place. end_limit run place (progress_at order session edits settled run place))
    (numbers (length run))

-- the one at the lesser place, the first where both are at one place
abbrev pub earlier : Option KnownLimit → KnownLimit → Option KnownLimit
earlier None limit = Some limit
earlier (Some first) limit = if nat_lt limit.place first.place then Some limit else Some first

-- up to where the run is known; all of it is known where there is no limit
unfoldable pub known_until :
    CallOrder → Session → List KeptEdit → List Step → List Step → Option KnownLimit
known_until order session edits settled run =
    fold earlier None (limits order session edits settled run)
