-- The changes of a source that a family has.
use Rattle.std.specs.Prelude.{ℕ, ◌+◌, ◌-◌, ◌^◌, ◌==◌, List, [], ◌∷◌, ◌++◌, length, map, drop, filter, filter_map, flat_map, position, Bool, false, not, nat_le}
use Rattle.std.specs.Prelude.{Option, Some, None, option_map, option_and_then, if◌then◌else◌, slice_get}
use Rattle.std.specs.List.{range_with_len}
use Rattle.bench_types.specs.declared.header.Header.{Header}
use Rattle.bench_types.specs.declared.step.Step.{Step}
use Rattle.bench_types.specs.declared.step.Step.TheVariants as step
use Rattle.bench_types.specs.Header.{cores_of_mask}
use Rattle.run_sources.specs.declared.source.Source.{Source}
use Rattle.run_sources.specs.Sources.{header_of, steps_of}
use Rattle.list_orders.specs.Search.{numbers}
use Rattle.bench_model.specs.Edits.{args_of}
use Rattle.settled_runs.specs.Settled.{is_event, is_finish}
use Rattle.ranked_changes.specs.declared.change.Change.{Change}
use Rattle.ranked_changes.specs.declared.change.Change.TheVariants as change
use Rattle.ranked_changes.specs.declared.change.Family.{Family}

-- the numbers of the user tasks
abbrev pub user_tasks : Header → List ℕ
user_tasks header = range_with_len header.config.cores (length header.tasks)

-- ---- priorities

-- the priorities that are not the task's own
abbrev pub other_priorities : Header → ℕ → List ℕ
other_priorities header task =
    filter (λ priority. not (priority == (args_of header task).priority))
    (numbers header.config.priorities)

-- each user task with each of these
abbrev pub priority_changes : Header → List Change
priority_changes header =
    flat_map (λ task. map (change.Priority task) (other_priorities header task))
    (user_tasks header)

-- ---- core affinity masks

-- the mask of all cores
abbrev pub all_cores : ℕ → ℕ
all_cores cores = 2 ^ cores - 1

-- the mask of each core alone
abbrev pub single_masks : ℕ → List ℕ
single_masks cores = map (λ core. 2 ^ core) (numbers cores)

-- of at most 4 cores each mask of some core, of more cores that of each core alone and that of all
abbrev pub each_mask : ℕ → List ℕ
each_mask cores =
    if nat_le cores 4 then range_with_len 1 (all_cores cores)
    else single_masks cores ++ all_cores cores ∷ []

-- the masks that the family tries; those of the cores alone are among those of `mask`
abbrev pub masks_of : Family → ℕ → List ℕ
masks_of family cores =
    if family.mask then each_mask cores
    else (if family.pin then single_masks cores else [])

-- those that don't allow just the cores of the task's own mask
abbrev pub other_masks : Family → Header → ℕ → List ℕ
other_masks family header task =
    filter
    (λ mask. not
    (cores_of_mask header.config.cores mask
    == cores_of_mask header.config.cores (args_of header task).mask))
    (masks_of family header.config.cores)

-- each user task with each of these
abbrev pub mask_changes : Family → Header → List Change
mask_changes family header =
    flat_map (λ task. map (change.Mask task) (other_masks family header task)) (user_tasks header)

-- ---- order

-- the task that makes the call; none of a `finish` or of another step
abbrev pub caller : Step → Option ℕ
caller (step.Call core task call) = if is_finish call then None else Some task
caller other = None

-- the task that calls at the place
abbrev pub caller_at : List Step → ℕ → Option ℕ
caller_at steps place = option_and_then caller (slice_get steps place)

-- the place of the first step after the place that is neither a switch nor a `finish`
abbrev pub next_event : List Step → ℕ → Option ℕ
next_event steps place =
    option_map (λ between. place + 1 + between) (position is_event (drop (place + 1) steps))

-- there are both tasks, and they differ
abbrev pub are_two_tasks : Option ℕ → Option ℕ → Bool
are_two_tasks (Some first) (Some second) = not (first == second)
are_two_tasks first second = false

-- the exchange of the call at the place with that at a later one, if different tasks call there
abbrev pub exchange_with : List Step → ℕ → ℕ → Option Change
exchange_with steps place later =
    if are_two_tasks (caller_at steps place) (caller_at steps later)
    then Some (change.Order place later) else None

-- the exchange of the call at the place with the next one, if nothing else comes between them
abbrev pub exchange_at : List Step → ℕ → Option Change
exchange_at steps place = option_and_then (exchange_with steps place) (next_event steps place)

-- that of each place
abbrev pub order_changes : List Step → List Change
order_changes steps = filter_map (exchange_at steps) (numbers (length steps))

-- ---- all

-- The changes of the family in the source: priorities, then masks, then the order of calls. A
-- workload has no calls in an order.
abbrev pub changes_of : Source → Family → List Change
changes_of source family =
    (if family.priority then priority_changes (header_of source) else [])
    ++ mask_changes family (header_of source)
    ++ (if family.order then order_changes (steps_of source) else [])
