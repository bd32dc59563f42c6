-- The steps of a run in rows: those of each task, and those from outside.
use Rattle.std.specs.Prelude.{◌≡◌, ℕ, suc, ◌<◌, ◌≤◌, ◌==◌, Bool, false, List, length, take, drop, count_by, filter_map, Option, Some, None, option_map, slice_index_or, if◌then◌else◌}
use Rattle.std.specs.Option.{option_map_or}
use Rattle.bench_types.specs.declared.step.Step.{Step}
use Rattle.bench_types.specs.declared.step.Step.TheVariants.{Tick}
use Rattle.bench_types.specs.declared.step.Step.TheVariants as steps
use Rattle.settled_runs.specs.declared.waiting_call.WaitingCall.{WaitingCall}
use Rattle.settled_runs.specs.Settled.{is_finish}
use Rattle.settled_runs.specs.SettleLaws.{comes_from_outside}
use Rattle.kept_runs.specs.Items.{places_of}
use Rattle.kept_works.specs.Rows.{row_at}

-- the call of a step that begins one; a `finish` ends one
abbrev pub waiting_call : Step → Option WaitingCall
waiting_call (steps.Call core task call) =
    if is_finish call then None else Some (record { task = task; call = call })
waiting_call step = None

-- The row of a step, where there are so many tasks: a call is in that of its task, and a step from
-- outside in the one behind those of the tasks. A switch and a `finish` are in none.
abbrev pub row_of : ℕ → Step → Option ℕ
row_of tasks step =
    if comes_from_outside step then Some tasks
    else option_map (λ (waits : WaitingCall). waits.task) (waiting_call step)

abbrev pub is_in_row : ℕ → ℕ → Step → Bool
is_in_row tasks row step = option_map_or (λ own. own == row) (row_of tasks step) false

-- a call is one of so many tasks, of which each has a row
abbrev pub HasRow : ℕ → Step → Type 0
HasRow tasks step = (waits : WaitingCall) → waiting_call step ≡ Some waits → waits.task < tasks

-- each row has the places of its steps
pub record AreRowsOf (tasks : ℕ) (run : List Step) (rows : List (List ℕ)) : Type 0 where
  pub many : length rows ≡ suc tasks
  pub each :
      (row : ℕ) → row ≤ tasks → row_at rows row ≡ places_of (is_in_row tasks row) run

-- Where an event of a document comes, none of a switch or a `finish`: as many steps of its row come
-- before it as here. One that doesn't come has the end's.
abbrev pub event_place : ℕ → List Step → List (List ℕ) → ℕ → ℕ → Option ℕ
event_place tasks document rows end index =
    option_map
    (λ row. slice_index_or (row_at rows row)
    (count_by (is_in_row tasks row) (take index document)) end)
    (row_of tasks (slice_index_or document index Tick))

-- the first of the places at the index or behind it, the end behind the last
abbrev pub place_from : List (Option ℕ) → ℕ → ℕ → ℕ
place_from own end index =
    slice_index_or (filter_map (λ (place : Option ℕ). place) (drop index own)) 0 end
