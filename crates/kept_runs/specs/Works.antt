-- The calls of an edited list, each with its work, and its steps from outside.
use Rattle.std.specs.Prelude.{ℕ, ◌+◌, ◌-◌, ◌^◌, ◌==◌, min, Bool, true, false, ◌&&◌, nat_lt, List, [], ◌∷◌, length, map, filter, filter_map, fold, Option, Some, None, if◌then◌else◌}
use Rattle.bench_types.specs.declared.header.Header.{Header}
use Rattle.bench_types.specs.declared.step.Call.{Call}
use Rattle.bench_types.specs.declared.step.Step.{Step}
use Rattle.bench_types.specs.declared.step.Step.TheVariants.{Tick, Pass}
use Rattle.bench_types.specs.declared.step.Step.TheVariants as steps
use Rattle.bench_types.specs.Session.{Session}
use Rattle.kept_edits.specs.declared.edit.WorkChange.{WorkChange}
use Rattle.kept_edits.specs.declared.edit.WorkChange.TheVariants.{More, Fewer}
use Rattle.list_orders.specs.Search.{numbers}
use Rattle.settled_runs.specs.Settled.{is_finish}
use Rattle.settled_runs.specs.SettleLaws.{comes_from_outside}
use Rattle.kept_runs.specs.declared.clocks.Clock.{Clock}
use Rattle.kept_runs.specs.declared.works.Outside.{Outside}
use Rattle.kept_runs.specs.declared.works.Unmade.{Unmade}
use Rattle.kept_runs.specs.Clocks.{Clocks, clocks_at, elapsed, later_clock, zero_clock}
use Rattle.kept_runs.specs.Items.{Item, passes_at, settled_place}

-- the clocks of the step of a session at that index, by the session's settled run
abbrev pub anchor_clocks : Session → List Step → ℕ → Clocks
anchor_clocks session settled anchor =
    clocks_at session.header settled (settled_place session.steps settled anchor)

-- ---- calls

-- a call of the list with its task's clock there, and with the changes of its work
pub record Placed : Type 0 where
  pub task : ℕ
  pub call : Call
  pub clock : Clock
  pub changes : List WorkChange

abbrev pub placed_call : (ℕ → Clocks) → ℕ → List WorkChange → Step → Option Placed
placed_call clocks anchor changes (steps.Call core task call) =
    if is_finish call then None
    else Some
    (record { task = task; call = call; clock = clocks anchor task; changes = changes })
placed_call clocks anchor changes step = None

abbrev pub placed_item : (ℕ → Clocks) → Item → Option Placed
placed_item clocks item = placed_call clocks item.anchor item.changes item.step

-- all calls of the list but those of `finish`
abbrev pub placed_calls : (ℕ → Clocks) → List Item → List Placed
placed_calls clocks items = filter_map (placed_item clocks) items

-- no change makes a work longer; no run has as much time
abbrev pub most_work : ℕ
most_work = 2 ^ 63 - 1

-- so many units more, or fewer; no steps without time count behind them
abbrev pub changed_work : Clock → WorkChange → Clock
changed_work work (More units) = record { units = min (work.units + units) most_work; later = 0 }
changed_work work (Fewer units) = record { units = work.units - units; later = 0 }

-- with another clock for the task
abbrev pub with_clock : Clocks → ℕ → Clock → Clocks
with_clock clocks task clock other = if other == task then clock else clocks other

-- The works of calls in their order: what elapsed from the latest clock of a call of the task
-- before, which is given, to the call's own, and then the changes in their order. Behind the last
-- call come the ends of these tasks.
abbrev pub works_from : Clocks → Clocks → List ℕ → List Placed → List Unmade
works_from ends last tasks [] =
    map
    (λ task. record { task = task; call = None; work = elapsed (last task) (ends task) }) tasks
works_from ends last tasks (placed ∷ calls) =
    record {
      task = placed.task;
      call = Some placed.call;
      work = fold changed_work (elapsed (last placed.task) placed.clock) placed.changes;
    }
    ∷ works_from ends
    (with_clock last placed.task (later_clock (last placed.task) placed.clock)) tasks calls

-- the user tasks of a header
abbrev pub user_tasks : Header → List ℕ
user_tasks header = map (λ user. header.config.cores + user) (numbers (length header.tasks))

-- the calls of an edited list with their works, by the settled run of the session before the edits
unfoldable pub unmade_calls : Session → List Step → List Item → List Unmade
unmade_calls session settled items =
    works_from (anchor_clocks session settled (length session.steps)) (λ task. zero_clock)
    (user_tasks session.header) (placed_calls (anchor_clocks session settled) items)

-- ---- steps from outside

abbrev pub is_tick : Step → Bool
is_tick Tick = true
is_tick step = false

abbrev pub is_pass : Step → Bool
is_pass (Pass units) = true
is_pass step = false

-- the step before the place is a pass
abbrev pub is_behind_pass : List Step → ℕ → Bool
is_behind_pass run place = nat_lt 0 place && passes_at is_pass run (place - 1)

abbrev pub outside_item : Session → List Step → Item → Outside
outside_item session settled item = record {
  step = item.step;
  joined = is_tick item.step
      && is_behind_pass settled (settled_place session.steps settled item.anchor);
}

-- the steps from outside of an edited list
unfoldable pub outside_steps : Session → List Step → List Item → List Outside
outside_steps session settled items =
    map (outside_item session settled)
    (filter (λ item. comes_from_outside item.step) items)
