-- The calls of a list with their works, and its steps from outside, by places and clocks.
use Rattle.std.specs.Prelude.{◌≡◌, ℕ, ◌+◌, ◌<◌, ◌^◌, Bool, ◌&&◌, List, [], ◌∷◌, ◌++◌, length, map, filter, Some, None, slice_index}
use Rattle.std.specs.Option.{option_map_or, option_to_list}
use Rattle.bench_types.specs.declared.step.Step.{Step}
use Rattle.list_orders.specs.Search.{numbers}
use Rattle.settled_runs.specs.declared.waiting_call.WaitingCall.{WaitingCall}
use Rattle.settled_runs.specs.SettleLaws.{comes_from_outside}
use Rattle.kept_runs.specs.declared.clocks.Clock.{Clock}
use Rattle.kept_runs.specs.declared.works.Outside.{Outside}
use Rattle.kept_runs.specs.declared.works.Unmade.{Unmade}
use Rattle.kept_runs.specs.Clocks.{Clocks, elapsed}
use Rattle.kept_runs.specs.Items.{Item}
use Rattle.kept_runs.specs.Works.{Placed, is_behind_pass, is_tick, placed_item, works_from}
use Rattle.kept_works.specs.declared.asked.Asked.{Asked}
use Rattle.keeping.specs.Works.{clock_at}
use Rattle.kept_works.specs.Places.{waiting_call}

-- ---- steps from outside

-- the last unit of the tick went by right before it at the place
abbrev pub is_joined : List Step → ℕ → Step → Bool
is_joined settled place step = is_tick step && is_behind_pass settled place

abbrev pub outside_of : List Step → List ℕ → Item → Outside
outside_of settled places item = record {
  step = item.step;
  joined = is_joined settled (slice_index places item.anchor) item.step;
}

-- the steps from outside of a list, by the places of the document's steps
abbrev pub outsides : List Step → List ℕ → List Item → List Outside
outsides settled places items =
    map (outside_of settled places) (filter (λ item. comes_from_outside item.step) items)

-- ---- what is asked

-- a place is known of the step whose clocks the item has
abbrev pub HasPlace : List ℕ → Item → Type 0
HasPlace places item = item.anchor < length places

abbrev pub asked_item : List ℕ → Item → Asked
asked_item places item =
    option_map_or
    (λ (waits : WaitingCall).
    record { task = waits.task; place = slice_index places item.anchor })
    (waiting_call item.step) (record { task = 0; place = 0 })

-- the clocks of so many user tasks at the end
abbrev pub asked_ends : ℕ → ℕ → ℕ → List Asked
asked_ends cores users end =
    map (λ user. record { task = cores + user; place = end }) (numbers users)

-- ---- calls with works

-- the call is one of so many tasks
abbrev pub HasTask : ℕ → Item → Type 0
HasTask tasks item =
    (waits : WaitingCall) → waiting_call item.step ≡ Some waits → waits.task < tasks

abbrev pub IsSmallWork : Clock → Type 0
IsSmallWork clock = clock.units < 2 ^ 62

-- the calls of a list of which each step has its own clock
abbrev pub placed_by : List Clock → List Item → List Placed
placed_by [] items = []
placed_by (clock ∷ clocks) [] = []
placed_by (clock ∷ clocks) (item ∷ items) =
    option_to_list (placed_item (λ anchor task. clock) item) ++ placed_by clocks items

-- The calls of the list are put behind those that were there, each with its work: the last clock of
-- each task was one, and is another now.
abbrev pub AreCallsOf :
    List Item → List Clock → List Clock → List Unmade → List Clock → List Unmade → Type 0
AreCallsOf items clocks last before now unmade =
    (ends : Clocks) (tasks : List ℕ) →
    before ++ works_from ends (clock_at last) tasks (placed_by clocks items)
    ≡ unmade ++ works_from ends (clock_at now) tasks []

-- the ends of the user tasks, which have these clocks
abbrev pub ends_from : ℕ → List Clock → List Clock → List Unmade
ends_from cores ends last =
    map
    (λ user. record {
      task = cores + user;
      call = None;
      work = elapsed (clock_at last (cores + user)) (clock_at ends user);
    })
    (numbers (length ends))

-- behind the clocks of so many steps stand those of the user tasks at the end
abbrev pub AreEnds : ℕ → ℕ → List Clock → Clocks → Type 0
AreEnds cores count clocks ends =
    (user : ℕ) → count + user < length clocks
    → ends (cores + user) ≡ clock_at clocks (count + user)
