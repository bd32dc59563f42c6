-- The edited list has the steps of the edited session; its calls in order are those of the run.
use Rattle.std.proofs.Common.{◌≡◌, ℕ, zero, suc, Bool, true, false, cond, not, eqb, ◌&&◌, List, [], ◌∷◌, ◌++◌, length, map, take, drop, Option, Some, None, refl, sym, ap, subst, ◌∙◌, inl, inr, append_assoc}
use Rattle.std.specs.Prelude.{◌⊎◌, is_ok, filter_map, slice_get, slice_set}
use Rattle.std.specs.List.{filter, AllByRecursion}
use Rattle.std.specs.Option.{option_map_or}
use Rattle.list_orders.proofs.Filters.{All-filter_passes}
use Rattle.settled_runs.proofs.Pieces.{each_map}
use Rattle.std.proofs.lemmas.List.{map-append, map-set, take-map, drop-map}
use Rattle.bench_types.specs.declared.edit.Edit.{Edit}
use Rattle.bench_types.specs.declared.edit.Edit.TheVariants.{Insert, Remove, Replace, ChangeTask}
use Rattle.kept_edits.specs.declared.edit.KeptEdit.{KeptEdit}
use Rattle.kept_edits.specs.declared.edit.KeptEdit.TheVariants.{Plain, Work}
use Rattle.kept_edits.specs.declared.edit.WorkChange.{WorkChange}
use Rattle.bench_types.specs.declared.step.Call.{Call}
use Rattle.bench_types.specs.declared.step.Step.{Step}
use Rattle.bench_types.specs.declared.step.Step.TheVariants.{Tick, Switch, Interrupt, QueueInterrupt, ResumeInterrupt, Pass}
use Rattle.bench_types.specs.declared.step.Step.TheVariants as steps
use Rattle.bench_types.specs.Session.{Session}
use Rattle.bench_model.specs.Edits.{accepted, after_edit, edited}
use Rattle.settled_runs.specs.declared.waiting_call.WaitingCall.{WaitingCall}
use Rattle.settled_runs.specs.Settled.{is_finish}
use Rattle.settled_runs.specs.SettleLaws.{call_of, calls_of, comes_from_outside, waiting_of}
use Rattle.kept_runs.specs.declared.call_order.CallOrder.{CallOrder}
use Rattle.kept_runs.specs.Clocks.{Clocks, later_clock, zero_clock}
use Rattle.kept_runs.specs.Items.{Item, anchor_at, edited_items, edited_session, inserted_at, is_call, items_after, items_along, items_edited, items_from, items_worked}
use Rattle.kept_runs.specs.KeptLaws.{KeptRunKeepsCalls}
use Rattle.kept_runs.specs.Rule.{Progress, after, first_progress, unmade_after, without_first, IsRunFrom}
use Rattle.kept_runs.specs.Works.{Placed, anchor_clocks, outside_item, outside_steps, placed_call, placed_calls, placed_item, unmade_calls, user_tasks, with_clock, works_from}
use Rattle.kept_runs.specs.OrderLaws.{HasBegun}
use Rattle.kept_runs.proofs.Firsts.{all_mapped, calls_without, waits_in, IsDue}
use Rattle.kept_runs.proofs.Pieces.{from_outside, good_after, origin, unmade_stays, ComesFromOutside, IsFromOutside, IsGood, IsQuiet}

-- ---- the steps of the edited list

abbrev pub steps_of : List Item → List Step
steps_of items = map (λ item. item.step) items

abbrev step_at : Item → Step
step_at item = item.step

pub steps_from : (index : ℕ) (session : List Step) → steps_of (items_from index session) ≡ session
steps_from index [] = refl
steps_from index (step ∷ session) = ap (λ steps. step ∷ steps) (steps_from (suc index) session)

edited_steps : (count : ℕ) (edit : Edit) (session : Session) (items : List Item) → steps_of items ≡ session.steps
    → steps_of (items_edited count edit items) ≡ (edited edit session).steps
edited_steps count (Insert at step) session items same =
    map-append step_at (take at items) (record { step = step; anchor = anchor_at count items at; inserted = true; changes = [] } ∷ drop at items)
    ∙ (λ i. sym (take-map step_at at items) i ++ step ∷ sym (drop-map step_at at items) i)
    ∙ ap (λ steps. take at steps ++ step ∷ drop at steps) same
edited_steps count (Remove at) session items same =
    map-append step_at (take at items) (drop (suc at) items)
    ∙ (λ i. sym (take-map step_at at items) i ++ sym (drop-map step_at (suc at) items) i)
    ∙ ap (λ steps. take at steps ++ drop (suc at) steps) same
edited_steps count (Replace at step) session items same =
    map-set step_at items at (record { step = step; anchor = anchor_at count items at; inserted = inserted_at items at; changes = [] })
    ∙ ap (λ steps. slice_set steps at step) same
edited_steps count (ChangeTask task priority mask) session items same = same

after_steps_of : (count : ℕ) (session : Session) (edit : Edit) (items : List Item) → steps_of items ≡ session.steps
    → steps_of (items_after count session edit items) ≡ (after_edit session edit).steps
after_steps_of count session edit items same = at (is_ok (accepted session edit))
  where
    at : (b : Bool) → steps_of (cond b (items_edited count edit items) items) ≡ (cond b (edited edit session) session).steps
    at true = edited_steps count edit session items same
    at false = same

-- a change of work changes no step
set_same : (items : List Item) (at : ℕ) (item : Item) → option_map_or (λ (item : Item). item.step) (slice_get items at) item.step ≡ item.step
    → steps_of (slice_set items at item) ≡ steps_of items
set_same [] at item same = refl
set_same (one ∷ items) zero item same = ap (λ step. step ∷ steps_of items) (sym same)
set_same (one ∷ items) (suc at) item same = ap (λ steps. one.step ∷ steps) (set_same items at item same)

worked_steps : (at : ℕ) (change : WorkChange) (items : List Item) → steps_of (items_worked at change items) ≡ steps_of items
worked_steps at change items = there (slice_get items at) refl
  where
    there : (o : Option Item) → slice_get items at ≡ o
        → steps_of
        (option_map_or
        (λ (item : Item). cond (is_call item.step) (slice_set items at (record item { changes = item.changes ++ change ∷ [] })) items) o items)
        ≡ steps_of items
    there None none = refl
    there (Some item) some = which (is_call item.step)
      where
        which : (b : Bool) → steps_of (cond b (slice_set items at (record item { changes = item.changes ++ change ∷ [] })) items) ≡ steps_of items
        which true = set_same items at (record item { changes = item.changes ++ change ∷ [] })
            (ap (λ o. option_map_or (λ (item : Item). item.step) o item.step) some)
        which false = refl

steps_along : (count : ℕ) (edits : List KeptEdit) (session : Session) (items : List Item) → steps_of items ≡ session.steps
    → steps_of (items_along count session edits items) ≡ (edited_session session edits).steps
steps_along count [] session items same = same
steps_along count (Work at change ∷ edits) session items same =
    steps_along count edits session (items_worked at change items) (worked_steps at change items ∙ same)
steps_along count (Plain edit ∷ edits) session items same =
    steps_along count edits (after_edit session edit) (items_after count session edit items) (after_steps_of count session edit items same)

pub steps_of_edited : (session : Session) (edits : List KeptEdit) → steps_of (edited_items session edits) ≡ (edited_session session edits).steps
unfolding edited_items
steps_of_edited session edits = steps_along (length session.steps) edits session (items_from 0 session.steps) (steps_from 0 session.steps)

-- ---- its calls

module _ (task : ℕ) where
  own_call : (b : Bool) (call : Call) (f : Bool) → f ≡ false → cond (b && not f) (call ∷ []) [] ≡ cond b (call ∷ []) []
  own_call true call f begins = ap (λ f. cond (not f) (call ∷ []) []) begins
  own_call false call f begins = refl

  no_call : (b : Bool) (call : Call) (f : Bool) → f ≡ true → cond (b && not f) (call ∷ []) [] ≡ []
  no_call true call f ends = ap (λ f. cond (not f) (call ∷ []) []) ends
  no_call false call f ends = refl

  -- the ends of tasks wait for nothing
  ends_wait : (ends last : Clocks) (tasks : List ℕ) → waits_in task (works_from ends last tasks []) ≡ []
  ends_wait ends last [] = refl
  ends_wait ends last (other ∷ tasks) = ends_wait ends last tasks

  placed_of : List Placed → List Call
  placed_of [] = []
  placed_of (placed ∷ calls) = cond (eqb placed.task task) (placed.call ∷ []) [] ++ placed_of calls

  works_wait : (ends last : Clocks) (tasks : List ℕ) (calls : List Placed) → waits_in task (works_from ends last tasks calls) ≡ placed_of calls
  unfolding placed_of
  works_wait ends last tasks [] = ends_wait ends last tasks
  works_wait ends last tasks (placed ∷ calls) =
      ap (λ rest. cond (eqb placed.task task) (placed.call ∷ []) [] ++ rest)
      (works_wait ends (with_clock last placed.task (later_clock (last placed.task) placed.clock)) tasks calls)

  placed_of_items : (clocks : ℕ → Clocks) (items : List Item) → placed_of (placed_calls clocks items) ≡ calls_of task (steps_of items)
  unfolding placed_of
  placed_of_items clocks [] = refl
  placed_of_items clocks (item ∷ items) = at item.step refl (placed_of_items clocks items)
    where
      at : (step : Step) → item.step ≡ step → placed_of (placed_calls clocks items) ≡ calls_of task (steps_of items)
          → placed_of (placed_calls clocks (item ∷ items)) ≡ calls_of task (steps_of (item ∷ items))
      at Tick is rest = rw is rest
      at (Switch core) is rest = rw is rest
      at (Interrupt core note) is rest = rw is rest
      at (QueueInterrupt core queue direction) is rest = rw is rest
      at (ResumeInterrupt core other) is rest = rw is rest
      at (Pass units) is rest = rw is rest
      at (steps.Call core caller call) is rest = rw is (which (is_finish call) refl)
        where
          which : (b : Bool) → is_finish call ≡ b
              → placed_of (filter_map (placed_item clocks) (record { step = steps.Call core caller call; anchor = item.anchor; inserted = item.inserted; changes = item.changes } ∷ items))
              ≡ calls_of task (steps.Call core caller call ∷ steps_of items)
          which true ends = rw ends (rest ∙ ap (λ none. none ++ calls_of task (steps_of items)) (sym (no_call (eqb caller task) call true refl)))
          which false begins =
              rw begins
              ((λ i. cond (eqb caller task) (call ∷ []) [] ++ rest i)
              ∙ ap (λ own. own ++ calls_of task (steps_of items)) (sym (own_call (eqb caller task) call false refl)))

  pub calls_of_edited : (session : Session) (settled : List Step) (items : List Item)
      → waits_in task (unmade_calls session settled items) ≡ calls_of task (steps_of items)
  unfolding unmade_calls
  calls_of_edited session settled items =
      works_wait (anchor_clocks session settled (length session.steps)) (λ task. zero_clock) (user_tasks session.header)
      (placed_calls (anchor_clocks session settled) items)
      ∙ placed_of_items (anchor_clocks session settled) items

-- ---- the calls of the run

module _ (task : ℕ) (now : Progress) (good : IsGood now) where
  quiet_calls : (step : Step) → IsQuiet now step → waits_in task now.unmade ≡ call_of task step ++ waits_in task (unmade_after step now.unmade)
  quiet_calls step (inl it) = sym (ap (λ step. call_of task step ++ waits_in task (unmade_after step now.unmade)) it.is)
  quiet_calls step (inr (inl it)) =
      sym (ap (λ step. call_of task step ++ waits_in task (unmade_after step now.unmade)) it.is
      ∙ ap (λ none. none ++ waits_in task now.unmade) (no_call task _ _ true refl))
  quiet_calls step (inr (inr it)) =
      let due : IsDue now it.waits = it.may in
      calls_without now.unmade due.one it.waits due.first due.is task
      ∙ made (is_finish it.waits.call) it.begins
      ∙ sym (ap (λ step. call_of task step ++ waits_in task (unmade_after step now.unmade)) it.is)
    where
      one_more : (b : Bool) (call : Call) (rest : List Call) → (cond b (call ∷ []) [] ++ []) ++ rest ≡ cond (b && true) (call ∷ []) [] ++ rest
      one_more true call rest = refl
      one_more false call rest = refl

      made : (f : Bool) → f ≡ false
          → waiting_of task (it.waits ∷ []) ++ waits_in task (without_first it.waits.task now.unmade)
          ≡ cond (eqb it.waits.task task && not f) (it.waits.call ∷ []) [] ++ waits_in task (cond f now.unmade (without_first it.waits.task now.unmade))
      made true begins = absurd (cc begins)
      made false begins = one_more (eqb it.waits.task task) it.waits.call _

  inside_no_call : (step : Step) → comes_from_outside step ≡ true → call_of task step ≡ []
  inside_no_call Tick is = refl
  inside_no_call (Switch core) is = refl
  inside_no_call (Interrupt core note) is = refl
  inside_no_call (QueueInterrupt core queue direction) is = refl
  inside_no_call (ResumeInterrupt core other) is = refl
  inside_no_call (Pass units) is = refl
  inside_no_call (steps.Call core caller call) is = absurd (cc is)

  outside_calls : (step : Step) → IsFromOutside now step → waits_in task now.unmade ≡ call_of task step ++ waits_in task (unmade_after step now.unmade)
  outside_calls step it =
      let is = from_outside now step good it in
      sym ((λ i. inside_no_call step is i ++ waits_in task (unmade_stays step now.unmade is i)))

calls_along : (run : List Step) (now : Progress) (left : List WaitingCall) (task : ℕ) → IsGood now → IsRunFrom now run left
    → waits_in task now.unmade ≡ calls_of task run ++ waiting_of task left
unfolding after
calls_along [] now left task good is = ap (waiting_of task) is.1
calls_along (step ∷ run) now left task good is =
    at (origin now step good.begun is.0) ∙ ap (λ rest. call_of task step ++ rest) (calls_along run (after step now) left task (good_after step now good) is.1)
    ∙ sym (append_assoc (call_of task step) (calls_of task run) (waiting_of task left))
  where
    at : IsQuiet now step ⊎ IsFromOutside now step
        → waits_in task now.unmade ≡ call_of task step ++ waits_in task (unmade_after step now.unmade)
    at (inl quiet) = quiet_calls task now good step quiet
    at (inr it) = outside_calls task now good step it

-- ---- the start

ends_begun : (ends last : Clocks) (tasks : List ℕ) → AllByRecursion HasBegun (works_from ends last tasks [])
ends_begun ends last [] = tt
ends_begun ends last (task ∷ tasks) = (λ call is. absurd (cc is), ends_begun ends last tasks)

abbrev pub PlacedBegun : Placed → Type 0
PlacedBegun placed = is_finish placed.call ≡ false

works_begun : (ends last : Clocks) (tasks : List ℕ) (calls : List Placed) → AllByRecursion PlacedBegun calls
    → AllByRecursion HasBegun (works_from ends last tasks calls)
works_begun ends last tasks [] all = ends_begun ends last tasks
works_begun ends last tasks (placed ∷ calls) all = (
  λ call is. let same : placed.call ≡ call = cc is in subst (λ call. is_finish call ≡ false) same all.0,
  works_begun ends (with_clock last placed.task (later_clock (last placed.task) placed.clock)) tasks calls all.1,
)

pub placed_begun : (clocks : ℕ → Clocks) (item : Item) (placed : Placed) → Unit {0} → placed_item clocks item ≡ Some placed → PlacedBegun placed
placed_begun clocks item placed any is = at item.step is
  where
    at : (step : Step) → placed_call clocks item.anchor item.changes step ≡ Some placed → PlacedBegun placed
    at (steps.Call core task call) is = which (is_finish call) refl is
      where
        which : (b : Bool) → is_finish call ≡ b
            → cond b None (Some (record { task = task; call = call; clock = clocks item.anchor task; changes = item.changes })) ≡ Some placed → PlacedBegun placed
        which true ends is = absurd (cc is)
        which false begins is =
            let same : record { task = task; call = call; clock = clocks item.anchor task; changes = item.changes } ≡ placed = cc is in
            subst PlacedBegun same begins
    at step is = absurd (cc is)

pub each_item : (items : List Item) → AllByRecursion (λ (item : Item). Unit {0}) items
each_item [] = tt
each_item (item ∷ items) = (tt, each_item items)

pub first_good : (order : CallOrder) (session : Session) (edits : List KeptEdit) (settled : List Step) → IsGood (first_progress order session edits settled)
unfolding first_progress unmade_calls outside_steps
first_good order session edits settled =
    let items = edited_items session edits in
    let clocks = anchor_clocks session settled in record {
      begun = works_begun (clocks (length session.steps)) (λ task. zero_clock) (user_tasks session.header) (placed_calls clocks items)
          (all_mapped (placed_item clocks) (λ (item : Item). Unit {0}) PlacedBegun (placed_begun clocks) items
          (each_item items));
      outsides = each_map (outside_item session settled) ComesFromOutside (filter (λ (item : Item). comes_from_outside item.step) items)
          (All-filter_passes (λ (item : Item). comes_from_outside item.step) items);
    }

pub kept_run_keeps_calls : KeptRunKeepsCalls
unfolding first_progress
kept_run_keeps_calls order session edits run left task kept =
    sym (calls_of_edited task session kept.settled (edited_items session edits) ∙ ap (calls_of task) (steps_of_edited session edits))
    ∙ calls_along run (first_progress order session edits kept.settled) left task (first_good order session edits kept.settled) kept.is_run
