-- What is kept along a run: a sound kernel, calls that may wait, and checked steps from outside.
use Rattle.std.proofs.Common.{◌≡◌, ℕ, zero, suc, ◌-◌, ◌^◌, ◌<◌, ◌≤◌, Bool, true, false, cond, not, eqb, ltb, List, [], ◌∷◌, ◌++◌, length, map, take, Option, Some, None, Result, Ok, Err, refl, sym, ap, subst, ◌∙◌, inl, inr, arith}
use Rattle.std.specs.Prelude.{◌⊎◌, All, filter_map}
use Rattle.std.specs.List.{filter, AllByRecursion}
use Rattle.std.specs.Option.{option_or}
use Rattle.std.proofs.lemmas.Bool.Decides.{nat_tests}
use Rattle.std.proofs.lemmas.List.Elements.{All-cons, All-nil, recursion_from_All}
use Rattle.kept_edits.specs.declared.edit.KeptEdit.{KeptEdit}
use Rattle.bench_types.specs.declared.fault.Fault.{Fault}
use Rattle.bench_types.specs.declared.fault.Fault.TheVariants.{BadArgument}
use Rattle.bench_types.specs.declared.kernel_data.Settings.{Settings}
use Rattle.bench_types.specs.declared.step.Step.{Step}
use Rattle.bench_types.specs.declared.step.Step.TheVariants.{Tick, Switch, Interrupt, QueueInterrupt, ResumeInterrupt, Pass}
use Rattle.bench_types.specs.declared.step.Step.TheVariants as steps
use Rattle.bench_types.specs.Session.{Session, IsSession}
use Rattle.bench_types.specs.Step.{settings_of, IsCheckedStep}
use Rattle.list_orders.proofs.Filters.{All-append, All-filter, All-filter_passes, All-weaker}
use Rattle.bench_model.specs.Sound.{IsSound}
use Rattle.bench_model.specs.Start.{start}
use Rattle.step_laws.proofs.Along.{settings_after, start_settings}
use Rattle.step_laws.proofs.Steps.{after_sound}
use Rattle.settled_runs.specs.declared.waiting_call.WaitingCall.{WaitingCall}
use Rattle.settled_runs.specs.Settled.{is_finish, quiet_step}
use Rattle.settled_runs.specs.SettleLaws.{comes_from_outside, MayWait}
use Rattle.settled_runs.proofs.Pieces.{each_map, each_unmap}
use Rattle.settled_runs.proofs.Rests as rests
use Rattle.settled_runs.proofs.Rests.{event_waits, piece_checked, start_good}
use Rattle.workload_runs.specs.Rule.{least}
use Rattle.workload_runs.proofs.Searches.{least_below, least_over}
use Rattle.kept_runs.specs.declared.call_order.CallOrder.{CallOrder}
use Rattle.kept_runs.specs.Clocks.{Clocks, later_clock, zero_clock}
use Rattle.kept_runs.specs.Items.{Item, edited_items, edited_session}
use Rattle.kept_runs.specs.KeptLaws.{KeptRunIsSession}
use Rattle.kept_runs.specs.Rule.{Progress, after, after_steps, as_waiting, can_call, cut, due_calls, first_progress, firsts, has_worked, in_order, is_within_tick, next_step, outside_after, outside_step, rest_of, unmade_after, works_left, IsRunFrom}
use Rattle.kept_runs.specs.declared.works.Outside.{Outside}
use Rattle.kept_runs.specs.declared.works.Unmade.{Unmade}
use Rattle.kept_runs.specs.Works.{Placed, anchor_clocks, outside_item, outside_steps, placed_call, placed_calls, placed_item, unmade_calls, user_tasks, with_clock, works_from}
use Rattle.kept_runs.proofs.Firsts.{all_mapped, firsts_all, in_order_all}
use Rattle.kept_runs.proofs.Listed.{first_good, steps_of_edited}
use Rattle.kept_runs.proofs.Pieces.{good_after, next_is, unmade_all, IsFromOutside}
use Rattle.kept_runs.proofs.Pieces as pieces
use Rattle.kept_runs.proofs.Placings.{waits_of}

-- an unmade call may wait
abbrev pub MayBeMade : Settings → Unmade → Type 0
MayBeMade settings one = (waits : WaitingCall) → as_waiting one ≡ Some waits → MayWait settings waits

abbrev pub IsCheckedOutside : Settings → Outside → Type 0
IsCheckedOutside settings one = IsCheckedStep settings one.step

pub record IsKeeping (now : Progress) : Type 0 where
  pub sound : IsSound now.table
  pub few : now.table.settings.cores < 2 ^ 32
  pub may : AllByRecursion (MayBeMade now.table.settings) now.unmade
  pub good : pieces.IsGood now
  pub checked : AllByRecursion (IsCheckedOutside now.table.settings) now.outside

-- ---- the next step

pub may_wait : (settings : Settings) (unmade : List Unmade) → AllByRecursion (MayBeMade settings) unmade
    → AllByRecursion (MayWait settings) (filter_map as_waiting unmade)
may_wait settings unmade all = all_mapped as_waiting (MayBeMade settings) (MayWait settings) (λ one waits may is. may waits is) unmade all

pub due_good : (now : Progress) → IsKeeping now → rests.IsGood now.table (due_calls now)
unfolding due_calls
due_good now keeping = record { sound = keeping.sound; few = keeping.few; may = at (is_within_tick now) }
  where
    at : (b : Bool) → AllByRecursion (MayWait now.table.settings) (cond b [] (in_order now.order now.table (filter_map as_waiting (filter (has_worked now) (firsts now.unmade)))))
    at true = tt
    at false =
        let May = MayBeMade now.table.settings in
        in_order_all (MayWait now.table.settings) now.order now.table (filter_map as_waiting (filter (has_worked now) (firsts now.unmade)))
        (may_wait now.table.settings (filter (has_worked now) (firsts now.unmade))
        (All-filter May (has_worked now) (firsts now.unmade) (firsts_all May now.unmade keeping.may)))

-- quiet work, or a step from outside
pub which_next : (now : Progress) (step : Step) → next_step now ≡ Some step
    → (quiet_step now.table (due_calls now) ≡ Some step) ⊎ IsFromOutside now step
unfolding next_step
which_next now step is = at (quiet_step now.table (due_calls now)) refl is
  where
    at : (o : Option Step) → quiet_step now.table (due_calls now) ≡ o → option_or o (outside_step now) ≡ Some step
        → (quiet_step now.table (due_calls now) ≡ Some step) ⊎ IsFromOutside now step
    at None none is = inr (next_is now step is none)
    at (Some piece) some is = inl (some ∙ is)

-- a part of a pass is one that may be
part_checked : (settings : Settings) (whole part : ℕ) → IsCheckedStep settings (Pass whole) → part ≤ whole → (0 < whole → 0 < part)
    → IsCheckedStep settings (Pass part)
part_checked settings whole part checked few some = record {
  passes = at (eqb settings.units 1) (eqb whole 0) refl checked.passes;
  words = let low = checked.words in omega (arith, low, few);
}
  where
    at : (one none : Bool) → eqb whole 0 ≡ none
        → cond {A = Result (Unit {0}) Fault} one (Err BadArgument) (cond none (Err BadArgument) (Ok tt)) ≡ Ok tt
        → cond {A = Result (Unit {0}) Fault} one (Err BadArgument) (cond (eqb part 0) (Err BadArgument) (Ok tt)) ≡ Ok tt
    at true none is passes = absurd (cc passes)
    at false true is passes = absurd (cc passes)
    at false false is passes =
        let positive : 0 < whole = grind (arith, nat_tests, is) in
        let more : 0 < part = some positive in
        let test : eqb part 0 ≡ false = grind (arith, nat_tests, more) in
        ap (λ b. cond {A = Result (Unit {0}) Fault} b (Err BadArgument) (Ok tt)) test

pub cut_some : (now : Progress) (units : ℕ) → 0 < units → 0 < least units (works_left now)
cut_some now units some =
    let lefts = map (λ (one : Unmade). one.work.units - (now.worked one.task).units)
    (filter (can_call now.table) (firsts now.unmade)) in
    let all = All-weaker (λ left. ltb 0 left ≡ true) (λ left. 1 ≤ left) (λ left passes. grind (arith, nat_tests, passes)) (works_left now)
    (All-filter_passes (λ left. ltb 0 left) lefts) in
    let over = least_over (works_left now) units 1 (omega (arith, some)) all in
    omega (arith, over)

cut_checked : (now : Progress) (settings : Settings) (step : Step) → IsCheckedStep settings step → IsCheckedStep settings (cut now step)
cut_checked now settings (Pass units) checked =
    part_checked settings units (least units (works_left now)) checked (least_below (works_left now) units) (cut_some now units)
cut_checked now settings Tick checked = checked
cut_checked now settings (Switch core) checked = checked
cut_checked now settings (Interrupt core note) checked = checked
cut_checked now settings (QueueInterrupt core queue direction) checked = checked
cut_checked now settings (ResumeInterrupt core task) checked = checked
cut_checked now settings (steps.Call core task call) checked = checked

pub next_checked : (now : Progress) (step : Step) → IsKeeping now → next_step now ≡ Some step → IsCheckedStep now.table.settings step
next_checked now step keeping is = at (which_next now step is)
  where
    at : (quiet_step now.table (due_calls now) ≡ Some step) ⊎ IsFromOutside now step → IsCheckedStep now.table.settings step
    at (inl quiet) = piece_checked now.table (due_calls now) step (due_good now keeping) quiet
    at (inr it) =
        let all = subst (AllByRecursion (IsCheckedOutside now.table.settings)) it.are keeping.checked in
        subst (IsCheckedStep now.table.settings) (sym it.is) (cut_checked now now.table.settings it.next.step all.0)

-- ---- behind a step

rest_checked : (settings : Settings) (made step : Step) → IsCheckedStep settings step → AllByRecursion (IsCheckedOutside settings) (rest_of made step)
rest_checked settings (Pass made) (Pass units) checked = at (ltb made units) refl
  where
    at : (b : Bool) → ltb made units ≡ b
        → AllByRecursion (IsCheckedOutside settings) (cond b (record { step = Pass (units - made); joined = false } ∷ []) [])
    at true less =
        let low : made < units = grind (arith, nat_tests, less) in
        (part_checked settings units (units - made) checked (omega arith) (λ some. omega (arith, low)), tt)
    at false all = tt
rest_checked settings made step checked = tt

outside_checked : (settings : Settings) (step : Step) (outside : List Outside) → AllByRecursion (IsCheckedOutside settings) outside
    → AllByRecursion (IsCheckedOutside settings) (outside_after step outside)
outside_checked settings step [] all = tt
outside_checked settings step (next ∷ rest) all =
    elim (comes_from_outside step) as (λ b. AllByRecursion (IsCheckedOutside settings) (cond b (rest_of step next.step ++ rest) (next ∷ rest)))
    [ true ↦ All-append (IsCheckedOutside settings) (rest_of step next.step) rest (rest_checked settings step next.step all.0) all.1 | false ↦ all ]

pub keeping_after : (step : Step) (now : Progress) → IsKeeping now → IsCheckedStep now.table.settings step → IsKeeping (after step now)
unfolding after
keeping_after step now keeping checked =
    let same = settings_after now.table step keeping.sound in record {
      sound = after_sound step now.table keeping.sound checked;
      few = subst (λ settings. settings.cores < 2 ^ 32) (sym same) keeping.few;
      may = subst (λ settings. AllByRecursion (MayBeMade settings) (unmade_after step now.unmade)) (sym same)
          (unmade_all (MayBeMade now.table.settings) step now.unmade keeping.may);
      good = good_after step now keeping.good;
      checked = subst (λ settings. AllByRecursion (IsCheckedOutside settings) (outside_after step now.outside)) (sym same)
          (outside_checked now.table.settings step now.outside keeping.checked);
    }

-- ---- the start

abbrev PlacedMay : Settings → Placed → Type 0
PlacedMay settings placed = MayWait settings (waits_of placed)

module _ (settings : Settings) where
  ends_may : (ends last : Clocks) (tasks : List ℕ) → AllByRecursion (MayBeMade settings) (works_from ends last tasks [])
  ends_may ends last [] = tt
  ends_may ends last (task ∷ tasks) = (λ waits is. absurd (cc is), ends_may ends last tasks)

  works_may : (ends : Clocks) (tasks : List ℕ) (calls : List Placed) (last : Clocks) → AllByRecursion (PlacedMay settings) calls
      → AllByRecursion (MayBeMade settings) (works_from ends last tasks calls)
  works_may ends tasks [] last all = ends_may ends last tasks
  works_may ends tasks (placed ∷ calls) last all = (
    λ waits is. let same : waits_of placed ≡ waits = cc is in subst (MayWait settings) same all.0,
    works_may ends tasks calls (with_clock last placed.task (later_clock (last placed.task) placed.clock)) all.1,
  )

  placed_may : (clocks : ℕ → Clocks) (item : Item) (placed : Placed) → IsCheckedStep settings item.step
      → placed_item clocks item ≡ Some placed → PlacedMay settings placed
  placed_may clocks item placed checked is = at item.step checked is
    where
      at : (step : Step) → IsCheckedStep settings step → placed_call clocks item.anchor item.changes step ≡ Some placed → PlacedMay settings placed
      at (steps.Call core task call) checked is = which (is_finish call) refl is
        where
          which : (b : Bool) → is_finish call ≡ b
              → cond b None (Some (record { task = task; call = call; clock = clocks item.anchor task; changes = item.changes })) ≡ Some placed → PlacedMay settings placed
          which true ends is = absurd (cc is)
          which false begins is =
              let same : record { task = task; call = call; clock = clocks item.anchor task; changes = item.changes } ≡ placed = cc is in
              subst (PlacedMay settings) same
              (event_waits settings (steps.Call core task call) (ap not begins) checked core task call refl)
      at step checked is = absurd (cc is)

pub first_keeping : (order : CallOrder) (session : Session) (edits : List KeptEdit) (settled : List Step) → IsSession (edited_session session edits)
    → IsKeeping (first_progress order session edits settled)
unfolding first_progress unmade_calls outside_steps
first_keeping order session edits settled is =
    let edited = edited_session session edits in
    let items = edited_items session edits in
    let clocks = anchor_clocks session settled in
    let good = start_good edited is in
    let steps_checked = recursion_from_All (IsCheckedStep (settings_of edited.header)) edited.steps is.steps in
    let all : AllByRecursion (λ (item : Item). IsCheckedStep (settings_of edited.header) item.step) items
    = each_unmap (λ (item : Item). item.step) (IsCheckedStep (settings_of edited.header)) items
    (subst (AllByRecursion (IsCheckedStep (settings_of edited.header))) (sym (steps_of_edited session edits)) steps_checked) in
    let here : AllByRecursion (λ (item : Item). IsCheckedStep (start edited.header).settings item.step) items
    = subst (λ settings. AllByRecursion (λ (item : Item). IsCheckedStep settings item.step) items) (sym (start_settings edited.header)) all in
    let settings = (start edited.header).settings in record {
      sound = good.sound;
      few = good.few;
      may = works_may settings (clocks (length session.steps)) (user_tasks session.header) (placed_calls clocks items)
          (λ task. zero_clock)
          (all_mapped (placed_item clocks) (λ (item : Item). IsCheckedStep settings item.step) (PlacedMay settings)
          (placed_may settings clocks) items here);
      good = first_good order session edits settled;
      checked = each_map (outside_item session settled) (IsCheckedOutside settings) (filter (λ (item : Item). comes_from_outside item.step) items)
          (All-filter (λ (item : Item). IsCheckedStep settings item.step) (λ (item : Item). comes_from_outside item.step) items here);
    }

-- ---- the run

checked_along : (run : List Step) (now : Progress) (left : List WaitingCall) → IsKeeping now → IsRunFrom now run left
    → All (IsCheckedStep now.table.settings) run
unfolding after
checked_along [] now left keeping is = All-nil (IsCheckedStep now.table.settings)
checked_along (step ∷ run) now left keeping is =
    let first = next_checked now step keeping is.0 in
    let rest = checked_along run (after step now) left (keeping_after step now keeping first) is.1 in
    All-cons (IsCheckedStep now.table.settings) step run first
    (subst (λ settings. All (IsCheckedStep settings) run) (settings_after now.table step keeping.sound) rest)

pub kept_run_is_session : KeptRunIsSession
unfolding first_progress
kept_run_is_session order session edits run left is kept = record {
  header = is.header;
  steps = subst (λ settings. All (IsCheckedStep settings) run) (start_settings (edited_session session edits).header)
      (checked_along run (first_progress order session edits kept.settled) left (first_keeping order session edits kept.settled is) kept.is_run);
}

pub keeping_at : (run : List Step) (place : ℕ) (now : Progress) (left : List WaitingCall) → IsKeeping now → IsRunFrom now run left
    → IsKeeping (after_steps now (take place run))
keeping_at [] zero now left keeping is = keeping
keeping_at [] (suc place) now left keeping is = keeping
keeping_at (step ∷ run) zero now left keeping is = keeping
keeping_at (step ∷ run) (suc place) now left keeping is =
    keeping_at run place (after step now) left (keeping_after step now keeping (next_checked now step keeping is.0)) is.1
