-- Ticks, passes and interrupts of a run come at their times, and the run ends behind its last tick.
use Rattle.std.proofs.Common.{◌≡◌, ℕ, zero, suc, ◌+◌, ◌*◌, ◌≤◌, true, List, [], ◌∷◌, length, get_or, Option, Some, None, refl, sym, ap, subst, inl, inr, arith, ◌∙◌}
use Rattle.std.specs.Prelude.{◌⊎◌, slice_get, All, Contains}
use Rattle.std.specs.List.{AllByRecursion}
use Rattle.std.proofs.lemmas.Bool.{cases_eq}
use Rattle.std.proofs.lemmas.List.Elements.{All-from_recursion}
use Rattle.std.proofs.lemmas.Option.{slice_get_within}
use Rattle.bench_types.specs.declared.step.Step.{Step}
use Rattle.bench_types.specs.declared.step.Step.TheVariants.{Tick, Pass}
use Rattle.bench_model.specs.Refusals.{refusal}
use Rattle.bench_model.specs.Session.{step_of}
use Rattle.bench_model.specs.Steps.{performed, after as kernel_after}
use Rattle.bench_model.specs.Table.{Table}
use Rattle.settled_runs.specs.Settled.{quiet_step}
use Rattle.step_times.specs.Times.{time_of}
use Rattle.task_programs.specs.declared.workload.Workload.{Workload}
use Rattle.task_programs.specs.Workloads.{is_interrupt, IsCheckedWorkload}
use Rattle.workload_runs.specs.Laws.{EachRun}
use Rattle.workload_runs.specs.Properties.{FullTicksEnd, InterruptsAreOnTime, NoInterruptIsMissed, PassesEndWhereSomethingDoes, RunEndsBehindItsLastTick, TicksAreOnTime, TimeGoesByTicks}
use Rattle.workload_runs.specs.Rule.{pass_units, tick_end, waits_left, works_left}
use Rattle.workload_runs.specs.Situations.{Situation, after, arrivals_after, situation_at, span_of, units_in}
use Rattle.workload_runs.proofs.CallLaws.{interrupt_kind}
use Rattle.workload_runs.proofs.Clocks.{IsClock}
use Rattle.workload_runs.proofs.Keeps.{ahead, keeps_after, Keeps}
use Rattle.workload_runs.proofs.Origins.{quiet_piece, tick_next, FromInterrupt, FromTime, IsQuietPiece, Origin}
use Rattle.workload_runs.proofs.Places.{behind, keeps_there, next_there, none_there, origin_there}
use Rattle.workload_runs.proofs.Programs.{first_call, no_call, on_core}
use Rattle.workload_runs.proofs.Runs.{steps_are_next}
use Rattle.workload_runs.proofs.Times.{due_now, first_due, interrupt_made, none_due, not_due, pass_fits, tick_takes_none, tick_takes_one, time_made, time_over, TimeMade}

-- ---- ticks

pub ticks_are_on_time : EachRun TicksAreOnTime
unfolding after arrivals_after
ticks_are_on_time workload run checked is place inside = (clock.from, clock.to, ends)
  where
    now : Situation
    now = situation_at workload run place

    keeps : Keeps workload now
    keeps = keeps_there workload run is checked place

    clock : IsClock workload now.time now.ticks now.arrivals
    clock = keeps.clock

    ends : slice_get run place ≡ Some Tick → (situation_at workload run (place + 1)).time ≡ tick_end workload now
    ends stands =
        let later = keeps_after workload checked now keeps Tick (next_there workload run is place Tick stands) in
        let from : suc now.ticks * units_in workload ≤ now.time + time_of (units_in workload) Tick = later.clock.from in
        let same = behind workload run is place Tick stands in
        ap (λ (now : Situation). now.time) same ∙ (elim (cases_eq (units_in workload) 1) [
          | inl one ↦
              let takes = tick_takes_one (units_in workload) one in
              let whole = clock.whole one in
              let units : suc now.ticks * units_in workload ≡ suc now.ticks * 1 = ap (λ units. suc now.ticks * units) one in
              omega (arith, takes, whole, units)
          | inr many ↦ let takes = tick_takes_none (units_in workload) many in omega (arith, takes, from, clock.to)
        ])

-- ---- passes

-- a pass comes where there is no quiet work
pass_quiet : (workload : Workload) (now : Situation) (units : ℕ) → Origin workload now (Pass units) → quiet_step now.table [] ≡ None
pass_quiet workload now units (inl made) = quiet (quiet_piece now.table (Pass units) made)
  where
    quiet : IsQuietPiece now.table (Pass units) → quiet_step now.table [] ≡ None
    quiet (inl it) = absurd (let is = it.is in cc is)
    quiet (inr it) = absurd (let is = it.is in cc is)
pass_quiet workload now units (inr (inl it)) = it.quiet
pass_quiet workload now units (inr (inr (inl it))) = it.quiet
pass_quiet workload now units (inr (inr (inr (inl it)))) = it.quiet
pass_quiet workload now units (inr (inr (inr (inr it)))) = it.quiet

-- and leaves the kernel as it is
pass_leaves : (table : Table) (units : ℕ) → (step_of (Pass units) table).1 ≡ table
unfolding kernel_after refusal performed
pass_leaves table units = refl

after_table : (workload : Workload) (now : Situation) (units : ℕ) → (after workload (Pass units) now).table ≡ now.table
unfolding after
after_table workload now units = pass_leaves now.table units

pub full_ticks_end : EachRun FullTicksEnd
full_ticks_end workload run checked is place units stands full =
    let now = situation_at workload run place in
    let later = situation_at workload run (place + 1) in
    let same : later.table ≡ now.table = ap (λ (now : Situation). now.table) (behind workload run is place (Pass units) stands) ∙ after_table workload now units
    in
    let quiet = ap (λ table. quiet_step table []) same ∙ pass_quiet workload now units (origin_there workload run is place (Pass units) stands) in
    let inside = slice_get_within run place (Pass units) stands in
    steps_are_next workload run (place + 1) is (omega (arith, inside)) ∙ tick_next workload later quiet (omega (arith, full))

-- a pass is one of the time that goes by
pass_time : (workload : Workload) → IsCheckedWorkload workload → (now : Situation) (units : ℕ) → Origin workload now (Pass units)
    → FromTime workload now (Pass units)
pass_time workload checked now units (inl made) = quiet (quiet_piece now.table (Pass units) made)
  where
    quiet : IsQuietPiece now.table (Pass units) → FromTime workload now (Pass units)
    quiet (inl it) = absurd (let is = it.is in cc is)
    quiet (inr it) = absurd (let is = it.is in cc is)
pass_time workload checked now units (inr (inl it)) = absurd (let is = it.is in cc is)
pass_time workload checked now units (inr (inr (inl it))) =
    let first = first_call workload now (Pass units) it.made in absurd (let is = (on_core workload now first.number (Pass units) first.is).is in cc is)
pass_time workload checked now units (inr (inr (inr (inl it)))) = absurd (let kind = interrupt_kind workload checked now (Pass units) it.made in cc kind)
pass_time workload checked now units (inr (inr (inr (inr it)))) = it

pass_is : (workload : Workload) (now : Situation) (units : ℕ) → TimeMade workload now (Pass units) → units ≡ pass_units workload now
pass_is workload now units (inl tick) = absurd (let is = tick.1 in cc is)
pass_is workload now units (inr pass) = let is = pass.1 in cc is

pub passes_end_where_something_does : EachRun PassesEndWhereSomethingDoes
passes_end_where_something_does workload run checked is place units stands =
    let now = situation_at workload run place in
    let keeps = keeps_there workload run is checked place in
    let from = pass_time workload checked now units (origin_there workload run is place (Pass units) stands) in
    let later = ahead workload checked now keeps (Pass units) from in
    let fits = pass_fits workload now from.early later in
    let same = pass_is workload now units (time_made workload now (Pass units) from.made).1 in
    let Here : ℕ → Type 0 = λ units.
    (now.time + units ≤ tick_end workload now) × All (λ left. units ≤ left) (works_left now) × All (λ left. units ≤ left) (waits_left now)
    × ((now.time + units ≡ tick_end workload now) ⊎ (Contains (works_left now) units ⊎ Contains (waits_left now) units)) in
    let most = pass_units workload now in
    subst Here (sym same) (
      fits.tick,
      All-from_recursion (λ left. most ≤ left) (works_left now) fits.works,
      All-from_recursion (λ left. most ≤ left) (waits_left now) fits.waits,
      fits.reached,
    )

pub time_goes_by_ticks : EachRun TimeGoesByTicks
time_goes_by_ticks workload run checked is = record {
  on_time = ticks_are_on_time workload run checked is;
  full_ticks_end = full_ticks_end workload run checked is;
  passes_end = passes_end_where_something_does workload run checked is;
}

-- ---- interrupts

interrupt_origin : (workload : Workload) (now : Situation) (step : Step) → is_interrupt step ≡ true → Origin workload now step
    → FromInterrupt workload now step
interrupt_origin workload now step is (inl made) = quiet (quiet_piece now.table step made)
  where
    quiet : IsQuietPiece now.table step → FromInterrupt workload now step
    quiet (inl it) = absurd (let none = sym (ap is_interrupt it.is) ∙ is in cc none)
    quiet (inr it) = absurd (let none = sym (ap is_interrupt it.is) ∙ is in cc none)
interrupt_origin workload now step is (inr (inl it)) = absurd (let none = sym (ap is_interrupt it.is) ∙ is in cc none)
interrupt_origin workload now step is (inr (inr (inl it))) =
    let first = first_call workload now step it.made in
    let own = on_core workload now first.number step first.is in
    absurd (let none = sym (ap is_interrupt own.is) ∙ is in cc none)
interrupt_origin workload now step is (inr (inr (inr (inl it)))) = it
interrupt_origin workload now step is (inr (inr (inr (inr it)))) = which (time_made workload now step it.made).1
  where
    which : TimeMade workload now step → FromInterrupt workload now step
    which (inl tick) = absurd (let none = sym (ap is_interrupt tick.1) ∙ is in cc none)
    which (inr pass) = absurd (let none = sym (ap is_interrupt pass.1) ∙ is in cc none)

pub interrupts_are_on_time : EachRun InterruptsAreOnTime
interrupts_are_on_time workload run checked is place step stands kind =
    let now = situation_at workload run place in
    let clock = (keeps_there workload run is checked place).clock in
    let from = interrupt_origin workload now step kind (origin_there workload run is place step stands) in
    let comes = interrupt_made workload now step from.made in
    let due = first_due workload now comes.index comes.due in record {
      index = comes.index;
      interrupt = comes.interrupt;
      stands = comes.stands;
      does = comes.does;
      arrives = due_now workload now comes.index due.passes (λ at arrives. (clock.comes comes.index at arrives).0);
      first = λ less low arrives.
          let later = not_due workload now less now.time (due.least less (omega arith) low) arrives in absurd (omega (arith, later));
    }

pub no_interrupt_is_missed : EachRun NoInterruptIsMissed
no_interrupt_is_missed workload run checked is place index time inside arrives = (keeps_there workload run is checked place).clock.comes index time arrives

-- ---- the end

none_left : (arrivals : List (Option ℕ)) → ((index at : ℕ) → get_or arrivals index None ≡ Some at → ⊥) → AllByRecursion (λ arrival. arrival ≡ None) arrivals
none_left [] none = tt
none_left (None ∷ arrivals) none = (refl, none_left arrivals (λ index at is. none (suc index) at is))
none_left (Some at ∷ arrivals) none = absurd (none zero at refl)

pub run_ends_behind_its_last_tick : EachRun RunEndsBehindItsLastTick
run_ends_behind_its_last_tick workload run checked is =
    let now = situation_at workload run (length run) in
    let clock = (keeps_there workload run is checked (length run)).clock in
    let end = none_there workload run is in
    let over = time_over workload now end.over in
    let last : now.ticks ≡ workload.ticks = omega (arith, over, clock.few) in
    let later = none_due workload now clock.interrupts end.interrupts in
    let whole : now.ticks * units_in workload ≡ span_of workload = ap (λ ticks. ticks * units_in workload) last in record {
      ticks = last;
      arrivals = All-from_recursion (λ arrival. arrival ≡ None) now.arrivals
          (none_left now.arrivals
          (λ index at arrives.
          let low = later index at arrives in
          let high = (clock.comes index at arrives).1 in
          omega (arith, low, high, whole, clock.from)));
      calls = no_call workload now end.calls;
      quiet = end.quiet;
    }
