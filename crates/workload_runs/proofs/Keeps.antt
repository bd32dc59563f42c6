-- What each step of a run finds and keeps: the time, the courses and a sound kernel. Each is checked.
use Rattle.std.proofs.Common.{◌≡◌, ◌≢◌, ℕ, zero, suc, ◌+◌, ◌*◌, ◌^◌, ◌<◌, ◌≤◌, true, false, cond, eqb, ltb, List, [], ◌∷◌, length, map, get_or, Option, Some, None, is_some, option_map, Result, Ok, Err, refl, sym, ap, subst, inl, inr, arith, ◌∙◌}
use Rattle.std.specs.Prelude.{option_and_then, slice_get}
use Rattle.std.specs.Option.{option_map_or}
use Rattle.std.proofs.lemmas.Bool.Decides.{nat_tests}
use Rattle.std.proofs.lemmas.List.{length-map}
use Rattle.std.proofs.lemmas.List.Elements.{All-map, All-from_recursion}
use Rattle.std.proofs.lemmas.Option.{cond_some}
use Rattle.std.proofs.Math.Nat.{suc-mul}
use Rattle.bench_types.specs.declared.fault.Fault.{Fault}
use Rattle.bench_types.specs.declared.fault.Fault.TheVariants.{BadArgument}
use Rattle.bench_types.specs.declared.kernel_data.Settings.{Settings}
use Rattle.bench_types.specs.declared.step.Step.{Step}
use Rattle.bench_types.specs.declared.step.Step.TheVariants.{Tick, Switch, Interrupt, QueueInterrupt, ResumeInterrupt, Pass}
use Rattle.bench_types.specs.declared.step.Step.TheVariants as steps
use Rattle.bench_types.specs.Step.{call_check, core_check, settings_of, task_check, ◌>>◌, IsCheckedStep}
use Rattle.bench_model.specs.Session.{step_of}
use Rattle.bench_model.specs.Sound.{IsSound}
use Rattle.list_orders.proofs.Filters.{All_each}
use Rattle.settled_runs.specs.Settled.{is_finish}
use Rattle.settled_runs.proofs.Rests.{piece_checked, IsGood}
use Rattle.step_laws.proofs.Along.{settings_after, start_settings}
use Rattle.step_laws.proofs.Starts.{start_sound}
use Rattle.step_laws.proofs.Steps.{after_sound}
use Rattle.step_times.specs.Times.{time_of}
use Rattle.task_programs.specs.declared.workload.Interrupt.{Interrupt as Comes}
use Rattle.task_programs.specs.declared.workload.Workload.{Workload}
use Rattle.task_programs.specs.Workloads.{is_interrupt, IsCheckedWorkload}
use Rattle.workload_runs.specs.Courses.{first_course}
use Rattle.workload_runs.specs.Laws.{BeginningsAreInTime, NextCallsAreChecked, NextIsChecked}
use Rattle.workload_runs.specs.Rule.{call_on, next_step, pass_units, tick_end, AreNext}
use Rattle.workload_runs.specs.Situations.{Situation, after, after_steps, arrivals_after, arrivals_without, before_end, course_at, due_interrupt, first_situation, next_arrival, program_at, span_of, ticks_after, units_in}
use Rattle.workload_runs.proofs.Clocks.{comes_again, ends, goes_by, no_fewer, no_more, stands_still, IsClock}
use Rattle.workload_runs.proofs.Going.{first_wake, going_after, wake_at, AreGoing, HasWake}
use Rattle.workload_runs.proofs.Origins.{origin, quiet_piece, FromTime, IsQuietPiece, Origin}
use Rattle.workload_runs.proofs.Programs.{first_call, next_call_checked, on_core, pass_both, pass_core, pass_task, CallOn}
use Rattle.workload_runs.proofs.Times.{interrupt_made, none_due, pass_fits, pass_takes, tick_takes_none, tick_takes_one, time_made, LieAhead, TimeMade}
use Rattle.workload_runs.proofs.Workloads.{cores_fit, interrupt_at, program_flawless, program_of_words, units_fit, workload_sound}

pub record Keeps (workload : Workload) (now : Situation) : Type 0 where
  pub clock : IsClock workload now.time now.ticks now.arrivals
  pub going : AreGoing (length workload.header.tasks) now.courses
  pub sound : IsSound now.table
  pub settings : now.table.settings ≡ settings_of workload.header

-- ---- the start

first_comes : (span : ℕ) (interrupts : List Comes) (index at : ℕ)
    → get_or (map (λ (interrupt : Comes). before_end span interrupt.at) interrupts) index None ≡ Some at → at < span
first_comes span [] index at is = absurd (cc is)
first_comes span (interrupt ∷ interrupts) zero at is =
    let both = cond_some (ltb interrupt.at span) interrupt.at at is in let test = both.0 in let same = both.1 in
    let low : interrupt.at < span = grind (arith, nat_tests, test) in omega (arith, low, same)
first_comes span (interrupt ∷ interrupts) (suc index) at is = first_comes span interrupts index at is

still_some : {A B : Type 0} (f : A → B) (o : Option A) → is_some o ≡ true → is_some (option_map f o) ≡ true
still_some f None some = absurd (cc some)
still_some f (Some x) some = refl

pass_checked : (units passed : ℕ) → units ≢ 1 → 0 < passed
    → cond (eqb units 1) (Err BadArgument) (cond {A = Result (Unit {0}) Fault} (eqb passed 0) (Err BadArgument) (Ok tt)) ≡ Ok tt
pass_checked units passed many some =
    let first : eqb units 1 ≡ false = grind (arith, nat_tests, many) in
    let second : eqb passed 0 ≡ false = grind (arith, nat_tests, some) in
    rw (first, second) refl

-- an interrupt that comes again does so later, and within the span
again_comes : (span time : ℕ) (o : Option Comes) (at : ℕ) → option_and_then (next_arrival span time) o ≡ Some at → (time ≤ at) × (at < span)
again_comes span time None at is = absurd (cc is)
again_comes span time (Some interrupt) at is = every interrupt.every is
  where
    every : (o : Option ℕ) → option_and_then (λ every. before_end span (time + every)) o ≡ Some at → (time ≤ at) × (at < span)
    every None is = absurd (cc is)
    every (Some units) is =
        let both = cond_some (ltb (time + units) span) (time + units) at is in
        let test = both.0 in
        let same = both.1 in
        let low : time + units < span = grind (arith, nat_tests, test) in
        (omega (arith, same), omega (arith, low, same))

-- ---- a checked workload

module _ (workload : Workload) (checked : IsCheckedWorkload workload) where
  pub first_keeps : Keeps workload (first_situation workload)
  unfolding first_situation
  first_keeps = record {
    clock = record {
      from = omega arith;
      to = omega arith;
      within = omega arith;
      few = omega arith;
      whole = λ one. refl;
      interrupts = length-map workload.interrupts (λ interrupt. before_end (span_of workload) interrupt.at);
      comes = λ index at is. (omega arith, first_comes (span_of workload) workload.interrupts index at is);
    };
    going = record {
      many = length-map workload.programs (first_course workload.header.config.tick) ∙ (workload_sound workload checked).one_each;
      wakes = All-map HasWake (first_course workload.header.config.tick) workload.programs
          (All-from_recursion (λ program. HasWake (first_course workload.header.config.tick program)) workload.programs
          (All_each (λ program. HasWake (first_course workload.header.config.tick program))
          (λ program. first_wake workload.header.config.tick program checked.header.tick) workload.programs));
    };
    sound = start_sound workload.header checked.header.passes;
    settings = start_settings workload.header;
  }

  -- ---- each next step is checked

  module _ (now : Situation) (keeps : Keeps workload now) where
    -- the call of a core's own task, which is no `finish`
    own_call : (core : ℕ) → core < now.table.settings.cores → (step : Step) (it : CallOn workload now core step)
        → IsCheckedStep (settings_of workload.header) (steps.Call core (now.table.settings.cores + it.user) it.call) × (is_finish it.call ≡ false)
    own_call core below step it =
        let settings = settings_of workload.header in
        let sized = keeps.sound.consistent.sized in
        let on = keeps.sound.consistent.in_place.is_task core (omega (arith, sized.cores, below)) in
        let task = now.table.settings.cores + it.user in
        let low : task < now.table.settings.tasks = omega (arith, on, sized.rows, it.runs) in
        let Fits : Settings → Type 0 = λ settings. (core < settings.cores) × (settings.cores ≤ task) × (task < settings.tasks) in
        let fits = subst Fits keeps.settings (below, omega arith, low) in
        let queues = still_some length workload.header.queues (workload_sound workload checked).queues in
        let both =
        next_call_checked settings (program_at workload it.user) task (course_at now.courses it.user) it.call (program_flawless workload checked it.user)
        (program_of_words workload checked it.user) fits.1 fits.2 queues (wake_at now.courses it.user keeps.going.wakes) it.next in (
          record {
            passes = pass_both (core_check settings core >> task_check settings task) (call_check settings it.call)
                (pass_both (core_check settings core) (task_check settings task) (pass_core settings core fits.0) (pass_task settings task fits.1 fits.2))
                both.0.passes;
            words = both.0.words;
          },
          both.1,
        )

    pub call_checked : (core : ℕ) → core < now.table.settings.cores → (step : Step) → call_on workload now core ≡ Some step
        → IsCheckedStep (settings_of workload.header) step
    call_checked core below step made =
        let it = on_core workload now core step made in subst (IsCheckedStep (settings_of workload.header)) (sym it.is) (own_call core below step it).0

    pub call_begins : (core : ℕ) → core < now.table.settings.cores → (step : Step) (it : CallOn workload now core step) → is_finish it.call ≡ false
    call_begins core below step it = (own_call core below step it).1

    -- where time goes by each arrival lies ahead
    pub ahead : (step : Step) → FromTime workload now step → LieAhead now
    ahead step from = none_due workload now keeps.clock.interrupts from.interrupts

    -- a pass is no longer than a tick
    pass_words : LieAhead now → now.time < tick_end workload now → pass_units workload now < 2 ^ 32
    pass_words later early =
        let fits = (pass_fits workload now early later).tick in
        let next = suc-mul now.ticks (units_in workload) in
        let units = units_fit workload checked in
        omega (arith, fits, next, units.1, keeps.clock.from)

    quiet_good : IsGood now.table []
    quiet_good = record {
      sound = keeps.sound;
      few = subst (λ (settings : Settings). settings.cores < 2 ^ 32) (sym keeps.settings) (cores_fit workload checked);
      may = tt;
    }

    from_checked : (step : Step) → Origin workload now step → IsCheckedStep (settings_of workload.header) step
    from_checked step (inl made) =
        subst (λ settings. IsCheckedStep settings step) keeps.settings (piece_checked now.table [] step quiet_good made)
    from_checked step (inr (inl it)) = subst (IsCheckedStep (settings_of workload.header)) (sym it.is) (record { passes = refl; words = tt })
    from_checked step (inr (inr (inl it))) =
        let first = first_call workload now step it.made in call_checked first.number first.below step first.is
    from_checked step (inr (inr (inr (inl it)))) =
        let comes = interrupt_made workload now step it.made in
        subst (IsCheckedStep (settings_of workload.header)) comes.does (interrupt_at workload checked comes.index comes.interrupt comes.stands).checked
    from_checked step (inr (inr (inr (inr it)))) = which (time_made workload now step it.made).1
      where
        which : TimeMade workload now step → IsCheckedStep (settings_of workload.header) step
        which (inl tick) = subst (IsCheckedStep (settings_of workload.header)) (sym tick.1) (record { passes = refl; words = tt })
        which (inr pass) =
            let later = ahead step it in
            subst (IsCheckedStep (settings_of workload.header)) (sym pass.1) (record {
              passes = pass_checked (units_in workload) (pass_units workload now) pass.0 (pass_fits workload now it.early later).some;
              words = pass_words later it.early;
            })

    pub next_checked : (step : Step) → next_step workload now ≡ Some step → IsCheckedStep (settings_of workload.header) step
    next_checked step made = from_checked step (origin workload now step made)

    -- ---- the clock

    abbrev ClockAfter : Step → Type 0
    ClockAfter step = IsClock workload (now.time + time_of (units_in workload) step) (ticks_after step now.ticks) (arrivals_after workload step now)

    some : 0 < units_in workload
    some = (units_fit workload checked).0

    still : IsClock workload (now.time + 0) now.ticks now.arrivals
    still = stands_still workload some now.time now.ticks now.arrivals keeps.clock

    -- where a tick has one unit, its units have not gone by before it
    pub not_full : units_in workload ≡ 1 → tick_end workload now ≤ now.time → ⊥
    not_full one full =
        let whole = keeps.clock.whole one in
        let units : suc now.ticks * units_in workload ≡ suc now.ticks * 1 = ap (λ units. suc now.ticks * units) one in
        omega (arith, whole, units, full)

    -- a tick that ends when its units have gone by takes no time
    full_tick_clock : tick_end workload now ≤ now.time → ClockAfter Tick
    unfolding arrivals_after
    full_tick_clock full =
        let many : units_in workload ≢ 1 = λ one. not_full one full in
        let none = tick_takes_none (units_in workload) many in
        let fewer = no_more (suc now.ticks) workload.ticks (units_in workload) some (omega (arith, full, keeps.clock.within)) in
        ends workload some now.time now.ticks now.arrivals keeps.clock (time_of (units_in workload) Tick) (omega (arith, none, full, keeps.clock.to)) fewer
        (λ one. absurd (many one)) (λ index at is. let low = (keeps.clock.comes index at is).0 in omega (arith, none, low))

    -- one that a unit of its own takes
    unit_tick_clock : units_in workload ≡ 1 → now.ticks < workload.ticks → LieAhead now → ClockAfter Tick
    unfolding arrivals_after
    unit_tick_clock one fewer later =
        let takes = tick_takes_one (units_in workload) one in
        let whole = keeps.clock.whole one in
        let units : suc now.ticks * units_in workload ≡ suc now.ticks * 1 = ap (λ units. suc now.ticks * units) one in
        ends workload some now.time now.ticks now.arrivals keeps.clock (time_of (units_in workload) Tick) (omega (arith, takes, whole, units)) (omega arith)
        (λ single. takes) (λ index at is. let low = later index at is in omega (arith, takes, low))

    -- time goes by within the tick
    pass_clock : units_in workload ≢ 1 → now.ticks < workload.ticks → now.time < tick_end workload now → LieAhead now
        → ClockAfter (Pass (pass_units workload now))
    unfolding arrivals_after
    pass_clock many fewer early later =
        let fits = pass_fits workload now early later in
        let takes = pass_takes (units_in workload) (pass_units workload now) many in
        let most = no_fewer (suc now.ticks) workload.ticks (units_in workload) (omega arith) in
        goes_by workload some now.time now.ticks now.arrivals keeps.clock (time_of (units_in workload) (Pass (pass_units workload now)))
        (omega (arith, takes, fits.tick)) (omega (arith, takes, fits.tick, most)) (λ one. absurd (many one))
        (λ index at is. let low = fits.arrivals index at is in omega (arith, takes, low))

    -- an interrupt came
    came : (index : ℕ) → due_interrupt now ≡ Some index
        → IsClock workload (now.time + 0) now.ticks (option_map_or (arrivals_without workload now) (due_interrupt now) now.arrivals)
    came index due =
        let again = option_and_then (next_arrival (span_of workload) now.time) (slice_get workload.interrupts index) in
        let Here : Option ℕ → Type 0 =
        λ due. IsClock workload (now.time + 0) now.ticks (option_map_or (arrivals_without workload now) due now.arrivals) in
        subst Here (sym due)
        (comes_again workload some now.time now.ticks now.arrivals keeps.clock index again
        (again_comes (span_of workload) now.time (slice_get workload.interrupts index)))

    interrupt_clock : (step : Step) → is_interrupt step ≡ true → (index : ℕ) → due_interrupt now ≡ Some index → ClockAfter step
    unfolding arrivals_after
    interrupt_clock Tick is index due = absurd (cc is)
    interrupt_clock (Switch core) is index due = absurd (cc is)
    interrupt_clock (Interrupt core note) is index due = came index due
    interrupt_clock (QueueInterrupt core queue direction) is index due = came index due
    interrupt_clock (ResumeInterrupt core task) is index due = came index due
    interrupt_clock (Pass units) is index due = absurd (cc is)
    interrupt_clock (steps.Call core task call) is index due = absurd (cc is)

    from_clock : (step : Step) → Origin workload now step → ClockAfter step
    unfolding arrivals_after
    from_clock step (inl made) = quiet (quiet_piece now.table step made)
      where
        quiet : IsQuietPiece now.table step → ClockAfter step
        quiet (inl it) = subst ClockAfter (sym it.is) still
        quiet (inr it) = subst ClockAfter (sym it.is) still
    from_clock step (inr (inl it)) = subst ClockAfter (sym it.is) (full_tick_clock it.full)
    from_clock step (inr (inr (inl it))) =
        let first = first_call workload now step it.made in
        let own = on_core workload now first.number step first.is in
        subst ClockAfter (sym own.is) still
    from_clock step (inr (inr (inr (inl it)))) =
        let comes = interrupt_made workload now step it.made in
        let kind = (interrupt_at workload checked comes.index comes.interrupt comes.stands).kind in
        interrupt_clock step (sym (ap is_interrupt comes.does) ∙ kind) comes.index comes.due
    from_clock step (inr (inr (inr (inr it)))) = which made.1
      where
        made : (now.ticks < workload.ticks) × TimeMade workload now step
        made = time_made workload now step it.made

        which : TimeMade workload now step → ClockAfter step
        which (inl tick) = subst ClockAfter (sym tick.1) (unit_tick_clock tick.0 made.0 (ahead step it))
        which (inr pass) = subst ClockAfter (sym pass.1) (pass_clock pass.0 made.0 it.early (ahead step it))

    -- ---- all of it is kept

    pub keeps_after : (step : Step) → next_step workload now ≡ Some step → Keeps workload (after workload step now)
    unfolding after
    keeps_after step made =
        let it = next_checked step made in
        let own = subst (λ settings. IsCheckedStep settings step) (sym keeps.settings) it in
        record {
          clock = from_clock step (origin workload now step made);
          going = going_after workload (length workload.header.tasks) now keeps.going step (step_of step now.table).0;
          sound = after_sound step now.table keeps.sound own;
          settings = settings_after now.table step keeps.sound ∙ keeps.settings;
        }

  -- ---- along steps of which each is the next one

  keeps_from : (made : List Step) (now : Situation) → Keeps workload now → AreNext workload now made → Keeps workload (after_steps workload now made)
  keeps_from [] now keeps next = keeps
  keeps_from (step ∷ made) now keeps next = keeps_from made (after workload step now) (keeps_after now keeps step next.0) next.1

  pub keeps_along : (beginning : List Step) → AreNext workload (first_situation workload) beginning
      → Keeps workload (after_steps workload (first_situation workload) beginning)
  keeps_along beginning next = keeps_from beginning (first_situation workload) first_keeps next

-- ---- the laws

pub beginnings_are_in_time : BeginningsAreInTime
beginnings_are_in_time workload beginning checked next =
    let keeps = keeps_along workload checked beginning next in
    record {
      from = keeps.clock.from;
      to = keeps.clock.to;
      few = keeps.clock.few;
      courses = keeps.going.many;
      interrupts = keeps.clock.interrupts;
      arrivals = keeps.clock.comes;
    }

pub next_is_checked : NextIsChecked
next_is_checked workload beginning step checked next made =
    next_checked workload checked (after_steps workload (first_situation workload) beginning) (keeps_along workload checked beginning next) step made

pub next_calls_are_checked : NextCallsAreChecked
next_calls_are_checked workload beginning core step checked next below made =
    call_checked workload checked (after_steps workload (first_situation workload) beginning) (keeps_along workload checked beginning next) core below step made
