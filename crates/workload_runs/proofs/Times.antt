-- Which interrupt comes next, and how much time goes by.
use Rattle.std.proofs.Common.{◌≡◌, ◌≢◌, ℕ, zero, suc, ◌+◌, ◌-◌, ◌<◌, ◌≤◌, Bool, true, false, cond, eqb, ltb, leb, List, [], ◌∷◌, length, map, get_or, Option, Some, None, refl, sym, ap, subst, inl, inr, arith, ◌∙◌}
use Rattle.std.specs.Prelude.{◌⊎◌, option_and_then, option_map, slice_get, Contains}
use Rattle.std.specs.List.{filter_map, AllByRecursion}
use Rattle.std.proofs.lemmas.Bool.{cases_lt}
use Rattle.std.proofs.lemmas.Bool.Decides.{nat_tests}
use Rattle.std.proofs.lemmas.List.{get_or_past}
use Rattle.std.proofs.lemmas.Option.{same_Some, slice_get_cases}
use Rattle.bench_types.specs.declared.step.Step.{Step}
use Rattle.bench_types.specs.declared.step.Step.TheVariants.{Tick, Pass}
use Rattle.list_orders.proofs.Filters.{All-filter_passes, All-weaker}
use Rattle.list_orders.specs.Search.{numbers}
use Rattle.step_times.specs.Times.{time_of}
use Rattle.task_programs.specs.declared.workload.Interrupt.{Interrupt}
use Rattle.task_programs.specs.declared.workload.Workload.{Workload}
use Rattle.workload_runs.specs.Rule.{interrupt_step, is_over, least, pass_units, tick_end, time_step, waits_left, works_left}
use Rattle.workload_runs.specs.Situations.{Situation, course_at, due_interrupt, has_come, is_working, units_in}
use Rattle.workload_runs.proofs.Searches.{IsLeast, least_below, least_below_each, least_found, least_over, least_reached, none_found}

-- ---- interrupts

pub record InterruptMade (workload : Workload) (now : Situation) (step : Step) : Type 0 where
  pub index : ℕ
  pub interrupt : Interrupt
  pub due : due_interrupt now ≡ Some index
  pub stands : slice_get workload.interrupts index ≡ Some interrupt
  pub does : interrupt.what ≡ step

-- the interrupt with the index is to come by now
abbrev pub is_due : Situation → ℕ → Bool
is_due now index = has_come now.time (get_or now.arrivals index None)

-- each arrival lies ahead
abbrev pub LieAhead : Situation → Type 0
LieAhead now = (index at : ℕ) → get_or now.arrivals index None ≡ Some at → now.time < at

module _ (workload : Workload) (now : Situation) where
  pub interrupt_made : (step : Step) → interrupt_step workload now ≡ Some step → InterruptMade workload now step
  unfolding interrupt_step
  interrupt_made step made = at (due_interrupt now) refl made
    where
      there : (index : ℕ) → due_interrupt now ≡ Some index → (o : Option Interrupt) → slice_get workload.interrupts index ≡ o
          → option_map (λ (interrupt : Interrupt). interrupt.what) o ≡ Some step → InterruptMade workload now step
      there index due None stands made = absurd (cc made)
      there index due (Some interrupt) stands made =
          record { index = index; interrupt = interrupt; due = due; stands = stands; does = same_Some interrupt.what step made }

      at : (o : Option ℕ) → due_interrupt now ≡ o
          → option_and_then (λ index. option_map (λ (interrupt : Interrupt). interrupt.what) (slice_get workload.interrupts index)) o ≡ Some step
          → InterruptMade workload now step
      at None due made = absurd (cc made)
      at (Some index) due made = there index due (slice_get workload.interrupts index) refl made

  pub first_due : (index : ℕ) → due_interrupt now ≡ Some index → IsLeast (is_due now) 0 (0 + length now.arrivals) index
  unfolding due_interrupt
  first_due index due = least_found (is_due now) 0 (length now.arrivals) index due

  no_due : due_interrupt now ≡ None → (index : ℕ) → index < length now.arrivals → is_due now index ≡ false
  unfolding due_interrupt
  no_due none index inside = none_found (is_due now) 0 (length now.arrivals) none index (omega arith) (omega arith)

  -- one that is to come by now and is not past comes now
  pub due_now : (index : ℕ) → is_due now index ≡ true → ((at : ℕ) → get_or now.arrivals index None ≡ Some at → now.time ≤ at)
      → get_or now.arrivals index None ≡ Some now.time
  due_now index due later = at (get_or now.arrivals index None) refl due
    where
      at : (o : Option ℕ) → get_or now.arrivals index None ≡ o → has_come now.time o ≡ true → get_or now.arrivals index None ≡ Some now.time
      at None is due = absurd (cc due)
      at (Some time) is due =
          let low : now.time ≤ time = later time is in
          let high : time ≤ now.time = grind (arith, nat_tests, due) in
          let same : time ≡ now.time = omega arith in
          is ∙ ap Some same

  pub not_due : (index at : ℕ) → is_due now index ≡ false → get_or now.arrivals index None ≡ Some at → now.time < at
  not_due index time early is =
      let test : leb time now.time ≡ false = ap (has_come now.time) (sym is) ∙ early in grind (arith, nat_tests, test)

  -- where no interrupt comes next each lies ahead
  pub none_due : length now.arrivals ≡ length workload.interrupts → interrupt_step workload now ≡ None → LieAhead now
  unfolding interrupt_step
  none_due same none index time is = elim (cases_lt index (length now.arrivals)) [
    | inl inside ↦ at (due_interrupt now) refl none inside
    | inr past ↦ absurd (let missing : get_or now.arrivals index None ≡ None = get_or_past now.arrivals index None past in cc (missing, is))
  ]
    where
      at : (o : Option ℕ) → due_interrupt now ≡ o
          → option_and_then (λ index. option_map (λ (interrupt : Interrupt). interrupt.what) (slice_get workload.interrupts index)) o ≡ None
          → index < length now.arrivals → now.time < time
      at None due made inside = not_due index time (no_due due index inside) is
      at (Some other) due made inside = elim (slice_get_cases workload.interrupts other).1 [
        | inl found ↦
            let some : option_map (λ (interrupt : Interrupt). interrupt.what) (slice_get workload.interrupts other) ≡ Some found.0.what =
            ap (option_map (λ (interrupt : Interrupt). interrupt.what)) found.2 in
            absurd (cc (some, made))
        | inr past ↦ let below = (first_due other due).below in absurd (omega (arith, below, past.0, same))
      ]

-- ---- time

abbrev pub TimeMade : Workload → Situation → Step → Type 0
TimeMade workload now step =
    ((units_in workload ≡ 1) × (step ≡ Tick)) ⊎ ((units_in workload ≢ 1) × (step ≡ Pass (pass_units workload now)))

module _ (workload : Workload) (now : Situation) where
  pub time_made : (step : Step) → time_step workload now ≡ Some step → (now.ticks < workload.ticks) × TimeMade workload now step
  unfolding time_step
  time_made step made = at (is_over workload now) refl made
    where
      which : (b : Bool) → eqb (units_in workload) 1 ≡ b → cond b (Some Tick) (Some (Pass (pass_units workload now))) ≡ Some step
          → TimeMade workload now step
      which true is made = inl (grind (arith, nat_tests, is), sym (same_Some Tick step made))
      which false is made = inr (λ one. grind (arith, nat_tests, is, one), sym (same_Some (Pass (pass_units workload now)) step made))

      at : (b : Bool) → is_over workload now ≡ b
          → cond b None (cond (eqb (units_in workload) 1) (Some Tick) (Some (Pass (pass_units workload now)))) ≡ Some step
          → (now.ticks < workload.ticks) × TimeMade workload now step
      at true is made = absurd (cc made)
      at false is made = (grind (arith, nat_tests, is), which (eqb (units_in workload) 1) refl made)

  pub time_over : time_step workload now ≡ None → workload.ticks ≤ now.ticks
  unfolding time_step
  time_over made = at (is_over workload now) refl made
    where
      which : (b : Bool) → cond b (Some Tick) (Some (Pass (pass_units workload now))) ≡ None → workload.ticks ≤ now.ticks
      which true made = absurd (cc made)
      which false made = absurd (cc made)

      at : (b : Bool) → is_over workload now ≡ b
          → cond b None (cond (eqb (units_in workload) 1) (Some Tick) (Some (Pass (pass_units workload now)))) ≡ None → workload.ticks ≤ now.ticks
      at true is made = grind (arith, nat_tests, is)
      at false is made = which (eqb (units_in workload) 1) made

-- ---- what steps take

pub tick_takes_one : (units : ℕ) → units ≡ 1 → time_of units Tick ≡ 1
tick_takes_one units one = let is : eqb units 1 ≡ true = grind (arith, nat_tests, one) in ap (λ b. cond b 1 0) is

pub tick_takes_none : (units : ℕ) → units ≢ 1 → time_of units Tick ≡ 0
tick_takes_none units many = let is : eqb units 1 ≡ false = grind (arith, nat_tests, many) in ap (λ b. cond b 1 0) is

pub pass_takes : (units passed : ℕ) → units ≢ 1 → time_of units (Pass passed) ≡ passed
pass_takes units passed many = let is : eqb units 1 ≡ false = grind (arith, nat_tests, many) in ap (λ b. cond b 0 passed) is

-- ---- a pass

-- what holds of each wait that is left
each_wait : (P : ℕ → Type 0) (time : ℕ) (arrivals : List (Option ℕ)) → ((index at : ℕ) → get_or arrivals index None ≡ Some at → P (at - time))
    → AllByRecursion P (filter_map (λ arrival. option_map (λ at. at - time) arrival) arrivals)
each_wait P time [] all = tt
each_wait P time (None ∷ arrivals) all = each_wait P time arrivals (λ index at is. all (suc index) at is)
each_wait P time (Some at ∷ arrivals) all = (all zero at refl, each_wait P time arrivals (λ index at is. all (suc index) at is))

wait_at : (P : ℕ → Type 0) (time : ℕ) (arrivals : List (Option ℕ)) → AllByRecursion P (filter_map (λ arrival. option_map (λ at. at - time) arrival) arrivals)
    → (index at : ℕ) → get_or arrivals index None ≡ Some at → P (at - time)
wait_at P time [] all index at is = absurd (cc is)
wait_at P time (None ∷ arrivals) all zero at is = absurd (cc is)
wait_at P time (None ∷ arrivals) all (suc index) at is = wait_at P time arrivals all index at is
wait_at P time (Some other ∷ arrivals) all zero at is = subst (λ at. P (at - time)) (same_Some other at is) all.0
wait_at P time (Some other ∷ arrivals) all (suc index) at is = wait_at P time arrivals all.1 index at is

pub record PassFits (workload : Workload) (now : Situation) : Type 0 where
  pub some : 0 < pass_units workload now
  pub tick : now.time + pass_units workload now ≤ tick_end workload now
  pub works : AllByRecursion (λ left. pass_units workload now ≤ left) (works_left now)
  pub waits : AllByRecursion (λ left. pass_units workload now ≤ left) (waits_left now)
  pub arrivals : (index at : ℕ) → get_or now.arrivals index None ≡ Some at → now.time + pass_units workload now ≤ at
  pub reached : (now.time + pass_units workload now ≡ tick_end workload now)
      ⊎ (Contains (works_left now) (pass_units workload now) ⊎ Contains (waits_left now) (pass_units workload now))

pub pass_fits : (workload : Workload) (now : Situation) → now.time < tick_end workload now → LieAhead now → PassFits workload now
pass_fits workload now early ahead = record {
  some = least_over (waits_left now) inner 1 some_inner some_waits;
  tick = omega (arith, inner_most, least_below (waits_left now) inner, early);
  works = All-weaker (λ left. inner ≤ left) (λ left. pass_units workload now ≤ left)
      (λ left low. let less = least_below (waits_left now) inner in omega (arith, less, low)) (works_left now) (least_below_each (works_left now) rest);
  waits = least_below_each (waits_left now) inner;
  arrivals = λ index at is.
      let low = wait_at (λ left. pass_units workload now ≤ left) now.time now.arrivals (least_below_each (waits_left now) inner) index at is in
      let later = ahead index at is in
      omega (arith, low, later);
  reached = elim (least_reached (waits_left now) inner) [
    | inl same ↦ elim (least_reached (works_left now) rest) [
      | inl whole ↦ inl (omega (arith, same, whole, early))
      | inr work ↦ inr (inl (subst (Contains (works_left now)) (sym same) work))
    ]
    | inr wait ↦ inr (inr wait)
  ];
}
  where
    rest : ℕ
    rest = tick_end workload now - now.time

    inner : ℕ
    inner = least rest (works_left now)

    inner_most : inner ≤ rest
    inner_most = least_below (works_left now) rest

    some_works : AllByRecursion (λ left. 1 ≤ left) (works_left now)
    some_works =
        All-weaker (λ left. ltb 0 left ≡ true) (λ left. 1 ≤ left) (λ left passes. grind (arith, nat_tests, passes)) (works_left now)
        (All-filter_passes (λ left. ltb 0 left)
        (map (λ user. cond (is_working now.table (now.table.settings.cores + user)) (course_at now.courses user).left 0) (numbers (length now.courses))))

    some_inner : 1 ≤ inner
    some_inner = least_over (works_left now) rest 1 (omega (arith, early)) some_works

    some_waits : AllByRecursion (λ left. 1 ≤ left) (waits_left now)
    some_waits = each_wait (λ left. 1 ≤ left) now.time now.arrivals (λ index at is. let later = ahead index at is in omega (arith, later))
