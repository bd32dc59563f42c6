-- Each interrupt is to come at its first time, and then again and again, as far as that is before the end.
use Rattle.std.proofs.Common.{◌≡◌, ℕ, zero, suc, ◌+◌, ◌*◌, ◌<◌, ◌≤◌, Bool, true, false, cond, eqb, ltb, List, [], ◌∷◌, length, get_or, set, Option, Some, None, refl, sym, ap, subst, inl, inr, arith, ◌∙◌, add-one, get_or-set_same, get_or-set_other}
use Rattle.std.specs.Prelude.{◌&&◌, count_by, option_and_then, option_map, slice_get}
use Rattle.std.specs.Option.{option_map_or}
use Rattle.std.proofs.lemmas.Bool.{cases_eq}
use Rattle.std.proofs.lemmas.Bool.Decides.{nat_tests}
use Rattle.std.proofs.lemmas.List.{get_or-map}
use Rattle.std.proofs.lemmas.List.Sums.{sum_by-append}
use Rattle.std.proofs.lemmas.Option.{cond_some, same_Some, slice_get-get_or, slice_get_within}
use Rattle.std.proofs.Math.Nat.{suc-mul}
use Rattle.bench_types.specs.declared.step.Step.{Step}
use Rattle.bench_types.specs.declared.step.Step.TheVariants.{Tick}
use Rattle.list_orders.proofs.Stamped.{numbers_more}
use Rattle.list_orders.specs.Search.{numbers}
use Rattle.task_programs.specs.declared.workload.Interrupt.{Interrupt}
use Rattle.task_programs.specs.declared.workload.Workload.{Workload}
use Rattle.task_programs.specs.Workloads.{is_interrupt, IsCheckedWorkload}
use Rattle.workload_runs.specs.Laws.{EachRun}
use Rattle.workload_runs.specs.Properties.{is_its_place, time_after, times_come, InterruptsComeAgain}
use Rattle.workload_runs.specs.Rule.{IsRunOf}
use Rattle.workload_runs.specs.Situations.{Situation, after, arrivals_after, arrivals_without, before_end, due_interrupt, first_situation, next_arrival, situation_at, span_of}
use Rattle.workload_runs.proofs.Places.{behind, keeps_there}
use Rattle.workload_runs.proofs.Times.{due_now, first_due}

-- ---- one time and the next

-- one that comes again has come at `at`, and so often each `every` units
pub repeated : (at came every : ℕ) → cond (eqb came 0) (Some at) (Some (at + came * every)) ≡ Some (at + came * every)
repeated at zero every = ap Some (omega arith)
repeated at (suc came) every = let test : eqb (suc came) 0 ≡ false = grind (arith, nat_tests) in ap (λ b. cond b (Some at) (Some (at + suc came * every))) test

next_time : (end time came : ℕ) (interrupt : Interrupt) → option_and_then (before_end end) (time_after interrupt came) ≡ Some time
    → next_arrival end time interrupt ≡ option_and_then (before_end end) (time_after interrupt (came + 1))
next_time end time came interrupt comes = every interrupt.every comes
  where
    later : eqb (came + 1) 0 ≡ false
    later = grind (arith, nat_tests)

    every : (o : Option ℕ)
        → option_and_then (before_end end) (cond (eqb came 0) (Some interrupt.at) (option_map (λ every. interrupt.at + came * every) o)) ≡ Some time
        → option_and_then (λ every. before_end end (time + every)) o
        ≡ option_and_then (before_end end) (cond (eqb (came + 1) 0) (Some interrupt.at) (option_map (λ every. interrupt.at + (came + 1) * every) o))
    every None comes = sym (ap (λ b. option_and_then (before_end end) (cond b (Some interrupt.at) None)) later)
    every (Some units) comes =
        let at = interrupt.at + came * units in
        let now : before_end end at ≡ Some time = sym (ap (option_and_then (before_end end)) (repeated interrupt.at came units)) ∙ comes in
        let same : at ≡ time = (cond_some (ltb at end) at time now).1 in
        let more : (came + 1) * units ≡ came * units + units = ap (λ n. n * units) (add-one came) ∙ suc-mul came units in
        let next : time + units ≡ interrupt.at + (came + 1) * units = omega (arith, same, more) in
        ap (before_end end) next ∙ sym (ap (option_and_then (before_end end)) (repeated interrupt.at (came + 1) units))

-- ---- a run

module _ (workload : Workload) (run : List Step) (checked : IsCheckedWorkload workload) (is : IsRunOf workload run) where
  module _ (index : ℕ) (interrupt : Interrupt) (stands : slice_get workload.interrupts index ≡ Some interrupt) where
    abbrev pub after_so_many : ℕ → Option ℕ
    after_so_many came = option_and_then (before_end (span_of workload)) (time_after interrupt came)

    abbrev pub IsDue : ℕ → Type 0
    IsDue place = get_or (situation_at workload run place).arrivals index None ≡ after_so_many (times_come workload run index place)

    pub times_more : (place : ℕ)
        → times_come workload run index (place + 1) ≡ times_come workload run index place + cond (is_its_place workload run index place) 1 0
    times_more place =
        let Comes = is_its_place workload run index in
        let parts : count_by Comes (numbers (place + 1)) ≡ count_by Comes (numbers place) + count_by Comes (place ∷ []) =
        ap (count_by Comes) (numbers_more place) ∙ sum_by-append (λ place. cond (Comes place) 1 0) (numbers place) (place ∷ []) in
        parts ∙ omega arith

    pub inside : index < length workload.interrupts
    inside = slice_get_within workload.interrupts index interrupt stands

    at_first : IsDue 0
    unfolding situation_at first_situation
    at_first =
        let here : get_or workload.interrupts index interrupt ≡ interrupt =
        same_Some _ interrupt (sym (slice_get-get_or workload.interrupts index interrupt inside) ∙ stands) in
        get_or-map (λ (interrupt : Interrupt). before_end (span_of workload) interrupt.at) workload.interrupts index interrupt None inside
        ∙ ap (λ (interrupt : Interrupt). before_end (span_of workload) interrupt.at) here

    -- a step behind which the interrupt has come once more, or not
    moved : (now : Situation) (came : ℕ) (comes : Bool) (due : Option ℕ) → length now.arrivals ≡ length workload.interrupts
        → (due ≡ Some index → get_or now.arrivals index None ≡ Some now.time) → get_or now.arrivals index None ≡ after_so_many came
        → get_or (cond comes (option_map_or (arrivals_without workload now) due now.arrivals) now.arrivals) index None
        ≡ after_so_many (came + cond (comes && option_map_or (λ due. eqb due index) due false) 1 0)
    moved now came false due many arrives here = here ∙ ap after_so_many (omega arith)
    moved now came true None many arrives here = here ∙ ap after_so_many (omega arith)
    moved now came true (Some other) many arrives here = elim (cases_eq other index) [
      | inl same ↦
          let test : eqb other index ≡ true = grind (arith, nat_tests, same) in
          let again = option_and_then (next_arrival (span_of workload) now.time) (slice_get workload.interrupts other) in
          let set_there : get_or (set now.arrivals other again) index None ≡ again =
          ap (λ i. get_or (set now.arrivals other again) i None) (sym same) ∙ get_or-set_same now.arrivals other again None (omega (arith, same, many, inside)) in
          let its_own : again ≡ next_arrival (span_of workload) now.time interrupt =
          ap (option_and_then (next_arrival (span_of workload) now.time)) (ap (slice_get workload.interrupts) same ∙ stands) in
          let now_here = sym here ∙ arrives (ap Some same) in
          set_there ∙ its_own ∙ next_time (span_of workload) now.time came interrupt now_here ∙ sym (ap (λ b. after_so_many (came + cond b 1 0)) test)
      | inr apart ↦
          let test : eqb other index ≡ false = grind (arith, nat_tests, apart) in
          let again = option_and_then (next_arrival (span_of workload) now.time) (slice_get workload.interrupts other) in
          get_or-set_other now.arrivals other index again None (λ same. apart (sym same)) ∙ here
          ∙ ap after_so_many (omega arith) ∙ sym (ap (λ b. after_so_many (came + cond b 1 0)) test)
    ]

    pub due_arrives : (place : ℕ) → due_interrupt (situation_at workload run place) ≡ Some index
        → get_or (situation_at workload run place).arrivals index None ≡ Some (situation_at workload run place).time
    due_arrives place due =
        let now = situation_at workload run place in
        let clock = (keeps_there workload run is checked place).clock in
        due_now workload now index (first_due workload now index due).passes (λ at arrives. (clock.comes index at arrives).0)

    step_on : (place : ℕ) (step : Step) → slice_get run place ≡ Some step → IsDue place → IsDue (place + 1)
    unfolding after arrivals_after
    step_on place step there here =
        let now = situation_at workload run place in
        let clock = (keeps_there workload run is checked place).clock in
        let came = times_come workload run index place in
        let own : is_its_place workload run index place ≡ (is_interrupt step && option_map_or (λ due. eqb due index) (due_interrupt now) false) =
        ap (λ found. option_map_or is_interrupt found false && option_map_or (λ due. eqb due index) (due_interrupt now) false) there in
        ap (λ (now : Situation). get_or now.arrivals index None) (behind workload run is place step there)
        ∙ moved now came (is_interrupt step) (due_interrupt now) clock.interrupts (due_arrives place) here
        ∙ sym (ap after_so_many (times_more place ∙ ap (λ b. came + cond b 1 0) own))

    pub all_due : (place : ℕ) → place ≤ length run → IsDue place
    all_due zero within = at_first
    all_due (suc place) within =
        let there = slice_get-get_or run place Tick (omega (arith, within)) in
        subst IsDue (add-one place) (step_on place (get_or run place Tick) there (all_due place (omega (arith, within))))

pub interrupts_come_again : EachRun InterruptsComeAgain
interrupts_come_again workload run checked is place index interrupt within stands = all_due workload run checked is index interrupt stands place within
