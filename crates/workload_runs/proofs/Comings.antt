-- Each interrupt comes at its times before the end, and at no others.
use Rattle.std.proofs.Common.{◌≡◌, ℕ, zero, suc, ◌+◌, ◌*◌, ◌<◌, ◌≤◌, Bool, true, false, cond, eqb, ltb, List, length, get_or, Option, Some, None, refl, sym, ap, subst, inl, inr, arith, ◌∙◌, add-one}
use Rattle.std.specs.Prelude.{◌&&◌, option_and_then, option_map, slice_get}
use Rattle.std.specs.Option.{option_map_or}
use Rattle.std.proofs.lemmas.Bool.{cases_lt}
use Rattle.std.proofs.lemmas.Bool.Decides.{nat_tests}
use Rattle.std.proofs.lemmas.Option.{cond_some, same_Some}
use Rattle.bench_types.specs.declared.step.Step.{Step}
use Rattle.task_programs.specs.declared.workload.Interrupt.{Interrupt}
use Rattle.task_programs.specs.declared.workload.Workload.{Workload}
use Rattle.task_programs.specs.Workloads.{is_interrupt, IsCheckedWorkload}
use Rattle.workload_runs.specs.Laws.{EachRun}
use Rattle.workload_runs.specs.Properties.{is_its_place, time_after, times_come, ComesAt, InterruptsComeAtTheirTimes, InterruptsComeInTime}
use Rattle.workload_runs.specs.Rule.{IsRunOf}
use Rattle.workload_runs.specs.Situations.{before_end, due_interrupt, situation_at, span_of}
use Rattle.workload_runs.proofs.Arrivals.{after_so_many, all_due, due_arrives, inside, interrupts_come_again, repeated, times_more}
use Rattle.workload_runs.proofs.Clocks.{no_fewer}
use Rattle.workload_runs.proofs.Places.{keeps_there}
use Rattle.workload_runs.proofs.TimeLaws.{interrupts_are_on_time, no_interrupt_is_missed, run_ends_behind_its_last_tick}

-- ---- times

-- a time that is before an end
is_before : (end : ℕ) (o : Option ℕ) (time : ℕ) → option_and_then (before_end end) o ≡ Some time → (o ≡ Some time) × (time < end)
is_before end None time is = absurd (cc is)
is_before end (Some at) time is =
    let both = cond_some (ltb at end) at time is in
    let test = both.0 in
    let same : at ≡ time = both.1 in
    let low : at < end = grind (arith, nat_tests, test) in
    (ap Some same, omega (arith, low, same))

before_is : (end time : ℕ) → time < end → before_end end time ≡ Some time
before_is end time low = let test : ltb time end ≡ true = grind (arith, nat_tests, low) in ap (λ b. cond b (Some time) None) test

-- the time of an interrupt that has come so often
abbrev after_first : ℕ → Option ℕ → ℕ → Option ℕ
after_first at every came = cond (eqb came 0) (Some at) (option_map (λ every. at + came * every) every)

only_once : (at n time : ℕ) → after_first at None n ≡ Some time → (n ≡ 0) × (at ≡ time)
only_once at zero time is = (refl, same_Some at time is)
only_once at (suc n) time is =
    let test : eqb (suc n) 0 ≡ false = grind (arith, nat_tests) in
    absurd (let none : None ≡ Some time = sym (ap (λ b. cond b (Some at) None) test) ∙ is in cc none)

-- an interrupt that comes so often came as often before, and no later
earlier_of : (at : ℕ) (every : Option ℕ) (few many time : ℕ) → few ≤ many → after_first at every many ≡ Some time
    → (t : ℕ) × (after_first at every few ≡ Some t) × (t ≤ time)
earlier_of at None few many time less is =
    let only = only_once at many time is in
    let same : many ≡ 0 = only.0 in
    let none : few ≡ 0 = omega (arith, less, same) in
    let own : at ≡ time = only.1 in
    (at, ap (after_first at None) none, omega (arith, own))
earlier_of at (Some units) few many time less is =
    let last : at + many * units ≡ time = same_Some (at + many * units) time (sym (repeated at many units) ∙ is) in
    let fewer : few * units ≤ many * units = no_fewer few many units less in
    (at + few * units, repeated at few units, omega (arith, last, fewer))

earlier : (interrupt : Interrupt) (few many time : ℕ) → few ≤ many → time_after interrupt many ≡ Some time
    → (t : ℕ) × (time_after interrupt few ≡ Some t) × (t ≤ time)
earlier interrupt few many time less comes = earlier_of interrupt.at interrupt.every few many time less comes

-- ---- a place where it comes

second : (a b : Bool) → (a && b) ≡ true → b ≡ true
second true b is = is
second false b is = absurd (cc is)

own_due : (index : ℕ) (due : Option ℕ) → option_map_or (λ due. eqb due index) due false ≡ true → due ≡ Some index
own_due index None is = absurd (cc is)
own_due index (Some other) is = let same : other ≡ index = grind (arith, nat_tests, is) in ap Some same

module _ (workload : Workload) (run : List Step) (checked : IsCheckedWorkload workload) (is : IsRunOf workload run) where
  module _ (index : ℕ) (interrupt : Interrupt) (stands : slice_get workload.interrupts index ≡ Some interrupt) where
    -- there it comes at a time of its own, before the end
    own_time : (place : ℕ) → place ≤ length run → is_its_place workload run index place ≡ true
        → (time_after interrupt (times_come workload run index place) ≡ Some (situation_at workload run place).time)
        × ((situation_at workload run place).time < span_of workload)
    own_time place within comes =
        let now = situation_at workload run place in
        let due = own_due index (due_interrupt now)
        (second (option_map_or is_interrupt (slice_get run place) false) (option_map_or (λ due. eqb due index) (due_interrupt now) false) comes) in
        let came = times_come workload run index place in
        is_before (span_of workload) (time_after interrupt came) now.time
        (sym (all_due workload run checked is index interrupt stands place within)
        ∙ due_arrives workload run checked is index interrupt stands place due)

    forth : (time : ℕ) → ComesAt workload run index time → (time < span_of workload) × ((came : ℕ) × (time_after interrupt came ≡ Some time))
    forth time there =
        let own = own_time there.place (let low = there.within in omega (arith, low)) there.comes in
        (subst (λ time. time < span_of workload) there.on_time own.1, (times_come workload run index there.place, own.0 ∙ ap Some there.on_time))

    -- at some place before those it came so often, and comes once more
    abbrev CameOnce : ℕ → ℕ → Type 0
    CameOnce places often =
        (place : ℕ) × (place < places) × (times_come workload run index place ≡ often) × (is_its_place workload run index place ≡ true)

    came_once : (places often : ℕ) → often < times_come workload run index places → CameOnce places often
    came_once zero often more = absurd (omega (arith, more))
    came_once (suc places) often more = at (came_once places often) (is_its_place workload run index places) refl
      where
        next : times_come workload run index (suc places)
            ≡ times_come workload run index places + cond (is_its_place workload run index places) 1 0
        next = sym (ap (times_come workload run index) (add-one places)) ∙ times_more workload run checked is index interrupt stands places

        later : CameOnce places often → CameOnce (suc places) often
        later found = (found.0, let low = found.1 in omega (arith, low), found.2, found.3)

        at : (often < times_come workload run index places → CameOnce places often) → (b : Bool) → is_its_place workload run index places ≡ b
            → CameOnce (suc places) often
        at before false apart =
            let same : times_come workload run index (suc places) ≡ times_come workload run index places + 0 =
            next ∙ ap (λ b. times_come workload run index places + cond b 1 0) apart in
            later (before (omega (arith, more, same)))
        at before true here =
            let same : times_come workload run index (suc places) ≡ times_come workload run index places + 1 =
            next ∙ ap (λ b. times_come workload run index places + cond b 1 0) here in
            elim (cases_lt often (times_come workload run index places)) [
              | inl low ↦ later (before low)
              | inr high ↦ (places, omega arith, omega (arith, high, more, same), here)
            ]

    -- at the end it comes no more
    over : (time : ℕ) → time < span_of workload → time_after interrupt (times_come workload run index (length run)) ≡ Some time → ⊥
    over time low comes =
        let clock = (keeps_there workload run is checked (length run)).clock in
        let within = inside workload run checked is index interrupt stands in
        let none = (run_ends_behind_its_last_tick workload run checked is).arrivals index None (omega (arith, clock.interrupts, within)) in
        let due = all_due workload run checked is index interrupt stands (length run) (omega arith) in
        let some : get_or (situation_at workload run (length run)).arrivals index None ≡ Some time =
        due ∙ ap (option_and_then (before_end (span_of workload))) comes ∙ before_is (span_of workload) time low in
        cc (none, some)

    back : (time : ℕ) → (time < span_of workload) × ((came : ℕ) × (time_after interrupt came ≡ Some time)) → ComesAt workload run index time
    back time its = elim (cases_lt its.1.0 (times_come workload run index (length run))) [
      | inl more ↦
          let found = came_once (length run) its.1.0 more in
          let own = own_time found.0 (let low = found.1 in omega (arith, low)) found.3 in
          let same : Some (situation_at workload run found.0).time ≡ Some time = sym own.0 ∙ ap (time_after interrupt) found.2 ∙ its.1.1 in
          record { place = found.0; within = found.1; comes = found.3; on_time = same_Some (situation_at workload run found.0).time time same }
      | inr few ↦
          let before = earlier interrupt (times_come workload run index (length run)) its.1.0 time few its.1.1 in
          let low = its.0 in
          let no_later = before.2 in
          absurd (over before.0 (omega (arith, low, no_later)) before.1)
    ]

pub interrupts_come_at_their_times : EachRun InterruptsComeAtTheirTimes
interrupts_come_at_their_times workload run checked is index time interrupt stands =
    (forth workload run checked is index interrupt stands time, back workload run checked is index interrupt stands time)

pub interrupts_come_in_time : EachRun InterruptsComeInTime
interrupts_come_in_time workload run checked is = record {
  on_time = interrupts_are_on_time workload run checked is;
  none_missed = no_interrupt_is_missed workload run checked is;
  again = interrupts_come_again workload run checked is;
  at_their_times = interrupts_come_at_their_times workload run checked is;
}
