-- What is kept of the time, the ticks and the arrivals of interrupts.
use Rattle.std.proofs.Common.{◌≡◌, ℕ, suc, ◌+◌, ◌*◌, ◌<◌, ◌≤◌, List, length, get_or, set, Option, Some, None, refl, sym, ap, inl, inr, arith, ◌∙◌, get_or-set_same, get_or-set_other, length-set}
use Rattle.std.proofs.lemmas.Bool.{cases_eq, cases_lt}
use Rattle.std.proofs.lemmas.List.{get_or_past}
use Rattle.std.proofs.Math.Nat.{mul-le-mul_right, suc-mul}
use Rattle.task_programs.specs.declared.workload.Workload.{Workload}
use Rattle.workload_runs.specs.Situations.{span_of, units_in}

-- where a tick has some units: the time is within its tick and within the span, and no arrival is past
pub record IsClock (workload : Workload) (time ticks : ℕ) (arrivals : List (Option ℕ)) : Type 0 where
  pub from : ticks * units_in workload ≤ time
  pub to : time ≤ suc ticks * units_in workload
  pub within : time ≤ span_of workload
  pub few : ticks ≤ workload.ticks
  pub whole : units_in workload ≡ 1 → time ≡ ticks
  pub interrupts : length arrivals ≡ length workload.interrupts
  pub comes : (index at : ℕ) → get_or arrivals index None ≡ Some at → (time ≤ at) × (at < span_of workload)

-- no arrival comes before that time
abbrev pub ComeFrom : List (Option ℕ) → ℕ → Type 0
ComeFrom arrivals time = (index at : ℕ) → get_or arrivals index None ≡ Some at → time ≤ at

-- so many ticks have no more units than others that are no fewer
pub no_fewer : (few many units : ℕ) → few ≤ many → few * units ≤ many * units
no_fewer few many units less = mul-le-mul_right units less

-- and where a tick has some, ticks with no more units are no more
pub no_more : (few many units : ℕ) → 0 < units → few * units ≤ many * units → few ≤ many
no_more few many units some less = elim (cases_lt many few) [
  | inl more ↦
      let longer : suc many * units ≤ few * units = no_fewer (suc many) few units (omega arith) in
      let next = suc-mul many units in
      absurd (omega (arith, longer, next, less, some))
  | inr fine ↦ fine
]

module _ (workload : Workload) (some : 0 < units_in workload) (time ticks : ℕ) (arrivals : List (Option ℕ)) (clock : IsClock workload time ticks arrivals)
  where
    -- time goes by within the tick
    pub goes_by : (units : ℕ) → time + units ≤ suc ticks * units_in workload → time + units ≤ span_of workload → (units_in workload ≡ 1 → units ≡ 0)
        → ComeFrom arrivals (time + units) → IsClock workload (time + units) ticks arrivals
    goes_by units to within none later = record {
      from = omega (arith, clock.from);
      to = to;
      within = within;
      few = clock.few;
      whole = λ one. omega (arith, clock.whole one, none one);
      interrupts = clock.interrupts;
      comes = λ index at is. (later index at is, (clock.comes index at is).1);
    }

    -- nothing does
    pub stands_still : IsClock workload (time + 0) ticks arrivals
    stands_still =
        goes_by 0 (omega (arith, clock.to)) (omega (arith, clock.within)) (λ one. refl)
        (λ index at is. let low = (clock.comes index at is).0 in omega (arith, low))

    -- the tick ends
    pub ends : (units : ℕ) → time + units ≡ suc ticks * units_in workload → suc ticks ≤ workload.ticks → (units_in workload ≡ 1 → units ≡ 1)
        → ComeFrom arrivals (time + units) → IsClock workload (time + units) (suc ticks) arrivals
    ends units full fewer one later =
        let next = suc-mul (suc ticks) (units_in workload) in
        let most : suc ticks * units_in workload ≤ span_of workload = no_fewer (suc ticks) workload.ticks (units_in workload) fewer in
        record {
          from = omega (arith, full);
          to = omega (arith, full, next);
          within = omega (arith, full, most);
          few = fewer;
          whole = λ single. omega (arith, clock.whole single, one single);
          interrupts = clock.interrupts;
          comes = λ index at is. (later index at is, (clock.comes index at is).1);
        }

    -- an interrupt came, and comes again or not
    pub comes_again : (index : ℕ) (again : Option ℕ) → ((at : ℕ) → again ≡ Some at → (time ≤ at) × (at < span_of workload))
        → IsClock workload (time + 0) ticks (set arrivals index again)
    comes_again index again later = record {
      from = omega (arith, clock.from);
      to = omega (arith, clock.to);
      within = omega (arith, clock.within);
      few = clock.few;
      whole = λ one. omega (arith, clock.whole one);
      interrupts = length-set arrivals index again ∙ clock.interrupts;
      comes = λ other at is. let both = known other at is in (omega (arith, both.0), both.1);
    }
      where
        known : (other at : ℕ) → get_or (set arrivals index again) other None ≡ Some at → (time ≤ at) × (at < span_of workload)
        known other at is = elim (cases_eq other index) [
          | inl same ↦ elim (cases_lt index (length arrivals)) [
            | inl inside ↦
                let here : get_or (set arrivals index again) index None ≡ again = get_or-set_same arrivals index again None inside in
                later at (sym here ∙ ap (λ i. get_or (set arrivals index again) i None) (sym same) ∙ is)
            | inr past ↦
                let none : get_or (set arrivals index again) other None ≡ None =
                get_or_past (set arrivals index again) other None (omega (arith, length-set arrivals index again)) in
                absurd (cc (none, is))
          ]
          | inr apart ↦ clock.comes other at (sym (get_or-set_other arrivals index other again None apart) ∙ is)
        ]
