-- The arithmetic of clocks.
use Rattle.std.proofs.Common.{◌≡◌, ℕ, suc, ◌+◌, ◌-◌, ◌<◌, ◌≤◌, Bool, true, false, cond, eqb, ltb, ◌&&◌, ◌||◌, refl, sym, ap, subst, ◌∙◌, inl, inr, arith}
use Rattle.std.specs.Prelude.{◌⊎◌}
use Rattle.std.proofs.lemmas.Bool.Decides.{nat_tests}
use Rattle.kept_runs.specs.declared.clocks.Clock.{Clock}
use Rattle.kept_runs.specs.Clocks.{clock_after, elapsed, is_before, later_clock, zero_clock}

-- ---- order

-- the first clock says no more than the second
abbrev pub IsUpTo : Clock → Clock → Type 0
IsUpTo one other = (one.units < other.units) ⊎ ((one.units ≡ other.units) × (one.later ≤ other.later))

pub up_to_itself : (clock : Clock) → IsUpTo clock clock
up_to_itself clock = inr (refl, omega arith)

pub up_to_third : (one other third : Clock) → IsUpTo one other → IsUpTo other third → IsUpTo one third
up_to_third one other third (inl first) (inl second) = inl (omega (arith, first, second))
up_to_third one other third (inl first) (inr second) = inl (let same = second.0 in omega (arith, first, same))
up_to_third one other third (inr first) (inl second) = inl (let same = first.0 in omega (arith, same, second))
up_to_third one other third (inr first) (inr second) =
    inr (first.0 ∙ second.0, let less = first.1 in let more = second.1 in omega (arith, less, more))

pub not_before : (one other : Clock) → IsUpTo one other → is_before other one ≡ false
unfolding is_before
not_before one other (inl less) = grind (arith, nat_tests, less)
not_before one other (inr same) = let units = same.0 in let later = same.1 in grind (arith, nat_tests, units, later)

-- ---- time that goes by

later_as : (one other : Clock) → one.units ≡ other.units → one.later ≡ other.later → one ≡ other
later_as one other units later = λ i. record { units = units i; later = later i }

pub some_later : (time : ℕ) (clock : Clock) → IsUpTo clock (clock_after time clock)
some_later time clock = at (eqb time 0) refl
  where
    at : (b : Bool) → eqb time 0 ≡ b → IsUpTo clock (cond b (record clock { later = suc clock.later }) (record { units = clock.units + time; later = 0 }))
    at true none = inr (refl, omega arith)
    at false some = inl (grind (arith, nat_tests, some))

elapsed_less : (from to : Clock) → from.units < to.units → elapsed from to ≡ record { units = to.units - from.units; later = to.later }
unfolding elapsed
elapsed_less from to less =
    let test : ltb from.units to.units ≡ true = grind (arith, nat_tests, less) in
    ap
    (λ b. cond b (record { units = to.units - from.units; later = to.later })
    (cond (eqb from.units to.units) (record { units = 0; later = to.later - from.later }) zero_clock)) test

elapsed_same : (from to : Clock) → from.units ≡ to.units → elapsed from to ≡ record { units = 0; later = to.later - from.later }
unfolding elapsed
elapsed_same from to same =
    let test : ltb from.units to.units ≡ false = grind (arith, nat_tests, same) in
    let alike : eqb from.units to.units ≡ true = grind (arith, nat_tests, same) in
    ap
    (λ b. cond b (record { units = to.units - from.units; later = to.later })
    (cond (eqb from.units to.units) (record { units = 0; later = to.later - from.later }) zero_clock)) test
    ∙ ap (λ b. cond b (record { units = 0; later = to.later - from.later }) zero_clock) alike

after_none : (time : ℕ) (clock : Clock) → eqb time 0 ≡ true → clock_after time clock ≡ record { units = clock.units; later = suc clock.later }
after_none time clock none =
    ap (λ b. cond b (record clock { later = suc clock.later }) (record { units = clock.units + time; later = 0 })) none

after_some : (time : ℕ) (clock : Clock) → eqb time 0 ≡ false → clock_after time clock ≡ record { units = clock.units + time; later = 0 }
after_some time clock some =
    ap (λ b. cond b (record clock { later = suc clock.later }) (record { units = clock.units + time; later = 0 })) some

-- what elapses goes on as the clock does
pub elapsed_then : (last now : Clock) (time : ℕ) → IsUpTo last now → elapsed last (clock_after time now) ≡ clock_after time (elapsed last now)
elapsed_then last now time within = at (eqb time 0) refl within
  where
    at : (b : Bool) → eqb time 0 ≡ b → IsUpTo last now → elapsed last (clock_after time now) ≡ clock_after time (elapsed last now)
    at true none (inl less) =
        ap (elapsed last) (after_none time now none) ∙ elapsed_less last (record { units = now.units; later = suc now.later }) less
        ∙ sym (ap (clock_after time) (elapsed_less last now less) ∙ after_none time _ none)
    at true none (inr same) =
        let more = same.1 in
        ap (elapsed last) (after_none time now none) ∙ elapsed_same last (record { units = now.units; later = suc now.later }) same.0
        ∙ later_as _ _ refl (omega (arith, more)) ∙ sym (ap (clock_after time) (elapsed_same last now same.0) ∙ after_none time _ none)
    at false some (inl less) =
        let positive : 0 < time = grind (arith, nat_tests, some) in
        ap (elapsed last) (after_some time now some) ∙ elapsed_less last (record { units = now.units + time; later = 0 }) (omega (arith, less))
        ∙ later_as _ _ (omega (arith, less)) refl ∙ sym (ap (clock_after time) (elapsed_less last now less) ∙ after_some time _ some)
    at false some (inr same) =
        let positive : 0 < time = grind (arith, nat_tests, some) in
        let units = same.0 in
        ap (elapsed last) (after_some time now some) ∙ elapsed_less last (record { units = now.units + time; later = 0 }) (omega (arith, units, positive))
        ∙ later_as _ _ (omega (arith, units)) refl ∙ sym (ap (clock_after time) (elapsed_same last now same.0) ∙ after_some time _ some)

-- ---- what is still to elapse

-- the units and the steps of what elapsed
elapsed_units : (last now : Clock) → IsUpTo last now → (elapsed last now).units ≡ now.units - last.units
elapsed_units last now (inl less) = ap (λ (clock : Clock). clock.units) (elapsed_less last now less)
elapsed_units last now (inr same) = let units = same.0 in ap (λ (clock : Clock). clock.units) (elapsed_same last now same.0) ∙ omega (arith, units)

up_to_units : (one other : Clock) → IsUpTo one other → one.units ≤ other.units
up_to_units one other (inl less) = omega (arith, less)
up_to_units one other (inr same) = let units = same.0 in omega (arith, units)

after_units : (time : ℕ) (clock : Clock) → (clock_after time clock).units ≡ clock.units + time
after_units time clock = at (eqb time 0) refl
  where
    at : (b : Bool) → eqb time 0 ≡ b
        → (cond b (record clock { later = suc clock.later }) (record { units = clock.units + time; later = 0 })).units ≡ clock.units + time
    at true none = grind (arith, nat_tests, none)
    at false some = refl

pub elapsed_more : (last now next : Clock) (time : ℕ) → IsUpTo last now → IsUpTo (clock_after time now) next
    → (elapsed last now).units + time ≤ (elapsed last next).units
elapsed_more last now next time within later =
    let one = elapsed_units last now within in
    let far = up_to_third last now next within (up_to_third now (clock_after time now) next (some_later time now) later) in
    let other = elapsed_units last next far in
    let units = up_to_units (clock_after time now) next later in
    let grown = after_units time now in
    let low = up_to_units last now within in
    omega (arith, one, other, units, grown, low)

before_as : (one other : Clock) → IsUpTo (record { units = one.units; later = suc one.later }) other → is_before one other ≡ true
unfolding is_before
before_as one other (inl less) = grind (arith, nat_tests, less)
before_as one other (inr same) = let units = same.0 in let later = same.1 in grind (arith, nat_tests, units, later)

-- a step that found the task at work comes before what is behind it
pub elapsed_before : (last now next : Clock) (time : ℕ) → IsUpTo last now → IsUpTo (clock_after time now) next
    → is_before (elapsed last now) (elapsed last next) ≡ true
elapsed_before last now next time within later = at (eqb time 0) refl
  where
    at : (b : Bool) → eqb time 0 ≡ b → is_before (elapsed last now) (elapsed last next) ≡ true
    at false some =
        let positive : 0 < time = grind (arith, nat_tests, some) in
        let more = elapsed_more last now next time within later in
        before_as (elapsed last now) (elapsed last next) (inl (omega (arith, positive, more)))
    at true none = where_next within (subst (λ clock. IsUpTo clock next) (after_none time now none) later)
      where
        where_next : IsUpTo last now → IsUpTo (record { units = now.units; later = suc now.later }) next
            → is_before (elapsed last now) (elapsed last next) ≡ true
        where_next (inl less) (inl more) =
            before_as (elapsed last now) (elapsed last next)
            (inl (let one = elapsed_less last now less in let other = elapsed_less last next (omega (arith, less, more)) in
            let first : (elapsed last now).units ≡ now.units - last.units = ap (λ (clock : Clock). clock.units) one in
            let second : (elapsed last next).units ≡ next.units - last.units = ap (λ (clock : Clock). clock.units) other in
            omega (arith, first, second, less, more)))
        where_next (inl less) (inr same) =
            let units = same.0 in
            let more = same.1 in
            let one = elapsed_less last now less in
            let other = elapsed_less last next (omega (arith, less, units)) in
            let first : (elapsed last now).units ≡ now.units - last.units = ap (λ (clock : Clock). clock.units) one in
            let second : (elapsed last next).units ≡ next.units - last.units = ap (λ (clock : Clock). clock.units) other in
            let third : (elapsed last now).later ≡ now.later = ap (λ (clock : Clock). clock.later) one in
            let fourth : (elapsed last next).later ≡ next.later = ap (λ (clock : Clock). clock.later) other in
            before_as (elapsed last now) (elapsed last next) (inr (omega (arith, first, second, units), omega (arith, third, fourth, more)))
        where_next (inr same) (inl more) =
            let units = same.0 in
            let one = elapsed_same last now same.0 in
            let other = elapsed_less last next (omega (arith, units, more)) in
            let first : (elapsed last now).units ≡ 0 = ap (λ (clock : Clock). clock.units) one in
            let second : (elapsed last next).units ≡ next.units - last.units = ap (λ (clock : Clock). clock.units) other in
            before_as (elapsed last now) (elapsed last next) (inl (omega (arith, first, second, units, more)))
        where_next (inr same) (inr alike) =
            let units = same.0 in
            let low = same.1 in
            let more = alike.1 in
            let one = elapsed_same last now same.0 in
            let other = elapsed_same last next (same.0 ∙ alike.0) in
            let first : (elapsed last now).units ≡ 0 = ap (λ (clock : Clock). clock.units) one in
            let second : (elapsed last next).units ≡ 0 = ap (λ (clock : Clock). clock.units) other in
            let third : (elapsed last now).later ≡ now.later - last.later = ap (λ (clock : Clock). clock.later) one in
            let fourth : (elapsed last next).later ≡ next.later - last.later = ap (λ (clock : Clock). clock.later) other in
            before_as (elapsed last now) (elapsed last next) (inr (omega (arith, first, second), omega (arith, third, fourth, low, more)))

-- ---- a call

-- the later of two clocks of which the one says no more
pub later_is : (last now : Clock) → IsUpTo last now → later_clock last now ≡ now
unfolding is_before
later_is last now within = at (is_before last now) refl within
  where
    at : (b : Bool) → is_before last now ≡ b → IsUpTo last now → cond b now last ≡ now
    at true before within = refl
    at false none (inl less) =
        let test : (ltb last.units now.units || (eqb last.units now.units && ltb last.later now.later)) ≡ true = grind (arith, nat_tests, less) in
        absurd (cc (none, test))
    at false none (inr same) =
        let units = same.0 in
        let low = same.1 in
        let alike : last.later ≡ now.later = grind (arith, nat_tests, units, low, none) in
        later_as last now same.0 alike

pub elapsed_none : (clock : Clock) → elapsed clock clock ≡ zero_clock
elapsed_none clock = elapsed_same clock clock refl ∙ later_as _ _ refl (omega arith)
