-- The time before places, and slots by it.
use Rattle.std.proofs.Common.{◌≡◌, ℕ, zero, suc, ◌+◌, ◌-◌, ◌*◌, ◌/◌, ◌<◌, ◌≤◌, min, List, [], ◌∷◌, ◌++◌, length, map, take, get_or, Bool, true}
use Rattle.std.proofs.Common.{false, ltb, refl, subst, sym, ap, ◌∙◌, add-one, zero-add, arith}
use Rattle.std.specs.Prelude.{sum}
use Rattle.std.proofs.Math.Nat.{div-mul-le_self, div-one}
use Rattle.std.proofs.lemmas.Bool.{ltb-false, ltb-true}
use Rattle.std.proofs.lemmas.List.{get_or-map, length-map, take_all}
use Rattle.std.proofs.lemmas.List.FromFn.{get_or-map-range_with_len, length-map-range_with_len}
use Rattle.std.proofs.lemmas.List.Sums.{sum-map, sum_by_more}
use Rattle.std.proofs.lemmas.Nat.{le-div}
use Rattle.list_orders.specs.Search.{numbers}
use Rattle.bench_types.specs.Limits.{max_steps}
use Rattle.bench_types.specs.declared.step.Step.{Step}
use Rattle.bench_types.specs.declared.step.Step.TheVariants.{Tick, Switch, Call, Interrupt, QueueInterrupt, ResumeInterrupt, Pass}
use Rattle.step_times.specs.Times.{time_of}
use Rattle.run_columns.specs.SlotColumns.{at_or_last, AreSlots}
use Rattle.run_columns.specs.TimeSlots.{slots_of, time_before, times_of, whole_time, AreTimes}
use Rattle.run_columns.proofs.LinedUp.{map_numbers_more, ordered}

-- ---- time

-- more by the time of one more step
pub time_more : (units : ℕ) (steps : List Step) (place : ℕ) (d : Step) → place < length steps → time_before units steps (place + 1) ≡ time_before units steps place
    + time_of units (get_or steps place d)
time_more units steps place d low =
    sum-map (time_of units) (take (place + 1) steps)
    ∙ sum_by_more (time_of units) steps place d low
    ∙ ap (λ (n : ℕ). n + time_of units (get_or steps place d)) (sym (sum-map (time_of units) (take place steps)))

time_next : (units : ℕ) (steps : List Step) (place : ℕ) → time_before units steps place ≤ time_before units steps (suc place)
time_next units steps place = at (ltb place (length steps)) refl
  where
    at : (b : Bool) → ltb place (length steps) ≡ b → time_before units steps place ≤ time_before units steps (suc place)
    at true early = subst (λ (n : ℕ). time_before units steps place ≤ time_before units steps n) (add-one place)
        (let more = time_more units steps place Tick (ltb-true place (length steps) early) in omega (arith, more))
    at false late =
        let past = ltb-false place (length steps) late in
        let same : time_before units steps place ≡ time_before units steps (suc place) = ap (λ ss. sum (map (time_of units) ss))
        (take_all place steps past ∙ sym (take_all (suc place) steps (omega (arith, past)))) in
        omega (arith, same)

at_numbered : (f : ℕ → ℕ) (n place : ℕ) → at_or_last (map f (numbers (suc n))) place ≡ f (min place n)
at_numbered f n place =
    let many = length-map-range_with_len f 0 (suc n) in
    let e : min place (length (map f (numbers (suc n))) - 1) ≡ min place n = omega (arith, many) in
    ap (λ i. get_or (map f (numbers (suc n))) i 0) e ∙ get_or-map-range_with_len f 0 (suc n) (min place n) (min place n) 0 (omega arith) (zero-add (min place n))

pub times_are : (units : ℕ) (steps : List Step) → length steps ≤ max_steps → AreTimes (times_of units steps)
times_are units steps few = record {
  rise = λ p q before.
      let f = time_before units steps in
      let n = length steps in
      let at_p = at_numbered f n p in
      let at_q = at_numbered f n q in
      let up = ordered f (time_next units steps) (min p n) (min q n) (omega (arith, before)) in
      omega (arith, at_p, at_q, up);
  some = let many = length-map-range_with_len (time_before units steps) 0 (suc (length steps)) in omega (arith, many);
  few = let many = length-map-range_with_len (time_before units steps) 0 (suc (length steps)) in omega (arith, many, few);
}

-- the times before the first places, and that before the next
pub record TimesSoFar (units : ℕ) (steps : List Step) (times : List ℕ) (time place : ℕ) : Type 0 where
  pub made : times ≡ map (time_before units steps) (numbers place)
  pub now : time ≡ time_before units steps place
  pub little : time ≤ place * 4294967295

pub times_more : (units : ℕ) (steps : List Step) (place : ℕ) (d : Step) (times later : List ℕ) (time taken : ℕ) → place < length steps → TimesSoFar units steps
    times time place
    → taken ≡ time_of units (get_or steps place d) → taken < 4294967296 → later ≡ times ++ time ∷ []
    → TimesSoFar units steps later (time + taken) (place + 1)
times_more units steps place d times later time taken low were is little pushed = record {
  made = pushed ∙ ap (λ (xs : List ℕ). xs ++ time ∷ []) were.made
      ∙ ap (λ (n : ℕ). map (time_before units steps) (numbers place) ++ n ∷ []) were.now
      ∙ sym (map_numbers_more (time_before units steps) place);
  now = let more = time_more units steps place d low in let now = were.now in omega (arith, more, now, is);
  little = let few = were.little in omega (arith, few, little);
}

pub times_all : (units : ℕ) (steps : List Step) (place : ℕ) (times later : List ℕ) (time : ℕ) → place ≡ length steps → TimesSoFar units steps times time place →
    later ≡ times ++ time ∷ [] → later ≡ times_of units steps
times_all units steps place times later time end were pushed =
    pushed ∙ ap (λ (xs : List ℕ). xs ++ time ∷ []) were.made
    ∙ ap (λ (n : ℕ). map (time_before units steps) (numbers place) ++ n ∷ []) were.now
    ∙ sym (map_numbers_more (time_before units steps) place)
    ∙ ap (λ (n : ℕ). map (time_before units steps) (numbers n)) (let e : place + 1 ≡ suc (length steps) = omega (arith, end) in e)

-- ---- slots

div_rise : (span m n : ℕ) → 0 < span → m ≤ n → m / span ≤ n / span
div_rise span m n some up = let back = div-mul-le_self m span in le-div (m / span) n span some (omega (arith, back, up))

at_mapped : (g : ℕ → ℕ) (listed : List ℕ) (place : ℕ) → 0 < length listed → at_or_last (map g listed) place ≡ g (at_or_last listed place)
at_mapped g listed place some =
    let many = length-map listed g in
    let e : min place (length (map g listed) - 1) ≡ min place (length listed - 1) = omega (arith, many) in
    ap (λ i. get_or (map g listed) i 0) e ∙ get_or-map g listed (min place (length listed - 1)) 0 0 (omega (arith, some))

pub slots_are : (span : ℕ) (times : List ℕ) → 0 < span → AreTimes times → whole_time times / span ≤ max_steps → AreSlots (slots_of span times)
slots_are span times some are low = record {
  rise = λ p q before.
      let at_p = at_mapped (λ time. time / span) times p are.some in
      let at_q = at_mapped (λ time. time / span) times q are.some in
      let up = div_rise span (at_or_last times p) (at_or_last times q) some (are.rise p q before) in
      omega (arith, at_p, at_q, up);
  some = let many = length-map times (λ time. time / span) in let there = are.some in omega (arith, many, there);
  few = let many = length-map times (λ time. time / span) in let few = are.few in omega (arith, many, few);
  low =
      let last = at_mapped (λ time. time / span) times (length (slots_of span times)) are.some in
      let same : at_or_last times (length (slots_of span times)) / span ≡ whole_time times / span = ap (λ (n : ℕ). at_or_last times n / span)
      (length-map times (λ time. time / span)) in
      omega (arith, last, same, low);
}

-- no slot is behind that of the whole time
pub slot_fits : (span : ℕ) (times : List ℕ) (place : ℕ) → 0 < span → AreTimes times → whole_time times / span ≤ max_steps → place < length times → get_or times
    place 0 / span ≤ max_steps
slot_fits span times place some are low early =
    let e : min place (length times - 1) ≡ place = omega (arith, early) in
    let up = div_rise span (at_or_last times place) (whole_time times) some (are.rise place (length times) (omega (arith, early))) in
    subst (λ (n : ℕ). get_or times n 0 / span ≤ max_steps) e (omega (arith, up, low))

-- ---- ticks

one_unit : (step : Step) → time_of 1 step ≤ 1
one_unit Tick = omega arith
one_unit (Pass units) = omega arith
one_unit (Switch core) = omega arith
one_unit (Call core task call) = omega arith
one_unit (Interrupt core note) = omega arith
one_unit (QueueInterrupt core queue direction) = omega arith
one_unit (ResumeInterrupt core task) = omega arith

ticks_few : (steps : List Step) (place : ℕ) → place ≤ length steps → time_before 1 steps place ≤ place
ticks_few steps zero few = omega arith
ticks_few steps (suc place) few =
    subst (λ (n : ℕ). time_before 1 steps n ≤ n) (add-one place)
    (let more = time_more 1 steps place Tick (omega (arith, few)) in
    let one = one_unit (get_or steps place Tick) in
    let early = ticks_few steps place (omega (arith, few)) in
    omega (arith, more, one, early))

pub ticks_fit : (steps : List Step) → length steps ≤ max_steps → whole_time (times_of 1 steps) / 1 ≤ max_steps
ticks_fit steps few =
    let times = times_of 1 steps in
    let n = length steps in
    let last = at_numbered (time_before 1 steps) n (length times) in
    let many = length-map-range_with_len (time_before 1 steps) 0 (suc n) in
    let e : min (length times) n ≡ n = omega (arith, many) in
    let whole : whole_time times ≡ time_before 1 steps n = last ∙ ap (time_before 1 steps) e in
    let little = ticks_few steps n (omega arith) in
    let one = div-one (whole_time times) in
    omega (arith, one, whole, little, few)
