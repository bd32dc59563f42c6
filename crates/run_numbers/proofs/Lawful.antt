-- The laws of the numbers of a run.
use Rattle.std.proofs.Common.{◌≡◌, ℕ, zero, suc, ◌+◌, ◌-◌, ◌<◌, ◌≤◌, Bool, true, false, not, ◌&&◌, nat_lt, List, length, refl}
use Rattle.std.proofs.Common.{sym, ap, subst, ◌∙◌, arith, inl, inr}
use Rattle.std.specs.Prelude.{◌==◌, cond, count_by, if◌then◌else◌, slice_get, Option, Some, None}
use Rattle.std.specs.List.{range_with_len, sum_by}
use Rattle.std.specs.Option.{option_map_or}
use Rattle.std.proofs.Math.Bool.{and_assoc}
use Rattle.std.proofs.lemmas.Bool.{cases_lt}
use Rattle.std.proofs.lemmas.Bool.Decides.{nat_tests}
use Rattle.bench_types.specs.declared.header.Header.{Header}
use Rattle.bench_types.specs.declared.reply.Refusal.TheVariants as refusal
use Rattle.bench_types.specs.declared.reply.Reply.{Reply}
use Rattle.bench_types.specs.declared.reply.Reply.TheVariants as reply
use Rattle.bench_types.specs.declared.step.Step.{Step}
use Rattle.bench_types.specs.declared.step.Step.TheVariants.{Tick, Switch, Call, Interrupt, QueueInterrupt, ResumeInterrupt, Pass}
use Rattle.list_orders.specs.Search.{numbers}
use Rattle.step_times.specs.Times.{time_of}
use Rattle.bench_model.specs.Tally.{Moment, is_call_of, is_current, inverted_ticks, is_displacement, is_tick, moment_at, outranks_some, steps_that}
use Rattle.bench_model.specs.Table.{Stamps, stamp_queues}
use Rattle.bench_model.specs.Tallied.{one_if}
use Rattle.run_numbers.specs.declared.subject.Condition.{Condition}
use Rattle.run_numbers.specs.declared.subject.Condition.TheVariants.{Inverted, RunningOn, WantsCore}
use Rattle.run_numbers.specs.Conditions.{holds}
use Rattle.run_numbers.specs.Events.{is_refusal}
use Rattle.run_numbers.specs.NumberLaws.{time_between, NoneIsLonger, NumbersAreTallies, OneIsAsLong}
use Rattle.run_numbers.specs.SoFar.{first_top, top}
use Rattle.run_numbers.specs.Stretches.{found_at, holds_at, stretch_at, time_found, time_of_step}
use Rattle.run_numbers.proofs.Places.{sum_longer, greatest_more}

displacement : (given : Reply) → is_refusal refusal.Displaced given ≡ is_displacement given
displacement (reply.Refused refusal.Held) = refl
displacement (reply.Refused refusal.Displaced) = refl
displacement (reply.Refused refusal.SwitchDue) = refl
displacement (reply.Refused refusal.InCall) = refl
displacement (reply.Refused refusal.NotInCall) = refl
displacement (reply.Refused refusal.HoldBlock) = refl
displacement (reply.Refused refusal.NoHold) = refl
displacement (reply.Refused refusal.HoldDeep) = refl
displacement (reply.Refused refusal.NotHolder) = refl
displacement (reply.Refused refusal.NotDue) = refl
displacement reply.Done = refl
displacement reply.Blocked = refl
displacement (reply.Flag flag) = refl
displacement (reply.Value value) = refl
displacement (reply.Waited ok value) = refl
displacement (reply.Until delayed wake) = refl
displacement (reply.Isr pass pend) = refl

-- a tick finds the condition
abbrev is_found : Condition → Moment Stamps → Bool
is_found condition moment = is_tick moment.step && holds stamp_queues condition moment.before

-- Where a tick has one unit, the time that finds a condition is the ticks that do.
module _ (header : Header) (steps : List Step) (one : header.config.units ≡ 1) (condition : Condition) where
  tick_time : (step : Step) → time_of header.config.units step ≡ one_if (is_tick step)
  tick_time Tick = rw one refl
  tick_time (Pass units) = rw one refl
  tick_time (Switch core) = refl
  tick_time (Call core task call) = refl
  tick_time (Interrupt core note) = refl
  tick_time (QueueInterrupt core queue direction) = refl
  tick_time (ResumeInterrupt core task) = refl

  both : (holding tick : Bool) → (if holding then one_if tick else 0) ≡ cond (tick && holding) 1 0
  both true true = refl
  both true false = refl
  both false true = refl
  both false false = refl

  neither : (holding : Bool) → cond {A = ℕ} holding 0 0 ≡ 0
  neither true = refl
  neither false = refl

  -- the time at the place is found just where a tick is
  abbrev IsFoundThere : ℕ → Type 0
  IsFoundThere place = found_at header steps condition place ≡ cond (option_map_or (is_found condition) (moment_at header steps place) false) 1 0

  past_last : (place : ℕ) → slice_get steps place ≡ None → IsFoundThere place
  unfolding moment_at
  past_last place is = rw is (neither (holds_at header steps condition place))

  of_step : (place : ℕ) (step : Step) → slice_get steps place ≡ Some step → IsFoundThere place
  unfolding moment_at
  of_step place step is = rw (is, tick_time step) (both (holds_at header steps condition place) (is_tick step))

  found_there : (place : ℕ) → IsFoundThere place
  found_there place = at (slice_get steps place) refl
    where
      at : (step : Option Step) → slice_get steps place ≡ step → IsFoundThere place
      at None is = past_last place is
      at (Some step) is = of_step place step is

  pub ticks_are : time_found header steps condition ≡ steps_that header steps (is_found condition)
  ticks_are = λ i. sum_by (λ place. found_there place i) (numbers (length steps))

inverted_is : (header : Header) (steps : List Step) (task : ℕ) → header.config.units ≡ 1
    → time_found header steps (Inverted task) ≡ inverted_ticks header steps task
inverted_is header steps task one =
    ticks_are header steps one (Inverted task)
    ∙ sym
    (λ i. steps_that header steps (λ moment.
    and_assoc (is_tick moment.step) (stamp_queues.is_ready task moment.before.orders && not (is_current moment.before.control task))
    (outranks_some moment.before.control task) i))

pub numbers_are_tallies : NumbersAreTallies
numbers_are_tallies = record {
  run = λ header steps left task core one. ticks_are header steps one (RunningOn task core);
  wait = λ header steps left task one. ticks_are header steps one (WantsCore task);
  inverted = λ header steps left task one. inverted_is header steps task one;
  switched = λ header steps left task. refl;
  displaced = λ header steps left task. λ i. steps_that header steps (λ moment. is_call_of task moment.step && displacement moment.reply i);
  timeouts = λ header steps left task. refl;
  top = λ header steps left task. refl;
}

pub below_top : (f : ℕ → ℕ) (n k : ℕ) → k ≤ n → f k ≤ top f n
below_top f zero k low = let same : 0 ≡ k = omega (arith, low) in subst (λ j. f j ≤ top f 0) same (omega (arith, greatest_more f 0))
below_top f (suc n) k low = elim (cases_lt k (suc n)) [
  | inl under ↦ omega (arith, below_top f n k (omega (arith, under)), greatest_more f (suc n))
  | inr over ↦ let same : suc n ≡ k = omega (arith, low, over) in subst (λ j. f j ≤ top f (suc n)) same (omega (arith, greatest_more f (suc n)))
]

-- The time between two places, one place further.
module _ (header : Header) (steps : List Step) where
  pub between_none : (first : ℕ) → time_between header steps first first ≡ 0
  between_none first = let none : first - first ≡ 0 = omega arith in ap (λ n. sum_by (time_of_step header steps) (range_with_len first n)) none

  pub between_more : (first last : ℕ) → first ≤ last → time_between header steps first (suc last) ≡ time_between header steps first last
      + time_of_step header steps last
  between_more first last order =
      let longer : suc last - first ≡ suc (last - first) = omega (arith, order) in
      let there : first + (last - first) ≡ last = omega (arith, order) in
      ap (λ n. sum_by (time_of_step header steps) (range_with_len first n)) longer ∙ sum_longer (time_of_step header steps) first (last - first)
      ∙ ap (λ n. sum_by (time_of_step header steps) (range_with_len first (last - first)) + time_of_step header steps n) there

  module _ (condition : Condition) where
    -- where the condition holds throughout, the stretch at the end has all this time
    pub stretch_holds : (first last : ℕ) → first ≤ last → ((place : ℕ) → first ≤ place → place < last → holds_at header steps condition place ≡ true) →
        time_between header steps first last ≤ stretch_at header steps condition last
    stretch_holds first zero order throughout = omega (arith, order, ap (λ k. time_between header steps k zero) (starts first order), between_none zero)
      where
        starts : (k : ℕ) → k ≤ 0 → k ≡ 0
        starts k low = omega (arith, low)
    stretch_holds first (suc last) order throughout = elim (cases_lt last first) [
      | inl under ↦
          let same : first ≡ suc last = omega (arith, under, order) in
          omega (arith, ap (λ k. time_between header steps k (suc last)) same, between_none (suc last))
      | inr over ↦
          let grown : stretch_at header steps condition (suc last) ≡ stretch_at header steps condition last + time_of_step header steps last = rw
          (throughout last over (omega arith)) refl in
          omega (arith, grown, between_more first last over, stretch_holds first last over (λ place above below. throughout place above (omega (arith, below))))
    ]

    -- and each stretch begins somewhere
    abbrev begins : ℕ → ℕ
    begins zero = zero
    begins (suc place) = if holds_at header steps condition place then begins place else suc place

    begins_before : (place : ℕ) → begins place ≤ place
    begins_before zero = omega arith
    begins_before (suc place) = at (holds_at header steps condition place) refl (begins_before place)
      where
        at : (b : Bool) → holds_at header steps condition place ≡ b → begins place ≤ place → begins (suc place) ≤ suc place
        at true holding before = rw holding (omega (arith, before))
        at false holding before = rw holding (omega arith)

    begins_holding : (last place : ℕ) → begins last ≤ place → place < last → holds_at header steps condition place ≡ true
    begins_holding zero place above below = absurd (omega (arith, below))
    begins_holding (suc last) place above below = at (holds_at header steps condition last) refl (begins_holding last place)
      where
        at : (b : Bool) → holds_at header steps condition last ≡ b → (begins last ≤ place → place < last → holds_at header steps condition place ≡ true) →
            holds_at header steps condition place ≡ true
        at true holding before = elim (cases_lt place last) [
          | inl early ↦ before (subst (λ b. (if b then begins last else suc last) ≤ place) holding above) early
          | inr late ↦ let same : place ≡ last = omega (arith, late, below) in ap (holds_at header steps condition) same ∙ holding
        ]
        at false holding before = absurd (omega (arith, below, subst (λ b. (if b then begins last else suc last) ≤ place) holding above))

    begins_time : (place : ℕ) → time_between header steps (begins place) place ≡ stretch_at header steps condition place
    begins_time zero = between_none zero
    begins_time (suc place) = at (holds_at header steps condition place) refl (begins_time place)
      where
        at : (b : Bool) → holds_at header steps condition place ≡ b → time_between header steps (begins place) place ≡ stretch_at header steps condition place
            → time_between header steps (begins (suc place)) (suc place) ≡ stretch_at header steps condition (suc place)
        at true holding before = rw holding (between_more (begins place) place (begins_before place) ∙ ap (λ n. n + time_of_step header steps place)
            before)
        at false holding before = rw holding (between_none (suc place))

pub first_top_within : (f : ℕ → ℕ) (n : ℕ) → first_top f n ≤ n
first_top_within f zero = omega arith
first_top_within f (suc n) = at (nat_lt (top f n) (f (suc n))) (first_top_within f n)
  where
    at : (b : Bool) → first_top f n ≤ n → (if b then suc n else first_top f n) ≤ suc n
    at true low = omega arith
    at false low = omega (arith, low)

pub top_there : (f : ℕ → ℕ) (n : ℕ) → f (first_top f n) ≡ top f n
top_there f zero = omega (arith, greatest_more f 0)
top_there f (suc n) = at (nat_lt (top f n) (f (suc n))) refl (top_there f n)
  where
    at : (b : Bool) → nat_lt (top f n) (f (suc n)) ≡ b → f (first_top f n) ≡ top f n → f (if b then suc n else first_top f n) ≡ top f (suc n)
    at true more there = omega (arith, greatest_more f (suc n), less_so more)
      where
        less_so : nat_lt (top f n) (f (suc n)) ≡ true → top f n < f (suc n)
        less_so is = grind (arith, nat_tests, is)
    at false less there = omega (arith, greatest_more f (suc n), there, more_so less)
      where
        more_so : nat_lt (top f n) (f (suc n)) ≡ false → f (suc n) ≤ top f n
        more_so is = grind (arith, nat_tests, is)

pub none_is_longer : NoneIsLonger
none_is_longer header steps condition first last holds =
    omega (
      arith,
      stretch_holds header steps condition first last holds.order holds.throughout,
      below_top (stretch_at header steps condition) (length steps)
          last holds.within,
    )

pub one_is_as_long : OneIsAsLong
one_is_as_long header steps condition =
    let stretch = stretch_at header steps condition in
    let last = first_top stretch (length steps) in (
      begins header steps condition last,
      last,
      record {
        order = begins_before header steps condition last;
        within = first_top_within stretch (length steps);
        throughout = begins_holding header steps condition last;
      },
      begins_time header steps condition last ∙ top_there stretch (length steps),
    )
