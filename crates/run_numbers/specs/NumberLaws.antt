-- The laws of the numbers of a run.
use Rattle.std.specs.Prelude.{◌≡◌, ℕ, ◌+◌, ◌-◌, ◌≤◌, ◌<◌, List, length, filter, not, true}
use Rattle.std.specs.List.{range_with_len, sum_by}
use Rattle.list_orders.specs.Search.{numbers}
use Rattle.bench_types.specs.declared.header.Header.{Header}
use Rattle.bench_types.specs.declared.reply.Refusal.TheVariants.{Displaced}
use Rattle.bench_types.specs.declared.step.Step.{Step}
use Rattle.bench_model.specs.Tally.{displaced_calls, inverted_ticks, run_ticks, switches_in, timeouts, top_priority, wait_ticks}
use Rattle.settled_runs.specs.declared.waiting_call.WaitingCall.{WaitingCall}
use Rattle.run_numbers.specs.declared.subject.Condition.{Condition}
use Rattle.run_numbers.specs.declared.subject.Condition.TheVariants.{RunningOn, WantsCore, Inverted}
use Rattle.run_numbers.specs.declared.subject.Event.TheVariants.{SwitchedIn, TimesOut, Refused}
use Rattle.run_numbers.specs.declared.subject.Subject.{Subject}
use Rattle.run_numbers.specs.declared.subject.Subject.TheVariants.{Time, Steps, TopPriority}
use Rattle.run_numbers.specs.Readings.{reading_of}
use Rattle.run_numbers.specs.Stretches.{holds_at, longest_from, longest_stretch, stretch_at, time_found, time_of_step}

-- the number of a subject
abbrev pub total_of : Header → List Step → List WaitingCall → Subject → ℕ
total_of header steps left subject = (reading_of header steps left subject).total

-- What a tally counts of a task too is the same number here. A tally counts ticks, which are the
-- units of time where a tick has one.
pub record NumbersAreTallies : Type 0 where
  pub run : (header : Header) (steps : List Step) (left : List WaitingCall) (task core : ℕ)
      → header.config.units ≡ 1
      → total_of header steps left (Time (RunningOn task core)) ≡ run_ticks header steps task core
  pub wait : (header : Header) (steps : List Step) (left : List WaitingCall) (task : ℕ)
      → header.config.units ≡ 1
      → total_of header steps left (Time (WantsCore task)) ≡ wait_ticks header steps task
  pub inverted : (header : Header) (steps : List Step) (left : List WaitingCall) (task : ℕ)
      → header.config.units ≡ 1
      → total_of header steps left (Time (Inverted task)) ≡ inverted_ticks header steps task
  pub switched : (header : Header) (steps : List Step) (left : List WaitingCall) (task : ℕ)
      → total_of header steps left (Steps (SwitchedIn task)) ≡ switches_in header steps task
  pub displaced : (header : Header) (steps : List Step) (left : List WaitingCall) (task : ℕ)
      → total_of header steps left (Steps (Refused task Displaced))
      ≡ displaced_calls header steps task
  pub timeouts : (header : Header) (steps : List Step) (left : List WaitingCall) (task : ℕ)
      → total_of header steps left (Steps (TimesOut task)) ≡ timeouts header steps task
  pub top : (header : Header) (steps : List Step) (left : List WaitingCall) (task : ℕ)
      → total_of header steps left (TopPriority task) ≡ top_priority header steps task

-- the time between two places
abbrev pub time_between : Header → List Step → ℕ → ℕ → ℕ
time_between header steps first last =
    sum_by (time_of_step header steps) (range_with_len first (last - first))

-- the condition holds from one place until the other
pub record HoldsBetween (header : Header) (steps : List Step) (condition : Condition)
    (first last : ℕ) : Type 0 where
  pub order : first ≤ last
  pub within : last ≤ length steps
  pub throughout : (place : ℕ) → first ≤ place → place < last
      → holds_at header steps condition place ≡ true

-- no stretch of places at which a condition holds takes more time than the longest
abbrev pub NoneIsLonger : Type 0
NoneIsLonger =
    (header : Header) (steps : List Step) (condition : Condition) (first last : ℕ)
    → HoldsBetween header steps condition first last
    → time_between header steps first last ≤ longest_stretch header steps condition

-- and one takes as much
abbrev pub OneIsAsLong : Type 0
OneIsAsLong =
    (header : Header) (steps : List Step) (condition : Condition)
    → (first : ℕ) × (last : ℕ) × HoldsBetween header steps condition first last
    × (time_between header steps first last ≡ longest_stretch header steps condition)

-- the time that finds a condition is that of all its stretches: of those that are over at a place
-- at which it fails, and of the last
abbrev pub TotalIsOfStretches : Type 0
TotalIsOfStretches =
    (header : Header) (steps : List Step) (condition : Condition)
    → time_found header steps condition
    ≡ sum_by (stretch_at header steps condition)
    (filter (λ place. not (holds_at header steps condition place)) (numbers (length steps)))
    + stretch_at header steps condition (length steps)

-- from the step at the place on, which takes time, the condition holds for so long in one stretch
pub record IsStretch (header : Header) (steps : List Step) (condition : Condition)
    (first time : ℕ) : Type 0 where
  pub begins : 0 < time_of_step header steps first
  pub last : ℕ
  pub holds : HoldsBetween header steps condition first last
  pub lasts : time_between header steps first last ≡ time

-- It is the first place at which a stretch of so much time begins: no time before it is in the same
-- stretch, and no other stretch of so much begins before it.
pub record IsFirstStretch (header : Header) (steps : List Step) (condition : Condition)
    (first time : ℕ) : Type 0 where
  pub stretch : IsStretch header steps condition first time
  pub begins : (earlier : ℕ) → HoldsBetween header steps condition earlier first
      → time_between header steps earlier first ≡ 0
  pub earliest : (other : ℕ) → IsStretch header steps condition other time → first ≤ other

-- the place that is told is that of the first stretch of the greatest length
abbrev pub FirstIsTold : Type 0
FirstIsTold =
    (header : Header) (steps : List Step) (condition : Condition)
    → 0 < longest_stretch header steps condition
    → IsFirstStretch header steps condition (longest_from header steps condition)
    (longest_stretch header steps condition)
