-- The time before each place of a run, and columns by ticks and by time.
use Rattle.std.specs.Prelude.{ℕ, suc, ◌+◌, ◌-◌, ◌/◌, ◌<◌, ◌≤◌, List, length, map, max, sum, take}
use Rattle.list_orders.specs.Search.{numbers}
use Rattle.bench_types.specs.declared.step.Step.{Step}
use Rattle.bench_types.specs.Limits.{max_steps}
use Rattle.step_times.specs.Times.{time_of}
use Rattle.run_columns.specs.SlotColumns.{at_or_last, slot_columns, Rise}

-- how much time the steps before the place take, where a tick has so many units
abbrev pub time_before : ℕ → List Step → ℕ → ℕ
time_before units steps place = sum (map (time_of units) (take place steps))

-- of each place
abbrev pub times_of : ℕ → List Step → List ℕ
times_of units steps = map (time_before units steps) (numbers (suc (length steps)))

-- the slot of each place, where a slot is a span of so much time
abbrev pub slots_of : ℕ → List ℕ → List ℕ
slots_of span times = map (λ time. time / span) times

-- by ticks: as if a tick had one unit, each of which is a slot
abbrev pub tick_slots : List Step → List ℕ
tick_slots steps = slots_of 1 (times_of 1 steps)

-- the columns of one of two runs by ticks
abbrev pub tick_columns : List Step → List Step → List Step → List ℕ
tick_columns before after run = slot_columns (tick_slots before) (tick_slots after) (tick_slots run)

-- the time that goes by from the one place to the end of the other
abbrev pub shown_time : ℕ → ℕ → List ℕ → ℕ
shown_time from to times = at_or_last times (suc to) - at_or_last times from

abbrev pub whole_time : List ℕ → ℕ
whole_time times = at_or_last times (length times)

-- A slot is so long that the time that is shown has some 400 slots, and the whole run no more than
-- a run may have steps: of two runs, that which takes longer.
abbrev pub span_of : ℕ → ℕ → List ℕ → List ℕ → ℕ
span_of from to times later =
    1 + max (max (shown_time from to times) (shown_time from to later) / 400)
    (max (whole_time times) (whole_time later) / max_steps)

-- the slots of one of two runs that are drawn by time, where a tick has so many units
abbrev pub time_slots : ℕ → ℕ → ℕ → List Step → List Step → List Step → List ℕ
time_slots units from to before after run =
    slots_of (span_of from to (times_of units before) (times_of units after)) (times_of units run)

-- its columns
abbrev pub time_columns : ℕ → ℕ → ℕ → List Step → List Step → List Step → List ℕ
time_columns units from to before after run =
    slot_columns (time_slots units from to before after before)
    (time_slots units from to before after after) (time_slots units from to before after run)

-- the time before each place of a run: no less than before the place in front of it
pub record AreTimes (times : List ℕ) : Type 0 where
  pub rise : Rise times
  pub some : 0 < length times
  pub few : length times ≤ suc max_steps
