-- The time of a run that finds a condition, and the longest stretch of it.
use Rattle.std.specs.Prelude.{ℕ, zero, suc, ◌+◌, ◌==◌, Bool, List, length, map, find, if◌then◌else◌}
use Rattle.std.specs.List.{sum_by}
use Rattle.std.specs.Option.{option_map_or}
use Rattle.list_orders.specs.Search.{numbers}
use Rattle.step_times.specs.Times.{time_at}
use Rattle.bench_types.specs.declared.header.Header.{Header}
use Rattle.bench_types.specs.declared.step.Step.{Step}
use Rattle.bench_model.specs.Session.{state_at}
use Rattle.bench_model.specs.Table.{stamp_queues}
use Rattle.bench_model.specs.Tally.{greatest}
use Rattle.run_numbers.specs.declared.subject.Condition.{Condition}
use Rattle.run_numbers.specs.Conditions.{holds}

module _ (header : Header) (steps : List Step) where
  -- the time that the step at the place takes
  abbrev pub time_of_step : ℕ → ℕ
  time_of_step place = time_at header.config.units steps place

  module _ (condition : Condition) where
    abbrev pub holds_at : ℕ → Bool
    holds_at place = holds stamp_queues condition (state_at header steps place)

    -- the time of the step at the place, where it finds the condition
    abbrev pub found_at : ℕ → ℕ
    found_at place = if holds_at place then time_of_step place else 0

    -- the time that finds the condition
    abbrev pub time_found : ℕ
    time_found = sum_by found_at (numbers (length steps))

    -- the time before a place since the condition failed last
    abbrev pub stretch_at : ℕ → ℕ
    stretch_at zero = 0
    stretch_at (suc place) =
        if holds_at place then stretch_at place + time_of_step place else 0

    -- the place of the first step that takes some of this time
    abbrev pub start_at : ℕ → ℕ
    start_at zero = 0
    start_at (suc place) = if stretch_at place == 0 then place else start_at place

    -- the most time of a stretch
    abbrev pub longest_stretch : ℕ
    longest_stretch = greatest (map stretch_at (numbers (suc (length steps))))

    -- where the first of the stretches with so much begins
    abbrev pub longest_from : ℕ
    longest_from =
        option_map_or start_at
        (find (λ place. stretch_at place == longest_stretch) (numbers (suc (length steps)))) 0
