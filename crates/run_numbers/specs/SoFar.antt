-- The numbers of a subject at a place.
use Rattle.std.specs.Prelude.{ℕ, zero, suc, Bool, List, map, count_by, nat_lt, if◌then◌else◌}
use Rattle.std.specs.List.{sum_by}
use Rattle.bench_types.specs.declared.header.Header.{Header}
use Rattle.bench_types.specs.declared.step.Step.{Step}
use Rattle.list_orders.specs.Search.{numbers}
use Rattle.bench_model.specs.Control.{task_at}
use Rattle.bench_model.specs.Session.{state_at}
use Rattle.bench_model.specs.Table.{Stamps, stamp_queues}
use Rattle.bench_model.specs.Tally.{Moment, greatest}
use Rattle.run_numbers.specs.Gauge.{Gauge}
use Rattle.run_numbers.specs.declared.subject.Subject.{Subject}
use Rattle.run_numbers.specs.declared.subject.Subject.TheVariants.{Time, Steps, TopPriority, MostMessages}
use Rattle.run_numbers.specs.Events.{happens}
use Rattle.run_numbers.specs.Gauges.{initial_gauge}
use Rattle.run_numbers.specs.Messages.{messages_at}
use Rattle.run_numbers.specs.Moments.{passes_at}
use Rattle.run_numbers.specs.Stretches.{found_at, start_at, stretch_at}

-- the greatest number at the places up to this one
abbrev pub top : (ℕ → ℕ) → ℕ → ℕ
top f place = greatest (map f (numbers (suc place)))

-- the first place that has it
abbrev pub first_top : (ℕ → ℕ) → ℕ → ℕ
first_top f zero = zero
first_top f (suc place) =
    if nat_lt (top f place) (f (suc place)) then suc place else first_top f place

module _ (header : Header) (steps : List Step) where
  -- how many of the first steps pass
  abbrev pub passed : (Moment Stamps → Bool) → ℕ → ℕ
  passed passes place = count_by (passes_at header steps passes) (numbers place)

  abbrev pub in_use_at : ℕ → ℕ → ℕ
  in_use_at task place = (task_at (state_at header steps place).control task).in_use

  -- the numbers of a subject so far
  abbrev pub gauge_at : ℕ → Subject → Gauge
  gauge_at place (Time condition) = let stretch = stretch_at header steps condition in record {
    reading = record {
      total = sum_by (found_at header steps condition) (numbers place);
      longest = top stretch place;
      from = start_at header steps condition (first_top stretch place);
    };
    stretch = stretch place;
    start = start_at header steps condition place;
  }
  gauge_at place (Steps event) = initial_gauge (passed (happens stamp_queues event) place)
  gauge_at place (TopPriority task) = initial_gauge (top (in_use_at task) place)
  gauge_at place (MostMessages queue) =
      initial_gauge (top (messages_at header steps queue) place)
  gauge_at place subject = initial_gauge 0
