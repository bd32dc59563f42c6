-- How many times lie in which interval.
use Rattle.std.specs.Prelude.{◌≡◌, ℕ, zero, suc, ◌+◌, ◌^◌, ◌==◌, ◌&&◌, ◌||◌, Bool, not, nat_lt, List, length, map, count_by, slice_index_or}
use Rattle.std.specs.List.{sum}
use Rattle.list_orders.specs.Search.{numbers}
use Rattle.bench_model.specs.Tallied.{one_if}
use Rattle.task_jobs.specs.declared.histogram.Histogram.{Histogram}
use Rattle.task_jobs.specs.Durations.{Thing}

-- how many intervals there are
abbrev pub intervals : ℕ
intervals = 65

-- the least time of an interval: 0, 1, 2, 4, 8 and so on
abbrev pub least_time : ℕ → ℕ
least_time zero = 0
least_time (suc k) = 2 ^ k

-- the time lies in the interval: it is not less, and less than that of the next, if there is one
abbrev pub is_in : ℕ → ℕ → Bool
is_in k time =
    not (nat_lt time (least_time k)) && (suc k == intervals || nat_lt time (least_time (suc k)))

-- how many of the things took a time in the interval
abbrev pub count_in : List Thing → ℕ → ℕ
count_in things k = count_by (λ thing. is_in k thing.0) things

-- that of each interval
unfoldable pub histogram_of : List Thing → Histogram
histogram_of things = record { counts = map (count_in things) (numbers intervals) }

-- one more in the interval of the time
unfoldable pub with_time : ℕ → Histogram → Histogram
with_time time before = record {
  counts = map (λ k. slice_index_or before.counts k 0 + one_if (is_in k time)) (numbers intervals);
}

-- no thing is left out: each time lies in one interval alone
abbrev pub CountsAreAll : Type 0
CountsAreAll =
    (things : List Thing) → sum (histogram_of things).counts ≡ length things
