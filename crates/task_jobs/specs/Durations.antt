-- How long several things took.
use Rattle.std.specs.Prelude.{ℕ, ◌+◌, ◌-◌, ◌^◌, ◌==◌, ◌||◌, max, min, nat_lt, List, [], ◌∷◌, length, map, find, if◌then◌else◌}
use Rattle.std.specs.List.{sum_by}
use Rattle.std.specs.Option.{option_map_or}
use Rattle.bench_model.specs.Tally.{greatest}
use Rattle.task_jobs.specs.declared.durations.Durations.{Durations}

-- the least of the numbers, 0 where there is none
abbrev pub least : List ℕ → ℕ
least [] = 0
least (n ∷ []) = n
least (n ∷ m ∷ ns) = min n (least (m ∷ ns))

-- a thing: how long it took, and the place at which it began
abbrev pub Thing : Type 0
Thing = ℕ × ℕ

abbrev pub times : List Thing → List ℕ
times things = map (λ thing. thing.0) things

-- where the first of the longest began
abbrev pub longest_from : List Thing → ℕ
longest_from things =
    option_map_or (λ thing. thing.1)
    (find (λ thing. thing.0 == greatest (times things)) things) 0

-- a total that is greater than a number of 64 bits can be is the greatest of these
abbrev pub durations_of : List Thing → Durations
durations_of things = record {
  count = length things;
  total = min (sum_by (λ thing. thing.0) things) (2 ^ 64 - 1);
  longest = greatest (times things);
  from = longest_from things;
  shortest = least (times things);
}

-- with one thing more
abbrev pub with_thing : Thing → Durations → Durations
with_thing thing before = record {
  count = before.count + 1;
  total = min (before.total + thing.0) (2 ^ 64 - 1);
  longest = max before.longest thing.0;
  from = if before.count == 0 || nat_lt before.longest thing.0 then thing.1 else before.from;
  shortest = if before.count == 0 then thing.0 else min before.shortest thing.0;
}
