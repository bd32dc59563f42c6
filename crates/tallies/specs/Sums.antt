-- The numbers of two parts of a session, added place by place.
use Rattle.std.specs.Prelude.{ℕ, ◌+◌, ◌^◌, max, List, [], length, map, slice_index_or}
use Rattle.bench_types.specs.declared.tally.Tally.{Tally}
use Rattle.list_orders.specs.Search.{numbers}
use Rattle.bench_model.specs.Tallied.{CountsBelow}
use Rattle.tallies.specs.Tables.{counts_of}

abbrev pub sums_of : List ℕ → List ℕ → List ℕ
sums_of ns more =
    map (λ i. slice_index_or ns i 0 + slice_index_or more i 0) (numbers (length ns))

-- the counts of a task in both parts together
abbrev pub added_counts : Tally → Tally → Tally
added_counts a b = record {
  wait = a.wait + b.wait;
  inverted = a.inverted + b.inverted;
  switched = a.switched + b.switched;
  displaced = a.displaced + b.displaced;
  timeouts = a.timeouts + b.timeouts;
  top = max a.top b.top;
}

-- those of all tasks
abbrev pub all_added_counts : List Tally → List Tally → List Tally
all_added_counts a b =
    map (λ task. added_counts (counts_of a task) (counts_of b task)) (numbers (length a))

-- each count can be kept
abbrev pub CountsFit : Tally → Type 0
CountsFit counts = CountsBelow (2 ^ 32) (record { run = []; counts = counts })
