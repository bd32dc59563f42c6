-- The shared events of two runs that keep work ascend in both runs, each at alike steps.
use Rattle.std.proofs.Common.{◌≡◌, ℕ, suc, ◌≤◌, List, [], ◌∷◌, ◌++◌, length, drop, flat_map, arith}
use Rattle.std.specs.List.{range_with_len}
use Rattle.std.proofs.lemmas.List.Elements.{All-append}
use Rattle.bench_types.specs.declared.step.Step.{Step}
use Rattle.run_comparisons.specs.declared.place_pair.PlacePair.{PlacePair}
use Rattle.run_comparisons.specs.declared.rows.Row.{Row}
use Rattle.run_comparisons.specs.PairLaws.{AreAlikeAt}
use Rattle.run_comparisons.specs.Rows.{place_after, place_before}
use Rattle.run_comparisons.specs.Shared.{events_before, is_moment, kept_among, moments, paired_beyond, shared_among, AreMomentsOf}
use Rattle.run_comparisons.proofs.EventPlaces.{fewer_before, place_is_listed}
use Rattle.run_comparisons.proofs.Moments.{after_up, before_up, below_edge, beyond_up, edge, edge_within, moments_up, pairs_alike}
use Rattle.run_comparisons.proofs.SharedMet.{AreMet}
use Rattle.run_comparisons.proofs.SharedPlaces.{all_alike, alike_moment, ascend_after, ascend_before, Ascend, StandBelow}

-- where the ticks and interrupts of the run begin that are none of the session
abbrev pub edge_of : List Step → List Step → ℕ
edge_of session run = edge (length run) (length (moments session)) (moments run)

-- those of the session stand before
pub stand_below : (session run : List Step) → AreMomentsOf session run → StandBelow is_moment session run (edge_of session run)
stand_below session run moments_of place event found is =
    below_edge (length run) 0 (length (moments session)) (events_before is_moment session place) (moments run) (moments_up run)
    (fewer_before is_moment session place event found is) (place_is_listed is_moment session run place event moments_of found is)

sooner_up : (pick : PlacePair → ℕ) (count from later : ℕ) (pairs : List PlacePair) → from ≤ later → Ascend pick count later pairs → Ascend pick count from pairs
sooner_up pick count from later [] early up = tt
sooner_up pick count from later (pair ∷ pairs) early up = (omega (arith, early, up.0), up.1, up.2)

-- places below one, and behind them places from it on
joined_up : (pick : PlacePair → ℕ) (count between from : ℕ) (first second : List PlacePair) → between ≤ count → from ≤ between → Ascend pick between from first →
    Ascend pick count between second → Ascend pick count from (first ++ second)
joined_up pick count between from [] second few low up further = sooner_up pick count from between second low further
joined_up pick count between from (pair ∷ first) second few low up further = (
  up.0,
  omega (arith, up.1, few),
  joined_up pick count between (suc (pick pair)) first second few (omega (arith, up.1)) up.2 further,
)

pub kept_met : (session edited before after : List Step) (rows : List Row) → AreMomentsOf session before → AreMomentsOf edited after
    → flat_map place_before rows ≡ range_with_len 0 (length session) → flat_map place_after rows ≡ range_with_len 0 (length edited) → AreMet before after
    (kept_among session edited before after rows)
kept_met session edited before after rows first second tiles too =
    let shared = shared_among is_moment session edited before after rows in
    let many = length (moments session) in
    let others = length (moments edited) in
    let further = paired_beyond many others before after in
    let places = drop many (moments before) in
    let later = drop others (moments after) in
    let old = edge_of session before in
    let new = edge_of edited after in
    record {
      up_before = joined_up (λ pair. pair.before) (length before) old 0 shared further (edge_within (length before) 0 many (moments before) (moments_up before))
          (omega arith)
          (ascend_before is_moment alike_moment session edited before after first second old (stand_below session before first) rows (length session) tiles)
          (before_up before after places later old (beyond_up (length before) 0 many (moments before) (moments_up before)));
      up_after = joined_up (λ pair. pair.after) (length after) new 0 shared further (edge_within (length after) 0 others (moments after) (moments_up after))
          (omega arith)
          (ascend_after is_moment alike_moment session edited before after first second new (stand_below edited after second) rows (length edited) too)
          (after_up before after places later new (beyond_up (length after) 0 others (moments after) (moments_up after)));
      alike = All-append (λ pair. AreAlikeAt before after pair.before pair.after) shared further
          (all_alike is_moment alike_moment session edited before after first second rows) (pairs_alike before after places later);
    }
