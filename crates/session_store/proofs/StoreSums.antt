-- Sums of the tallies of a replay's first segments.
use Rattle.std.proofs.Common.{◌≡◌, ℕ, zero, suc, ◌+◌, ◌-◌, ◌*◌, ◌<◌, ◌≤◌, ◌^◌, ◌⊎◌, inl, inr, ⊎_elim, List, [], ◌∷◌, ◌++◌, length, take, drop, Option, Some}
use Rattle.std.proofs.Common.{None, refl, sym, ap, subst, ◌∙◌, arith}
use Rattle.std.specs.Prelude.{All, IfSome, slice_get}
use Rattle.std.proofs.lemmas.List.{append_assoc, drop_at, length-append, length-drop, length-map, length-take, take_all, take_at, take-append-drop, take-take}
use Rattle.std.proofs.lemmas.Option.{same_Some, slice_get_within}
use Rattle.bench_types.specs.declared.header.Header.{Header}
use Rattle.bench_types.specs.declared.kernel_data.Settings.{Settings}
use Rattle.bench_types.specs.declared.step.Step.{Step}
use Rattle.bench_types.specs.Step.{settings_of, IsCheckedStep}
use Rattle.bench_model.specs.Equal.{Same, StandsFor}
use Rattle.bench_model.specs.Lists.{View}
use Rattle.bench_model.specs.Session.{state_after, state_at}
use Rattle.bench_model.specs.Start.{start}
use Rattle.bench_model.specs.Table.{Table}
use Rattle.bench_model.specs.Tallied.{added, part_tallies, shape, shape_of, AllCountsBelow}
use Rattle.bench_model.specs.Tally.{TaskTally, tallies}
use Rattle.session_laws.proofs.Shapes.{session_shape}
use Rattle.session_laws.proofs.Tallies.{stepwise}
use Rattle.meeting_laws.proofs.Runs.{run_alike}
use Rattle.segment_laws.specs.Segments.{SegmentView, all_steps, lengths, starts}
use Rattle.segment_laws.proofs.Following.{All_front, all_more, segments_split, kernel_at, split_at, take_with}
use Rattle.step_laws.proofs.Along.{start_settings}
use Rattle.segment_laws.proofs.Starts.{starts_at}
use Rattle.session_store.specs.Kept.{kept_of, session_of}
use Rattle.session_store.specs.Sums.{block, tallies_from, AreSums, AreSumsBefore, AreSumsOf, CheckpointSums, HasSums, HasSumsInFront}
use Rattle.session_store.specs.Trials.{AreTallied, AreTalliedAfter, AreTalliedLater, IsReplay}
use Rattle.session_store.proofs.LaterSums.{part_shape}
use Rattle.session_store.proofs.StoreTallies.{first_there, not_later, run_fits, run_goes, run_shapes, sum_fits, sum_shapes, tallied_goes, Counts}

-- ---- one segment more

module _ (header : Header) (segments : List SegmentView) (replay : IsReplay header segments) (index : ℕ) (segment : SegmentView)
    (found : slice_get segments index ≡ Some segment) (part total : List TaskTally)
    (shown : (table : Table) → StandsFor segment.kernel table → part ≡ part_tallies segment.kernel.settings table segment.steps)
    (so_far : AreTallied header (take index segments) total) where
  pub next_shapes : shape part ≡ shape_of segment.kernel.settings → shape total ≡ shape part
  next_shapes = sum_shapes header segments replay (take index segments) segment (drop (suc index) segments) (split_at segments index segment found) part total
      shown so_far

  pub next_fits : AllCountsBelow (2 ^ 32) (added total part)
  next_fits = sum_fits header segments replay (take index segments) segment (drop (suc index) segments) (split_at segments index segment found) part total shown
      so_far

  pub next_goes : (next : List TaskTally) → next ≡ added total part → shape next ≡ shape total → AreTallied header (take (suc index) segments) next
  next_goes next sum sized =
      subst (λ (xs : List SegmentView). AreTallied header xs next) (sym (take_with segments index segment found))
      (tallied_goes header segments replay (take index segments) segment (drop (suc index) segments) (split_at segments index segment found) part total shown
      so_far next sum sized)

-- a sum more
pub sum_there : {X : Type 0} (sums : List X) (sum one : X) (k : ℕ) → slice_get (sums ++ sum ∷ []) k ≡ Some one → (slice_get sums k ≡ Some one) ⊎
    ((k ≡ length sums) × (one ≡ sum))
sum_there [] sum one zero found = inr (refl, sym (same_Some sum one found))
sum_there [] sum one (suc k) found = absurd (cc found)
sum_there (first ∷ sums) sum one zero found = inl found
sum_there (first ∷ sums) sum one (suc k) found =
    ⊎_elim (λ (there : slice_get sums k ≡ Some one). inl there) (λ (last : (k ≡ length sums) × (one ≡ sum)). inr (ap suc last.0, last.1))
    (sum_there sums sum one k found)

-- ---- the header of an edited session

-- a replay of the same first segments from another start has the same tallies
pub other_header : (header other : Header) (front rest more : List SegmentView) (first : SegmentView) (count : ℕ) (total : List TaskTally) → slice_get front 0 ≡
    Some first → IsReplay header (front ++ rest) → IsReplay other (front ++ more)
    → AreTallied header (take count front) total → AreTallied other (take count front) total
other_header header other front rest more first count total found replay replayed tallied =
    let a = start header in
    let b = start other in
    let steps = all_steps (take count front) in
    let one = kernel_at (front ++ rest) a first replay.follow (first_there front rest first found) in
    let two = kernel_at (front ++ more) b first replayed.follow (first_there front more first found) in
    let same : Same a b = one.shows ∙ sym two.shows in
    let settings : settings_of header ≡ settings_of other = sym (start_settings header) ∙ ap (λ (view : View). view.settings) same ∙ start_settings other in
    let all = subst (All (IsCheckedStep (settings_of header))) (all_more front rest) replay.session.steps in
    let own = subst (All (IsCheckedStep (settings_of header))) (segments_split count front)
    (All_front (IsCheckedStep (settings_of header)) (all_steps front) (all_steps rest) all) in
    let checked = subst (λ (s : Settings). All (IsCheckedStep s) steps) (sym (start_settings header))
    (All_front (IsCheckedStep (settings_of header)) steps (all_steps (drop count front)) own) in
    let run = run_alike a b steps one.sound two.sound same checked in
    record {
      counts =
          tallied.counts ∙ ap (λ (s : Settings). part_tallies s a steps) (sym (start_settings header)) ∙ run.tallies
          ∙ ap (λ (s : Settings). part_tallies s b steps) (start_settings header ∙ settings);
      sizes = tallied.sizes ∙ ap shape_of settings;
    }

-- ---- sums by their places

start_got : (segments : List SegmentView) (first i place : ℕ) → slice_get (starts first (lengths segments)) i ≡ Some place → place ≡ first + length
    (all_steps (take i segments))
start_got [] first i place found = absurd (cc found)
start_got (segment ∷ segments) first zero place found = omega (arith, same_Some first place found)
start_got (segment ∷ segments) first (suc i) place found =
    omega (arith, start_got segments (first + length segment.steps) i place found, length-append segment.steps (all_steps (take i segments)))

starts_many : (first : ℕ) (ns : List ℕ) → length (starts first ns) ≡ length ns
starts_many first [] = refl
starts_many first (n ∷ ns) = ap suc (starts_many (first + n) ns)

places_many : (segments : List SegmentView) → length (starts 0 (lengths segments)) ≡ length segments
places_many segments = starts_many 0 (lengths segments) ∙ length-map segments (λ (segment : SegmentView). length segment.steps)

front_steps : (segments : List SegmentView) (n place : ℕ) → place ≡ length (all_steps (take n segments)) → take place (all_steps segments) ≡ all_steps
    (take n segments)
front_steps segments n place is =
    ap (take place) (segments_split n segments) ∙ take_at (all_steps (take n segments)) (all_steps (drop n segments)) place (sym is)

back_steps : (segments : List SegmentView) (n place : ℕ) → place ≡ length (all_steps (take n segments)) → drop place (all_steps segments) ≡ all_steps
    (drop n segments)
back_steps segments n place is =
    ap (drop place) (segments_split n segments) ∙ drop_at (all_steps (take n segments)) (all_steps (drop n segments)) place (sym is)

-- from a place on where a segment begins
from_there : (header : Header) (segments : List SegmentView) (n place : ℕ) → place ≡ length (all_steps (take n segments)) → tallies_from
    (session_of header segments) place ≡ part_tallies (settings_of header) (state_after (start header) (all_steps (take n segments)))
    (all_steps (drop n segments))
unfolding state_at
from_there header segments n place is =
    ap (λ (steps : List Step). part_tallies (settings_of header) (state_after (start header) steps) (drop place (all_steps segments)))
    (front_steps segments n place is)
    ∙ ap (part_tallies (settings_of header) (state_after (start header) (all_steps (take n segments)))) (back_steps segments n place is)

module _ (header : Header) (span : ℕ) (segments : List SegmentView) (sums : CheckpointSums) where
  -- where the checkpoint is, and that a segment begins there
  place_shown : (k place : ℕ) → slice_get (starts 0 (lengths segments)) k ≡ Some place → (place ≡ length (all_steps (take k segments))) × (k < length segments)
  place_shown k place there = (
    omega (arith, start_got segments 0 k place there),
    omega (arith, slice_get_within (starts 0 (lengths segments)) k place there, places_many segments),
  )

  pub sums_shown : AreSums header segments sums → AreSumsOf (kept_of header span segments) sums
  sums_shown are = record {
    before = λ k place sum there found.
        let shown = place_shown (k * block) place there in
        (are.before.each k sum shown.1 found).counts ∙ sym (stepwise header (all_steps (take (k * block) segments))) ∙ ap (tallies header)
        (sym (front_steps segments (k * block) place shown.0));
    after = λ k place sum there found.
        let shown = place_shown (k * block) place there in
        (are.after.each k sum shown.1 found).counts ∙ sym (from_there header segments (k * block) place shown.0);
    all = λ k low.
        let within : k * block < length segments = omega (arith, low, places_many segments) in
        (are.before.all k within, are.after.all k within);
  }

  -- a checkpoint, by its segment
  place_known : (k : ℕ) → k < length segments → (place : ℕ) × (slice_get (starts 0 (lengths segments)) k ≡ Some place) ×
      (place ≡ length (all_steps (take k segments)))
  place_known k low = (0 + length (all_steps (take k segments)), starts_at segments 0 k low, omega arith)

  pub sums_known : AreSumsOf (kept_of header span segments) sums → AreSums header segments sums
  sums_known are = record {
    before = record {
      each = λ k sum low found.
          let known = place_known (k * block) low in
          let is = are.before k known.0 sum known.1 found in
          record {
            counts = is ∙ ap (tallies header) (front_steps segments (k * block) known.0 known.2) ∙ stepwise header (all_steps (take (k * block) segments));
            sizes = ap shape is ∙ session_shape header (take known.0 (all_steps segments));
          };
      all = λ k low. (are.all k (omega (arith, low, places_many segments))).0;
    };
    after = record {
      each = λ k sum low found.
          let known = place_known (k * block) low in
          let is = are.after k known.0 sum known.1 found ∙ from_there header segments (k * block) known.0 known.2 in
          record {
            counts = is;
            sizes = ap shape is ∙ part_shape (settings_of header) (state_after (start header) (all_steps (take (k * block) segments)))
                (all_steps (drop (k * block) segments));
          };
      all = λ k low. (are.all k (omega (arith, low, places_many segments))).1;
    };
  }

-- those of the segments before an edit
pub sums_in_front : (header : Header) (segments : List SegmentView) (sums : List (List TaskTally)) (before : ℕ) → AreSumsBefore header segments sums →
    AreSumsBefore header (take before segments) sums
sums_in_front header segments sums before are = record {
  each = λ k sum low found.
      let within : k * block ≤ before = omega (arith, low, length-take before segments) in
      let whole : k * block < length segments = omega (arith, low, length-take before segments) in
      subst (λ (xs : List SegmentView). AreTallied header xs sum) (sym (take-take (k * block) before segments within)) (are.each k sum whole found);
  all = λ k low. are.all k (omega (arith, low, length-take before segments));
}

abbrev pub front_sums : (segments : List SegmentView) (sums : CheckpointSums) (before : ℕ) → HasSums segments sums → HasSumsInFront (take before segments) sums
front_sums segments sums before known = record {
  header = known.header;
  rest = drop before segments;
  replay = subst (IsReplay known.header) (sym (take-append-drop before segments)) known.replay;
  are_sums = sums_in_front known.header segments sums.before before known.are_sums.before;
}

-- ---- the rest of the first segments and what is replayed after them

module _ (front : List SegmentView) (replayed : List TaskTally) (known : AreTalliedAfter front replayed) (count : ℕ) (lent : List SegmentView)
    (lent_is : lent ≡ take (length front - count) (drop count front)) (total : List TaskTally) (summed_front : AreTallied known.header (take count front) total)
  where
    pub whole : take count front ++ lent ≡ front
    whole =
        ap (λ xs. take count front ++ xs) (lent_is ∙ take_all (length front - count) (drop count front) (omega (arith, length-drop count front)))
        ∙ take-append-drop count front

    abbrev pub before_lent_front : AreTalliedLater total lent
    before_lent_front = not_later total lent (record {
      header = known.header;
      earlier = take count front;
      later = known.made ++ known.later;
      replay = subst (IsReplay known.header) (append_assoc front known.made known.later ∙ ap (λ xs. xs ++ (known.made ++ known.later)) (sym whole))
          known.replay;
      tallied = summed_front;
    })

    module _ (total_1 : List TaskTally) (counted : Counts total lent total_1) where
      front_tallied : AreTallied known.header front total_1
      front_tallied = subst (λ (xs : List SegmentView). AreTallied known.header xs total_1) whole (counted before_lent_front)

      pub front_shapes : shape total_1 ≡ shape replayed
      front_shapes = run_shapes known.header (front ++ known.made ++ known.later) known.replay front known.made known.later refl replayed total_1 known.counts
          front_tallied known.sizes

      pub front_fits : AllCountsBelow (2 ^ 32) (added total_1 replayed)
      front_fits = run_fits known.header (front ++ known.made ++ known.later) known.replay front known.made known.later refl replayed total_1 known.counts
          front_tallied

      pub front_added : (total_2 : List TaskTally) → total_2 ≡ added total_1 replayed → shape total_2 ≡ shape total_1 → AreTallied known.header
          (front ++ known.made) total_2
      front_added = run_goes known.header (front ++ known.made ++ known.later) known.replay front known.made known.later refl replayed total_1 known.counts
          front_tallied

-- ---- the loop that makes them

-- the sum of the segments so far is pushed at each block's begin
pub sums_pushed : (header : Header) (segments : List SegmentView) (index : ℕ) (sums pushed : List (List TaskTally)) (total sum : List TaskTally) → pushed ≡ sums
    ++ sum ∷ [] → sum ≡ total → index ≡ length sums * block → AreTallied header (take index segments) total
    → ((k : ℕ) (one : List TaskTally) → slice_get sums k ≡ Some one → AreTallied header (take (k * block) segments) one)
    → (k : ℕ) (one : List TaskTally) → slice_get pushed k ≡ Some one → AreTallied header (take (k * block) segments) one
sums_pushed header segments index sums pushed total sum are same here tallied each k one found =
    ⊎_elim (λ (there : slice_get sums k ≡ Some one). each k one there)
    (λ (last : (k ≡ length sums) × (one ≡ sum)).
    let place : index ≡ k * block = omega (arith, here, last.0) in
    subst (λ (n : ℕ). AreTallied header (take n segments) one) place (subst (AreTallied header (take index segments)) (sym (last.1 ∙ same)) tallied))
    (sum_there sums sum one k (ap (λ (xs : List (List TaskTally)). slice_get xs k) (sym are) ∙ found))

-- ---- where there are sums

pub some_then : {X : Type 0} (P Q : X → Type 0) (given : Option X) → ((x : X) → P x → Q x) → IfSome given P → IfSome given Q
some_then P Q None goes so = tt
some_then P Q (Some x) goes so = goes x so

-- a replay with sums
abbrev pub has_sums : (header : Header) (span : ℕ) (segments : List SegmentView) (sums : CheckpointSums) → IsReplay header segments → AreSumsOf
    (kept_of header span segments) sums → HasSums segments sums
has_sums header span segments sums replay are = record {
  header = header;
  replay = replay;
  are_sums = sums_known header span segments sums are;
}
