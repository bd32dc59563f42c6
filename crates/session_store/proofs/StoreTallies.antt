-- The tallies of a session, one segment after another.
use Rattle.std.proofs.Common.{◌≡◌, ◌⊎◌, inl, false, ℕ, suc, ◌+◌, ◌^◌, ◌<◌, ◌≤◌, List, [], ◌∷◌, ◌++◌, length, take, drop, Some, refl, sym, ap, subst, ◌∙◌, arith}
use Rattle.std.proofs.Common.{add-one}
use Rattle.std.specs.Prelude.{slice_get, true, ◌==◌}
use Rattle.std.proofs.Math.Dec.{eqb-suc-zero}
use Rattle.std.proofs.lemmas.List.{take_all, append_assoc, append-nil, length-append}
use Rattle.bench_types.specs.declared.header.Header.{Header}
use Rattle.bench_types.specs.declared.kernel_data.Settings.{Settings}
use Rattle.bench_types.specs.declared.step.Step.{Step}
use Rattle.bench_types.specs.Step.{settings_of}
use Rattle.bench_model.specs.Control.{Control}
use Rattle.bench_model.specs.Equal.{StandsFor}
use Rattle.bench_model.specs.Lists.{View}
use Rattle.bench_model.specs.Session.{state_after}
use Rattle.bench_model.specs.Shifted.{some_delays_until}
use Rattle.bench_model.specs.Start.{start}
use Rattle.bench_model.specs.Table.{Table}
use Rattle.bench_model.specs.Tallied.{first_tallies, part_tallies, added, shape, shape_of, AllCountsBelow}
use Rattle.bench_model.specs.Tally.{TaskTally, tallies}
use Rattle.session_laws.proofs.Tallies.{part_few, parts_added, stepwise}
use Rattle.tallies.proofs.Rooms.{wider_room}
use Rattle.segment_laws.specs.Segments.{SegmentView, all_steps, later_segments, AreSegments, Follow}
use Rattle.segment_laws.proofs.Following.{all_more, follow_back, split_at, take_with}
use Rattle.segment_laws.proofs.LaterSegments.{later_steps}
use Rattle.segment_laws.proofs.Reading.{kernel_settings, segment_kernel_settings}
use Rattle.session_store.specs.Kept.{kept_of, IsKept}
use Rattle.session_store.specs.Trials.{AreTallied, AreTalliedAfter, AreTalliedBefore, AreTalliedLater, IsReplay, StayLater}

pub replay_of : (header : Header) (span : ℕ) (segments : List SegmentView) → IsKept header span segments → IsReplay header segments
replay_of header span segments kept = record { session = kept.session; few_steps = kept.few_steps; follow = kept.follow }

module _ (header : Header) (segments : List SegmentView) (replay : IsReplay header segments) where
  are : AreSegments (kept_of header 0 segments) segments
  are = record { steps = refl; places = refl; follow = replay.follow }

  -- no segment is counted yet
  pub none_tallied : (first : SegmentView) (kernel : View) (total : List TaskTally) → Some first ≡ slice_get segments 0 → kernel ≡ first.kernel → total ≡
      first_tallies kernel.settings kernel.control → shape total ≡ shape_of kernel.settings
      → AreTallied header [] total
  none_tallied first kernel total found lent summed_front sized =
      let there = split_at segments 0 first (sym found) in
      let stands = (subst (Follow (start header)) there replay.follow).0 in
      let settings : kernel.settings ≡ settings_of header = ap (λ (v : View). v.settings) lent ∙ segment_kernel_settings (kept_of header 0 segments) segments 0
      first are (sym found) replay.session in
      let control : kernel.control ≡ (start header).control = ap (λ (v : View). v.control) lent ∙ ap (λ (v : View). v.control) (sym stands.shows) in
      record {
        counts = summed_front ∙ ap (λ s. first_tallies s kernel.control) settings ∙ ap (λ (c : Control). first_tallies (settings_of header) c) control;
        sizes = sized ∙ ap shape_of settings;
      }

  pub all_tallied : (total : List TaskTally) → AreTallied header segments total → total ≡ tallies header (all_steps segments)
  all_tallied total so = so.counts ∙ sym (stepwise header (all_steps segments))

  -- a run of segments has the tallies of one segment with the first's kernel and all their steps
  module _ (front run rest : List SegmentView) (whole : segments ≡ front ++ run ++ rest) (part total : List TaskTally)
      (shown : part ≡ part_tallies (settings_of header) (state_after (start header) (all_steps front)) (all_steps run)) (so_far : AreTallied header front total)
    where
      run_sum : added total part ≡ part_tallies (settings_of header) (start header) (all_steps (front ++ run))
      run_sum =
          ap (λ (a : List TaskTally). added a part) so_far.counts ∙ ap (added (part_tallies (settings_of header) (start header) (all_steps front))) shown
          ∙ sym (parts_added (settings_of header) (start header) (all_steps front) (all_steps run)) ∙ ap (part_tallies (settings_of header) (start header))
          (sym (all_more front run))

      pub run_shapes : shape part ≡ shape_of (settings_of header) → shape total ≡ shape part
      run_shapes sized = so_far.sizes ∙ sym sized

      few : suc (length (all_steps (front ++ run))) ≤ 2 ^ 32
      few =
          let all = ap (λ (xs : List SegmentView). all_steps xs) whole ∙ all_more (front ++ run) rest in
          omega (arith, replay.few_steps, ap (λ (xs : List Step). length xs) all, length-append (all_steps (front ++ run)) (all_steps rest))

      -- no count of few steps is near the end of its numbers
      pub run_fits : AllCountsBelow (2 ^ 32) (added total part)
      run_fits =
          let steps = all_steps (front ++ run) in
          subst (AllCountsBelow (2 ^ 32)) (sym run_sum) (wider_room (part_tallies (settings_of header) (start header) steps) few
          (part_few (settings_of header) (start header) steps))

      pub run_goes : (next : List TaskTally) → next ≡ added total part → shape next ≡ shape total → AreTallied header (front ++ run) next
      run_goes next sum sized = record {
        counts = sum ∙ run_sum;
        sizes = sized ∙ so_far.sizes;
      }

  module _ (front : List SegmentView) (segment : SegmentView) (rest : List SegmentView) (whole : segments ≡ front ++ segment ∷ rest)
      (part total : List TaskTally)
      (shown : (table : Table) → StandsFor segment.kernel table → part ≡ part_tallies segment.kernel.settings table segment.steps)
      (so_far : AreTallied header front total) where
    settings : segment.kernel.settings ≡ settings_of header
    settings = kernel_settings (kept_of header 0 segments) segments front segment rest are whole replay.session

    part_is : part ≡ part_tallies (settings_of header) (state_after (start header) (all_steps front)) (all_steps (segment ∷ []))
    part_is =
        let cut = state_after (start header) (all_steps front) in
        shown cut (follow_back front (segment ∷ rest) (start header) (subst (Follow (start header)) whole replay.follow)).0 ∙ ap
        (λ (s : Settings). part_tallies s cut segment.steps) settings
        ∙ ap (part_tallies (settings_of header) cut) (sym (append-nil segment.steps))

    split : segments ≡ front ++ segment ∷ [] ++ rest
    split = whole ∙ sym (append_assoc front (segment ∷ []) rest)

    pub sum_shapes : shape part ≡ shape_of segment.kernel.settings → shape total ≡ shape part
    sum_shapes sized = run_shapes front (segment ∷ []) rest split part total part_is so_far (sized ∙ ap shape_of settings)

    pub sum_fits : AllCountsBelow (2 ^ 32) (added total part)
    sum_fits = run_fits front (segment ∷ []) rest split part total part_is so_far

    pub tallied_goes : (next : List TaskTally) → next ≡ added total part → shape next ≡ shape total → AreTallied header (front ++ segment ∷ []) next
    tallied_goes = run_goes front (segment ∷ []) rest split part total part_is so_far

-- one of the segments after those that were counted
module _ (before : List TaskTally) (segments : List SegmentView) (known : AreTalliedBefore before segments) (index : ℕ) (segment : SegmentView)
    (found : slice_get segments index ≡ Some segment) where
  abbrev pub front : List SegmentView
  front = known.earlier ++ take index segments

  abbrev pub rest : List SegmentView
  rest = drop (suc index) segments ++ known.later

  pub whole : known.earlier ++ segments ++ known.later ≡ front ++ segment ∷ rest
  whole =
      let split = split_at segments index segment found in
      ap (λ xs. known.earlier ++ xs ++ known.later) split ∙ ap (λ xs. xs ++ known.later)
      (sym (append_assoc known.earlier (take index segments) (segment ∷ drop (suc index) segments)))
      ∙ append_assoc front (segment ∷ drop (suc index) segments) known.later

  pub front_goes : front ++ segment ∷ [] ≡ known.earlier ++ take (index + 1) segments
  front_goes =
      append_assoc known.earlier (take index segments) (segment ∷ []) ∙ ap (λ xs. known.earlier ++ xs) (sym (take_with segments index segment found)) ∙ ap
      (λ n. known.earlier ++ take n segments) (sym (add-one index))

pub begins_tallied : (header : Header) (earlier segments : List SegmentView) (total : List TaskTally) → AreTallied header earlier total → AreTallied header
    (earlier ++ take 0 segments) total
begins_tallied header earlier segments total so = subst (λ (xs : List SegmentView). AreTallied header xs total) (sym (append-nil earlier)) so

pub ends_tallied : (header : Header) (earlier segments : List SegmentView) (count : ℕ) (total : List TaskTally) → length segments ≤ count → AreTallied header
    (earlier ++ take count segments) total → AreTallied header (earlier ++ segments) total
ends_tallied header earlier segments count total all so = subst (λ (xs : List SegmentView). AreTallied header (earlier ++ xs) total)
    (take_all count segments all) so

-- what a call that counts the segments promises
abbrev pub Counts : List TaskTally → List SegmentView → List TaskTally → Type 0
Counts old segments new = (known : AreTalliedLater old segments) → AreTallied known.before.header (known.before.earlier ++ segments) new

-- segments of a replay as it stands
abbrev pub not_later : (total : List TaskTally) (segments : List SegmentView) → AreTalliedBefore total segments → AreTalliedLater total segments
not_later total segments known = record { by = 0; unread = inl refl; before = known }

-- tallies are told by the steps alone
pub tallied_alike : (header : Header) (segments others : List SegmentView) (total : List TaskTally) → all_steps segments ≡ all_steps others → AreTallied header
    segments total → AreTallied header others total
tallied_alike header segments others total same so = record {
  counts = so.counts ∙ ap (part_tallies (settings_of header) (start header)) same;
  sizes = so.sizes;
}

-- all segments of a replay are counted, as a slice lends them
module _ (header : Header) (segments : List SegmentView) (replay : IsReplay header segments) (lent : List SegmentView) (total : List TaskTally) where
  abbrev pub before_lent : lent ≡ segments → AreTallied header [] total → AreTalliedLater total lent
  before_lent are none = not_later total lent (record {
    header = header;
    earlier = [];
    later = [];
    replay = subst (IsReplay header) (sym (append-nil lent ∙ are)) replay;
    tallied = none;
  })

  pub counted_all : (next : List TaskTally) → lent ≡ segments → AreTallied header [] total → Counts total lent next → next ≡ tallies header (all_steps segments)
  counted_all next are none counted =
      all_tallied header segments replay next (subst (λ (xs : List SegmentView). AreTallied header xs next) are (counted (before_lent are none)))

-- ---- what is replayed after the first segments of an edited session

pub first_there : (front rest : List SegmentView) (first : SegmentView) → slice_get front 0 ≡ Some first → slice_get (front ++ rest) 0 ≡ Some first
first_there [] rest first found = absurd (cc found)
first_there (segment ∷ front) rest first found = found

-- the first of some segments
pub first_of : (front : List SegmentView) → 0 < length front → (first : SegmentView) × (slice_get front 0 ≡ Some first)
first_of [] some = absurd (omega (arith, some))
first_of (first ∷ front) some = (first, refl)

pub empty_front : (front : List SegmentView) → (length front == 0) ≡ true → front ≡ []
empty_front [] none = refl
empty_front (segment ∷ front) none = absurd (cc (none, eqb-suc-zero (length front)))

module _ (front : List SegmentView) (replayed : List TaskTally) (known : AreTalliedAfter front replayed) where
  -- where there are none, that is all so far
  pub only_replayed : front ≡ [] → AreTallied known.header (front ++ known.made) replayed
  only_replayed none = record {
    counts =
        known.counts ∙ ap (λ (xs : List SegmentView). part_tallies (settings_of known.header) (state_after (start known.header) (all_steps xs))
        (all_steps known.made)) none
        ∙ ap (λ (xs : List SegmentView). part_tallies (settings_of known.header) (start known.header) (all_steps (xs ++ known.made))) (sym none);
    sizes = known.sizes;
  }

-- the segments that come after them, as a slice tells them
module _ (segments lent : List SegmentView) (before after : ℕ) (replayed : List TaskTally) (known : AreTalliedAfter (take before segments) replayed)
    (later : StayLater known.later (drop after segments)) (there : lent ≡ segments) where
  abbrev pub back : List SegmentView
  back = drop after lent

  pub back_there : back ≡ drop after segments
  back_there = ap (λ (xs : List SegmentView). drop after xs) there

  pub back_is : later_segments later.by back ≡ known.later
  back_is = ap (later_segments later.by) back_there ∙ sym later.are

  module _ (total : List TaskTally) (so_far : AreTallied known.header (take before segments ++ known.made) total) where
    abbrev pub before_back : AreTalliedLater total back
    before_back = record {
      by = later.by;
      unread = subst (λ (ss : List SegmentView). (later.by ≡ 0) ⊎ (some_delays_until (all_steps ss) ≡ false)) (sym back_there) later.unread;
      before = record {
        header = known.header;
        earlier = take before segments ++ known.made;
        later = [];
        replay =
            subst (IsReplay known.header) (ap (λ (xs : List SegmentView). take before segments ++ known.made ++ xs) (sym back_is) ∙ sym
            (append-nil (take before segments ++ known.made ++ later_segments later.by back))) known.replay;
        tallied = so_far;
      };
    }

    steps_there : all_steps (take before segments ++ known.made ++ known.later) ≡ all_steps (take before segments ++ known.made ++ drop after segments)
    steps_there =
        all_more (take before segments ++ known.made) known.later
        ∙ ap (λ xs. all_steps (take before segments ++ known.made) ++ xs) (ap all_steps later.are ∙ later_steps later.by (drop after segments))
        ∙ sym (all_more (take before segments ++ known.made) (drop after segments))

    pub all_counted : (next : List TaskTally) → Counts total back next → next ≡ tallies known.header
        (all_steps (take before segments ++ known.made ++ drop after segments))
    all_counted next counted =
        all_tallied known.header (take before segments ++ known.made ++ known.later) known.replay next
        (tallied_alike known.header (take before segments ++ known.made ++ drop after segments) (take before segments ++ known.made ++ known.later) next
        (sym steps_there)
        (subst (λ (xs : List SegmentView). AreTallied known.header (take before segments ++ known.made ++ xs) next) back_there (counted before_back)))
        ∙ ap (tallies known.header) steps_there
