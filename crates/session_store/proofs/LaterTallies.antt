-- The tallies of segments that are so many ticks later.
use Rattle.std.proofs.Common.{◌≡◌, ◌⊎◌, inl, inr, ⊎_elim, ℕ, zero, suc, ◌+◌, ◌^◌, ◌<◌, ◌≤◌, Bool, true, false, cond, eqb, List, [], ◌∷◌, ◌++◌, length, map}
use Rattle.std.proofs.Common.{take, drop, refl, sym, ap, subst, ◌∙◌, arith}
use Rattle.std.specs.Prelude.{All, Some, slice_get}
use Rattle.std.proofs.lemmas.Bool.Decides.{nat_tests}
use Rattle.std.proofs.lemmas.List.{length-map, map-append}
use Rattle.std.proofs.lemmas.Option.{same_Some}
use Rattle.bench_types.specs.declared.kernel_data.Settings.{Settings}
use Rattle.bench_types.specs.declared.step.Step.{Step}
use Rattle.bench_types.specs.Step.{settings_of, IsCheckedStep}
use Rattle.bench_model.specs.Equal.{StandsFor}
use Rattle.bench_model.specs.Lists.{View, view_of}
use Rattle.bench_model.specs.Shifted.{shifted, some_delays_until}
use Rattle.bench_model.specs.Table.{Table}
use Rattle.bench_model.specs.Tallied.{added, part_tallies, shape, shape_of, AllCountsBelow}
use Rattle.bench_model.specs.Tally.{TaskTally}
use Rattle.smp_kernel.specs.Kernel.{StandsForSome}
use Rattle.shift_laws.proofs.Steps.{not_shifted}
use Rattle.shift_laws.specs.Shifts.{IsShifted}
use Rattle.meeting_laws.specs.RunLaws.{MeetBy}
use Rattle.meeting_laws.proofs.Meets.{met_run_alike}
use Rattle.segment_laws.specs.Segments.{SegmentView, all_steps, later_segment, later_segments, AreSegments}
use Rattle.segment_laws.proofs.Following.{all_more}
use Rattle.segment_laws.proofs.LaterSegments.{later_parts, later_steps}
use Rattle.segment_laws.proofs.Reading.{kernel_settings, part_checked}
use Rattle.session_segments.proofs.Unread.{unread_one}
use Rattle.session_store.specs.Kept.{kept_of}
use Rattle.session_store.specs.Trials.{AreTallied, AreTalliedBefore, AreTalliedLater}
use Rattle.session_store.proofs.StoreTallies.{ends_tallied, front, front_goes, rest, sum_fits, sum_shapes, tallied_alike, tallied_goes, whole}

-- ---- one segment

-- the segment so many ticks later, or as it is
abbrev pub later_one : ℕ → SegmentView → SegmentView
later_one by segment = cond (eqb by 0) segment (later_segment by segment)

pub later_found : (by : ℕ) (segments : List SegmentView) (index : ℕ) (segment : SegmentView) → slice_get segments index ≡ Some segment → slice_get
    (later_segments by segments) index ≡ Some (later_one by segment)
later_found by segments index segment found = at (eqb by 0)
  where
    moved : (segments : List SegmentView) (index : ℕ) → slice_get segments index ≡ Some segment → slice_get (map (later_segment by) segments) index ≡ Some
        (later_segment by segment)
    moved [] index found = absurd (cc found)
    moved (first ∷ segments) zero found = ap (λ one. Some (later_segment by one)) (same_Some first segment found)
    moved (first ∷ segments) (suc index) found = moved segments index found

    at : (b : Bool) → slice_get (cond b segments (map (later_segment by) segments)) index ≡ Some (cond b segment (later_segment by segment))
    at true = found
    at false = moved segments index found

pub one_steps : (by : ℕ) (segment : SegmentView) → (later_one by segment).steps ≡ segment.steps
one_steps by segment = at (eqb by 0)
  where
    at : (b : Bool) → (cond b segment (later_segment by segment)).steps ≡ segment.steps
    at true = refl
    at false = refl

pub one_settings : (by : ℕ) (segment : SegmentView) → (later_one by segment).kernel.settings ≡ segment.kernel.settings
one_settings by segment = at (eqb by 0)
  where
    at : (b : Bool) → (cond b segment (later_segment by segment)).kernel.settings ≡ segment.kernel.settings
    at true = refl
    at false = refl

-- a table that it stands for is later than each that the segment stands for
pub one_shifted : (by : ℕ) (segment : SegmentView) (a b : Table) → StandsFor segment.kernel a → StandsFor (later_one by segment).kernel b → IsShifted by a b
one_shifted by segment a b one two = at (eqb by 0) refl two
  where
    at : (x : Bool) → eqb by 0 ≡ x → StandsFor (cond x segment (later_segment by segment)).kernel b → IsShifted by a b
    at true is two =
        let none : by ≡ 0 = grind (arith, nat_tests, is) in
        subst (λ n. IsShifted n a b) (sym none) (not_shifted a b (one.shows ∙ sym two.shows))
    at false is two = two.shows ∙ ap (shifted by) (sym one.shows)

-- ---- lists of them

pub later_append : (by : ℕ) (first second : List SegmentView) → later_segments by (first ++ second) ≡ later_segments by first ++ later_segments by second
later_append by first second = at (eqb by 0)
  where
    at : (b : Bool) → cond b (first ++ second) (map (later_segment by) (first ++ second)) ≡ cond b first (map (later_segment by) first) ++ cond b second
        (map (later_segment by) second)
    at true = refl
    at false = map-append (later_segment by) first second

pub later_length : (by : ℕ) (segments : List SegmentView) → length (later_segments by segments) ≡ length segments
later_length by segments = at (eqb by 0)
  where
    at : (b : Bool) → length (cond b segments (map (later_segment by) segments)) ≡ length segments
    at true = refl
    at false = length-map segments (later_segment by)

-- ---- one of the segments after those that were counted

module _ (before : List TaskTally) (segments : List SegmentView) (known : AreTalliedLater before segments) (index : ℕ) (segment : SegmentView)
    (found : slice_get segments index ≡ Some segment) (part : List TaskTally) (stands : StandsForSome segment.kernel)
    (shown : (table : Table) → StandsFor segment.kernel table → part ≡ part_tallies segment.kernel.settings table segment.steps)
    (sized : shape part ≡ shape_of segment.kernel.settings) where
  abbrev moved : List SegmentView
  moved = later_segments known.by segments

  abbrev own : SegmentView
  own = later_one known.by segment

  own_found : slice_get moved index ≡ Some own
  own_found = later_found known.by segments index segment found

  abbrev all : List SegmentView
  all = known.before.earlier ++ moved ++ known.before.later

  abbrev own_front : List SegmentView
  own_front = front before moved known.before index own own_found

  abbrev own_rest : List SegmentView
  own_rest = rest before moved known.before index own own_found

  own_whole : all ≡ own_front ++ own ∷ own_rest
  own_whole = whole before moved known.before index own own_found

  are : AreSegments (kept_of known.before.header 0 all) all
  are = record { steps = refl; places = refl; follow = known.before.replay.follow }

  settings : segment.kernel.settings ≡ settings_of known.before.header
  settings = sym (one_settings known.by segment) ∙ kernel_settings (kept_of known.before.header 0 all) all own_front own own_rest are own_whole
      known.before.replay.session

  checked : All (IsCheckedStep segment.kernel.settings) segment.steps
  checked =
      subst (λ s. All (IsCheckedStep s) segment.steps) (sym settings)
      (subst (All (IsCheckedStep (settings_of known.before.header))) (one_steps known.by segment)
      (part_checked (kept_of known.before.header 0 all) all own_front own own_rest are own_whole known.before.replay.session))

  own_shown : (table : Table) → StandsFor own.kernel table → part ≡ part_tallies own.kernel.settings table own.steps
  own_shown table is =
      let was = stands.0 in
      let stood = stands.1 in
      let set : was.settings ≡ segment.kernel.settings = ap (λ (view : View). view.settings) stood.shows in
      let meet : MeetBy known.by was table segment.steps = record {
        later = one_shifted known.by segment was table stood is;
        unread = ⊎_elim (λ none. inl none) (λ unread. inr (unread_one segments index segment found unread)) known.unread;
      } in
      let run = met_run_alike known.by was table segment.steps stood.sound is.sound meet (subst (λ s. All (IsCheckedStep s) segment.steps) (sym set) checked) in
      shown was stood
      ∙ ap (λ (s : Settings). part_tallies s was segment.steps) (sym set)
      ∙ run.tallies
      ∙ ap (λ (s : Settings). part_tallies s table segment.steps) (set ∙ sym (one_settings known.by segment))
      ∙ ap (part_tallies own.kernel.settings table) (sym (one_steps known.by segment))

  own_sized : shape part ≡ shape_of own.kernel.settings
  own_sized = sized ∙ ap shape_of (sym (one_settings known.by segment))

  module _ (total : List TaskTally) (so_far : AreTallied known.before.header (known.before.earlier ++ take index moved) total) where
    pub later_shapes : shape total ≡ shape part
    later_shapes = sum_shapes known.before.header all known.before.replay own_front own own_rest own_whole part total own_shown so_far own_sized

    pub later_fits : AllCountsBelow (2 ^ 32) (added total part)
    later_fits = sum_fits known.before.header all known.before.replay own_front own own_rest own_whole part total own_shown so_far

    pub later_goes : (next : List TaskTally) → next ≡ added total part → shape next ≡ shape total → AreTallied known.before.header
        (known.before.earlier ++ take (index + 1) moved) next
    later_goes next sum kept =
        subst (λ (xs : List SegmentView). AreTallied known.before.header xs next) (front_goes before moved known.before index own own_found)
        (tallied_goes known.before.header all known.before.replay own_front own own_rest own_whole part total own_shown so_far next sum kept)

-- all of them are counted
pub ends_later : (before : List TaskTally) (segments : List SegmentView) (known : AreTalliedLater before segments) (count : ℕ) (total : List TaskTally) → length
    segments ≤ count → AreTallied known.before.header (known.before.earlier ++ take count (later_segments known.by segments)) total
    → AreTallied known.before.header (known.before.earlier ++ segments) total
ends_later before segments known count total all so_far =
    let moved = later_segments known.by segments in
    let same : all_steps (known.before.earlier ++ moved) ≡ all_steps (known.before.earlier ++ segments) =
    all_more known.before.earlier moved ∙ ap (λ xs. all_steps known.before.earlier ++ xs) (later_steps known.by segments) ∙ sym
    (all_more known.before.earlier segments) in
    tallied_alike known.before.header (known.before.earlier ++ moved) (known.before.earlier ++ segments) total same
    (ends_tallied known.before.header known.before.earlier moved count total (omega (arith, all, later_length known.by segments)) so_far)
