-- The states of a session that a store gives, and how far each is from the checkpoint before it.
use Rattle.std.proofs.Common.{◌≡◌, ℕ, suc, ◌+◌, ◌-◌, ◌<◌, ◌≤◌, Bool, true, false, leb, List, [], ◌∷◌, length, take, drop, Some, refl, sym, ap, subst, ◌∙◌}
use Rattle.std.proofs.Common.{arith}
use Rattle.std.specs.Prelude.{All, slice_get}
use Rattle.std.proofs.lemmas.Bool.Decides.{nat_tests}
use Rattle.std.proofs.lemmas.List.{length-drop, length-append, append-nil}
use Rattle.std.proofs.lemmas.Option.{slice_get_within}
use Rattle.bench_types.specs.declared.header.Header.{Header}
use Rattle.bench_types.specs.declared.kernel_data.Settings.{Settings}
use Rattle.bench_types.specs.Step.{settings_of, IsCheckedStep}
use Rattle.list_orders.specs.Search.{has}
use Rattle.bench_model.specs.Equal.{StandsFor}
use Rattle.bench_model.specs.Lists.{View}
use Rattle.bench_model.specs.Meeting.{checkpoint_before}
use Rattle.bench_model.specs.Session.{state_after, state_at}
use Rattle.bench_model.specs.Table.{Table}
use Rattle.meeting_laws.proofs.Checkpoints.{before_is_last}
use Rattle.segment_laws.specs.Segments.{SegmentView, all_steps, lengths, starts, IsIndexOf}
use Rattle.segment_laws.proofs.Following.{take_with, all_more}
use Rattle.segment_laws.proofs.Reading.{segment_checked, segment_kernel_settings}
use Rattle.segment_laws.proofs.Shifts.{start_listed}
use Rattle.segment_laws.proofs.Starts.{start_at, start_found, more_steps}
use Rattle.session_store.specs.Kept.{kept_of, IsKept}
use Rattle.session_store.specs.Outcomes.{distance}
use Rattle.session_store.proofs.StoreReads.{are_segments, read_at, part_at}

module _ (header : Header) (span : ℕ) (segments : List SegmentView) (kept : IsKept header span segments) where
  module _ (place index from : ℕ) (segment : SegmentView) (is : IsIndexOf (starts 0 (lengths segments)) place index from)
      (found : slice_get segments index ≡ Some segment) where
    pub state_read : (kernel : View) → ((table : Table) → StandsFor segment.kernel table → StandsFor kernel
        (state_after table (take (place - from) segment.steps))) → StandsFor kernel (state_at header (all_steps segments) place)
    state_read kernel so =
        let read = read_at header span segments kept place index from segment is found in
        subst (StandsFor kernel) (sym read.state) (so (state_at header (all_steps segments) from) read.stands)

    pub settings_read : segment.kernel.settings ≡ settings_of header
    settings_read = segment_kernel_settings (kept_of header span segments) segments index segment (are_segments header span segments kept) found kept.session

    pub checked_read : All (IsCheckedStep segment.kernel.settings) segment.steps
    checked_read =
        subst (λ settings. All (IsCheckedStep settings) segment.steps) (sym settings_read)
        (segment_checked (kept_of header span segments) segments index segment (are_segments header span segments kept) found kept.session)

    -- its kernel has the cores of the header
    pub cores_read : header.config.cores ≡ segment.kernel.settings.cores
    cores_read = ap (λ (s : Settings). s.cores) (sym settings_read)

    pub within_read : place ≤ length (all_steps segments) → place - from ≤ length segment.steps
    within_read within = (read_at header span segments kept place index from segment is found).within within

    begins : length (all_steps (take index segments)) ≡ from
    begins = (part_at header span segments kept place index from segment is found).begins

    -- the segment is that of the last checkpoint before the place
    listed : has from (starts 0 (lengths segments)) ≡ true
    listed =
        let here : 0 + length (all_steps (take index segments)) ≡ from = omega (arith, begins) in
        ap (λ n. has n (starts 0 (lengths segments))) (sym here) ∙ start_at segments index 0 segment found

    no_later : (n : ℕ) → has n (starts 0 (lengths segments)) ≡ true → n ≤ place → n ≤ from
    no_later n there before = at (leb one.0 index) refl
      where
        one : (i : ℕ) × (segment : SegmentView) × (slice_get segments i ≡ Some segment) × (n ≡ 0 + length (all_steps (take i segments)))
        one = start_found segments n 0 there

        later : index < one.0 → (after : List SegmentView) → drop (index + 1) segments ≡ after → n ≤ from
        later far [] drops =
            absurd (omega (
              arith,
              far,
              slice_get_within segments one.0 one.1 one.2,
              length-drop (index + 1) segments,
              ap (λ (xs : List SegmentView). length xs)
                  drops,
            ))
        later far (next ∷ rest) drops =
            let early = (part_at header span segments kept place index from segment is found).split.within next rest drops in
            let own = ap (λ (xs : List SegmentView). length (all_steps xs)) (take_with segments index segment found) in
            let steps = ap length (all_more (take index segments) (segment ∷ [])) in
            absurd (omega (
              arith,
              early,
              before,
              one.3,
              more_steps segments (suc index) one.0 (omega (arith, far)),
              own,
              steps,
              length-append (all_steps (take index segments)) (all_steps (segment ∷ [])),
              ap length (append-nil segment.steps),
            ))

        at : (b : Bool) → leb one.0 index ≡ b → n ≤ from
        at true so =
            let low : one.0 ≤ index = grind (arith, nat_tests, so) in
            omega (arith, one.3, more_steps segments one.0 index low, begins)
        at false so =
            let far : index < one.0 = grind (arith, nat_tests, so) in
            later far (drop (index + 1) segments) refl

    checkpoint_is : checkpoint_before (starts 0 (lengths segments)) place ≡ from
    checkpoint_is =
        let last = before_is_last (starts 0 (lengths segments)) place (start_listed span (length (all_steps segments)) (starts 0 (lengths segments))
        kept.checkpoints) in
        let low = no_later (checkpoint_before (starts 0 (lengths segments)) place) last.listed last.before in
        omega (arith, low, last.last from listed is.before)

    pub distance_read : place ≤ length (all_steps segments) → distance (kept_of header span segments) place ≡ place - from
    distance_read within =
        let same = checkpoint_is in
        grind (arith, nat_tests, within, same)
