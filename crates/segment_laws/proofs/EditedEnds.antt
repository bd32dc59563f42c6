-- The replay of an edit ends where the two sessions meet.
use Rattle.std.proofs.Common.{◌≡◌, inl, inr, ⊎_elim, ℕ, ◌+◌, ◌<◌, ◌≤◌, Bool, true, false, ltb, List, ◌++◌, length, take, drop, Some, None, Ok, slice_get}
use Rattle.std.proofs.Common.{get_or, refl, sym, ap, ap₂, subst, ◌∙◌, arith, length-append, true≢false}
use Rattle.std.proofs.lemmas.Bool.Decides.{nat_tests}
use Rattle.std.proofs.lemmas.List.{append_assoc, drop_at, take_all}
use Rattle.std.proofs.lemmas.Option.{slice_get_cases}
use Rattle.bench_types.specs.declared.edit.Edit.{Edit}
use Rattle.bench_types.specs.declared.header.Header.{Header}
use Rattle.bench_types.specs.declared.step.Step.{Step}
use Rattle.bench_model.specs.Edits.{accepted, edited}
use Rattle.bench_model.specs.Equal.{StandsFor}
use Rattle.bench_model.specs.Meeting.{CheckpointedSession, goes_on_alike, last_place, moved_place, met}
use Rattle.bench_model.specs.Session.{state_after, state_at}
use Rattle.bench_model.specs.Shifted.{is_met}
use Rattle.bench_model.specs.Start.{start}
use Rattle.bench_model.specs.Table.{Table}
use Rattle.meeting_laws.specs.CheckpointLaws.{AreCheckpoints}
use Rattle.meeting_laws.specs.MeetingLaws.{IsMeeting, IsFirstEnd, MayEnd}
use Rattle.meeting_laws.proofs.Meetings.{first_end_is_met, met_is_first}
use Rattle.meeting_laws.proofs.Meets.{meetings_pass}
use Rattle.segment_laws.specs.EditedSegments.{AreUnmet, AreReplayed}
use Rattle.segment_laws.specs.Segments.{SegmentView, all_steps, Follow, AreSegments}
use Rattle.segment_laws.proofs.EditedPlaces.{new_last, old_after, old_either, old_steps}
use Rattle.segment_laws.proofs.EditedSteps.{made_steps}
use Rattle.segment_laws.proofs.Following.{segments_split, follow_back, segment_follows, state_append}
use Rattle.segment_laws.proofs.Reading.{state_front}
use Rattle.segment_laws.proofs.Shifts.{IsShift}
use Rattle.segment_laws.proofs.Starts.{all_length, more_steps, start_at, start_found}

-- the state after more steps
state_further : (header : Header) (steps front own rest : List Step) (place : ℕ) → steps ≡ front ++ (own ++ rest) → place ≡ length front + length own → state_at
    header steps place ≡ state_after (state_at header steps (length front)) own
state_further header steps front own rest place whole there =
    let same : place ≡ length (front ++ own) = omega (arith, there, length-append front own) in
    ap (state_at header steps) same
    ∙ state_front header steps (front ++ own) rest (whole ∙ sym (append_assoc front own rest))
    ∙ state_append (start header) front own
    ∙ ap (λ (table : Table). state_after table own) (sym (state_front header steps front (own ++ rest) whole))

module _ (kept : CheckpointedSession) (edit : Edit) (segments before : List SegmentView) (steps : List Step) (after front : List SegmentView)
    (some : 1 ≤ kept.span) (accepts : accepted kept.session edit ≡ Ok tt) (fit : AreCheckpoints kept.span (last_place kept.session) kept.checkpoints)
    (are : AreSegments kept segments) (shift : IsShift kept edit segments before steps after front) where
  -- where a segment after the edit lay, and where it lies now
  abbrev old_place : ℕ → ℕ
  old_place i = length (all_steps front) + length (all_steps (take i after))

  abbrev new_place : ℕ → ℕ
  new_place i = length (all_steps before) + length steps + length (all_steps (take i after))

  abbrev old_state : ℕ → Table
  old_state place = state_at kept.session.header kept.session.steps place

  abbrev new_state : ℕ → Table
  new_state place = state_at (edited edit kept.session).header (edited edit kept.session).steps place

  session_parts : (i : ℕ) → kept.session.steps ≡ all_steps front ++ (all_steps (take i after) ++ all_steps (drop i after))
  session_parts i = old_steps kept edit segments before steps after front some accepts fit are shift ∙ ap (λ xs. all_steps front ++ xs) (segments_split i after)

  edited_parts : (i : ℕ) → (edited edit kept.session).steps ≡ all_steps before ++ ((steps ++ all_steps (take i after)) ++ all_steps (drop i after))
  edited_parts i =
      shift.result
      ∙ ap (λ xs. all_steps before ++ (steps ++ xs)) (segments_split i after)
      ∙ ap (λ xs. all_steps before ++ xs) (sym (append_assoc steps (all_steps (take i after)) (all_steps (drop i after))))

  replayed_state : (i : ℕ) → new_state (new_place i) ≡ state_after (new_state (length (all_steps before))) (steps ++ all_steps (take i after))
  replayed_state i =
      state_further (edited edit kept.session).header (edited edit kept.session).steps (all_steps before) (steps ++ all_steps (take i after))
      (all_steps (drop i after)) (new_place i) (edited_parts i)
      (omega (arith, length-append steps (all_steps (take i after))))

  -- the kernel of the segment stands for the session's state where it lay
  stands : (i : ℕ) (segment : SegmentView) → slice_get after i ≡ Some segment → StandsFor segment.kernel (old_state (old_place i))
  stands i segment found =
      let first = start kept.session.header in
      let own = all_steps (take i after) in
      let rest = all_steps (drop i after) in
      let follow = follow_back front after first (subst (Follow first) shift.whole are.follow) in
      let there = state_further kept.session.header kept.session.steps (all_steps front) own rest (old_place i) (session_parts i) (omega arith) in
      let begins = state_front kept.session.header kept.session.steps (all_steps front) (own ++ rest) (session_parts i) in
      subst (StandsFor segment.kernel) (sym (there ∙ ap (λ (table : Table). state_after table own) begins))
      (segment_follows (state_after first (all_steps front)) after i segment follow found)

  moves_there : (i : ℕ) (segment : SegmentView) → slice_get after i ≡ Some segment → moved_place edit (old_place i) ≡ new_place i
  moves_there i segment found = omega (arith, shift.moves (old_place i) (start_at after i (length (all_steps front)) segment found))

  last_there : last_place (edited edit kept.session) ≡ length (all_steps before) + length steps + length (all_steps after)
  last_there = omega (arith, new_last kept edit segments before steps after front some accepts fit are shift, all_length after)

  -- the steps from there on are those of the segments
  later_steps_are : (i : ℕ) → drop (new_place i) (edited edit kept.session).steps ≡ all_steps (drop i after)
  later_steps_are i =
      let own = steps ++ all_steps (take i after) in
      let front_size : length (all_steps before ++ own) ≡ new_place i = omega
      (arith, length-append (all_steps before) own, length-append steps (all_steps (take i after))) in
      ap (drop (new_place i)) (edited_parts i ∙ sym (append_assoc (all_steps before) own (all_steps (drop i after))))
      ∙ drop_at (all_steps before ++ own) (all_steps (drop i after)) (new_place i) front_size

  -- so the test of the two sessions is that of the segment's kernel
  met_there : (i place : ℕ) → moved_place edit place ≡ new_place i
      → goes_on_alike kept.session edit place ≡ is_met (old_state place)
      (state_after (new_state (length (all_steps before))) (steps ++ all_steps (take i after))) (all_steps (drop i after))
  met_there i place lies =
      ap (λ n. is_met (old_state place) (new_state n) (drop n (edited edit kept.session).steps)) lies
      ∙ ap₂ (is_met (old_state place)) (replayed_state i) (later_steps_are i)

  module _ (count : ℕ) (unmet : AreUnmet (state_at (edited edit kept.session).header (edited edit kept.session).steps (length (all_steps before))) steps after
      count) where
    ends_first : (other : ℕ) → MayEnd kept edit other → new_place count ≤ other
    ends_first other (inl last) = omega (
      arith,
      last,
      last_there,
      ap length (segments_split count after),
      length-append (all_steps (take count after))
          (all_steps (drop count after)),
    )
    ends_first other (inr (place, meeting, moved)) = ⊎_elim
        (λ early. absurd (shift.uncompared place early meeting.compared))
        (λ later. let by = start_found after place (length (all_steps front)) later in not_before by.0 by.1 by.2 by.3 (ltb by.0 count) refl)
        (old_either kept edit segments before steps after front some accepts fit are shift place meeting.listed)
      where
        not_before : (i : ℕ) (segment : SegmentView) → slice_get after i ≡ Some segment → place ≡ old_place i → (b : Bool) → ltb i count ≡ b → new_place count ≤
            other
        not_before i segment found there true is =
            let early : i < count = grind (arith, nat_tests, is) in
            let lies : moved_place edit place ≡ new_place i = ap (moved_place edit) there ∙ moves_there i segment found in
            let stands_there = subst (λ n. StandsFor segment.kernel (old_state n)) (sym there) (stands i segment found) in
            let unmet_there = unmet i segment (old_state place) early found stands_there in
            absurd (true≢false (sym meeting.alike ∙ met_there i place lies ∙ unmet_there))
        not_before i segment found there false is =
            let past : count ≤ i = grind (arith, nat_tests, is) in
            let lies : moved_place edit place ≡ new_place i = ap (moved_place edit) there ∙ moves_there i segment found in
            omega (arith, sym moved, lies, more_steps after count i past)

    -- the replay ends no earlier than after those that are unequal
    pub ends_later : new_place count ≤ met kept edit
    ends_later = ends_first (met kept edit) (met_is_first kept edit).ends

  module _ (made : List SegmentView) (count by : ℕ) (replayed : AreReplayed kept.span
      (state_at (edited edit kept.session).header (edited edit kept.session).steps (length (all_steps before))) steps after made count by) where
    may_end : MayEnd kept edit (new_place count)
    may_end = ⊎_elim stops ends (slice_get_cases after count).1
      where
        stops : (segment : SegmentView) × (count < length after) × (slice_get after count ≡ Some segment) × (get_or after count segment ≡ segment) → MayEnd kept
            edit (new_place count)
        stops at =
            let segment = at.0 in
            let found = at.2 in
            let place = old_place count in
            let listed = start_at after count (length (all_steps front)) segment found in
            let moved = moves_there count segment found in
            let reached = state_after (new_state (length (all_steps before))) (steps ++ all_steps (take count after)) in
            let passes = meetings_pass by (old_state place) reached (all_steps (drop count after))
            (replayed.met segment (old_state place) found (stands count segment found)) in
            let meeting : IsMeeting kept edit place = record {
              listed = old_after kept edit segments before steps after front some accepts fit are shift place listed;
              compared = shift.compared place listed;
              alike = met_there count place moved ∙ passes;
            } in
            inr (place, meeting, moved)

        ends : (length after ≤ count) × (slice_get after count ≡ None) → MayEnd kept edit (new_place count)
        ends past =
            let all : length (all_steps (take count after)) ≡ length (all_steps after) = ap (λ segments. length (all_steps segments))
            (take_all count after past.0) in
            inl (omega (arith, all, last_there))

    -- the end of the replay is the first where it may end
    pub ends_there : length (all_steps before) + length (all_steps made) ≡ met kept edit
    ends_there =
        let first : IsFirstEnd kept edit (new_place count) = record { ends = may_end; first = ends_first count replayed.unmet } in
        let all = made_steps kept.span (new_state (length (all_steps before))) steps after made count by replayed in
        omega (arith, ap length all, length-append steps (all_steps (take count after)), first_end_is_met kept edit (new_place count) first)
