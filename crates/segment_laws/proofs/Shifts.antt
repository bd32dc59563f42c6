-- Where the segments of a session lie after an edit: those before it stay, and those after it move.
use Rattle.std.proofs.Common.{◌≡◌, ◌⊎◌, inl, inr, ⊎_elim, ℕ, ◌+◌, ◌-◌, ◌<◌, ◌≤◌, true, List, [], ◌∷◌, ◌++◌, length, Some, Ok, slice_get, refl, sym, ap, subst}
use Rattle.std.proofs.Common.{◌∙◌, arith, length-append, length-set}
use Rattle.std.specs.List.Sorted.{IsStrictlyIncreasing}
use Rattle.std.proofs.lemmas.Bool.Decides.{nat_tests}
use Rattle.std.proofs.lemmas.List.{append_assoc, map-append}
use Rattle.bench_types.specs.declared.edit.Edit.{Edit}
use Rattle.bench_types.specs.declared.edit.Edit.TheVariants.{Insert, Remove, Replace, ChangeTask}
use Rattle.bench_types.specs.declared.step.Step.{Step}
use Rattle.list_orders.specs.Search.{has}
use Rattle.bench_model.specs.Edits.{accepted, edited}
use Rattle.bench_model.specs.Meeting.{CheckpointedSession, last_place, place_of, moved_place, is_compared}
use Rattle.session_laws.proofs.EditedSessions.{passed, length-insert, length-remove}
use Rattle.meeting_laws.specs.CheckpointLaws.{AreCheckpoints}
use Rattle.meeting_laws.proofs.Moves.{edit_there, inserted_after, is_after, removed_after}
use Rattle.meeting_laws.proofs.Places.{has_first}
use Rattle.segment_laws.specs.EditedSegments.{IsSplitAt, AreSplit}
use Rattle.segment_laws.specs.Segments.{SegmentView, all_steps, lengths, starts, AreSegments}
use Rattle.segment_laws.proofs.EditedSteps.{below_part, split_steps, within_part}
use Rattle.segment_laws.proofs.Following.{all_more}
use Rattle.segment_laws.proofs.Starts.{total, all_length, starts_append, start_from, start_until, first_or_rest, has_either, has_left, has_right, ArePositive}
use Rattle.segment_laws.proofs.Starts.{AreParts, ascend_parts, parts_front}

-- The front are the segments of the session that do not move: those before the edit, and the one
-- that is split, where there is one.
pub record IsShift (kept : CheckpointedSession) (edit : Edit) (segments before : List SegmentView) (steps : List Step) (after front : List SegmentView) : Type 0
  where
    pub whole : segments ≡ front ++ after
    pub result : (edited edit kept.session).steps ≡ all_steps before ++ (steps ++ all_steps after)
    pub begins : length (all_steps before) ≤ place_of edit
    pub listed : has (length (all_steps before)) kept.checkpoints ≡ true
    pub positive : ArePositive (lengths before)
    pub reaches : length (all_steps before) ≤ length (all_steps front)
    -- which places begin the front
    pub earlier : (n : ℕ) → has n (starts 0 (lengths before)) ≡ true → has n (starts 0 (lengths front)) ≡ true
    pub early : (n : ℕ) → has n (starts 0 (lengths front)) ≡ true → (has n (starts 0 (lengths before)) ≡ true) ⊎ (n ≡ length (all_steps before))
    pub uncompared : (n : ℕ) → has n (starts 0 (lengths front)) ≡ true → is_compared edit n ≡ true → ⊥
    -- and those that begin what is after it
    pub compared : (n : ℕ) → has n (starts (length (all_steps front)) (lengths after)) ≡ true → is_compared edit n ≡ true
    pub moves : (n : ℕ) → has n (starts (length (all_steps front)) (lengths after)) ≡ true → moved_place edit n + length (all_steps front) ≡ n +
        (length (all_steps before) + length steps)
    pub past : (n : ℕ) → has n (starts (length (all_steps front)) (lengths after)) ≡ true → n ≤ place_of edit → n ≤ length (all_steps before)

pub start_listed : (span last : ℕ) (checkpoints : List ℕ) → AreCheckpoints span last checkpoints → has 0 checkpoints ≡ true
start_listed span last checkpoints fit = at checkpoints fit.start
  where
    at : (places : List ℕ) → slice_get places 0 ≡ Some 0 → has 0 places ≡ true
    at [] first = absurd (cc first)
    at (place ∷ places) first =
        let same : place ≡ 0 = cc first in
        ap (λ n. has 0 (n ∷ places)) same ∙ has_first 0 places

-- ---- an edit of a segment

module _ (kept : CheckpointedSession) (edit : Edit) (segments before : List SegmentView) (part : SegmentView) (after : List SegmentView)
    (fit : AreCheckpoints kept.span (last_place kept.session) kept.checkpoints) (are : AreSegments kept segments)
    (split : IsSplitAt edit segments before part after) where
  abbrev begin : ℕ
  begin = length (all_steps before)

  abbrev front : List SegmentView
  front = before ++ part ∷ []

  whole : segments ≡ front ++ after
  whole = split.whole ∙ sym (append_assoc before (part ∷ []) after)

  front_length : length (all_steps front) ≡ begin + length part.steps
  front_length = omega (arith, ap length (all_more before (part ∷ [])), length-append (all_steps before) (part.steps ++ []), length-append part.steps [])

  front_places : starts 0 (lengths front) ≡ starts 0 (lengths before) ++ begin ∷ []
  front_places =
      let there : 0 + total (lengths before) ≡ begin = omega (arith, all_length before) in
      ap (starts 0) (map-append (λ (segment : SegmentView). length segment.steps) before (part ∷ []))
      ∙ starts_append 0 (lengths before) (length part.steps ∷ [])
      ∙ ap (λ p. starts 0 (lengths before) ++ p ∷ []) there

  front_listed : (n : ℕ) → has n (starts 0 (lengths front)) ≡ true → has n kept.checkpoints ≡ true
  front_listed n found =
      ap (has n) (sym are.places ∙ ap (λ segments. starts 0 (lengths segments)) whole ∙ ap (starts 0)
      (map-append (λ (segment : SegmentView). length segment.steps) front after) ∙ starts_append 0 (lengths front) (lengths after))
      ∙ has_left n (starts 0 (lengths front)) (starts (0 + total (lengths front)) (lengths after)) found

  begin_early : has begin (starts 0 (lengths front)) ≡ true
  begin_early = ap (has begin) front_places ∙ has_right begin (starts 0 (lengths before)) (begin ∷ []) (has_first begin [])

  early : (n : ℕ) → has n (starts 0 (lengths front)) ≡ true → (has n (starts 0 (lengths before)) ≡ true) ⊎ (n ≡ begin)
  early n found =
      ⊎_elim (λ there. inl there)
      (λ last. ⊎_elim (λ same. inr (sym same)) (λ none. absurd (cc none)) (first_or_rest begin n [] last))
      (has_either n (starts 0 (lengths before)) (begin ∷ []) (sym (ap (has n) front_places) ∙ found))

  early_until : (n : ℕ) → has n (starts 0 (lengths front)) ≡ true → n ≤ place_of edit
  early_until n found = ⊎_elim
      (λ there. omega (arith, start_until n 0 (lengths before) there, all_length before, split.from))
      (λ same. omega (arith, same, split.from))
      (early n found)

  positive : ArePositive (lengths before)
  positive =
      parts_front (lengths before) (length part.steps) (lengths after)
      (subst AreParts (ap lengths split.whole ∙ map-append (λ (segment : SegmentView). length segment.steps) before (part ∷ after))
      (ascend_parts 0 (lengths segments) (subst IsStrictlyIncreasing (sym are.places) fit.ascend)))

  past_edit : (n : ℕ) → has n (starts (length (all_steps front)) (lengths after)) ≡ true → place_of edit < n
  past_edit n = at after refl
    where
      at : (rest : List SegmentView) → after ≡ rest → has n (starts (length (all_steps front)) (lengths rest)) ≡ true → place_of edit < n
      at [] is found = absurd (cc found)
      at (next ∷ rest) is found = omega (arith, split.within next rest is, front_length, start_from n (length (all_steps front)) (lengths (next ∷ rest)) found)

  -- where just the places after the edit are compared, and move as its segment grows or shrinks
  part_shift : (steps : List Step) → (edited edit kept.session).steps ≡ all_steps before ++ (steps ++ all_steps after) →
      ((n : ℕ) → is_compared edit n ≡ true → place_of edit < n) → ((n : ℕ) → place_of edit < n → is_compared edit n ≡ true) →
      ((n : ℕ) → place_of edit < n → moved_place edit n + length part.steps ≡ n + length steps) → IsShift kept edit segments before steps after front
  part_shift steps result only compared moves = record {
    whole = whole;
    result = result;
    begins = split.from;
    listed = front_listed begin begin_early;
    positive = positive;
    reaches = omega (arith, front_length);
    earlier = λ n found. ap (has n) front_places ∙ has_left n (starts 0 (lengths before)) (begin ∷ []) found;
    early = early;
    uncompared = λ n found is. absurd (omega (arith, early_until n found, only n is));
    compared = λ n found. compared n (past_edit n found);
    moves = λ n found. omega (arith, moves n (past_edit n found), front_length);
    past = λ n found low. absurd (omega (arith, low, past_edit n found));
  }

-- ---- each edit

module _ (kept : CheckpointedSession) (segments before : List SegmentView) (steps : List Step) (after : List SegmentView)
    (fit : AreCheckpoints kept.span (last_place kept.session) kept.checkpoints) (are : AreSegments kept segments) where
  pub shifts : (edit : Edit) → accepted kept.session edit ≡ Ok tt → AreSplit edit segments before steps after → (front : List SegmentView) × IsShift kept edit
      segments before steps after front
  shifts (Insert at step) accepts parts =
      let part = parts.0 in
      let edit = Insert at step in
      let within = within_part kept segments before part after are edit parts.1 (edit_there kept.session edit accepts) in
      let longer = length-insert part.steps (at - length (all_steps before)) step within in (
        before ++ part ∷ [],
        part_shift kept edit segments before part after fit are parts.1 steps (split_steps kept edit segments before steps after accepts are parts)
            (is_after at)
            (λ n past. grind (arith, nat_tests, past))
            (λ n past. omega (arith, inserted_after at n step past, ap length parts.2, longer)),
      )
  shifts (Remove at) accepts parts =
      let part = parts.0 in
      let edit = Remove at in
      let passes = passed kept.session edit accepts in
      let early : at < length kept.session.steps = grind (arith, nat_tests, passes.place) in
      let shorter = length-remove part.steps (at - length (all_steps before)) (below_part kept segments before part after are edit parts.1 early) in (
        before ++ part ∷ [],
        part_shift kept edit segments before part after fit are parts.1 steps (split_steps kept edit segments before steps after accepts are parts)
            (is_after at)
            (λ n past. grind (arith, nat_tests, past))
            (λ n past. omega (arith, past, removed_after at n past, ap length parts.2, shorter)),
      )
  shifts (Replace at step) accepts parts =
      let part = parts.0 in
      let edit = Replace at step in (
        before ++ part ∷ [],
        part_shift kept edit segments before part after fit are parts.1 steps (split_steps kept edit segments before steps after accepts are parts)
            (is_after at)
            (λ n past. grind (arith, nat_tests, past))
            (λ n past. omega (arith, ap length parts.2, length-set part.steps (at - length (all_steps before)) step)),
      )
  shifts (ChangeTask task priority mask) accepts parts = ([], at before parts.0 steps parts.1 after parts.2)
    where
      all : IsShift kept (ChangeTask task priority mask) segments [] [] segments []
      all = record {
        whole = refl;
        result = sym are.steps;
        begins = omega arith;
        listed = start_listed kept.span (last_place kept.session) kept.checkpoints fit;
        positive = tt;
        reaches = omega arith;
        earlier = λ n found. found;
        early = λ n found. absurd (cc found);
        uncompared = λ n found is. absurd (cc found);
        compared = λ n found. refl;
        moves = λ n found. omega arith;
        past = λ n found low. low;
      }

      at : (b : List SegmentView) → b ≡ [] → (s : List Step) → s ≡ [] → (a : List SegmentView) → a ≡ segments → IsShift kept (ChangeTask task priority mask)
          segments b s a []
      at b none s empty a whole =
          subst (λ b. IsShift kept (ChangeTask task priority mask) segments b s a []) (sym none)
          (subst (λ s. IsShift kept (ChangeTask task priority mask) segments [] s a []) (sym empty)
          (subst (λ a. IsShift kept (ChangeTask task priority mask) segments [] [] a []) (sym whole) all))
