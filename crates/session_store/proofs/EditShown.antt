-- What is counted and told of an edit, and what the store keeps after it.
use Rattle.std.proofs.Common.{◌≡◌, ℕ, ◌+◌, ◌^◌, ◌<◌, ◌≤◌, List, [], ◌∷◌, ◌++◌, length, take, drop, get_or, Ok, refl, sym, ap, subst, ◌∙◌, arith}
use Rattle.std.specs.Prelude.{Result, Err, OnErr, Some, slice_get}
use Rattle.std.proofs.lemmas.Bool.Decides.{nat_tests}
use Rattle.std.proofs.lemmas.List.{length-append, take_more, append-nil}
use Rattle.std.proofs.lemmas.List.Folds.{length-flat_map-take}
use Rattle.bench_types.specs.declared.edit.Edit.{Edit}
use Rattle.bench_types.specs.declared.header.Header.{Header}
use Rattle.bench_types.specs.declared.step.Step.{Step}
use Rattle.bench_types.specs.Edit.{IsEditOfWords}
use Rattle.bench_types.specs.Limits.{max_steps}
use Rattle.bench_types.specs.Session.{Session, IsSession}
use Rattle.bench_model.specs.Edits.{accepted, edited}
use Rattle.bench_model.specs.Meeting.{last_place, next_checkpoints, kept_after}
use Rattle.session_laws.proofs.EditedSessions.{edited_session, edited_room}
use Rattle.meeting_laws.specs.CheckpointLaws.{AreCheckpoints}
use Rattle.meeting_laws.proofs.Checkpoints.{next_fit}
use Rattle.segment_laws.specs.Segments.{SegmentView, steps_of, all_steps, later_segments, lengths, starts, AreSegments}
use Rattle.segment_laws.proofs.Following.{all_more}
use Rattle.session_store.specs.Kept.{kept_of, session_of, IsKept}
use Rattle.session_store.specs.Replays.{IsEditReplay}

-- one segment more is counted
pub counted_segment : (segments : List SegmentView) (index count : ℕ) (segment : SegmentView) (steps : List Step) → index < length segments → segment ≡ get_or
    segments index segment → steps ≡ segment.steps
    → count ≡ length (all_steps (take index segments)) → count + length steps ≡ length (all_steps (take (index + 1) segments))
counted_segment segments index count segment steps early read are so_far =
    let before = take index segments in
    let more : all_steps (take (index + 1) segments) ≡ all_steps before ++ segment.steps =
    ap all_steps (take_more segments index segment early ∙ ap (λ s. before ++ s ∷ []) (sym read)) ∙ all_more before (segment ∷ []) ∙ ap
    (λ xs. all_steps before ++ xs) (append-nil segment.steps) in
    omega (arith, so_far, ap length are, ap length more, length-append (all_steps before) segment.steps)

pub counted_fits : (segments : List SegmentView) (index count : ℕ) (segment : SegmentView) (steps : List Step) → index < length segments → segment ≡ get_or
    segments index segment → steps ≡ segment.steps
    → length (all_steps segments) < 2 ^ 32 → count ≡ length (all_steps (take index segments)) → count + length steps < 2 ^ 32
counted_fits segments index count segment steps early read are few so_far =
    let within : length (all_steps (take index segments)) + length segment.steps ≤ length (all_steps segments) =
    subst (λ (s : SegmentView). length (all_steps (take index segments)) + length s.steps ≤ length (all_steps segments)) (sym read)
    (length-flat_map-take steps_of segments index segment early) in
    omega (arith, few, so_far, within, ap length are)

-- what was counted before a refusal
pub counts_err : {T E : Type 0} (result : Result T E) {Counted : Type 0} → Counted → OnErr result Counted
counts_err (Ok value) counted = tt
counts_err (Err why) counted = counted

-- where there is a first place there is a first segment
some_begins : (segments : List SegmentView) (places : List ℕ) → starts 0 (lengths segments) ≡ places → slice_get places 0 ≡ Some 0 → 0 < length segments
some_begins [] places are first = absurd (cc (are, first))
some_begins (segment ∷ segments) places are first = omega arith

module _ (header : Header) (span : ℕ) (segments : List SegmentView) (edit : Edit) (kept : IsKept header span segments) (words : IsEditOfWords edit)
    (accepts : accepted (session_of header segments) edit ≡ Ok tt) (made : List SegmentView) (before after by : ℕ)
    (replay : IsEditReplay (kept_of header span segments) edit segments made before after by) where
  abbrev next : Session
  next = edited edit (session_of header segments)

  abbrev parts : List SegmentView
  parts = take before segments ++ made ++ later_segments by (drop after segments)

  are : AreSegments (kept_after edit (kept_of header span segments)) parts
  are = replay.edited.segments

  fit : AreCheckpoints span (last_place next) (next_checkpoints (kept_of header span segments) edit)
  fit =
      let some : 1 ≤ span = grind (arith, nat_tests, kept.span_fits) in
      next_fit (kept_of header span segments) edit some accepts kept.checkpoints

  few : length (all_steps parts) ≤ max_steps
  few = omega (arith, ap length are.steps, edited_room (session_of header segments) edit kept.few_steps accepts)

  pub some_parts : 0 < length parts
  some_parts = some_begins parts (next_checkpoints (kept_of header span segments) edit) are.places fit.start

  pub few_parts : length (all_steps parts) < 2 ^ 32
  few_parts = omega (arith, few)

  -- what the store keeps after the edit
  pub kept_next : (header_next : Header) (parts_next : List SegmentView) → header_next ≡ next.header → parts_next ≡ parts → IsKept header_next span parts_next
  kept_next header_next parts_next headers there =
      subst (λ h. IsKept h span parts_next) (sym headers) (subst (IsKept next.header span) (sym there) (record {
        session = subst (λ all. IsSession (record { header = next.header; steps = all })) (sym are.steps)
            (edited_session (session_of header segments) edit kept.session words accepts);
        few_steps = few;
        span_fits = kept.span_fits;
        checkpoints = subst (λ all. AreCheckpoints span (length all) (starts 0 (lengths parts))) (sym are.steps)
            (subst (AreCheckpoints span (last_place next)) (sym are.places) fit);
        follow = are.follow;
      }))

  -- the segments that stay and those that are made, under the header that is made
  pub kept_parts : (header_next : Header) → header_next ≡ next.header → IsKept header_next span parts
  kept_parts header_next headers = kept_next header_next parts headers refl
