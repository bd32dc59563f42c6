-- The segments after an edit are those of the edited session, between its checkpoints.
use Rattle.std.proofs.Common.{◌+◌, ◌≡◌, ℕ, ◌≤◌, List, [], ◌∷◌, ◌++◌, length, map, take, drop, Ok, refl, sym, ap, ◌∙◌}
use Rattle.std.proofs.lemmas.List.{append_assoc, map-append, take-append-drop}
use Rattle.bench_types.specs.declared.edit.Edit.{Edit}
use Rattle.bench_types.specs.declared.step.Step.{Step}
use Rattle.bench_types.specs.Edit.{IsEditOfWords}
use Rattle.bench_types.specs.Session.{IsSession}
use Rattle.bench_model.specs.Edits.{accepted, edited}
use Rattle.bench_model.specs.Meeting.{met, CheckpointedSession, last_place}
use Rattle.bench_model.specs.Session.{state_at}
use Rattle.bench_model.specs.Table.{Table}
use Rattle.meeting_laws.specs.CheckpointLaws.{AreCheckpoints}
use Rattle.segment_laws.specs.EditedSegments.{AreUnmet, AreSplit, AreReplayed, cut, has_none}
use Rattle.segment_laws.specs.SegmentLaws.{IsEdited}
use Rattle.segment_laws.specs.Segments.{SegmentView, steps_of, all_steps, later_segments, lengths, starts, AreSegments}
use Rattle.segment_laws.proofs.EditedEnds.{ends_later, ends_there}
use Rattle.segment_laws.proofs.EditedPlaces.{begins_there, cut_lengths, next_places}
use Rattle.segment_laws.proofs.EditedSteps.{edited_follow, edited_steps}
use Rattle.segment_laws.proofs.LaterSegments.{later_lengths}
use Rattle.segment_laws.proofs.Shifts.{shifts}

own_lengths : (segments : List SegmentView) → map (λ (steps : List Step). length steps) (map steps_of segments) ≡ lengths segments
own_lengths [] = refl
own_lengths (segment ∷ segments) = ap (λ rest. length segment.steps ∷ rest) (own_lengths segments)

more_lengths : (xs ys : List SegmentView) → lengths (xs ++ ys) ≡ lengths xs ++ lengths ys
more_lengths xs ys = map-append (λ (segment : SegmentView). length segment.steps) xs ys

-- which of the segments were replayed tells nothing of the lengths
made_lengths : (span : ℕ) (table : Table) (steps : List Step) (after made : List SegmentView) (count by : ℕ) → AreReplayed span table steps after made count by
    → lengths made ++ lengths (drop count after) ≡ cut_lengths span after steps ++ lengths after
made_lengths span table steps after made count by replayed =
    let parts = cut span (has_none after) steps in
    let front = take count after in
    let rest = drop count after in
    ap (λ ns. ns ++ lengths rest)
    (sym (own_lengths made)
    ∙ ap (map (λ (steps : List Step). length steps)) replayed.parts
    ∙ map-append (λ (steps : List Step). length steps) parts (map steps_of front)
    ∙ ap (λ ns. cut_lengths span after steps ++ ns) (own_lengths front))
    ∙ append_assoc (cut_lengths span after steps) (lengths front) (lengths rest)
    ∙ ap (λ ns. cut_lengths span after steps ++ ns) (sym (more_lengths front rest) ∙ ap lengths (take-append-drop count after))

pub edited_segments_stand : (kept : CheckpointedSession) (edit : Edit) (segments before : List SegmentView) (steps : List Step) (after made : List SegmentView)
    (count by : ℕ) → IsSession kept.session → IsEditOfWords edit → accepted kept.session edit ≡ Ok tt → 1 ≤ kept.span → AreCheckpoints kept.span
    (last_place kept.session) kept.checkpoints → AreSegments kept segments → AreSplit edit segments before steps after → AreReplayed kept.span
    (state_at (edited edit kept.session).header (edited edit kept.session).steps (length (all_steps before))) steps after made count by → IsEdited kept edit
    before made (later_segments by (drop count after))
edited_segments_stand kept edit segments before steps after made count by is words accepts some fit are parts replayed =
    let table = state_at (edited edit kept.session).header (edited edit kept.session).steps (length (all_steps before)) in
    let rest = later_segments by (drop count after) in
    let shift = shifts kept segments before steps after fit are edit accepts parts in
    let there : lengths (before ++ made ++ rest) ≡ lengths before ++ (cut_lengths kept.span after steps ++ lengths after) =
    more_lengths (before ++ made) rest
    ∙ ap (λ ns. ns ++ lengths rest) (more_lengths before made)
    ∙ append_assoc (lengths before) (lengths made) (lengths rest)
    ∙ ap (λ ns. lengths before ++ (lengths made ++ ns)) (later_lengths by (drop count after))
    ∙ ap (λ ns. lengths before ++ ns) (made_lengths kept.span table steps after made count by replayed) in
    record {
      segments = record {
        steps = edited_steps kept edit segments before steps after made count by accepts are parts replayed;
        places = ap (starts 0) there ∙ next_places kept edit segments before steps after shift.0 some accepts fit are shift.1;
        follow = edited_follow kept edit segments before steps after made count by accepts are parts replayed is words;
      };
      from = begins_there kept edit segments before steps after shift.0 some accepts fit are shift.1;
      met = ends_there kept edit segments before steps after shift.0 some accepts fit are shift.1 made count by replayed;
    }

pub unmet_are_replayed : (kept : CheckpointedSession) (edit : Edit) (segments before : List SegmentView) (steps : List Step) (after : List SegmentView)
    (count : ℕ) → accepted kept.session edit ≡ Ok tt → 1 ≤ kept.span → AreCheckpoints kept.span (last_place kept.session) kept.checkpoints → AreSegments kept
    segments
    → AreSplit edit segments before steps after → AreUnmet (state_at (edited edit kept.session).header (edited edit kept.session).steps
    (length (all_steps before))) steps after count
    → length (all_steps before) + length steps + length (all_steps (take count after)) ≤ met kept edit
unmet_are_replayed kept edit segments before steps after count accepts some fit are parts unmet =
    let shift = shifts kept segments before steps after fit are edit accepts parts in
    ends_later kept edit segments before steps after shift.0 some accepts fit are shift.1 count unmet
