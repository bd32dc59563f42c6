-- The segments of an edited session: their steps, and that they follow one another.
use Rattle.std.proofs.Common.{◌≡◌, ◌⊎◌, inl, inr, ⊎_elim, ℕ, suc, ◌+◌, ◌-◌, ◌*◌, ◌<◌, ◌≤◌, Bool, true, false, cond, not, ◌&&◌, leb, List, [], ◌∷◌, ◌++◌, length}
use Rattle.std.proofs.Common.{map, take, drop, set, Ok, refl, sym, ap, ap₂, subst, ◌∙◌, arith, take-add}
use Rattle.std.specs.Prelude.{All, Some, insert, remove, slice_get}
use Rattle.std.specs.List.{flat_map}
use Rattle.std.proofs.lemmas.Bool.Decides.{nat_tests}
use Rattle.std.proofs.lemmas.Grind.{flat_map-append}
use Rattle.std.proofs.lemmas.List.{append-nil, append_assoc, take-append-drop, take-append-le, take_at, drop_at, drop-append-le, drop-drop, length-append}
use Rattle.std.proofs.lemmas.List.{set-append_left, set-append_right}
use Rattle.std.proofs.lemmas.List.Folds.{flat_map-map}
use Rattle.bench_types.specs.declared.edit.Edit.{Edit}
use Rattle.bench_types.specs.declared.edit.Edit.TheVariants.{Insert, Remove, Replace, ChangeTask}
use Rattle.bench_types.specs.declared.step.Step.{Step}
use Rattle.bench_types.specs.Edit.{IsEditOfWords}
use Rattle.bench_types.specs.Session.{Session, IsSession}
use Rattle.bench_types.specs.Step.{IsCheckedStep}
use Rattle.bench_model.specs.Edits.{accepted, edited}
use Rattle.bench_model.specs.Equal.{StandsFor}
use Rattle.bench_model.specs.Meeting.{CheckpointedSession, place_of}
use Rattle.bench_model.specs.Session.{state_after, state_at}
use Rattle.bench_model.specs.Start.{start}
use Rattle.bench_model.specs.Table.{Table}
use Rattle.session_laws.proofs.EditedSessions.{edited_session, passed}
use Rattle.meeting_laws.specs.RunLaws.{MeetBy}
use Rattle.meeting_laws.proofs.Moves.{edit_there}
use Rattle.segment_laws.specs.EditedSegments.{IsSplitAt, AreSplit, is_empty, has_none, cut, AreReplayed}
use Rattle.segment_laws.specs.Segments.{SegmentView, steps_of, all_steps, later_segments, Follow, AreSegments}
use Rattle.segment_laws.proofs.Following.{take_found, all_more, segments_split, state_append, follow_append, follow_front, follow_back}
use Rattle.segment_laws.proofs.LaterSegments.{follow_met, later_nothing, later_steps}
use Rattle.segment_laws.proofs.Reading.{state_front, front_sound, front_settings, back_checked, part_steps}

-- ---- the segments that the replay made

-- the steps of parts, one part after another
abbrev joined : List (List Step) → List Step
joined parts = flat_map (λ steps. steps) parts

own_steps : (segments : List SegmentView) → joined (map steps_of segments) ≡ all_steps segments
own_steps segments = flat_map-map (λ steps. steps) steps_of segments

-- steps that are cut are the same steps
pub cut_joined : (span : ℕ) (is_last : Bool) (steps : List Step) → joined (cut span is_last steps) ≡ steps
cut_joined span is_last steps = at (leb (2 * span) (length steps)) steps
  where
    none : (last : Bool) (steps : List Step) → joined (cond (is_empty steps && not last) [] (steps ∷ [])) ≡ steps
    none true [] = refl
    none false [] = refl
    none last (step ∷ steps) = append-nil (step ∷ steps)

    at : (b : Bool) (steps : List Step) → joined (cond b (take span steps ∷ drop span steps ∷ []) (cond (is_empty steps && not is_last) [] (steps ∷ []))) ≡
        steps
    at true steps = ap (λ rest. take span steps ++ rest) (append-nil (drop span steps)) ∙ take-append-drop span steps
    at false steps = none is_last steps

pub made_steps : (span : ℕ) (table : Table) (steps : List Step) (after made : List SegmentView) (count by : ℕ) → AreReplayed span table steps after made count
    by → all_steps made ≡ steps ++ all_steps (take count after)
made_steps span table steps after made count by replayed =
    sym (own_steps made)
    ∙ ap joined replayed.parts
    ∙ flat_map-append (λ (part : List Step). part) (cut span (has_none after) steps) (map steps_of (take count after))
    ∙ ap₂ (λ xs ys. xs ++ ys) (cut_joined span (has_none after) steps) (own_steps (take count after))

-- ---- a list in three parts whose second part is edited

module _ {X : Type 0} (front own rest : List X) (at k : ℕ) (place : at ≡ length front + k) where
  take_there : k ≤ length own → take at (front ++ (own ++ rest)) ≡ front ++ take k own
  take_there within =
      ap (λ n. take n (front ++ (own ++ rest))) place
      ∙ take-add (length front) k (front ++ (own ++ rest))
      ∙ ap₂ (λ xs ys. xs ++ take k ys) (take_at front (own ++ rest) (length front) refl) (drop_at front (own ++ rest) (length front) refl)
      ∙ ap (λ ys. front ++ ys) (take-append-le k own rest within)

  drop_there : k ≤ length own → drop at (front ++ (own ++ rest)) ≡ drop k own ++ rest
  drop_there within =
      ap (λ n. drop n (front ++ (own ++ rest))) place
      ∙ sym (drop-drop k (length front) (front ++ (own ++ rest)))
      ∙ ap (drop k) (drop_at front (own ++ rest) (length front) refl)
      ∙ drop-append-le k own rest within

  insert_there : (x : X) → k ≤ length own → insert (front ++ (own ++ rest)) at x ≡ front ++ (insert own k x ++ rest)
  insert_there x within =
      ap₂ (λ xs ys. xs ++ x ∷ ys) (take_there within) (drop_there within)
      ∙ append_assoc front (take k own) (x ∷ (drop k own ++ rest))
      ∙ ap (λ xs. front ++ xs) (sym (append_assoc (take k own) (x ∷ drop k own) rest))

remove_there : {X : Type 0} (front own rest : List X) (at k : ℕ) → at ≡ length front + k → k < length own → remove (front ++ (own ++ rest)) at ≡ front ++
    (remove own k ++ rest)
remove_there front own rest at k place below =
    let next : suc at ≡ length front + suc k = omega (arith, place) in
    ap₂ (λ xs ys. xs ++ ys) (take_there front own rest at k place (omega arith)) (drop_there front own rest (suc at) (suc k) next (omega arith))
    ∙ append_assoc front (take k own) (drop (suc k) own ++ rest)
    ∙ ap (λ xs. front ++ xs) (sym (append_assoc (take k own) (drop (suc k) own) rest))

replace_there : {X : Type 0} (front own rest : List X) (at k : ℕ) (x : X) → at ≡ length front + k → k < length own → set (front ++ (own ++ rest)) at x ≡ front
    ++ (set own k x ++ rest)
replace_there front own rest at k x place below =
    let past : at - length front ≡ k = omega (arith, place) in
    set-append_right front (own ++ rest) (length front) at x refl (omega (arith, place))
    ∙ ap (λ n. front ++ set (own ++ rest) n x) past
    ∙ ap (λ xs. front ++ xs) (set-append_left own rest k x below)

-- ---- the sessions before and after an edit, in parts

-- The steps of both sessions in parts: before the segments after the edit, and those of these; in
-- front are the session's segments before them.
pub record IsCut (kept : CheckpointedSession) (edit : Edit) (before : List SegmentView) (steps : List Step) (after : List SegmentView) : Type 0 where
  pub front : List SegmentView
  pub follow : Follow (start kept.session.header) (front ++ after)
  pub whole : kept.session.steps ≡ all_steps (front ++ after)
  pub begins : Follow (start (edited edit kept.session).header) before
  pub edited : (edited edit kept.session).steps ≡ all_steps before ++ (steps ++ all_steps after)

-- the place of an edit lies in its part, or nothing comes after the part
part_end : (edit : Edit) (segments before : List SegmentView) (part : SegmentView) (after : List SegmentView) → IsSplitAt edit segments before part after →
    (length (all_steps after) ≡ 0) ⊎ (place_of edit < length (all_steps before) + length part.steps)
part_end edit segments before part [] split = inl refl
part_end edit segments before part (next ∷ rest) split = inr (split.within next rest refl)

module _ (kept : CheckpointedSession) (segments before : List SegmentView) (part : SegmentView) (after : List SegmentView) (are : AreSegments kept segments)
  where
    module _ (edit : Edit) (split : IsSplitAt edit segments before part after) where
      session_steps : kept.session.steps ≡ all_steps before ++ (part.steps ++ all_steps after)
      session_steps = part_steps kept segments before part after are split.whole

      pub session_length : length kept.session.steps ≡ length (all_steps before) + length part.steps + length (all_steps after)
      session_length = omega (
        arith,
        ap length session_steps,
        length-append (all_steps before) (part.steps ++ all_steps after),
        length-append part.steps
            (all_steps after),
      )

      place_there : place_of edit ≡ length (all_steps before) + (place_of edit - length (all_steps before))
      place_there = omega (arith, split.from)

      pub within_part : place_of edit ≤ length kept.session.steps → place_of edit - length (all_steps before) ≤ length part.steps
      within_part within = ⊎_elim
          (λ none. omega (arith, within, session_length, none))
          (λ below. omega (arith, below))
          (part_end edit segments before part after split)

      pub below_part : place_of edit < length kept.session.steps → place_of edit - length (all_steps before) < length part.steps
      below_part within = ⊎_elim
          (λ none. omega (arith, within, session_length, none, split.from))
          (λ below. omega (arith, below, split.from))
          (part_end edit segments before part after split)

      part_follows : Follow (start kept.session.header) (before ++ part ∷ after)
      part_follows = subst (Follow (start kept.session.header)) split.whole are.follow

      regrouped : before ++ part ∷ after ≡ (before ++ part ∷ []) ++ after
      regrouped = sym (append_assoc before (part ∷ []) after)

      cut_part : (steps : List Step) → (edited edit kept.session).header ≡ kept.session.header → (edited edit kept.session).steps ≡ all_steps before ++
          (steps ++ all_steps after) → IsCut kept edit before steps after
      cut_part steps header whole = record {
        front = before ++ part ∷ [];
        follow = subst (Follow (start kept.session.header)) regrouped part_follows;
        whole = sym are.steps ∙ ap all_steps (split.whole ∙ regrouped);
        begins = subst (λ header. Follow (start header) before) (sym header) (follow_front before (part ∷ after) (start kept.session.header) part_follows);
        edited = whole;
      }

pub are_cut : (kept : CheckpointedSession) (edit : Edit) (segments before : List SegmentView) (steps : List Step) (after : List SegmentView) → accepted
    kept.session edit ≡ Ok tt → AreSegments kept segments → AreSplit edit segments before steps after → IsCut kept edit before steps after
are_cut kept (Insert at step) segments before steps after accepts are parts =
    let part = parts.0 in
    let edit = Insert at step in
    let session = session_steps kept segments before part after are edit parts.1 in
    let k : ℕ = at - length (all_steps before) in
    let within = within_part kept segments before part after are edit parts.1 (edit_there kept.session edit accepts) in
    let place = place_there kept segments before part after are edit parts.1 in
    cut_part kept segments before part after are edit parts.1 steps refl
    (ap (λ xs. insert xs at step) session ∙ insert_there (all_steps before) part.steps (all_steps after) at k place step within ∙ ap
    (λ xs. all_steps before ++ (xs ++ all_steps after)) (sym parts.2))
are_cut kept (Remove at) segments before steps after accepts are parts =
    let part = parts.0 in
    let edit = Remove at in
    let session = session_steps kept segments before part after are edit parts.1 in
    let k : ℕ = at - length (all_steps before) in
    let passes = passed kept.session edit accepts in
    let early : at < length kept.session.steps = grind (arith, nat_tests, passes.place) in
    let below = below_part kept segments before part after are edit parts.1 early in
    let place = place_there kept segments before part after are edit parts.1 in
    cut_part kept segments before part after are edit parts.1 steps refl
    (ap (λ xs. remove xs at) session ∙ remove_there (all_steps before) part.steps (all_steps after) at k place below ∙ ap
    (λ xs. all_steps before ++ (xs ++ all_steps after)) (sym parts.2))
are_cut kept (Replace at step) segments before steps after accepts are parts =
    let part = parts.0 in
    let edit = Replace at step in
    let session = session_steps kept segments before part after are edit parts.1 in
    let k : ℕ = at - length (all_steps before) in
    let passes = passed kept.session edit accepts in
    let early : at < length kept.session.steps = grind (arith, nat_tests, passes.place) in
    let below = below_part kept segments before part after are edit parts.1 early in
    let place = place_there kept segments before part after are edit parts.1 in
    cut_part kept segments before part after are edit parts.1 steps refl
    (ap (λ xs. set xs at step) session ∙ replace_there (all_steps before) part.steps (all_steps after) at k step place below ∙ ap
    (λ xs. all_steps before ++ (xs ++ all_steps after)) (sym parts.2))
are_cut kept (ChangeTask task priority mask) segments before steps after accepts are parts = record {
  front = [];
  follow = subst (Follow (start kept.session.header)) (sym parts.2) are.follow;
  whole = sym are.steps ∙ ap all_steps (sym parts.2);
  begins = subst (Follow (start (edited (ChangeTask task priority mask) kept.session).header)) (sym parts.0) tt;
  edited = sym are.steps ∙ ap all_steps (sym parts.2) ∙ ap₂ (λ xs ys. all_steps xs ++ (ys ++ all_steps after)) (sym parts.0) (sym parts.1);
}

-- the edited session's steps: those before the edited part, its own and those after it
pub split_steps : (kept : CheckpointedSession) (edit : Edit) (segments before : List SegmentView) (steps : List Step) (after : List SegmentView) → accepted
    kept.session edit ≡ Ok tt → AreSegments kept segments → AreSplit edit segments before steps after → (edited edit kept.session).steps ≡ all_steps before ++
    (steps ++ all_steps after)
split_steps kept edit segments before steps after accepts are parts = (are_cut kept edit segments before steps after accepts are parts).edited

-- ---- segments that stay follow a state that they meet

rest_follows : (by : ℕ) (old next : Session) (front other : List Step) (rest : List SegmentView) → IsSession old → IsSession next → old.steps ≡ front ++
    all_steps rest → next.steps ≡ other ++ all_steps rest → Follow (state_after (start old.header) front) rest
    → ((segment : SegmentView) → slice_get rest 0 ≡ Some segment → StandsFor segment.kernel (state_after (start old.header) front) → MeetBy by
    (state_after (start old.header) front) (state_after (start next.header) other) (all_steps rest))
    → Follow (state_after (start next.header) other) (later_segments by rest)
rest_follows by old next front other [] first second whole there follow meet = subst (Follow (state_after (start next.header) other)) (sym (later_nothing by))
    tt
rest_follows by old next front other (segment ∷ rest) first second whole there follow meet =
    let all = all_steps (segment ∷ rest) in
    let a = state_after (start old.header) front in
    let checked = subst (λ settings. All (IsCheckedStep settings) all) (sym (front_settings old front all first whole)) (back_checked old front all first whole)
    in
    follow_met by (segment ∷ rest) a (state_after (start next.header) other) (front_sound old front all first whole) (front_sound next other all second there)
    (meet segment refl follow.0) checked follow

-- ---- the edited session's segments

module _ (kept : CheckpointedSession) (edit : Edit) (segments before : List SegmentView) (steps : List Step) (after made : List SegmentView) (count by : ℕ)
    (accepts : accepted kept.session edit ≡ Ok tt) (are : AreSegments kept segments) (parts : AreSplit edit segments before steps after)
    (replayed : AreReplayed kept.span (state_at (edited edit kept.session).header (edited edit kept.session).steps (length (all_steps before))) steps after made
    count by) where
  cuts : IsCut kept edit before steps after
  cuts = are_cut kept edit segments before steps after accepts are parts

  made_are : all_steps made ≡ steps ++ all_steps (take count after)
  made_are = made_steps kept.span (state_at (edited edit kept.session).header (edited edit kept.session).steps (length (all_steps before))) steps after made
      count by replayed

  -- the steps of the edited session before the segments that stay
  next_steps : (edited edit kept.session).steps ≡ all_steps (before ++ made) ++ all_steps (drop count after)
  next_steps =
      let b = all_steps before in
      let t = all_steps (take count after) in
      let d = all_steps (drop count after) in
      cuts.edited
      ∙ ap (λ xs. b ++ (steps ++ xs)) (segments_split count after)
      ∙ ap (λ xs. b ++ xs) (sym (append_assoc steps t d))
      ∙ ap (λ xs. b ++ (xs ++ d)) (sym made_are)
      ∙ sym (append_assoc b (all_steps made) d)
      ∙ ap (λ xs. xs ++ d) (sym (all_more before made))

  pub edited_steps : all_steps (before ++ made ++ later_segments by (drop count after)) ≡ (edited edit kept.session).steps
  edited_steps =
      all_more (before ++ made) (later_segments by (drop count after))
      ∙ ap (λ xs. all_steps (before ++ made) ++ xs) (later_steps by (drop count after))
      ∙ sym next_steps

  begin_state : state_at (edited edit kept.session).header (edited edit kept.session).steps (length (all_steps before)) ≡ state_after
      (start (edited edit kept.session).header) (all_steps before)
  begin_state = state_front (edited edit kept.session).header (edited edit kept.session).steps (all_steps before) (steps ++ all_steps after) cuts.edited

  made_follow : Follow (start (edited edit kept.session).header) (before ++ made)
  made_follow = follow_append before made (start (edited edit kept.session).header) cuts.begins (subst (λ table. Follow table made) begin_state replayed.follow)

  -- the state that the replay came to
  reached : state_after (state_at (edited edit kept.session).header (edited edit kept.session).steps (length (all_steps before)))
      (steps ++ all_steps (take count after)) ≡ state_after (start (edited edit kept.session).header) (all_steps (before ++ made))
  reached =
      ap₂ state_after begin_state (sym made_are)
      ∙ sym (state_append (start (edited edit kept.session).header) (all_steps before) (all_steps made))
      ∙ ap (state_after (start (edited edit kept.session).header)) (sym (all_more before made))

  pub edited_follow : IsSession kept.session → IsEditOfWords edit → Follow (start (edited edit kept.session).header)
      (before ++ made ++ later_segments by (drop count after))
  edited_follow is words =
      let rest = drop count after in
      let front = cuts.front ++ take count after in
      let old = start kept.session.header in
      let regrouped : cuts.front ++ after ≡ front ++ rest = ap (λ xs. cuts.front ++ xs) (sym (take-append-drop count after)) ∙ sym
      (append_assoc cuts.front (take count after) rest) in
      let follow = follow_back front rest old (subst (Follow old) regrouped cuts.follow) in
      let whole : kept.session.steps ≡ all_steps front ++ all_steps rest = cuts.whole ∙ ap all_steps regrouped ∙ all_more front rest in
      let meet = λ (segment : SegmentView) (found : slice_get rest 0 ≡ Some segment) (stands : StandsFor segment.kernel (state_after old (all_steps front))).
      subst (λ table. MeetBy by (state_after old (all_steps front)) table (all_steps rest)) reached
      (replayed.met segment (state_after old (all_steps front)) (take_found after count ∙ found) stands) in
      follow_append (before ++ made) (later_segments by rest) (start (edited edit kept.session).header) made_follow
      (rest_follows by kept.session (edited edit kept.session) (all_steps front) (all_steps (before ++ made)) rest is
      (edited_session kept.session edit is words accepts) whole next_steps follow meet)
