-- The checkpoints of an edited session are the places where its segments begin.
use Rattle.std.proofs.Common.{◌≡◌, ◌⊎◌, inl, inr, ⊎_elim, ℕ, suc, ◌+◌, ◌-◌, ◌*◌, ◌<◌, ◌≤◌, Bool, true, false, cond, eqb, ltb, leb, ◌&&◌, not, List, [], ◌∷◌}
use Rattle.std.proofs.Common.{◌++◌, length, map, take, drop, Ok, refl, sym, ap, ap₂, subst, ◌∙◌, arith, length-append, length-drop, length-take-le}
use Rattle.std.specs.Prelude.{filter}
use Rattle.std.specs.List.{list_any}
use Rattle.std.specs.List.Sorted.{IsStrictlyIncreasing}
use Rattle.std.proofs.lemmas.Bool.{and_parts}
use Rattle.std.proofs.lemmas.Bool.Decides.{nat_tests}
use Rattle.std.proofs.lemmas.List.{map-append}
use Rattle.bench_types.specs.declared.edit.Edit.{Edit}
use Rattle.bench_types.specs.declared.step.Step.{Step}
use Rattle.list_orders.specs.Search.{numbers, has}
use Rattle.list_orders.proofs.Filters.{has-filter}
use Rattle.list_orders.proofs.Stamped.{numbers_have}
use Rattle.order_laws.proofs.Selects.{list_any_at}
use Rattle.bench_model.specs.Edits.{accepted, edited}
use Rattle.bench_model.specs.Meeting.{CheckpointedSession, last_place, place_of, moved_place, replayed_from, moved_checkpoints, segment_end, next_checkpoints}
use Rattle.meeting_laws.specs.CheckpointLaws.{AreCheckpoints, IsMoved, IsAdded}
use Rattle.meeting_laws.proofs.Checkpoints.{ascending_are_one, before_is_last, next_are_these, next_fit}
use Rattle.meeting_laws.proofs.Moves.{stays_before}
use Rattle.meeting_laws.proofs.Places.{any_found, has_first, has_rest, least_each, least_from, least_within}
use Rattle.segment_laws.specs.EditedSegments.{has_none, is_empty, cut}
use Rattle.segment_laws.specs.Segments.{SegmentView, all_steps, lengths, starts, AreSegments}
use Rattle.segment_laws.proofs.Following.{all_more}
use Rattle.segment_laws.proofs.Shifts.{IsShift, start_listed}
use Rattle.segment_laws.proofs.Starts.{total, all_length, starts_append, start_from, start_until, start_moved, first_or_rest, has_either, has_left, has_right}
use Rattle.segment_laws.proofs.Starts.{AreParts, ascend_parts, parts_ascend, parts_back, parts_join}

-- ---- what is cut

-- two parts, none or one
abbrev pub CutCases : ℕ → List SegmentView → List Step → List ℕ → Type 0
CutCases span after steps parts =
    ((2 * span ≤ length steps) × (parts ≡ span ∷ (length steps - span) ∷ []))
    ⊎ (((length steps ≡ 0) × (has_none after ≡ false) × (parts ≡ []))
    ⊎ (((has_none after ≡ true) ⊎ (1 ≤ length steps)) × (length steps < 2 * span) × (parts ≡ length steps ∷ [])))

abbrev pub cut_lengths : ℕ → List SegmentView → List Step → List ℕ
cut_lengths span after steps = map (λ (steps : List Step). length steps) (cut span (has_none after) steps)

pub cut_cases : (span : ℕ) (after : List SegmentView) (steps : List Step) → CutCases span after steps (cut_lengths span after steps)
cut_cases span after steps = at (leb (2 * span) (length steps)) refl
  where
    uncut : (steps : List Step) → length steps < 2 * span → CutCases span after steps
        (map (λ (steps : List Step). length steps) (cond (is_empty steps && not (has_none after)) [] (steps ∷ [])))
    uncut (step ∷ steps) short = inr (inr (inr (omega arith), short, refl))
    uncut [] short = by (has_none after) refl
      where
        by : (b : Bool) → has_none after ≡ b → CutCases span after [] (map (λ (steps : List Step). length steps) (cond (not b) [] ([] ∷ [])))
        by true is = inr (inr (inl is, short, refl))
        by false is = inr (inl (refl, is, refl))

    at : (b : Bool) → leb (2 * span) (length steps) ≡ b → CutCases span after steps
        (map (λ (steps : List Step). length steps) (cond b (take span steps ∷ drop span steps ∷ [])
        (cond (is_empty steps && not (has_none after)) [] (steps ∷ []))))
    at true is =
        let long : 2 * span ≤ length steps = grind (arith, nat_tests, is) in
        inl (long, ap₂ (λ a b. a ∷ b ∷ []) (length-take-le span steps (omega (arith, long))) (length-drop span steps))
    at false is = uncut steps (grind (arith, nat_tests, is))

pub none_after : (after : List SegmentView) → has_none after ≡ true → lengths after ≡ []
none_after [] none = refl
none_after (segment ∷ after) none = absurd (cc none)

-- what a first part that is not there says of the places
pub some_after : (after : List SegmentView) (place : ℕ) → has_none after ≡ false → has place (starts place (lengths after)) ≡ true
some_after [] place some = absurd (cc some)
some_after (segment ∷ after) place some = has_first place (starts (place + length segment.steps) (lengths after))

module _ (span : ℕ) (after : List SegmentView) (steps : List Step) (some : 1 ≤ span) where
  abbrev cuts : List ℕ
  cuts = cut_lengths span after steps

  pub cut_total : total cuts ≡ length steps
  cut_total = at (cut_cases span after steps)
    where
      at : CutCases span after steps cuts → total cuts ≡ length steps
      at (inl two) = omega (arith, ap total two.1, two.0)
      at (inr (inl none)) = omega (arith, ap total none.2, none.0)
      at (inr (inr one)) = omega (arith, ap total one.2)

  -- the first of the parts after some place begins there
  cut_begins : (place : ℕ) → has place (starts place cuts ++ starts (place + length steps) (lengths after)) ≡ true
  cut_begins place = at (cut_cases span after steps)
    where
      rest : List ℕ
      rest = starts (place + length steps) (lengths after)

      at : CutCases span after steps cuts → has place (starts place cuts ++ rest) ≡ true
      at (inl two) =
          has_left place (starts place cuts) rest (ap (λ parts. has place (starts place parts)) two.1 ∙ has_first place ((place + span) ∷ []))
      at (inr (inl none)) =
          let same : place ≡ place + length steps = omega (arith, none.0) in
          has_right place (starts place cuts) rest (subst (λ p. has place (starts p (lengths after)) ≡ true) same (some_after after place none.1))
      at (inr (inr one)) =
          has_left place (starts place cuts) rest (ap (λ parts. has place (starts place parts)) one.2 ∙ has_first place [])

  cut_adds : (place : ℕ) → 2 * span ≤ length steps → has (place + span) (starts place cuts) ≡ true
  cut_adds place long = at (cut_cases span after steps)
    where
      at : CutCases span after steps cuts → has (place + span) (starts place cuts) ≡ true
      at (inl two) = ap (λ parts. has (place + span) (starts place parts)) two.1 ∙ has_rest place (place + span) ((place + span) ∷ [])
          (has_first (place + span) [])
      at (inr (inl none)) = absurd (omega (arith, none.0, long, some))
      at (inr (inr one)) = absurd (omega (arith, one.1, long))

  cut_found : (n place : ℕ) → has n (starts place cuts) ≡ true → (n ≡ place) ⊎ ((n ≡ place + span) × (2 * span ≤ length steps))
  cut_found n place found = at (cut_cases span after steps)
    where
      second : 2 * span ≤ length steps → (place ≡ n) ⊎ (has n ((place + span) ∷ []) ≡ true) → (n ≡ place) ⊎ ((n ≡ place + span) × (2 * span ≤ length steps))
      second long (inl here) = inl (sym here)
      second long (inr later) = ⊎_elim (λ here. inr (sym here, long)) (λ none. absurd (cc none)) (first_or_rest (place + span) n [] later)

      at : CutCases span after steps cuts → (n ≡ place) ⊎ ((n ≡ place + span) × (2 * span ≤ length steps))
      at (inl two) = second two.0 (first_or_rest place n ((place + span) ∷ []) (sym (ap (λ parts. has n (starts place parts)) two.1) ∙ found))
      at (inr (inl none)) =
          let nowhere : false ≡ true = sym (ap (λ parts. has n (starts place parts)) none.2) ∙ found in
          absurd (cc nowhere)
      at (inr (inr one)) =
          ⊎_elim (λ here. inl (sym here)) (λ nothing. absurd (cc nothing))
          (first_or_rest place n [] (sym (ap (λ parts. has n (starts place parts)) one.2) ∙ found))

  cut_parts : AreParts (lengths after) → AreParts (cuts ++ lengths after)
  cut_parts parts = at (cut_cases span after steps)
    where
      at : CutCases span after steps cuts → AreParts (cuts ++ lengths after)
      at (inl two) =
          let left : 1 ≤ length steps - span = omega (arith, two.0, some) in
          subst (λ cuts. AreParts (cuts ++ lengths after)) (sym two.1) (inr some, (inr left, parts))
      at (inr (inl none)) = subst (λ cuts. AreParts (cuts ++ lengths after)) (sym none.2) parts
      at (inr (inr one)) =
          subst (λ cuts. AreParts (cuts ++ lengths after)) (sym one.2) (⊎_elim (λ none. inl (none_after after none)) (λ left. inr left) one.0, parts)

-- ---- an edit

module _ (kept : CheckpointedSession) (edit : Edit) (segments before : List SegmentView) (steps : List Step) (after front : List SegmentView)
    (some : 1 ≤ kept.span) (accepts : accepted kept.session edit ≡ Ok tt) (fit : AreCheckpoints kept.span (last_place kept.session) kept.checkpoints)
    (are : AreSegments kept segments) (shift : IsShift kept edit segments before steps after front) where
  abbrev begin : ℕ
  begin = length (all_steps before)

  -- where the segments after the edit lay, and where they lie now
  abbrev old_rest : ℕ
  old_rest = length (all_steps front)

  abbrev new_rest : ℕ
  new_rest = length (all_steps before) + length steps

  abbrev last : ℕ
  last = last_place (edited edit kept.session)

  pub old_steps : kept.session.steps ≡ all_steps front ++ all_steps after
  old_steps = sym are.steps ∙ ap all_steps shift.whole ∙ all_more front after

  pub old_last : last_place kept.session ≡ old_rest + total (lengths after)
  old_last = omega (arith, ap length old_steps, length-append (all_steps front) (all_steps after), all_length after)

  pub new_last : last ≡ new_rest + total (lengths after)
  new_last = omega (
    arith,
    ap length shift.result,
    length-append (all_steps before) (steps ++ all_steps after),
    length-append steps (all_steps after),
    all_length after,
  )

  -- ---- places of the session

  whole_lengths : lengths segments ≡ lengths front ++ lengths after
  whole_lengths = ap lengths shift.whole ∙ map-append (λ (segment : SegmentView). length segment.steps) front after

  old_places : kept.checkpoints ≡ starts 0 (lengths front) ++ starts old_rest (lengths after)
  old_places =
      let there : 0 + total (lengths front) ≡ old_rest = omega (arith, all_length front) in
      sym are.places ∙ ap (starts 0) whole_lengths ∙ starts_append 0 (lengths front) (lengths after)
      ∙ ap (λ p. starts 0 (lengths front) ++ starts p (lengths after)) there

  pub old_either : (n : ℕ) → has n kept.checkpoints ≡ true → (has n (starts 0 (lengths front)) ≡ true) ⊎ (has n (starts old_rest (lengths after)) ≡ true)
  old_either n found = has_either n (starts 0 (lengths front)) (starts old_rest (lengths after)) (sym (ap (has n) old_places) ∙ found)

  pub old_front : (n : ℕ) → has n (starts 0 (lengths front)) ≡ true → has n kept.checkpoints ≡ true
  old_front n found = ap (has n) old_places ∙ has_left n (starts 0 (lengths front)) (starts old_rest (lengths after)) found

  pub old_after : (n : ℕ) → has n (starts old_rest (lengths after)) ≡ true → has n kept.checkpoints ≡ true
  old_after n found = ap (has n) old_places ∙ has_right n (starts 0 (lengths front)) (starts old_rest (lengths after)) found

  after_parts : AreParts (lengths after)
  after_parts =
      parts_back (lengths front) (lengths after)
      (subst AreParts whole_lengths (ascend_parts 0 (lengths segments) (subst IsStrictlyIncreasing (sym are.places) fit.ascend)))

  before_until : (n : ℕ) → has n (starts 0 (lengths before)) ≡ true → n ≤ begin
  before_until n found = omega (arith, start_until n 0 (lengths before) found, all_length before)

  early_until : (n : ℕ) → has n (starts 0 (lengths front)) ≡ true → n ≤ begin
  early_until n found = ⊎_elim (before_until n) (λ same. omega (arith, same)) (shift.early n found)

  stays : (n : ℕ) → n ≤ begin → moved_place edit n ≡ n
  stays n low = stays_before edit n (omega (arith, low, shift.begins))

  -- the replay begins at the last checkpoint that is not after the edit
  pub begins_there : begin ≡ replayed_from kept edit
  begins_there =
      let is = before_is_last kept.checkpoints (place_of edit) (start_listed kept.span (last_place kept.session) kept.checkpoints fit) in
      let from = replayed_from kept edit in
      let low : from ≤ begin = ⊎_elim (early_until from) (λ later. shift.past from later is.before) (old_either from is.listed) in
      omega (arith, low, is.last begin shift.listed shift.begins)

  -- ---- places where checkpoints have moved to

  moved_before : (n : ℕ) → has n (starts 0 (lengths before)) ≡ true → IsMoved kept edit n
  moved_before n found = (n, old_front n (shift.earlier n found), stays n (before_until n found))

  moved_begin : IsMoved kept edit begin
  moved_begin = (begin, shift.listed, stays begin (omega arith))

  moved_after : (n : ℕ) → has n (starts new_rest (lengths after)) ≡ true → IsMoved kept edit n
  moved_after n found =
      let low = start_from n new_rest (lengths after) found in
      let old : ℕ = n + old_rest - new_rest in
      let far : old + new_rest ≡ n + old_rest = omega (arith, low) in
      let listed = start_moved n old new_rest old_rest (lengths after) far found in
      (old, old_after old listed, omega (arith, far, shift.moves old listed))

  moved_either : (n : ℕ) → IsMoved kept edit n → (has n (starts 0 (lengths before)) ≡ true) ⊎ ((n ≡ begin) ⊎ (has n (starts new_rest (lengths after)) ≡ true))
  moved_either n moved = ⊎_elim early later (old_either moved.0 moved.1)
    where
      early : has moved.0 (starts 0 (lengths front)) ≡ true → (has n (starts 0 (lengths before)) ≡ true) ⊎
          ((n ≡ begin) ⊎ (has n (starts new_rest (lengths after)) ≡ true))
      early found =
          let same : moved.0 ≡ n = sym (stays moved.0 (early_until moved.0 found)) ∙ moved.2 in
          ⊎_elim (λ before_it. inl (subst (λ n. has n (starts 0 (lengths before)) ≡ true) same before_it)) (λ here. inr (inl (sym same ∙ here)))
          (shift.early moved.0 found)

      later : has moved.0 (starts old_rest (lengths after)) ≡ true → (has n (starts 0 (lengths before)) ≡ true) ⊎
          ((n ≡ begin) ⊎ (has n (starts new_rest (lengths after)) ≡ true))
      later found = inr (inr (start_moved moved.0 n old_rest new_rest (lengths after) (omega (arith, moved.2, shift.moves moved.0 found)) found))

  abbrev moved_test : ℕ → Bool
  moved_test place = list_any (λ checkpoint. eqb (moved_place edit checkpoint) place) kept.checkpoints

  moved_within_last : (c : ℕ) → has c kept.checkpoints ≡ true → moved_place edit c ≤ last
  moved_within_last c listed =
      ⊎_elim
      (λ found. omega (arith, stays c (early_until c found), early_until c found, new_last))
      (λ found. omega (arith, shift.moves c found, start_until c old_rest (lengths after) found, new_last))
      (old_either c listed)

  -- they are just those
  moved_listed : (n : ℕ) → IsMoved kept edit n → has n (moved_checkpoints kept edit) ≡ true
  moved_listed n moved =
      let same : eqb (moved_place edit moved.0) n ≡ true = grind (arith, nat_tests, moved.2) in
      let within = moved_within_last moved.0 moved.1 in
      has-filter moved_test n (numbers (suc last))
      ∙ ap₂ (λ a b. a && b) (list_any_at (λ other. eqb (moved_place edit other) n) moved.0 kept.checkpoints moved.1 same)
      (numbers_have (suc last) n (omega (arith, moved.2, within)))

  listed_moved : (n : ℕ) → has n (moved_checkpoints kept edit) ≡ true → IsMoved kept edit n
  listed_moved n listed =
      let parts = and_parts (moved_test n) (has n (numbers (suc last))) (sym (has-filter moved_test n (numbers (suc last))) ∙ listed) in
      let found = any_found (λ checkpoint. eqb (moved_place edit checkpoint) n) kept.checkpoints parts.0 in
      let same : moved_place edit found.0 ≡ n = grind (arith, nat_tests, found.2) in
      (found.0, found.1, same)

  -- ---- the segment where the replay begins

  abbrev end : ℕ
  end = segment_end last (moved_checkpoints kept edit) (length (all_steps before))

  end_first : (n : ℕ) → IsMoved kept edit n → begin < n → end ≤ n
  end_first n moved past =
      let so : ltb begin n ≡ true = grind (arith, nat_tests, past) in
      least_each last n (filter (λ next. ltb begin next) (moved_checkpoints kept edit))
      (has-filter (λ next. ltb begin next) n (moved_checkpoints kept edit) ∙ ap₂ (λ a b. a && b) so (moved_listed n moved))

  end_within : end ≤ last
  end_within = least_within last (filter (λ next. ltb begin next) (moved_checkpoints kept edit))

  -- where the steps come to two spans
  long_end : 2 * kept.span ≤ length steps → begin + 2 * kept.span ≤ end
  long_end long =
      least_from (begin + 2 * kept.span) last (filter (λ next. ltb begin next) (moved_checkpoints kept edit)) (omega (arith, new_last, long)) (λ next found.
      let parts = and_parts (ltb begin next) (has next (moved_checkpoints kept edit))
      (sym (has-filter (λ next. ltb begin next) next (moved_checkpoints kept edit)) ∙ found) in
      let past : begin < next = grind (arith, nat_tests, parts.0) in
      far next past (moved_either next (listed_moved next parts.1)))
    where
      far : (next : ℕ) → begin < next → (has next (starts 0 (lengths before)) ≡ true) ⊎ ((next ≡ begin) ⊎ (has next (starts new_rest (lengths after)) ≡ true)) →
          begin + 2 * kept.span ≤ next
      far next past (inl found) = absurd (omega (arith, past, before_until next found))
      far next past (inr (inl same)) = absurd (omega (arith, past, same))
      far next past (inr (inr found)) = omega (arith, long, start_from next new_rest (lengths after) found)

  -- the first segment after the edit is shorter than two spans
  first_short : (a : ℕ) (rest : List ℕ) → lengths after ≡ a ∷ rest → a < 2 * kept.span
  first_short a rest is =
      let listed = ap (λ parts. has old_rest (starts old_rest parts)) is ∙ has_first old_rest (starts (old_rest + a) rest) in
      let short = fit.short old_rest (old_after old_rest listed) in
      let long =
      least_from (old_rest + a) (last_place kept.session) (filter (λ next. ltb old_rest next) kept.checkpoints) (omega (arith, old_last, ap total is))
      (λ next found.
      let parts = and_parts (ltb old_rest next) (has next kept.checkpoints) (sym (has-filter (λ next. ltb old_rest next) next kept.checkpoints) ∙ found) in
      let past : old_rest < next = grind (arith, nat_tests, parts.0) in
      ⊎_elim (λ early. absurd (omega (arith, past, early_until next early, shift.reaches)))
      (λ later. far next past (sym (ap (λ parts. has next (starts old_rest parts)) is) ∙ later)) (old_either next parts.1)) in
      omega (arith, short, long)
    where
      far : (next : ℕ) → old_rest < next → has next (starts old_rest (a ∷ rest)) ≡ true → old_rest + a ≤ next
      far next past found =
          ⊎_elim (λ here. absurd (omega (arith, past, here))) (start_from next (old_rest + a) rest)
          (first_or_rest old_rest next (starts (old_rest + a) rest) found)

  -- so only steps of two spans leave so long a segment
  short_end : begin + 2 * kept.span ≤ end → 2 * kept.span ≤ length steps
  short_end long = at (leb (2 * kept.span) (length steps)) refl
    where
      -- no steps before a segment
      none : (a : ℕ) (rest : List ℕ) → lengths after ≡ a ∷ rest → length steps ≡ 0 → 2 * kept.span ≤ length steps
      none a [] is empty = absurd (omega (arith, long, end_within, new_last, ap total is, empty, first_short a [] is))
      none a (b ∷ rest) is empty =
          let parts = subst AreParts is after_parts in
          let low : 1 ≤ a = ⊎_elim (λ nothing. absurd (cc nothing)) (λ low. low) parts.0 in
          let there = ap (λ parts. has (new_rest + a) (starts new_rest parts)) is ∙ has_rest new_rest (new_rest + a) (starts (new_rest + a) (b ∷ rest))
          (has_first (new_rest + a) (starts (new_rest + a + b) rest)) in
          absurd (omega (arith, long, end_first (new_rest + a) (moved_after (new_rest + a) there) (omega (arith, low)), empty, first_short a (b ∷ rest) is))

      by : (ls : List ℕ) → lengths after ≡ ls → (b : Bool) → leb 1 (length steps) ≡ b → length steps < 2 * kept.span → 2 * kept.span ≤ length steps
      by [] is b left short = absurd (omega (arith, long, end_within, new_last, ap total is, short))
      by (a ∷ rest) is true left short =
          let low : 1 ≤ length steps = grind (arith, nat_tests, left) in
          let there = ap (λ parts. has new_rest (starts new_rest parts)) is ∙ has_first new_rest (starts (new_rest + a) rest) in
          absurd (omega (arith, long, end_first new_rest (moved_after new_rest there) (omega (arith, low)), short))
      by (a ∷ rest) is false left short = none a rest is (grind (arith, nat_tests, left))

      at : (b : Bool) → leb (2 * kept.span) (length steps) ≡ b → 2 * kept.span ≤ length steps
      at true is = grind (arith, nat_tests, is)
      at false is = by (lengths after) refl (leb 1 (length steps)) refl (grind (arith, nat_tests, is))

  -- ---- places of the edited session

  abbrev parts : List ℕ
  parts = lengths before ++ (cut_lengths kept.span after steps ++ lengths after)

  abbrev middle : List ℕ
  middle = starts begin (cut_lengths kept.span after steps)

  new_places : starts 0 parts ≡ starts 0 (lengths before) ++ (middle ++ starts new_rest (lengths after))
  new_places =
      let cuts = cut_lengths kept.span after steps in
      let there : 0 + total (lengths before) ≡ begin = omega (arith, all_length before) in
      let later : begin + total cuts ≡ new_rest = omega (arith, cut_total kept.span after steps some) in
      starts_append 0 (lengths before) (cuts ++ lengths after)
      ∙ ap (λ p. starts 0 (lengths before) ++ starts p (cuts ++ lengths after)) there
      ∙ ap (λ places. starts 0 (lengths before) ++ places) (starts_append begin cuts (lengths after) ∙ ap (λ p. middle ++ starts p (lengths after)) later)

  new_ascend : IsStrictlyIncreasing (starts 0 parts)
  new_ascend = parts_ascend 0 parts (parts_join (lengths before) (cut_lengths kept.span after steps ++ lengths after) shift.positive
      (cut_parts kept.span after steps some after_parts))

  new_listed : (n : ℕ) → (has n (starts 0 (lengths before)) ≡ true) ⊎ (has n (middle ++ starts new_rest (lengths after)) ≡ true) → has n (starts 0 parts) ≡ true
  new_listed n (inl found) = ap (has n) new_places ∙ has_left n (starts 0 (lengths before)) (middle ++ starts new_rest (lengths after)) found
  new_listed n (inr found) = ap (has n) new_places ∙ has_right n (starts 0 (lengths before)) (middle ++ starts new_rest (lengths after)) found

  are_these : (n : ℕ) → has n (starts 0 parts) ≡ true → IsMoved kept edit n ⊎ IsAdded kept edit n
  are_these n found = ⊎_elim (λ early. inl (moved_before n early)) (λ later. ⊎_elim (λ there. cut_one (cut_found kept.span after steps some n begin there))
      (λ past. inl (moved_after n past)) (has_either n middle (starts new_rest (lengths after)) later))
      (has_either n (starts 0 (lengths before)) (middle ++ starts new_rest (lengths after)) (sym (ap (has n) new_places) ∙ found))
    where
      cut_one : (n ≡ begin) ⊎ ((n ≡ begin + kept.span) × (2 * kept.span ≤ length steps)) → IsMoved kept edit n ⊎ IsAdded kept edit n
      cut_one (inl same) = inl (subst (IsMoved kept edit) (sym same) moved_begin)
      cut_one (inr added) =
          inr (
            omega (arith, added.0, begins_there),
            subst (λ from. from + 2 * kept.span ≤ segment_end last (moved_checkpoints kept edit) from) begins_there (long_end added.1),
          )

  these_are : (n : ℕ) → IsMoved kept edit n ⊎ IsAdded kept edit n → has n (starts 0 parts) ≡ true
  these_are n (inl moved) = one (moved_either n moved)
    where
      one : (has n (starts 0 (lengths before)) ≡ true) ⊎ ((n ≡ begin) ⊎ (has n (starts new_rest (lengths after)) ≡ true)) → has n (starts 0 parts) ≡ true
      one (inl early) = new_listed n (inl early)
      one (inr (inl same)) =
          new_listed n (inr (subst (λ n. has n (middle ++ starts new_rest (lengths after)) ≡ true) (sym same) (cut_begins kept.span after steps some begin)))
      one (inr (inr later)) = new_listed n (inr (has_right n middle (starts new_rest (lengths after)) later))
  these_are n (inr added) =
      let long = short_end (subst (λ from. from + 2 * kept.span ≤ segment_end last (moved_checkpoints kept edit) from) (sym begins_there) added.1) in
      let same : begin + kept.span ≡ n = omega (arith, added.0, begins_there) in
      new_listed n (inr (has_left n middle (starts new_rest (lengths after))
      (subst (λ n. has n middle ≡ true) same (cut_adds kept.span after steps some begin long))))

  pub next_places : starts 0 parts ≡ next_checkpoints kept edit
  next_places =
      ascending_are_one (starts 0 parts) (next_checkpoints kept edit) new_ascend (next_fit kept edit some accepts fit).ascend
      (λ n.
      let these = next_are_these kept edit some accepts fit n in
      (λ found. these.1 (are_these n found), λ found. these_are n (these.0 found)))
