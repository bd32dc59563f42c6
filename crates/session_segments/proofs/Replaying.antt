-- Segments that are replayed in place, up to the first that the replay meets.
use Rattle.std.proofs.Common.{◌≡◌, ℕ, zero, suc, false, ◌+◌, ◌-◌, ◌<◌, ◌≤◌, List, [], ◌∷◌, ◌++◌, length, map, take, drop, refl, sym, ap, ap₂, subst, ◌∙◌, arith}
use Rattle.std.specs.Prelude.{Some, slice_get, slice_set}
use Rattle.std.specs.List.{flat_map}
use Rattle.std.proofs.Math.Seq.{set-append_seam}
use Rattle.std.proofs.lemmas.List.{append-nil, append_assoc, drop_at, take_at, drop-drop, length-append, length-drop, length-map, length-take-le, map-append}
use Rattle.std.proofs.lemmas.List.{take-append-drop}
use Rattle.std.proofs.lemmas.Simd.{map-map}
use Rattle.std.proofs.lemmas.List.Folds.{flat_map-map}
use Rattle.std.proofs.lemmas.Option.{same_Some, slice_get_past}
use Rattle.bench_types.specs.declared.step.Step.{Step}
use Rattle.bench_model.specs.Equal.{StandsFor}
use Rattle.bench_model.specs.Lists.{View}
use Rattle.bench_model.specs.Session.{state_after}
use Rattle.bench_model.specs.Shifted.{is_met}
use Rattle.bench_model.specs.Table.{Table}
use Rattle.meeting_laws.specs.RunLaws.{MeetBy}
use Rattle.segment_laws.specs.EditedSegments.{AreUnmet}
use Rattle.segment_laws.specs.Segments.{SegmentView, steps_of, all_steps, later_segments, lengths, Follow}
use Rattle.segment_laws.proofs.Following.{all_more, follow_append, state_append, take_found, take_with}
use Rattle.segment_laws.proofs.LaterSegments.{later_parts}
use Rattle.session_segments.specs.Replaying.{AreReplayedFrom}
use Rattle.session_segments.specs.Counting.{meter_after}
use Rattle.session_segments.proofs.Counts.{counted_twice}
use borrow.Author.Count.{below_more}

-- ---- lists of which some items were set

module _ {X : Type 0} where
  pub drop_found : (xs : List X) (count : ℕ) (x : X) → slice_get xs count ≡ Some x → drop count xs ≡ x ∷ drop (suc count) xs
  drop_found [] count x found = absurd (cc found)
  drop_found (y ∷ ys) zero x found = ap (λ z. z ∷ ys) (same_Some y x found)
  drop_found (y ∷ ys) (suc count) x found = drop_found ys count x found

  -- the next item is the one that was there
  pub found_there : (front made rest : List X) (count : ℕ) → length made ≡ count → slice_get (front ++ made ++ drop count rest) (length front + count) ≡
      slice_get rest count
  found_there front made rest count size =
      take_found (front ++ made ++ drop count rest) (length front + count)
      ∙ ap (λ xs. slice_get xs 0) (drop_at (front ++ made) (drop count rest) (length front + count) (omega (arith, length-append front made, size)))
      ∙ sym (take_found rest count)

  -- and it is set
  pub set_there : (front made rest : List X) (count : ℕ) (x y : X) → length made ≡ count → slice_get rest count ≡ Some x
      → slice_set (front ++ made ++ drop count rest) (length front + count) y ≡ front ++ (made ++ y ∷ []) ++ drop (count + 1) rest
  set_there front made rest count x y size found =
      let more = drop (suc count) rest in
      let place : length front + count ≡ length (front ++ made) = omega (arith, length-append front made, size) in
      let next : suc count ≡ count + 1 = omega arith in
      ap (λ xs. slice_set (front ++ made ++ xs) (length front + count) y) (drop_found rest count x found)
      ∙ ap (λ n. slice_set ((front ++ made) ++ x ∷ more) n y) place
      ∙ set-append_seam (front ++ made) x more y
      ∙ sym (append_assoc (front ++ made) (y ∷ []) more)
      ∙ ap₂ (λ xs n. xs ++ drop n rest) (append_assoc front made (y ∷ [])) next

-- ---- steps of segments

-- the steps of parts, one part after another
abbrev pub joined : List (List Step) → List Step
joined parts = flat_map (λ steps. steps) parts

pub own_steps : (segments : List SegmentView) → joined (map steps_of segments) ≡ all_steps segments
own_steps segments = flat_map-map (λ steps. steps) steps_of segments

alike_steps : (made others : List SegmentView) → map steps_of made ≡ map steps_of others → all_steps made ≡ all_steps others
alike_steps made others same = sym (own_steps made) ∙ ap joined same ∙ own_steps others

-- one segment more
took_more : (after : List SegmentView) (count : ℕ) (segment : SegmentView) → slice_get after count ≡ Some segment → take (count + 1) after ≡ take count after ++
    segment ∷ []
took_more after count segment found =
    let next : count + 1 ≡ suc count = omega arith in
    ap (λ n. take n after) next ∙ take_with after count segment found

-- and its steps
pub more_steps : (after : List SegmentView) (count : ℕ) (segment : SegmentView) → slice_get after count ≡ Some segment → all_steps (take (count + 1) after) ≡
    all_steps (take count after) ++ segment.steps
more_steps after count segment found =
    ap all_steps (took_more after count segment found)
    ∙ all_more (take count after) (segment ∷ [])
    ∙ ap (λ steps. all_steps (take count after) ++ steps) (append-nil segment.steps)

pub more_length : (after : List SegmentView) (count : ℕ) (segment : SegmentView) → slice_get after count ≡ Some segment → length
    (all_steps (take (count + 1) after)) ≡ length (all_steps (take count after)) + length segment.steps
more_length after count segment found = ap length (more_steps after count segment found) ∙ length-append (all_steps (take count after)) segment.steps

-- they are counted
pub later_counted : (after : List SegmentView) (count old middle new : ℕ) (segment : SegmentView) → slice_get after count ≡ Some segment → middle ≡ meter_after
    (length (all_steps (take count after))) old → new ≡ meter_after (length segment.steps) middle → new ≡ meter_after
    (length (all_steps (take (count + 1) after))) old
later_counted after count old middle new segment found before more =
    more ∙ ap (meter_after (length segment.steps)) before
    ∙ counted_twice (length (all_steps (take count after))) (length segment.steps) old
    ∙ ap (λ n. meter_after n old) (sym (more_length after count segment found))

-- ---- one segment after another

-- so many of the segments were replayed, none of which the replay met
pub record IsGoing (table : Table) (after made : List SegmentView) (count : ℕ) (kernel : View) : Type 0 where
  pub parts_are : map steps_of made ≡ map steps_of (take count after)
  pub follow : Follow table made
  pub unmet : AreUnmet table [] after count
  pub stands : StandsFor kernel (state_after table (all_steps (take count after)))

-- the replay, which has come to the kernel, does not meet the segment, after which these steps come
abbrev pub IsUnmet : SegmentView → View → List Step → Type 0
IsUnmet segment kernel steps = (a b : Table) → StandsFor segment.kernel a → StandsFor kernel b → is_met a b steps ≡ false

-- it does, so many ticks later
abbrev pub IsMetBy : ℕ → SegmentView → View → List Step → Type 0
IsMetBy by segment kernel steps = (a b : Table) → StandsFor segment.kernel a → StandsFor kernel b → MeetBy by a b steps

pub unmet_more : (table : Table) (after : List SegmentView) (count : ℕ) (segment : SegmentView) (kernel : View) → slice_get after count ≡ Some segment → IsUnmet
    segment kernel (all_steps (drop count after)) → StandsFor kernel (state_after table (all_steps (take count after))) → AreUnmet table [] after count →
    AreUnmet table [] after (count + 1)
unmet_more table after count segment kernel found otherwise stands unmet =
    let reached = λ (i : ℕ). state_after table (all_steps (take i after)) in
    let apart = λ (i : ℕ). (one : SegmentView) (old : Table) → slice_get after i ≡ Some one → StandsFor one.kernel old → is_met old (reached i)
    (all_steps (drop i after)) ≡ false in
    let below : (i : ℕ) → i < count → apart i = λ i early one old there begins. unmet i one old early there begins in
    let here : apart count = λ one old there begins.
    otherwise old (reached count) (subst (λ (view : SegmentView). StandsFor view.kernel old) (same_Some one segment (sym there ∙ found)) begins) stands in
    λ i one old early there begins. below_more apart count below here i (omega arith) one old there begins

later_goes : (table : Table) (after made : List SegmentView) (count : ℕ) (kernel moved : View) (segment : SegmentView) → slice_get after count ≡ Some segment
    → ((replayable : Table) → StandsFor kernel replayable → StandsFor moved (state_after replayable segment.steps)) → IsUnmet segment kernel
    (all_steps (drop count after))
    → IsGoing table after made count kernel → IsGoing table after (made ++ record { kernel = kernel; steps = segment.steps } ∷ []) (count + 1) moved
later_goes table after made count kernel moved segment found moves otherwise later =
    let own : SegmentView = record { kernel = kernel; steps = segment.steps } in
    let reached = state_after table (all_steps (take count after)) in
    let replayable = ap (state_after table) (sym (alike_steps made (take count after) later.parts_are)) in
    record {
      parts_are =
          map-append steps_of made (own ∷ [])
          ∙ ap (λ parts. parts ++ segment.steps ∷ []) later.parts_are
          ∙ sym (map-append steps_of (take count after) (segment ∷ []))
          ∙ ap (map steps_of) (sym (took_more after count segment found));
      follow = follow_append made (own ∷ []) table later.follow (subst (StandsFor kernel) replayable later.stands, tt);
      unmet = unmet_more table after count segment kernel found otherwise later.stands later.unmet;
      stands =
          subst (StandsFor moved)
          (sym (ap (state_after table) (more_steps after count segment found) ∙ state_append table (all_steps (take count after)) segment.steps))
          (moves reached later.stands);
    }

-- ---- in place

-- the segments from the first index up to another were replayed in place
pub record IsReplaying (table : Table) (first : ℕ) (old new : List SegmentView) (index : ℕ) (kernel : View) : Type 0 where
  pub made : List SegmentView
  pub order : first ≤ index
  pub replaced : new ≡ take first old ++ made ++ drop (index - first) (drop first old)
  pub going : IsGoing table (drop first old) made (index - first) kernel

pub replay_starts : (table : Table) (first : ℕ) (old : List SegmentView) (kernel : View) → StandsFor kernel table → IsReplaying table first old old first kernel
replay_starts table first old kernel stands =
    let none : 0 ≡ first - first = omega arith in
    record {
      made = [];
      order = omega arith;
      replaced =
          sym (take-append-drop first old) ∙ ap (λ xs. xs ++ drop first old) (sym (append-nil (take first old)))
          ∙ ap (λ n. take first old ++ [] ++ drop n (drop first old)) none;
      going = subst (λ n. IsGoing table (drop first old) [] n kernel) none (record {
        parts_are = refl;
        follow = tt;
        unmet = λ i segment replayable below. absurd (omega arith);
        stands = stands;
      });
    }

rest_is : (table : Table) (first : ℕ) (old new : List SegmentView) (index : ℕ) (kernel : View) → IsReplaying table first old new index kernel → drop
    (index - first) (drop first old) ≡ drop index old
rest_is table first old new index kernel so_far =
    let all : first + (index - first) ≡ index = omega (arith, so_far.order) in
    drop-drop (index - first) first old ∙ ap (λ n. drop n old) all

-- after the last one
pub replay_ends : (table : Table) (first : ℕ) (old new : List SegmentView) (index : ℕ) (kernel : View) → index ≡ length old → IsReplaying table first old new
    index kernel → AreReplayedFrom table first old new index
replay_ends table first old new index kernel all so_far = record {
  made = so_far.made;
  by = 0;
  order = so_far.order;
  replaced = so_far.replaced ∙ ap (λ xs. take first old ++ so_far.made ++ xs) (rest_is table first old new index kernel so_far);
  replay = record {
    within = omega (arith, all, length-drop first old);
    parts_are = so_far.going.parts_are;
    follow = so_far.going.follow;
    unmet = so_far.going.unmet;
    met = λ one replayable there begins. let past = slice_get_past (drop first old) (index - first) (omega (arith, all, length-drop first old)) in absurd
        (cc (there, past));
  };
}

-- the steps of the segments stay
pub same_parts : (table : Table) (first : ℕ) (old new : List SegmentView) (end : ℕ) → AreReplayedFrom table first old new end → map steps_of new ≡ map steps_of
    old
same_parts table first old new end replayed =
    let after = drop first old in
    let count = end - first in
    let all : first + (end - first) ≡ end = omega (arith, replayed.order) in
    let rest : drop end old ≡ drop count after = ap (λ n. drop n old) (sym all) ∙ sym (drop-drop count first old) in
    ap (map steps_of) (replayed.replaced ∙ append_assoc (take first old) replayed.made (later_segments replayed.by (drop end old))) ∙ map-append steps_of
    (take first old) (replayed.made ++ later_segments replayed.by (drop end old))
    ∙ ap (λ xs. map steps_of (take first old) ++ xs) (map-append steps_of replayed.made (later_segments replayed.by (drop end old)) ∙ ap
    (λ xs. map steps_of replayed.made ++ xs) (later_parts replayed.by (drop end old)) ∙ ap (λ xs. xs ++ map steps_of (drop end old))
    replayed.replay.parts_are ∙ sym (map-append steps_of (take count after) (drop end old)) ∙ ap (map steps_of)
    (ap (λ xs. take count after ++ xs) rest ∙ take-append-drop count after))
    ∙ sym (map-append steps_of (take first old) after) ∙ ap (map steps_of) (take-append-drop first old)

pub same_lengths : (table : Table) (first : ℕ) (old new : List SegmentView) (end : ℕ) → AreReplayedFrom table first old new end → lengths new ≡ lengths old
same_lengths table first old new end replayed =
    sym (map-map length steps_of new) ∙ ap (map length) (same_parts table first old new end replayed) ∙ map-map length steps_of old

module _ (table : Table) (first : ℕ) (old new : List SegmentView) (index : ℕ) (kernel : View) (early : index < length old)
    (so_far : IsReplaying table first old new index kernel) where
  abbrev after : List SegmentView
  after = drop first old

  abbrev count : ℕ
  count = index - first

  front_size : length (take first old) ≡ first
  front_size = length-take-le first old (omega (arith, early, so_far.order))

  made_size : length so_far.made ≡ count
  made_size =
      sym (length-map so_far.made steps_of) ∙ ap length so_far.going.parts_are ∙ length-map (take count after) steps_of
      ∙ length-take-le count after (omega (arith, early, so_far.order, length-drop first old))

  place : length (take first old) + count ≡ index
  place = omega (arith, front_size, so_far.order)

  -- the next segment is the one that was there
  pub next_found : (segment : SegmentView) → slice_get new index ≡ Some segment → slice_get after count ≡ Some segment
  next_found segment found =
      sym (found_there (take first old) so_far.made after count made_size)
      ∙ ap (λ n. slice_get (take first old ++ so_far.made ++ drop count after) n) place
      ∙ ap (λ xs. slice_get xs index) (sym so_far.replaced) ∙ found

  front_length : length (take first old ++ so_far.made) ≡ index
  front_length = omega (arith, length-append (take first old) so_far.made, front_size, made_size, so_far.order)

  -- and those after it are those that were there
  pub rest_there : drop index new ≡ drop count after
  rest_there = ap (drop index) so_far.replaced ∙ drop_at (take first old ++ so_far.made) (drop count after) index front_length

  front_there : take index new ≡ take first old ++ so_far.made
  front_there = ap (take index) so_far.replaced ∙ take_at (take first old ++ so_far.made) (drop count after) index front_length

  next_set : (segment own : SegmentView) → slice_get after count ≡ Some segment → slice_set new index own ≡ take first old ++ (so_far.made ++ own ∷ []) ++ drop
      (count + 1) after
  next_set segment own found =
      ap (λ xs. slice_set xs index own) so_far.replaced
      ∙ ap (λ n. slice_set (take first old ++ so_far.made ++ drop count after) n own) (sym place)
      ∙ set_there (take first old) so_far.made after count segment own made_size found

  pub replay_goes : (segment own : SegmentView) (next : List SegmentView) (moved : View) → slice_get new index ≡ Some segment → own ≡
      record { kernel = kernel; steps = segment.steps } → next ≡ slice_set new index own
      → ((replayable : Table) → StandsFor kernel replayable → StandsFor moved (state_after replayable segment.steps)) → IsUnmet segment kernel
      (all_steps (drop index new)) → IsReplaying table first old next (index + 1) moved
  replay_goes segment own next moved found is set moves otherwise =
      let there = next_found segment found in
      let unmet_here = subst (λ (rest : List SegmentView). IsUnmet segment kernel (all_steps rest)) rest_there otherwise in
      let more : count + 1 ≡ index + 1 - first = omega (arith, so_far.order) in
      record {
        made = so_far.made ++ record { kernel = kernel; steps = segment.steps } ∷ [];
        order = omega (arith, so_far.order);
        replaced = set ∙ next_set segment own there ∙ ap (λ s. take first old ++ (so_far.made ++ s ∷ []) ++ drop (count + 1) after) is
            ∙ ap (λ n. take first old ++ (so_far.made ++ record { kernel = kernel; steps = segment.steps } ∷ []) ++ drop n after) more;
        going = subst (λ n. IsGoing table after (so_far.made ++ record { kernel = kernel; steps = segment.steps } ∷ []) n moved) more
            (later_goes table after so_far.made count kernel moved segment there moves unmet_here so_far.going);
      }

  -- the replay meets it
  pub replay_meets : (segment : SegmentView) (by : ℕ) (next : List SegmentView) → slice_get new index ≡ Some segment → next ≡ take index new ++ later_segments
      by (drop index new) → IsMetBy by segment kernel (all_steps (drop index new)) → AreReplayedFrom table first old next index
  replay_meets segment by next found moved meets = record {
    made = so_far.made;
    by = by;
    order = so_far.order;
    replaced = moved ∙ ap₂ (λ front rest. front ++ later_segments by rest) front_there (rest_there ∙ rest_is table first old new index kernel so_far);
    replay = record {
      within = omega (arith, early, length-drop first old);
      parts_are = so_far.going.parts_are;
      follow = so_far.going.follow;
      unmet = so_far.going.unmet;
      met = λ one replayable there begins.
          let met_here = subst (λ (rest : List SegmentView). IsMetBy by segment kernel (all_steps rest)) rest_there meets in
          met_here replayable (state_after table (all_steps (take count after)))
          (subst (λ (view : SegmentView). StandsFor view.kernel replayable) (same_Some one segment (sym there ∙ next_found segment found)) begins)
          so_far.going.stands;
    };
  }

-- ---- the count

pub replay_counted : (after : List SegmentView) (first index old middle new : ℕ) (segment : SegmentView) → first ≤ index → slice_get after (index - first) ≡
    Some segment
    → middle ≡ meter_after (length (all_steps (take (index - first) after))) old → new ≡ meter_after (length segment.steps) middle → new ≡ meter_after
    (length (all_steps (take (index + 1 - first) after))) old
replay_counted after first index old middle new segment order found before more =
    let next : index - first + 1 ≡ index + 1 - first = omega (arith, order) in
    later_counted after (index - first) old middle new segment found before more ∙ ap (λ n. meter_after (length (all_steps (take n after))) old) next
