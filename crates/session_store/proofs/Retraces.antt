-- Replays of edited steps and of the segments after them of which nothing is kept but the tallies.
use Rattle.std.proofs.Common.{◌≡◌, ◌⊎◌, inl, ℕ, suc, false, ◌+◌, ◌<◌, ◌≤◌, List, [], ◌∷◌, ◌++◌, length, map, take, drop, refl, sym, ap, ap₂, subst, ◌∙◌, arith}
use Rattle.std.specs.Prelude.{All, Some, slice_get}
use Rattle.std.proofs.lemmas.Grind.{flat_map-append}
use Rattle.std.proofs.lemmas.List.{length-append}
use Rattle.std.proofs.lemmas.Option.{same_Some, slice_get_past}
use Rattle.bench_types.specs.declared.step.Step.{Step}
use Rattle.bench_types.specs.Step.{IsCheckedStep}
use Rattle.bench_model.specs.Equal.{StandsFor}
use Rattle.bench_model.specs.Lists.{View, view_of}
use Rattle.bench_model.specs.Session.{step_of, state_after}
use Rattle.bench_model.specs.Shifted.{some_delays_until}
use Rattle.bench_model.specs.Sound.{IsSound}
use Rattle.bench_model.specs.Table.{Table, stamp_queues}
use Rattle.bench_model.specs.Tallied.{first_tallies, moment_of, part_tallies, tallied, tallied_after, AllCountsBelow}
use Rattle.bench_model.specs.Tally.{TaskTally}
use Rattle.step_laws.proofs.Along.{settings_along, sound_along}
use Rattle.segment_laws.specs.EditedSegments.{cut, has_none, AreReplayed, AreUnmet}
use Rattle.segment_laws.specs.Segments.{SegmentView, steps_of, all_steps, Follow}
use Rattle.segment_laws.proofs.EditedSteps.{cut_joined}
use Rattle.segment_laws.proofs.Following.{All_back, All_front, all_split, state_append}
use Rattle.session_segments.proofs.Tallied.{first_stands}
use Rattle.session_store.specs.Trials.{IsMeeting}
use Rattle.session_segments.proofs.Replaying.{joined, more_length, more_steps, own_steps, unmet_more, IsMetBy, IsUnmet}
use Rattle.session_store.proofs.GoingOn.{met_later, unmet_later}

-- ---- one segment after another

-- the replay came past so many of the segments, none of which it met
pub record IsPast (table : Table) (after : List SegmentView) (count : ℕ) (kernel : View) : Type 0 where
  pub unmet : AreUnmet table [] after count
  pub stands : StandsFor kernel (state_after table (all_steps (take count after)))

pub past_none : (table : Table) (after : List SegmentView) (kernel : View) → StandsFor kernel table → IsPast table after 0 kernel
past_none table after kernel stands = record {
  unmet = λ i segment first below. absurd (omega arith);
  stands = stands;
}

pub past_one : (table : Table) (after : List SegmentView) (count : ℕ) (kernel moved : View) (segment : SegmentView) → slice_get after count ≡ Some segment →
    ((summed_front : Table) → StandsFor kernel summed_front → StandsFor moved (state_after summed_front segment.steps)) → IsUnmet segment kernel
    (all_steps (drop count after))
    → IsPast table after count kernel → IsPast table after (count + 1) moved
past_one table after count kernel moved segment found moves otherwise past = record {
  unmet = unmet_more table after count segment kernel found otherwise past.stands past.unmet;
  stands =
      subst (StandsFor moved)
      (sym (ap (state_after table) (more_steps after count segment found) ∙ state_append table (all_steps (take count after)) segment.steps))
      (moves (state_after table (all_steps (take count after))) past.stands);
}

pub meets_at : (table : Table) (after : List SegmentView) (count by : ℕ) (kernel : View) (segment : SegmentView) → slice_get after count ≡ Some segment → count
    < length after → (by ≡ 0) ⊎ (some_delays_until (all_steps (drop count after)) ≡ false)
    → IsMetBy by segment kernel (all_steps (drop count after)) → IsPast table after count kernel → IsMeeting table [] after count
meets_at table after count by kernel segment found early unread meets past = record {
  within = omega arith;
  by = by;
  unread = unread;
  unmet = past.unmet;
  met = λ one first there begins.
      meets first (state_after table (all_steps (take count after)))
      (subst (λ (view : SegmentView). StandsFor view.kernel first) (same_Some one segment (sym there ∙ found)) begins) past.stands;
}

pub meets_none : (table : Table) (after : List SegmentView) (count : ℕ) (kernel : View) → count ≡ length after → IsPast table after count kernel → IsMeeting
    table [] after count
meets_none table after count kernel all past = record {
  within = omega arith;
  by = 0;
  unread = inl refl;
  unmet = past.unmet;
  met = λ one first there begins. let past = slice_get_past after count (omega arith) in absurd (cc (there, past));
}

-- after the edited steps
pub meeting_later : (table : Table) (steps : List Step) (after : List SegmentView) (count : ℕ) → IsMeeting (state_after table steps) [] after count → IsMeeting
    table steps after count
meeting_later table steps after count meeting = record {
  within = meeting.within;
  by = meeting.by;
  unread = meeting.unread;
  unmet = unmet_later table steps after count meeting.unmet;
  met = met_later table steps after count meeting.by meeting.met;
}

-- ---- tallies

tallied_append : (table : Table) (first second : List Step) (old : List TaskTally) → tallied_after table (first ++ second) old ≡ tallied_after
    (state_after table first) second (tallied_after table first old)
tallied_append table [] second old = refl
tallied_append table (step ∷ first) second old = tallied_append (step_of step table).1 first second (tallied stamp_queues (moment_of table step) old)

-- with one segment more
pub tallied_one : (table : Table) (after : List SegmentView) (count : ℕ) (segment : SegmentView) (first old new : List TaskTally) → slice_get after count ≡ Some
    segment → old ≡ tallied_after table (all_steps (take count after)) first
    → new ≡ tallied_after (state_after table (all_steps (take count after))) segment.steps old → new ≡ tallied_after table (all_steps (take (count + 1) after))
    first
tallied_one table after count segment first old new found so_far more =
    more ∙ ap (tallied_after (state_after table (all_steps (take count after))) segment.steps) so_far
    ∙ sym (tallied_append table (all_steps (take count after)) segment.steps first)
    ∙ ap (λ (steps : List Step). tallied_after table steps first) (sym (more_steps after count segment found))

-- those of the edited steps and of the segments after them
pub tallied_later : (kernel : View) (table : Table) (steps later : List Step) (first middle last : List TaskTally) → StandsFor kernel table → first ≡
    first_tallies kernel.settings kernel.control → middle ≡ tallied_after table steps first → last ≡ tallied_after (state_after table steps) later middle → last
    ≡ part_tallies kernel.settings table (steps ++ later)
tallied_later kernel table steps later first middle last stands summed_front some more =
    more ∙ ap (tallied_after (state_after table steps) later) some ∙ sym (tallied_append table steps later first)
    ∙ ap (tallied_after table (steps ++ later)) (summed_front ∙ first_stands kernel table stands)

-- ---- room for the counts

pub own_steps_fit : (after : List SegmentView) (count : ℕ) (segment : SegmentView) → slice_get after count ≡ Some segment → length
    (all_steps (take count after)) + length segment.steps ≤ length (all_steps after)
own_steps_fit after count segment found =
    let rest = all_steps (drop (suc count) after) in
    let split = ap (λ (steps : List Step). length steps) (all_split after count segment found) in
    omega (arith, split, length-append (all_steps (take count after)) (segment.steps ++ rest), length-append segment.steps rest)

pub room_one : (after : List SegmentView) (count : ℕ) (segment : SegmentView) (bound : ℕ) (counted : List TaskTally) → slice_get after count ≡ Some segment →
    AllCountsBelow (bound + length (all_steps (take count after)) + length segment.steps) counted → AllCountsBelow
    (bound + length (all_steps (take (count + 1) after))) counted
room_one after count segment bound counted found below =
    let next : bound + length (all_steps (take count after)) + length segment.steps ≡ bound + length (all_steps (take (count + 1) after)) = omega
    (arith, more_length after count segment found) in
    subst (λ n. AllCountsBelow n counted) next below

-- ---- segments that such a replay could have made

-- segments of these steps, each from the state that the one before it left
abbrev pub segments_from : Table → List (List Step) → List SegmentView
segments_from table [] = []
segments_from table (steps ∷ parts) = record { kernel = view_of table; steps = steps } ∷ segments_from (state_after table steps) parts

parts_from : (table : Table) (parts : List (List Step)) → map steps_of (segments_from table parts) ≡ parts
parts_from table [] = refl
parts_from table (steps ∷ parts) = ap (λ rest. steps ∷ rest) (parts_from (state_after table steps) parts)

follow_from : (table : Table) (parts : List (List Step)) → IsSound table → All (IsCheckedStep table.settings) (joined parts) → Follow table
    (segments_from table parts)
follow_from table [] sound all = tt
follow_from table (steps ∷ parts) sound all =
    let own = All_front (IsCheckedStep table.settings) steps (joined parts) all in
    let later = All_back (IsCheckedStep table.settings) steps (joined parts) all in
    let stands : StandsFor (view_of table) table = record { sound = sound; shows = refl } in (
      stands,
      follow_from (state_after table steps) parts (sound_along steps table sound own)
          (subst (λ settings. All (IsCheckedStep settings) (joined parts)) (sym (settings_along steps table sound own)) later),
    )

module _ (span : ℕ) (table : Table) (steps : List Step) (after : List SegmentView) (count : ℕ) where
  abbrev replayed_parts : List (List Step)
  replayed_parts = cut span (has_none after) steps ++ map steps_of (take count after)

  abbrev pub made_from : List SegmentView
  made_from = segments_from table replayed_parts

  replayed_steps : joined replayed_parts ≡ steps ++ all_steps (take count after)
  replayed_steps =
      flat_map-append (λ (part : List Step). part) (cut span (has_none after) steps) (map steps_of (take count after))
      ∙ ap₂ (λ xs ys. xs ++ ys) (cut_joined span (has_none after) steps) (own_steps (take count after))

  pub meeting_replayed : IsSound table → All (IsCheckedStep table.settings) (steps ++ all_steps (take count after)) →
      (meeting : IsMeeting table steps after count) → AreReplayed span table steps after made_from count meeting.by
  meeting_replayed sound all meeting = record {
    within = meeting.within;
    parts = parts_from table replayed_parts;
    follow = follow_from table replayed_parts sound (subst (All (IsCheckedStep table.settings)) (sym replayed_steps) all);
    unmet = meeting.unmet;
    met = meeting.met;
  }
