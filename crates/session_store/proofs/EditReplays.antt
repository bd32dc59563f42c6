-- The replay of an edit: what its parts need, and what it makes.
use Rattle.std.proofs.Common.{◌≡◌, ◌⊎◌, ℕ, false, ◌+◌, ◌-◌, ◌^◌, ◌<◌, ◌≤◌, Bool, List, ◌++◌, length, take, drop, Ok, refl, sym, ap, ap₂, subst, ◌∙◌, arith}
use Rattle.std.specs.Prelude.{All, ◌==◌}
use Rattle.std.proofs.lemmas.Bool.Decides.{nat_tests}
use Rattle.std.proofs.Math.Seq.{drop-append-add}
use Rattle.std.proofs.lemmas.List.{append_assoc, drop_at, take_at, length-append, length-drop, length-map, length-take-le, drop-drop}
use Rattle.std.proofs.lemmas.List.Elements.{All-drop}
use Rattle.bench_types.specs.declared.edit.Edit.{Edit}
use Rattle.bench_types.specs.declared.header.Header.{Header}
use Rattle.bench_types.specs.declared.kernel_data.Settings.{Settings}
use Rattle.bench_types.specs.declared.step.Step.{Step}
use Rattle.bench_types.specs.Edit.{IsEditOfWords}
use Rattle.bench_types.specs.Limits.{max_cores, max_span, max_steps}
use Rattle.bench_types.specs.Session.{Session, IsSession}
use Rattle.bench_types.specs.Step.{settings_of, IsCheckedStep}
use Rattle.bench_types.proofs.Passes.{header_facts, passes_whole}
use Rattle.session_laws.proofs.EditedSessions.{edited_session, edited_room}
use Rattle.bench_model.specs.Edits.{accepted, edited}
use Rattle.bench_model.specs.Equal.{StandsFor}
use Rattle.bench_model.specs.Lists.{View}
use Rattle.bench_model.specs.Meeting.{met, replayed, replayed_from}
use Rattle.bench_model.specs.Session.{state_after, state_at}
use Rattle.bench_model.specs.Shifted.{some_delays_until}
use Rattle.bench_model.specs.Start.{start}
use Rattle.bench_model.specs.Table.{Table}
use Rattle.bench_model.specs.Tallied.{part_tallies, shape, shape_of}
use Rattle.bench_model.specs.Tally.{TaskTally, tallies}
use Rattle.segment_laws.specs.EditedSegments.{cut, has_none, AreReplayed}
use Rattle.segment_laws.specs.SegmentLaws.{IsEdited}
use Rattle.segment_laws.specs.Segments.{SegmentView, steps_of, all_steps, later_segments, AreSegments}
use Rattle.segment_laws.proofs.EditedSegments.{edited_segments_stand, unmet_are_replayed}
use Rattle.segment_laws.proofs.EditedPlaces.{begins_there}
use Rattle.segment_laws.proofs.EditedSteps.{made_steps, split_steps}
use Rattle.segment_laws.proofs.Following.{All_front, all_more, segments_split}
use Rattle.step_laws.proofs.Along.{start_settings}
use Rattle.segment_laws.proofs.Reading.{state_front, front_settings, back_checked}
use Rattle.segment_laws.proofs.LaterSegments.{later_steps}
use Rattle.segment_laws.proofs.Shifts.{shifts}
use Rattle.session_segments.specs.Replaying.{AreReplayedFrom, HasSettings, IsReplayOf}
use Rattle.session_segments.specs.Counting.{meter_after, CountsUpTo}
use Rattle.session_segments.proofs.Counts.{counted_twice}
use Rattle.smp_kernel.specs.Kernel.{StandsForSome}
use Rattle.session_store.specs.Kept.{kept_of, session_of, IsKept}
use Rattle.session_store.specs.Outcomes.{outcome_of}
use Rattle.session_store.specs.Replays.{AreMade, AreRemade, IsEditedSegment, IsEditReplay}
use Rattle.session_store.specs.Trials.{tallies_after, AreTalliedAfter, IsMeeting, StayLater}
use Rattle.session_store.proofs.EditShown.{kept_parts}
use Rattle.session_store.proofs.GoingOn.{cut_some, goes_on, made_are_steps, none_left}
use Rattle.session_store.proofs.SegmentsOfEdits.{follow_settings}
use Rattle.session_store.proofs.Retraces.{made_from, meeting_replayed}
use Rattle.session_store.proofs.StoreTallies.{replay_of}

-- the cores of a session are few
pub few_cores : (session : Session) → IsSession session → (settings_of session.header).cores ≤ max_cores
few_cores session is = (header_facts session.header (passes_whole session.header is.header.passes)).few_cores

module _ {header : Header} {span : ℕ} {segments : List SegmentView} (edit : Edit) (kept : IsKept header span segments) (words : IsEditOfWords edit)
    (accepts : accepted (session_of header segments) edit ≡ Ok tt) where
  abbrev next : Session
  next = edited edit (session_of header segments)

  are : AreSegments (kept_of header span segments) segments
  are = record { steps = refl; places = refl; follow = kept.follow }

  some_span : 1 ≤ span
  some_span = grind (arith, nat_tests, kept.span_fits)

  pub span_below : span ≤ max_span
  span_below = grind (arith, nat_tests, kept.span_fits)

  next_is : IsSession next
  next_is = edited_session (session_of header segments) edit kept.session words accepts

  next_few : length next.steps ≤ max_steps
  next_few = edited_room (session_of header segments) edit kept.few_steps accepts

  module _ {kernel : View} {steps : List Step} {before after : ℕ}
      (edited_segment : IsEditedSegment (session_of header segments) edit segments kernel steps before after) where
    abbrev front : List SegmentView
    front = take before segments

    abbrev rest : List SegmentView
    rest = drop after segments

    -- the state where the replay begins
    abbrev begin : Table
    begin = state_at next.header next.steps (length (all_steps front))

    whole : next.steps ≡ all_steps front ++ (steps ++ all_steps rest)
    whole = split_steps (kept_of header span segments) edit segments front steps rest accepts are edited_segment.split

    pub begin_is : begin ≡ state_after (start next.header) (all_steps front)
    begin_is = state_front next.header next.steps (all_steps front) (steps ++ all_steps rest) whole

    begin_next : begin.settings ≡ settings_of next.header
    begin_next = ap (λ (table : Table). table.settings) begin_is ∙ front_settings next (all_steps front) (steps ++ all_steps rest) next_is whole

    pub kernel_next : kernel.settings ≡ settings_of next.header
    kernel_next = sym (ap (λ (view : View). view.settings) edited_segment.stands.shows) ∙ begin_next

    pub kernel_some : StandsForSome kernel
    kernel_some = (begin, edited_segment.stands)

    pub kernel_few : kernel.settings.cores ≤ max_cores
    kernel_few = subst (λ (settings : Settings). settings.cores ≤ max_cores) (sym kernel_next) (few_cores next next_is)

    pub part_checked : All (IsCheckedStep kernel.settings) steps
    part_checked =
        subst (λ settings. All (IsCheckedStep settings) steps) (sym kernel_next)
        (All_front (IsCheckedStep (settings_of next.header)) steps (all_steps rest)
        (back_checked next (all_steps front) (steps ++ all_steps rest) next_is whole))

    lengths_whole : length next.steps ≡ length (all_steps front) + (length steps + length (all_steps rest))
    lengths_whole =
        ap length whole ∙ length-append (all_steps front) (steps ++ all_steps rest)
        ∙ ap (λ n. length (all_steps front) + n) (length-append steps (all_steps rest))

    pub part_few : length steps ≤ max_steps
    part_few = omega (arith, lengths_whole, next_few)

    pub all_few : length steps + length (all_steps rest) ≤ max_steps
    all_few = omega (arith, lengths_whole, next_few)

    pub rest_settings : All (HasSettings kernel.settings) rest
    rest_settings =
        subst (λ settings. All (HasSettings settings) rest) (sym edited_segment.settings)
        (All-drop (HasSettings (settings_of header)) after segments (follow_settings (settings_of header) (start header) segments (start_settings header)
        kept.session.steps kept.follow))

    front_is : length (all_steps front) ≡ replayed_from (kept_of header span segments) edit
    front_is =
        let shift = shifts (kept_of header span segments) segments front steps rest kept.checkpoints are edit accepts edited_segment.split in
        begins_there (kept_of header span segments) edit segments front steps rest shift.0 some_span accepts kept.checkpoints are shift.1

    -- so many of the segments after it
    front_rest : (count : ℕ) → length (all_steps rest) ≡ length (all_steps (take count rest)) + length (all_steps (drop count rest))
    front_rest count = ap length (segments_split count rest) ∙ length-append (all_steps (take count rest)) (all_steps (drop count rest))

    -- no more steps are edited than are replayed
    part_within : length steps ≤ replayed (kept_of header span segments) edit
    part_within =
        let within = unmet_are_replayed (kept_of header span segments) edit segments front steps rest 0 accepts some_span kept.checkpoints are
        edited_segment.split (λ i segment old below. absurd (omega arith)) in
        omega (arith, within, front_is)

    -- where the edited steps were replayed, all or some
    pub gives_up : (given : List Step) (old new : ℕ) → given ≡ steps → CountsUpTo (length given) old new → CountsUpTo
        (replayed (kept_of header span segments) edit) old new
    gives_up given old new same some = (some.0, omega (arith, some.1, part_within, ap length same), some.2)

    pub gave_up : (given : List Step) (old new : ℕ) → given ≡ steps → new ≡ meter_after (length given) old → CountsUpTo
        (replayed (kept_of header span segments) edit) old new
    gave_up given old new same counts = (length given, omega (arith, part_within, ap length same), counts)

    module _ (made : List SegmentView) (count by : ℕ) (runs : AreReplayed span begin steps rest made count by) where
      pub made_length : length (all_steps made) ≡ length steps + length (all_steps (take count rest))
      made_length = ap length (made_steps span begin steps rest made count by runs) ∙ length-append steps (all_steps (take count rest))

      -- the replay ends within the edited session
      pub made_few : length (all_steps front) + length (all_steps made) ≤ max_steps
      made_few = omega (arith, made_length, lengths_whole, next_few, front_rest count)

      edited_is : IsEdited (kept_of header span segments) edit front made (later_segments by (drop count rest))
      edited_is = edited_segments_stand (kept_of header span segments) edit segments front steps rest made count by kept.session words accepts some_span
          kept.checkpoints are edited_segment.split runs

      pub met_is : length (all_steps front) + length (all_steps made) ≡ met (kept_of header span segments) edit
      met_is = edited_is.met

      pub from_is : length (all_steps front) ≡ replayed_from (kept_of header span segments) edit
      from_is = edited_is.from

      pub replayed_is : length (all_steps made) ≡ replayed (kept_of header span segments) edit
      replayed_is = omega (arith, met_is, from_is)

      pub edit_replay : IsEditReplay (kept_of header span segments) edit segments made before (after + count) by
      edit_replay = record {
        order = omega (arith, edited_segment.order);
        within = omega (arith, edited_segment.within, runs.within, length-drop after segments);
        edited = subst (λ behind. IsEdited (kept_of header span segments) edit front made (later_segments by behind)) (drop-drop count after segments)
            edited_is;
      }

      pub counted : (given : List Step) (later : List SegmentView) (old new : ℕ) → given ≡ steps → later ≡ rest → new ≡ meter_after
          (length given + length (all_steps (take count later))) old → new ≡ meter_after (replayed (kept_of header span segments) edit) old
      counted given later old new same there count_is =
          count_is ∙ ap₂ (λ (ss : List Step) (after : List SegmentView). meter_after (length ss + length (all_steps (take count after))) old) same there
          ∙ ap (λ n. meter_after n old) (sym made_length ∙ replayed_is)

      pub outcome_is : (from more : ℕ) → from ≡ length (all_steps front) → more ≡ length (all_steps made) →
          record { from = from; met = from + more; replayed = more } ≡ outcome_of (kept_of header span segments) edit
      outcome_is from more begins are_made =
          let first = begins ∙ from_is in
          let last : from + more ≡ met (kept_of header span segments) edit = omega (arith, begins, are_made, met_is) in
          let all = are_made ∙ replayed_is in
          cc (first, last, all)

    -- whether segments come after the edited one
    pub is_last_is : (count : ℕ) → count ≡ length segments → (count - after == 0) ≡ has_none rest
    is_last_is count are_all =
        let left : count - after ≡ length rest = omega (arith, are_all, length-drop after segments) in
        ap (λ n. n == 0) left ∙ none_left rest

    -- the edited steps in new segments
    module _ {given : List Step} (same : given ≡ steps) {is_last : Bool} (last : is_last ≡ has_none rest) {cut_made : List SegmentView}
        (shown : (table : Table) → StandsFor kernel table → AreMade table (cut span is_last given) cut_made) where
      cut_is : AreMade begin (cut span (has_none rest) steps) cut_made
      cut_is = subst (λ steps. AreMade begin (cut span (has_none rest) steps) cut_made) same
          (subst (λ b. AreMade begin (cut span b given) cut_made) last (shown begin edited_segment.stands))

      cut_steps : all_steps cut_made ≡ steps
      cut_steps = made_are_steps span begin steps rest cut_made cut_is

      abbrev pub placed : List SegmentView
      placed = front ++ cut_made ++ rest

      cut_length : length cut_made ≡ length (cut span (has_none rest) steps)
      cut_length = sym (length-map cut_made steps_of) ∙ ap length cut_is.parts_are

      placed_length : length placed ≡ length front + (length cut_made + length rest)
      placed_length = omega (arith, length-append (front ++ cut_made) rest, length-append front cut_made)

      pub placed_some : 0 < length placed
      placed_some = omega (arith, placed_length, cut_length, cut_some span rest steps)

      pub placed_few : length (all_steps placed) < 2 ^ 32
      placed_few =
          let all = ap length (all_more (front ++ cut_made) rest ∙ ap (λ xs. xs ++ all_steps rest)
          (all_more front cut_made ∙ ap (λ xs. all_steps front ++ xs) cut_steps)) in
          omega (arith, all, length-append (all_steps front ++ steps) (all_steps rest), length-append (all_steps front) steps, lengths_whole, next_few)

      -- and those after them in place
      module _ {parts : List SegmentView} (parts_are : parts ≡ placed) (start : ℕ) (starts_at : start ≡ length parts - (length segments - after)) where
        start_is : start ≡ length (front ++ cut_made)
        start_is = omega (arith, starts_at, ap length parts_are, placed_length, length-append front cut_made, length-drop after segments, edited_segment.within)

        pub start_within : start ≤ length parts
        start_within = omega (arith, starts_at)

        pub rest_is : drop start parts ≡ rest
        rest_is = ap₂ (λ n xs. drop n xs) start_is parts_are ∙ drop_at (front ++ cut_made) rest (length (front ++ cut_made)) refl

        front_are : take start parts ≡ front ++ cut_made
        front_are = ap₂ (λ n xs. take n xs) start_is parts_are ∙ take_at (front ++ cut_made) rest (length (front ++ cut_made)) refl

        pub later_settings : (now : View) → now.settings ≡ kernel.settings → All (HasSettings now.settings) (drop start parts)
        later_settings now settings = subst (λ s. All (HasSettings s) (drop start parts)) (sym settings)
            (subst (All (HasSettings kernel.settings)) (sym rest_is) rest_settings)

        module _ {moved : View} (moves : (table : Table) → StandsFor kernel table → StandsFor moved (state_after table given)) {new : List SegmentView}
            {end : ℕ} (replay_in_place : (table : Table) → StandsFor moved table → AreReplayedFrom table start parts new end) where
          replay : AreReplayedFrom (state_after begin steps) start parts new end
          replay = replay_in_place (state_after begin steps) (subst (λ steps. StandsFor moved (state_after begin steps)) same
              (moves begin edited_segment.stands))

          abbrev count : ℕ
          count = end - start

          abbrev remade : List SegmentView
          remade = cut_made ++ replay.made

          remade_runs : AreReplayed span begin steps rest remade count replay.by
          remade_runs = goes_on begin steps rest span cut_made replay.made count replay.by cut_is
              (subst (λ xs. IsReplayOf (state_after begin steps) xs replay.made count replay.by) rest_is replay.replay)

          -- those where it did not go
          abbrev behind : List SegmentView
          behind = later_segments replay.by (drop (after + count) segments)

          end_is : end ≡ length (front ++ cut_made) + count
          end_is = omega (arith, start_is, replay.order)

          back_is : drop end parts ≡ drop (after + count) segments
          back_is =
              ap₂ (λ n xs. drop n xs) end_is parts_are ∙ drop-append-add (front ++ cut_made) rest count ∙ drop-drop count after segments

          whole_new : new ≡ front ++ remade ++ behind
          whole_new =
              replay.replaced ∙ ap₂ (λ xs ys. xs ++ replay.made ++ later_segments replay.by ys) front_are back_is
              ∙ ap (λ xs. xs ++ behind) (append_assoc front cut_made replay.made)

          pub are_remade : AreRemade (kept_of header span segments) edit segments new
          are_remade = record {
            made = remade;
            before = before;
            after = after + count;
            by = replay.by;
            whole = whole_new;
            replay = edit_replay remade count replay.by remade_runs;
          }

          later_length : length replay.made ≡ count
          later_length =
              let within : count ≤ length (drop start parts) = replay.replay.within in
              sym (length-map replay.made steps_of) ∙ ap length replay.replay.parts_are ∙ length-map (take count (drop start parts)) steps_of ∙ length-take-le
              count (drop start parts) within

          front_size : length front ≡ before
          front_size = length-take-le before segments (omega (arith, edited_segment.order, edited_segment.within))

          -- the segments that were replayed, as a slice
          slice_is : take (end - before) (drop before new) ≡ remade
          slice_is =
              let from : before ≡ length front = sym front_size in
              let size : end - before ≡ length remade = omega (
                arith,
                end_is,
                front_size,
                length-append front cut_made,
                length-append cut_made replay.made,
                later_length,
              ) in
              ap (λ xs. take (end - before) (drop before xs)) (whole_new ∙ append_assoc front remade (behind))
              ∙ ap (take (end - before)) (ap (λ n. drop n (front ++ (remade ++ behind))) from ∙ drop_at front (remade ++ behind) (length front) refl)
              ∙ ap (λ n. take n (remade ++ behind)) size ∙ take_at remade (behind) (length remade) refl

          pub slice_within : (before ≤ end) × (end ≤ length new)
          slice_within = (
            omega (arith, end_is, front_size, length-append front cut_made),
            omega (
              arith,
              end_is,
              front_size,
              length-append front cut_made,
              later_length,
              ap length whole_new,
              length-append (front ++ remade) (behind),
              length-append front remade,
              length-append cut_made replay.made,
            ),
          )

          pub slice_few : length (all_steps front) + length (all_steps (take (end - before) (drop before new))) ≤ max_steps
          slice_few = omega (arith, made_few remade count replay.by remade_runs, ap (λ (xs : List SegmentView). length (all_steps xs)) slice_is)

          pub remade_counted : (old middle last : ℕ) → middle ≡ meter_after (length given) old → last ≡ meter_after
              (length (all_steps (take (end - start) (drop start parts)))) middle → last ≡ meter_after (replayed (kept_of header span segments) edit) old
          remade_counted old middle last first second =
              counted remade count replay.by remade_runs given (drop start parts) old last same rest_is
              (second ∙ ap (meter_after (length (all_steps (take count (drop start parts))))) first ∙ counted_twice (length given)
              (length (all_steps (take count (drop start parts)))) old)

          pub remade_outcome : (from more : ℕ) → from ≡ length (all_steps front) → more ≡ length (all_steps (take (end - before) (drop before new))) →
              record { from = from; met = from + more; replayed = more } ≡ outcome_of (kept_of header span segments) edit
          remade_outcome from more begins are_made = outcome_is remade count replay.by remade_runs from more begins
              (are_made ∙ ap (λ (xs : List SegmentView). length (all_steps xs)) slice_is)

    -- only the tallies of the replay are kept, by what was lent of the steps and of the segments
    module _ {given : List Step} {later : List SegmentView} {count : ℕ} (same : given ≡ steps) (there : later ≡ rest)
        (shown : (table : Table) → StandsFor kernel table → IsMeeting table given later count) where
      pub meets : IsMeeting begin steps rest count
      meets = subst (λ segments. IsMeeting begin steps segments count) there
          (subst (λ steps. IsMeeting begin steps later count) same (shown begin edited_segment.stands))

      -- segments that it could have made
      abbrev pub with_results : List SegmentView
      with_results = made_from span begin steps rest count

      traced_checked : All (IsCheckedStep begin.settings) (steps ++ all_steps (take count rest))
      traced_checked =
          let own = settings_of next.header in
          let cut : steps ++ all_steps rest ≡ steps ++ all_steps (take count rest) ++ all_steps (drop count rest) = ap (λ xs. steps ++ xs)
          (segments_split count rest) ∙ sym (append_assoc steps (all_steps (take count rest)) (all_steps (drop count rest))) in
          let all = subst (All (IsCheckedStep own)) cut (back_checked next (all_steps front) (steps ++ all_steps rest) next_is whole) in
          subst (λ settings. All (IsCheckedStep settings) (steps ++ all_steps (take count rest))) (sym begin_next)
          (All_front (IsCheckedStep own) (steps ++ all_steps (take count rest)) (all_steps (drop count rest)) all)

      pub traced_runs : AreReplayed span begin steps rest with_results count meets.by
      traced_runs = meeting_replayed span begin steps rest count edited_segment.stands.sound traced_checked meets

      pub traced_within : count ≤ length later
      traced_within = subst (λ (segments : List SegmentView). count ≤ length segments) (sym there) meets.within

      -- how many steps it made
      pub traced_length : length given + length (all_steps (take count later)) ≡ length (all_steps with_results)
      traced_length =
          ap₂ (λ (ss : List Step) (after : List SegmentView). length ss + length (all_steps (take count after))) same there
          ∙ sym (made_length with_results count meets.by traced_runs)

      pub traced_few : length (all_steps front) + (length given + length (all_steps (take count later))) ≤ max_steps
      traced_few = omega (arith, traced_length, made_few with_results count meets.by traced_runs)

      pub traced_replay : IsEditReplay (kept_of header span segments) edit segments with_results before (after + count) meets.by
      traced_replay = edit_replay with_results count meets.by traced_runs

      -- those where it did not go
      abbrev traced_behind : List SegmentView
      traced_behind = later_segments meets.by (drop (after + count) segments)

      pub stay_later : StayLater traced_behind (drop (after + count) segments)
      stay_later = record {
        by = meets.by;
        unread = subst (λ (ss : List SegmentView). (meets.by ≡ 0) ⊎ (some_delays_until (all_steps ss) ≡ false)) (drop-drop count after segments) meets.unread;
        are = refl;
      }

      abbrev pub traced_tallies : (replayed : List TaskTally) → ((table : Table) → StandsFor kernel table → replayed ≡ part_tallies kernel.settings table
          (given ++ all_steps (take count later))) → shape replayed ≡ shape_of kernel.settings → AreTalliedAfter front replayed
      traced_tallies replayed counts sized = record {
        header = next.header;
        made = with_results;
        later = traced_behind;
        replay = replay_of next.header span (front ++ with_results ++ traced_behind)
            (kept_parts header span segments edit kept words accepts with_results before (after + count) meets.by traced_replay next.header refl);
        counts =
            counts begin edited_segment.stands
            ∙ ap₂ (λ (ss : List Step) (after : List SegmentView). part_tallies kernel.settings begin (ss ++ all_steps (take count after))) same there
            ∙ ap (part_tallies kernel.settings begin) (sym (made_steps span begin steps rest with_results count meets.by traced_runs))
            ∙ ap₂ (λ (settings : Settings) (table : Table). part_tallies settings table (all_steps with_results)) kernel_next begin_is;
        sizes = sized ∙ ap shape_of kernel_next;
      }

      -- no segment has other steps than it had
      behind_steps : all_steps (front ++ with_results ++ drop (after + count) segments) ≡ all_steps (front ++ with_results ++ traced_behind)
      behind_steps =
          all_more (front ++ with_results) (drop (after + count) segments)
          ∙ ap (λ xs. all_steps (front ++ with_results) ++ xs) (sym (later_steps meets.by (drop (after + count) segments)))
          ∙ sym (all_more (front ++ with_results) traced_behind)

      pub traced_total : (total : List TaskTally) → total ≡ tallies next.header (all_steps (front ++ with_results ++ drop (after + count) segments)) → total ≡
          tallies_after edit (session_of header segments)
      traced_total total is = is ∙ ap (tallies next.header) (behind_steps ∙ traced_replay.edited.segments.steps)
