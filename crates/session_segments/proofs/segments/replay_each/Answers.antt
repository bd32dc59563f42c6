use Rattle.std.proofs.Common.{◌≡◌, ◌⊎◌, ◌+◌, ◌-◌, ◌<◌, ⊎_elim, List, length, map, take, drop, slice_index_or, false, refl, sym, ap, subst, ◌∙◌, arith}
use Rattle.std.specs.Prelude.{IfSome, MatchOption, None, Some, slice_get, slice_set}
use Rattle.std.proofs.lemmas.Option.{get_or_from_slice_get, slice_get-get_or, slice_get_cases, slice_get_within}
use Rattle.bench_model.specs.Equal.{StandsFor}
use Rattle.bench_model.specs.Session.{state_after}
use Rattle.bench_model.specs.Shifted.{is_met, some_delays_until}
use Rattle.bench_model.specs.Table.{Table}
use Rattle.meeting_laws.specs.RunLaws.{MeetBy}
use Rattle.segment_laws.specs.Segments.{SegmentView, steps_of, all_steps}
use Rattle.session_segments.specs.Replaying.{AreReplayedFrom}
use Rattle.session_segments.specs.Counting.{meter_after}
use Rattle.session_segments.specs.Meetings.{IsUnreadFrom}
use Rattle.session_segments.proofs.Replaying.{next_found, replay_counted, replay_ends, replay_goes, replay_meets, replay_starts}
use Rattle.session_segments.proofs.Unread.{unread_still}
use Rattle.session_segments.proofs.segments.replay_each.Goals as goal

pub loop-index-init : goal.loop-index-init
loop-index-init g c =
    let none : 0 ≡ c.args.first - c.args.first = omega arith in
    record {
      replaying = λ table stands. replay_starts table c.args.first c.args.segments.now c.args.kernel.now stands;
      settings = refl;
      meter = ap (λ n. meter_after (length (all_steps (take n (drop c.args.first c.args.segments.now)))) c.args.meter.now) none;
      known = c.requires.known;
    }

pub met_by-requires-clause-known : goal.met_by-requires-clause-known
met_by-requires-clause-known g c = c.loop-index.invariant.known

pub shift_from-requires-clause-unread : goal.shift_from-requires-clause-unread
shift_from-requires-clause-unread g c = c.in-Some.ensures.unread

pub returns-in-Some-clause-replayed : goal.returns-in-Some-clause-replayed
returns-in-Some-clause-replayed g c = λ table stands.
    let old = c.args.segments.now in
    let segments = c.loop-index.segments in
    let index = c.loop-index.index in
    let early : index < length old = c.loop-index-test.true in
    ⊎_elim
    (λ at.
    replay_meets table c.args.first old segments index c.loop-index.kernel early (c.loop-index.invariant.replaying table stands) at.0 c.in-Some.by
    c.shift_from.new.segments at.2 c.shift_from.ensures
    (λ a b one other. c.in-Some.ensures.met at.0 a b at.2 one other))
    (λ past. absurd (omega (arith, past.0, early, c.loop-index.auto.segments)))
    (slice_get_cases segments index).1

pub returns-in-Some-clause-meter : goal.returns-in-Some-clause-meter
returns-in-Some-clause-meter g c = c.loop-index.invariant.meter

pub replay_in_place-requires-clause-stands : goal.replay_in_place-requires-clause-stands
replay_in_place-requires-clause-stands g c =
    let stands = c.requires.stands in
    let replaying = c.loop-index.invariant.replaying stands.0 stands.1 in
    (state_after stands.0 (all_steps (take (c.loop-index.index - c.args.first) (drop c.args.first c.args.segments.now))), replaying.going.stands)

pub replay_in_place-requires-clause-settings : goal.replay_in_place-requires-clause-settings
replay_in_place-requires-clause-settings g c =
    let old = c.args.segments.now in
    let segments = c.loop-index.segments in
    let index = c.loop-index.index in
    let segment = slice_index_or segments index c.index-segments-index.result in
    let after = drop c.args.first old in
    let stands = c.requires.stands in
    let early : index < length old = c.loop-index-test.true in
    let found = slice_get-get_or segments index c.index-segments-index.result (omega (arith, early, c.loop-index.auto.segments)) in
    let there = next_found stands.0 c.args.first old segments index c.loop-index.kernel early (c.loop-index.invariant.replaying stands.0 stands.1) segment found
    in
    let low = slice_get_within after (index - c.args.first) segment there in
    let own : segment.kernel.settings ≡ c.args.kernel.now.settings =
    subst (λ (s : SegmentView). s.kernel.settings ≡ c.args.kernel.now.settings) (get_or_from_slice_get after (index - c.args.first) segment segment there)
    (c.requires.settings (index - c.args.first) segment low) in
    c.loop-index.invariant.settings ∙ sym own

pub loop-index-preserved : goal.loop-index-preserved
loop-index-preserved g c =
    let old = c.args.segments.now in
    let segments = c.loop-index.segments in
    let index = c.loop-index.index in
    let kernel = c.loop-index.kernel in
    let moved = c.replay_in_place.new.kernel in
    let segment = slice_index_or segments index c.index-segments-index.result in
    let stands = c.requires.stands in
    let early : index < length old = c.loop-index-test.true in
    let found = slice_get-get_or segments index c.index-segments-index.result (omega (arith, early, c.loop-index.auto.segments)) in
    let there = next_found stands.0 c.args.first old segments index kernel early (c.loop-index.invariant.replaying stands.0 stands.1) segment found in
    let is : c.replay_in_place.new.self ≡ record { kernel = kernel; steps = segment.steps } = c.replay_in_place.ensures.segment in
    record {
      replaying = λ table stands.
          replay_goes table c.args.first old segments index kernel early (c.loop-index.invariant.replaying table stands) segment c.replay_in_place.new.self
          (slice_set segments index c.replay_in_place.new.self) moved found is refl c.replay_in_place.ensures.state
          (λ a b one other. c.in_default.ensures.met segment a b found one other);
      settings = c.replay_in_place.ensures.settings ∙ c.loop-index.invariant.settings;
      meter = replay_counted (drop c.args.first old) c.args.first index c.args.meter.now c.loop-index.meter c.replay_in_place.new.meter segment
          c.loop-index.auto.index there c.loop-index.invariant.meter c.replay_in_place.ensures.meter;
      known = unread_still segments index segment c.replay_in_place.new.self c.met_by.new.known found (ap steps_of is) c.in_default.ensures.known;
    }

pub returns-clause-replayed : goal.returns-clause-replayed
returns-clause-replayed g c = λ table stands.
    let end : c.loop-index.index ≡ length c.loop-index.segments = omega (arith, c.loop-index-test.false, c.loop-index.auto.segments) in
    let all : c.loop-index.index ≡ length c.args.segments.now = omega (arith, end, c.loop-index.auto.segments) in
    subst (AreReplayedFrom table c.args.first c.args.segments.now c.loop-index.segments) end
    (replay_ends table c.args.first c.args.segments.now c.loop-index.segments c.loop-index.index c.loop-index.kernel all
    (c.loop-index.invariant.replaying table stands))

pub returns-clause-meter : goal.returns-clause-meter
returns-clause-meter g c =
    let end : c.loop-index.index ≡ length c.loop-index.segments = omega (arith, c.loop-index-test.false, c.loop-index.auto.segments) in
    c.loop-index.invariant.meter ∙ ap (λ n. meter_after (length (all_steps (take (n - c.args.first) (drop c.args.first c.args.segments.now)))) c.args.meter.now)
    end
