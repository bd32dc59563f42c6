use Rattle.std.proofs.Common.{◌≡◌, ◌⊎◌, ◌+◌, ◌-◌, ◌^◌, ◌≤◌, ℕ, true, false, Option, None, Some, List, [], length, take, drop, refl, sym, ap, subst, ◌∙◌, arith}
use Rattle.std.specs.Prelude.{IfSome, is_some}
use Rattle.std.proofs.lemmas.Option.{slice_get_read}
use Rattle.bench_types.specs.declared.step.Step.{Step}
use Rattle.bench_model.specs.Equal.{StandsFor}
use Rattle.bench_model.specs.Session.{state_after}
use Rattle.bench_model.specs.Table.{Table}
use Rattle.bench_model.specs.Tallied.{shape_of, tallied_after, AllCountsBelow}
use Rattle.tallies.proofs.Rooms.{wider_room}
use Rattle.segment_laws.specs.Segments.{SegmentView, all_steps}
use Rattle.session_segments.specs.Counting.{meter_after}
use Rattle.session_store.specs.Trials.{IsMeeting}
use Rattle.session_segments.proofs.Replaying.{later_counted}
use Rattle.session_store.proofs.GoingOn.{checked_alike}
use Rattle.session_store.proofs.Retraces.{meets_at, meets_none, own_steps_fit, past_one, tallied_one, room_one}
use Rattle.bench_model.specs.Shifted.{some_delays_until}
use Rattle.session_segments.specs.Meetings.{IsMeetingAt}
use Rattle.session_store.proofs.trial.tally_segments.Goals as goal

-- the number that there is
the_number : (found : Option ℕ) → is_some found ≡ true → (by : ℕ) × (found ≡ Some by)
the_number None is = absurd (cc is)
the_number (Some by) is = (by, refl)

-- there is none
no_number : (found : Option ℕ) → is_some found ≡ false → found ≡ None
no_number None is = refl
no_number (Some by) is = absurd (cc is)

pub returns-then-is_some-clause-meeting : goal.returns-then-is_some-clause-meeting
returns-then-is_some-clause-meeting c =
    let after = c.args.after.now in
    let count = c.loop-count.count in
    let segment = c.index-after-count.result in
    let found = slice_get_read after (length after) count segment refl c.loop-count-test.true c.index-after-count.is in
    let by = the_number c.met_by.result (sym c.is_some.ensures ∙ c.if-is_some.true) in
    let unread = subst (λ found. IfSome found (λ by. (by ≡ 0) ⊎ (some_delays_until (all_steps (drop count after)) ≡ false))) by.1 c.met_by.ensures.unread in
    let met = subst (IsMeetingAt after count c.loop-count.kernel) by.1 c.met_by.ensures.met in
    λ table stands. meets_at table after count by.0 c.loop-count.kernel segment found c.loop-count-test.true unread
    (λ a b one other. met segment a b found one other) (c.loop-count.invariant.past table stands)

pub tally_steps-requires-clause-steps : goal.tally_steps-requires-clause-steps
tally_steps-requires-clause-steps c =
    let segment = c.index-after-count.result in
    let same = ap (λ (s : SegmentView). s.kernel.settings) c.index-after-count.is ∙ c.requires.settings c.loop-count.count segment c.loop-count-test.true in
    checked_alike segment.kernel.settings c.loop-count.kernel.settings c.args.kernel.now.settings segment.steps c.steps.result.now same
    c.loop-count.invariant.settings c.steps.ensures.steps c.steps.ensures.checked

pub tally_steps-requires-clause-room : goal.tally_steps-requires-clause-room
tally_steps-requires-clause-room c =
    let after = c.args.after.now in
    let count = c.loop-count.count in
    let segment = c.index-after-count.result in
    let fits = own_steps_fit after count segment (slice_get_read after (length after) count segment refl c.loop-count-test.true c.index-after-count.is) in
    let lends = ap (λ (steps : List Step). length steps) c.steps.ensures.steps in
    let within : 2 ^ 32 - length (all_steps after) + length (all_steps (take count after)) ≤ 2 ^ 32 - length c.steps.result.now = omega
    (arith, fits, lends, c.requires.few_steps) in
    wider_room c.loop-count.tallies within c.loop-count.invariant.room

pub loop-count-preserved : goal.loop-count-preserved
loop-count-preserved c =
    let after = c.args.after.now in
    let count = c.loop-count.count in
    let segment = c.index-after-count.result in
    let kernel = c.loop-count.kernel in
    let moved = c.tally_steps.new.kernel in
    let old = c.loop-count.tallies in
    let new = c.tally_steps.new.tallies in
    let lends = c.steps.ensures.steps in
    let so_far = c.loop-count.invariant in
    let found = slice_get_read after (length after) count segment refl c.loop-count-test.true c.index-after-count.is in
    let moves = subst (λ (steps : List Step). (summed_front : Table) → StandsFor kernel summed_front → StandsFor moved (state_after summed_front steps)) lends
    c.tally_steps.ensures.state in
    let counts = subst (λ (steps : List Step). (summed_front : Table) → StandsFor kernel summed_front → new ≡ tallied_after summed_front steps old) lends
    c.tally_steps.ensures.counted in
    let grown = subst (λ (steps : List Step). (bound : ℕ) → AllCountsBelow bound old → AllCountsBelow (bound + length steps) new) lends
    c.tally_steps.ensures.grown in
    let none = no_number c.met_by.result (sym c.is_some.ensures ∙ c.if-is_some.false) in
    let met = subst (IsMeetingAt after count kernel) none c.met_by.ensures.met in
    let meters = subst (λ (steps : List Step). c.tally_steps.new.meter ≡ meter_after (length steps) c.loop-count.meter) lends c.tally_steps.ensures.meter in
    record {
      past = λ table stands.
          past_one table after count kernel moved segment found moves
          (λ a b one other. met segment a b found one other)
          (so_far.past table stands);
      counted = λ table stands.
          tallied_one table after count segment c.args.tallies.now old new found (so_far.counted table stands)
          (counts (state_after table (all_steps (take count after))) (so_far.past table stands).stands);
      settings = c.tally_steps.ensures.settings ∙ so_far.settings;
      sizes = c.tally_steps.ensures.sizes ∙ ap shape_of so_far.settings;
      room = room_one after count segment (2 ^ 32 - length (all_steps after)) new found
          (grown (2 ^ 32 - length (all_steps after) + length (all_steps (take count after))) so_far.room);
      tops = c.tally_steps.ensures.tops;
      known = c.met_by.ensures.known;
      meter = later_counted after count c.args.meter.now c.loop-count.meter c.tally_steps.new.meter segment found so_far.meter meters;
    }

pub returns-clause-meeting : goal.returns-clause-meeting
returns-clause-meeting c = λ table stands.
    let all : c.loop-count.count ≡ length c.args.after.now = omega arith in
    subst (IsMeeting table [] c.args.after.now) all (meets_none table c.args.after.now c.loop-count.count c.loop-count.kernel all
    (c.loop-count.invariant.past table stands))
