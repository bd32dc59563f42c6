use Rattle.std.proofs.Common.{◌+◌, ◌-◌, ◌^◌, ◌≤◌, length, take, arith}
use Rattle.bench_model.specs.Session.{state_after}
use Rattle.tallies.proofs.Rooms.{wider_room}
use Rattle.segment_laws.specs.Segments.{all_steps}
use Rattle.session_store.proofs.Retraces.{meeting_later, tallied_later}
use Rattle.session_store.proofs.trial.retrace.Goals as goal

pub tally_steps-requires-clause-room : goal.tally_steps-requires-clause-room
tally_steps-requires-clause-room c =
    let within : 1 ≤ 2 ^ 32 - length c.args.steps.now = omega (arith, c.requires.few_steps) in
    wider_room c.in_ok-tallies.tallies within c.in_ok-tallies.ensures.room

pub tally_segments-count-requires-clause-room : goal.tally_segments-count-requires-clause-room
tally_segments-count-requires-clause-room c =
    let within : 1 + length c.args.steps.now ≤ 2 ^ 32 - length (all_steps c.args.after.now) = omega (arith, c.requires.few_steps) in
    wider_room c.tally_steps.new.tallies within (c.tally_steps.ensures.grown 1 c.in_ok-tallies.ensures.room)

pub returns-clause-meeting : goal.returns-clause-meeting
returns-clause-meeting c = λ table stands. meeting_later table c.args.steps.now c.args.after.now c.tally_segments-count.result
    (c.tally_segments-count.ensures.meeting (state_after table c.args.steps.now) (c.tally_steps.ensures.state table stands))

pub returns-clause-tallies : goal.returns-clause-tallies
returns-clause-tallies c = λ table stands.
    tallied_later c.args.kernel.now table c.args.steps.now (all_steps (take c.tally_segments-count.result c.args.after.now)) c.in_ok-tallies.tallies
    c.tally_steps.new.tallies c.tally_segments-count.new.tallies
    stands c.in_ok-tallies.ensures.tallies (c.tally_steps.ensures.counted table stands)
    (c.tally_segments-count.ensures.counted (state_after table c.args.steps.now) (c.tally_steps.ensures.state table stands))
