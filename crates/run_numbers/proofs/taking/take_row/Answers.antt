use Rattle.std.proofs.Common.{refl, subst, sym, arith}
use Rattle.run_numbers.specs.Counters.{past_of, took_in, HasRoomFor}
use Rattle.run_numbers.specs.Progress.{subject_in}
use Rattle.run_numbers.proofs.Visits.{row_taken, taken_more}
use Rattle.run_numbers.proofs.taking.take_row.Goals as goal

pub take_at-requires-clause-room : goal.take_at-requires-clause-room
take_at-requires-clause-room c is =
    let place = c.loop-place.place in
    let end = c.requires.plan.spans.end c.args.row c.requires.row in
    subst (HasRoomFor (past_of c.args.made.now) (subject_in c.args.plan.now.subjects.now place)) (sym (c.loop-place.invariant.later place (omega arith)))
    (c.requires.room place (omega (arith, c.loop-place-test.true, end)) is)

pub loop-place-preserved : goal.loop-place-preserved
loop-place-preserved c =
    taken_more (took_in c.args.made.now) c.args.plan.now c.args.row _ c.args.counters.now c.loop-place.place c.loop-place.counters c.take_at.new.counters
    c.loop-place.invariant c.take_at.ensures

pub returns : goal.returns
returns c =
    row_taken (took_in c.args.made.now) c.args.plan.now c.args.row _ c.args.counters.now _ c.loop-place.counters c.requires.plan.spans refl refl
    c.loop-place.place c.loop-place-test.false c.loop-place.invariant
