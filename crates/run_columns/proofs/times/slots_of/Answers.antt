use Rattle.std.proofs.Common.{◌∙◌, ap, sym, subst, arith}
use Rattle.std.proofs.lemmas.List.{take_all}
use Rattle.run_columns.specs.SlotColumns.{AreSlots}
use Rattle.run_columns.specs.TimeSlots.{slots_of}
use Rattle.run_columns.proofs.Timed.{slot_fits, slots_are}
use Rattle.run_columns.proofs.times.slots_of.Goals as goal

pub overflow_cast-time : goal.overflow_cast-time
overflow_cast-time c =
    let few = slot_fits c.args.span c.args.times.now c.loop-time.time-index c.requires.some c.requires.times c.requires.low c.loop-time-test.true in
    omega (arith, few)

pub returns-clause-slots : goal.returns-clause-slots
returns-clause-slots c =
    let times = c.args.times.now in
    subst AreSlots (sym (c.loop-time.invariant ∙ ap (slots_of c.args.span) (take_all c.loop-time.time-index times (omega (arith, c.loop-time-test.false)))))
    (slots_are c.args.span times c.requires.some c.requires.times c.requires.low)
