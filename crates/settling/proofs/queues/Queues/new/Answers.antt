use Rattle.settling.proofs.Finds.{linked_none, linked_some}
use Rattle.settling.proofs.queues.Queues.new.Goals as goal

pub loop-place-preserved-in-Some : goal.loop-place-preserved-in-Some
loop-place-preserved-in-Some c =
    linked_some c.args.steps.now c.loop-place.place c.args.tasks c.loop-place.heads.items c.loop-place.next.items c.loop-place-test.true c.loop-place.invariant
    c.in-Some.task c.index.result.now c.requires c.index.ensures c.in-Some.ensures

pub loop-place-preserved : goal.loop-place-preserved
loop-place-preserved c =
    linked_none c.args.steps.now c.loop-place.place c.args.tasks c.loop-place.heads.items c.loop-place.next.items c.loop-place-test.true c.loop-place.invariant
    c.in_default.ensures
