use Rattle.std.proofs.Common.{◌≡◌, arith, subst}
use Rattle.keeping.specs.Queues.{AreLinked}
use Rattle.keeping.proofs.Linked.{queues_are}
use Rattle.keeping.proofs.queues.Queues.new.Goals as goal

pub returns : goal.returns
returns c =
    let none : c.loop-index.index ≡ 0 = omega (arith, c.loop-index-test.false) in
    queues_are c.args.calls.now c.args.tasks c.loop-index.heads.items c.loop-index.next.items
    (subst (λ index. AreLinked c.args.calls.now index c.args.tasks c.loop-index.heads.items c.loop-index.next.items) none c.loop-index.invariant) c.requires
