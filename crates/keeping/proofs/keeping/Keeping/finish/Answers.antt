use Rattle.std.proofs.Common.{arith, ap, length}
use Rattle.keeping.proofs.Going.{few_left}
use Rattle.keeping.proofs.keeping.Keeping.finish.Goals as goal

pub finish-requires : goal.finish-requires
finish-requires c =
    let works = c.args.self.works in
    let few = few_left works.queues.heads.items works.calls.items in
    omega (arith, few, ap length c.in_ok-left.ensures, c.requires.1.few)
