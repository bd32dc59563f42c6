use Rattle.smp_kernel.proofs.Owing.{passed_to, passed_to_none}
use Rattle.smp_kernel.proofs.scheduler.Scheduler.pass.Goals as goal

pub returns-in-Some-clause-passed : goal.returns-in-Some-clause-passed
returns-in-Some-clause-passed c =
    rw c.wake.ensures (passed_to c.args.acting c.args.direction c.other_way.result c.args.queue c.args.self.now c.put.new.self c.put.ensures c.other_way.ensures
    c.in-Some.waiter c.in-Some.ensures.first)

pub returns-in_default-clause-passed : goal.returns-in_default-clause-passed
returns-in_default-clause-passed c =
    passed_to_none c.args.acting c.args.direction c.other_way.result c.args.queue c.args.self.now c.put.new.self c.put.ensures c.other_way.ensures
    c.in_default.ensures.first
