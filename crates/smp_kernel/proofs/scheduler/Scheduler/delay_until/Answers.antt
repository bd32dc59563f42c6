use Rattle.std.proofs.Common.{◌∙◌, ap}
use Rattle.bench_model.specs.Lists.{list_queues}
use Rattle.bench_model.specs.Steps.{delayed_until}
use Rattle.smp_kernel.proofs.Untils.{until_shape, until_seen, passed_shape, passed_seen}
use Rattle.smp_kernel.proofs.scheduler.Scheduler.delay_until.Goals as goal

pub invariant_of-self : goal.invariant_of-self
invariant_of-self c =
    rw (c.set.ensures, c.unready.ensures, c.ask.ensures)
    (until_shape _ c.self.invariant c.args.core c.args.task c.args.prev c.args.inc _ _ _ c.delay_until-delayed.ensures c.if-delayed.true)

pub invariant_of-self-else-delayed : goal.invariant_of-self-else-delayed
invariant_of-self-else-delayed c =
    rw c.ask.ensures
    (passed_shape _ c.self.invariant c.args.core c.args.task c.args.prev c.args.inc _ _ _ c.delay_until-delayed.ensures c.if-delayed.false)

pub returns-then-delayed : goal.returns-then-delayed
returns-then-delayed c =
    rw (c.set.ensures, c.unready.ensures, c.ask.ensures)
    (until_seen _ c.self.invariant c.args.core c.args.task c.args.prev c.args.inc _ _ _ c.delay_until-delayed.ensures c.if-delayed.true
    ∙ ap (delayed_until list_queues c.args.core c.args.task c.args.prev c.args.inc) c.self.view_is)

pub returns-else-delayed : goal.returns-else-delayed
returns-else-delayed c =
    rw c.ask.ensures
    (passed_seen _ c.self.invariant c.args.core c.args.task c.args.prev c.args.inc _ _ _ c.delay_until-delayed.ensures c.if-delayed.false
    ∙ ap (delayed_until list_queues c.args.core c.args.task c.args.prev c.args.inc) c.self.view_is)
