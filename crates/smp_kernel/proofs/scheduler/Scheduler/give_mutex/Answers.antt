use Rattle.std.proofs.Common.{◌≡◌, Some, rules}
use Rattle.bench_model.specs.State.{holder_at}
use Rattle.smp_kernel.proofs.Owing.{gave_to, gave_to_none}
use Rattle.smp_kernel.proofs.scheduler.Scheduler.give_mutex.Goals as goal

pub returns-in-Some : goal.returns-in-Some
returns-in-Some c =
    let held : holder_at c.args.self.now.holders c.args.mutex ≡ Some c.args.task = search rules in
    rw c.wake.ensures (gave_to c.args.core c.args.task c.args.mutex c.args.self.now c.give_up.new.self c.args.task held c.give_up.ensures.given c.in-Some.waiter
    c.in-Some.ensures.first)

pub returns-in_default : goal.returns-in_default
returns-in_default c =
    let held : holder_at c.args.self.now.holders c.args.mutex ≡ Some c.args.task = search rules in
    gave_to_none c.args.core c.args.task c.args.mutex c.args.self.now c.give_up.new.self c.args.task held c.give_up.ensures.given c.in_default.ensures.first
