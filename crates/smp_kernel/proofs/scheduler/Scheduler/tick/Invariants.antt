use Rattle.std.proofs.Common.{◌≡◌, length}
use Rattle.bench_model.specs.Steps.{ticked}
use Rattle.bench_model.specs.Lists.{list_queues, due_tasks}
use Rattle.smp_kernel.proofs.Ticks.{settled_from}
use Rattle.smp_kernel.proofs.scheduler.Scheduler.tick.Given as goal

-- waking the tasks that are still due, and slicing, ends the tick
abbrev pub invariant-loop-task : goal.invariant-loop-task
invariant-loop-task l = settled_from l.self ≡ ticked list_queues l.fn.self

abbrev pub decreases-loop-task : goal.decreases-loop-task
decreases-loop-task l = length (due_tasks l.self.orders.delayed)
