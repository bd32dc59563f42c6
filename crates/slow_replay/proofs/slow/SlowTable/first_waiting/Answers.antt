use Rattle.std.proofs.Common.{◌≡◌, ℕ, ◌<◌, eqb, List, Option, Some, None, IfSome, length, sym}
use Rattle.std.specs.List.{AllByRecursion}
use Rattle.bench_types.specs.declared.kernel_data.Waiter.{Waiter}
use Rattle.bench_model.specs.Waiters.{first_of}
use Rattle.order_laws.proofs.FirstWaiters.{found_all}
use Rattle.slow_replay.proofs.slow.SlowTable.first_waiting.Goals as goal

if_found : (tasks list : ℕ) (waiters : List Waiter) (found : Option Waiter) → first_of list waiters ≡ found → AllByRecursion (λ (w : Waiter). w.task < tasks)
    waiters → IfSome found (λ (w : Waiter). w.task < tasks)
if_found tasks list waiters None is all = tt
if_found tasks list waiters (Some waiter) is all = found_all (λ (w : Waiter). w.task < tasks) (λ (w : Waiter). eqb w.wait.list list) waiters waiter all is

pub returns-clause-task : goal.returns-clause-task
returns-clause-task c = if_found (length c.args.self.now.orders.rows) c.args.list _ c.first_of.result (sym c.first_of.ensures) c.waiters.ensures.tasks
