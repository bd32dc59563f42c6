use Rattle.std.proofs.Common.{◌<◌, length, ap, sym, subst, ◌∙◌}
use Rattle.std.specs.List.{AllByRecursion}
use Rattle.std.proofs.lemmas.List.{length-set}
use Rattle.bench_types.specs.declared.kernel_data.Waiter.{Waiter}
use Rattle.bench_model.specs.Table.{Table}
use Rattle.bench_model.specs.Waiters.{waits_first}
use Rattle.list_orders.proofs.Insertions.{All-inserted}
use Rattle.slow_replay.proofs.slow.SlowTable.block_at.Goals as goal

pub set_waiters-requires : goal.set_waiters-requires
set_waiters-requires c =
    let rows = ap (λ (t : Table). length t.orders.rows) c.set_deadline.ensures ∙ ap (λ (t : Table). length t.orders.rows) c.stand.ensures
    ∙ length-set c.args.self.now.orders.rows c.args.task _ in
    let all = All-inserted waits_first (record { task = c.args.task; wait = c.args.wait }) (λ (w : Waiter). w.task < length c.args.self.now.orders.rows) _
    c.requires.task c.waiters.ensures.tasks in
    subst (λ n. AllByRecursion (λ (w : Waiter). w.task < n) c.in_ok-waiters.waiters.items) (sym rows)
    (subst (AllByRecursion (λ (w : Waiter). w.task < length c.args.self.now.orders.rows)) (sym c.in_ok-waiters.ensures) all)
