use Rattle.std.proofs.Common.{◌≡◌, ap, sym, ◌∙◌, arith}
use Rattle.list_orders.specs.Search.{has}
use Rattle.bench_model.specs.Lists.{View, list_queues}
use Rattle.bench_model.specs.Queues.{queue_waited}
use Rattle.bench_model.specs.Waiters.{event_list, event_lists}
use Rattle.smp_kernel.proofs.Blocks.{not_waiting, pass_wait_seen, pass_wait_shape}
use Rattle.smp_kernel.proofs.scheduler.Scheduler.wait_to_pass.Goals as goal

pub wait_in-requires-clause-free : goal.wait_in-requires-clause-free
wait_in-requires-clause-free c = not_waiting _ c.self.invariant c.args.task
    (ap (λ (view : View). has c.args.task view.orders.ready) c.self.view_is ∙ c.requires.ready)

pub wait_in-requires-clause-list : goal.wait_in-requires-clause-list
wait_in-requires-clause-list c = omega (
  arith,
  c.event_list-list.ensures.below,
  c.self.invariant.lists,
  ap (λ (view : View). event_lists view.settings) c.self.view_is,
)

pub invariant_of-self : goal.invariant_of-self
invariant_of-self c =
    rw (c.set.ensures, c.delay_for.ensures, c.unready.ensures, c.ask.ensures, c.wait_in.ensures, c.in_use.ensures.in_use)
    (pass_wait_shape _ c.self.invariant c.args.core c.args.task c.event_list-list.result c.args.direction c.args.queue c.args.ticks)

pub returns : goal.returns
returns c =
    let list_is : c.event_list-list.result ≡ event_list c.self.inside.settings c.args.direction c.args.queue = c.event_list-list.ensures.list
    ∙ ap (λ (view : View). event_list view.settings c.args.direction c.args.queue) (sym c.self.view_is) in
    rw (c.set.ensures, c.delay_for.ensures, c.unready.ensures, c.ask.ensures, c.wait_in.ensures, c.in_use.ensures.in_use)
    (pass_wait_seen _ c.self.invariant c.args.core c.args.task c.event_list-list.result c.args.direction c.args.queue c.args.ticks list_is
    ∙ ap (queue_waited list_queues c.args.core c.args.task c.args.direction c.args.queue c.args.ticks) c.self.view_is)
