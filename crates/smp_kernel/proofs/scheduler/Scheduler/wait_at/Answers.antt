use Rattle.std.proofs.Common.{length, ap, ◌∙◌, arith}
use Rattle.list_orders.specs.Search.{has}
use Rattle.bench_model.specs.Cores.{CoresView}
use Rattle.bench_model.specs.Lists.{View, list_queues}
use Rattle.bench_model.specs.Mutexes.{waited_at}
use Rattle.mutex_inherit.specs.Parts.{holder_of}
use Rattle.smp_kernel.proofs.Blocks.{not_waiting, raised_cores, raised_tasks, wait_seen, wait_shape}
use Rattle.smp_kernel.proofs.scheduler.Scheduler.wait_at.Goals as goal

pub wait_on-mark-requires-clause-free : goal.wait_on-mark-requires-clause-free
wait_on-mark-requires-clause-free c = not_waiting _ c.self.invariant c.args.task
    (ap (λ (view : View). has c.args.task view.orders.ready) c.self.view_is ∙ c.requires.ready)

pub ask-requires : goal.ask-requires
ask-requires c =
    let holder = holder_of c.self.inside.mutexes.holders c.args.mutex in
    omega (
      arith,
      c.requires.core,
      ap (λ (view : View). view.settings.cores) c.self.view_is,
      ap (λ (cores : CoresView). length cores.control.cores)
          c.wait_on-mark.ensures.cores,
      raised_cores _ c.self.invariant c.args.core c.args.task c.args.mutex holder c.args.ticks,
    )

pub unready-requires : goal.unready-requires
unready-requires c =
    let holder = holder_of c.self.inside.mutexes.holders c.args.mutex in
    let asked = ap (λ (cores : CoresView). length cores.control.tasks) c.ask.ensures in
    omega (
      arith,
      c.requires.task,
      ap (λ (view : View). view.settings.tasks) c.self.view_is,
      asked,
      ap (λ (cores : CoresView). length cores.control.tasks)
          c.wait_on-mark.ensures.cores,
      raised_tasks _ c.self.invariant c.args.core c.args.task c.args.mutex holder c.args.ticks,
    )

pub invariant_of-self : goal.invariant_of-self
invariant_of-self c =
    let holder = holder_of c.self.inside.mutexes.holders c.args.mutex in
    rw (
      c.set.ensures,
      c.delay_for.ensures,
      c.unready.ensures,
      c.ask.ensures,
      c.wait_on-mark.ensures.cores,
      c.wait_on-mark.ensures.part,
      c.wait_on-mark.ensures.mark,
    )
    (wait_shape _ c.self.invariant c.args.core c.args.task c.args.mutex holder c.args.ticks)

pub returns : goal.returns
returns c =
    let holder = holder_of c.self.inside.mutexes.holders c.args.mutex in
    rw (
      c.set.ensures,
      c.delay_for.ensures,
      c.unready.ensures,
      c.ask.ensures,
      c.wait_on-mark.ensures.cores,
      c.wait_on-mark.ensures.part,
      c.wait_on-mark.ensures.mark,
    )
    (wait_seen _ c.self.invariant c.args.core c.args.task c.args.mutex holder c.args.ticks
    ∙ ap (λ (view : View). waited_at list_queues c.args.core c.args.task c.args.mutex (holder_of view.holders c.args.mutex) c.args.ticks view) c.self.view_is)
