use Rattle.std.proofs.Common.{◌+◌, ◌*◌, ◌<◌, ◌≤◌, ◌^◌, length, ap, subst, arith}
use Rattle.std.proofs.Math.Nat.{mul-le-mul}
use Rattle.bench_types.proofs.Passes.{checked_header}
use Rattle.bench_types.specs.Limits.{max_cores, max_tasks}
use Rattle.tick_delay.specs.Parts.{DelayView}
use Rattle.smp_kernel.proofs.Firsts.{few_event_lists, seen_unstarted, first_kernel_shape}
use Rattle.smp_kernel.proofs.scheduler.Scheduler.unstarted.Goals as goal

pub no_waits-requires : goal.no_waits-requires
no_waits-requires c =
    let facts = checked_header c.args.header.now c.requires in
    let few : c.args.header.now.config.cores + length c.args.header.now.tasks ≤ max_cores + max_tasks = omega (arith, facts.few_cores, facts.few_tasks) in
    let most = mul-le-mul few facts.few_notes in
    let long = ap (λ tasks. (c.args.header.now.config.cores + length tasks) * c.args.header.now.config.notes) c.as_slice.ensures in
    omega (arith, most, long)

pub first_orders-requires-clause-few : goal.first_orders-requires-clause-few
first_orders-requires-clause-few c =
    let facts = checked_header c.args.header.now c.requires in
    let few = few_event_lists c.args.header.now c.requires in
    rw (c.as_slice.ensures, c.queue_count.ensures) (omega (arith, few, facts.few_cores, facts.few_tasks))

pub invariant_of-result : goal.invariant_of-result
invariant_of-result c =
    rw (
      c.in_ok-cores.ensures.cores,
      c.in_ok-calls.ensures.calls,
      c.in_ok-calls.ensures.notes,
      c.in_ok-cores.ensures.mutexes,
      c.in_ok-queues.ensures,
      c.in_ok-delays.ensures.delays,
      c.in_ok-delays.ensures.deadlines,
      c.as_slice.ensures,
      c.queue_count.ensures,
    ) (first_kernel_shape c.args.header.now c.requires)

pub returns : goal.returns
returns c =
    let low : c.args.header.now.config.tick < 2 ^ 32 = subst (λ (view : DelayView). view.tick < 2 ^ 32) c.in_ok-delays.ensures.delays
    c.in_ok-delays.ensures.word in
    rw (
      c.in_ok-cores.ensures.cores,
      c.in_ok-calls.ensures.calls,
      c.in_ok-calls.ensures.notes,
      c.in_ok-cores.ensures.mutexes,
      c.in_ok-queues.ensures,
      c.in_ok-delays.ensures.delays,
      c.in_ok-delays.ensures.deadlines,
      c.as_slice.ensures,
      c.queue_count.ensures,
    ) (seen_unstarted c.args.header.now low)
