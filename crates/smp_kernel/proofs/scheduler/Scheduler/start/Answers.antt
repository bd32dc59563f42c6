use Rattle.std.proofs.Common.{◌≡◌, ◌∙◌, ap, sym, arith}
use Rattle.bench_model.specs.Seek.{after_switch}
use Rattle.bench_model.specs.Lists.{View, list_queues}
use Rattle.bench_model.specs.Start.{first_lists, unstarted}
use Rattle.smp_kernel.proofs.Firsts.{in_turn, in_turn_none, in_turn_more, in_turn_all, in_turn_settings}
use Rattle.smp_kernel.proofs.scheduler.Scheduler.start.Goals as goal

pub loop-core-init : goal.loop-core-init
loop-core-init c = c.in_ok-kernel.ensures ∙ sym (in_turn_none (unstarted (first_lists c.args.header.now) c.args.header.now))

pub switch-requires : goal.switch-requires
switch-requires c =
    omega (
      arith,
      c.loop-core-test.true,
      ap (λ (view : View). view.settings.cores) c.loop-core.invariant,
      ap (λ s. s.cores)
          (in_turn_settings c.args.header.now c.loop-core.core),
    )

pub loop-core-preserved : goal.loop-core-preserved
loop-core-preserved c =
    c.switch.ensures ∙ ap (after_switch list_queues c.loop-core.core) c.loop-core.invariant ∙ sym
    (in_turn_more (unstarted (first_lists c.args.header.now) c.args.header.now) c.loop-core.core)

pub returns : goal.returns
returns c =
    let all : c.loop-core.core ≡ c.args.header.now.config.cores = omega (arith, c.loop-core-test.false, c.loop-core.auto.core-end) in
    c.loop-core.invariant ∙ ap (in_turn (unstarted (first_lists c.args.header.now) c.args.header.now)) all ∙ in_turn_all c.args.header.now
