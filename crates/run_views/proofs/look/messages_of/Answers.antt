use Rattle.std.proofs.Common.{arith, ap, ◌∙◌}
use Rattle.bench_types.specs.Step.{queue_total}
use Rattle.run_views.proofs.Shown.{none_shown, more_shown}
use Rattle.run_views.proofs.look.messages_of.Goals as goal

pub loop-queue-init : goal.loop-queue-init
loop-queue-init c = none_shown _ _ _ c.in_ok-messages.ensures.items

pub loop-queue-preserved : goal.loop-queue-preserved
loop-queue-preserved c =
    more_shown c.queue.result.messages c.loop-queue.invariant c.in_ok-push.ensures.items
    (λ table stands. ap (λ queue. queue.messages) (c.queue.ensures.queue table stands))

pub returns-clause-count : goal.returns-clause-count
returns-clause-count c =
    omega (arith, c.loop-queue.invariant.many, c.unwrap_or-count.ensures, ap queue_total c.settings.ensures.settings)
