use Rattle.std.proofs.Common.{ap, ◌∙◌}
use Rattle.run_views.specs.declared.change.Change.TheVariants.{Queue}
use Rattle.run_views.specs.Changes.{queue_changes}
use Rattle.run_views.proofs.Each.{item_missing, item_named}
use Rattle.run_views.proofs.change.push_queues.Goals as goal
use Rattle.run_views.proofs.change.push_queues.Goals.{then-queue-news+in_ok-push_queue, else-queue-news}

pub loop-queue-preserved : goal.loop-queue-preserved
loop-queue-preserved c =
    let i = c.loop-queue.queue in
    let olds = c.args.olds.now in
    let news = c.args.news.now in
    elim c.if-queue-news.branch [
      | then-queue-news+in_ok-push_queue w ↦
          item_named Queue queue_changes i olds news _ _ c.loop-queue.changes.items c.if-queue-news.changes.items _ c.loop-queue-test.true w.if-queue-news.true
          (ap (λ changes. changes.items) w.changes-is ∙ w.in_ok-push_queue.ensures) c.loop-queue.invariant
      | else-queue-news w ↦
          item_missing Queue queue_changes i olds news c.loop-queue.changes.items c.if-queue-news.changes.items _ w.if-queue-news.false
          (ap (λ changes. changes.items) w.changes-is) c.loop-queue.invariant
    ]
