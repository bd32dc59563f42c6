use Rattle.std.proofs.Common.{ap, ◌∙◌}
use Rattle.run_views.specs.declared.change.Change.TheVariants.{Mutex}
use Rattle.run_views.specs.Changes.{mutex_changes}
use Rattle.run_views.proofs.Each.{item_missing, item_named}
use Rattle.run_views.proofs.change.push_mutexes.Goals as goal
use Rattle.run_views.proofs.change.push_mutexes.Goals.{then-mutex-news+in_ok-push_mutex, else-mutex-news}

pub loop-mutex-preserved : goal.loop-mutex-preserved
loop-mutex-preserved c =
    let i = c.loop-mutex.mutex in
    let olds = c.args.olds.now in
    let news = c.args.news.now in
    elim c.if-mutex-news.branch [
      | then-mutex-news+in_ok-push_mutex w ↦
          item_named Mutex mutex_changes i olds news _ _ c.loop-mutex.changes.items c.if-mutex-news.changes.items _ c.loop-mutex-test.true w.if-mutex-news.true
          (ap (λ changes. changes.items) w.changes-is ∙ w.in_ok-push_mutex.ensures) c.loop-mutex.invariant
      | else-mutex-news w ↦
          item_missing Mutex mutex_changes i olds news c.loop-mutex.changes.items c.if-mutex-news.changes.items _ w.if-mutex-news.false
          (ap (λ changes. changes.items) w.changes-is) c.loop-mutex.invariant
    ]
