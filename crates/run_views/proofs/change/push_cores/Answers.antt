use Rattle.std.proofs.Common.{ap, ◌∙◌}
use Rattle.run_views.specs.declared.change.Change.TheVariants.{Core}
use Rattle.run_views.specs.Changes.{core_changes}
use Rattle.run_views.proofs.Each.{item_missing, item_named}
use Rattle.run_views.proofs.change.push_cores.Goals as goal
use Rattle.run_views.proofs.change.push_cores.Goals.{then-core-news+in_ok-push_core, else-core-news}

pub loop-core-preserved : goal.loop-core-preserved
loop-core-preserved c =
    let i = c.loop-core.core in
    let olds = c.args.olds.now in
    let news = c.args.news.now in
    elim c.if-core-news.branch [
      | then-core-news+in_ok-push_core w ↦
          item_named Core core_changes i olds news _ _ c.loop-core.changes.items c.if-core-news.changes.items _ c.loop-core-test.true w.if-core-news.true
          (ap (λ changes. changes.items) w.changes-is ∙ w.in_ok-push_core.ensures) c.loop-core.invariant
      | else-core-news w ↦
          item_missing Core core_changes i olds news c.loop-core.changes.items c.if-core-news.changes.items _ w.if-core-news.false
          (ap (λ changes. changes.items) w.changes-is) c.loop-core.invariant
    ]
