use Rattle.std.proofs.Common.{ap, ◌∙◌}
use Rattle.run_views.proofs.Each.{further_missing, further_named}
use Rattle.run_views.proofs.change.push_further.Goals as goal
use Rattle.run_views.proofs.change.push_further.Goals.{then-above-news+in_ok-push_notes, else-above-news}

pub loop-above-preserved : goal.loop-above-preserved
loop-above-preserved c =
    let i = c.loop-above.above in
    let olds = c.args.olds.now in
    let news = c.args.news.now in
    elim c.if-above-news.branch [
      | then-above-news+in_ok-push_notes w ↦
          let old = w.as_slice.ensures in
          let new = w.as_slice-then-above-news.ensures in
          let old_at = c.index-olds-above.is in
          let new_at = w.index-news-above.is in
          further_named i olds news c.index-olds-above.result w.index-news-above.result c.loop-above.changes.items c.if-above-news.changes.items _
          c.loop-above-test.true w.if-above-news.true (ap (λ changes. changes.items) w.changes-is ∙ w.in_ok-push_notes.ensures ∙ cc
          (old, new, old_at, new_at)) c.loop-above.invariant
      | else-above-news w ↦
          further_missing i olds news c.loop-above.changes.items c.if-above-news.changes.items _ w.if-above-news.false
          (ap (λ changes. changes.items) w.changes-is) c.loop-above.invariant
    ]
