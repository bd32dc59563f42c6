use Rattle.std.proofs.Common.{length, ap, ◌∙◌}
use Rattle.run_views.proofs.Shown.{none_further, more_further}
use Rattle.run_views.proofs.look.further_of.Goals as goal

pub loop-above-init : goal.loop-above-init
loop-above-init c = none_further _ _ c.in_ok-further.ensures.items

pub loop-above-preserved : goal.loop-above-preserved
loop-above-preserved c =
    let notes = c.in_ok-notes.ensures in
    more_further c.new.result c.loop-above.invariant c.in_ok-push.ensures.items (λ table stands. c.new.ensures ∙ notes.notes table stands)
    (ap length c.new.ensures ∙ notes.count) (rw c.new.ensures notes.few)
