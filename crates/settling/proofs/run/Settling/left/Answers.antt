use Rattle.std.proofs.Common.{◌∙◌, sym}
use Rattle.std.proofs.lemmas.List.{append-nil}
use Rattle.settling.proofs.Finds.{left_more, left_none}
use Rattle.settling.proofs.run.Settling.left.Goals.{in-Some+in_ok-push, in_default}
use Rattle.settling.proofs.run.Settling.left.Goals as goal

pub loop-place-init : goal.loop-place-init
loop-place-init c = c.new-left.ensures.items ∙ left_none c.args.self.now.queues.heads.items c.args.steps.now

pub loop-place-preserved : goal.loop-place-preserved
loop-place-preserved c =
    left_more c.args.self.now.queues.heads.items c.args.steps.now c.loop-place.place c.loop-place.left.items c.match-waits_at.left.items c.waits_at.result
    c.loop-place.invariant c.waits_at.ensures
    (elim c.match-waits_at.branch [
      | in-Some+in_ok-push w ↦ rw (w.left-is, w.in-Some.is) w.in_ok-push.ensures.items
      | in_default w ↦ rw (w.left-is, w.in_default.is) (sym (append-nil c.loop-place.left.items))
    ])
