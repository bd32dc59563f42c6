use Rattle.std.proofs.Common.{◌≡◌, ◌∙◌, arith, length, sym}
use Rattle.std.proofs.lemmas.List.{append-nil}
use Rattle.keeping.proofs.Lefts.{left_all, left_more, left_none}
use Rattle.keeping.proofs.works.Works.left.Goals.{in-Some+in_ok-push, in_default}
use Rattle.keeping.proofs.works.Works.left.Goals as goal

pub loop-index-init : goal.loop-index-init
loop-index-init c = c.new-left.ensures.items ∙ left_none c.args.self.now

pub loop-index-preserved : goal.loop-index-preserved
loop-index-preserved c =
    left_more c.args.self.now c.loop-index.index c.loop-index.left.items c.match-waiting_at.left.items c.waiting_at.result c.loop-index.invariant
    c.waiting_at.ensures
    (elim c.match-waiting_at.branch [
      | in-Some+in_ok-push w ↦ rw (w.left-is, w.in-Some.is) w.in_ok-push.ensures.items
      | in_default w ↦ rw (w.left-is, w.in_default.is) (sym (append-nil c.loop-index.left.items))
    ])

pub returns : goal.returns
returns c =
    let all : c.loop-index.index ≡ length c.args.self.now.calls.items =
    omega (arith, c.loop-index.auto.index-end, c.loop-index-test.false, c.len-index-end.ensures) in
    left_all c.args.self.now c.loop-index.index c.loop-index.left.items c.loop-index.invariant all
