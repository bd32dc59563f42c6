use Rattle.std.proofs.Common.{refl, sym, ap, ◌∙◌, arith}
use Rattle.tick_delay.specs.Parts.{DelayView}
use Rattle.tick_delay.proofs.Walks.{ended, same_to_end, same_option, waiting_length, one_more_same, placed_task, placed_within}
use Rattle.tick_delay.proofs.delays.Delays.has_same_waits.Goals as goal

pub returns-in_default : goal.returns-in_default
returns-in_default c =
    let mine = c.args.self.now.delayed in
    let theirs = c.args.other.now.delayed in
    let place = c.loop-place._place in
    let over = sym c.loop-place.invariant.mine ∙ c.in_default.is in
    let both = same_option _ _ (sym c.ne.ensures ∙ c.if-ne.false) in
    let over_too = sym c.loop-place.invariant.theirs ∙ sym both ∙ c.in_default.is in
    (λ yes. same_to_end mine theirs place c.loop-place.invariant.same (ended mine place over) (ended theirs place over_too), λ same. refl)

pub loop-place-preserved : goal.loop-place-preserved
loop-place-preserved c =
    let mine = c.args.self.now.delayed in
    let theirs = c.args.other.now.delayed in
    let place = c.loop-place._place in
    let task = c.in-Some.task in
    let here = sym c.loop-place.invariant.mine ∙ c.in-Some.is in
    let both = same_option _ _ (sym c.ne.ensures ∙ c.if-ne.false) in
    let there = sym c.loop-place.invariant.theirs ∙ sym both ∙ c.in-Some.is in
    let left = sym c.left.ensures ∙ same_option _ _ (sym c.ne-in-loop-place.ensures ∙ c.if-ne-2.false) ∙ c.left-in-loop-place.ensures in
    let each = c.first_waiting-mine.ensures.each in
    let each_too = c.first_waiting-theirs.ensures.each in
    record {
      same = one_more_same mine theirs place c.loop-place.invariant.same _ _ task each each_too here there left;
      mine = c.waiting_after-mine.ensures.next place (placed_within mine place task here) (placed_task mine place task here);
      theirs = c.waiting_after-theirs.ensures.next place (placed_within theirs place task there) (placed_task theirs place task there);
      low = c.waiting_after-mine.ensures.task;
    }

pub returns : goal.returns
returns c =
    let mine = c.args.self.now.delayed in
    let theirs = c.args.other.now.delayed in
    let sized = ap (λ (view : DelayView). view.tasks) c.self.view_is in
    let most = waiting_length _ mine c.first_waiting-mine.ensures.each in
    let most_too = waiting_length _ theirs c.first_waiting-theirs.ensures.each in (
      λ yes. same_to_end mine theirs c.loop-place._place c.loop-place.invariant.same (omega (arith, most, sized, c.loop-place-test.false))
          (omega (arith, most_too, sized, c.requires, c.loop-place-test.false)),
      λ same. refl,
    )
