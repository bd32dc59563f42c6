use Rattle.std.proofs.Common.{ℕ, length, add-one, sym, ap, ◌∙◌}
use Rattle.tick_delay.specs.Later.{first_later, first_ones_later}
use Rattle.tick_delay.proofs.Moved.{one_two}
use Rattle.tick_delay.proofs.delays.shift.make_later.Goals as goal

pub loop-place-preserved : goal.loop-place-preserved
loop-place-preserved c =
    let by = c.args.later.by in
    let tick = c.args.later.tick in
    let turn = c.args.later.turn in
    let list = c.args.list in
    record {
      moved = c.make_first_later.ensures ∙ ap (first_later by tick turn list) c.loop-place.invariant.moved
          ∙ ap (λ (n : ℕ). first_ones_later by tick turn list n c.args.lists.now) (sym (add-one c.loop-place._place));
      two = ap (λ v. length v.lists) c.make_first_later.ensures ∙ one_two by tick turn list c.loop-place.lists ∙ c.loop-place.invariant.two;
    }
