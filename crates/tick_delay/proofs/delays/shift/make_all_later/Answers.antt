use Rattle.std.proofs.Common.{◌-◌, length, ℕ, ap, ◌∙◌}
use Rattle.index_lists.specs.Listed.{ListsView, list_at}
use Rattle.tick_delay.specs.Later.{first_ones_later}
use Rattle.tick_delay.proofs.Moved.{some_two}
use Rattle.tick_delay.proofs.delays.shift.make_all_later.Goals as goal

pub make_later-requires-2-clause-two : goal.make_later-requires-2-clause-two
make_later-requires-2-clause-two c =
    ap (λ (v : ListsView). length v.lists) c.make_later.ensures
    ∙ some_two c.args.later.by c.args.later.tick c.args.later.turn c.args.later.turn c.len-this.result c.args.lists.now
    ∙ c.requires.two

pub returns : goal.returns
returns c =
    let by = c.args.later.by in
    let tick = c.args.later.tick in
    let turn = c.args.later.turn in
    let lists = c.args.lists.now in
    c.make_later-2.ensures ∙ ap (first_ones_later by tick turn (1 - turn) c.len-next.result) c.make_later.ensures
    ∙ ap (λ (n : ℕ). first_ones_later by tick turn (1 - turn) n (first_ones_later by tick turn turn c.len-this.result lists)) c.len-next.ensures
    ∙ ap (λ (n : ℕ). first_ones_later by tick turn (1 - turn) (length (list_at lists (1 - turn))) (first_ones_later by tick turn turn n lists))
    c.len-this.ensures
