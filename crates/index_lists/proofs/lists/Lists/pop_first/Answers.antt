use Rattle.std.proofs.Common.{map, ap, ◌∙◌}
use Rattle.index_lists.specs.Listed.{without_item}
use Rattle.index_lists.proofs.Frees.{no_list, gone_from_all}
use Rattle.index_lists.proofs.Looks.{seen_stand}
use Rattle.index_lists.proofs.Places.{first_gone}
use Rattle.index_lists.proofs.lists.Lists.pop_first.Goals as goal

pub returns-clause-rest : goal.returns-clause-rest
returns-clause-rest c =
    let stand = seen_stand _ _ _ _ _ c.self.view_is c.self.invariant in
    c.remove.ensures
    ∙ ap (λ lists. record c.args.self.now { lists = lists }) (first_gone _ _ _ _ _ _ stand c.args.list c.requires c.in_ok-item.item
    (cc (c.in_ok-item.ensures.first)))

pub returns-clause-free : goal.returns-clause-free
returns-clause-free c =
    let item = c.in_ok-item.item in
    let lists = c.args.self.now.lists in
    rw c.remove.ensures (no_list item (record c.args.self.now { lists = map (without_item item) lists }) (gone_from_all item lists))
