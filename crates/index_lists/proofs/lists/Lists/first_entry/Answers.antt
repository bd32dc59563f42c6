use Rattle.std.proofs.Common.{◌≡◌, ◌+◌, ◌<◌, ℕ, length, get_or, ap, ◌∙◌, arith}
use Rattle.index_lists.specs.Rings.{nexts}
use Rattle.index_lists.proofs.Ends.{entry_at, first_found}
use Rattle.index_lists.proofs.Looks.{seen_stand, next_read, nodes_are}
use Rattle.index_lists.proofs.lists.Lists.first_entry.Goals as goal

pub returns : goal.returns
returns c =
    let links = c.self.inside.links.items in
    let stand = seen_stand _ links _ _ _ c.self.view_is c.self.invariant in
    let low : c.end_of.result < length links = omega (arith, c.end_of.ensures, c.requires, nodes_are _ links _ _ _ stand) in
    let node : c.index.result.now.next ≡ get_or (nexts links) (c.args.self.now.items + c.args.list) 0 = next_read links c.end_of.result c.index.result.now low
    c.index.ensures ∙ ap (λ (n : ℕ). get_or (nexts links) n 0) c.end_of.ensures in
    c.entry_at.ensures ∙ ap (entry_at _ _ _ _ _ _ stand c.args.list c.requires) node ∙ first_found _ _ _ _ _ _ stand c.args.list c.requires
