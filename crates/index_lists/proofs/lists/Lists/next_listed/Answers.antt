use Rattle.std.proofs.Common.{◌<◌, ℕ, length, cond, ltb, Some, None, ap, ◌∙◌, arith}
use Rattle.index_lists.proofs.Looks.{seen_stand, next_found, next_read, nodes_are}
use Rattle.index_lists.proofs.Places.{placed_next}
use Rattle.index_lists.proofs.lists.Lists.next_listed.Goals as goal

pub returns-clause-next : goal.returns-clause-next
returns-clause-next c =
    let links = c.self.inside.links.items in
    let stand = seen_stand _ links _ _ _ c.self.view_is c.self.invariant in
    let low : c.args.item < length links = omega (arith, c.requires.item, nodes_are _ links _ _ _ stand) in
    let node = next_read links c.args.item c.index.result.now low c.index.ensures in
    c.item_at.ensures ∙ ap (λ (n : ℕ). cond (ltb n c.args.self.now.items) (Some n) None) node ∙ next_found _ _ _ _ _ _ stand c.args.item c.requires.listed

pub returns-clause-place : goal.returns-clause-place
returns-clause-place c list k low within is =
    let links = c.self.inside.links.items in
    let stand = seen_stand _ links _ _ _ c.self.view_is c.self.invariant in
    let node_low : c.args.item < length links = omega (arith, c.requires.item, nodes_are _ links _ _ _ stand) in
    let node = next_read links c.args.item c.index.result.now node_low c.index.ensures in
    c.item_at.ensures ∙ ap (λ (n : ℕ). cond (ltb n c.args.self.now.items) (Some n) None) node ∙ placed_next _ _ _ _ _ _ stand list k c.args.item low within is
