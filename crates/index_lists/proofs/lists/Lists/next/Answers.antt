use Rattle.std.proofs.Common.{◌<◌, ℕ, length, cond, ltb, Some, None, sym, ap, ◌∙◌, arith}
use Rattle.std.proofs.lemmas.List.{get_or_read}
use Rattle.index_lists.proofs.Looks.{seen_stand, next_at, next_none, next_read, nodes_are}
use Rattle.index_lists.proofs.Places.{placed_home, placed_next}
use Rattle.index_lists.proofs.lists.Lists.next.Goals as goal

pub returns-in-Some-clause-next : goal.returns-in-Some-clause-next
returns-in-Some-clause-next c =
    let links = c.self.inside.links.items in
    let homes = c.self.inside.homes.items in
    let stand = seen_stand _ links homes _ _ c.self.view_is c.self.invariant in
    let home = sym (get_or_read homes c.args.item c.index.result.now (omega (arith, c.requires, stand.room)) c.index.ensures None) ∙ c.in-Some.is in
    let low : c.args.item < length links = omega (arith, c.requires, nodes_are _ links _ _ _ stand) in
    let node = next_read links c.args.item c.index-in-Some.result.now low c.index-in-Some.ensures in
    c.item_at.ensures ∙ ap (λ (n : ℕ). cond (ltb n c.args.self.now.items) (Some n) None) node ∙ next_at _ _ _ _ _ _ stand c.args.item c.in-Some.field-0 home

pub returns-in-None-clause-next : goal.returns-in-None-clause-next
returns-in-None-clause-next c =
    let homes = c.self.inside.homes.items in
    let stand = seen_stand _ _ homes _ _ c.self.view_is c.self.invariant in
    let home = sym (get_or_read homes c.args.item c.index.result.now (omega (arith, c.requires, stand.room)) c.index.ensures None) ∙ c.in-None.is in
    sym (next_none _ _ _ _ _ _ stand c.args.item home)

pub returns-in-Some-clause-place : goal.returns-in-Some-clause-place
returns-in-Some-clause-place c list k low within is =
    let links = c.self.inside.links.items in
    let stand = seen_stand _ links _ _ _ c.self.view_is c.self.invariant in
    let node_low : c.args.item < length links = omega (arith, c.requires, nodes_are _ links _ _ _ stand) in
    let node = next_read links c.args.item c.index-in-Some.result.now node_low c.index-in-Some.ensures in
    c.item_at.ensures ∙ ap (λ (n : ℕ). cond (ltb n c.args.self.now.items) (Some n) None) node ∙ placed_next _ _ _ _ _ _ stand list k c.args.item low within is

pub returns-in-None-clause-place : goal.returns-in-None-clause-place
returns-in-None-clause-place c list k low within is =
    let homes = c.self.inside.homes.items in
    let stand = seen_stand _ _ homes _ _ c.self.view_is c.self.invariant in
    let home = sym (get_or_read homes c.args.item c.index.result.now (omega (arith, c.requires, stand.room)) c.index.ensures None) ∙ c.in-None.is in
    absurd (cc (sym home ∙ placed_home _ _ _ _ _ _ stand list k c.args.item low within is))
