use Rattle.std.proofs.Common.{ℕ, List, map, set, Some, None, sym, ap, ◌∙◌, arith}
use Rattle.std.proofs.lemmas.List.{get_or_read}
use Rattle.index_lists.specs.Listed.{Listed, ListsView, keyed}
use Rattle.index_lists.specs.Rings.{nexts, prevs}
use Rattle.index_lists.specs.Shape.{StandFor}
use Rattle.index_lists.proofs.Keyed.{keyed_nowhere, stand_keyed}
use Rattle.index_lists.proofs.Looks.{seen_stand, shaped, shows}
use Rattle.index_lists.proofs.lists.Lists.set_key.Goals as goal

-- the new homes stand for the lists with the key
settled : (c : goal.After-self-1) → StandFor c.self.inside.items (nexts c.self.inside.links.items) (prevs c.self.inside.links.items)
    (set c.self.inside.homes.items c.args.item (Some (record { list = c.in-Some.home.list; key = c.args.key }))) c.self.inside.lens.items
    (map (map (keyed c.args.item c.args.key)) c.args.self.now.lists)
settled c =
    let links = c.self.inside.links.items in
    let homes = c.self.inside.homes.items in
    let stand = seen_stand _ links homes _ _ c.self.view_is c.self.invariant in
    let home = sym (get_or_read homes c.args.item c.index.result.now (omega (arith, c.requires, stand.room)) c.index.ensures None) ∙ c.in-Some.is in
    let sized = ap (λ (view : ListsView). view.items) c.self.view_is in
    rw sized (stand_keyed c.args.item c.args.key _ _ _ _ _ _ stand c.in-Some.home c.requires home)

pub invariant_of-self : goal.invariant_of-self
invariant_of-self c = shaped _ c.self.inside.links.items _ _ _ (settled c)

pub returns-in-Some : goal.returns-in-Some
returns-in-Some c =
    shows _ c.self.inside.links.items _ _ _ (settled c)
    ∙ ap (λ (n : ℕ). let seen : ListsView = record { items = n; lists = map (map (keyed c.args.item c.args.key)) c.args.self.now.lists } in seen)
    (ap (λ (view : ListsView). view.items) c.self.view_is)

pub returns-in_default : goal.returns-in_default
returns-in_default c =
    let homes = c.self.inside.homes.items in
    let stand = seen_stand _ _ homes _ _ c.self.view_is c.self.invariant in
    let home = sym (get_or_read homes c.args.item c.index.result.now (omega (arith, c.requires, stand.room)) c.index.ensures None) ∙ c.in_default.is in
    ap (λ (lists : List (List Listed)). record c.args.self.now { lists = lists }) (sym (keyed_nowhere c.args.item c.args.key _ _ _ _ _ _ stand home))
