use Rattle.std.proofs.Common.{◌≡◌, ◌-◌, ◌<◌, ℕ, List, length, map, set, None, sym, ap, ◌∙◌, arith}
use Rattle.std.specs.Vec.{with_items}
use Rattle.std.proofs.lemmas.List.{get_or_read, with_items_is}
use Rattle.index_lists.specs.Listed.{Listed, ListsView, without_item}
use Rattle.index_lists.specs.Rings.{nexts, prevs}
use Rattle.index_lists.specs.Shape.{StandFor}
use Rattle.index_lists.proofs.Fields.{lens_length}
use Rattle.index_lists.proofs.Looks.{seen_stand, went, went_so, stays_away, nodes_are, shaped, shows}
use Rattle.index_lists.proofs.lists.Lists.remove.Goals as goal

pub unlink-requires-clause-next : goal.unlink-requires-clause-next
unlink-requires-clause-next c =
    let links = c.self.inside.links.items in
    let homes = c.self.inside.homes.items in
    let stand = seen_stand _ links homes _ _ c.self.view_is c.self.invariant in
    let home = sym (get_or_read homes c.args.item c.index.result.now (omega (arith, c.requires, stand.room)) c.index.ensures None) ∙ c.in-Some.is in
    rw c.deref_mut.ensures.value (omega (arith, (went _ _ _ _ _ _ stand c.args.item c.in-Some.home home).0, nodes_are _ links _ _ _ stand))

pub unlink-requires-clause-prev : goal.unlink-requires-clause-prev
unlink-requires-clause-prev c =
    let links = c.self.inside.links.items in
    let homes = c.self.inside.homes.items in
    let stand = seen_stand _ links homes _ _ c.self.view_is c.self.invariant in
    let home = sym (get_or_read homes c.args.item c.index.result.now (omega (arith, c.requires, stand.room)) c.index.ensures None) ∙ c.in-Some.is in
    rw c.deref_mut.ensures.value (omega (arith, (went _ _ _ _ _ _ stand c.args.item c.in-Some.home home).1, nodes_are _ links _ _ _ stand))

pub index_mut-requires-in-Some : goal.index_mut-requires-in-Some
index_mut-requires-in-Some c =
    let homes = c.self.inside.homes.items in
    let stand = seen_stand _ _ homes _ _ c.self.view_is c.self.invariant in
    let home = sym (get_or_read homes c.args.item c.index.result.now (omega (arith, c.requires, stand.room)) c.index.ensures None) ∙ c.in-Some.is in
    omega (arith, stand.within c.args.item c.in-Some.home home, lens_length _ _ _ _ _ _ stand, c.self.inside.lens.ok.0)

pub overflow_sub-index_mut : goal.overflow_sub-index_mut
overflow_sub-index_mut c =
    let homes = c.self.inside.homes.items in
    let lens = c.self.inside.lens.items in
    let stand = seen_stand _ _ homes lens _ c.self.view_is c.self.invariant in
    let home = sym (get_or_read homes c.args.item c.index.result.now (omega (arith, c.requires, stand.room)) c.index.ensures None) ∙ c.in-Some.is in
    let low : c.in-Some.home.list < length lens = omega (arith, stand.within c.args.item c.in-Some.home home, lens_length _ _ _ _ _ _ stand) in
    omega (
      arith,
      get_or_read lens c.in-Some.home.list c.index_mut-in-Some.result.now low c.index_mut-in-Some.ensures.value 0,
      (went _ _ _ _ _ _ stand c.args.item c.in-Some.home home).2,
    )

-- the new fields stand for the lists without the item
split_from : (c : goal.After-self-in-Some-2-1) → StandFor c.self.inside.items (nexts (with_items c.self.inside.links c.unlink.new.links).items)
    (prevs (with_items c.self.inside.links c.unlink.new.links).items) (set c.self.inside.homes.items c.args.item None)
    (set c.self.inside.lens.items c.in-Some.home.list (c.index_mut-in-Some.result.now - 1)) (map (without_item c.args.item) c.args.self.now.lists)
split_from c =
    let links = c.self.inside.links.items in
    let homes = c.self.inside.homes.items in
    let lens = c.self.inside.lens.items in
    let stand = seen_stand _ links homes lens _ c.self.view_is c.self.invariant in
    let home = sym (get_or_read homes c.args.item c.index.result.now (omega (arith, c.requires, stand.room)) c.index.ensures None) ∙ c.in-Some.is in
    let low : c.in-Some.home.list < length lens = omega (arith, stand.within c.args.item c.in-Some.home home, lens_length _ _ _ _ _ _ stand) in
    let read = get_or_read lens c.in-Some.home.list c.index_mut-in-Some.result.now low c.index_mut-in-Some.ensures.value 0 in
    let kept : length c.unlink.new.links ≡ c.self.inside.links.len = omega (arith, c.unlink.ensures.nodes, c.deref_mut.ensures.len) in
    let written = with_items_is c.self.inside.links c.unlink.new.links kept in
    let sized = ap (λ (view : ListsView). view.items) c.self.view_is in
    rw (written, read, sized) (went_so _ links homes lens _ stand c.unlink.new.links c.args.item c.in-Some.home home
    (rw c.deref_mut.ensures.value at c.unlink.ensures.nexts) (rw c.deref_mut.ensures.value at c.unlink.ensures.prevs))

pub invariant_of-self : goal.invariant_of-self
invariant_of-self c = shaped _ (with_items c.self.inside.links c.unlink.new.links).items _ _ _ (split_from c)

pub returns-in-Some : goal.returns-in-Some
returns-in-Some c =
    shows _ (with_items c.self.inside.links c.unlink.new.links).items _ _ _ (split_from c)
    ∙ ap (λ (n : ℕ). let seen : ListsView = record { items = n; lists = map (without_item c.args.item) c.args.self.now.lists } in seen)
    (ap (λ (view : ListsView). view.items) c.self.view_is)

pub returns-in_default : goal.returns-in_default
returns-in_default c =
    let homes = c.self.inside.homes.items in
    let stand = seen_stand _ _ homes _ _ c.self.view_is c.self.invariant in
    let home = sym (get_or_read homes c.args.item c.index.result.now (omega (arith, c.requires, stand.room)) c.index.ensures None) ∙ c.in_default.is in
    ap (λ (lists : List (List Listed)). record c.args.self.now { lists = lists }) (sym (stays_away _ _ _ _ _ _ stand c.args.item home))
