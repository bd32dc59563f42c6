use Rattle.std.proofs.Common.{◌≡◌, ◌+◌, ◌≤◌, ℕ, List, length, set, drop, Some, ap, ◌∙◌, arith}
use Rattle.std.specs.List.{insert}
use Rattle.std.specs.Vec.{with_items}
use Rattle.std.proofs.lemmas.List.{get_or_read, with_items_is}
use Rattle.index_lists.specs.declared.links.Link.{Link}
use Rattle.index_lists.specs.Listed.{ListsView, list_at, items_of}
use Rattle.index_lists.specs.Rings.{nexts, prevs, first_or}
use Rattle.index_lists.specs.Shape.{StandFor}
use Rattle.index_lists.proofs.Fields.{lens_length, row_short}
use Rattle.index_lists.proofs.Looks.{seen_stand, came, came_so, nodes_are, shaped, shows}
use Rattle.index_lists.proofs.Places.{read_length}
use Rattle.index_lists.proofs.lists.Lists.insert.Goals as goal

pub link_before-requires-clause-next : goal.link_before-requires-clause-next
link_before-requires-clause-next c =
    let links = c.self.inside.links.items in
    let stand = seen_stand _ links _ _ _ c.self.view_is c.self.invariant in
    let place = c.requires.place in
    let bounds = came _ _ _ _ _ _ stand c.args.home.list c.args.item c.args.home.key place.0 c.args.next c.requires.list c.requires.item c.requires.free place.1
    place.2 in
    omega (arith, bounds.0, nodes_are _ links _ _ _ stand, ap (λ (ls : List Link). length ls) c.deref_mut.ensures.value)

pub link_before-requires-clause-prev : goal.link_before-requires-clause-prev
link_before-requires-clause-prev c =
    let links = c.self.inside.links.items in
    let stand = seen_stand _ links _ _ _ c.self.view_is c.self.invariant in
    let place = c.requires.place in
    let bounds = came _ _ _ _ _ _ stand c.args.home.list c.args.item c.args.home.key place.0 c.args.next c.requires.list c.requires.item c.requires.free place.1
    place.2 in
    rw c.deref_mut.ensures.value (omega (arith, bounds.1, nodes_are _ links _ _ _ stand))

pub overflow_add-index_mut : goal.overflow_add-index_mut
overflow_add-index_mut c =
    let lens = c.self.inside.lens.items in
    let stand = seen_stand _ _ _ lens _ c.self.view_is c.self.invariant in
    omega (
      arith,
      read_length _ _ _ _ lens _ stand c.args.home.list c.requires.list c.index_mut-2.result.now c.index_mut-2.ensures.value,
      row_short _ _ _ _ _ _
          stand c.args.home.list c.requires.list,
      stand.few,
      c.requires.list,
    )

-- the new fields stand for the lists with the item
settled : (c : goal.After-self-3-1) (k : ℕ) → k ≤ length (list_at c.args.self.now c.args.home.list) → c.args.next ≡ first_or
    (c.args.self.now.items + c.args.home.list) (items_of (drop k (list_at c.args.self.now c.args.home.list)))
    → StandFor c.self.inside.items (nexts (with_items c.self.inside.links c.link_before.new.links).items)
    (prevs (with_items c.self.inside.links c.link_before.new.links).items) (set c.self.inside.homes.items c.args.item (Some c.args.home))
    (set c.self.inside.lens.items c.args.home.list (c.index_mut-2.result.now + 1))
    (set c.args.self.now.lists c.args.home.list (insert (list_at c.args.self.now c.args.home.list) k
    (record { item = c.args.item; key = c.args.home.key })))
settled c k within is =
    let links = c.self.inside.links.items in
    let lens = c.self.inside.lens.items in
    let stand = seen_stand _ links _ lens _ c.self.view_is c.self.invariant in
    let read = get_or_read lens c.args.home.list c.index_mut-2.result.now (omega (arith, c.requires.list, lens_length _ _ _ _ lens _ stand))
    c.index_mut-2.ensures.value 0 in
    let kept : length c.link_before.new.links ≡ c.self.inside.links.len = omega (arith, c.link_before.ensures.nodes, c.deref_mut.ensures.len) in
    let written = with_items_is c.self.inside.links c.link_before.new.links kept in
    let sized = ap (λ (view : ListsView). view.items) c.self.view_is in
    rw (written, read, sized) (came_so _ links _ lens _ stand c.link_before.new.links c.args.home.list c.args.item c.args.home.key k c.args.next c.requires.list
    c.requires.item c.requires.free within is (rw c.deref_mut.ensures.value at c.link_before.ensures.nexts)
    (rw c.deref_mut.ensures.value at c.link_before.ensures.prevs))

pub invariant_of-self : goal.invariant_of-self
invariant_of-self c =
    let place = c.requires.place in
    shaped _ (with_items c.self.inside.links c.link_before.new.links).items _ _ _ (settled c place.0 place.1 place.2)

pub returns : goal.returns
returns c k within is =
    shows _ (with_items c.self.inside.links c.link_before.new.links).items _ _ _ (settled c k within is)
    ∙ ap (λ (n : ℕ). let seen : ListsView = record {
      items = n;
      lists = set c.args.self.now.lists c.args.home.list
          (insert (list_at c.args.self.now c.args.home.list) k (record { item = c.args.item; key = c.args.home.key }));
    } in seen)
    (ap (λ (view : ListsView). view.items) c.self.view_is)
