use Rattle.std.proofs.Common.{◌≡◌, ◌++◌, ◌∷◌, [], ℕ, List, length, map, set, Some, ap, ◌∙◌, arith}
use Rattle.std.specs.Vec.{with_items}
use Rattle.std.proofs.lemmas.List.{with_items_is}
use Rattle.index_lists.specs.declared.links.Link.{Link}
use Rattle.index_lists.specs.Listed.{ListsView, list_at, without_item}
use Rattle.index_lists.specs.Rings.{nexts, prevs}
use Rattle.index_lists.specs.Shape.{StandFor}
use Rattle.index_lists.proofs.Looks.{seen_stand, nodes_are, shaped, shows}
use Rattle.index_lists.proofs.Turns.{after_within, before_within, last_within, end_within, turned_so}
use Rattle.index_lists.proofs.lists.Lists.move_last.Goals as goal

pub move_before-requires-clause-next : goal.move_before-requires-clause-next
move_before-requires-clause-next c =
    let links = c.self.inside.links.items in
    let stand = seen_stand _ links _ _ _ c.self.view_is c.self.invariant in
    omega (
      arith,
      end_within _ links _ _ _ stand c.args.item c.args.list c.requires.item c.requires.listed,
      nodes_are _ links _ _ _ stand,
      c.end_of-end.ensures,
      ap (λ (ls : List Link). length ls) c.deref_mut.ensures.value,
    )

pub move_before-requires-clause-after : goal.move_before-requires-clause-after
move_before-requires-clause-after c =
    let links = c.self.inside.links.items in
    let stand = seen_stand _ links _ _ _ c.self.view_is c.self.invariant in
    rw c.deref_mut.ensures.value (omega (
      arith,
      after_within _ links _ _ _ stand c.args.item c.args.list c.requires.item c.requires.listed,
      nodes_are _ links _
          _ _ stand,
    ))

pub move_before-requires-clause-before : goal.move_before-requires-clause-before
move_before-requires-clause-before c =
    let links = c.self.inside.links.items in
    let stand = seen_stand _ links _ _ _ c.self.view_is c.self.invariant in
    rw c.deref_mut.ensures.value (omega (
      arith,
      before_within _ links _ _ _ stand c.args.item c.args.list c.requires.item c.requires.listed,
      nodes_are _ links _
          _ _ stand,
    ))

pub move_before-requires-clause-prev : goal.move_before-requires-clause-prev
move_before-requires-clause-prev c =
    let links = c.self.inside.links.items in
    let stand = seen_stand _ links _ _ _ c.self.view_is c.self.invariant in
    rw (c.deref_mut.ensures.value, c.end_of-end.ensures) (omega
    (arith, last_within _ links _ _ _ stand c.args.item c.args.list c.requires.item c.requires.listed, nodes_are _ links _ _ _ stand))

-- the new fields stand for the lists with the item at the end
settled : (c : goal.After-self-2-1) → StandFor c.self.inside.items (nexts (with_items c.self.inside.links c.move_before.new.links).items)
    (prevs (with_items c.self.inside.links c.move_before.new.links).items)
    (set c.self.inside.homes.items c.args.item (Some (record { list = c.args.list; key = 0 }))) c.self.inside.lens.items
    (set (map (without_item c.args.item) c.args.self.now.lists) c.args.list
    (without_item c.args.item (list_at c.args.self.now c.args.list) ++ record { item = c.args.item; key = 0 } ∷ []))
settled c =
    let links = c.self.inside.links.items in
    let stand = seen_stand _ links _ _ _ c.self.view_is c.self.invariant in
    let kept : length c.move_before.new.links ≡ c.self.inside.links.len = omega (arith, c.move_before.ensures.nodes, c.deref_mut.ensures.len) in
    let written = with_items_is c.self.inside.links c.move_before.new.links kept in
    let sized = ap (λ (view : ListsView). view.items) c.self.view_is in
    rw (written, sized) (turned_so _ links _ _ _ stand c.args.item c.args.list c.requires.item c.requires.listed c.move_before.new.links
    (rw (c.deref_mut.ensures.value, c.end_of-end.ensures) at c.move_before.ensures.nexts)
    (rw (c.deref_mut.ensures.value, c.end_of-end.ensures) at c.move_before.ensures.prevs))

pub invariant_of-self : goal.invariant_of-self
invariant_of-self c = shaped _ (with_items c.self.inside.links c.move_before.new.links).items _ _ _ (settled c)

pub returns : goal.returns
returns c =
    shows _ (with_items c.self.inside.links c.move_before.new.links).items _ _ _ (settled c)
    ∙ ap (λ (n : ℕ). let seen : ListsView = record {
      items = n;
      lists = set (map (without_item c.args.item) c.args.self.now.lists) c.args.list
          (without_item c.args.item (list_at c.args.self.now c.args.list) ++ record { item = c.args.item; key = 0 } ∷ []);
    } in seen)
    (ap (λ (view : ListsView). view.items) c.self.view_is)
