use Rattle.std.proofs.Common.{◌≡◌, ℕ, List, Option, length, map, option_map, ap, ◌∙◌, arith}
use Rattle.std.specs.Vec.{with_items}
use Rattle.std.proofs.lemmas.List.{length-map, with_items_is}
use Rattle.index_lists.specs.declared.links.Home.{Home}
use Rattle.index_lists.specs.Listed.{ListsView, raised}
use Rattle.index_lists.specs.Rings.{nexts, prevs}
use Rattle.index_lists.specs.Shape.{raised_home, StandFor}
use Rattle.index_lists.proofs.Looks.{seen_stand, shaped, shows}
use Rattle.index_lists.proofs.Raised.{stand_raised}
use Rattle.index_lists.proofs.lists.Lists.raise_keys.Goals as goal

raised_of : (c : goal.After-self-1) → c.raise_homes.new.homes ≡ map (option_map (raised_home c.args.by)) c.self.inside.homes.items
raised_of c = c.raise_homes.ensures ∙ ap (map (option_map (raised_home c.args.by))) c.as_mut_slice.ensures.value

written : (c : goal.After-self-1) → (with_items c.self.inside.homes c.raise_homes.new.homes).items ≡ map (option_map (raised_home c.args.by))
    c.self.inside.homes.items
written c =
    let kept : length c.raise_homes.new.homes ≡ c.self.inside.homes.len =
    omega (
      arith,
      ap (λ (hs : List (Option Home)). length hs) (raised_of c),
      length-map c.self.inside.homes.items (option_map (raised_home c.args.by)),
      c.as_mut_slice.ensures.len,
      ap (λ (hs : List (Option Home)). length hs) c.as_mut_slice.ensures.value,
    ) in
    with_items_is c.self.inside.homes c.raise_homes.new.homes kept ∙ raised_of c

-- the new homes stand for the lists with higher keys
settled : (c : goal.After-self-1) → StandFor c.self.inside.items (nexts c.self.inside.links.items) (prevs c.self.inside.links.items)
    (with_items c.self.inside.homes c.raise_homes.new.homes).items c.self.inside.lens.items (map (map (raised c.args.by)) c.args.self.now.lists)
settled c =
    let sized = ap (λ (view : ListsView). view.items) c.self.view_is in
    rw (written c, sized) (stand_raised c.args.by _ _ _ _ _ _ (seen_stand _ c.self.inside.links.items _ _ _ c.self.view_is c.self.invariant))

pub invariant_of-self : goal.invariant_of-self
invariant_of-self c = shaped _ c.self.inside.links.items _ _ _ (settled c)

pub returns : goal.returns
returns c =
    shows _ c.self.inside.links.items _ _ _ (settled c)
    ∙ ap (λ (n : ℕ). let seen : ListsView = record { items = n; lists = map (map (raised c.args.by)) c.args.self.now.lists } in seen)
    (ap (λ (view : ListsView). view.items) c.self.view_is)
