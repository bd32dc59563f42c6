use Rattle.std.proofs.Common.{[], replicate}
use Rattle.index_lists.specs.Rings.{nexts, prevs}
use Rattle.index_lists.specs.Shape.{StandFor}
use Rattle.index_lists.proofs.Looks.{start_stands, shaped, shows}
use Rattle.index_lists.proofs.lists.Lists.new.Goals as goal

-- the new fields stand for empty lists
started : (c : goal.In_ok-no_lens) → StandFor c.args.items (nexts c.in_ok-lone_nodes.field-0.items) (prevs c.in_ok-lone_nodes.field-0.items)
    c.in_ok-no_homes.field-0.items c.in_ok-no_lens.field-0.items (replicate c.args.lists [])
started c = rw (c.in_ok-lone_nodes.ensures.nexts, c.in_ok-lone_nodes.ensures.prevs, c.in_ok-no_homes.ensures, c.in_ok-no_lens.ensures)
    (start_stands c.args.items c.args.lists c.requires)

pub invariant_of-result : goal.invariant_of-result
invariant_of-result c = shaped c.args.items _ _ _ _ (started c)

pub returns : goal.returns
returns c = shows c.args.items _ _ _ _ (started c)
