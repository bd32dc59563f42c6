use Rattle.std.proofs.Common.{◌≡◌}
use Rattle.list_orders.specs.Search.{numbers}
use Rattle.index_lists.specs.Rings.{nexts, prevs}
use Rattle.index_lists.proofs.links.lone_nodes.Given as goal

-- the nodes so far are alone in their rings
abbrev pub invariant-loop-node : goal.invariant-loop-node
invariant-loop-node l = record { nexts : nexts l.links.items ≡ numbers l.node; prevs : prevs l.links.items ≡ numbers l.node }
