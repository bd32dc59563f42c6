use Rattle.std.proofs.Common.{◌≡◌, ◌+◌, ◌-◌, ◌*◌, ◌≤◌, ◌++◌, List, drop, map, length}
use Rattle.json.specs.Json.{Items, Members}
use Rattle.json.specs.Tape.{node_token}
use Rattle.json.specs.Token.{Token}
use Rattle.json.specs.Tree.{items_tokens, members_tokens}
use Rattle.json_data.proofs.Twice.{ItemsLeft, MembersLeft}
use Rattle.json_data.proofs.doubled.+passing.Given as goal

abbrev pub decreases-passed_value : goal.decreases-passed_value
decreases-passed_value l = 2 * (length l.nodes.now - l.at) + 1

abbrev pub decreases-passed_items : goal.decreases-passed_items
decreases-passed_items l = 2 * (length l.nodes.now - l.at) + 2

abbrev pub decreases-passed_members : goal.decreases-passed_members
decreases-passed_members l = 2 * (length l.nodes.now - l.at) + 2

abbrev pub decreases-passed_items-loop-next : goal.decreases-passed_items-loop-next
decreases-passed_items-loop-next l = length l.nodes - l.next

abbrev pub decreases-passed_members-loop-next : goal.decreases-passed_members-loop-next
decreases-passed_members-loop-next l = length l.nodes - l.next

abbrev pub invariant-passed_items-loop-next : goal.invariant-passed_items-loop-next
invariant-passed_items-loop-next l = record {
  ordered : l.at ≤ l.next;
  within : l.next ≤ length l.nodes;
  left : (all : Items) (rest : List Token) → drop l.at (map node_token l.nodes)
      ≡ items_tokens all ++ rest → ItemsLeft (map node_token l.nodes) l.at l.next all rest;
}

abbrev pub invariant-passed_members-loop-next : goal.invariant-passed_members-loop-next
invariant-passed_members-loop-next l = record {
  ordered : l.at ≤ l.next;
  within : l.next ≤ length l.nodes;
  left : (all : Members) (rest : List Token) → drop l.at (map node_token l.nodes)
      ≡ members_tokens all ++ rest
      → MembersLeft (map node_token l.nodes) l.at l.next l.names all rest;
}
