use Rattle.std.proofs.Common.{◌≡◌, ◌≤◌, ◌+◌, map, drop}
use Rattle.json.specs.Tape.{node_token}
use Rattle.serde_json.specs.Read.{max_depth}
use Rattle.json_data.specs.Reading.{are_in_range}
use Rattle.json_data.proofs.range.are_in_range.Given as goal

abbrev pub invariant-loop-node : goal.invariant-loop-node
invariant-loop-node l = record {
  same : are_in_range max_depth (map node_token l.nodes) ≡ are_in_range l.left (drop l.node-index (map node_token l.nodes));
  few : l.left ≤ max_depth + l.node-index;
}
