use Rattle.std.proofs.Common.{◌+◌, map, drop, false, sym, ap, ◌∙◌, arith}
use Rattle.std.specs.Option.{option_map_or}
use Rattle.json.specs.Tape.{node_token}
use Rattle.json_data.specs.Reading.{are_in_range}
use Rattle.json_data.proofs.Ranges.{range_turn, range_end, one_more}
use Rattle.json_data.proofs.range.are_in_range.Goals as goal

pub returns-in-None : goal.returns-in-None
returns-in-None c =
    let nodes = c.args.nodes.now in
    sym (c.loop-node.invariant.same ∙ range_turn nodes c.loop-node.node-index c.loop-node.left _ c.loop-node-test.true
    ∙ ap (λ o. option_map_or (λ left. are_in_range left (drop (c.loop-node.node-index + 1) (map node_token nodes))) o false) (sym c.in-None.ensures))

pub loop-node-preserved : goal.loop-node-preserved
loop-node-preserved c =
    let nodes = c.args.nodes.now in
    record {
      same = c.loop-node.invariant.same ∙ range_turn nodes c.loop-node.node-index c.loop-node.left _ c.loop-node-test.true
          ∙ ap (λ o. option_map_or (λ left. are_in_range left (drop (c.loop-node.node-index + 1) (map node_token nodes))) o false) (sym c.in-Some.ensures);
      few = omega (arith, one_more _ _ _ c.in-Some.ensures, c.loop-node.invariant.few);
    }

pub returns : goal.returns
returns c = sym (c.loop-node.invariant.same ∙ range_end c.args.nodes.now c.loop-node.node-index c.loop-node.left (omega (arith, c.loop-node-test.false)))
