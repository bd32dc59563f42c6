use Rattle.std.proofs.Common.{arith}
use Rattle.json_data.proofs.Twice.{leaf_passed}
use Rattle.json_data.proofs.doubled.is_leaf.Goals as goal

pub returns-in_default : goal.returns-in_default
returns-in_default c = record {
  within = λ is. c.if-at-nodes.false;
  passed = λ is whole rest reads.
      let leaf = leaf_passed c.args.nodes.now c.args.at whole rest c.if-at-nodes.false
      (λ end is. grind arith) (λ end is. grind arith) reads in
      (leaf.0, omega (arith, leaf.1));
}
