use Rattle.std.proofs.Common.{refl, subst, sym}
use Rattle.run_comparisons.specs.Pairs.{IsSettledPair, PairView}
use Rattle.run_comparisons.proofs.MadePairs.{settled_stands}
use Rattle.run_comparisons.proofs.pair.RunPair.of_settled.Goals as goal

pub of_parts-requires : goal.of_parts-requires
of_parts-requires c =
    settled_stands c.args.edited.now.session c.args.edited.now.edits c.args.before c.args.after c.in_ok-rows.rows.items c.requires.before c.requires.after
    c.in_ok-rows.ensures

pub returns-clause-pair : goal.returns-clause-pair
returns-clause-pair c =
    subst (λ (pair : PairView). IsSettledPair c.args.edited.now.session c.args.edited.now.edits pair) (sym c.of_parts.ensures)
    (record { before = c.requires.before; after = c.requires.after; rows = c.in_ok-rows.ensures; refused = c.in_ok-refused.ensures; known = refl })
