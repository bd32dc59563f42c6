use Rattle.std.proofs.Common.{refl, subst, sym}
use Rattle.run_comparisons.specs.Pairs.{IsKeptPair, PairView}
use Rattle.run_comparisons.proofs.MadePairs.{kept_stands}
use Rattle.run_comparisons.proofs.pair.RunPair.of_kept.Goals as goal

pub of_parts-requires : goal.of_parts-requires
of_parts-requires c =
    kept_stands c.args.edited.now.session c.args.edited.now.edits c.args.before c.args.after c.in_ok-rows.rows.items c.requires.before c.requires.after
    c.in_ok-rows.ensures

pub returns : goal.returns
returns c =
    subst (λ (pair : PairView). IsKeptPair c.args.edited.now.session c.args.edited.now.edits c.args.refused.items c.args.known c.args.before c.args.after pair)
    (sym c.of_parts.ensures)
    (record {
      is_before = refl;
      is_after = refl;
      of_session = c.requires.before;
      of_edited = c.requires.after;
      rows = c.in_ok-rows.ensures;
      is_refused = refl;
      is_known = refl;
    })
