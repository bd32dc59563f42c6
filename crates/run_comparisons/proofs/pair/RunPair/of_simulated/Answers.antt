use Rattle.run_comparisons.proofs.MadePairs.{simulated_stands}
use Rattle.run_comparisons.proofs.pair.RunPair.of_simulated.Goals as goal

pub of_parts-requires : goal.of_parts-requires
of_parts-requires c = simulated_stands c.args.before c.args.after c.in_ok-rows.rows.items c.in_ok-rows.ensures
