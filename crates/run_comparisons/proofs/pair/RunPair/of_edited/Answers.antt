use Rattle.std.proofs.Common.{ap}
use Rattle.session_runs.specs.Run.{RunView}
use Rattle.run_comparisons.proofs.MadePairs.{edited_stands}
use Rattle.run_comparisons.proofs.pair.RunPair.of_edited.Goals as goal

pub of_parts-requires : goal.of_parts-requires
of_parts-requires c =
    edited_stands c.args.edited.now.session c.args.edited.now.edits c.args.before c.args.after c.in_ok-rows.rows.items
    (ap (λ (run : RunView). run.session) c.requires.before) (ap (λ (run : RunView). run.session) c.requires.after) c.in_ok-rows.ensures
