use Rattle.std.proofs.Common.{◌++◌, ap₂, string_bytes, ◌∙◌}
use Rattle.bench_model.specs.Tallied.{run_at, tally_at}
use Rattle.run_comparisons.specs.Gains.{run_gain}
use Rattle.run_comparisons.proofs.Ranges.{next_text}
use Rattle.run_comparisons.proofs.gains.push_run_gained.Goals as goal

pub loop-core-preserved : goal.loop-core-preserved
loop-core-preserved c =
    let core = c.loop-core.core in
    next_text (λ core. run_gain core (run_at (tally_at c.args.before.now c.args.task) core) (run_at (tally_at c.args.after.now c.args.task) core))
    (string_bytes c.args.text.now) (string_bytes c.loop-core.text) _ core c.loop-core.invariant
    (c.in_ok-push_run_gain.ensures ∙ ap₂ (λ old new. string_bytes c.loop-core.text ++ run_gain core old new) c.run_at-old.ensures c.run_at.ensures)
