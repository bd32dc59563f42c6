use Rattle.std.proofs.Common.{arith, string_bytes, sym}
use Rattle.bench_commands.proofs.TrialLines.{lines_end, lines_more}
use Rattle.bench_commands.proofs.trials.trial_lines.Goals as goal

pub loop-index-preserved : goal.loop-index-preserved
loop-index-preserved g c =
    let kept = c.args.store.now in
    lines_more kept c.args.edits.now c.in_ok-tried.tried.items c.deref-trial-items.result.now c.loop-index.index c.trial-item.result
    (string_bytes c.loop-index.text) (string_bytes c.push_trial.new.text)
    c.in_ok-tried.ensures c.deref-trial-items.ensures.value (omega (arith, c.loop-index-test.true, c.loop-index.auto.index-end)) c.trial-item.is
    (λ edit tried. c.in_ok-push_trial.ensures kept edit (sym c.header.ensures.header) tried) c.loop-index.invariant

pub returns : goal.returns
returns g c =
    lines_end c.args.store.now c.args.edits.now c.in_ok-tried.tried.items c.deref-trial-items.result.now c.loop-index.index (string_bytes c.loop-index.text)
    c.in_ok-tried.ensures c.deref-trial-items.ensures.value
    (omega (arith, c.loop-index-test.false, c.loop-index.auto.index-end)) c.loop-index.invariant
