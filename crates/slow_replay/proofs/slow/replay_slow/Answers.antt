use Rattle.std.proofs.Common.{◌≡◌, ◌+◌, get_or, Ok, subst, sym, arith}
use Rattle.bench_types.specs.Step.{step_check}
use Rattle.bench_types.specs.declared.step.Step.TheVariants.{Tick}
use Rattle.std.proofs.lemmas.List.{drop_more}
use Rattle.slow_replay.proofs.SlowRuns.{IsReplaying, replaying_starts, replaying_goes, replaying_ends, can_step}
use Rattle.slow_replay.proofs.slow.replay_slow.Goals as goal

pub loop-step-init : goal.loop-step-init
loop-step-init c = replaying_starts c.args.header.now c.args.steps.now c.in_ok-table.table c.in_ok-outcomes.outcomes.items c.requires.header
    c.in_ok-table.ensures c.in_ok-outcomes.ensures.items

pub step-requires-clause-time : goal.step-requires-clause-time
step-requires-clause-time c = (can_step c.args.header.now c.args.steps.now c.loop-step.step-index c.loop-step.table c.loop-step.outcomes.items
    c.requires.header c.loop-step.invariant (omega arith) (omega arith)).time

pub loop-step-preserved : goal.loop-step-preserved
loop-step-preserved c =
    subst (λ os. IsReplaying c.args.header.now c.args.steps.now (c.loop-step.step-index + 1) c.step.new.self os) (sym c.in_ok-push.ensures.items)
    (replaying_goes c.args.header.now c.args.steps.now c.loop-step.step-index c.loop-step.table c.step.new.self c.loop-step.outcomes.items _
    c.in_ok-reply.reply c.in_ok-row.row c.requires.header c.loop-step.invariant
    (drop_more c.args.steps.now c.loop-step.step-index _ (omega arith))
    (record {
      passes = subst (λ settings. step_check settings (get_or c.args.steps.now c.loop-step.step-index Tick) ≡ Ok tt)
          (sym c.loop-step.invariant.settings) (c.requires.steps c.loop-step.step-index Tick (omega arith));
      words = c.step.ensures.words;
    })
    c.in_ok-reply.ensures.outcome c.in_ok-row.ensures)

pub returns : goal.returns
returns c = replaying_ends c.args.header.now c.args.steps.now c.loop-step.step-index c.loop-step.table c.loop-step.outcomes.items c.loop-step.invariant
    (omega arith)
