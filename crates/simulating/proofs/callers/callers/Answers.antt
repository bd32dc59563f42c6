use Rattle.std.proofs.Common.{arith}
use Rattle.simulating.proofs.Grown.{callers_more}
use Rattle.simulating.proofs.callers.callers.Goals as goal

pub loop-step-preserved : goal.loop-step-preserved
loop-step-preserved c =
    callers_more c.args.steps.now c.loop-step.step-index _ _ _ c.loop-step-test.true c.loop-step.invariant c.in_ok-push_caller.ensures
