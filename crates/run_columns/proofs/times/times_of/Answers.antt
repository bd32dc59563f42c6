use Rattle.std.proofs.Common.{◌≡◌, ◌∙◌, length, sym, subst, arith}
use Rattle.run_columns.specs.TimeSlots.{AreTimes}
use Rattle.run_columns.proofs.Timed.{times_all, times_are, times_more}
use Rattle.run_columns.proofs.times.times_of.Goals as goal

pub loop-step-preserved : goal.loop-step-preserved
loop-step-preserved c =
    times_more c.args.units c.args.steps.now c.loop-step.step-index _ c.loop-step.times.items c.push.new.self.items c.loop-step.time c.from-time.result
    c.loop-step-test.true c.loop-step.invariant (c.from-time.ensures ∙ c.time_of.ensures) (omega (arith, c.from-time.ensures, c.time_of.type_inv))
    c.in_ok-push.ensures.items

pub returns-clause-value : goal.returns-clause-value
returns-clause-value c =
    let end : c.loop-step.step-index ≡ length c.args.steps.now = omega (arith, c.loop-step-test.false, c.loop-step.auto.step-index-end) in
    times_all c.args.units c.args.steps.now c.loop-step.step-index c.loop-step.times.items c.push-2.new.self.items c.loop-step.time end c.loop-step.invariant
    c.in_ok-push-2.ensures.items

pub returns-clause-times : goal.returns-clause-times
returns-clause-times c =
    let end : c.loop-step.step-index ≡ length c.args.steps.now = omega (arith, c.loop-step-test.false, c.loop-step.auto.step-index-end) in
    subst AreTimes
    (sym (times_all c.args.units c.args.steps.now c.loop-step.step-index c.loop-step.times.items c.push-2.new.self.items c.loop-step.time end
    c.loop-step.invariant c.in_ok-push-2.ensures.items)) (times_are c.args.units c.args.steps.now c.requires)
