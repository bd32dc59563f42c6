use Rattle.std.proofs.Common.{refl, arith, sym, ◌∙◌}
use Rattle.run_views.proofs.Refusing.{none_refused, passed_on, refused_here, printed_no, printed_yes}
use Rattle.run_views.proofs.refused_steps.refuses_one.Goals as goal

pub loop-step-init : goal.loop-step-init
loop-step-init c = record {
  settings = refl;
  stands = λ table stands. stands;
  none = λ table place why stands before refused. absurd (omega (arith, before));
}

pub loop-step-preserved : goal.loop-step-preserved
loop-step-preserved c =
    let made = c.step-reply.ensures in
    passed_on c.step-reply.new.self _ c.step-reply.result c.loop-step.invariant c.loop-step-test.true made.shape made.state made.reply
    (sym c.is_refusal.ensures ∙ c.if-is_refusal.false)

pub returns-then-is_refusal : goal.returns-then-is_refusal
returns-then-is_refusal c table stands =
    printed_yes (refused_here _ c.step-reply.result c.loop-step.invariant c.loop-step-test.true c.step-reply.ensures.reply
    (sym c.is_refusal.ensures ∙ c.if-is_refusal.true) table stands)

pub returns : goal.returns
returns c table stands = printed_no (none_refused c.loop-step.step-index c.loop-step.invariant c.loop-step-test.false table stands)
