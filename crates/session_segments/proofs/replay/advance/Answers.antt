use Rattle.std.proofs.Common.{◌+◌, ◌-◌, ◌^◌, min, subst, sym, ◌∙◌, ap, arith, take}
use Rattle.bench_model.specs.Equal.{StandsFor}
use Rattle.bench_model.specs.Session.{state_after}
use Rattle.session_segments.proofs.Counts.{counted_more}
use Rattle.session_segments.proofs.Replays.{state_after_more}
use Rattle.session_segments.proofs.replay.advance.Goals as goal

pub loop-step-preserved : goal.loop-step-preserved
loop-step-preserved c =
    let steps = c.args.steps.now in
    let place = c.loop-step.step-index in
    record {
      state = λ table stands. subst (λ t. StandsFor c.step.new.self t) (sym (state_after_more table steps place (omega arith)))
          (c.step.ensures.state (state_after table (take place steps)) (c.loop-step.invariant.state table stands));
      settings = c.step.ensures.shape ∙ c.loop-step.invariant.settings;
      meter = c.step.ensures.meter ∙ ap (λ count. min (count + 1) (2 ^ 64 - 1)) c.loop-step.invariant.meter ∙ counted_more place c.args.meter.now;
    }
