use Rattle.std.proofs.Common.{◌∷◌, ap, ◌∙◌}
use Rattle.json.specs.Token.{end_array}
use Rattle.session_write.specs.Written.{step_data}
use Rattle.session_write.proofs.Tokens.{one_more}
use Rattle.session_write.proofs.step.write_steps.Goals as goal

pub loop-step-preserved : goal.loop-step-preserved
loop-step-preserved c =
    ap (λ tokens. end_array ∷ tokens) (one_more (step_data c.args.format c.args.header.now) c.args.steps.now c.loop-step.step-index _ c.loop-step.scribe
    c.write_step.new.scribe c.loop-step-test.true c.in_ok-write_step.ensures)
    ∙ c.loop-step.invariant
