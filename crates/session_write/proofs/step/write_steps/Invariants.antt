use Rattle.std.proofs.Common.{◌≡◌, ◌∷◌}
use Rattle.json.specs.Token.{end_array}
use Rattle.session_write.specs.Tokens.{with_value}
use Rattle.session_write.specs.Written.{step_data, steps_data}
use Rattle.session_write.proofs.Tokens.{with_rest}
use Rattle.session_write.proofs.step.write_steps.Given as goal

abbrev pub invariant-loop-step : goal.invariant-loop-step
invariant-loop-step l = end_array ∷ with_rest (step_data l.format l.header) l.steps l.step-index l.scribe ≡ with_value (steps_data l.format l.header l.steps) l.fn.scribe
