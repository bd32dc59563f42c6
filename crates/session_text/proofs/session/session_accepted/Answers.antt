use Rattle.std.proofs.Common.{subst, arith}
use Rattle.std.specs.Prelude.{All}
use Rattle.bench_types.specs.Step.{settings_of, IsCheckedStep}
use Rattle.session_text.specs.Node.{data_of, location_of}
use Rattle.session_text.specs.ReadingRules.{Ends}
use Rattle.session_text.specs.Session.{steps_accepted}
use Rattle.session_text.proofs.Accepting.{steps_end}
use Rattle.session_text.proofs.session.session_accepted.Goals as goal

pub returns-in_ok-steps_accepted-in-Ok-clause-checked : goal.returns-in_ok-steps_accepted-in-Ok-clause-checked
returns-in_ok-steps_accepted-in-Ok-clause-checked c = record {
  header = c.requires c.in-Ok.header c.in-Ok.is;
  steps = subst (All (IsCheckedStep (settings_of c.in-Ok.header))) c.as_slice.ensures.value c.in_ok-steps_accepted-in-Ok.ensures.checked;
}

pub returns-in_err-steps_accepted-in-Ok-clause-reading : goal.returns-in_err-steps_accepted-in-Ok-clause-reading
returns-in_err-steps_accepted-in-Ok-clause-reading c =
    let at = location_of c.args.node.now in
    let d = data_of c.args.node.now in
    let end = c.in_err-steps_accepted-in-Ok.field-0.0 in
    let first = subst (λ steps. Ends end (steps_accepted c.in-Ok.header at d steps)) c.as_slice.ensures.value c.in_err-steps_accepted-in-Ok.ensures.reading in
    let whole = steps_end at d c.args.header c.in-Ok.header c.args.steps.items end c.in-Ok.is first in
    grind (arith, whole, c.from_residual.ensures)
