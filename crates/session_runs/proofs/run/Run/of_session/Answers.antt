use Rattle.std.proofs.Common.{All, List, ap, subst, sym, ◌∙◌}
use Rattle.bench_types.specs.declared.header.Header.{Header}
use Rattle.bench_types.specs.declared.kernel_data.Settings.{Settings}
use Rattle.bench_types.specs.declared.step.Step.{Step}
use Rattle.bench_types.specs.Step.{settings_of, IsCheckedStep}
use Rattle.session_runs.specs.Made.{AreOutcomesOf}
use Rattle.session_runs.proofs.run.Run.of_session.Goals as goal

pub make_each-requires-clause-way : goal.make_each-requires-clause-way
make_each-requires-clause-way c = (
  c.header.result.now,
  c.in_ok-outcomes.ensures.made c.header.result.now c.in_ok-kernel.ensures.stands c.in_ok-kernel.ensures.settings,
)

pub make_each-requires-clause-steps : goal.make_each-requires-clause-steps
make_each-requires-clause-steps c =
    let settings = c.in_ok-kernel.ensures.settings ∙ ap settings_of c.header.ensures.header in
    subst (λ (settings : Settings). All (IsCheckedStep settings) c.steps-steps.result.now) (sym settings)
    (subst (λ (steps : List Step). All (IsCheckedStep (settings_of c.args.session.header)) steps) (sym c.steps-steps.ensures.steps)
    c.steps-steps.ensures.checked.checked.steps)

pub of_parts-requires-clause-outcomes : goal.of_parts-requires-clause-outcomes
of_parts-requires-clause-outcomes c =
    let outcomes = c.make_each.new.outcomes in
    let made = c.make_each.ensures.made c.header.result.now
    (c.in_ok-outcomes.ensures.made c.header.result.now c.in_ok-kernel.ensures.stands c.in_ok-kernel.ensures.settings) in
    subst (λ (header : Header). AreOutcomesOf header c.args.session.steps outcomes) c.header.ensures.header
    (subst (λ (steps : List Step). AreOutcomesOf c.header.result.now steps outcomes) c.steps-steps.ensures.steps made.outcomes_are)
