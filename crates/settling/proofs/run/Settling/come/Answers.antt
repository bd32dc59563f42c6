use Rattle.std.proofs.Common.{◌≡◌, ◌∙◌, ◌+◌, ◌≤◌, List, ap, length, subst, sym}
use Rattle.bench_types.specs.declared.step.Step.{Step}
use Rattle.bench_types.specs.Limits.{max_steps}
use Rattle.bench_types.specs.Step.{settings_of, IsCheckedStep}
use Rattle.settled_runs.specs.SettleLaws.{comes_from_outside}
use Rattle.settling.specs.declared.run.Settling.{Settling}
use Rattle.settling.specs.Places.{step_at}
use Rattle.settling.specs.Progress.{with_step}
use Rattle.settling.proofs.Progress.{at_inside, at_outside, came_passes, come_too_long}
use Rattle.settling.proofs.run.Settling.come.Goals.{then-comes_from_outside+in_ok-make, else-comes_from_outside}
use Rattle.settling.proofs.run.Settling.come.Goals as goal

pub make-requires : goal.make-requires
make-requires c =
    let old = c.args.self.now in
    subst (λ (steps : List Step). IsCheckedStep (settings_of old.run.header) (step_at steps old.come)) (sym c.steps.ensures.steps)
    (came_passes c.args.session.now old c.requires.rests c.requires.more)

pub returns-in_err-make-clause-long : goal.returns-in_err-make-clause-long
returns-in_err-make-clause-long c known =
    let given = rw known at c.from_residual.ensures.1 in
    let old = c.args.self.now in
    let outside = sym (c.comes_from_outside.ensures ∙ ap (λ (steps : List Step). comes_from_outside (step_at steps old.come)) c.steps.ensures.steps)
    ∙ c.if-comes_from_outside.true in
    come_too_long c.args.session.now old c.requires.rests c.requires.more outside (c.in_err-make.ensures.full (cc (given)))

pub returns-clause-come : goal.returns-clause-come
returns-clause-come c =
    let session = c.args.session.now in
    let old = c.args.self.now in
    let told = sym (c.comes_from_outside.ensures ∙ ap (λ (steps : List Step). comes_from_outside (step_at steps old.come)) c.steps.ensures.steps) in
    elim c.if-comes_from_outside.branch [
      | then-comes_from_outside+in_ok-make w ↦
          let made : c.if-comes_from_outside.self ≡ with_step (step_at session.steps old.come) old = w.self-is ∙ w.in_ok-make.ensures.made
          ∙ ap (λ (steps : List Step). with_step (step_at steps old.come) old) c.steps.ensures.steps in
          at_outside session old c.requires.rests c.requires.more _ (told ∙ w.if-comes_from_outside.true) (ap (λ (settling : Settling). settling.run) made)
          (ap (λ (settling : Settling). settling.come + 1) made) (ap (λ (settling : Settling). settling.queues) made)
          (subst (λ (settling : Settling). length settling.run.steps ≤ max_steps) (sym w.self-is) w.in_ok-make.ensures.room)
      | else-comes_from_outside w ↦
          at_inside session old c.requires.rests c.requires.more _ (told ∙ w.if-comes_from_outside.false)
          (ap (λ (settling : Settling). settling.run) w.self-is)
          (ap (λ (settling : Settling). settling.come + 1) w.self-is)
          (ap (λ (settling : Settling). settling.queues) w.self-is)
    ]
