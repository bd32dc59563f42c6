use Rattle.std.proofs.Common.{List, ap, subst, sym}
use Rattle.bench_types.specs.declared.step.Step.{Step}
use Rattle.bench_types.specs.Session.{IsCheckedSession, Session}
use Rattle.session_runs.specs.Made.{IsMade}
use Rattle.session_runs.proofs.Goes.{none_checked}
use Rattle.session_runs.proofs.making.RunMaker.start.Goals as goal

pub invariant_of-result : goal.invariant_of-result
invariant_of-result c =
    let header = c.args.header in
    let kernel = c.in_ok-kernel.kernel in
    let outcomes = c.in_ok-outcomes.outcomes in (
      subst (λ (steps : List Step). IsCheckedSession (record { header = header; steps = steps })) (sym c.new.ensures.items) (none_checked header c.requires),
      subst (λ (steps : List Step). IsMade header steps kernel outcomes) (sym c.new.ensures.items)
          (c.in_ok-outcomes.ensures.made header c.in_ok-kernel.ensures.stands c.in_ok-kernel.ensures.settings),
    )
