use Rattle.std.proofs.Common.{◌≤◌, List, length, ap, ◌∙◌, arith}
use Rattle.bench_types.specs.declared.step.Step.{Step}
use Rattle.bench_types.specs.Session.{Session}
use Rattle.run_comparisons.proofs.RefusalsFound.{none_is}
use Rattle.run_comparisons.proofs.refusals.was_step_refused.Goals as goal

pub returns : goal.returns
returns c =
    let session = c.args.run.now.session in
    let same = c.steps.ensures.steps ∙ ap (λ (one : Session). one.steps) c.session.ensures in
    let past : length session.steps ≤ c.loop-place.place = omega (arith, ap (λ (steps : List Step). length steps) same, c.loop-place-test.false) in
    none_is session c.loop-place.place c.loop-place.invariant past
