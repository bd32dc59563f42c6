use Rattle.std.proofs.Common.{◌≡◌, ◌<◌, List, [], ◌∷◌, ◌++◌, length, Ok, ap, subst, sym, ◌∙◌, arith}
use Rattle.bench_types.specs.declared.kernel_data.Settings.{Settings}
use Rattle.bench_types.specs.declared.step.Step.{Step}
use Rattle.bench_types.specs.Limits.{max_steps}
use Rattle.bench_types.specs.Session.{IsCheckedSession, Session}
use Rattle.bench_types.specs.Step.{settings_of, step_check, IsCheckedStep}
use Rattle.session_runs.specs.Made.{IsMade}
use Rattle.session_runs.proofs.Goes.{push_checked, session_of}
use Rattle.session_runs.proofs.making.RunMaker.make.Goals as goal

pub invariant_of-self : goal.invariant_of-self
invariant_of-self c =
    let inside = c.self.inside in (
      subst (λ (steps : List Step). IsCheckedSession (session_of inside.header steps)) (sym c.reserve.ensures.items) c.self.invariant.0,
      subst (λ (steps : List Step). IsMade inside.header steps inside.kernel inside.outcomes) (sym c.reserve.ensures.items) c.self.invariant.1,
    )

pub invariant_of-self-in_err-reserve_next : goal.invariant_of-self-in_err-reserve_next
invariant_of-self-in_err-reserve_next c =
    let inside = c.self.inside in
    let made = c.reserve_next.ensures.made inside.header inside.steps.items inside.kernel c.self.invariant.1 in (
      subst (λ (steps : List Step). IsCheckedSession (session_of inside.header steps)) (sym c.reserve.ensures.items) c.self.invariant.0,
      subst (λ (steps : List Step). IsMade inside.header steps inside.kernel c.reserve_next.new.self) (sym c.reserve.ensures.items) made,
    )

pub make_next-requires-clause-way : goal.make_next-requires-clause-way
make_next-requires-clause-way c =
    let inside = c.self.inside in record {
      header = inside.header;
      steps = inside.steps.items;
      made = c.reserve_next.ensures.made inside.header inside.steps.items inside.kernel c.self.invariant.1;
      room = omega (arith, c.requires.room, ap (λ (v : Session). length v.steps) c.self.view_is);
    }

pub make_next-requires-clause-checked : goal.make_next-requires-clause-checked
make_next-requires-clause-checked c =
    let inside = c.self.inside in
    let next = subst (λ (v : Session). IsCheckedStep (settings_of v.header) c.args.step) (sym c.self.view_is) c.requires.checked in
    subst (λ (settings : Settings). step_check settings c.args.step ≡ Ok tt) (sym c.self.invariant.1.settings) next.passes

pub invariant_of-self-2 : goal.invariant_of-self-2
invariant_of-self-2 c =
    let inside = c.self.inside in
    let step = c.args.step in
    let next = subst (λ (v : Session). IsCheckedStep (settings_of v.header) step) (sym c.self.view_is) c.requires.checked in
    let few : length inside.steps.items < max_steps = omega (arith, c.requires.room, ap (λ (v : Session). length v.steps) c.self.view_is) in
    let made = c.make_next.ensures.made inside.header inside.steps.items
    (c.reserve_next.ensures.made inside.header inside.steps.items inside.kernel c.self.invariant.1) in
    let pushed = c.push_reserved.ensures.items ∙ ap (λ (steps : List Step). steps ++ step ∷ []) c.reserve.ensures.items in (
      subst (λ (steps : List Step). IsCheckedSession (session_of inside.header steps)) (sym pushed)
          (push_checked inside.header inside.steps.items step few next c.self.invariant.0),
      subst (λ (steps : List Step). IsMade inside.header steps c.make_next.new.kernel c.make_next.new.self) (sym pushed) made,
    )

pub returns-clause-made : goal.returns-clause-made
returns-clause-made c =
    let inside = c.self.inside in
    let step = c.args.step in
    let pushed = c.push_reserved.ensures.items ∙ ap (λ (steps : List Step). steps ++ step ∷ []) c.reserve.ensures.items in
    ap (session_of inside.header) pushed ∙ ap (λ (v : Session). session_of v.header (v.steps ++ step ∷ [])) c.self.view_is
