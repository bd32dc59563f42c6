use Rattle.std.proofs.Common.{◌≡◌, ◌<◌, ◌≤◌, ℕ, List, Some, length, ap, sym, ◌∙◌, arith}
use Rattle.std.specs.Vec.{with_items}
use Rattle.std.proofs.lemmas.List.{with_items_is}
use Rattle.bench_types.specs.declared.step.Step.{Step}
use Rattle.bench_types.specs.Session.{Session}
use Rattle.session_runs.specs.Made.{row_at}
use Rattle.session_runs.proofs.Rows.{none_there, row_there}
use Rattle.session_runs.proofs.walk.RunWalk.row_at.Goals as goal

pub returns-then-place-steps-clause-row : goal.returns-then-place-steps-clause-row
returns-then-place-steps-clause-row c =
    let same : c.steps.result.now ≡ c.args.self.now.steps
    = c.steps.ensures.steps ∙ ap (λ (s : Session). s.steps) (c.session.ensures ∙ c.self.view_is) in
    let past : length c.args.self.now.steps < c.args.place = omega (arith, ap (λ (steps : List Step). length steps) same, c.if-place-steps.true) in
    sym (none_there c.args.self.now c.args.place past)

pub returns-clause-row : goal.returns-clause-row
returns-clause-row c =
    let place = c.args.place in
    let same : c.steps.result.now ≡ c.args.self.now.steps
    = c.steps.ensures.steps ∙ ap (λ (s : Session). s.steps) (c.session.ensures ∙ c.self.view_is) in
    let early : place ≤ length c.args.self.now.steps = omega (arith, ap (λ (steps : List Step). length steps) same, c.if-place-steps.false) in
    let moved : (with_items c.self.inside.row c.go_to.new.row).items ≡ row_at c.self.inside.run.now.session place
    = with_items_is c.self.inside.row c.go_to.new.row (c.go_to.auto.row ∙ c.deref_mut.ensures.len) ∙ c.go_to.ensures in
    let row : c.in_ok-row.row.items ≡ row_at c.args.self.now place
    = c.in_ok-row.ensures.items ∙ c.as_slice.ensures.value ∙ moved ∙ ap (λ (s : Session). row_at s place) c.self.view_is in
    ap (λ (r : List ℕ). Some r) row ∙ sym (row_there c.args.self.now place early)
