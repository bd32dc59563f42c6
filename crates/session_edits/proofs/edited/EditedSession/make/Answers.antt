use Rattle.std.proofs.Common.{ℕ, List, Option, length, ap, sym, ◌∙◌}
use Rattle.bench_types.specs.declared.step.Step.{Step}
use Rattle.bench_types.specs.Session.{Session}
use Rattle.session_edits.proofs.Moving.{kept_many}
use Rattle.session_edits.proofs.edited.EditedSession.make.Goals as goal

pub make_edits-requires-clause-many : goal.make_edits-requires-clause-many
make_edits-requires-clause-many c =
    ap (λ (origins : List (Option ℕ)). length origins) c.in_ok-origins.ensures
    ∙ kept_many (length c.steps.result.now)
    ∙ ap (λ (steps : List Step). length steps) c.steps.ensures.steps
    ∙ ap (λ (one : Session). length one.steps) (sym c.in_ok-copy.ensures)
