use Rattle.std.proofs.Common.{ℕ, List, Option, length, ap, ◌∙◌}
use Rattle.bench_model.specs.Edits.{after_edits}
use Rattle.session_edits.specs.Edited.{EditedView}
use Rattle.session_edits.proofs.Moving.{kept_many, origins_many}
use Rattle.session_edits.proofs.edited.EditedSession.origins.Goals as goal

pub returns-clause-many : goal.returns-clause-many
returns-clause-many c =
    let kept = c.self.inside in
    ap (λ (origins : List (Option ℕ)). length origins) (c.as_slice.ensures.value ∙ c.self.invariant.are_origins)
    ∙ origins_many kept.before kept.edits.items _ (kept_many (length kept.before.steps))
    ∙ ap (λ (view : EditedView). length (after_edits view.session view.edits).steps) c.self.view_is
