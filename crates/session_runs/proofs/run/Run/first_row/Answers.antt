use Rattle.std.proofs.Common.{◌≡◌, ℕ, length, subst, ◌∙◌}
use Rattle.bench_types.specs.Step.{settings_of}
use Rattle.session_runs.specs.Made.{row_at}
use Rattle.session_runs.specs.Run.{RunView}
use Rattle.session_runs.proofs.Rows.{first_kept, row_length}
use Rattle.session_runs.proofs.run.Run.first_row.Goals as goal

pub returns-clause-row : goal.returns-clause-row
returns-clause-row c =
    let inside = c.self.inside in
    subst (λ (v : RunView). c.as_slice.result.now ≡ row_at v.session 0) c.self.view_is
    (c.as_slice.ensures.value ∙ first_kept inside.session inside.outcomes c.self.invariant.0 c.self.invariant.2)

pub returns-clause-cores : goal.returns-clause-cores
returns-clause-cores c =
    let inside = c.self.inside in
    subst (λ (v : RunView). (place : ℕ) → length (row_at v.session place) ≡ (settings_of v.session.header).cores) c.self.view_is
    (λ place. row_length inside.session inside.outcomes c.self.invariant.0 c.self.invariant.2 place)
