use Rattle.std.proofs.Common.{◌≡◌, ◌++◌, List, filter, ap, ◌∙◌}
use Rattle.std.proofs.lemmas.List.Elements.{filter-append}
use Rattle.bench_types.specs.declared.step.Step.{Step}
use Rattle.bench_types.specs.Session.{Session}
use Rattle.session_runs.specs.Run.{RunView}
use Rattle.run_comparisons.specs.Shared.{is_moment, AreMomentsOf}
use Rattle.pair_tests.proofs.kept.followed.Goals as goal

-- the ticks and interrupts of steps behind which others stand
front_moments : (session further run : List Step) → run ≡ session ++ further → AreMomentsOf session run
front_moments session further run is = (filter is_moment further, ap (filter is_moment) is ∙ filter-append is_moment session further)

pub returns : goal.returns
returns g c =
    front_moments c.args.session.now.steps c.args.further.now c.in_ok-of_session.field-0.session.steps
    (ap (λ (run : RunView). run.session.steps) c.in_ok-of_session.ensures.run ∙ ap (λ (one : Session). one.steps) c.in_ok-session.ensures
    ∙ c.in_ok-extend_from_slice.ensures.items
    ∙ ap (λ (steps : List Step). steps ++ c.args.further.now) (c.in_ok-steps.ensures.items ∙ c.steps.ensures.steps))
