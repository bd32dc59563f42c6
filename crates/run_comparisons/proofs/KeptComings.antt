-- The ticks and interrupts of a session are those of a run where they come at the same times.
use Rattle.std.proofs.Common.{◌≡◌, ℕ, ◌+◌, Bool, true, false, cond, List, [], ◌∷◌, ◌++◌, filter, map, refl, ap, sym, ◌∙◌}
use Rattle.std.proofs.lemmas.List.{append-nil}
use Rattle.std.proofs.lemmas.List.Elements.{filter-append}
use Rattle.bench_types.specs.declared.step.Step.{Step}
use Rattle.kept_runs.specs.KeptLaws.{comings}
use Rattle.step_times.specs.Times.{time_of}
use Rattle.run_comparisons.specs.PairLaws.{ComingsAreMoments}
use Rattle.run_comparisons.specs.Shared.{is_moment, AreMomentsOf}

come : (units time : ℕ) (steps : List Step) → map (λ (one : ℕ × Step). one.1) (comings units time steps) ≡ filter is_moment steps
come units time [] = refl
come units time (step ∷ steps) = at (is_moment step) (come units (time + time_of units step) steps)
  where
    rest : List (ℕ × Step)
    rest = comings units (time + time_of units step) steps

    at : (b : Bool) → map (λ (one : ℕ × Step). one.1) rest ≡ filter is_moment steps
        → map (λ (one : ℕ × Step). one.1) (cond b ((time, step) ∷ rest) rest) ≡ cond b (step ∷ filter is_moment steps) (filter is_moment steps)
    at true is = ap (λ (list : List Step). step ∷ list) is
    at false is = is

pub comings_are_moments : ComingsAreMoments
comings_are_moments units session further run same = (
  filter is_moment further,
  sym (come units 0 run) ∙ ap (λ (list : List (ℕ × Step)). map (λ (one : ℕ × Step). one.1) list) (sym same)
      ∙ come units 0 (session ++ further) ∙ filter-append is_moment session further,
)

-- and so it is where there are no further ones
pub same_comings : (units : ℕ) (session run : List Step) → comings units 0 session ≡ comings units 0 run → AreMomentsOf session run
same_comings units session run same =
    comings_are_moments units session [] run (ap (λ (list : List Step). comings units 0 list) (append-nil session) ∙ same)
