-- Refusals, and what becomes of a status.
use Rattle.std.proofs.Common.{◌≡◌, ◌∙◌, ℕ, List, Bool, true, false, refl, ap, subst, inl, inr}
use Rattle.std.specs.Prelude.{◌↔◌, IsTrue}
use Rattle.program_io.specs.declared.output.OutputStatus.TheVariants.{Fine, Failed}
use Rattle.program_io.specs.Outputs.{Printed}
use Rattle.run_comparisons.specs.Refusals.{HasRefusal}
use Rattle.run_sources.specs.Sources.{IsRunOfSource}
use Rattle.run_sources.proofs.SourceRuns.{source_run_is_one}
use Rattle.session_runs.specs.Run.{RunView}
use Rattle.view_commands.specs.declared.edited.EditedSource.{EditedSource}
use Rattle.shown_runs.specs.declared.ask.Ask.{Ask}
use Rattle.shown_runs.specs.declared.ask.Making.{Making}
use Rattle.shown_runs.specs.declared.shown.Shown.{Shown}
use Rattle.shown_runs.specs.Runs.{last_of}
use Rattle.shown_runs.specs.Told.{told}
use Rattle.program_io.specs.Twice.{warned}
use Rattle.view_commands.specs.declared.request.Documents.{Documents}
use Rattle.view_commands.specs.Answers.{AreEnds, IsToldOfRuns}
use Rattle.view_commands.specs.EditedSources.{after_of, making_of, refused_of}
use Rattle.view_commands.specs.ShownRuns.{shows_both, IsShown}
use Rattle.view_commands.specs.Strict.{IsJudged, IsRefusing, IsStrict}

-- something is refused exactly where the run of what the edits leave has a refusal
pub refusing : (source : EditedSource) (run : RunView) → IsRunOfSource (after_of source) run → HasRefusal run (refused_of source) ↔ IsRefusing source
refusing source run is = (
  λ has. record { run = run; is_run = is; has_refusal = has },
  λ some.
      let same = source_run_is_one (after_of source) some.run run some.is_run is in
      subst (λ (one : RunView). HasRefusal one (refused_of source)) same some.has_refusal,
)

pub found_refusing : (source : EditedSource) (run : RunView) (refused : List ℕ) (found : Bool) → IsRunOfSource (after_of source) run
    → refused ≡ refused_of source → (IsTrue found ↔ HasRefusal run refused) → IsTrue found ↔ IsRefusing source
found_refusing source run refused found is same has =
    let exactly = refusing source run is in
    let known = subst (λ (places : List ℕ). IsTrue found ↔ HasRefusal run places) same has in
    (λ holds. exactly.0 (known.0 holds), λ some. known.1 (exactly.1 some))

-- a status that was fine fails where something is refused
pub strict_failed : (Refused : Type 0) (found : Bool) (printed judged : Printed) → found ≡ true → (IsTrue found ↔ Refused)
    → judged ≡ record printed { status = Failed } → IsStrict Refused Fine printed judged
strict_failed Refused found printed judged holds is same = inl (is.0 holds, same)

-- and is kept where nothing is
pub strict_kept : (Refused : Type 0) (found : Bool) (printed : Printed) → found ≡ false → (IsTrue found ↔ Refused) → IsStrict Refused Fine printed printed
strict_kept Refused found printed fails is = inr (λ refused. absurd (cc (fails, is.1 refused)), refl)

-- where refusals do not count, the same is told
pub judged_lax : (strict : Bool) (Refused : Type 0) (printed : Printed) → strict ≡ false → IsJudged strict Refused printed printed
judged_lax false Refused printed is = refl
judged_lax true Refused printed is = absurd (cc is)

pub judged_so : (strict : Bool) (Refused : Type 0) (printed judged : Printed) → strict ≡ true → IsStrict Refused printed.status printed judged
    → IsJudged strict Refused printed judged
judged_so true Refused printed judged is so = so
judged_so false Refused printed judged is so = absurd (cc is)

-- what is told of the runs that are shown
pub told_of_runs : (documents : Documents) (asked : Ask) (source : EditedSource) (both : Bool) (shown : Shown) (making : Making) (ends : List ℕ)
    (output printed : Printed) → both ≡ shows_both asked source → making ≡ making_of source → IsShown both source shown
    → AreEnds documents (after_of source) (last_of shown) ends → output ≡ told making asked shown → printed ≡ warned ends output
    → IsToldOfRuns documents asked source printed
told_of_runs documents asked source both shown making ends output printed same made is ends_are output_is printed_is = record {
  shown = shown;
  is_shown = subst (λ (b : Bool). IsShown b source shown) same is;
  ends = ends;
  are_ends = ends_are;
  is_told = printed_is ∙ ap (warned ends) (output_is ∙ ap (λ (m : Making). told m asked shown) made);
}
