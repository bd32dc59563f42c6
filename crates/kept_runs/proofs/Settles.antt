-- Settling a run that keeps work changes nothing.
use Rattle.std.proofs.Common.{◌≡◌, true, false, cond, not, eqb, List, [], ◌∷◌, Some, None, refl, sym, ap, subst, ◌∙◌, inl, inr, arith}
use Rattle.std.specs.Prelude.{◌⊎◌}
use Rattle.std.proofs.lemmas.Bool.Decides.{nat_tests}
use Rattle.bench_types.specs.declared.step.Step.{Step}
use Rattle.bench_types.specs.declared.step.Step.TheVariants.{Tick, Switch, Interrupt, QueueInterrupt, ResumeInterrupt, Pass}
use Rattle.bench_types.specs.declared.step.Step.TheVariants as steps
use Rattle.bench_model.specs.Session.{step_of}
use Rattle.bench_model.specs.Table.{Table}
use Rattle.settled_runs.specs.declared.waiting_call.WaitingCall.{WaitingCall}
use Rattle.settled_runs.specs.Settled.{events_of, is_event, is_finish, on_its_core, quiet_step, waiting_after, without_first, IsSettledFrom}
use Rattle.settled_runs.specs.SettleLaws.{comes_from_outside}
use Rattle.settled_runs.proofs.Pieces.{none_alone}
use Rattle.settled_runs.proofs.Settlings.{before, refusals_are_answers}
use Rattle.kept_runs.specs.Items.{edited_session}
use Rattle.kept_runs.specs.KeptLaws.{KeptRefusalsAreAnswers, KeptRunIsSettled}
use Rattle.kept_runs.specs.Rule.{Progress, after, first_progress, IsRunFrom}
use Rattle.kept_runs.proofs.Listed.{first_good}
use Rattle.kept_runs.proofs.Pieces.{from_outside, good_after, none_next, origin, IsFromOutside, IsGood, IsQuiet}

-- nothing waits, and the run settles to itself
abbrev Settles : Table → List Step → Type 0
Settles table run = IsSettledFrom table [] (events_of run) run []

passed_before : (table : Table) (step : Step) (run : List Step) → is_event step ≡ false → waiting_after [] step ≡ [] → quiet_step table [] ≡ Some step
    → Settles (step_of step table).1 run → Settles table (step ∷ run)
passed_before table step run none waits made later =
    let whole : IsSettledFrom table [] (events_of run) (step ∷ run) [] =
    before (events_of run) table [] step run [] made
    (subst (λ waiting. IsSettledFrom (step_of step table).1 waiting (events_of run) run []) (sym waits) later) in
    subst (λ b. IsSettledFrom table [] (cond b (step ∷ events_of run) (events_of run)) (step ∷ run) []) (sym none) whole

call_before : (table : Table) (waits : WaitingCall) (step : Step) (run : List Step) → step ≡ on_its_core table waits → is_finish waits.call ≡ false
    → quiet_step table [] ≡ None → quiet_step table (waits ∷ []) ≡ Some step → Settles (step_of step table).1 run → Settles table (step ∷ run)
call_before table waits step run is begins none alone later =
    let gone : waiting_after (waits ∷ []) step ≡ [] = ap (waiting_after (waits ∷ [])) is
    ∙ ap (λ finish. cond finish (waits ∷ []) (without_first waits.task (waits ∷ []))) begins ∙ ap (λ own. cond own [] (waits ∷ [])) own in
    let only : IsSettledFrom table (waits ∷ []) (events_of run) (step ∷ run) [] =
    before (events_of run) table (waits ∷ []) step run [] alone
    (subst (λ waiting. IsSettledFrom (step_of step table).1 waiting (events_of run) run []) (sym gone) later) in
    let Here : Step → Type 0 = λ event. IsSettledFrom table [] (event ∷ events_of run) (step ∷ run) [] in
    let whole : Here step = subst Here (sym is) ([], step ∷ run, refl, none, only) in
    let event : is_event step ≡ true = ap is_event is ∙ ap not begins in
    subst (λ b. IsSettledFrom table [] (cond b (step ∷ events_of run) (events_of run)) (step ∷ run) []) (sym event) whole
  where
    own : eqb waits.task waits.task ≡ true
    own = grind (arith, nat_tests)

once_before : (table : Table) (step : Step) (run : List Step) → comes_from_outside step ≡ true → quiet_step table [] ≡ None
    → Settles (step_of step table).1 run → Settles table (step ∷ run)
once_before table Tick run is none later = ([], run, refl, none, later)
once_before table (Switch core) run is none later = absurd (cc is)
once_before table (Interrupt core note) run is none later = ([], run, refl, none, later)
once_before table (QueueInterrupt core queue direction) run is none later = ([], run, refl, none, later)
once_before table (ResumeInterrupt core task) run is none later = ([], run, refl, none, later)
once_before table (Pass units) run is none later = ([], run, refl, none, later)
once_before table (steps.Call core task call) run is none later = absurd (cc is)

settles_along : (run : List Step) (now : Progress) (left : List WaitingCall) → IsGood now → IsRunFrom now run left → Settles now.table run
unfolding after
settles_along [] now left good is = (none_alone _ _ (none_next now is.0).quiet, refl)
settles_along (step ∷ run) now left good is = at (origin now step good.begun is.0) (settles_along run (after step now) left (good_after step now good) is.1)
  where
    at : IsQuiet now step ⊎ IsFromOutside now step → Settles (step_of step now.table).1 run → Settles now.table (step ∷ run)
    at (inl (inl it)) later = passed_before now.table step run (ap is_event it.is) (ap (waiting_after []) it.is) (it.always []) later
    at (inl (inr (inl it))) later = passed_before now.table step run (ap is_event it.is) (ap (waiting_after []) it.is) (it.always []) later
    at (inl (inr (inr it))) later = call_before now.table it.waits step run it.is it.begins it.quiet it.alone later
    at (inr it) later = once_before now.table step run (from_outside now step good it) (none_alone _ _ it.quiet) later

pub kept_run_is_settled : KeptRunIsSettled
unfolding first_progress
kept_run_is_settled order session edits run left kept =
    settles_along run (first_progress order session edits kept.settled) left (first_good order session edits kept.settled) kept.is_run

pub kept_refusals_are_answers : KeptRefusalsAreAnswers
kept_refusals_are_answers order session edits run left place why kept =
    refusals_are_answers (edited_session session edits).header run run [] place why (kept_run_is_settled order session edits run left kept)
