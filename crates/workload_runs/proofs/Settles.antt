-- Settling a run changes nothing.
use Rattle.std.proofs.Common.{◌≡◌, ◌+◌, Bool, true, false, cond, not, eqb, List, [], ◌∷◌, Some, None, refl, sym, ap, subst, inl, inr, arith, ◌∙◌}
use Rattle.std.specs.List.{find}
use Rattle.std.specs.Option.{option_or}
use Rattle.std.proofs.lemmas.Bool.Decides.{nat_tests}
use Rattle.bench_types.specs.declared.step.Step.{Step}
use Rattle.bench_types.specs.declared.step.Step.TheVariants.{Tick, Switch, Interrupt, QueueInterrupt, ResumeInterrupt, Pass}
use Rattle.bench_types.specs.declared.step.Step.TheVariants as steps
use Rattle.bench_model.specs.Session.{step_of}
use Rattle.bench_model.specs.Table.{Table}
use Rattle.settled_runs.specs.declared.waiting_call.WaitingCall.{WaitingCall}
use Rattle.settled_runs.specs.Settled.{core_running, events_of, finishes, is_event, is_finish, is_open, is_timely, on_its_core, quiet_step, waiting_after, without_first, IsSettledFrom}
use Rattle.settled_runs.proofs.Pieces.{none_found}
use Rattle.settled_runs.proofs.Rests.{runs_core}
use Rattle.settled_runs.proofs.Settlings.{before}
use Rattle.task_programs.specs.declared.workload.Workload.{Workload}
use Rattle.task_programs.specs.Workloads.{is_interrupt, IsCheckedWorkload}
use Rattle.workload_runs.specs.Laws.{EachRun}
use Rattle.workload_runs.specs.Properties.{RunIsSettled}
use Rattle.workload_runs.specs.Rule.{IsRunFrom}
use Rattle.workload_runs.specs.Situations.{Situation, after, first_situation}
use Rattle.workload_runs.proofs.CallLaws.{interrupt_kind}
use Rattle.workload_runs.proofs.Keeps.{call_begins, first_keeps, keeps_after, Keeps}
use Rattle.workload_runs.proofs.Origins.{none_next, origin, quiet_piece, FromProgram, IsQuietPiece, Origin}
use Rattle.workload_runs.proofs.Programs.{first_call, on_core}
use Rattle.workload_runs.proofs.Times.{time_made, TimeMade}

-- nothing waits, and the run settles to itself
abbrev Settles : Table → List Step → Type 0
Settles table run = IsSettledFrom table [] (events_of run) run []

-- ---- quiet work first

quiet_before : (table : Table) (step : Step) (run : List Step) → quiet_step table [] ≡ Some step → Settles (step_of step table).1 run → Settles table (step ∷ run)
quiet_before table step run made later = at (quiet_piece table step made)
  where
    passed : is_event step ≡ false → waiting_after [] step ≡ [] → Settles table (step ∷ run)
    passed none waits =
        let whole : IsSettledFrom table [] (events_of run) (step ∷ run) [] =
        before (events_of run) table [] step run [] made
        (subst (λ waiting. IsSettledFrom (step_of step table).1 waiting (events_of run) run []) (sym waits) later) in
        subst (λ b. IsSettledFrom table [] (cond b (step ∷ events_of run) (events_of run)) (step ∷ run) []) (sym none) whole

    at : IsQuietPiece table step → Settles table (step ∷ run)
    at (inl it) = passed (ap is_event it.is) (ap (waiting_after []) it.is)
    at (inr it) = passed (ap is_event it.is) (ap (waiting_after []) it.is)

-- ---- a tick, an interrupt or a pass

-- it is made as it stands
abbrev stands_alone : Step → Bool
stands_alone (steps.Call core task call) = false
stands_alone (Switch core) = false
stands_alone step = true

once_before : (table : Table) (step : Step) (run : List Step) → stands_alone step ≡ true → quiet_step table [] ≡ None → Settles (step_of step table).1 run
    → Settles table (step ∷ run)
once_before table Tick run alone none later = ([], run, refl, none, later)
once_before table (Switch core) run alone none later = absurd (cc alone)
once_before table (Interrupt core note) run alone none later = ([], run, refl, none, later)
once_before table (QueueInterrupt core queue direction) run alone none later = ([], run, refl, none, later)
once_before table (ResumeInterrupt core task) run alone none later = ([], run, refl, none, later)
once_before table (Pass units) run alone none later = ([], run, refl, none, later)
once_before table (steps.Call core task call) run alone none later = absurd (cc alone)

interrupt_alone : (step : Step) → is_interrupt step ≡ true → stands_alone step ≡ true
interrupt_alone Tick is = refl
interrupt_alone (Switch core) is = absurd (cc is)
interrupt_alone (Interrupt core note) is = refl
interrupt_alone (QueueInterrupt core queue direction) is = refl
interrupt_alone (ResumeInterrupt core task) is = refl
interrupt_alone (Pass units) is = refl
interrupt_alone (steps.Call core task call) is = absurd (cc is)

-- ---- a call

-- where there is no quiet work a waiting call that can be made is the next piece
call_next : (table : Table) (waits : WaitingCall) → quiet_step table [] ≡ None → is_timely table (on_its_core table waits) ≡ true
    → quiet_step table (waits ∷ []) ≡ Some (on_its_core table waits)
unfolding quiet_step
call_next table waits none timely =
    let all = none_found table [] none in
    let third = cond (is_timely table (on_its_core table waits)) (Some (on_its_core table waits)) None in
    ap (λ a. option_or a (option_or (find (is_open table) (finishes table)) third)) all.0 ∙ ap (λ b. option_or b third) all.1
    ∙ ap (λ b. cond b (Some (on_its_core table waits)) None) timely

call_before : (table : Table) (waits : WaitingCall) (run : List Step) → is_finish waits.call ≡ false → quiet_step table [] ≡ None
    → is_timely table (on_its_core table waits) ≡ true → Settles (step_of (on_its_core table waits) table).1 run → Settles table (on_its_core table waits ∷ run)
call_before table waits run begins none timely later =
    let step = on_its_core table waits in
    let gone : waiting_after (waits ∷ []) step ≡ [] = ap (λ finish. cond finish (waits ∷ []) (without_first waits.task (waits ∷ []))) begins
    ∙ ap (λ own. cond own [] (waits ∷ [])) own in
    let only : IsSettledFrom table (waits ∷ []) (events_of run) (step ∷ run) [] =
    before (events_of run) table (waits ∷ []) step run [] (call_next table waits none timely)
    (subst (λ waiting. IsSettledFrom (step_of step table).1 waiting (events_of run) run []) (sym gone) later) in
    let whole : IsSettledFrom table [] (step ∷ events_of run) (step ∷ run) [] = ([], step ∷ run, refl, none, only) in
    subst (λ finish. IsSettledFrom table [] (cond (not finish) (step ∷ events_of run) (events_of run)) (step ∷ run) []) (sym begins) whole
  where
    own : eqb waits.task waits.task ≡ true
    own = grind (arith, nat_tests)

-- ---- the run

module _ (workload : Workload) (checked : IsCheckedWorkload workload) where
  module _ (now : Situation) (keeps : Keeps workload now) (run : List Step) where
    program_before : (step : Step) → FromProgram workload now step → Settles (step_of step now.table).1 run → Settles now.table (step ∷ run)
    program_before step from later =
        let first = first_call workload now step from.made in
        let own = on_core workload now first.number step first.is in
        let waits : WaitingCall = record { task = now.table.settings.cores + own.user; call = own.call } in
        let here : core_running now.table waits.task ≡ first.number = ap (core_running now.table) own.runs
        ∙ runs_core now.table first.number keeps.sound first.below in
        let same : step ≡ on_its_core now.table waits = own.is ∙ ap (λ core. steps.Call core waits.task waits.call) (sym here) in
        let timely = subst (λ step. is_timely now.table step ≡ true) same first.passes in
        let begins = call_begins workload checked now keeps first.number first.below step own in
        let rest = subst (λ step. Settles (step_of step now.table).1 run) same later in
        subst (λ step. Settles now.table (step ∷ run)) (sym same) (call_before now.table waits run begins from.quiet timely rest)

    step_before : (step : Step) → Origin workload now step → Settles (step_of step now.table).1 run → Settles now.table (step ∷ run)
    step_before step (inl made) later = quiet_before now.table step run made later
    step_before step (inr (inl it)) later = once_before now.table step run (ap stands_alone it.is) it.quiet later
    step_before step (inr (inr (inl it))) later = program_before step it later
    step_before step (inr (inr (inr (inl it)))) later =
        once_before now.table step run (interrupt_alone step (interrupt_kind workload checked now step it.made)) it.quiet later
    step_before step (inr (inr (inr (inr it)))) later = once_before now.table step run (which (time_made workload now step it.made).1) it.quiet later
      where
        which : TimeMade workload now step → stands_alone step ≡ true
        which (inl tick) = ap stands_alone tick.1
        which (inr pass) = ap stands_alone pass.1

  run_settles : (run : List Step) (now : Situation) → Keeps workload now → IsRunFrom workload now run → Settles now.table run
  unfolding after
  run_settles [] now keeps is = ((none_next workload now is).quiet, refl)
  run_settles (step ∷ run) now keeps is =
      let later = run_settles run (after workload step now) (keeps_after workload checked now keeps step is.0) is.1 in
      step_before now keeps run step (origin workload now step is.0) later

pub run_is_settled : EachRun RunIsSettled
unfolding first_situation
run_is_settled workload run checked is = run_settles workload checked run (first_situation workload) (first_keeps workload checked) is
