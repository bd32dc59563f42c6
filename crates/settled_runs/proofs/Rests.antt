-- The steps of settled runs are checked, and after the last the kernel is at rest.
use Rattle.std.proofs.Common.{◌≡◌, ℕ, ◌^◌, ◌<◌, ◌≤◌, Bool, true, false, cond, eqb, ltb, leb, ◌&&◌, List, [], ◌∷◌, ◌++◌, length, map, Option, Some, None, Result}
use Rattle.std.proofs.Common.{Ok, Err, refl, sym, ap, subst, ◌∙◌, inl, inr, append_assoc, arith}
use Rattle.std.specs.Prelude.{All, unwrap_or}
use Rattle.std.specs.List.{find, filter, AllByRecursion}
use Rattle.std.proofs.lemmas.Bool.{cases_eq}
use Rattle.std.proofs.lemmas.Bool.Decides.{nat_tests}
use Rattle.std.proofs.lemmas.List.Elements.{All-nil, All-cons, All-append, All-head, All-tail, All-from_recursion, recursion_from_All}
use Rattle.std.proofs.lemmas.List.Sums.{fold-append}
use Rattle.std.proofs.Math.Seq.{take-length}
use Rattle.bench_types.specs.declared.fault.Fault.{Fault}
use Rattle.bench_types.specs.declared.fault.Fault.TheVariants.{BadCore, BadTask}
use Rattle.bench_types.specs.declared.kernel_data.Settings.{Settings}
use Rattle.bench_types.specs.declared.step.Step.{Step}
use Rattle.bench_types.specs.declared.step.Step.TheVariants.{Tick, Switch, Interrupt, QueueInterrupt, ResumeInterrupt, Pass}
use Rattle.bench_types.specs.declared.step.Step.TheVariants as steps
use Rattle.bench_types.specs.declared.step.Call.{Call}
use Rattle.bench_types.specs.declared.step.Call.TheVariants.{Finish}
use Rattle.bench_types.specs.Session.{Session, IsSession}
use Rattle.bench_types.specs.Step.{settings_of, core_check, task_check, call_check, ◌>>◌, IsCheckedCall, IsCheckedStep}
use Rattle.bench_types.proofs.Passes.{both_pass, checked_header, checked_task}
use Rattle.list_orders.specs.Search.{numbers, has}
use Rattle.list_orders.proofs.Filters.{All-has, All-weaker, has-filter, find_unique}
use Rattle.list_orders.proofs.Stamped.{numbers_below, numbers_have}
use Rattle.bench_model.specs.Control.{current}
use Rattle.bench_model.specs.Session.{step_of, state_after, state_at}
use Rattle.bench_model.specs.Sound.{IsSound}
use Rattle.bench_model.specs.Start.{start}
use Rattle.bench_model.specs.Table.{Table}
use Rattle.step_laws.proofs.Along.{settings_after, settings_along, sound_along, start_settings}
use Rattle.step_laws.proofs.Starts.{start_sound}
use Rattle.step_laws.proofs.Steps.{after_sound}
use Rattle.settled_runs.specs.declared.waiting_call.WaitingCall.{WaitingCall}
use Rattle.settled_runs.specs.Settled.{is_event, is_finish, is_open, is_timely, switches, finishes, finish_on, runs_user_task, core_running, on_its_core}
use Rattle.settled_runs.specs.Settled.{quiet_step, waiting_after, still_waiting, waiting_with, made_at_once, events_of, IsQuietWork, IsSettledFrom, IsSettled}
use Rattle.settled_runs.specs.SettleLaws.{MayWait, IsAtRest}
use Rattle.settled_runs.proofs.Pieces.{IsPiece, piece_of, none_found, find_fails, find_among, each_unmap, both_each}
use Rattle.settled_runs.proofs.Settlings.{Events, after_all, still_all, with_all, event_begins, events_are, quiet_rests}
use Rattle.settled_runs.proofs.Timely.{closed_elsewhere, untimely_elsewhere}

-- a sound table, and calls that may wait there
pub record IsGood (table : Table) (waiting : List WaitingCall) : Type 0 where
  pub sound : IsSound table
  pub few : table.settings.cores < 2 ^ 32
  pub may : AllByRecursion (MayWait table.settings) waiting

pub begin_waits : (settings : Settings) (waits : WaitingCall) → MayWait settings waits → is_finish waits.call ≡ false
begin_waits settings waits may = may.begins

-- ---- checked steps

pass_core : (settings : Settings) (core : ℕ) → core < settings.cores → core_check settings core ≡ Ok tt
pass_core settings core below =
    let is : ltb core settings.cores ≡ true = grind (arith, nat_tests, below) in ap (λ b. cond {A = Result (Unit {0}) Fault} b (Ok tt) (Err BadCore)) is

pass_task : (settings : Settings) (task : ℕ) → settings.cores ≤ task → task < settings.tasks → task_check settings task ≡ Ok tt
pass_task settings task user below =
    let is : (leb settings.cores task && ltb task settings.tasks) ≡ true = grind (arith, nat_tests, user, below) in
    ap (λ b. cond {A = Result (Unit {0}) Fault} b (Ok tt) (Err BadTask)) is

pass_both : (one other : Result (Unit {0}) Fault) → one ≡ Ok tt → other ≡ Ok tt → (one >> other) ≡ Ok tt
pass_both one other first second = ap (λ one. one >> other) first ∙ second

checked_as : (settings : Settings) (core task : ℕ) (call : Call) → core < settings.cores → settings.cores ≤ task → task < settings.tasks
    → IsCheckedCall settings call → IsCheckedStep settings (steps.Call core task call)
checked_as settings core task call low user below checked = record {
  passes = pass_both (core_check settings core >> task_check settings task) (call_check settings call)
      (pass_both (core_check settings core) (task_check settings task) (pass_core settings core low) (pass_task settings task user below)) checked.passes;
  words = checked.words;
}

pub running_below : (table : Table) (task : ℕ) → IsSound table → core_running table task < table.settings.cores
running_below table task sound = at (find runs (numbers table.settings.cores)) refl
  where
    runs : ℕ → Bool
    runs core = eqb (current table.control core) task

    at : (o : Option ℕ) → find (λ core. eqb (current table.control core) task) (numbers table.settings.cores) ≡ o → unwrap_or o 0 < table.settings.cores
    at None none = sound.consistent.sized.some_core
    at (Some core) found =
        find_among (λ core. eqb (current table.control core) task) (λ core. core < table.settings.cores) (numbers table.settings.cores) core
        (numbers_below table.settings.cores) found

pub finish_checked : (table : Table) (core : ℕ) → IsSound table → core < table.settings.cores → table.settings.cores ≤ current table.control core
    → IsCheckedStep table.settings (finish_on table core)
finish_checked table core sound below user =
    let sized = sound.consistent.sized in
    let on = sound.consistent.in_place.is_task core (omega (arith, sized.cores, below)) in
    checked_as table.settings core (current table.control core) Finish below user (omega (arith, on, sized.rows)) (record { passes = refl; words = tt })

pub piece_checked : (table : Table) (waiting : List WaitingCall) (step : Step) → IsGood table waiting → quiet_step table waiting ≡ Some step
    → IsCheckedStep table.settings step
piece_checked table waiting step good made = at (piece_of (MayWait table.settings) (begin_waits table.settings) table waiting step good.may made)
  where
    at : IsPiece (MayWait table.settings) table waiting step → IsCheckedStep table.settings step
    at (inl it) =
        subst (IsCheckedStep table.settings) (sym it.is)
        (record { passes = pass_core table.settings it.core it.below; words = omega (arith, it.below, good.few) })
    at (inr (inl it)) = subst (IsCheckedStep table.settings) (sym it.is) (finish_checked table it.core good.sound it.below it.user)
    at (inr (inr it)) =
        subst (IsCheckedStep table.settings) (sym it.is)
        (checked_as table.settings (core_running table it.waits.task) it.waits.task it.waits.call (running_below table it.waits.task good.sound) it.may.task.0
        it.may.task.1 it.may.checked)

pub good_after : (table : Table) (waiting : List WaitingCall) (step : Step) → IsGood table waiting → IsCheckedStep table.settings step
    → IsGood (step_of step table).1 (waiting_after waiting step)
good_after table waiting step good checked =
    let same = settings_after table step good.sound in record {
      sound = after_sound step table good.sound checked;
      few = subst (λ settings. settings.cores < 2 ^ 32) (sym same) good.few;
      may = subst (λ settings. AllByRecursion (MayWait settings) (waiting_after waiting step)) (sym same)
          (after_all (MayWait table.settings) waiting step good.may);
    }

-- checked steps from a good table on, and where they lead
pub record GoodAlong (table : Table) (made : List Step) (waiting : List WaitingCall) : Type 0 where
  pub checked : All (IsCheckedStep table.settings) made
  pub last : IsGood (state_after table made) waiting

cons_checked : (table : Table) (step : Step) (made : List Step) → IsSound table → IsCheckedStep table.settings step
    → All (IsCheckedStep (step_of step table).1.settings) made → All (IsCheckedStep table.settings) (step ∷ made)
cons_checked table step made sound first rest =
    All-cons (IsCheckedStep table.settings) step made first (subst (λ settings. All (IsCheckedStep settings) made) (settings_after table step sound) rest)

pub quiet_good : (made : List Step) (table : Table) (waiting : List WaitingCall) → IsGood table waiting → IsQuietWork table waiting made
    → GoodAlong table made (still_waiting waiting made)
quiet_good [] table waiting good quiet = record { checked = All-nil (IsCheckedStep table.settings); last = good }
quiet_good (step ∷ made) table waiting good quiet =
    let first = piece_checked table waiting step good quiet.0 in
    let rest = quiet_good made (step_of step table).1 (waiting_after waiting step) (good_after table waiting step good first) quiet.1 in
    record { checked = cons_checked table step made good.sound first rest.checked; last = rest.last }

-- an event that is made or waits
pub event_waits : (settings : Settings) (event : Step) → is_event event ≡ true → IsCheckedStep settings event → (core task : ℕ) (call : Call)
    → event ≡ steps.Call core task call → MayWait settings (record { task = task; call = call })
event_waits settings event is checked core task call same =
    let here : IsCheckedStep settings (steps.Call core task call) = subst (IsCheckedStep settings) same checked in
    let last = both_pass (core_check settings core >> task_check settings task) (call_check settings call) here.passes in
    let first = both_pass (core_check settings core) (task_check settings task) last.0 in record {
      checked = record { passes = last.1; words = here.words };
      task = checked_task settings task first.1;
      begins = event_begins core task call (subst (λ event. is_event event ≡ true) same is);
    }

once_checked : (settings : Settings) (event : Step) → IsCheckedStep settings event → All (IsCheckedStep settings) (made_at_once event)
once_checked settings Tick checked = All-cons (IsCheckedStep settings) Tick [] checked (All-nil (IsCheckedStep settings))
once_checked settings (Switch core) checked = All-cons (IsCheckedStep settings) (Switch core) [] checked (All-nil (IsCheckedStep settings))
once_checked settings (Interrupt core note) checked = All-cons (IsCheckedStep settings) (Interrupt core note) [] checked (All-nil (IsCheckedStep settings))
once_checked settings (QueueInterrupt core queue direction) checked = All-cons (IsCheckedStep settings) (QueueInterrupt core queue direction) [] checked (All-nil (IsCheckedStep settings))
once_checked settings (ResumeInterrupt core task) checked = All-cons (IsCheckedStep settings) (ResumeInterrupt core task) [] checked (All-nil (IsCheckedStep settings))
once_checked settings (Pass units) checked = All-cons (IsCheckedStep settings) (Pass units) [] checked (All-nil (IsCheckedStep settings))
once_checked settings (steps.Call core task call) checked = All-nil (IsCheckedStep settings)

pub event_good : (table : Table) (waiting : List WaitingCall) (quiet : List Step) (event : Step) → IsGood table waiting → IsQuietWork table waiting quiet
    → is_event event ≡ true → IsCheckedStep table.settings event
    → GoodAlong table (quiet ++ made_at_once event) (waiting_with (still_waiting waiting quiet) event)
event_good table waiting quiet event good work is checked =
    let along = quiet_good quiet table waiting good work in
    let steps = All-append (IsCheckedStep table.settings) quiet (made_at_once event) along.checked (once_checked table.settings event checked) in
    let same = settings_along (quiet ++ made_at_once event) table good.sound steps in
    record {
      checked = steps;
      last = record {
        sound = sound_along (quiet ++ made_at_once event) table good.sound steps;
        few = subst (λ settings. settings.cores < 2 ^ 32) (sym same) good.few;
        may = subst (λ settings. AllByRecursion (MayWait settings) (waiting_with (still_waiting waiting quiet) event)) (sym same)
            (with_all (MayWait table.settings) (still_waiting waiting quiet) event (still_all (MayWait table.settings) quiet waiting good.may)
            (event_waits table.settings event is checked));
      };
    }

pub events_later : (table : Table) (waiting : List WaitingCall) (made : List Step) (events : List Step) → IsGood table waiting
    → All (IsCheckedStep table.settings) made → All (IsCheckedStep table.settings) events → All (IsCheckedStep (state_after table made).settings) events
events_later table waiting made events good checked all =
    subst (λ settings. All (IsCheckedStep settings) events) (sym (settings_along made table good.sound checked)) all

-- ---- whole runs

settled_good :
    (events : List Step) (table : Table) (waiting : List WaitingCall) (run : List Step) (left : List WaitingCall) → IsGood table waiting → Events events
    → All (IsCheckedStep table.settings) events → IsSettledFrom table waiting events run left → GoodAlong table run left
settled_good [] table waiting run left good are all settled = subst (GoodAlong table run) settled.1 (quiet_good run table waiting good settled.0)
settled_good (event ∷ events) table waiting run left good are all settled =
    let quiet = settled.0 in
    let once = made_at_once event in
    let first = event_good table waiting quiet event good settled.3 are.0 (All-head (IsCheckedStep table.settings) event events all) in
    let others = events_later table waiting (quiet ++ once) events good first.checked (All-tail (IsCheckedStep table.settings) event events all) in
    let later = settled_good events _ _ settled.1 left first.last are.1 others settled.4 in
    let rest = subst (λ settings. All (IsCheckedStep settings) settled.1) (settings_along (quiet ++ once) table good.sound first.checked) later.checked in
    let same : run ≡ (quiet ++ once) ++ settled.1 = settled.2 ∙ sym (append_assoc quiet once settled.1) in
    subst (λ run. GoodAlong table run left) (sym same) (record {
      checked = All-append (IsCheckedStep table.settings) (quiet ++ once) settled.1 first.checked rest;
      last = subst (λ table. IsGood table left) (sym (fold-append (λ (table : Table) (step : Step). (step_of step table).1) table (quiet ++ once) settled.1))
          later.last;
    })

settled_none :
    (events : List Step) (table : Table) (waiting : List WaitingCall) (run : List Step) (left : List WaitingCall) → IsSettledFrom table waiting events run left
    → quiet_step (state_after table run) left ≡ None
settled_none [] table waiting run left settled =
    subst (λ left. quiet_step (state_after table run) left ≡ None) settled.1 (quiet_rests run table waiting settled.0)
settled_none (event ∷ events) table waiting run left settled =
    let first = settled.0 ++ made_at_once event in
    let same : run ≡ first ++ settled.1 = settled.2 ∙ sym (append_assoc settled.0 (made_at_once event) settled.1) in
    let next = fold-append (λ (table : Table) (step : Step). (step_of step table).1) table first settled.1 in
    subst (λ run. quiet_step (state_after table run) left ≡ None) (sym same)
    (subst (λ table. quiet_step table left ≡ None) (sym next) (settled_none events (state_after table first) _ settled.1 left settled.4))

-- the steps of the session that are events are checked
events_checked : (P : Step → Type 0) (session : List Step) → AllByRecursion P session → AllByRecursion P (events_of session)
events_checked P [] all = tt
events_checked P (step ∷ session) all =
    elim (is_event step) as (λ b. AllByRecursion P (cond b (step ∷ events_of session) (events_of session)))
    [ true ↦ (all.0, events_checked P session all.1) | false ↦ events_checked P session all.1 ]

module _ (session : Session) (is : IsSession session) where
  pub start_good : IsGood (start session.header) []
  start_good = record {
    sound = start_sound session.header is.header.passes;
    few = let limits = checked_header session.header is.header.passes in
        subst (λ settings. settings.cores < 2 ^ 32) (sym (start_settings session.header)) (omega (arith, limits.few_cores));
    may = tt;
  }

  pub session_events : All (IsCheckedStep (start session.header).settings) (events_of session.steps)
  session_events =
      let P : Step → Type 0 = IsCheckedStep (settings_of session.header) in
      subst (λ settings. All (IsCheckedStep settings) (events_of session.steps)) (sym (start_settings session.header))
      (All-from_recursion P (events_of session.steps) (events_checked P session.steps (recursion_from_All P session.steps is.steps)))

  module _ (run : List Step) (left : List WaitingCall) (settled : IsSettled session.header session.steps run left) where
    run_good : GoodAlong (start session.header) run left
    run_good = settled_good (events_of session.steps) (start session.header) [] run left start_good (events_are session.steps) session_events settled

    pub settled_run_is_session : IsSession (record { header = session.header; steps = run })
    settled_run_is_session = record {
      header = is.header;
      steps = subst (λ settings. All (IsCheckedStep settings) run) (start_settings session.header) run_good.checked;
    }

-- the core that runs a core's current task is that core
pub runs_core : (table : Table) (core : ℕ) → IsSound table → core < table.settings.cores → core_running table (current table.control core) ≡ core
runs_core table core sound below =
    let place = sound.consistent.in_place in
    let same = sound.consistent.sized.cores in
    let cores = numbers table.settings.cores in
    let runs = λ (other : ℕ). eqb (current table.control other) (current table.control core) in
    let own = λ (other : ℕ) (low : other < table.settings.cores) (here : runs other ≡ true).
    place.on_one_core other core (omega (arith, same, low)) (omega (arith, same, below)) (grind (arith, nat_tests, here)) in
    let one = find_unique runs core cores (numbers_have table.settings.cores core below) (grind (arith, nat_tests))
    (All-weaker (λ other. other < table.settings.cores) (λ other. runs other ≡ true → other ≡ core) own cores (numbers_below table.settings.cores)) in
    ap (λ o. unwrap_or o 0) one

-- ---- at rest

module _ (table : Table) (left : List WaitingCall) (good : IsGood table left) (none : quiet_step table left ≡ None) where
  cores : List ℕ
  cores = numbers table.settings.cores

  no_switch : (core : ℕ) → core < table.settings.cores → is_open table (Switch core) ≡ false
  unfolding cores
  no_switch core below =
      All-has (λ core. is_open table (Switch core) ≡ false) core cores
      (each_unmap Switch (λ step. is_open table step ≡ false) cores (find_fails (is_open table) (switches table) (none_found table left none).0))
      (numbers_have table.settings.cores core below)

  no_finish_here : (core : ℕ) → core < table.settings.cores → table.settings.cores ≤ current table.control core → is_open table (finish_on table core) ≡ false
  unfolding cores
  no_finish_here core below user =
      let runs : runs_user_task table core ≡ true = grind (arith, nat_tests, user) in
      let among : has core (filter (runs_user_task table) cores) ≡ true = has-filter (runs_user_task table) core cores ∙ ap (λ b. b && has core cores) runs
      ∙ numbers_have table.settings.cores core below in
      All-has (λ core. is_open table (finish_on table core) ≡ false) core (filter (runs_user_task table) cores)
      (each_unmap (finish_on table) (λ step. is_open table step ≡ false) (filter (runs_user_task table) cores)
      (find_fails (is_open table) (finishes table) (none_found table left none).1)) among

  no_finish : (core task : ℕ) → core < table.settings.cores → table.settings.cores ≤ task → is_open table (steps.Call core task Finish) ≡ false
  no_finish core task below user = elim (cases_eq (current table.control core) task) [
    | inl same ↦
        subst (λ task. is_open table (steps.Call core task Finish) ≡ false) same
        (no_finish_here core below (subst (λ task. table.settings.cores ≤ task) (sym same) user))
    | inr other ↦ closed_elsewhere table core task Finish (grind (arith, nat_tests, other))
  ]

  no_call : (core : ℕ) → core < table.settings.cores → (waits : WaitingCall) → (is_timely table (on_its_core table waits) ≡ false)
      × MayWait table.settings waits → is_timely table (steps.Call core waits.task waits.call) ≡ false
  no_call core below waits both = elim (cases_eq (current table.control core) waits.task) [
    | inl same ↦
        let here : core_running table waits.task ≡ core = subst (λ task. core_running table task ≡ core) same (runs_core table core good.sound below) in
        subst (λ core. is_timely table (steps.Call core waits.task waits.call) ≡ false) here both.0
    | inr other ↦ untimely_elsewhere table core waits.task waits.call both.1.begins (grind (arith, nat_tests, other))
  ]

  pub at_rest : IsAtRest table left
  at_rest = record {
    switches = no_switch;
    finishes = no_finish;
    calls = λ core below.
        let early =
        each_unmap (on_its_core table) (λ step. is_timely table step ≡ false) left
        (find_fails (is_timely table) (map (on_its_core table) left) (none_found table left none).2) in
        All-from_recursion (λ waits. is_timely table (steps.Call core waits.task waits.call) ≡ false) left
        (All-weaker (λ waits. (is_timely table (on_its_core table waits) ≡ false) × MayWait table.settings waits)
        (λ waits. is_timely table (steps.Call core waits.task waits.call) ≡ false) (no_call core below) left
        (both_each (λ waits. is_timely table (on_its_core table waits) ≡ false) (MayWait table.settings) left early good.may));
  }

pub settled_run_is_at_rest :
    (session : Session) (run : List Step) (left : List WaitingCall) → IsSession session → IsSettled session.header session.steps run left
    → IsAtRest (state_at session.header run (length run)) left
unfolding state_at
settled_run_is_at_rest session run left is settled =
    let along = run_good session is run left settled in
    subst (λ made. IsAtRest (state_after (start session.header) made) left) (sym (take-length run))
    (at_rest (state_after (start session.header) run) left along.last (settled_none (events_of session.steps) (start session.header) [] run left settled))
