-- What is read of a run: replies, and the tasks that run at a place.
use Rattle.std.proofs.Common.{◌≡◌, ℕ, zero, suc, ◌+◌, ◌<◌, ◌≤◌, List, [], ◌∷◌, length, map, take, get_or, add-one, Some, None, Ok, refl, sym, ap, subst, ◌∙◌, arith}
use Rattle.std.specs.Prelude.{All, option_map, slice_get, slice_set, true, false, nat_le, if◌then◌else◌}
use Rattle.std.proofs.Math.ListN.{get_or-map}
use Rattle.std.proofs.lemmas.Bool.Decides.{nat_tests}
use Rattle.std.proofs.lemmas.List.{get_or_default, length-map}
use Rattle.std.proofs.lemmas.List.Elements.{All-take}
use Rattle.std.proofs.lemmas.Option.{slice_get-map}
use Rattle.bench_types.proofs.Passes.{both_pass, checked_core}
use Rattle.bench_types.specs.declared.header.Header.{Header}
use Rattle.bench_types.specs.declared.kernel_data.CoreLook.{CoreLook}
use Rattle.bench_types.specs.declared.kernel_data.Settings.{Settings}
use Rattle.bench_types.specs.declared.step.Step.{Step}
use Rattle.bench_types.specs.declared.step.Step.TheVariants.{Tick}
use Rattle.bench_types.specs.declared.step.Step.TheVariants as steps
use Rattle.bench_types.specs.Session.{Session, IsCheckedSession}
use Rattle.bench_types.specs.Step.{call_check, core_check, core_of, note_check, queue_check, resume_check, settings_of, step_check, task_check, ◌>>◌, IsCheckedStep}
use Rattle.bench_model.specs.Control.{current, running}
use Rattle.bench_model.specs.Session.{step_of, reply_at, running_at, state_after, state_at, run_results}
use Rattle.bench_model.specs.Sound.{IsSound}
use Rattle.bench_model.specs.Start.{start}
use Rattle.bench_model.specs.Table.{Table}
use Rattle.segment_laws.specs.Segments.{currents_after, reply_after}
use Rattle.step_laws.proofs.Along.{settings_along, sound_along, start_settings}
use Rattle.step_laws.proofs.Currents.{step_seats}
use Rattle.session_runs.specs.declared.outcomes.Outcome.{Outcome}
use Rattle.session_runs.specs.declared.outcomes.Outcomes.{Outcomes}
use Rattle.session_runs.specs.Made.{current_in, reply_in, row_at, AreOutcomesOf}
use Rattle.session_runs.proofs.Goes.{first_of, state_push}
use Rattle.std.proofs.lemmas.List.{take_more}

reply_shown : (steps : List Step) (table : Table) (index : ℕ) → slice_get (map first_of (run_results table steps)) index ≡ reply_after table steps index
reply_shown [] table index = refl
reply_shown (step ∷ steps) table zero = refl
reply_shown (step ∷ steps) table (suc index) = reply_shown steps (step_of step table).1 index

row_sized : (table : Table) → IsSound table → length (running table.control) ≡ table.settings.cores
row_sized table sound = length-map table.control.cores (λ (core : CoreLook). core.current) ∙ sound.consistent.sized.cores

currents_length : (steps : List Step) (table : Table) → length (currents_after table steps) ≡ length steps
currents_length [] table = refl
currents_length (step ∷ steps) table = ap suc (currents_length steps (step_of step table).1)

left_at : (steps : List Step) (table : Table) (i : ℕ) → i < length steps → get_or (currents_after table steps) i 0 ≡ current
    (state_after table (take (suc i) steps)).control (core_of (get_or steps i Tick))
left_at [] table i early = absurd (omega (arith, early))
left_at (step ∷ steps) table zero early = refl
left_at (step ∷ steps) table (suc i) early = left_at steps (step_of step table).1 i (omega (arith, early))

-- what a step left its core with
current_shown : (steps : List Step) (table : Table) (i : ℕ) → i < length steps → get_or (currents_after table steps) i 0 ≡ current
    (state_after table (take (i + 1) steps)).control (core_of (get_or steps i Tick))
current_shown steps table i early = left_at steps table i early ∙ ap (λ n. current (state_after table (take n steps)).control (core_of (get_or steps i Tick)))
    (sym (add-one i))

-- one of checked steps, under the settings of the table before it
checked_at : (steps : List Step) (table : Table) (i : ℕ) → IsSound table → All (IsCheckedStep table.settings) steps → i < length steps → IsCheckedStep
    (state_after table (take i steps)).settings (get_or steps i Tick)
checked_at steps table i sound all early =
    subst (λ settings. IsCheckedStep settings (get_or steps i Tick)) (sym
    (settings_along (take i steps) table sound (All-take (IsCheckedStep table.settings) i steps all))) (all i Tick early)

-- the row after a step is the row before it, with what the step left its core with
row_moves : (steps : List Step) (table : Table) (i : ℕ) → IsSound table → All (IsCheckedStep table.settings) steps → i < length steps
    → running (state_after table (take (i + 1) steps)).control ≡ slice_set (running (state_after table (take i steps)).control) (core_of (get_or steps i Tick))
    (get_or (currents_after table steps) i 0)
row_moves steps table i sound all early =
    let before = state_after table (take i steps) in
    let step = get_or steps i Tick in
    let later = ap (state_after table) (take_more steps i Tick early) ∙ state_push table (take i steps) step in
    let moved = step_seats before step (sound_along (take i steps) table sound (All-take (IsCheckedStep table.settings) i steps all))
    (checked_at steps table i sound all early) in
    ap (λ (t : Table). running t.control) later ∙ moved ∙ ap (slice_set (running before.control) (core_of step))
    (ap (λ (t : Table). current t.control (core_of step)) (sym later) ∙ sym (current_shown steps table i early))

-- the core of a checked step is one of the cores
pub own_core : (settings : Settings) (step : Step) → 0 < settings.cores → step_check settings step ≡ Ok tt → core_of step < settings.cores
own_core settings steps.Tick some passes = some
own_core settings (steps.Switch core) some passes = checked_core settings core passes
own_core settings (steps.Interrupt core note) some passes = checked_core settings core (both_pass (core_check settings core) (note_check settings note) passes).0
own_core settings (steps.QueueInterrupt core queue direction) some passes =
    checked_core settings core (both_pass (core_check settings core) (queue_check settings queue) passes).0
own_core settings (steps.ResumeInterrupt core task) some passes =
    checked_core settings core (both_pass (core_check settings core) (resume_check settings task) passes).0
own_core settings (steps.Pass units) some passes = some
own_core settings (steps.Call core task call) some passes =
    checked_core settings core (both_pass (core_check settings core) (task_check settings task)
    (both_pass (core_check settings core >> task_check settings task) (call_check settings call) passes).0).0

module _ (session : Session) (outcomes : Outcomes) (is : IsCheckedSession session) (known : AreOutcomesOf session.header session.steps outcomes) where
  all_checked : All (IsCheckedStep (start session.header).settings) session.steps
  all_checked = subst (λ settings. All (IsCheckedStep settings) session.steps) (sym (start_settings session.header)) is.checked.steps

  pub kept_reply : (place : ℕ) → option_map reply_in (slice_get outcomes.each.items place) ≡ reply_at session.header session.steps place
  unfolding reply_at state_at
  kept_reply place = sym (slice_get-map reply_in outcomes.each.items place) ∙ ap (λ rs. slice_get rs place) known.replayed.replies_are
      ∙ reply_shown session.steps (start session.header) place

  pub kept_length : length outcomes.each.items ≡ length session.steps
  kept_length = sym (length-map outcomes.each.items current_in) ∙ ap length known.replayed.currents_are ∙ currents_length session.steps (start session.header)

  pub first_kept : outcomes.first.items ≡ row_at session 0
  unfolding state_at
  first_kept = known.first

  pub row_length : (place : ℕ) → length (row_at session place) ≡ (settings_of session.header).cores
  unfolding state_at
  row_length place =
      let table = start session.header in
      let checked = All-take (IsCheckedStep table.settings) place session.steps all_checked in
      row_sized (state_after table (take place session.steps)) (sound_along (take place session.steps) table known.sound checked)
      ∙ ap (λ (s : Settings). s.cores) (settings_along (take place session.steps) table known.sound checked ∙ start_settings session.header)

  -- the core that makes a step is one of the cores
  pub step_core : (place : ℕ) → place < length session.steps → core_of (get_or session.steps place Tick) < (settings_of session.header).cores
  step_core place early =
      let sized = known.sound.consistent.sized in
      let some : 0 < (settings_of session.header).cores = omega (arith, sized.some_core, ap (λ (s : Settings). s.cores) (start_settings session.header)) in
      own_core (settings_of session.header) (get_or session.steps place Tick) some (is.checked.steps place Tick early).passes

  -- the row is taken over a step
  pub row_taken : (place : ℕ) (outcome : Outcome) (row : List ℕ) (core : ℕ) → place < length session.steps
      → outcome ≡ get_or outcomes.each.items place outcome → core ≡ core_of (get_or session.steps place Tick)
      → row ≡ row_at session place → slice_set row core outcome.current ≡ row_at session (place + 1)
  unfolding state_at
  row_taken place outcome row core early read at_core here =
      let table = start session.header in
      let within : place < length (currents_after table session.steps) = omega (arith, early, currents_length session.steps table) in
      let left : outcome.current ≡ get_or (currents_after table session.steps) place 0
      = ap current_in read ∙ sym (get_or-map current_in outcomes.each.items place outcome)
      ∙ ap (λ (ts : List ℕ). get_or ts place outcome.current) known.replayed.currents_are
      ∙ get_or_default (currents_after table session.steps) place outcome.current 0 within in
      ap (λ row. slice_set row core outcome.current) here
      ∙ ap (λ core. slice_set (row_at session place) core outcome.current) at_core
      ∙ ap (slice_set (row_at session place) (core_of (get_or session.steps place Tick))) left
      ∙ sym (row_moves session.steps table place known.sound all_checked early)

-- what runs at a place
pub row_there : (session : Session) (place : ℕ) → place ≤ length session.steps → running_at session.header session.steps place ≡ Some (row_at session place)
unfolding running_at
row_there session place early =
    let within : nat_le place (length session.steps) ≡ true = grind (arith, nat_tests, early) in
    ap (λ b. if b then Some (row_at session place) else None) within

pub none_there : (session : Session) (place : ℕ) → length session.steps < place → running_at session.header session.steps place ≡ None
unfolding running_at
none_there session place past =
    let beyond : nat_le place (length session.steps) ≡ false = grind (arith, nat_tests, past) in
    ap (λ b. if b then Some (row_at session place) else None) beyond
