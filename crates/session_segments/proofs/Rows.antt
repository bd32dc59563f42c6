-- What is read of the replies and current tasks of steps.
use Rattle.std.proofs.Common.{◌≡◌, ◌≢◌, ℕ, zero, suc, ◌+◌, ◌<◌, ◌≤◌, List, [], ◌∷◌, length, map, take, get_or, add-one, Some, None, refl, sym, ap, subst, ◌∙◌}
use Rattle.std.proofs.Common.{arith}
use Rattle.std.specs.Prelude.{All, slice_get, slice_set, true, false, nat_le, if◌then◌else◌}
use Rattle.std.proofs.Math.ListN.{get_or-map}
use Rattle.std.proofs.lemmas.Bool.Decides.{nat_tests}
use Rattle.std.proofs.lemmas.List.{length-map, get_or-set_other}
use Rattle.std.proofs.lemmas.List.Elements.{All-take}
use Rattle.bench_types.proofs.Passes.{both_pass, checked_core}
use Rattle.bench_types.specs.declared.kernel_data.CoreLook.{CoreLook}
use Rattle.bench_types.specs.declared.kernel_data.Settings.{Settings}
use Rattle.bench_types.specs.declared.step.Step.{Step}
use Rattle.bench_types.specs.declared.step.Step.TheVariants.{Tick}
use Rattle.bench_types.specs.declared.step.Step.TheVariants as steps
use Rattle.bench_types.specs.Step.{call_check, core_check, core_of, note_check, queue_check, resume_check, task_check, ◌>>◌, IsCheckedStep}
use Rattle.bench_model.specs.Control.{Control, current, running}
use Rattle.bench_model.specs.Session.{step_of, state_after, run_results}
use Rattle.bench_model.specs.Sound.{IsSound}
use Rattle.bench_model.specs.Table.{Table}
use Rattle.segment_laws.specs.Segments.{currents_after, reply_after, running_after}
use Rattle.session_segments.proofs.Replays.{reply_in, state_after_more}
use Rattle.step_laws.proofs.Along.{settings_along, sound_along}
use Rattle.step_laws.proofs.Currents.{step_seats}

pub reply_shown : (steps : List Step) (table : Table) (index : ℕ) → slice_get (map reply_in (run_results table steps)) index ≡ reply_after table steps index
reply_shown [] table index = refl
reply_shown (step ∷ steps) table zero = refl
reply_shown (step ∷ steps) table (suc index) = reply_shown steps (step_of step table).1 index

-- the current task of a core, read of the row
pub in_row : (control : Control) (core : ℕ) → get_or (running control) core 0 ≡ current control core
in_row control core = get_or-map (λ (look : CoreLook). look.current) control.cores core (record { current = 0; pend = false; asked = false })

pub row_sized : (table : Table) → IsSound table → length (running table.control) ≡ table.settings.cores
row_sized table sound = length-map table.control.cores (λ (core : CoreLook). core.current) ∙ sound.consistent.sized.cores

pub currents_length : (steps : List Step) (table : Table) → length (currents_after table steps) ≡ length steps
currents_length [] table = refl
currents_length (step ∷ steps) table = ap suc (currents_length steps (step_of step table).1)

left_at : (steps : List Step) (table : Table) (i : ℕ) → i < length steps → get_or (currents_after table steps) i 0 ≡ current
    (state_after table (take (suc i) steps)).control (core_of (get_or steps i Tick))
left_at [] table i early = absurd (omega (arith, early))
left_at (step ∷ steps) table zero early = refl
left_at (step ∷ steps) table (suc i) early = left_at steps (step_of step table).1 i (omega (arith, early))

-- what a step left its core with
pub current_shown : (steps : List Step) (table : Table) (i : ℕ) → i < length steps → get_or (currents_after table steps) i 0 ≡ current
    (state_after table (take (i + 1) steps)).control (core_of (get_or steps i Tick))
current_shown steps table i early = left_at steps table i early ∙ ap (λ n. current (state_after table (take n steps)).control (core_of (get_or steps i Tick)))
    (sym (add-one i))

-- one step of checked steps, and the table before it
pub checked_at : (steps : List Step) (table : Table) (i : ℕ) → IsSound table → All (IsCheckedStep table.settings) steps → i < length steps → IsCheckedStep
    (state_after table (take i steps)).settings (get_or steps i Tick)
checked_at steps table i sound all early =
    subst (λ settings. IsCheckedStep settings (get_or steps i Tick)) (sym
    (settings_along (take i steps) table sound (All-take (IsCheckedStep table.settings) i steps all))) (all i Tick early)

-- the row after a step is the row before it, with what the step left its core with
pub row_moves : (steps : List Step) (table : Table) (i : ℕ) → IsSound table → All (IsCheckedStep table.settings) steps → i < length steps
    → running (state_after table (take (i + 1) steps)).control ≡ slice_set (running (state_after table (take i steps)).control) (core_of (get_or steps i Tick))
    (get_or (currents_after table steps) i 0)
row_moves steps table i sound all early =
    let before = state_after table (take i steps) in
    let step = get_or steps i Tick in
    let later = state_after_more table steps i early in
    let moved = step_seats before step (sound_along (take i steps) table sound (All-take (IsCheckedStep table.settings) i steps all))
    (checked_at steps table i sound all early) in
    ap (λ (t : Table). running t.control) later ∙ moved ∙ ap (slice_set (running before.control) (core_of step))
    (ap (λ (t : Table). current t.control (core_of step)) (sym later) ∙ sym (current_shown steps table i early))

-- a step leaves every other core its task
pub current_stays : (steps : List Step) (table : Table) (i core : ℕ) → IsSound table → All (IsCheckedStep table.settings) steps → i < length steps → core ≢
    core_of (get_or steps i Tick)
    → current (state_after table (take (i + 1) steps)).control core ≡ current (state_after table (take i steps)).control core
current_stays steps table i core sound all early away =
    let before = state_after table (take i steps) in
    let row = running before.control in
    sym (in_row (state_after table (take (i + 1) steps)).control core) ∙ ap (λ tasks. get_or tasks core 0) (row_moves steps table i sound all early)
    ∙ get_or-set_other row (core_of (get_or steps i Tick)) core (get_or (currents_after table steps) i 0) 0 away ∙ in_row before.control core

-- the core of a checked step is one of the cores
pub own_core : (settings : Settings) (step : Step) → 0 < settings.cores → IsCheckedStep settings step → core_of step < settings.cores
own_core settings steps.Tick some checked = some
own_core settings (steps.Switch core) some checked = checked_core settings core checked.passes
own_core settings (steps.Interrupt core note) some checked = checked_core settings core
    (both_pass (core_check settings core) (note_check settings note) checked.passes).0
own_core settings (steps.QueueInterrupt core queue direction) some checked = checked_core settings core
    (both_pass (core_check settings core) (queue_check settings queue) checked.passes).0
own_core settings (steps.ResumeInterrupt core task) some checked = checked_core settings core
    (both_pass (core_check settings core) (resume_check settings task) checked.passes).0
own_core settings (steps.Pass units) some checked = some
own_core settings (steps.Call core task call) some checked =
    checked_core settings core (both_pass (core_check settings core) (task_check settings task)
    (both_pass (core_check settings core >> task_check settings task) (call_check settings call) checked.passes).0).0

-- the tasks that run after some steps
pub row_within : (table : Table) (steps : List Step) (count : ℕ) → count ≤ length steps → running_after table steps count ≡ Some
    (running (state_after table (take count steps)).control)
row_within table steps count early =
    let within : nat_le count (length steps) ≡ true = grind (arith, nat_tests, early) in
    ap (λ b. if b then Some (running (state_after table (take count steps)).control) else None) within

pub row_past : (table : Table) (steps : List Step) (count : ℕ) → length steps < count → running_after table steps count ≡ None
row_past table steps count past =
    let beyond : nat_le count (length steps) ≡ false = grind (arith, nat_tests, past) in
    ap (λ b. if b then Some (running (state_after table (take count steps)).control) else None) beyond

pub first_shown : (table : Table) (steps : List Step) → running_after table steps 0 ≡ Some (running table.control)
first_shown table steps =
    let within : nat_le 0 (length steps) ≡ true = grind (arith, nat_tests) in
    ap (λ b. if b then Some (running table.control) else None) within
