-- The rows of steps, and which steps are alike.
use Rattle.std.proofs.Common.{◌≡◌, ℕ, ◌<◌, ◌≤◌, Bool, true, false, cond, not, eqb, ◌&&◌, List, Option, Some, None, All, is_some, refl, ap, ◌∙◌, arith}
use Rattle.std.specs.Prelude.{option_map}
use Rattle.std.specs.Option.{option_map_or}
use Rattle.std.proofs.lemmas.Bool.Decides.{nat_tests}
use Rattle.std.proofs.lemmas.List.Elements.{All-weaker}
use Rattle.bench_types.specs.declared.kernel_data.Settings.{Settings}
use Rattle.bench_types.specs.declared.step.Call.{Call}
use Rattle.bench_types.specs.declared.step.Step.{Step}
use Rattle.bench_types.specs.declared.step.Step.TheVariants.{Tick, Switch, Interrupt, QueueInterrupt, ResumeInterrupt, Pass}
use Rattle.bench_types.specs.declared.step.Step.TheVariants as steps
use Rattle.bench_types.specs.Session.{IsCheckedSession, Session}
use Rattle.bench_types.specs.Step.{core_check, task_check, call_check, settings_of, ◌>>◌, IsCheckedStep}
use Rattle.bench_types.proofs.Passes.{both_pass, checked_task}
use Rattle.settled_runs.specs.declared.waiting_call.WaitingCall.{WaitingCall}
use Rattle.settled_runs.specs.Settled.{is_event, is_finish}
use Rattle.settled_runs.specs.SettleLaws.{comes_from_outside}
use Rattle.kept_runs.specs.Items.{is_alike, Item}
use Rattle.kept_works.specs.Items.{AreItems, IsItem}
use Rattle.kept_works.specs.Places.{is_in_row, row_of, HasRow}

-- ---- calls of tasks that there are

-- the call's task is that of the waiting call
call_waits : (task : ℕ) (call : Call) (b : Bool) (waits : WaitingCall) → cond b None (Some (record { task = task; call = call })) ≡ Some waits → task ≡ waits.task
call_waits task call true waits is = absurd (cc is)
call_waits task call false waits is = cc is

-- a call that was checked is one of the tasks of the settings
pub checked_row : (settings : Settings) (step : Step) → IsCheckedStep settings step → HasRow settings.tasks step
checked_row settings Tick checked waits is = absurd (cc is)
checked_row settings (Switch core) checked waits is = absurd (cc is)
checked_row settings (steps.Call core task call) checked waits is =
    let low = (checked_task settings task (both_pass (core_check settings core) (task_check settings task)
    (both_pass (core_check settings core >> task_check settings task) (call_check settings call) checked.passes).0).1).1 in
    let own = call_waits task call (is_finish call) waits is in
    omega (arith, low, own)
checked_row settings (Interrupt core note) checked waits is = absurd (cc is)
checked_row settings (QueueInterrupt core queue direction) checked waits is = absurd (cc is)
checked_row settings (ResumeInterrupt core task) checked waits is = absurd (cc is)
checked_row settings (Pass units) checked waits is = absurd (cc is)

pub checked_rows : (settings : Settings) (tasks : ℕ) (steps : List Step) → All (IsCheckedStep settings) steps → settings.tasks ≡ tasks → All (HasRow tasks) steps
checked_rows settings tasks steps checked many =
    All-weaker (IsCheckedStep settings) (HasRow tasks)
    (λ step is waits call. let low = checked_row settings step is waits call in omega (arith, low, many)) steps checked

pub session_rows : (session : Session) (tasks : ℕ) → IsCheckedSession session → (settings_of session.header).tasks ≡ tasks → All (HasRow tasks) session.steps
session_rows session tasks checked many = checked_rows (settings_of session.header) tasks session.steps checked.checked.steps many

pub item_rows : (settings : Settings) (tasks count edits : ℕ) (items : List Item) → AreItems settings count edits items → settings.tasks ≡ tasks
    → All (λ (item : Item). HasRow tasks item.step) items
item_rows settings tasks count edits items are many =
    All-weaker (IsItem settings count edits) (λ (item : Item). HasRow tasks item.step)
    (λ item is waits call. let low = checked_row settings item.step is.checked waits call in omega (arith, low, many)) items are.each

-- ---- the row of a step

-- that of a call is before it
call_low : (tasks task : ℕ) (call : Call) (b : Bool) (row : ℕ)
    → ((waits : WaitingCall) → cond b None (Some (record { task = task; call = call })) ≡ Some waits → waits.task < tasks)
    → option_map (λ (waits : WaitingCall). waits.task) (cond b None (Some (record { task = task; call = call }))) ≡ Some row → row ≤ tasks
call_low tasks task call true row low is = absurd (cc is)
call_low tasks task call false row low is =
    let own : task ≡ row = cc is in
    let below : task < tasks = low (record { task = task; call = call }) refl in
    omega (arith, own, below)

-- the row of steps from outside is the last one
outside_low : (tasks row : ℕ) → ◌≡◌ {A = Option ℕ} (Some tasks) (Some row) → row ≤ tasks
outside_low tasks row is = let own : tasks ≡ row = cc is in omega (arith, own)

-- a step's row is one of the tasks', or the one behind them
pub row_low : (tasks : ℕ) (step : Step) (row : ℕ) → HasRow tasks step → row_of tasks step ≡ Some row → row ≤ tasks
row_low tasks Tick row low is = outside_low tasks row is
row_low tasks (Switch core) row low is = absurd (cc is)
row_low tasks (steps.Call core task call) row low is = call_low tasks task call (is_finish call) row low is
row_low tasks (Interrupt core note) row low is = outside_low tasks row is
row_low tasks (QueueInterrupt core queue direction) row low is = outside_low tasks row is
row_low tasks (ResumeInterrupt core task) row low is = outside_low tasks row is
row_low tasks (Pass units) row low is = outside_low tasks row is

-- a call has a row if it is no `finish`
call_event : (task : ℕ) (call : Call) (b : Bool)
    → is_some (option_map (λ (waits : WaitingCall). waits.task) (cond b None (Some (record { task = task; call = call })))) ≡ not b
call_event task call true = refl
call_event task call false = refl

-- the steps that have a row are the events
pub row_is_event : (tasks : ℕ) (step : Step) → is_some (row_of tasks step) ≡ is_event step
row_is_event tasks Tick = refl
row_is_event tasks (Switch core) = refl
row_is_event tasks (steps.Call core task call) = call_event task call (is_finish call)
row_is_event tasks (Interrupt core note) = refl
row_is_event tasks (QueueInterrupt core queue direction) = refl
row_is_event tasks (ResumeInterrupt core task) = refl
row_is_event tasks (Pass units) = refl

-- ---- steps of one row

-- a step that is like a call is in its row
in_call_row : (tasks at_core task : ℕ) (made : Call) (step : Step) → task < tasks → is_finish made ≡ false
    → is_alike (steps.Call at_core task made) step ≡ is_in_row tasks task step
in_call_row tasks at_core task made Tick low begins = grind (arith, nat_tests)
in_call_row tasks at_core task made (Switch core) low begins = refl
in_call_row tasks at_core task made (steps.Call core other call) low begins = at (is_finish call)
  where
    at : (b : Bool)
        → (eqb task other && not (is_finish made) && not b)
        ≡ option_map_or (λ own. eqb own task) (option_map (λ (waits : WaitingCall). waits.task) (cond b None (Some (record { task = other; call = call })))) false
    at true = grind (arith, nat_tests)
    at false = grind (arith, nat_tests)
in_call_row tasks at_core task made (Interrupt core note) low begins = grind (arith, nat_tests)
in_call_row tasks at_core task made (QueueInterrupt core queue direction) low begins = grind (arith, nat_tests)
in_call_row tasks at_core task made (ResumeInterrupt core other) low begins = grind (arith, nat_tests)
in_call_row tasks at_core task made (Pass units) low begins = grind (arith, nat_tests)

-- a step comes from outside where it is in the row behind those of the tasks
in_outside_row : (tasks : ℕ) (step : Step) → HasRow tasks step → comes_from_outside step ≡ is_in_row tasks tasks step
in_outside_row tasks Tick has = grind (arith, nat_tests)
in_outside_row tasks (Switch core) has = refl
in_outside_row tasks (steps.Call core task call) has = at (is_finish call) has
  where
    at : (b : Bool) → ((waits : WaitingCall) → cond b None (Some (record { task = task; call = call })) ≡ Some waits → waits.task < tasks)
        → false ≡ option_map_or (λ own. eqb own tasks) (option_map (λ (waits : WaitingCall). waits.task) (cond b None (Some (record { task = task; call = call })))) false
    at true low = refl
    at false low =
        let below : task < tasks = low (record { task = task; call = call }) refl in
        grind (arith, nat_tests, below)
in_outside_row tasks (Interrupt core note) has = grind (arith, nat_tests)
in_outside_row tasks (QueueInterrupt core queue direction) has = grind (arith, nat_tests)
in_outside_row tasks (ResumeInterrupt core task) has = grind (arith, nat_tests)
in_outside_row tasks (Pass units) has = grind (arith, nat_tests)

-- a call that has a row is no `finish`, and the row is its task's
begun : (tasks task : ℕ) (call : Call) (b : Bool) (row : ℕ)
    → ((waits : WaitingCall) → cond b None (Some (record { task = task; call = call })) ≡ Some waits → waits.task < tasks)
    → option_map (λ (waits : WaitingCall). waits.task) (cond b None (Some (record { task = task; call = call }))) ≡ Some row
    → (b ≡ false) × (task ≡ row) × (task < tasks)
begun tasks task call true row low is = absurd (cc is)
begun tasks task call false row low is = (refl, cc is, low (record { task = task; call = call }) refl)

outside_alike : (tasks row : ℕ) (step : Step) → HasRow tasks step → ◌≡◌ {A = Option ℕ} (Some tasks) (Some row)
    → comes_from_outside step ≡ is_in_row tasks row step
outside_alike tasks row step has is =
    let own : tasks ≡ row = cc is in
    in_outside_row tasks step has ∙ ap (λ (row : ℕ). is_in_row tasks row step) own

-- the steps that are like an event are those of its row
pub alike_in_row : (tasks : ℕ) (event : Step) (row : ℕ) (step : Step) → HasRow tasks event → row_of tasks event ≡ Some row → HasRow tasks step
    → is_alike event step ≡ is_in_row tasks row step
alike_in_row tasks Tick row step own is has = outside_alike tasks row step has is
alike_in_row tasks (Switch core) row step own is has = absurd (cc is)
alike_in_row tasks (steps.Call core task call) row step own is has =
    let begins = begun tasks task call (is_finish call) row own is in
    in_call_row tasks core task call step begins.2 begins.0 ∙ ap (λ (row : ℕ). is_in_row tasks row step) begins.1
alike_in_row tasks (Interrupt core note) row step own is has = outside_alike tasks row step has is
alike_in_row tasks (QueueInterrupt core queue direction) row step own is has = outside_alike tasks row step has is
alike_in_row tasks (ResumeInterrupt core task) row step own is has = outside_alike tasks row step has is
alike_in_row tasks (Pass units) row step own is has = outside_alike tasks row step has is
