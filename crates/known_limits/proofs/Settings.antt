-- How many tasks there are.
use Rattle.std.proofs.Common.{◌≡◌, ℕ, ◌+◌, ◌≤◌, List, length, All, ap, subst, arith}
use Rattle.std.proofs.lemmas.List.Elements.{All-weaker}
use Rattle.bench_types.specs.declared.kernel_data.Settings.{Settings}
use Rattle.bench_types.specs.declared.step.Step.{Step}
use Rattle.bench_types.specs.Limits.{max_cores, max_tasks}
use Rattle.bench_types.specs.Session.{IsCheckedSession, Session}
use Rattle.bench_types.specs.Step.{call_check, core_check, settings_of, task_check, ◌>>◌, IsCheckedStep}
use Rattle.bench_types.proofs.Passes.{both_pass, checked_task, header_facts, passes_whole}
use Rattle.kept_edits.specs.declared.edit.KeptEdit.{KeptEdit}
use Rattle.kept_edits.specs.Edits.{plain_edits}
use Rattle.kept_runs.specs.Items.{Item, edited_session}
use Rattle.kept_works.specs.Items.{AreItems, IsItem}
use Rattle.kept_works.proofs.Edited.{settings_kept}
use Rattle.known_limits.specs.Before.{HasAnchor, IsCallBelow}
use Rattle.known_limits.specs.Calls.{BeginsBelow}
use Rattle.known_limits.proofs.Begun.{begun_call}

pub few_settings : (session : Session) → IsCheckedSession session → (session.header.config.cores ≤ max_cores) × (length session.header.tasks ≤ max_tasks)
few_settings session is =
    let facts = header_facts session.header (passes_whole session.header is.checked.header.passes) in
    (facts.few_cores, facts.few_tasks)

-- a call that was checked is one of so many tasks
checked_call : (settings : Settings) (tasks : ℕ) (step : Step) → settings.tasks ≡ tasks → IsCheckedStep settings step → BeginsBelow tasks step
checked_call settings tasks step many checked task begins =
    let it = begun_call task step begins in
    let passes = subst (IsCheckedStep settings) it.is checked in
    let parts = both_pass (core_check settings it.core >> task_check settings task) (call_check settings it.call) passes.passes in
    let low = (checked_task settings task (both_pass (core_check settings it.core) (task_check settings task) parts.0).1).1 in
    omega (arith, low, many)

pub checked_calls : (session : Session) (tasks : ℕ) → IsCheckedSession session → (settings_of session.header).tasks ≡ tasks → All (BeginsBelow tasks) session.steps
checked_calls session tasks checked many =
    All-weaker (IsCheckedStep (settings_of session.header)) (BeginsBelow tasks) (λ step is. checked_call (settings_of session.header) tasks step many is) session.steps
    checked.checked.steps

pub item_calls : (settings : Settings) (tasks count edits : ℕ) (items : List Item) → AreItems settings count edits items → settings.tasks ≡ tasks
    → All (IsCallBelow tasks) items
item_calls settings tasks count edits items are many =
    All-weaker (IsItem settings count edits) (IsCallBelow tasks) (λ item is. checked_call settings tasks item.step many is.checked) items are.each

-- each item has a place
pub items_have_places : (settings : Settings) (count edits : ℕ) (items : List Item) (places : List ℕ) → AreItems settings count edits items
    → length places ≡ count + 1 → All (HasAnchor places) items
items_have_places settings count edits items places are many =
    All-weaker (IsItem settings count edits) (HasAnchor places) (λ item is. let low = is.anchor in omega (arith, low, many)) items are.each

-- edits keep the tasks
pub tasks_kept : (session : Session) (edits : List KeptEdit) → (settings_of (edited_session session edits).header).tasks ≡ (settings_of session.header).tasks
tasks_kept session edits = ap (λ (settings : Settings). settings.tasks) (settings_kept session (plain_edits edits))
