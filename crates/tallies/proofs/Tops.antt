-- The greatest priorities in use so far: where each but one is at least that of now, only that one is looked at.
use Rattle.std.proofs.Common.{◌≡◌, ℕ, ◌<◌, ◌≤◌, max, List, length, get_or, Option, Some, None, refl, sym, ap, subst, ◌∙◌, arith, inl, inr}
use Rattle.std.specs.Prelude.{slice_set}
use Rattle.std.proofs.lemmas.Bool.{cases_eq}
use Rattle.std.proofs.lemmas.List.{length-set, get_or-set_same, get_or-set_other, ext_get_or}
use Rattle.bench_types.specs.declared.kernel_data.Settings.{Settings}
use Rattle.bench_types.specs.declared.step.Step.{Step}
use Rattle.bench_model.specs.Control.{Control, task_at}
use Rattle.bench_model.specs.Lists.{View}
use Rattle.bench_model.specs.Tally.{TaskTally}
use Rattle.bench_model.specs.Tallied.{first_tallies, first_tally, tally_at}
use Rattle.smp_kernel.specs.Raised.{KeepsOthers}
use Rattle.session_laws.proofs.Tallies.{numbers_so, own_items, length_each, each_at}
use Rattle.tallies.specs.Counting.{found, found_tally, event_tally, with_event, top_tally, topped}
use Rattle.tallies.specs.Tops.{HasTops, HasOtherTops}
use Rattle.tallies.specs.declared.event.Event.{Event}
use Rattle.tallies.proofs.Additions.{nothing}
use Rattle.tallies.proofs.Parts.{length_found, length_event, found_at, event_at}

pub initial_tops : (settings : Settings) (control : Control) → HasTops control (first_tallies settings control)
initial_tops settings control task low =
    let first = first_tally settings control in
    let below : task < settings.tasks = omega (arith, low, length_each first settings.tasks) in
    omega (arith, ap (λ (t : TaskTally). t.counts.top) (each_at first settings.tasks task nothing below))

-- what a tick finds and an event leave them as they are
found_top : (before : View) (step : Step) (task : ℕ) (tally : TaskTally) → (found_tally before step task tally).counts.top ≡ tally.counts.top
unfolding found_tally
found_top before step task tally = refl

event_top : (event : Option Event) (task : ℕ) (tally : TaskTally) → (event_tally event task tally).counts.top ≡ tally.counts.top
unfolding event_tally
event_top event task tally = refl

pub found_tops : (control : Control) (before : View) (step : Step) (tallies : List TaskTally) → HasTops control tallies → HasTops control
    (found before step tallies)
found_tops control before step tallies tops task low =
    let below : task < length tallies = omega (arith, low, length_found before step tallies) in
    omega (
      arith,
      tops task below,
      ap (λ (t : TaskTally). t.counts.top) (found_at before step tallies task below),
      found_top before step task
          (tally_at tallies task),
    )

pub event_tops : (raised : Option ℕ) (control : Control) (event : Option Event) (tallies : List TaskTally) → HasOtherTops raised control tallies → HasOtherTops
    raised control (with_event event tallies)
event_tops raised control event tallies tops task low other =
    let below : task < length tallies = omega (arith, low, length_event event tallies) in
    omega (arith, tops task below other, ap (λ (t : TaskTally). t.counts.top) (event_at event tallies task below), event_top event task (tally_at tallies task))

-- after a step that raises one task at most
pub step_tops : (raised : Option ℕ) (before after : Control) (tallies : List TaskTally) → HasTops before tallies → KeepsOthers raised before after →
    HasOtherTops raised after tallies
step_tops raised before after tallies tops kept task low other = omega (arith, tops task low, kept task other)

-- looking at a task whose greatest is at least the one in use changes nothing
top_kept : (control : Control) (task : ℕ) (tally : TaskTally) → (task_at control task).in_use ≤ tally.counts.top → top_tally control task tally ≡ tally
unfolding top_tally
top_kept control task tally low =
    let same : max tally.counts.top (task_at control task).in_use ≡ tally.counts.top = omega (arith, low) in
    ap (λ top. record tally { counts = record tally.counts { top = top } }) same

topped_at : (control : Control) (tallies : List TaskTally) (task : ℕ) → task < length tallies → tally_at (topped control tallies) task ≡ top_tally control task
    (tally_at tallies task)
unfolding topped
topped_at control tallies task low = each_at (λ task. top_tally control task (tally_at tallies task)) (length tallies) task nothing low

length_topped : (control : Control) (tallies : List TaskTally) → length (topped control tallies) ≡ length tallies
unfolding topped
length_topped control tallies = length_each (λ task. top_tally control task (tally_at tallies task)) (length tallies)

pub topped_none : (control : Control) (tallies : List TaskTally) → HasOtherTops None control tallies → topped control tallies ≡ tallies
unfolding topped
topped_none control tallies tops =
    numbers_so (λ task. top_tally control task (tally_at tallies task)) (tally_at tallies) (length tallies) (length tallies) refl
    (λ task low. top_kept control task (tally_at tallies task) (tops task low (λ same. cc (same)))) ∙ own_items tallies nothing

pub topped_one : (control : Control) (raised : ℕ) (tallies : List TaskTally) (tally : TaskTally) → raised < length tallies → tally ≡ get_or tallies raised
    nothing
    → HasOtherTops (Some raised) control tallies → topped control tallies ≡ slice_set tallies raised (top_tally control raised tally)
topped_one control raised tallies tally low is tops =
    let one = top_tally control raised tally in
    ext_get_or nothing (topped control tallies) (slice_set tallies raised one) (length_topped control tallies ∙ sym (length-set tallies raised one))
    (λ k within. let below : k < length tallies = omega (arith, within, length_topped control tallies) in topped_at control tallies k below ∙
    elim (cases_eq k raised) [
      | inl here ↦ subst (λ j. top_tally control j (tally_at tallies j) ≡ get_or (slice_set tallies raised one) j nothing) (sym here)
          (ap (top_tally control raised) (sym is) ∙ sym (get_or-set_same tallies raised one nothing low))
      | inr away ↦ top_kept control k (tally_at tallies k) (tops k below (λ same. away (cc (same)))) ∙ sym (get_or-set_other tallies raised k one nothing away)
    ])

-- and afterwards each is at least that of now
pub topped_tops : (control : Control) (tallies : List TaskTally) → HasTops control (topped control tallies)
unfolding top_tally
topped_tops control tallies task low =
    let below : task < length tallies = omega (arith, low, length_topped control tallies) in
    omega (arith, ap (λ (t : TaskTally). t.counts.top) (topped_at control tallies task below))
