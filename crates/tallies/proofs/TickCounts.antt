-- What a tick adds to tallies, in two parts: the core that a task was on, and the wait of one that was on none.
use Rattle.std.proofs.Common.{◌≡◌, ℕ, ◌-◌, ◌<◌, ◌^◌, Bool, true, false, List, length, get_or, All, refl, sym, ap, subst, ◌∙◌, arith}
use Rattle.std.specs.Int.{from_bool}
use Rattle.std.proofs.lemmas.List.Elements.{All-get_or}
use Rattle.bench_types.specs.declared.step.Step.TheVariants.{Tick}
use Rattle.bench_model.specs.Control.{Control}
use Rattle.bench_model.specs.Lists.{View}
use Rattle.smp_kernel.specs.Kernel.{wants_core}
use Rattle.bench_model.specs.Tally.{TaskTally}
use Rattle.bench_model.specs.Tallied.{one_if, tally_at, CountsBelow, AllCountsBelow}
use Rattle.session_laws.proofs.Tallies.{each_at, length_each, numbers_so}
use Rattle.tallies.specs.Counting.{found, found_tally, inverted, is_inverted, ran, runs_after, waited, with_inversion, with_wait, HasWaitRoom}
use Rattle.tallies.proofs.Additions.{nothing}

pub same_counts : {run run' : List ℕ} {w w' i i' s d t o : ℕ} → run ≡ run' → w ≡ w' → i ≡ i' →
    let a : TaskTally = record { run = run; counts = record { wait = w; inverted = i; switched = s; displaced = d; timeouts = t; top = o } } in
    let b : TaskTally = record { run = run'; counts = record { wait = w'; inverted = i'; switched = s; displaced = d; timeouts = t; top = o } } in
    a ≡ b
same_counts run w i = cc

abbrev ran_tally : Control → List TaskTally → ℕ → TaskTally
ran_tally control tallies task = record (tally_at tallies task) { run = runs_after control task (tally_at tallies task).run }

pub length_ran : (control : Control) (tallies : List TaskTally) → length (ran control tallies) ≡ length tallies
unfolding ran
length_ran control tallies = length_each (ran_tally control tallies) (length tallies)

ran_at : (control : Control) (tallies : List TaskTally) (task : ℕ) (d : TaskTally) → task < length tallies → get_or (ran control tallies) task d ≡ ran_tally
    control tallies task
unfolding ran
ran_at control tallies task d low = each_at (ran_tally control tallies) (length tallies) task d low

abbrev waited_tally : View → List TaskTally → ℕ → TaskTally
waited_tally before tallies task = with_wait (wants_core before task) (tally_at tallies task)

pub length_waited : (before : View) (tallies : List TaskTally) → length (waited before tallies) ≡ length tallies
unfolding waited
length_waited before tallies = length_each (waited_tally before tallies) (length tallies)

waited_at : (before : View) (tallies : List TaskTally) (task : ℕ) (d : TaskTally) → task < length tallies → get_or (waited before tallies) task d ≡ waited_tally
    before tallies task
unfolding waited
waited_at before tallies task d low = each_at (waited_tally before tallies) (length tallies) task d low

tick_parts : (before : View) (task : ℕ) (tally : TaskTally) → with_inversion (is_inverted before task)
    (with_wait (wants_core before task) (record tally { run = runs_after before.control task tally.run })) ≡ found_tally before Tick task tally
unfolding found_tally
tick_parts before task tally = refl

pub counted_tick : (before : View) (tallies : List TaskTally) → inverted before (waited before (ran before.control tallies)) ≡ found before Tick tallies
unfolding inverted found
counted_tick before tallies =
    let first = ran before.control tallies in
    let mid = waited before first in
    let long = length_waited before first ∙ length_ran before.control tallies in
    numbers_so (λ task. with_inversion (is_inverted before task) (tally_at mid task)) (λ task. found_tally before Tick task (tally_at tallies task))
    (length mid) (length tallies) long
    (λ task low.
    let under : task < length tallies = omega (arith, low, long) in
    ap (with_inversion (is_inverted before task)) (waited_at before first task nothing (omega (arith, under, length_ran before.control tallies)) ∙ ap
    (with_wait (wants_core before task)) (ran_at before.control tallies task nothing under))
    ∙ tick_parts before task (tally_at tallies task))

-- There is room for a wait after the cores are counted.
pub room_after_runs : (control : Control) (tallies : List TaskTally) → AllCountsBelow (2 ^ 32 - 1) tallies → All HasWaitRoom (ran control tallies)
room_after_runs control tallies room task d low =
    let below : task < length tallies = omega (arith, low, length_ran control tallies) in
    let old = All-get_or (CountsBelow (2 ^ 32 - 1)) tallies task nothing below room in
    subst HasWaitRoom (sym (ran_at control tallies task d below)) (record { wait = old.wait; inverted = old.inverted })

-- and for an inversion after the waits
pub room_after_waits : (before : View) (tallies : List TaskTally) → All HasWaitRoom tallies → (task : ℕ) → task < length tallies →
    (tally_at (waited before tallies) task).counts.inverted < 2 ^ 32 - 1
room_after_waits before tallies room task low =
    let old = All-get_or HasWaitRoom tallies task nothing low room in
    subst (λ (t : TaskTally). t.counts.inverted < 2 ^ 32 - 1) (sym (waited_at before tallies task nothing low)) old.inverted

-- a truth value as a number
pub number_of : (b : Bool) → from_bool b ≡ one_if b
number_of true = refl
number_of false = refl
