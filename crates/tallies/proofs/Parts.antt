-- A step that is counted part by part is counted whole.
use Rattle.std.proofs.Common.{◌≡◌, ℕ, ◌+◌, ◌-◌, ◌<◌, ◌≤◌, ◌^◌, Bool, true, false, not, ◌&&◌, ◌==◌, nat_lt, if◌then◌else◌, List, [], length, map, get_or, Option}
use Rattle.std.proofs.Common.{Some, None, All, refl, sym, ap, subst, ◌∙◌, arith, inl, inr}
use Rattle.std.specs.Prelude.{slice_set}
use Rattle.std.proofs.Math.Bool.{and-true, and-false, and_assoc}
use Rattle.std.proofs.lemmas.Bool.{cases_eq}
use Rattle.std.proofs.lemmas.Bool.Decides.{nat_tests}
use Rattle.std.proofs.lemmas.List.{length-set, get_or-set_same, get_or-set_other, get_or_past, ext_get_or}
use Rattle.std.proofs.lemmas.List.Elements.{All-get_or}
use Rattle.std.proofs.lemmas.List.FromFn.{length-map-range_with_len}
use Rattle.bench_types.specs.declared.kernel_data.CoreLook.{CoreLook}
use Rattle.bench_types.specs.declared.reply.Reply.{Reply}
use Rattle.bench_types.specs.declared.reply.Reply.TheVariants as reply
use Rattle.bench_types.specs.declared.step.Call.{Call as KernelCall}
use Rattle.bench_types.specs.declared.step.Call.TheVariants as call
use Rattle.bench_types.specs.declared.step.Step.{Step}
use Rattle.bench_types.specs.declared.step.Step.TheVariants as step
use Rattle.list_orders.specs.Search.{numbers}
use Rattle.bench_model.specs.Control.{Control, current}
use Rattle.bench_model.specs.Lists.{View, Lists, list_queues}
use Rattle.bench_model.specs.Tally.{TaskTally, Moment, is_tick, is_finish_of, is_displacement, outranks_some, says_run_out, is_switched_in, is_displaced}
use Rattle.bench_model.specs.Tally.{is_timeout}
use Rattle.bench_model.specs.Tallied.{no_counts, one_if, tally_at, tally_after, tallied, CountsBelow, AllCountsBelow}
use Rattle.smp_kernel.specs.Kernel.{StandsForSome}
use Rattle.session_laws.proofs.Tallies.{numbers_so, length_each, each_at, own_items}
use Rattle.smp_kernel.specs.Kernel.{wants_core}
use Rattle.tallies.specs.Counting.{found, found_tally, left_by, event_of, event_of_switch, event_of_call, is_finish, task_of, is_switch_in}
use Rattle.tallies.specs.Counting.{is_displaced_call, is_run_out, event_tally, with_event, top_tally, topped, HasEventRoom}
use Rattle.tallies.proofs.TickCounts.{same_counts}
use Rattle.tallies.proofs.TickFinds.{cores_stand}
use Rattle.tallies.specs.declared.event.Event.{Event}
use Rattle.tallies.specs.declared.event.Event.TheVariants.{SwitchedIn, Displaced, RanOut}

abbrev nothing : TaskTally
nothing = record { run = []; counts = no_counts 0 }

-- Which event a step is.
switch_test : (left runs task : ℕ) → is_switch_in (event_of_switch left runs) task ≡ (runs == task && not (left == task))
switch_test left runs task = at (runs == left) refl
  where
    at : (b : Bool) → (runs == left) ≡ b → is_switch_in (if b then None else Some (SwitchedIn runs)) task ≡ (runs == task && not (left == task))
    at true same = grind (arith, nat_tests, same)
    at false other = grind (arith, nat_tests, other)

switch_only : (left runs task : ℕ) → (is_displaced_call (event_of_switch left runs) task ≡ false) × (is_run_out (event_of_switch left runs) task ≡ false)
switch_only left runs task = at (runs == left)
  where
    at : (b : Bool) → (is_displaced_call (if b then None else Some (SwitchedIn runs)) task ≡ false) ×
        (is_run_out (if b then None else Some (SwitchedIn runs)) task ≡ false)
    at true = (refl, refl)
    at false = (refl, refl)

-- a reply that tells of ticks that ran out is no refusal
run_out_no_displacement : (reply : Reply) → is_displacement reply ≡ true → says_run_out reply ≡ false
run_out_no_displacement (reply.Refused why) is = refl
run_out_no_displacement reply.Done is = refl
run_out_no_displacement reply.Blocked is = refl
run_out_no_displacement (reply.Flag flag) is = absurd (cc (is))
run_out_no_displacement (reply.Value value) is = absurd (cc (is))
run_out_no_displacement (reply.Waited ok value) is = absurd (cc (is))
run_out_no_displacement (reply.Until delayed wake) is = refl
run_out_no_displacement (reply.Isr pass pend) is = refl

call_displaced : (caller task : ℕ) (call : KernelCall) (reply : Reply) → is_displaced_call (event_of_call caller call reply) task ≡
    (caller == task && is_displacement reply)
call_displaced caller task call reply = at (is_displacement reply) (is_finish call && says_run_out reply) (caller == task)
  where
    at : (d r c : Bool) → is_displaced_call (if d then Some (Displaced caller) else if r then Some (RanOut caller) else None) task ≡ (caller == task && d)
    at true r c = sym (and-true (caller == task))
    at false true c = sym (and-false (caller == task))
    at false false c = sym (and-false (caller == task))

call_switch : (caller task : ℕ) (call : KernelCall) (reply : Reply) → is_switch_in (event_of_call caller call reply) task ≡ false
call_switch caller task call reply = at (is_displacement reply) (is_finish call && says_run_out reply)
  where
    at : (d r : Bool) → is_switch_in (if d then Some (Displaced caller) else if r then Some (RanOut caller) else None) task ≡ false
    at true r = refl
    at false true = refl
    at false false = refl

call_run_out : (caller task : ℕ) (call : KernelCall) (reply : Reply) → is_run_out (event_of_call caller call reply) task ≡
    (caller == task && (is_finish call && says_run_out reply))
call_run_out caller task call reply = at (is_displacement reply) refl (is_finish call) (says_run_out reply) refl
  where
    at : (d : Bool) → is_displacement reply ≡ d → (f s : Bool) → says_run_out reply ≡ s → is_run_out
        (if d then Some (Displaced caller) else if (f && s) then Some (RanOut caller) else None) task ≡ (caller == task && (f && s))
    at true is f true says = absurd (cc (run_out_no_displacement reply is, says))
    at true is true false says = sym (and-false (caller == task))
    at true is false false says = sym (and-false (caller == task))
    at false is true true says = sym (and-true (caller == task))
    at false is true false says = sym (and-false (caller == task))
    at false is false s says = sym (and-false (caller == task))

finish_of : (caller task : ℕ) (core : ℕ) (made : KernelCall) → (caller == task && is_finish made) ≡ is_finish_of task (step.Call core caller made)
finish_of caller task core call.Yield = and-false (caller == task)
finish_of caller task core (call.Delay ticks) = and-false (caller == task)
finish_of caller task core (call.DelayUntil prev inc) = and-false (caller == task)
finish_of caller task core (call.PrioritySet other priority) = and-false (caller == task)
finish_of caller task core (call.AffinitySet other mask) = and-false (caller == task)
finish_of caller task core (call.PreemptOff other) = and-false (caller == task)
finish_of caller task core (call.PreemptOn other) = and-false (caller == task)
finish_of caller task core (call.Notify note) = and-false (caller == task)
finish_of caller task core (call.NotifyWait entry exit ticks index) = and-false (caller == task)
finish_of caller task core (call.NotifyTake clear ticks index) = and-false (caller == task)
finish_of caller task core (call.StateClear other index) = and-false (caller == task)
finish_of caller task core (call.ValueClear other bits index) = and-false (caller == task)
finish_of caller task core (call.MutexTake mutex ticks) = and-false (caller == task)
finish_of caller task core (call.MutexGive mutex) = and-false (caller == task)
finish_of caller task core (call.QueueSend queue ticks) = and-false (caller == task)
finish_of caller task core (call.QueueReceive queue ticks) = and-false (caller == task)
finish_of caller task core (call.Suspend other) = and-false (caller == task)
finish_of caller task core (call.Resume other) = and-false (caller == task)
finish_of caller task core call.Finish = and-true (caller == task)
finish_of caller task core call.HoldOpen = and-false (caller == task)
finish_of caller task core call.HoldClose = and-false (caller == task)

past_current : (control : Control) (core : ℕ) → length control.cores ≤ core → current control core ≡ 0
past_current control core past = ap (λ (l : CoreLook). l.current) (get_or_past control.cores core (record { current = 0; pend = false; asked = false }) past)

never_both : (b : Bool) → (b && not b) ≡ false
never_both true = refl
never_both false = refl

-- a core that is none has the same task before and after
none_past : (before after : Control) (core task : ℕ) → length before.cores ≤ core → length after.cores ≤ core →
    (current after core == task && not (current before core == task)) ≡ false
none_past before after core task one other =
    ap (λ n. n == task && not (current before core == task)) (past_current after core other)
    ∙ ap (λ n. 0 == task && not (n == task)) (past_current before core one) ∙ never_both (0 == task)

-- the event of a step is the task's just where the step counts for it
module _ (before after : View) (reply : Reply) (task : ℕ) where
  abbrev moment : Step → Moment Lists
  moment step = record { before = before; step = step; reply = reply; after = after }

  abbrev event : Step → Option Event
  event step = event_of (left_by before step) step reply after.control

  record IsCountedAlike (step : Step) : Type 0 where
    switched : is_switch_in (event step) task ≡ is_switched_in task (moment step)
    displaced : is_displaced_call (event step) task ≡ is_displaced task (moment step)
    timeouts : is_run_out (event step) task ≡ is_timeout task (moment step)

  counted_alike : length before.control.cores ≡ before.settings.cores → length after.control.cores ≡ before.settings.cores → (step : Step) → IsCountedAlike step
  unfolding left_by
  counted_alike sized later step.Tick = record { switched = refl; displaced = refl; timeouts = refl }
  counted_alike sized later (step.Interrupt core note) = record { switched = refl; displaced = refl; timeouts = refl }
  counted_alike sized later (step.QueueInterrupt core queue direction) = record { switched = refl; displaced = refl; timeouts = refl }
  counted_alike sized later (step.ResumeInterrupt core task) = record { switched = refl; displaced = refl; timeouts = refl }
  counted_alike sized later (step.Pass units) = record { switched = refl; displaced = refl; timeouts = refl }
  counted_alike sized later (step.Call core caller call) = record {
    switched = call_switch caller task call reply;
    displaced = call_displaced caller task call reply;
    timeouts = call_run_out caller task call reply ∙ sym (and_assoc (caller == task) (is_finish call) (says_run_out reply)) ∙ ap (λ b. b && says_run_out reply)
        (finish_of caller task core call);
  }
  counted_alike sized later (step.Switch core) = at (nat_lt core before.settings.cores) refl
    where
      left : ℕ
      left = current before.control core

      runs : ℕ
      runs = current after.control core

      event_if : Bool → Option Event
      event_if b = event_of (if b then Some (core, left) else None) (step.Switch core) reply after.control

      at : (b : Bool) → nat_lt core before.settings.cores ≡ b → IsCountedAlike (step.Switch core)
      at true low = let same : event (step.Switch core) ≡ event_of_switch left runs = ap event_if low in record {
        switched = ap (λ e. is_switch_in e task) same ∙ switch_test left runs task;
        displaced = ap (λ e. is_displaced_call e task) same ∙ (switch_only left runs task).0;
        timeouts = ap (λ e. is_run_out e task) same ∙ (switch_only left runs task).1;
      }
      at false high = let same : event (step.Switch core) ≡ None = ap event_if high in record {
        switched = ap (λ e. is_switch_in e task) same ∙ sym (none_past before.control after.control core task (grind (arith, nat_tests, high, sized))
            (grind (arith, nat_tests, high, later)));
        displaced = ap (λ e. is_displaced_call e task) same;
        timeouts = ap (λ e. is_run_out e task) same;
      }

same_tally : {run : List ℕ} {w i s s' d d' t t' o : ℕ} → s ≡ s' → d ≡ d' → t ≡ t' →
    let a : TaskTally = record { run = run; counts = record { wait = w; inverted = i; switched = s; displaced = d; timeouts = t; top = o } } in
    let b : TaskTally = record { run = run; counts = record { wait = w; inverted = i; switched = s'; displaced = d'; timeouts = t'; top = o } } in
    a ≡ b
same_tally s d t = cc

task_in_parts : (before after : View) (step : Step) (reply : Reply) (task : ℕ) (tally : TaskTally) → length before.control.cores ≡ before.settings.cores →
    length after.control.cores ≡ before.settings.cores
    → top_tally after.control task (event_tally (event_of (left_by before step) step reply after.control) task (found_tally before step task tally))
    ≡ tally_after list_queues (record { before = before; step = step; reply = reply; after = after }) task tally
unfolding top_tally event_tally found_tally tally_after
task_in_parts before after step reply task tally sized later =
    let alike = counted_alike before after reply task sized later step in
    same_tally (ap (λ b. tally.counts.switched + one_if b) alike.switched) (ap (λ b. tally.counts.displaced + one_if b) alike.displaced)
    (ap (λ b. tally.counts.timeouts + one_if b) alike.timeouts)

pub length_found : (before : View) (step : Step) (tallies : List TaskTally) → length (found before step tallies) ≡ length tallies
unfolding found
length_found before step tallies = length_each (λ task. found_tally before step task (tally_at tallies task)) (length tallies)

pub length_event : (event : Option Event) (tallies : List TaskTally) → length (with_event event tallies) ≡ length tallies
unfolding with_event
length_event event tallies = length_each (λ task. event_tally event task (tally_at tallies task)) (length tallies)

pub found_at : (before : View) (step : Step) (tallies : List TaskTally) (task : ℕ) → task < length tallies → tally_at (found before step tallies) task ≡
    found_tally before step task (tally_at tallies task)
unfolding found
found_at before step tallies task low = each_at (λ task. found_tally before step task (tally_at tallies task)) (length tallies) task nothing low

pub event_at : (event : Option Event) (tallies : List TaskTally) (task : ℕ) → task < length tallies → tally_at (with_event event tallies) task ≡ event_tally
    event task (tally_at tallies task)
unfolding with_event
event_at event tallies task low = each_at (λ task. event_tally event task (tally_at tallies task)) (length tallies) task nothing low

pub counted_in_parts : (before after : View) (step : Step) (reply : Reply) (tallies : List TaskTally) → length before.control.cores ≡ before.settings.cores →
    length after.control.cores ≡ before.settings.cores
    → topped after.control (with_event (event_of (left_by before step) step reply after.control) (found before step tallies))
    ≡ tallied list_queues (record { before = before; step = step; reply = reply; after = after }) tallies
unfolding topped tallied
counted_in_parts before after step reply tallies sized later =
    let event = event_of (left_by before step) step reply after.control in
    let first = found before step tallies in
    let second = with_event event first in
    let long = length_event event first ∙ length_found before step tallies in
    numbers_so (λ task. top_tally after.control task (tally_at second task))
    (λ task. tally_after list_queues (record { before = before; step = step; reply = reply; after = after }) task (tally_at tallies task)) (length second)
    (length tallies) long
    (λ task low. ap (top_tally after.control task) (event_at event first task (omega (arith, low, length_found before step tallies)) ∙ ap
    (event_tally event task) (found_at before step tallies task low))
    ∙ task_in_parts before after step reply task (tally_at tallies task) sized later)

-- What is found by a step that is no tick.
no_tick_adds : (before : View) (step : Step) (task : ℕ) (tally : TaskTally) → is_tick step ≡ false → found_tally before step task tally ≡ tally
unfolding found_tally
no_tick_adds before step task tally none =
    let found : Bool → TaskTally = λ b. record {
      run = map (λ core. get_or tally.run core 0 + one_if (b && current before.control core == task)) (numbers (length tally.run));
      counts = record tally.counts {
        wait = tally.counts.wait + one_if (b && wants_core before task);
        inverted = tally.counts.inverted + one_if ((b && wants_core before task) && outranks_some before.control task);
      };
    } in
    ap found none
    ∙ same_counts (numbers_so (λ core. get_or tally.run core 0 + 0) (λ core. get_or tally.run core 0) (length tally.run) (length tally.run) refl
    (λ core low. omega arith) ∙ own_items tally.run 0) (omega arith) (omega arith)

pub found_none : (before : View) (step : Step) (tallies : List TaskTally) → is_tick step ≡ false → found before step tallies ≡ tallies
unfolding found
found_none before step tallies none =
    numbers_so (λ task. found_tally before step task (tally_at tallies task)) (tally_at tallies) (length tallies) (length tallies) refl
    (λ task low. no_tick_adds before step task (tally_at tallies task) none)
    ∙ own_items tallies nothing

-- What an event changes.
other_event : (event : Event) (task : ℕ) (tally : TaskTally) → (task_of event == task) ≡ false → event_tally (Some event) task tally ≡ tally
unfolding event_tally
other_event (SwitchedIn other) task tally away = ap (λ b. record tally {
  counts = record tally.counts { switched = tally.counts.switched + one_if b; displaced = tally.counts.displaced + 0; timeouts = tally.counts.timeouts + 0 };
}) away ∙ same_tally (omega arith) (omega arith) (omega arith)
other_event (Displaced other) task tally away = ap (λ b. record tally {
  counts = record tally.counts { switched = tally.counts.switched + 0; displaced = tally.counts.displaced + one_if b; timeouts = tally.counts.timeouts + 0 };
}) away ∙ same_tally (omega arith) (omega arith) (omega arith)
other_event (RanOut other) task tally away = ap (λ b. record tally {
  counts = record tally.counts { switched = tally.counts.switched + 0; displaced = tally.counts.displaced + 0; timeouts = tally.counts.timeouts + one_if b };
}) away ∙ same_tally (omega arith) (omega arith) (omega arith)

pub event_none : (tallies : List TaskTally) → with_event None tallies ≡ tallies
unfolding with_event event_tally
event_none tallies =
    numbers_so (λ task. event_tally None task (tally_at tallies task)) (tally_at tallies) (length tallies) (length tallies) refl
    (λ task low. same_tally (omega arith) (omega arith) (omega arith)) ∙ own_items tallies nothing

pub event_past : (event : Event) (tallies : List TaskTally) → length tallies ≤ task_of event → with_event (Some event) tallies ≡ tallies
unfolding with_event
event_past event tallies past =
    numbers_so (λ task. event_tally (Some event) task (tally_at tallies task)) (tally_at tallies) (length tallies) (length tallies) refl
    (λ task low. other_event event task (tally_at tallies task) (grind (arith, nat_tests, low, past)))
    ∙ own_items tallies nothing

pub event_set : (event : Event) (tallies : List TaskTally) (tally : TaskTally) → task_of event < length tallies → tally ≡ get_or tallies (task_of event) nothing
    → with_event (Some event) tallies ≡ slice_set tallies (task_of event) (event_tally (Some event) (task_of event) tally)
event_set event tallies tally low is =
    let one = event_tally (Some event) (task_of event) tally in
    ext_get_or nothing (with_event (Some event) tallies) (slice_set tallies (task_of event) one)
    (length_event (Some event) tallies ∙ sym (length-set tallies (task_of event) one))
    (λ k within. let below : k < length tallies = omega (arith, within, length_event (Some event) tallies) in event_at (Some event) tallies k below ∙
    elim (cases_eq k (task_of event)) [
      | inl here ↦ subst (λ j. event_tally (Some event) j (tally_at tallies j) ≡ get_or (slice_set tallies (task_of event) one) j nothing) (sym here)
          (ap (event_tally (Some event) (task_of event)) (sym is) ∙ sym (get_or-set_same tallies (task_of event) one nothing low))
      | inr away ↦ other_event event k (tally_at tallies k) (grind (arith, nat_tests, away)) ∙ sym (get_or-set_other tallies (task_of event) k one nothing away)
    ])

-- Where each count has room before a step, there is room for an event after what it finds.
pub room_after_found : (before : View) (step : Step) (tallies : List TaskTally) → AllCountsBelow (2 ^ 32 - 1) tallies → All HasEventRoom
    (found before step tallies)
unfolding found found_tally
room_after_found before step tallies room task d low =
    let f = λ (task : ℕ). found_tally before step task (tally_at tallies task) in
    let below : task < length tallies = omega (arith, low, length-map-range_with_len f 0 (length tallies)) in
    let old = All-get_or (CountsBelow (2 ^ 32 - 1)) tallies task nothing below room in
    subst HasEventRoom (sym (each_at f (length tallies) task d below)) (record { switched = old.switched; displaced = old.displaced; timeouts = old.timeouts })

-- what is left to one who counts in parts: the task that a switch finds, what the step finds, its event, and the rest
pub counted_whole : (before after : View) (step : Step) (reply : Reply) (old mid new : List TaskTally) (left : Option (ℕ × ℕ)) (event : Option Event) →
    StandsForSome before → StandsForSome after → after.settings.cores ≡ before.settings.cores
    → left ≡ left_by before step → mid ≡ found before step old → event ≡ event_of left step reply after.control → new ≡ topped after.control
    (with_event event mid)
    → new ≡ tallied list_queues (record { before = before; step = step; reply = reply; after = after }) old
counted_whole before after step reply old mid new left event some other same left_is mid_is event_is new_is =
    let control = after.control in
    new_is ∙ ap (λ e. topped control (with_event e mid)) (event_is ∙ ap (λ l. event_of l step reply control) left_is)
    ∙ ap (λ ts. topped control (with_event (event_of (left_by before step) step reply control) ts)) mid_is
    ∙ counted_in_parts before after step reply old (cores_stand before some) (cores_stand after other ∙ same)

pub no_tick : (made : Step) → (made ≡ step.Tick → ⊥) → is_tick made ≡ false
no_tick step.Tick other = absurd (other refl)
no_tick (step.Switch core) other = refl
no_tick (step.Call core task call) other = refl
no_tick (step.Interrupt core note) other = refl
no_tick (step.QueueInterrupt core queue direction) other = refl
no_tick (step.ResumeInterrupt core task) other = refl
no_tick (step.Pass units) other = refl
