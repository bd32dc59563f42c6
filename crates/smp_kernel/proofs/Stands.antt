-- What a kernel that stands for a sound table keeps, and what it stands for after a step.
use Rattle.std.proofs.Common.{◌≡◌, ℕ, ◌<◌, ◌%◌, ◌^◌, Bool, true, false, cond, eqb, not, ltb, ◌&&◌, List, [], length, Option, Some, None, Ok, refl, sym, ap}
use Rattle.std.proofs.Common.{subst, ◌∙◌, arith}
use Rattle.std.specs.Prelude.{slice_set}
use Rattle.std.specs.Option.{option_map_or}
use Rattle.std.proofs.lemmas.Bool.{true_from_ne_false}
use Rattle.std.proofs.lemmas.Bool.Decides.{nat_tests}
use Rattle.bench_types.specs.declared.note.Notification.{Notification}
use Rattle.bench_types.specs.declared.reply.Reply.{Reply}
use Rattle.bench_types.specs.declared.reply.Reply.TheVariants.{Done, Blocked, Flag, Until, Refused}
use Rattle.bench_types.specs.declared.step.Step.{Step}
use Rattle.bench_types.specs.declared.step.Step.TheVariants.{Tick, Switch, Interrupt, QueueInterrupt, ResumeInterrupt, Pass}
use Rattle.bench_types.specs.declared.step.Step.TheVariants as steps
use Rattle.bench_types.specs.declared.step.Call.{Call}
use Rattle.bench_types.specs.declared.step.BlockingCall.{BlockingCall}
use Rattle.bench_types.specs.declared.step.BlockingCall.TheVariants as blocking
use Rattle.bench_types.specs.declared.step.Unfinished.{Unfinished}
use Rattle.bench_types.specs.declared.step.Unfinished.TheVariants.{Made, Take, Transfer}
use Rattle.bench_types.specs.declared.kernel_data.Waiter.{Waiter}
use Rattle.bench_types.specs.declared.step.Call.TheVariants.{Yield, Delay, DelayUntil, Finish, PrioritySet, AffinitySet, PreemptOff, PreemptOn, Notify}
use Rattle.bench_types.specs.declared.step.Call.TheVariants.{NotifyWait, NotifyTake, StateClear, ValueClear, MutexTake, MutexGive, QueueSend, QueueReceive, Suspend, Resume, HoldOpen, HoldClose}
use Rattle.bench_types.specs.declared.step.Direction.{Direction}
use Rattle.bench_types.specs.declared.step.Direction.TheVariants.{Send, Receive}
use Rattle.bench_types.specs.Step.{step_check, IsStepOfWords, IsCheckedStep}
use Rattle.bench_model.specs.declared.row.TaskState.{TaskState}
use Rattle.bench_model.specs.declared.row.TaskState.TheVariants as standing
use Rattle.list_orders.specs.Search.{numbers, has}
use Rattle.bench_model.specs.Control.{core_at, task_at, current, in_mask, ask_its_core}
use Rattle.bench_model.specs.State.{call_at, holder_at, yielded, blocked, after_return}
use Rattle.bench_model.specs.Holds.{hold_opened, hold_closed}
use Rattle.bench_model.specs.Queues.{can_pass, other_way, passed, queue_at, queue_called, queue_finished, queue_interrupted, queue_waited, with_passed}
use Rattle.bench_model.specs.Refusals.{refusal}
use Rattle.bench_model.specs.Until.{next_wake, is_ahead, ticks_to}
use Rattle.bench_model.specs.Suspending.{is_suspended, resume_interrupted, resumed, suspended, without_waits}
use Rattle.bench_model.specs.Seek.{seek, wake}
use Rattle.bench_model.specs.Notes.{wait_entered, take_entered, of_slot, slot_of}
use Rattle.bench_model.specs.Notifying.{interrupted, state_forgotten, bits_cleared, completed, awaited, timeout_of}
use Rattle.bench_model.specs.Mutexes.{held_by, taken, inherited, waited_at, take_from, mutex_take, owed, after_disinherit, timed_out, finish_from}
use Rattle.bench_model.specs.Mutexes.{take_finished, disinherited, first_woken, give_from, mutex_give}
use Rattle.bench_model.specs.ControlFields.{with_base, in_use_set, value_set, in_use_and_value_set}
use Rattle.bench_model.specs.PriorityAffinity.{capped, in_use_after, yields_after_priority_set, priority_set, affinity_set, preemption_off, preemption_on}
use Rattle.bench_model.specs.Looks.{task_look, look_in}
use Rattle.bench_model.specs.Steps.{woken, ticked, delayed_until, called, performed, after, after_finish}
use Rattle.bench_model.specs.Table.{Stamps, Table, row_at, stamp_of, is_ready, wake_in, wakes_at, due}
use Rattle.bench_model.specs.Lists as seen
use Rattle.bench_model.specs.Lists.{Lists, View, list_queues, lists_of, view_of, due_tasks}
use Rattle.bench_model.specs.Waiters.{event_list, first_of}
use Rattle.bench_model.specs.Lists.{seen_of}
use Rattle.bench_model.specs.Sound.{IsConsistent, IsSound, WakesInTime}
use Rattle.bench_model.specs.Session.{step_of}
use Rattle.bench_model.specs.Equal.{StandsFor}
use Rattle.rule_laws.proofs.Awaiting.{completed_notes}
use Rattle.list_orders.proofs.Filters.{All-weaker}
use Rattle.list_orders.proofs.Stamped.{numbers_below, by_stamp_none}
use Rattle.order_laws.proofs.SeenMoves.{is_ready_seen, due_seen}
use Rattle.order_laws.proofs.Looks.{look_seen}
use Rattle.step_laws.proofs.Steps.{after_seen, after_sound}
use Rattle.smp_kernel.specs.Kernel.{IsSettled, StandsForSome}
use Rattle.smp_kernel.proofs.CoreMoves.{turned_settings, notify_settings, woken_settings, sliced_settings}

not_yet : (stamps : Stamps) → WakesInTime stamps → (i : ℕ) → i < length stamps.rows → wakes_at stamps.tick (row_at stamps i).standing ≡ false
not_yet stamps in_time i low = at (row_at stamps i).standing refl
  where
    at : (s : TaskState) → (row_at stamps i).standing ≡ s → wakes_at stamps.tick s ≡ false
    at standing.Ready ready = refl
    at (standing.Blocked None) waits = refl
    at (standing.Blocked (Some wake)) waits = grind (arith, nat_tests, (in_time i wake low (ap wake_in waits)).0)

none_due : (stamps : Stamps) → WakesInTime stamps → due stamps ≡ []
unfolding due
none_due stamps in_time =
    by_stamp_none (stamp_of stamps) (λ task. wakes_at stamps.tick (row_at stamps task).standing) (numbers (length stamps.rows)) stamps.next
    (All-weaker (λ i. i < length stamps.rows) (λ i. wakes_at stamps.tick (row_at stamps i).standing ≡ false) (not_yet stamps in_time)
    (numbers (length stamps.rows)) (numbers_below (length stamps.rows)))

-- the current task of a core stands in the ready lists where its row is ready
current_ready_seen : (table : Table) → IsConsistent table → (core : ℕ) → core < length table.control.cores → has (current table.control core)
    (lists_of table.control table.orders).ready ≡ is_ready (current table.control core) table.orders
current_ready_seen table kept core place = is_ready_seen table.control table.orders (current table.control core) kept.stamped.given
    (kept.in_place.is_task core place)

view_settled : (table : Table) → IsSound table → IsSettled (view_of table)
view_settled table sound = let kept = sound.consistent in record {
  none_due = due_seen table.control table.orders (λ i wake low waits. omega (arith, (kept.in_time i wake low waits).0)) ∙ none_due table.orders kept.in_time;
  runs_ready = λ core low idle.
      let place : core < length table.control.cores = omega (arith, kept.sized.cores, low) in
      current_ready_seen table kept core place
      ∙ true_from_ne_false (is_ready (current table.control core) table.orders) (λ gone. cc (kept.in_place.blocked_is_due core place gone, idle));
  held = λ hold is.
      let well = sound.held hold is in
      record {
        depth = well.depth.1;
        ready = current_ready_seen table kept hold.core (omega (arith, kept.sized.cores, well.core_below)) ∙ well.ready;
      };
  calls = kept.calls;
}

pub settled_of : (view : View) → StandsForSome view → IsSettled view
settled_of view stands = subst IsSettled stands.1.shows (view_settled stands.0 stands.1.sound)

checked_of : (view : View) (table : Table) (step : Step) → StandsFor view table → step_check view.settings step ≡ Ok tt → IsStepOfWords step → IsCheckedStep
    table.settings step
checked_of view table step stands passes words = record {
  passes = ap (λ (v : View). step_check v.settings step) stands.shows ∙ passes;
  words = words;
}

after_stands : (view : View) (table : Table) (step : Step) → StandsFor view table → step_check view.settings step ≡ Ok tt → IsStepOfWords step → seen_of
    (step_of step table) ≡ after list_queues step view
after_stands view table step stands passes words =
    after_seen step table stands.sound (checked_of view table step stands passes words) ∙ ap (after list_queues step) stands.shows

abbrev outcome : Reply → View → Reply × View
outcome reply view = (reply, view)

pub reply_of : (view later : View) (step : Step) (reply : Reply) → step_check view.settings step ≡ Ok tt → IsStepOfWords step → outcome reply later ≡ after
    list_queues step view → (table : Table) → StandsFor view table → reply ≡ (step_of step table).0
reply_of view later step reply passes words made table stands =
    ap (λ (r : Reply × View). r.0) (made ∙ sym (after_stands view table step stands passes words))

pub stands_after : (view later : View) (step : Step) (reply : Reply) → step_check view.settings step ≡ Ok tt → IsStepOfWords step → outcome reply later ≡ after
    list_queues step view → (table : Table) → StandsFor view table → StandsFor later (step_of step table).1
stands_after view later step reply passes words made table stands = record {
  sound = after_sound step table stands.sound (checked_of view table step stands passes words);
  shows = ap (λ (r : Reply × View). r.1) (after_stands view table step stands passes words ∙ sym made);
}

priority_settings : (core task priority : ℕ) (view : View) → (priority_set list_queues core task priority view).settings ≡ view.settings
unfolding priority_set in_use_set
priority_settings core task priority view =
    let block = task_at view.control task in
    let new = capped view.settings.priorities priority in
    let later = value_set list_queues task new
    (in_use_set list_queues task (in_use_after block new) (record view { control = with_base task new view.control })) in
    elim (eqb new block.base) as (λ b. (cond b view
    (record later { control = yields_after_priority_set core task block.base new (has task view.orders.ready) later.control })).settings ≡ view.settings)
    [ true ↦ refl | false ↦ refl ]

completed_settings : (task : ℕ) (call : BlockingCall) (view : View) → (completed task call view).1.settings ≡ view.settings
completed_settings task call view = ap (λ (v : View). v.settings) (completed_notes task call view).1

inherited_settings : (acting holder priority : ℕ) (view : View) → (inherited list_queues acting holder priority view).settings ≡ view.settings
unfolding inherited in_use_set in_use_and_value_set
inherited_settings acting holder priority view = at (ltb (task_at view.control holder).in_use priority) (has holder view.orders.ready)
  where
    later : View
    later = in_use_and_value_set list_queues holder priority view

    sought : View
    sought = record later { control = seek acting holder (in_mask later.control holder) later.control }

    at : (b d : Bool) → (cond b (cond d sought later) view).settings ≡ view.settings
    at true true = refl
    at true false = refl
    at false d = refl

after_disinherit_settings : (acting task priority : ℕ) (view : View) → (after_disinherit list_queues acting task priority view).settings ≡ view.settings
unfolding after_disinherit in_use_set in_use_and_value_set
after_disinherit_settings acting task priority view =
    let later = in_use_and_value_set list_queues task priority view in
    elim (eqb (task_at view.control task).in_use priority) as (λ b. (cond b view (record later { control = ask_its_core acting task later.control })).settings ≡
    view.settings) [ true ↦ refl | false ↦ refl ]

waited_settings : (core task mutex holder : ℕ) (ticks : Option ℕ) (view : View) → (waited_at list_queues core task mutex holder ticks view).settings ≡
    view.settings
unfolding waited_at blocked
waited_settings core task mutex holder ticks view = inherited_settings core holder (task_at view.control task).in_use view

taken_settings : (core task mutex ticks : ℕ) (view : View) → (mutex_take list_queues core task mutex ticks view).1.settings ≡ view.settings
unfolding mutex_take taken
taken_settings core task mutex ticks view = at (holder_at view.holders mutex)
  where
    held : (holder : ℕ) (b : Bool) → (cond b (outcome (Flag false) view)
        (outcome Blocked (waited_at list_queues core task mutex holder (timeout_of ticks) view))).1.settings ≡ view.settings
    held holder true = refl
    held holder false = waited_settings core task mutex holder (timeout_of ticks) view

    at : (holder : Option ℕ) → (take_from list_queues holder core task mutex ticks view).1.settings ≡ view.settings
    at None = refl
    at (Some holder) = held holder (eqb ticks 0)

timed_out_settings : (core task mutex : ℕ) (mark : Bool) (holder : ℕ) (view : View) → (timed_out list_queues core task mutex mark holder view).settings ≡
    view.settings
unfolding timed_out
timed_out_settings core task mutex mark holder view = at (mark && not (eqb holder task) && eqb (held_by view.holders holder) 1)
  where
    at : (b : Bool) → (cond b (after_disinherit list_queues core holder (owed list_queues holder mutex view) view) view).settings ≡ view.settings
    at true = after_disinherit_settings core holder (owed list_queues holder mutex view) view
    at false = refl

take_finished_settings : (core task mutex : ℕ) (mark : Bool) (view : View) → (take_finished list_queues core task mutex mark view).1.settings ≡ view.settings
unfolding take_finished taken
take_finished_settings core task mutex mark view = at (holder_at view.holders mutex)
  where
    left : Option ℕ
    left = seen.deadline_left task view.orders

    over : View
    over = after_return list_queues task view

    held : (holder : ℕ) (b : Bool) → (cond b (outcome (Flag false) (timed_out list_queues core task mutex mark holder over))
        (outcome Blocked (waited_at list_queues core task mutex holder left view))).1.settings ≡ view.settings
    held holder true = timed_out_settings core task mutex mark holder over
    held holder false = waited_settings core task mutex holder left view

    at : (holder : Option ℕ) → (finish_from list_queues holder core task mutex mark view).1.settings ≡ view.settings
    at None = refl
    at (Some holder) = held holder (option_map_or (λ ticks. eqb ticks 0) left false)

first_settings : (core list : ℕ) (view : View) → (first_woken list_queues core list view).settings ≡ view.settings
unfolding first_woken wake
first_settings core list view = at (seen.first_waiter list view.orders)
  where
    at : (waiter : Option Waiter) → (option_map_or (λ (waiter : Waiter). wake list_queues core waiter.task view) waiter view).settings ≡ view.settings
    at None = refl
    at (Some waiter) = refl

passed_settings : (core : ℕ) (direction : Direction) (queue : ℕ) (view : View) → (passed list_queues core direction queue view).settings ≡ view.settings
unfolding passed
passed_settings core direction queue view = first_settings core (event_list view.settings (other_way direction) queue) (with_passed direction queue view)

queue_waited_settings : (core task : ℕ) (direction : Direction) (queue : ℕ) (ticks : Option ℕ) (view : View) →
    (queue_waited list_queues core task direction queue ticks view).settings ≡ view.settings
unfolding queue_waited blocked
queue_waited_settings core task direction queue ticks view = refl

queue_called_settings : (core task : ℕ) (direction : Direction) (queue ticks : ℕ) (view : View) →
    (queue_called list_queues core task direction queue ticks view).1.settings ≡ view.settings
unfolding queue_called
queue_called_settings core task direction queue ticks view = at (can_pass direction (queue_at view.queues queue)) (eqb ticks 0)
  where
    at : (b d : Bool) → (cond b (outcome (Flag true) (passed list_queues core direction queue view))
        (cond d (outcome (Flag false) view) (outcome Blocked (queue_waited list_queues core task direction queue (timeout_of ticks) view)))).1.settings ≡
        view.settings
    at true d = passed_settings core direction queue view
    at false true = refl
    at false false = queue_waited_settings core task direction queue (timeout_of ticks) view

queue_finished_settings : (core task : ℕ) (direction : Direction) (queue : ℕ) (view : View) →
    (queue_finished list_queues core task direction queue view).1.settings ≡ view.settings
unfolding queue_finished
queue_finished_settings core task direction queue view =
    at (can_pass direction (queue_at view.queues queue)) (option_map_or (λ ticks. eqb ticks 0) left false)
  where
    left : Option ℕ
    left = seen.deadline_left task view.orders

    over : View
    over = after_return list_queues task view

    at : (b d : Bool) → (cond b (outcome (Flag true) (passed list_queues core direction queue over))
        (cond d (outcome (Flag false) over) (outcome Blocked (queue_waited list_queues core task direction queue left view)))).1.settings ≡ view.settings
    at true d = passed_settings core direction queue over
    at false true = refl
    at false false = queue_waited_settings core task direction queue left view

queue_interrupted_settings : (core : ℕ) (direction : Direction) (queue : ℕ) (view : View) →
    (queue_interrupted list_queues core direction queue view).1.settings ≡ view.settings
unfolding queue_interrupted
queue_interrupted_settings core direction queue view = at (can_pass direction (queue_at view.queues queue))
  where
    at : (b : Bool) → (cond b (passed list_queues core direction queue view) view).settings ≡ view.settings
    at true = passed_settings core direction queue view
    at false = refl

suspended_settings : (core other : ℕ) (view : View) → (suspended list_queues core other view).settings ≡ view.settings
unfolding suspended
suspended_settings core other view = at (is_suspended list_queues other view)
  where
    gone : View
    gone = record view {
      control = ask_its_core core other view.control;
      notes = without_waits view.settings.notes other view.notes;
      orders = seen.suspend other view.orders;
    }

    at : (b : Bool) → (cond b view gone).settings ≡ view.settings
    at true = refl
    at false = refl

resumed_settings : (core other : ℕ) (view : View) → (resumed list_queues core other view).settings ≡ view.settings
unfolding resumed wake
resumed_settings core other view = at (is_suspended list_queues other view)
  where
    at : (b : Bool) → (cond b (wake list_queues core other view) view).settings ≡ view.settings
    at true = refl
    at false = refl

finished_settings : (core task : ℕ) (call : Unfinished) (view : View) → (after_finish list_queues core task call view).1.settings ≡ view.settings
unfolding after_finish
finished_settings core task (Made call) view = completed_settings task call (after_return list_queues task view)
finished_settings core task (Take mutex mark) view = take_finished_settings core task mutex mark view
finished_settings core task (Transfer queue direction) view = queue_finished_settings core task direction queue view

finish_settings : (core task : ℕ) (view : View) → (option_map_or (λ call. after_finish list_queues core task call view) (call_at view.calls task)
    (outcome Done view)).1.settings ≡ view.settings
finish_settings core task view = elim (call_at view.calls task) as (λ call.
    (option_map_or (λ call. after_finish list_queues core task call view) call (outcome Done view)).1.settings ≡ view.settings)
    [ None ↦ refl | Some call ↦ finished_settings core task call view ]

disinherited_settings : (core task : ℕ) (view : View) → (disinherited list_queues core task view).settings ≡ view.settings
unfolding disinherited
disinherited_settings core task view = at (eqb (held_by view.holders task) 0)
  where
    base : ℕ
    base = (task_at view.control task).base

    at : (b : Bool) → (cond b (after_disinherit list_queues core task base view) view).settings ≡ view.settings
    at true = after_disinherit_settings core task base view
    at false = refl

given_settings : (core task mutex : ℕ) (view : View) → (mutex_give list_queues core task mutex view).1.settings ≡ view.settings
unfolding mutex_give first_woken wake
given_settings core task mutex view = at (holder_at view.holders mutex)
  where
    left : View
    left = disinherited list_queues core task (record view { holders = slice_set view.holders mutex None })

    woken : (waiter : Option Waiter) → (option_map_or (λ (waiter : Waiter). wake list_queues core waiter.task left) waiter left).settings ≡ view.settings
    woken None = disinherited_settings core task (record view { holders = slice_set view.holders mutex None })
    woken (Some waiter) = disinherited_settings core task (record view { holders = slice_set view.holders mutex None })

    at : (holder : Option ℕ) → (give_from list_queues holder core task mutex view).1.settings ≡ view.settings
    at None = refl
    at (Some holder) = woken (seen.first_waiter mutex left.orders)

timeout_settings : (core task : ℕ) (call : BlockingCall) (ticks : ℕ) (entered : Bool × List Notification) (view : View) →
    (awaited list_queues core task call ticks entered view).1.settings ≡ view.settings
unfolding awaited blocked
timeout_settings core task call ticks entered view =
    let waiting = record view { notes = entered.1 } in
    elim (entered.0 && ltb 0 ticks) as (λ b. (cond b (outcome Blocked (blocked list_queues core task (Made call) (timeout_of ticks) None waiting))
    (completed task call waiting)).1.settings ≡ view.settings) [ true ↦ refl | false ↦ completed_settings task call waiting ]

until_settings : (core task prev inc : ℕ) (view : View) → (delayed_until list_queues core task prev inc view).1.settings ≡ view.settings
unfolding delayed_until yielded blocked
until_settings core task prev inc view =
    let wake = next_wake prev inc in
    let call = Made (blocking.DelayUntil prev inc) in
    elim (is_ahead view.orders.tick prev wake) as (λ b.
    (cond b (outcome (Until true wake) (blocked list_queues core task call (Some (ticks_to view.orders.tick wake)) None view))
    (outcome (Until false wake) (yielded list_queues core view))).1.settings ≡ view.settings) [ true ↦ refl | false ↦ refl ]

called_settings : (core task : ℕ) (call : Call) (view : View) → (called list_queues core task call view).1.settings ≡ view.settings
unfolding called yielded blocked affinity_set preemption_off preemption_on state_forgotten bits_cleared hold_opened hold_closed
called_settings core task Yield view = refl
called_settings core task (Delay ticks) view = elim (eqb ticks 0) as (λ b.
    (cond b (outcome Done (yielded list_queues core view)) (outcome Blocked
    (blocked list_queues core task (Made (blocking.Delay ticks)) (Some ticks) None view))).1.settings ≡ view.settings) [ true ↦ refl | false ↦ refl ]
called_settings core task Finish view = finish_settings core task view
called_settings core task (PrioritySet other priority) view = priority_settings core other priority view
called_settings core task (AffinitySet other mask) view = refl
called_settings core task (PreemptOff other) view = refl
called_settings core task (PreemptOn other) view = refl
called_settings core task (Notify note) view = notify_settings core note view
called_settings core task (NotifyWait entry exit ticks index) view = timeout_settings core task (blocking.NotifyWait entry exit ticks index) ticks
    (of_slot (slot_of view.settings task index) (wait_entered entry) view.notes) view
called_settings core task (NotifyTake clear ticks index) view = timeout_settings core task (blocking.NotifyTake clear ticks index) ticks
    (of_slot (slot_of view.settings task index) take_entered view.notes) view
called_settings core task (StateClear other index) view = refl
called_settings core task (ValueClear other bits index) view = refl
called_settings core task (MutexTake mutex ticks) view = taken_settings core task mutex ticks view
called_settings core task (MutexGive mutex) view = given_settings core task mutex view
called_settings core task (QueueSend queue ticks) view = queue_called_settings core task Send queue ticks view
called_settings core task (QueueReceive queue ticks) view = queue_called_settings core task Receive queue ticks view
called_settings core task (DelayUntil prev inc) view = until_settings core task prev inc view
called_settings core task (Suspend other) view = suspended_settings core other view
called_settings core task (Resume other) view = resumed_settings core other view
called_settings core task HoldOpen view = refl
called_settings core task HoldClose view = refl

performed_settings : (step : Step) (view : View) → (performed list_queues step view).1.settings ≡ view.settings
unfolding performed ticked interrupted resume_interrupted
performed_settings Tick view =
    let later = record view { orders = seen.advance view.orders } in
    sliced_settings (woken list_queues (seen.due later.orders) later) ∙ woken_settings (seen.due later.orders) later
performed_settings (Switch core) view = turned_settings core view
performed_settings (steps.Call core task call) view = called_settings core task call view
performed_settings (Interrupt core note) view = notify_settings core note view
performed_settings (QueueInterrupt core queue direction) view = queue_interrupted_settings core direction queue view
performed_settings (ResumeInterrupt core task) view = resumed_settings core task view
performed_settings (Pass units) view = refl

after_settings : (step : Step) (view : View) → (after list_queues step view).1.settings ≡ view.settings
unfolding after
after_settings step view = elim (refusal list_queues step view) as (λ why.
    (option_map_or (λ why. outcome (Refused why) view) why (performed list_queues step view)).1.settings ≡ view.settings)
    [ None ↦ performed_settings step view | Some why ↦ refl ]

-- a step leaves the settings as they are
pub settings_after : (view later : View) (step : Step) (reply : Reply) → outcome reply later ≡ after list_queues step view → later.settings ≡ view.settings
settings_after view later step reply made = ap (λ (r : Reply × View). r.1.settings) made ∙ after_settings step view

pub look_of : (view : View) (table : Table) (core : ℕ) → StandsFor view table → core_at view.control core ≡ core_at table.control core
look_of view table core stands = ap (λ (v : View). core_at v.control core) (sym stands.shows)

pub holder_seen : (view : View) (table : Table) (mutex : ℕ) → StandsFor view table → holder_at view.holders mutex ≡ holder_at table.holders mutex
holder_seen view table mutex stands = ap (λ (v : View). holder_at v.holders mutex) (sym stands.shows)

pub queue_seen : (view : View) (table : Table) (queue : ℕ) → StandsFor view table → queue_at view.queues queue ≡ queue_at table.queues queue
queue_seen view table queue stands = ap (λ (v : View). queue_at v.queues queue) (sym stands.shows)

pub task_look_of : (view : View) (table : Table) (task : ℕ) → task < view.settings.tasks → StandsFor view table → look_in view task ≡ task_look table task
task_look_of view table task low stands =
    let below : task < table.settings.tasks = omega (arith, low, ap (λ (v : View). v.settings.tasks) stands.shows) in
    ap (λ (v : View). look_in v task) (sym stands.shows) ∙ look_seen table task stands.sound.consistent below

pub tick_of : (view : View) (table : Table) → StandsFor view table → view.orders.tick ≡ table.orders.tick % 2 ^ 32
unfolding lists_of
tick_of view table stands = ap (λ (v : View). v.orders.tick) (sym stands.shows)
