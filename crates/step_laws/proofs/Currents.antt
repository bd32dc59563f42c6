-- A step leaves each core but its own the task that it runs: only a switch puts a task on a core.
use Rattle.std.proofs.Common.{◌≡◌, ℕ, ◌<◌, Bool, true, false, cond, not, eqb, ltb, ◌&&◌, List, length, Option, Some, None, refl, sym, ap, ◌∙◌, arith}
use Rattle.std.specs.Prelude.{slice_set}
use Rattle.std.specs.Option.{option_map_or}
use Rattle.std.proofs.lemmas.List.{map-set, set-get_or, get_or-set_same, length-map, ext_get_or}
use Rattle.std.proofs.Math.ListN.{get_or-map}
use Rattle.bench_types.specs.declared.kernel_data.CoreLook.{CoreLook}
use Rattle.bench_types.specs.declared.kernel_data.EventWait.{EventWait}
use Rattle.bench_types.specs.declared.kernel_data.Settings.{Settings}
use Rattle.bench_types.specs.declared.note.Notification.{Notification}
use Rattle.bench_types.specs.declared.reply.Refusal.{Refusal}
use Rattle.bench_types.specs.declared.reply.Reply.{Reply}
use Rattle.bench_types.specs.declared.reply.Reply.TheVariants.{Done, Blocked, Flag, Until, Refused}
use Rattle.bench_types.specs.declared.step.Call.{Call}
use Rattle.bench_types.specs.declared.step.Call.TheVariants.{Yield, Delay, DelayUntil, Finish, PrioritySet, AffinitySet, PreemptOff, PreemptOn, Notify}
use Rattle.bench_types.specs.declared.step.Call.TheVariants.{NotifyWait, NotifyTake, StateClear, ValueClear, MutexTake, MutexGive, QueueSend, QueueReceive, Suspend, Resume, HoldOpen, HoldClose}
use Rattle.bench_types.specs.declared.step.Step.{Step}
use Rattle.bench_types.specs.declared.step.Step.TheVariants.{Tick, Switch, Interrupt, QueueInterrupt, ResumeInterrupt, Pass}
use Rattle.bench_types.specs.declared.step.Step.TheVariants as steps
use Rattle.bench_types.specs.declared.step.BlockingCall.{BlockingCall}
use Rattle.bench_types.specs.declared.step.BlockingCall.TheVariants as blocking
use Rattle.bench_types.specs.declared.step.Direction.{Direction}
use Rattle.bench_types.specs.declared.step.Direction.TheVariants.{Send, Receive}
use Rattle.bench_types.specs.declared.step.Unfinished.{Unfinished}
use Rattle.bench_types.specs.declared.step.Unfinished.TheVariants.{Made, Take, Transfer}
use Rattle.bench_types.proofs.Passes.{checked_mutex, checked_task, noted_task}
use Rattle.bench_types.specs.Step.{core_of, IsCheckedCall, IsCheckedStep}
use Rattle.bench_model.specs.Control.{Control, current, in_mask, running, task_at}
use Rattle.bench_model.specs.ControlFields.{in_use_set, in_use_and_value_set}
use Rattle.bench_model.specs.Holds.{hold_opened, hold_closed}
use Rattle.bench_model.specs.Mutexes.{held_by, inherited, waited_at, take_from, mutex_take, owed, after_disinherit, timed_out, finish_from, take_finished}
use Rattle.bench_model.specs.Mutexes.{taken, is_marked, waiting_priority}
use Rattle.bench_model.specs.Notes.{wait_entered, take_entered, of_slot, slot_of}
use Rattle.bench_model.specs.Notifying.{awaited, completed, interrupted, notify, timeout_of}
use Rattle.bench_model.specs.Queues.{can_pass, passed, queue_at, queue_called, queue_finished, queue_interrupted, queue_waited}
use Rattle.bench_model.specs.Refusals.{refusal}
use Rattle.bench_model.specs.Seek.{after_eviction, after_switch, may_move, seek}
use Rattle.bench_model.specs.Session.{step_of}
use Rattle.bench_model.specs.Sound.{IsCaller, IsConsistent, IsSound, StepFits}
use Rattle.bench_model.specs.State.{after_return, after_select, blocked, call_at, holder_at, yielded}
use Rattle.bench_model.specs.Steps.{after, after_finish, called, delayed_until, performed, ticked}
use Rattle.bench_model.specs.Table.{Table, deadline_left, is_ready, stamp_queues, tick_count}
use Rattle.bench_model.specs.Until.{is_ahead, next_wake, ticks_to}
use Rattle.bench_model.specs.Waiters.{event_list}
use Rattle.order_laws.proofs.SoundSteps.{asked_more}
use Rattle.rule_laws.proofs.Mutexes.{forgotten_sound}
use Rattle.rule_laws.proofs.PriorityAffinity.{its_core_more}
use Rattle.rule_laws.proofs.Seeks.{seek_more}
use Rattle.step_laws.proofs.Along.{settings_after}
use Rattle.step_laws.proofs.Holds.{checked_call, in_place}
use Rattle.step_laws.proofs.Steps.{after_sound, resume_task}
use Rattle.bench_model.specs.Suspending.{resume_interrupted}
use Rattle.step_laws.proofs.Undisturbed.{affinity_undisturbed, bits_undisturbed, completed_undisturbed, forgotten_undisturbed, give_undisturbed, passed_undisturbed, queue_interrupted_undisturbed, resume_undisturbed, resume_interrupted_undisturbed, suspend_currents}
use Rattle.step_laws.proofs.Undisturbed.{notify_undisturbed, off_undisturbed, on_undisturbed, priority_undisturbed, ticked_undisturbed, yielded_undisturbed}

abbrev no_look : CoreLook
no_look = record { current = 0; pend = false; asked = false }

-- each core runs the task that it ran
abbrev HasCurrents : Table → Table → Type 0
HasCurrents table later = (c : ℕ) → current later.control c ≡ current table.control c

either_has : (table one other : Table) (b : Bool) → HasCurrents table one → HasCurrents table other → HasCurrents table (cond b one other)
either_has table one other true here there = here
either_has table one other false here there = there

-- ---- the rules that let a task wait, and those of inherited priorities

blocked_currents : (core task : ℕ) (call : Unfinished) (ticks : Option ℕ) (wait : Option EventWait) (table : Table) → core < length table.control.cores →
    HasCurrents table (blocked stamp_queues core task call ticks wait table)
unfolding blocked
blocked_currents core task call ticks wait table low = (asked_more table.control core core low).currents

in_use_currents : (task priority : ℕ) (table : Table) → HasCurrents table (in_use_and_value_set stamp_queues task priority table)
unfolding in_use_set in_use_and_value_set
in_use_currents task priority table c = refl

in_use_cores : (task priority : ℕ) (table : Table) → length (in_use_and_value_set stamp_queues task priority table).control.cores ≡ length table.control.cores
unfolding in_use_set in_use_and_value_set
in_use_cores task priority table = refl

inherited_currents : (acting holder priority : ℕ) (table : Table) → HasCurrents table (inherited stamp_queues acting holder priority table)
unfolding inherited
inherited_currents acting holder priority table =
    let later = in_use_and_value_set stamp_queues holder priority table in
    let first = in_use_currents holder priority table in
    either_has table _ table (ltb (task_at table.control holder).in_use priority)
    (either_has table _ later (is_ready holder table.orders) (λ c. (seek_more acting holder (in_mask later.control holder) later.control).currents c ∙ first c)
    first)
    (λ c. refl)

inherited_cores : (acting holder priority : ℕ) (table : Table) → length (inherited stamp_queues acting holder priority table).control.cores ≡ length
    table.control.cores
unfolding inherited
inherited_cores acting holder priority table = at (ltb (task_at table.control holder).in_use priority) (is_ready holder table.orders)
  where
    later : Table
    later = in_use_and_value_set stamp_queues holder priority table

    sought : Control
    sought = seek acting holder (in_mask later.control holder) later.control

    at : (b d : Bool) → length (cond b (cond d (record later { control = sought }) later) table).control.cores ≡ length table.control.cores
    at true true = (seek_more acting holder (in_mask later.control holder) later.control).cores ∙ in_use_cores holder priority table
    at true false = in_use_cores holder priority table
    at false d = refl

waited_currents : (core task mutex holder : ℕ) (ticks : Option ℕ) (table : Table) → core < length table.control.cores → HasCurrents table
    (waited_at stamp_queues core task mutex holder ticks table)
unfolding waited_at
waited_currents core task mutex holder ticks table low =
    let priority = (task_at table.control task).in_use in
    let wait : EventWait = record { list = mutex; priority = waiting_priority stamp_queues task table } in
    let inheriting = inherited stamp_queues core holder priority table in
    λ c. blocked_currents core task (Take mutex (is_marked table.control task holder)) ticks (Some wait) inheriting
    (omega (arith, low, inherited_cores core holder priority table)) c
    ∙ inherited_currents core holder priority table c

disinherit_currents : (acting task priority : ℕ) (table : Table) → HasCurrents table (after_disinherit stamp_queues acting task priority table)
unfolding after_disinherit
disinherit_currents acting task priority table =
    let later = in_use_and_value_set stamp_queues task priority table in
    either_has table table _ (eqb (task_at table.control task).in_use priority) (λ c. refl)
    (λ c. (its_core_more acting task later.control).currents c ∙ in_use_currents task priority table c)

timed_out_currents : (acting task mutex : ℕ) (mark : Bool) (holder : ℕ) (table : Table) → HasCurrents table
    (timed_out stamp_queues acting task mutex mark holder table)
unfolding timed_out
timed_out_currents acting task mutex mark holder table =
    either_has table _ table (mark && not (eqb holder task) && eqb (held_by table.holders holder) 1)
    (disinherit_currents acting holder (owed stamp_queues holder mutex table) table) (λ c. refl)

-- ---- the calls

until_currents : (core task prev inc : ℕ) (table : Table) → core < length table.control.cores → HasCurrents table
    (delayed_until stamp_queues core task prev inc table).1
unfolding delayed_until
until_currents core task prev inc table low = at (is_ahead now prev wake)
  where
    now : ℕ
    now = tick_count table.orders

    wake : ℕ
    wake = next_wake prev inc

    at : (b : Bool) → HasCurrents table (cond {A = Reply × Table} b
        (Until true wake, blocked stamp_queues core task (Made (blocking.DelayUntil prev inc)) (Some (ticks_to now wake)) None table)
        (Until false wake, yielded stamp_queues core table)).1
    at true = blocked_currents core task (Made (blocking.DelayUntil prev inc)) (Some (ticks_to now wake)) None table low
    at false = (yielded_undisturbed core table low).currents

awaited_currents : (core task : ℕ) (call : BlockingCall) (ticks : ℕ) (entered : Bool × List Notification) (table : Table) → core < length table.control.cores →
    HasCurrents table (awaited stamp_queues core task call ticks entered table).1
unfolding awaited
awaited_currents core task call ticks entered table low = at (entered.0 && ltb 0 ticks)
  where
    waiting : Table
    waiting = record table { notes = entered.1 }

    at : (b : Bool) → HasCurrents table (cond {A = Reply × Table} b (Blocked, blocked stamp_queues core task (Made call) (timeout_of ticks) None waiting)
        (completed task call waiting)).1
    at true = blocked_currents core task (Made call) (timeout_of ticks) None waiting low
    at false = (completed_undisturbed task call waiting).currents

take_currents : (core task mutex ticks : ℕ) (table : Table) → core < length table.control.cores → HasCurrents table
    (mutex_take stamp_queues core task mutex ticks table).1
unfolding mutex_take taken
take_currents core task mutex ticks table low = at (holder_at table.holders mutex)
  where
    held : (holder : ℕ) (b : Bool) → HasCurrents table (cond {A = Reply × Table} b (Flag false, table)
        (Blocked, waited_at stamp_queues core task mutex holder (timeout_of ticks) table)).1
    held holder true = λ c. refl
    held holder false = waited_currents core task mutex holder (timeout_of ticks) table low

    at : (holder : Option ℕ)
        → HasCurrents table (take_from stamp_queues holder core task mutex ticks table).1
    at None = λ c. refl
    at (Some holder) = held holder (eqb ticks 0)

take_finished_currents : (core task mutex : ℕ) (mark : Bool) (table : Table) → core < length table.control.cores → HasCurrents table
    (take_finished stamp_queues core task mutex mark table).1
unfolding take_finished taken
take_finished_currents core task mutex mark table low = at (holder_at table.holders mutex)
  where
    over : Table
    over = after_return stamp_queues task table

    left : Option ℕ
    left = deadline_left task table.orders

    reached : Bool
    reached = option_map_or (λ ticks. eqb ticks 0) left false

    held : (holder : ℕ) (b : Bool) → HasCurrents table (cond {A = Reply × Table} b (Flag false, timed_out stamp_queues core task mutex mark holder over)
        (Blocked, waited_at stamp_queues core task mutex holder left table)).1
    held holder true = timed_out_currents core task mutex mark holder over
    held holder false = waited_currents core task mutex holder left table low

    at : (holder : Option ℕ)
        → HasCurrents table (finish_from stamp_queues holder core task mutex mark table).1
    at None = λ c. refl
    at (Some holder) = held holder reached

queue_waited_currents : (core task : ℕ) (direction : Direction) (queue : ℕ) (ticks : Option ℕ) (table : Table) → core < length table.control.cores →
    HasCurrents table (queue_waited stamp_queues core task direction queue ticks table)
unfolding queue_waited
queue_waited_currents core task direction queue ticks table low = blocked_currents core task (Transfer queue direction) ticks
    (Some (record { list = event_list table.settings direction queue; priority = waiting_priority stamp_queues task table })) table low

queue_called_currents : (core task : ℕ) (direction : Direction) (queue ticks : ℕ) (table : Table) → IsConsistent table → core < length table.control.cores →
    HasCurrents table (queue_called stamp_queues core task direction queue ticks table).1
unfolding queue_called
queue_called_currents core task direction queue ticks table sound low = at (can_pass direction (queue_at table.queues queue)) (eqb ticks 0)
  where
    at : (b d : Bool) → HasCurrents table (cond {A = Reply × Table} b (Flag true, passed stamp_queues core direction queue table)
        (cond d (Flag false, table) (Blocked, queue_waited stamp_queues core task direction queue (timeout_of ticks) table))).1
    at true d = (passed_undisturbed core direction queue table sound).currents
    at false true = λ c. refl
    at false false = queue_waited_currents core task direction queue (timeout_of ticks) table low

queue_finished_currents : (core task : ℕ) (direction : Direction) (queue : ℕ) (table : Table) → IsConsistent table → IsCaller table core task →
    HasCurrents table (queue_finished stamp_queues core task direction queue table).1
unfolding queue_finished
queue_finished_currents core task direction queue table sound place =
    at (can_pass direction (queue_at table.queues queue)) (option_map_or (λ ticks. eqb ticks 0) left false)
  where
    over : Table
    over = after_return stamp_queues task table

    left : Option ℕ
    left = deadline_left task table.orders

    at : (b d : Bool) → HasCurrents table (cond {A = Reply × Table} b (Flag true, passed stamp_queues core direction queue over)
        (cond d (Flag false, over) (Blocked, queue_waited stamp_queues core task direction queue left table))).1
    at true d = (passed_undisturbed core direction queue over
        (forgotten_sound table task sound (omega (arith, sound.sized.rows, place.2)) place.3)).currents
    at false true = λ c. refl
    at false false = queue_waited_currents core task direction queue left table place.0

finish_currents : (core task : ℕ) (call : Unfinished) (table : Table) → IsConsistent table → IsCaller table core task → HasCurrents table
    (after_finish stamp_queues core task call table).1
unfolding after_finish
finish_currents core task (Made call) table sound place = (completed_undisturbed task call (after_return stamp_queues task table)).currents
finish_currents core task (Take mutex mark) table sound place = take_finished_currents core task mutex mark table place.0
finish_currents core task (Transfer queue direction) table sound place = queue_finished_currents core task direction queue table sound place

called_currents : (core task : ℕ) (call : Call) (table : Table) → IsConsistent table → IsCaller table core task → IsCheckedCall table.settings call →
    HasCurrents table (called stamp_queues core task call table).1
unfolding called hold_opened hold_closed
called_currents core task Yield table sound place checked = (yielded_undisturbed core table place.0).currents
called_currents core task (Delay ticks) table sound place checked = at (eqb ticks 0)
  where
    at : (b : Bool) → HasCurrents table (cond {A = Reply × Table} b (Done, yielded stamp_queues core table)
        (Blocked, blocked stamp_queues core task (Made (blocking.Delay ticks)) (Some ticks) None table)).1
    at true = (yielded_undisturbed core table place.0).currents
    at false = blocked_currents core task (Made (blocking.Delay ticks)) (Some ticks) None table place.0
called_currents core task (DelayUntil prev inc) table sound place checked = until_currents core task prev inc table place.0
called_currents core task Finish table sound place checked = at (call_at table.calls task)
  where
    at : (unfinished : Option Unfinished) → HasCurrents table (option_map_or {U = Reply × Table} (λ call. after_finish stamp_queues core task call table)
        unfinished (Done, table)).1
    at None = λ c. refl
    at (Some call) = finish_currents core task call table sound place
called_currents core task (PrioritySet other priority) table sound place checked =
    (priority_undisturbed core other priority table (omega (arith, sound.sized.rows, (checked_task table.settings other checked.passes).1))).currents
called_currents core task (AffinitySet other mask) table sound place checked = (affinity_undisturbed core other mask table).currents
called_currents core task (PreemptOff other) table sound place checked = (off_undisturbed other table).currents
called_currents core task (PreemptOn other) table sound place checked = (on_undisturbed core other table).currents
called_currents core task (Notify note) table sound place checked = (notify_undisturbed core note table
    (omega (arith, sound.sized.rows, (noted_task table.settings note checked.passes).1))).currents
called_currents core task (NotifyWait entry exit ticks index) table sound place checked = awaited_currents core task
    (blocking.NotifyWait entry exit ticks index) ticks (of_slot (slot_of table.settings task index) (wait_entered entry) table.notes) table place.0
called_currents core task (NotifyTake clear ticks index) table sound place checked = awaited_currents core task (blocking.NotifyTake clear ticks index) ticks
    (of_slot (slot_of table.settings task index) take_entered table.notes) table place.0
called_currents core task (StateClear other index) table sound place checked = (forgotten_undisturbed other index table).currents
called_currents core task (ValueClear other bits index) table sound place checked = (bits_undisturbed other bits index table).currents
called_currents core task (MutexTake mutex ticks) table sound place checked = take_currents core task mutex ticks table place.0
called_currents core task (MutexGive mutex) table sound place checked = (give_undisturbed core task mutex table sound place.2
    (checked_mutex table.settings mutex checked.passes)).currents
called_currents core task (QueueSend queue ticks) table sound place checked = queue_called_currents core task Send queue ticks table sound place.0
called_currents core task (QueueReceive queue ticks) table sound place checked = queue_called_currents core task Receive queue ticks table sound place.0
called_currents core task (Suspend other) table sound place checked = suspend_currents core other table
called_currents core task (Resume other) table sound place checked =
    (resume_undisturbed core other table (omega (arith, sound.sized.rows, resume_task table.settings other checked.passes))).currents
called_currents core task HoldOpen table sound place checked = λ c. refl
called_currents core task HoldClose table sound place checked = λ c. refl

-- ---- a step

-- the task of one core is exchanged, and no other
abbrev IsSeated : Control → Control → ℕ → Type 0
IsSeated before later core = running later ≡ slice_set (running before) core (current later core)

kept_seated : (before later : Control) (core : ℕ) → length later.cores ≡ length before.cores → ((c : ℕ) → current later c ≡ current before c) → IsSeated before
    later core
kept_seated before later core sized same =
    let runs = λ (look : CoreLook). look.current in
    let row : running later ≡ running before = ext_get_or 0 (running later) (running before)
    (length-map later.cores runs ∙ sized ∙ sym (length-map before.cores runs))
    (λ i low. get_or-map runs later.cores i no_look ∙ same i ∙ sym (get_or-map runs before.cores i no_look)) in
    row ∙ sym (set-get_or (running before) core 0) ∙ ap (slice_set (running before) core) (get_or-map runs before.cores core no_look ∙ sym (same core))

evicted_currents : (core loser : ℕ) (table : Table) → HasCurrents table (after_eviction stamp_queues core loser table)
unfolding after_eviction
evicted_currents core loser table =
    let winner = current table.control core in
    either_has table _ table (not (eqb winner loser) && is_ready loser table.orders)
    (seek_more core loser (may_move table.control loser winner core) table.control).currents (λ c. refl)

evicted_cores : (core loser : ℕ) (table : Table) → length (after_eviction stamp_queues core loser table).control.cores ≡ length table.control.cores
unfolding after_eviction
evicted_cores core loser table = at (not (eqb winner loser) && is_ready loser table.orders)
  where
    winner : ℕ
    winner = current table.control core

    at : (b : Bool) → length (cond b (record table { control = seek core loser (may_move table.control loser winner core) table.control }) table).control.cores
        ≡ length table.control.cores
    at true = (seek_more core loser (may_move table.control loser winner core) table.control).cores
    at false = refl

selected_seated : (core : ℕ) (table : Table) → core < length table.control.cores → IsSeated table.control (after_select stamp_queues core table).control core
unfolding after_select
selected_seated core table low =
    let runs = λ (look : CoreLook). look.current in
    map-set runs table.control.cores core _ ∙ ap (slice_set (running table.control) core)
    (sym (ap runs (get_or-set_same table.control.cores core _ no_look low)))

switched_seated : (core : ℕ) (table : Table) → core < length table.control.cores → IsSeated table.control (after_switch stamp_queues core table).control core
unfolding after_switch
switched_seated core table low =
    let left = current table.control core in
    let chosen = after_select stamp_queues core table in
    let last = after_eviction stamp_queues core left chosen in
    let runs = λ (look : CoreLook). look.current in
    let row : running last.control ≡ running chosen.control = ext_get_or 0 (running last.control) (running chosen.control)
    (length-map last.control.cores runs ∙ evicted_cores core left chosen ∙ sym (length-map chosen.control.cores runs))
    (λ i below. get_or-map runs last.control.cores i no_look ∙ evicted_currents core left chosen i ∙ sym (get_or-map runs chosen.control.cores i no_look)) in
    row ∙ selected_seated core table low ∙ ap (slice_set (running table.control) core) (sym (evicted_currents core left chosen core))

performed_seated : (step : Step) (table : Table) → IsConsistent table → IsCheckedStep table.settings step → StepFits table step → length
    (performed stamp_queues step table).1.control.cores ≡ length table.control.cores
    → IsSeated table.control (performed stamp_queues step table).1.control (core_of step)
unfolding performed interrupted
performed_seated Tick table sound checked place sized = kept_seated table.control (ticked stamp_queues table).control 0 sized
    (ticked_undisturbed table).currents
performed_seated (Switch core) table sound checked place sized = switched_seated core table place
performed_seated (Interrupt core note) table sound checked place sized = kept_seated table.control (notify stamp_queues core note table).control core sized
    (notify_undisturbed core note table (omega (arith, sound.sized.rows, place.1))).currents
performed_seated (QueueInterrupt core queue direction) table sound checked place sized =
    kept_seated table.control (queue_interrupted stamp_queues core direction queue table).1.control core sized
    (queue_interrupted_undisturbed core direction queue table sound).currents
performed_seated (ResumeInterrupt core task) table sound checked place sized =
    kept_seated table.control (resume_interrupted stamp_queues core task table).1.control core sized
    (resume_interrupted_undisturbed core task table (omega (arith, sound.sized.rows, place.1))).currents
performed_seated (Pass units) table sound checked place sized = kept_seated table.control table.control 0 sized (λ c. refl)
performed_seated (steps.Call core task call) table sound checked place sized =
    kept_seated table.control (called stamp_queues core task call table).1.control core sized
    (called_currents core task call table sound place (checked_call table.settings core task call checked).0)

step_cores : (table : Table) (step : Step) → IsSound table → IsCheckedStep table.settings step → length (step_of step table).1.control.cores ≡ length
    table.control.cores
step_cores table step sound checked =
    (after_sound step table sound checked).consistent.sized.cores ∙ ap (λ (s : Settings). s.cores) (settings_after table step sound) ∙ sym
    sound.consistent.sized.cores

pub step_seats : (table : Table) (step : Step) → IsSound table → IsCheckedStep table.settings step → IsSeated table.control (step_of step table).1.control
    (core_of step)
unfolding after
step_seats table step sound checked = from (refusal stamp_queues step table) refl (step_cores table step sound checked)
  where
    outcome : Option Refusal → Reply × Table
    outcome why = option_map_or (λ why. (Refused why, table)) why (performed stamp_queues step table)

    from : (why : Option Refusal) → refusal stamp_queues step table ≡ why → length (outcome why).1.control.cores ≡ length table.control.cores → IsSeated
        table.control (outcome why).1.control (core_of step)
    from None accepted sized = performed_seated step table sound.consistent checked (in_place step table sound checked.passes accepted) sized
    from (Some why) refused sized = kept_seated table.control table.control (core_of step) refl (λ c. refl)
