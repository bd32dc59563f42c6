-- How far stamps and the tick count go in one step, and what else stays.
use Rattle.std.proofs.Common.{◌≡◌, ℕ, suc, ◌+◌, ◌<◌, ◌≤◌, Bool, true, false, cond, not, eqb, ltb, ◌&&◌, List, [], ◌∷◌, length, Option, Some, None, refl, ap}
use Rattle.std.proofs.Common.{◌∙◌, arith}
use Rattle.std.specs.Prelude.{slice_set}
use Rattle.std.specs.Option.{option_map_or}
use Rattle.bench_types.specs.declared.note.Note.{Note}
use Rattle.bench_types.specs.declared.note.Notification.{Notification}
use Rattle.bench_types.specs.declared.reply.Reply.{Reply}
use Rattle.bench_types.specs.declared.reply.Reply.TheVariants.{Done, Flag, Refused, Until}
use Rattle.bench_types.specs.declared.reply.Reply.TheVariants as reply
use Rattle.bench_types.specs.declared.reply.Refusal.{Refusal}
use Rattle.bench_types.specs.declared.step.Step.{Step}
use Rattle.bench_types.specs.declared.step.Step.TheVariants.{Tick, Switch, Interrupt, QueueInterrupt, ResumeInterrupt, Pass}
use Rattle.bench_types.specs.declared.step.Step.TheVariants as steps
use Rattle.bench_types.specs.declared.step.Call.{Call}
use Rattle.bench_types.specs.declared.step.Call.TheVariants.{Yield, Delay, Finish, PrioritySet, AffinitySet, PreemptOff, PreemptOn, Notify, NotifyWait}
use Rattle.bench_types.specs.declared.step.Call.TheVariants.{NotifyTake, StateClear, ValueClear, MutexTake, MutexGive, QueueSend, QueueReceive, Suspend, Resume, DelayUntil, HoldOpen, HoldClose}
use Rattle.bench_types.specs.declared.step.Direction.{Direction}
use Rattle.bench_types.specs.declared.step.Direction.TheVariants.{Send, Receive}
use Rattle.bench_types.specs.declared.step.BlockingCall.{BlockingCall}
use Rattle.bench_types.specs.declared.step.BlockingCall.TheVariants as blocking
use Rattle.bench_types.specs.declared.step.Unfinished.{Unfinished}
use Rattle.bench_types.specs.declared.step.Unfinished.TheVariants.{Made, Take, Transfer}
use Rattle.bench_types.specs.declared.kernel_data.EventWait.{EventWait}
use Rattle.bench_types.specs.declared.kernel_data.Waiter.{Waiter}
use Rattle.bench_model.specs.Holds.{hold_opened, hold_closed}
use Rattle.bench_model.specs.Until.{next_wake, is_ahead, ticks_to}
use Rattle.bench_model.specs.ControlFields.{with_base, in_use_set, value_set, in_use_and_value_set}
use Rattle.bench_model.specs.Control.{task_at, current, ask_each, ask_its_core}
use Rattle.bench_model.specs.Suspending.{is_suspended, resume_interrupted, resumed, suspended, without_waits}
use Rattle.bench_model.specs.Notes.{note_at, is_waiting, notified, wait_entered, take_entered, of_slot, slot_of}
use Rattle.bench_model.specs.Notifying.{timeout_of, notify, interrupted, state_forgotten, bits_cleared, completed, awaited}
use Rattle.bench_model.specs.Mutexes.{is_marked, held_by, taken, inherited, waited_at, take_from, mutex_take, owed, after_disinherit, timed_out, finish_from}
use Rattle.bench_model.specs.Mutexes.{take_finished, disinherited, first_woken, give_from, mutex_give, waiting_priority}
use Rattle.bench_model.specs.Queues.{can_pass, other_way, passed, queue_at, queue_called, queue_finished, queue_interrupted, queue_waited, with_passed}
use Rattle.bench_model.specs.Refusals.{refusal}
use Rattle.bench_model.specs.State.{call_at, holder_at, after_select, yielded, blocked, after_return}
use Rattle.bench_model.specs.Steps.{woken, ticked, called, performed, after, delayed_until, after_finish}
use Rattle.bench_model.specs.Seek.{seek, may_move, wake, after_eviction, after_switch, shares_its_time, sliced}
use Rattle.bench_model.specs.PriorityAffinity.{capped, in_use_after, priority_set, affinity_set, preemption_off, preemption_on}
use Rattle.bench_model.specs.Table.{Stamps, Table, stamp_queues, is_ready, add_to_ready_list, delay, suspend, advance, due, deadline_left, forget_deadline, first_waiter}
use Rattle.bench_model.specs.Table.{tick_count, set_list_value}
use Rattle.bench_model.specs.Waiters.{event_list}
use Rattle.rule_laws.proofs.Awaiting.{completed_notes}
use Rattle.order_laws.proofs.SoundSteps.{add_to_ready_tick, readied_tick, advanced_tick}
use Rattle.rule_laws.proofs.Ticks.{with_orders, after_wakes, woken_parts}
use Rattle.order_laws.proofs.DueTasks.{length_due, advance_next}

after_select_next : (core : ℕ) (table : Table) → (after_select stamp_queues core table).orders.next ≤ suc table.orders.next
unfolding after_select add_to_ready_list
after_select_next core table = at (is_ready (current table.control core) table.orders)
  where
    at : (b : Bool) → (cond b (add_to_ready_list (current table.control core) table.orders) table.orders).next ≤ suc table.orders.next
    at true = omega arith
    at false = omega arith

after_select_tick : (core : ℕ) (table : Table) → (after_select stamp_queues core table).orders.tick ≡ table.orders.tick
unfolding after_select
after_select_tick core table = at (is_ready (current table.control core) table.orders)
  where
    at : (b : Bool) → (cond b (add_to_ready_list (current table.control core) table.orders) table.orders).tick ≡ table.orders.tick
    at true = add_to_ready_tick table.orders (current table.control core)
    at false = refl

-- seeking a core changes no order, no setting and no hold
abbrev pub IsSameBeside : Table → Table → Type 0
IsSameBeside table next = (next.orders ≡ table.orders) × (next.settings ≡ table.settings) × (next.hold ≡ table.hold)

after_eviction_beside : (core loser : ℕ) (table : Table) → IsSameBeside table (after_eviction stamp_queues core loser table)
unfolding after_eviction
after_eviction_beside core loser table = at (not (eqb (current table.control core) loser) && is_ready loser table.orders)
  where
    at : (b : Bool) → IsSameBeside table (cond b
        (record table { control = seek core loser (may_move table.control loser (current table.control core) core) table.control }) table)
    at true = (refl, refl, refl)
    at false = (refl, refl, refl)

sliced_beside : (table : Table) → IsSameBeside table (sliced stamp_queues table)
unfolding sliced
sliced_beside table = at table.settings.slicing
  where
    at : (b : Bool) → IsSameBeside table (cond b (record table { control = ask_each 0 (shares_its_time stamp_queues table) table.control }) table)
    at true = (refl, refl, refl)
    at false = (refl, refl, refl)

pub turned_next : (core : ℕ) (table : Table) → (after_switch stamp_queues core table).orders.next ≤ suc table.orders.next
unfolding after_switch
turned_next core table = omega (
  arith,
  ap (λ (o : Stamps). o.next) (after_eviction_beside core (current table.control core)
      (after_select stamp_queues core table)).0,
  after_select_next core table,
)

pub turned_tick : (core : ℕ) (table : Table) → (after_switch stamp_queues core table).orders.tick ≡ table.orders.tick
unfolding after_switch
turned_tick core table = ap (λ (o : Stamps). o.tick) (after_eviction_beside core (current table.control core) (after_select stamp_queues core table)).0 ∙
    after_select_tick core table

pub turned_settings : (core : ℕ) (table : Table) → (after_switch stamp_queues core table).settings ≡ table.settings
unfolding after_switch after_select
turned_settings core table = (after_eviction_beside core (current table.control core) (after_select stamp_queues core table)).1

pub turned_hold : (core : ℕ) (table : Table) → (after_switch stamp_queues core table).hold ≡ table.hold
unfolding after_switch after_select
turned_hold core table = (after_eviction_beside core (current table.control core) (after_select stamp_queues core table)).2

-- how far stamps and the tick count go in one step, whose settings stay
abbrev pub IsNear : Table → Table → Type 0
IsNear table next = (next.orders.next ≤ table.orders.next + length table.orders.rows + 1) × (next.orders.tick ≤ table.orders.tick + 1) ×
    (next.settings ≡ table.settings)

-- and whose hold stays
abbrev pub IsNearer : Table → Table → Type 0
IsNearer table next = (next.orders.next ≤ table.orders.next + length table.orders.rows + 1) × (next.orders.tick ≤ table.orders.tick + 1) ×
    (next.settings ≡ table.settings) × (next.hold ≡ table.hold)

beside_near : (table next : Table) → IsSameBeside table next → IsNearer table next
beside_near table next same = (omega (arith, ap (λ (o : Stamps). o.next) same.0), omega (arith, ap (λ (o : Stamps). o.tick) same.0), same.1, same.2)

woken_next : (tasks : List ℕ) (table : Table) → (woken stamp_queues tasks table).orders.next ≡ table.orders.next + length tasks
unfolding wake add_to_ready_list
woken_next [] table = omega arith
woken_next (task ∷ tasks) table = omega (arith, woken_next tasks (wake stamp_queues 0 task table))

woken_same_tick : (tasks : List ℕ) (table : Table) → (woken stamp_queues tasks table).orders.tick ≡ table.orders.tick
woken_same_tick tasks table = ap (λ (t : Table). t.orders.tick) (woken_parts tasks table) ∙ readied_tick tasks table.orders

ticked_near : (table : Table) → IsNearer table (ticked stamp_queues table)
unfolding ticked
ticked_near table =
    let later = advance table.orders in
    let woke = with_orders table later in
    let same = sliced_beside (after_wakes table) in (
      omega (arith, ap (λ (o : Stamps). o.next) same.0, woken_next (due later) woke, length_due later, advance_next table.orders),
      omega (arith, ap (λ (o : Stamps). o.tick) same.0, woken_same_tick (due later) woke, advanced_tick table.orders),
      same.1 ∙ ap (λ (t : Table). t.settings) (woken_parts (due later) woke),
      same.2 ∙ ap (λ (t : Table). t.hold) (woken_parts (due later) woke),
    )

after_select_near : (core : ℕ) (table : Table) → 0 < length table.orders.rows → IsNearer table (after_switch stamp_queues core table)
after_select_near core table some = (
  omega (arith, turned_next core table),
  omega (arith, turned_tick core table),
  turned_settings core table,
  turned_hold core
      table,
)

in_use_near : (task priority : ℕ) (table : Table) → 0 < length table.orders.rows → IsNearer table (in_use_set stamp_queues task priority table)
unfolding in_use_set add_to_ready_list
in_use_near task priority table some = at (is_ready task table.orders)
  where
    at : (b : Bool) → IsNearer table (record table { orders = cond b (add_to_ready_list task table.orders) table.orders })
    at true = (omega arith, omega arith, refl, refl)
    at false = (omega arith, omega arith, refl, refl)

-- another list value
value_near : (task value : ℕ) (table next : Table) → IsNearer table next → IsNearer table (value_set stamp_queues task value next)
unfolding set_list_value
value_near task value table next near = near

either_near : (table one other : Table) (b : Bool) → IsNearer table one → IsNearer table other → IsNearer table (cond b one other)
either_near table one other true here there = here
either_near table one other false here there = there

abbrev based : ℕ → ℕ → Table → Table
based task priority table = record table { control = with_base task (capped table.settings.priorities priority) table.control }

abbrev in_use : ℕ → ℕ → Table → ℕ
in_use task priority table = in_use_after (task_at table.control task) (capped table.settings.priorities priority)

priority_near : (acting task priority : ℕ) (table : Table) → 0 < length table.orders.rows → IsNearer table
    (priority_set stamp_queues acting task priority table)
unfolding priority_set
priority_near acting task priority table some =
    either_near table table _ (eqb (capped table.settings.priorities priority) (task_at table.control task).base) (omega arith, omega arith, refl, refl)
    (value_near task (capped table.settings.priorities priority) table
    (in_use_set stamp_queues task (in_use task priority table) (based task priority table))
    (in_use_near task (in_use task priority table) (based task priority table) some))

completed_beside : (task : ℕ) (call : BlockingCall) (table : Table) → IsSameBeside table (completed task call table).1
completed_beside task call table =
    let same = (completed_notes task call table).1 in
    (ap (λ (t : Table). t.orders) same, ap (λ (t : Table). t.settings) same, ap (λ (t : Table). t.hold) same)

-- at most so many stamps are given, at one tick count and with the same settings and hold
abbrev IsGiving : ℕ → Table → Table → Type 0
IsGiving stamps table next = (next.orders.next ≤ table.orders.next + stamps) × (next.orders.tick ≡ table.orders.tick) × (next.settings ≡ table.settings) ×
    (next.hold ≡ table.hold)

giving_near : (table next : Table) → 0 < length table.orders.rows → IsGiving 2 table next → IsNearer table next
giving_near table next some gives = (omega (arith, gives.0), omega (arith, gives.1), gives.2, gives.3)

giving_then : (a b : ℕ) (table next last : Table) → IsGiving a table next → IsGiving b next last → IsGiving (a + b) table last
giving_then a b table next last first second = (omega (arith, first.0, second.0), second.1 ∙ first.1, second.2 ∙ first.2, second.3 ∙ first.3)

giving_none : (a : ℕ) (table : Table) → IsGiving a table table
giving_none a table = (omega arith, refl, refl, refl)

either_gives : (a : ℕ) (table one other : Table) (b : Bool) → IsGiving a table one → IsGiving a table other → IsGiving a table (cond b one other)
either_gives a table one other true here there = here
either_gives a table one other false here there = there

in_use_gives : (task priority : ℕ) (table : Table) → IsGiving 1 table (in_use_set stamp_queues task priority table)
unfolding in_use_set add_to_ready_list
in_use_gives task priority table = at (is_ready task table.orders)
  where
    at : (b : Bool) → IsGiving 1 table (record table { orders = cond b (add_to_ready_list task table.orders) table.orders })
    at true = (omega arith, refl, refl, refl)
    at false = (omega arith, refl, refl, refl)

both_gives : (task priority : ℕ) (table : Table) → IsGiving 1 table (in_use_and_value_set stamp_queues task priority table)
unfolding in_use_and_value_set set_list_value
both_gives task priority table = in_use_gives task priority table

inherited_gives : (acting holder priority : ℕ) (table : Table) → IsGiving 1 table (inherited stamp_queues acting holder priority table)
unfolding inherited
inherited_gives acting holder priority table =
    let later = in_use_and_value_set stamp_queues holder priority table in
    let gives = both_gives holder priority table in
    either_gives 1 table _ table (ltb (task_at table.control holder).in_use priority) (either_gives 1 table _ later (is_ready holder table.orders) gives gives)
    (giving_none 1 table)

blocked_gives : (core task : ℕ) (call : Unfinished) (ticks : Option ℕ) (wait : Option EventWait) (table : Table) → IsGiving 1 table
    (blocked stamp_queues core task call ticks wait table)
unfolding blocked delay
blocked_gives core task call ticks wait table = (omega arith, refl, refl, refl)

waited_gives : (core task mutex holder : ℕ) (ticks : Option ℕ) (table : Table) → IsGiving 2 table (waited_at stamp_queues core task mutex holder ticks table)
unfolding waited_at
waited_gives core task mutex holder ticks table =
    let priority = (task_at table.control task).in_use in
    let wait : EventWait = record { list = mutex; priority = waiting_priority stamp_queues task table } in
    let inheriting = inherited stamp_queues core holder priority table in
    giving_then 1 1 table inheriting (blocked stamp_queues core task (Take mutex (is_marked table.control task holder)) ticks (Some wait) inheriting)
    (inherited_gives core holder priority table)
    (blocked_gives core task (Take mutex (is_marked table.control task holder)) ticks (Some wait) inheriting)

after_disinherit_gives : (acting task priority : ℕ) (table : Table) → IsGiving 1 table (after_disinherit stamp_queues acting task priority table)
unfolding after_disinherit
after_disinherit_gives acting task priority table = either_gives 1 table table _ (eqb (task_at table.control task).in_use priority) (giving_none 1 table)
    (both_gives task priority table)

ended_gives : (task : ℕ) (table : Table) → IsGiving 0 table (after_return stamp_queues task table)
unfolding forget_deadline
ended_gives task table = giving_none 0 table

timed_out_gives : (acting task mutex : ℕ) (mark : Bool) (holder : ℕ) (table : Table) → IsGiving 1 table
    (timed_out stamp_queues acting task mutex mark holder table)
unfolding timed_out
timed_out_gives acting task mutex mark holder table =
    either_gives 1 table _ table (mark && not (eqb holder task) && eqb (held_by table.holders holder) 1)
    (after_disinherit_gives acting holder (owed stamp_queues holder mutex table) table) (giving_none 1 table)

taken_gives : (task mutex : ℕ) (table : Table) → IsGiving 0 table (taken task mutex table)
unfolding taken
taken_gives task mutex table = giving_none 0 table

take_near : (core task mutex ticks : ℕ) (table : Table) → IsGiving 2 table (mutex_take stamp_queues core task mutex ticks table).1
unfolding mutex_take
take_near core task mutex ticks table = at (holder_at table.holders mutex)
  where
    waits : ℕ → Table
    waits holder = waited_at stamp_queues core task mutex holder (timeout_of ticks) table

    some : (holder : ℕ) (b : Bool) → IsGiving 2 table (cond {A = Reply × Table} b (Flag false, table) (reply.Blocked, waits holder)).1
    some holder true = giving_none 2 table
    some holder false = waited_gives core task mutex holder (timeout_of ticks) table

    at : (holder : Option ℕ) → IsGiving 2 table (take_from stamp_queues holder core task mutex ticks table).1
    at None = giving_then 0 2 table (taken task mutex table) (taken task mutex table) (taken_gives task mutex table) (giving_none 2 (taken task mutex table))
    at (Some holder) = some holder (eqb ticks 0)

take_finished_near : (core task mutex : ℕ) (mark : Bool) (table : Table) → IsGiving 2 table (take_finished stamp_queues core task mutex mark table).1
unfolding take_finished
take_finished_near core task mutex mark table = at (holder_at table.holders mutex)
  where
    left : Option ℕ
    left = deadline_left task table.orders

    over : Table
    over = after_return stamp_queues task table

    out : ℕ → Table
    out holder = timed_out stamp_queues core task mutex mark holder over

    waits : ℕ → Table
    waits holder = waited_at stamp_queues core task mutex holder left table

    some : (holder : ℕ) (b : Bool) → IsGiving 2 table (cond {A = Reply × Table} b (Flag false, out holder) (reply.Blocked, waits holder)).1
    some holder true =
        let gives = giving_then 0 1 table over (out holder) (ended_gives task table) (timed_out_gives core task mutex mark holder over) in
        (omega (arith, gives.0), gives.1, gives.2, gives.3)
    some holder false = waited_gives core task mutex holder left table

    at : (holder : Option ℕ) → IsGiving 2 table (finish_from stamp_queues holder core task mutex mark table).1
    at None =
        let gives = giving_then 0 0 table over (taken task mutex over) (ended_gives task table) (taken_gives task mutex over) in
        (omega (arith, gives.0), gives.1, gives.2, gives.3)
    at (Some holder) = some holder (option_map_or (λ ticks. eqb ticks 0) left false)

first_woken_gives : (acting mutex : ℕ) (table : Table) → IsGiving 1 table (first_woken stamp_queues acting mutex table)
unfolding first_woken wake add_to_ready_list
first_woken_gives acting mutex table = at (first_waiter mutex table.orders)
  where
    at : (first : Option Waiter) → IsGiving 1 table (option_map_or (λ (waiter : Waiter). wake stamp_queues acting waiter.task table) first table)
    at None = giving_none 1 table
    at (Some waiter) = (omega arith, refl, refl, refl)

passed_gives : (core : ℕ) (direction : Direction) (queue : ℕ) (table : Table) → IsGiving 1 table (passed stamp_queues core direction queue table)
unfolding passed
passed_gives core direction queue table =
    let gone = with_passed direction queue table in
    let list = event_list table.settings (other_way direction) queue in
    giving_then 0 1 table gone (first_woken stamp_queues core list gone) (giving_none 0 table) (first_woken_gives core list gone)

queue_waited_gives : (core task : ℕ) (direction : Direction) (queue : ℕ) (ticks : Option ℕ) (table : Table) → IsGiving 1 table
    (queue_waited stamp_queues core task direction queue ticks table)
unfolding queue_waited
queue_waited_gives core task direction queue ticks table = blocked_gives core task (Transfer queue direction) ticks
    (Some (record { list = event_list table.settings direction queue; priority = waiting_priority stamp_queues task table })) table

one_more : (table next : Table) → IsGiving 1 table next → IsGiving 2 table next
one_more table next gives = (omega (arith, gives.0), gives.1, gives.2, gives.3)

queue_called_near : (core task : ℕ) (direction : Direction) (queue ticks : ℕ) (table : Table) → IsGiving 2 table
    (queue_called stamp_queues core task direction queue ticks table).1
unfolding queue_called
queue_called_near core task direction queue ticks table = at (can_pass direction (queue_at table.queues queue)) (eqb ticks 0)
  where
    waits : Table
    waits = queue_waited stamp_queues core task direction queue (timeout_of ticks) table

    at : (b d : Bool) → IsGiving 2 table (cond {A = Reply × Table} b (Flag true, passed stamp_queues core direction queue table)
        (cond d (Flag false, table) (reply.Blocked, waits))).1
    at true d = one_more table (passed stamp_queues core direction queue table) (passed_gives core direction queue table)
    at false true = giving_none 2 table
    at false false = one_more table waits (queue_waited_gives core task direction queue (timeout_of ticks) table)

queue_finished_near : (core task : ℕ) (direction : Direction) (queue : ℕ) (table : Table) → IsGiving 2 table
    (queue_finished stamp_queues core task direction queue table).1
unfolding queue_finished
queue_finished_near core task direction queue table =
    at (can_pass direction (queue_at table.queues queue)) (option_map_or (λ ticks. eqb ticks 0) left false)
  where
    left : Option ℕ
    left = deadline_left task table.orders

    over : Table
    over = after_return stamp_queues task table

    waits : Table
    waits = queue_waited stamp_queues core task direction queue left table

    at : (b d : Bool) → IsGiving 2 table (cond {A = Reply × Table} b (Flag true, passed stamp_queues core direction queue over)
        (cond d (Flag false, over) (reply.Blocked, waits))).1
    at true d = one_more table (passed stamp_queues core direction queue over)
        (giving_then 0 1 table over (passed stamp_queues core direction queue over) (ended_gives task table) (passed_gives core direction queue over))
    at false true = giving_then 0 2 table over over (ended_gives task table) (giving_none 2 over)
    at false false = one_more table waits (queue_waited_gives core task direction queue left table)

queue_interrupted_near : (core : ℕ) (direction : Direction) (queue : ℕ) (table : Table) → IsGiving 2 table
    (queue_interrupted stamp_queues core direction queue table).1
unfolding queue_interrupted
queue_interrupted_near core direction queue table = either_gives 2 table (passed stamp_queues core direction queue table) table
    (can_pass direction (queue_at table.queues queue)) (one_more table (passed stamp_queues core direction queue table) (passed_gives core direction queue table))
    (giving_none 2 table)

finished_near : (core task : ℕ) (call : Unfinished) (table : Table) → 0 < length table.orders.rows → IsNearer table
    (after_finish stamp_queues core task call table).1
unfolding after_finish
finished_near core task (Made call) table some =
    let over = after_return stamp_queues task table in
    let gives = ended_gives task table in
    let same = completed_beside task call over in
    (omega (arith, gives.0, ap (λ (o : Stamps). o.next) same.0), omega (arith, gives.1, ap (λ (o : Stamps). o.tick) same.0), same.1 ∙ gives.2, same.2 ∙ gives.3)
finished_near core task (Take mutex mark) table some = giving_near table (take_finished stamp_queues core task mutex mark table).1 some
    (take_finished_near core task mutex mark table)
finished_near core task (Transfer queue direction) table some = giving_near table (queue_finished stamp_queues core task direction queue table).1 some
    (queue_finished_near core task direction queue table)

call_finished_near : (core task : ℕ) (table : Table) → 0 < length table.orders.rows → IsNearer table
    (option_map_or {U = Reply × Table} (λ call. after_finish stamp_queues core task call table) (call_at table.calls task) (Done, table)).1
call_finished_near core task table some = at (call_at table.calls task)
  where
    at : (unfinished : Option Unfinished) → IsNearer table (option_map_or {U = Reply × Table} (λ call. after_finish stamp_queues core task call table)
        unfinished (Done, table)).1
    at None = (omega arith, omega arith, refl, refl)
    at (Some call) = finished_near core task call table some

disinherited_gives : (core task : ℕ) (table : Table) → IsGiving 1 table (disinherited stamp_queues core task table)
unfolding disinherited
disinherited_gives core task table =
    either_gives 1 table _ table (eqb (held_by table.holders task) 0) (after_disinherit_gives core task (task_at table.control task).base table)
    (giving_none 1 table)

give_near : (core task mutex : ℕ) (table : Table) → IsGiving 2 table (mutex_give stamp_queues core task mutex table).1
unfolding mutex_give
give_near core task mutex table = at (holder_at table.holders mutex)
  where
    freed : Table
    freed = record table { holders = slice_set table.holders mutex None }

    lower : Table
    lower = disinherited stamp_queues core task freed

    at : (holder : Option ℕ) → IsGiving 2 table (give_from stamp_queues holder core task mutex table).1
    at None = giving_none 2 table
    at (Some holder) = giving_then 1 1 table lower (first_woken stamp_queues core mutex lower)
        (giving_then 0 1 table freed lower (giving_none 0 table) (disinherited_gives core task freed)) (first_woken_gives core mutex lower)

notify_near : (acting : ℕ) (note : Note) (table : Table) → 0 < length table.orders.rows → IsNearer table (notify stamp_queues acting note table)
unfolding notify wake add_to_ready_list
notify_near acting note table some = at (is_waiting old.state)
  where
    old : Notification
    old = note_at table.notes (slot_of table.settings note.task note.index)

    known : Table
    known = record table { notes = slice_set table.notes (slot_of table.settings note.task note.index) (notified note.action old) }

    at : (b : Bool) → IsNearer table (cond b (wake stamp_queues acting note.task known) known)
    at true = (omega arith, omega arith, refl, refl)
    at false = (omega arith, omega arith, refl, refl)

timeout_near : (core task : ℕ) (call : BlockingCall) (ticks : ℕ) (entered : Bool × List Notification) (table : Table) → 0 < length table.orders.rows → IsNearer
    table (awaited stamp_queues core task call ticks entered table).1
unfolding awaited blocked delay
timeout_near core task call ticks entered table some = at (entered.0 && ltb 0 ticks)
  where
    waiting : Table
    waiting = record table { notes = entered.1 }

    at : (b : Bool) → IsNearer table (cond {A = Reply × Table} b (reply.Blocked, blocked stamp_queues core task (Made call) (timeout_of ticks) None waiting)
        (completed task call waiting)).1
    at true = (omega arith, omega arith, refl, refl)
    at false = beside_near table (completed task call waiting).1 (completed_beside task call waiting)

suspend_near : (acting task : ℕ) (table : Table) → 0 < length table.orders.rows → IsNearer table (suspended stamp_queues acting task table)
unfolding suspended suspend
suspend_near acting task table some = at (is_suspended stamp_queues task table)
  where
    at : (b : Bool) → IsNearer table (cond b table (record table {
      control = ask_its_core acting task table.control;
      notes = without_waits table.settings.notes task table.notes;
      orders = suspend task table.orders;
    }))
    at true = (omega arith, omega arith, refl, refl)
    at false = (omega arith, omega arith, refl, refl)

resume_near : (acting task : ℕ) (table : Table) → 0 < length table.orders.rows → IsNearer table (resumed stamp_queues acting task table)
unfolding resumed wake add_to_ready_list
resume_near acting task table some = at (is_suspended stamp_queues task table)
  where
    at : (b : Bool) → IsNearer table (cond b (wake stamp_queues acting task table) table)
    at true = (omega arith, omega arith, refl, refl)
    at false = (omega arith, omega arith, refl, refl)

-- a call that opens or closes no hold
abbrev pub keeps_hold : Call → Bool
keeps_hold HoldOpen = false
keeps_hold HoldClose = false
keeps_hold call = true

until_near : (core task prev inc : ℕ) (table : Table) → 0 < length table.orders.rows → IsNearer table (delayed_until stamp_queues core task prev inc table).1
unfolding delayed_until yielded blocked delay
until_near core task prev inc table some = at (is_ahead now prev wake)
  where
    now : ℕ
    now = tick_count table.orders

    wake : ℕ
    wake = next_wake prev inc

    at : (b : Bool) → IsNearer table (cond {A = Reply × Table} b (
      Until true wake,
      blocked stamp_queues core task (Made (blocking.DelayUntil prev inc))
          (Some (ticks_to now wake)) None table,
    ) (Until false wake, yielded stamp_queues core table)).1
    at true = (omega arith, omega arith, refl, refl)
    at false = (omega arith, omega arith, refl, refl)

-- and whose hold stays, unless the step is for it
abbrev pub IsNearBut : Bool → Table → Table → Type 0
IsNearBut keeps table next = (next.orders.next ≤ table.orders.next + length table.orders.rows + 1) × (next.orders.tick ≤ table.orders.tick + 1) ×
    (next.settings ≡ table.settings) × (keeps ≡ true → next.hold ≡ table.hold)

pub called_near : (core task : ℕ) (call : Call) (table : Table) → 0 < length table.orders.rows → IsNearBut (keeps_hold call) table
    (called stamp_queues core task call table).1
unfolding called yielded blocked delay affinity_set preemption_off preemption_on state_forgotten bits_cleared hold_opened hold_closed
called_near core task Yield table some = (omega arith, omega arith, refl, λ keeps. refl)
called_near core task (Delay ticks) table some = let near = at (eqb ticks 0) in (near.0, near.1, near.2, λ keeps. near.3)
  where
    at : (b : Bool) → IsNearer table (cond {A = Reply × Table} b (Done, yielded stamp_queues core table)
        (reply.Blocked, blocked stamp_queues core task (Made (blocking.Delay ticks)) (Some ticks) None table)).1
    at true = (omega arith, omega arith, refl, refl)
    at false = (omega arith, omega arith, refl, refl)
called_near core task (DelayUntil prev inc) table some = let near = until_near core task prev inc table some in (near.0, near.1, near.2, λ keeps. near.3)
called_near core task HoldOpen table some = (omega arith, omega arith, refl, λ keeps. absurd (cc (keeps)))
called_near core task HoldClose table some = (omega arith, omega arith, refl, λ keeps. absurd (cc (keeps)))
called_near core task Finish table some = let near = call_finished_near core task table some in (near.0, near.1, near.2, λ keeps. near.3)
called_near core task (PrioritySet other priority) table some = let near = priority_near core other priority table some in
    (near.0, near.1, near.2, λ keeps. near.3)
called_near core task (AffinitySet other mask) table some = (omega arith, omega arith, refl, λ keeps. refl)
called_near core task (PreemptOff other) table some = (omega arith, omega arith, refl, λ keeps. refl)
called_near core task (PreemptOn other) table some = (omega arith, omega arith, refl, λ keeps. refl)
called_near core task (Notify note) table some = let near = notify_near core note table some in (near.0, near.1, near.2, λ keeps. near.3)
called_near core task (NotifyWait entry exit ticks index) table some = let near = timeout_near core task (blocking.NotifyWait entry exit ticks index) ticks
    (of_slot (slot_of table.settings task index) (wait_entered entry) table.notes) table some in (near.0, near.1, near.2, λ keeps. near.3)
called_near core task (NotifyTake clear ticks index) table some = let near = timeout_near core task (blocking.NotifyTake clear ticks index) ticks
    (of_slot (slot_of table.settings task index) take_entered table.notes) table some in (near.0, near.1, near.2, λ keeps. near.3)
called_near core task (StateClear other index) table some = (omega arith, omega arith, refl, λ keeps. refl)
called_near core task (ValueClear other bits index) table some = (omega arith, omega arith, refl, λ keeps. refl)
called_near core task (MutexTake mutex ticks) table some = let near = giving_near table (mutex_take stamp_queues core task mutex ticks table).1 some
    (take_near core task mutex ticks table) in (near.0, near.1, near.2, λ keeps. near.3)
called_near core task (MutexGive mutex) table some = let near = giving_near table (mutex_give stamp_queues core task mutex table).1 some
    (give_near core task mutex table) in (near.0, near.1, near.2, λ keeps. near.3)
called_near core task (QueueSend queue ticks) table some = let near = giving_near table (queue_called stamp_queues core task Send queue ticks table).1 some
    (queue_called_near core task Send queue ticks table) in (near.0, near.1, near.2, λ keeps. near.3)
called_near core task (Suspend other) table some = let near = suspend_near core other table some in (near.0, near.1, near.2, λ keeps. near.3)
called_near core task (Resume other) table some = let near = resume_near core other table some in (near.0, near.1, near.2, λ keeps. near.3)
called_near core task (QueueReceive queue ticks) table some = let near = giving_near table (queue_called stamp_queues core task Receive queue ticks table).1 some
    (queue_called_near core task Receive queue ticks table) in (near.0, near.1, near.2, λ keeps. near.3)

abbrev pub keeps_step : Step → Bool
keeps_step (steps.Call core task call) = keeps_hold call
keeps_step Tick = true
keeps_step (Switch core) = true
keeps_step (Interrupt core note) = true
keeps_step (QueueInterrupt core queue direction) = true
keeps_step (ResumeInterrupt core task) = true
keeps_step (Pass units) = true

pub performed_near : (step : Step) (table : Table) → 0 < length table.orders.rows → IsNearBut (keeps_step step) table (performed stamp_queues step table).1
unfolding performed interrupted resume_interrupted
performed_near Tick table some = let near = ticked_near table in (near.0, near.1, near.2, λ keeps. near.3)
performed_near (Switch core) table some = let near = after_select_near core table some in (near.0, near.1, near.2, λ keeps. near.3)
performed_near (steps.Call core task call) table some = called_near core task call table some
performed_near (Interrupt core note) table some = let near = notify_near core note table some in (near.0, near.1, near.2, λ keeps. near.3)
performed_near (QueueInterrupt core queue direction) table some = let near = giving_near table (queue_interrupted stamp_queues core direction queue table).1 some
    (queue_interrupted_near core direction queue table) in (near.0, near.1, near.2, λ keeps. near.3)
performed_near (ResumeInterrupt core task) table some = let near = resume_near core task table some in (near.0, near.1, near.2, λ keeps. near.3)
performed_near (Pass units) table some = (omega arith, omega arith, refl, λ keeps. refl)

pub after_near : (step : Step) (table : Table) → 0 < length table.orders.rows → IsNear table (after stamp_queues step table).1
unfolding after
after_near step table some = at (refusal stamp_queues step table)
  where
    at : (why : Option Refusal) → IsNear table (option_map_or {U = Reply × Table} (λ why. (Refused why, table)) why (performed stamp_queues step table)).1
    at None = let near = performed_near step table some in (near.0, near.1, near.2)
    at (Some why) = (omega arith, omega arith, refl)
