-- What a call finds that is not refused, and that every step leaves an open hold as it has to be.
use Rattle.std.proofs.Common.{◌≡◌, ℕ, ◌+◌, ◌-◌, ◌<◌, ◌≤◌, Bool, true, false, cond, not, eqb, ◌&&◌, length, Option, Some, None, Ok, refl, sym, ap, subst, ◌∙◌}
use Rattle.std.proofs.Common.{arith, ltb, List}
use Rattle.std.specs.Prelude.{is_some}
use Rattle.std.specs.Option.{option_or, ForSome, option_map_or}
use Rattle.std.proofs.lemmas.Bool.Decides.{nat_tests}
use Rattle.bench_types.specs.declared.kernel_data.Hold.{Hold}
use Rattle.bench_types.specs.declared.kernel_data.Settings.{Settings}
use Rattle.bench_types.specs.declared.reply.Refusal.{Refusal}
use Rattle.bench_types.specs.declared.reply.Reply.{Reply}
use Rattle.bench_types.specs.declared.reply.Reply.TheVariants.{Done, Blocked, Flag, Until, Refused}
use Rattle.bench_types.specs.declared.step.Step.{Step}
use Rattle.bench_types.specs.declared.step.Step.TheVariants as steps
use Rattle.bench_types.specs.declared.step.Call.{Call}
use Rattle.bench_types.specs.declared.step.Call.TheVariants.{Yield, Delay, DelayUntil, Finish, PrioritySet, AffinitySet, PreemptOff, PreemptOn, Notify}
use Rattle.bench_types.specs.declared.step.Call.TheVariants.{NotifyWait, NotifyTake, StateClear, ValueClear, MutexTake, MutexGive, QueueSend, QueueReceive, Suspend, Resume, HoldOpen, HoldClose}
use Rattle.bench_types.specs.declared.step.BlockingCall.{BlockingCall}
use Rattle.bench_types.specs.declared.step.BlockingCall.TheVariants as blocking
use Rattle.bench_types.specs.declared.step.Direction.{Direction}
use Rattle.bench_types.specs.declared.step.Direction.TheVariants.{Send, Receive}
use Rattle.bench_types.specs.declared.step.Unfinished.{Unfinished}
use Rattle.bench_types.specs.declared.step.Unfinished.TheVariants.{Made, Take, Transfer}
use Rattle.bench_types.specs.declared.kernel_data.EventWait.{EventWait}
use Rattle.bench_types.specs.declared.note.Notification.{Notification}
use Rattle.bench_model.specs.Mutexes.{is_marked, inherited, waited_at, waiting_priority, take_from, mutex_take}
use Rattle.bench_model.specs.Until.{next_wake, is_ahead, ticks_to}
use Rattle.order_laws.proofs.SoundMutexes.{standing_same}
use Rattle.bench_model.specs.declared.row.TaskState.TheVariants as standings
use Rattle.bench_model.specs.Control.{current, is_due, task_at}
use Rattle.bench_model.specs.Holds.{is_held_by, is_held_elsewhere, depth_of, hold_opened, hold_closed}
use Rattle.bench_model.specs.Refusals.{call_refusal, give_refusal, would_block, hold_refusal, refusal}
use Rattle.bench_model.specs.State.{State, QueueOps, call_at, holder_at, yielded, blocked}
use Rattle.bench_model.specs.Table.{Table, stamp_queues, is_ready, stands_ready, ahead, delay, tick_count}
use Rattle.bench_model.specs.Sound.{IsCaller, IsConsistent, IsHeldWell}
use Rattle.std.proofs.lemmas.Bool.{eqb-true, true_from_ne_false}
use Rattle.std.proofs.lemmas.Option.{same_Some}
use Rattle.bench_types.proofs.Passes.{both_pass, checked_core, checked_index, checked_mutex, checked_queue, checked_task, noted_index, noted_task}
use Rattle.bench_types.specs.Step.{IsCheckedStep, IsCheckedCall, step_check, core_check, note_check, queue_check, resume_check, suspending_check, task_check, call_check, ◌>>◌}
use Rattle.bench_types.specs.Limits.{max_depth}
use Rattle.bench_model.specs.Notes.{wait_entered, take_entered, of_slot, slot_of}
use Rattle.bench_model.specs.Notifying.{interrupted, timeout_of, completed, awaited}
use Rattle.bench_model.specs.Queues.{can_pass, passed, queue_at, queue_called, queue_interrupted, queue_waited}
use Rattle.bench_model.specs.Seek.{after_switch}
use Rattle.bench_model.specs.Suspending.{suspended}
use Rattle.bench_model.specs.Steps.{ticked, called, performed, delayed_until, after}
use Rattle.bench_model.specs.Sound.{StepFits, IsSound}
use Rattle.bench_model.specs.Waiters.{event_list}
use Rattle.step_laws.proofs.Nears.{keeps_hold, called_near, turned_hold}
use Rattle.step_laws.proofs.Undisturbed.{IsCalmFor, IsUndisturbed, calm_for, held_well, hold_kept, quiet_entered, suspend_calm, suspend_waits, resume_undisturbed, resume_interrupted_undisturbed, yielded_undisturbed, until_undisturbed, priority_undisturbed, affinity_undisturbed}
use Rattle.step_laws.proofs.Undisturbed.{off_undisturbed, on_undisturbed, notify_undisturbed, timeout_undisturbed, forgotten_undisturbed, bits_undisturbed}
use Rattle.step_laws.proofs.Undisturbed.{take_undisturbed, give_undisturbed, queue_called_undisturbed, queue_interrupted_undisturbed, ticked_undisturbed, inherited_undisturbed}

either_none : {A : Type 0} (one other : Option A) → option_or one other ≡ None → (one ≡ None) × (other ≡ None)
either_none None other none = (refl, none)
either_none (Some x) other none = absurd (cc (none))

-- a call that is not refused: no other core holds the kernel, its task is its core's, and the core is not due, unless it holds the
-- kernel itself
pub record IsAccepted {Orders : Type 0} (ops : QueueOps Orders) (core task : ℕ) (call : Call) (state : State Orders) : Type 0 where
  pub free : is_held_elsewhere core state.hold ≡ false
  pub current : current state.control core ≡ task
  pub may_call : (is_due state.control core && not (is_held_by core state.hold)) ≡ false
  pub fits : call_refusal (call_at state.calls task) call ≡ None
  pub held : hold_refusal ops core task call state ≡ None
  pub own : give_refusal state.holders task call ≡ None

pub accepted : {Orders : Type 0} (ops : QueueOps Orders) (core task : ℕ) (call : Call) (state : State Orders) → refusal ops (steps.Call core task call) state ≡
    None → IsAccepted ops core task call state
unfolding refusal
accepted ops core task call state none = at (is_held_elsewhere core state.hold) refl (eqb (current state.control core) task) refl
    (is_due state.control core && not (is_held_by core state.hold)) refl
  where
    at : (b : Bool) → is_held_elsewhere core state.hold ≡ b → (d : Bool) → eqb (current state.control core) task ≡ d → (e : Bool) →
        (is_due state.control core && not (is_held_by core state.hold)) ≡ e → IsAccepted ops core task call state
    at true elsewhere d runs e due = absurd (cc (none, elsewhere))
    at false here false other e due = absurd (cc (none, here, other))
    at false here true runs true due = absurd (cc (none, here, runs, due))
    at false here true runs false due =
        let first = either_none (call_refusal (call_at state.calls task) call) _ (rest here runs due) in
        let second = either_none (hold_refusal ops core task call state) (give_refusal state.holders task call) first.1 in
        record { free = here; current = grind (arith, nat_tests, runs); may_call = due; fits = first.0; held = second.0; own = second.1 }
      where
        rest : is_held_elsewhere core state.hold ≡ false → eqb (current state.control core) task ≡ true →
            (is_due state.control core && not (is_held_by core state.hold)) ≡ false → option_or (call_refusal (call_at state.calls task) call)
            (option_or (hold_refusal ops core task call state) (give_refusal state.holders task call)) ≡ None
        rest here runs due = cc (none, here, runs, due)

-- the hold of a core that holds the kernel
pub its_hold : (core : ℕ) (hold : Option Hold) → is_held_by core hold ≡ true → (it : Hold) × (hold ≡ Some it) × (it.core ≡ core)
its_hold core None is = absurd (cc (is))
its_hold core (Some it) is = (it, refl, grind (arith, nat_tests, is))

pub depth_most : (table : Table) → IsSound table → depth_of table.hold ≤ max_depth
depth_most table sound = at table.hold refl
  where
    at : (hold : Option Hold) → table.hold ≡ hold → depth_of hold ≤ max_depth
    at None free = omega arith
    at (Some hold) is = (sound.held hold is).depth.1

-- a hold that no other core has open is the core's
pub own_hold : (core : ℕ) (hold : Hold) → is_held_elsewhere core (Some hold) ≡ false → hold.core ≡ core
own_hold core hold free = grind (arith, nat_tests, free)

-- the current task of a core on which a call is accepted is ready
caller_ready : (core : ℕ) (table : Table) → IsSound table → core < length table.control.cores → (is_due table.control core && not (is_held_by core table.hold))
    ≡ false → is_ready (current table.control core) table.orders ≡ true
caller_ready core table sound low may = at (is_due table.control core) refl (is_held_by core table.hold) refl
  where
    at : (b : Bool) → is_due table.control core ≡ b → (d : Bool) → is_held_by core table.hold ≡ d → is_ready (current table.control core) table.orders ≡ true
    at false settled d held = true_from_ne_false (is_ready (current table.control core) table.orders)
        (λ waits. cc (sound.consistent.in_place.blocked_is_due core low waits, settled))
    at true is true held = let it = its_hold core table.hold held in subst (λ c. is_ready (current table.control c) table.orders ≡ true) it.2
        (sound.held it.0 it.1).ready
    at true is false held = absurd (cc (may, is, held))

-- of a checked step that is not refused
pub in_place : (step : Step) (table : Table) → IsSound table → step_check table.settings step ≡ Ok tt → refusal stamp_queues step table ≡ None → StepFits table
    step
in_place steps.Tick table sound checked none = tt
in_place (steps.Switch core) table sound checked none = omega (arith, sound.consistent.sized.cores, checked_core table.settings core checked)
in_place (steps.Interrupt core note) table sound checked none =
    let both = both_pass (core_check table.settings core) (note_check table.settings note) checked in (
      omega (arith, sound.consistent.sized.cores, checked_core table.settings core both.0),
      (noted_task table.settings note both.1).1,
      noted_index table.settings
          note both.1,
    )
in_place (steps.QueueInterrupt core queue direction) table sound checked none =
    let both = both_pass (core_check table.settings core) (queue_check table.settings queue) checked in
    (omega (arith, sound.consistent.sized.cores, checked_core table.settings core both.0), checked_queue table.settings queue both.1)
in_place (steps.ResumeInterrupt core task) table sound checked none =
    let both = both_pass (core_check table.settings core) (resume_check table.settings task) checked in
    let one = both_pass (task_check table.settings task) (suspending_check table.settings) both.1 in
    (omega (arith, sound.consistent.sized.cores, checked_core table.settings core both.0), (checked_task table.settings task one.0).1)
in_place (steps.Pass units) table sound checked none = tt
in_place (steps.Call core task call) table sound checked none =
    let low : core < length table.control.cores = omega (
      arith,
      sound.consistent.sized.cores,
      checked_core table.settings core
          (both_pass (core_check table.settings core) (task_check table.settings task)
          (both_pass (core_check table.settings core >> task_check table.settings task) (call_check table.settings call) checked).0).0,
    ) in
    let found = accepted stamp_queues core task call table none in
    let ready = caller_ready core table sound low found.may_call in (
      low,
      found.current,
      subst (λ i. i < length table.orders.rows) found.current (sound.consistent.in_place.is_task core low),
      subst
          (λ i. is_ready i table.orders ≡ true) found.current ready,
    )

-- a call that lets its task go on
calm : (core task : ℕ) (call : Call) (table : Table) → IsConsistent table → IsCaller table core task → IsCheckedCall table.settings call → call_refusal None
    call ≡ None → keeps_hold call ≡ true → would_block stamp_queues task call table ≡ false → IsCalmFor task table (called stamp_queues core task call table).1
unfolding called would_block
calm core task Yield table sound place checked begins keeps goes = calm_for task table _
    (yielded_undisturbed core table place.0)
calm core task (Delay ticks) table sound place checked begins keeps goes = calm_for task table _ (at (eqb ticks 0) refl)
  where
    at : (b : Bool) → eqb ticks 0 ≡ b → IsUndisturbed table (cond {A = Reply × Table} b (Done, yielded stamp_queues core table)
        (Blocked, blocked stamp_queues core task (Made (blocking.Delay ticks)) (Some ticks) None table)).1
    at true none = yielded_undisturbed core table place.0
    at false some = absurd (grind (arith, nat_tests, goes, some))
calm core task (DelayUntil prev inc) table sound place checked begins keeps goes = calm_for task table _
    (until_undisturbed core task prev inc table place.0 goes)
calm core task Finish table sound place checked begins keeps goes = absurd (cc (begins))
calm core task (PrioritySet other priority) table sound place checked begins keeps goes = calm_for task table _
    (priority_undisturbed core other priority table
    (omega (arith, sound.sized.rows, (checked_task table.settings other checked.passes).1)))
calm core task (AffinitySet other mask) table sound place checked begins keeps goes = calm_for task table _
    (affinity_undisturbed core other mask table)
calm core task (PreemptOff other) table sound place checked begins keeps goes = calm_for task table _
    (off_undisturbed other table)
calm core task (PreemptOn other) table sound place checked begins keeps goes = calm_for task table _
    (on_undisturbed core other table)
calm core task (Notify note) table sound place checked begins keeps goes = calm_for task table _
    (notify_undisturbed core note table
    (omega (arith, sound.sized.rows, (noted_task table.settings note checked.passes).1)))
calm core task (NotifyWait entry exit ticks index) table sound place checked begins keeps goes = calm_for task table _
    (timeout_undisturbed core task
    (blocking.NotifyWait entry exit ticks index) ticks (of_slot (slot_of table.settings task index) (wait_entered entry) table.notes) table
    (quiet_entered table task index _ place.3 (checked_index table.settings index checked.passes)) goes)
calm core task (NotifyTake clear ticks index) table sound place checked begins keeps goes = calm_for task table _
    (timeout_undisturbed core task
    (blocking.NotifyTake clear ticks index) ticks (of_slot (slot_of table.settings task index) take_entered table.notes) table
    (quiet_entered table task index _ place.3 (checked_index table.settings index checked.passes)) goes)
calm core task (StateClear other index) table sound place checked begins keeps goes = calm_for task table _
    (forgotten_undisturbed other index table)
calm core task (ValueClear other bits index) table sound place checked begins keeps goes = calm_for task table _
    (bits_undisturbed other bits index table)
calm core task (MutexTake mutex ticks) table sound place checked begins keeps goes = calm_for task table _
    (take_undisturbed core task mutex ticks table goes)
calm core task (MutexGive mutex) table sound place checked begins keeps goes = calm_for task table _
    (give_undisturbed core task mutex table sound place.2
    (checked_mutex table.settings mutex checked.passes))
calm core task (QueueSend queue ticks) table sound place checked begins keeps goes = calm_for task table _
    (queue_called_undisturbed core task Send queue ticks table sound goes)
calm core task (QueueReceive queue ticks) table sound place checked begins keeps goes = calm_for task table _
    (queue_called_undisturbed core task Receive queue ticks table sound goes)
calm core task (Suspend other) table sound place checked begins keeps goes =
    let low = (checked_task table.settings other (both_pass (task_check table.settings other) (suspending_check table.settings) checked.passes).0).1 in
    suspend_calm core other task table (omega (arith, sound.sized.rows, low)) (λ same. grind (arith, nat_tests, goes, same))
calm core task (Resume other) table sound place checked begins keeps goes =
    let low = (checked_task table.settings other (both_pass (task_check table.settings other) (suspending_check table.settings) checked.passes).0).1 in
    calm_for task table _ (resume_undisturbed core other table (omega (arith, sound.sized.rows, low)))
calm core task HoldOpen table sound place checked begins keeps goes = absurd (cc (keeps))
calm core task HoldClose table sound place checked begins keeps goes = absurd (cc (keeps))

none_held : (table later : Table) → later.hold ≡ table.hold → table.hold ≡ None → ForSome later.hold (IsHeldWell later)
none_held table later same free = λ hold is. absurd (cc (same, free, is))

same_core : (core : ℕ) (hold : Hold) → hold.core ≡ core → eqb hold.core core ≡ true
same_core core hold same = grind (arith, nat_tests, same)

-- a hold that may be opened once more is open fewer times over than it may
room_left : (core task : ℕ) (table : Table) (hold : Hold) → table.hold ≡ Some hold → is_held_by core table.hold ≡ true → hold_refusal stamp_queues core task
    HoldOpen table ≡ None → hold.depth ≤ max_depth → hold.depth + 1 ≤ max_depth
unfolding would_block
room_left core task table hold is held none most = at (eqb hold.depth max_depth) refl
  where
    at : (b : Bool) → eqb hold.depth max_depth ≡ b → hold.depth + 1 ≤ max_depth
    at true deep = absurd (cc (none, held, ap (λ h. eqb (depth_of h) max_depth) is ∙ deep))
    at false less = grind (arith, nat_tests, less, most)

free_of_calls : (unfinished : Option Unfinished) → call_refusal unfinished HoldOpen ≡ None → unfinished ≡ None
free_of_calls None fits = refl
free_of_calls (Some call) fits = absurd (cc (fits))

-- ---- what a call leaves of a hold, of none and of its core's

module _ (core task : ℕ) (call : Call) (table : Table) (sound : IsSound table) (place : IsCaller table core task) (checked : IsCheckedCall table.settings call)
    (user : table.settings.cores ≤ task) (taken : IsAccepted stamp_queues core task call table) where
  low : core < table.settings.cores
  low = omega (arith, sound.consistent.sized.cores, place.0)

  some_rows : 0 < length table.orders.rows
  some_rows = omega (arith, place.2)

  -- a hold that is open is the core's
  ours : (hold : Hold) → table.hold ≡ Some hold → hold.core ≡ core
  ours hold is = own_hold core hold (ap (is_held_elsewhere core) (sym is) ∙ taken.free)

  well : (hold : Hold) → table.hold ≡ Some hold → IsHeldWell table hold
  well hold is = sound.held hold is

  its_task : (hold : Hold) → table.hold ≡ Some hold → current table.control hold.core ≡ task
  its_task hold is = ap (current table.control) (ours hold is) ∙ place.1

  -- with an open hold the call goes on
  held_on : (hold : Hold) → table.hold ≡ Some hold → keeps_hold call ≡ true → IsCalmFor task table (called stamp_queues core task call table).1
  held_on hold is keeps =
      let none = ap (call_at table.calls) (sym (its_task hold is)) ∙ (well hold is).no_call in
      calm core task call table sound.consistent place checked (ap (λ o. call_refusal o call) (sym none) ∙ taken.fits) keeps
      (goes_on (ap (is_held_by core) is ∙ same_core core hold (ours hold is)) (would_block stamp_queues task call table) refl)
    where
      goes_on : is_held_by core table.hold ≡ true → (b : Bool) → would_block stamp_queues task call table ≡ b → would_block stamp_queues task call table ≡ false
      goes_on held true waits = absurd (cc (taken.held, held, waits))
      goes_on held false goes = goes

  kept_held : keeps_hold call ≡ true → ForSome (called stamp_queues core task call table).1.hold (IsHeldWell (called stamp_queues core task call table).1)
  kept_held keeps = at table.hold refl
    where
      at : (hold : Option Hold) → table.hold ≡ hold → ForSome (called stamp_queues core task call table).1.hold
          (IsHeldWell (called stamp_queues core task call table).1)
      at None free = none_held table (called stamp_queues core task call table).1 ((called_near core task call table some_rows).3 keeps) free
      at (Some hold) is =
          let later = (called stamp_queues core task call table).1 in
          let calm = held_on hold is keeps in
          λ other same. let was = sym calm.hold ∙ same in
          held_well table later other (subst (λ task. IsCalmFor task table later) (sym (its_task other was)) calm) (sound.held other was)

-- ---- opening and closing a hold

opened_held : (core task : ℕ) (table : Table) → IsSound table → IsCaller table core task → table.settings.cores ≤ task → IsAccepted stamp_queues core task
    HoldOpen table → ForSome (hold_opened core table).hold (IsHeldWell (hold_opened core table))
unfolding hold_opened
opened_held core task table sound place user taken hold is = well hold (the_same hold is)
  where
    the_same : (hold : Hold) → Some (record { core = core; depth = depth_of table.hold + 1 }) ≡ Some hold → hold ≡
        record { core = core; depth = depth_of table.hold + 1 }
    the_same hold same = cc (same)

    depth : ℕ
    depth = depth_of table.hold + 1

    opened : Hold
    opened = record { core = core; depth = depth }

    bounded : (hold : Option Hold) → table.hold ≡ hold → depth_of hold + 1 ≤ max_depth
    bounded None free = omega arith
    bounded (Some hold) is =
        let ours = own_hold core hold (ap (is_held_elsewhere core) (sym is) ∙ taken.free) in
        room_left core task table hold is (ap (is_held_by core) is ∙ same_core core hold ours) taken.held (sound.held hold is).depth.1

    well : (hold : Hold) → hold ≡ opened → IsHeldWell (record table { hold = Some opened }) hold
    well hold same = subst (IsHeldWell (record table { hold = Some opened })) (sym same) (record {
      core_below = omega (arith, sound.consistent.sized.cores, place.0);
      depth = (omega arith, bounded table.hold refl);
      user = omega (arith, place.1, user);
      ready = ap (λ i. is_ready i table.orders) place.1 ∙ place.3;
      no_call = ap (call_at table.calls) place.1 ∙ free_of_calls (call_at table.calls task) taken.fits;
    })

closed_held : (core task : ℕ) (table : Table) → IsSound table → IsAccepted stamp_queues core task HoldClose table → ForSome (hold_closed core table).hold
    (IsHeldWell (hold_closed core table))
unfolding hold_closed
closed_held core task table sound taken = at table.hold refl
  where
    left : ℕ
    left = depth_of table.hold - 1

    closed : Option Hold
    closed = cond (eqb left 0) None (Some (record { core = core; depth = left }))

    at : (hold : Option Hold) → table.hold ≡ hold → ForSome closed (IsHeldWell (record table { hold = closed }))
    at None free = absurd (cc (taken.held, free))
    at (Some before) is = either (eqb left 0) refl
      where
        here : before.core ≡ core
        here = own_hold core before (ap (is_held_elsewhere core) (sym is) ∙ taken.free)

        well : IsHeldWell table before
        well = sound.held before is

        either : (b : Bool) → eqb left 0 ≡ b → ForSome (cond b None (Some (record { core = core; depth = left }))) (IsHeldWell (record table { hold = closed }))
        either true last = λ hold one. absurd (cc (one))
        either false more = λ hold one. subst (IsHeldWell (record table { hold = closed })) (same_Some (record { core = core; depth = left }) hold one)
            (record {
              core_below = omega (arith, here, well.core_below);
              depth = (grind (arith, nat_tests, more), omega (arith, ap depth_of is, well.depth.1));
              user = omega (arith, ap (current table.control) here, well.user);
              ready = ap (λ c. is_ready (current table.control c) table.orders) (sym here) ∙ well.ready;
              no_call = ap (λ c. call_at table.calls (current table.control c)) (sym here) ∙ well.no_call;
            })

pub called_held : (core task : ℕ) (call : Call) (table : Table) → IsSound table → IsCaller table core task → IsCheckedCall table.settings call →
    table.settings.cores ≤ task → IsAccepted stamp_queues core task call table → ForSome (called stamp_queues core task call table).1.hold
    (IsHeldWell (called stamp_queues core task call table).1)
unfolding called
called_held core task HoldOpen table sound place checked user taken = opened_held core task table sound place user taken
called_held core task HoldClose table sound place checked user taken = closed_held core task table sound taken
called_held core task Yield table sound place checked user taken = kept_held core task Yield table sound place checked user taken refl
called_held core task (Delay ticks) table sound place checked user taken = kept_held core task (Delay ticks) table sound place checked user taken refl
called_held core task (DelayUntil prev inc) table sound place checked user taken = kept_held core task (DelayUntil prev inc) table sound place checked user
    taken refl
called_held core task Finish table sound place checked user taken = kept_held core task Finish table sound place checked user taken refl
called_held core task (PrioritySet other priority) table sound place checked user taken = kept_held core task (PrioritySet other priority) table sound place
    checked user taken refl
called_held core task (AffinitySet other mask) table sound place checked user taken = kept_held core task (AffinitySet other mask) table sound place checked
    user taken refl
called_held core task (PreemptOff other) table sound place checked user taken = kept_held core task (PreemptOff other) table sound place checked user taken refl
called_held core task (PreemptOn other) table sound place checked user taken = kept_held core task (PreemptOn other) table sound place checked user taken refl
called_held core task (Notify note) table sound place checked user taken = kept_held core task (Notify note) table sound place checked user taken refl
called_held core task (NotifyWait entry exit ticks index) table sound place checked user taken = kept_held core task (NotifyWait entry exit ticks index) table
    sound place checked user taken refl
called_held core task (NotifyTake clear ticks index) table sound place checked user taken = kept_held core task (NotifyTake clear ticks index) table sound place
    checked user taken refl
called_held core task (StateClear other index) table sound place checked user taken = kept_held core task (StateClear other index) table sound place checked
    user taken refl
called_held core task (ValueClear other bits index) table sound place checked user taken = kept_held core task (ValueClear other bits index) table sound place
    checked user taken refl
called_held core task (MutexTake mutex ticks) table sound place checked user taken = kept_held core task (MutexTake mutex ticks) table sound place checked user
    taken refl
called_held core task (MutexGive mutex) table sound place checked user taken = kept_held core task (MutexGive mutex) table sound place checked user taken refl
called_held core task (QueueSend queue ticks) table sound place checked user taken = kept_held core task (QueueSend queue ticks) table sound place checked user
    taken refl
called_held core task (Suspend other) table sound place checked user taken = kept_held core task (Suspend other) table sound place checked user taken refl
called_held core task (Resume other) table sound place checked user taken = kept_held core task (Resume other) table sound place checked user taken refl
called_held core task (QueueReceive queue ticks) table sound place checked user taken = kept_held core task (QueueReceive queue ticks) table sound place checked
    user taken refl

-- ---- a step

-- the call of a checked step, and that its caller is a user task
pub checked_call : (settings : Settings) (core task : ℕ) (call : Call) → IsCheckedStep settings (steps.Call core task call) → IsCheckedCall settings call ×
    (settings.cores ≤ task)
checked_call settings core task call checked =
    let last = both_pass (core_check settings core >> task_check settings task) (call_check settings call) checked.passes in
    let first = both_pass (core_check settings core) (task_check settings task) last.0 in
    (record { passes = last.1; words = checked.words }, (checked_task settings task first.1).0)

kept_out : (core : ℕ) (table : Table) → is_some table.hold ≡ true → refusal stamp_queues (steps.Switch core) table ≡ None → ⊥
unfolding refusal
kept_out core table held none = cc (none, held)

pub held_after : (step : Step) (table : Table) → IsSound table → IsCheckedStep table.settings step → refusal stamp_queues step table ≡ None → ForSome
    (performed stamp_queues step table).1.hold (IsHeldWell (performed stamp_queues step table).1)
unfolding performed interrupted
held_after steps.Tick table sound checked none = hold_kept table (ticked stamp_queues table) (ticked_undisturbed table) sound.held
held_after (steps.Switch core) table sound checked none = at table.hold refl
  where
    at : (hold : Option Hold) → table.hold ≡ hold → ForSome (after_switch stamp_queues core table).hold (IsHeldWell (after_switch stamp_queues core table))
    at None free = none_held table _ (turned_hold core table) free
    at (Some hold) is = absurd (kept_out core table (ap is_some is) none)
held_after (steps.Interrupt core note) table sound checked none =
    let low = (noted_task table.settings note (both_pass (core_check table.settings core) (note_check table.settings note) checked.passes).1).1 in
    hold_kept table _ (notify_undisturbed core note table (omega (arith, sound.consistent.sized.rows, low))) sound.held
held_after (steps.QueueInterrupt core queue direction) table sound checked none =
    hold_kept table _ (queue_interrupted_undisturbed core direction queue table sound.consistent) sound.held
held_after (steps.ResumeInterrupt core task) table sound checked none =
    let low = (in_place (steps.ResumeInterrupt core task) table sound checked.passes none).1 in
    hold_kept table _ (resume_interrupted_undisturbed core task table (omega (arith, sound.consistent.sized.rows, low))) sound.held
held_after (steps.Pass units) table sound checked none = sound.held
held_after (steps.Call core task call) table sound checked none =
    let called = checked_call table.settings core task call checked in
    called_held core task call table sound (in_place (steps.Call core task call) table sound checked.passes none) called.0 called.1
    (accepted stamp_queues core task call table none)

-- ---- the laws of holds

blocked_waits : (core task : ℕ) (call : Unfinished) (ticks : Option ℕ) (wait : Option EventWait) (table : Table) → task < length table.orders.rows → is_ready
    task (blocked stamp_queues core task call ticks wait table).orders ≡ false
unfolding blocked delay
blocked_waits core task call ticks wait table below = ap stands_ready (standing_same table.orders task (standings.Blocked (ahead table.orders ticks))
    below)

-- a call that begins, where it blocks its task and where it doesn't
module _ (table : Table) (core task : ℕ) (sound : IsConsistent table) (place : IsCaller table core task) where
  goes_or_waits : (call : Call) → IsCheckedCall table.settings call → call_refusal None call ≡ None → keeps_hold call ≡ true →
      (would_block stamp_queues task call table ≡ true → is_ready task (called stamp_queues core task call table).1.orders ≡ false) → is_ready task
      (called stamp_queues core task call table).1.orders ≡ not (would_block stamp_queues task call table)
  goes_or_waits call checked begins keeps waits = at (would_block stamp_queues task call table) refl
    where
      at : (b : Bool) → would_block stamp_queues task call table ≡ b → is_ready task (called stamp_queues core task call table).1.orders ≡ not b
      at true blocks = waits blocks
      at false goes = (calm core task call table sound place checked begins keeps goes).ready place.3

-- what each call does that blocks
delay_waits : (core task ticks : ℕ) (table : Table) → task < length table.orders.rows → ltb 0 ticks ≡ true → is_ready task
    (called stamp_queues core task (Delay ticks) table).1.orders ≡ false
unfolding called
delay_waits core task ticks table below some = at (eqb ticks 0) refl
  where
    at : (b : Bool) → eqb ticks 0 ≡ b → is_ready task (cond {A = Reply × Table} b (Done, yielded stamp_queues core table)
        (Blocked, blocked stamp_queues core task (Made (blocking.Delay ticks)) (Some ticks) None table)).1.orders ≡ false
    at true none = absurd (grind (arith, nat_tests, some, none))
    at false is = blocked_waits core task (Made (blocking.Delay ticks)) (Some ticks) None table below

until_waits : (core task prev inc : ℕ) (table : Table) → task < length table.orders.rows → is_ahead (tick_count table.orders) prev (next_wake prev inc) ≡ true →
    is_ready task (delayed_until stamp_queues core task prev inc table).1.orders ≡ false
unfolding delayed_until
until_waits core task prev inc table below ahead = at (is_ahead (tick_count table.orders) prev wake) ahead
  where
    wake : ℕ
    wake = next_wake prev inc

    call : Unfinished
    call = Made (blocking.DelayUntil prev inc)

    at : (b : Bool) → b ≡ true → is_ready task (cond {A = Reply × Table} b
        (Until true wake, blocked stamp_queues core task call (Some (ticks_to (tick_count table.orders) wake)) None table)
        (Until false wake, yielded stamp_queues core table)).1.orders ≡ false
    at true ahead = blocked_waits core task call (Some (ticks_to (tick_count table.orders) wake)) None table below
    at false ahead = absurd (cc (ahead))

await_waits : (core task : ℕ) (call : BlockingCall) (ticks : ℕ) (entered : Bool × List Notification) (table : Table) → task < length table.orders.rows →
    (entered.0 && ltb 0 ticks) ≡ true → is_ready task (awaited stamp_queues core task call ticks entered table).1.orders ≡ false
unfolding awaited
await_waits core task call ticks entered table below waits = at (entered.0 && ltb 0 ticks) waits
  where
    waiting : Table
    waiting = record table { notes = entered.1 }

    at : (b : Bool) → b ≡ true → is_ready task (cond {A = Reply × Table} b (Blocked, blocked stamp_queues core task (Made call) (timeout_of ticks) None waiting)
        (completed task call waiting)).1.orders ≡ false
    at true waits = blocked_waits core task (Made call) (timeout_of ticks) None waiting below
    at false waits = absurd (cc (waits))

take_waits : (core task mutex ticks : ℕ) (table : Table) → IsConsistent table → task < length table.orders.rows →
    (is_some (holder_at table.holders mutex) && ltb 0 ticks) ≡ true → is_ready task (mutex_take stamp_queues core task mutex ticks table).1.orders ≡ false
unfolding mutex_take waited_at
take_waits core task mutex ticks table sound below waits = at (holder_at table.holders mutex) refl waits
  where
    priority : ℕ
    priority = (task_at table.control task).in_use

    wait : Option EventWait
    wait = Some (record { list = mutex; priority = waiting_priority stamp_queues task table })

    raised : ℕ → Table
    raised holder = inherited stamp_queues core holder priority table

    later : ℕ → Table
    later holder = blocked stamp_queues core task (Take mutex (is_marked table.control task holder)) (timeout_of ticks) wait (raised holder)

    held : (holder : ℕ) → holder < length table.orders.rows → (b : Bool) → eqb ticks 0 ≡ b → ltb 0 ticks ≡ true → is_ready task
        (cond {A = Reply × Table} b (Flag false, table) (Blocked, later holder)).1.orders ≡ false
    held holder low true none some = absurd (grind (arith, nat_tests, none, some))
    held holder low false is some = blocked_waits core task (Take mutex (is_marked table.control task holder)) (timeout_of ticks) wait (raised holder)
        (omega (arith, below, (inherited_undisturbed core holder priority table low).rows))

    at : (holder : Option ℕ) → holder_at table.holders mutex ≡ holder → (is_some holder && ltb 0 ticks) ≡ true → is_ready task
        (take_from stamp_queues holder core task mutex ticks table).1.orders ≡ false
    at None free waits = absurd (cc (waits))
    at (Some holder) is waits = held holder (omega (arith, sound.mutexes.held_by_tasks mutex holder is, sound.sized.rows)) (eqb ticks 0) refl waits

queue_waits : (core task : ℕ) (direction : Direction) (queue ticks : ℕ) (table : Table) → task < length table.orders.rows →
    (not (can_pass direction (queue_at table.queues queue)) && ltb 0 ticks) ≡ true → is_ready task
    (queue_called stamp_queues core task direction queue ticks table).1.orders ≡ false
unfolding queue_called queue_waited
queue_waits core task direction queue ticks table below waits = at (can_pass direction (queue_at table.queues queue)) (eqb ticks 0) refl waits
  where
    wait : Option EventWait
    wait = Some (record { list = event_list table.settings direction queue; priority = waiting_priority stamp_queues task table })

    later : Table
    later = blocked stamp_queues core task (Transfer queue direction) (timeout_of ticks) wait table

    at : (b d : Bool) → eqb ticks 0 ≡ d → (not b && ltb 0 ticks) ≡ true → is_ready task (cond {A = Reply × Table} b
        (Flag true, passed stamp_queues core direction queue table) (cond d (Flag false, table) (Blocked, later))).1.orders ≡ false
    at true d is waits = absurd (cc (waits))
    at false true none waits = absurd (grind (arith, nat_tests, none, waits))
    at false false some waits = blocked_waits core task (Transfer queue direction) (timeout_of ticks) wait table below

pub blocks_where_it_would : (table : Table) (core task : ℕ) (call : Call) → IsConsistent table → IsCaller table core task → IsCheckedCall table.settings call →
    call_refusal None call ≡ None → is_ready task (called stamp_queues core task call table).1.orders ≡ not (would_block stamp_queues task call table)
unfolding called would_block hold_opened hold_closed
blocks_where_it_would table core task (Delay ticks) sound place checked begins = goes_or_waits table core task sound place (Delay ticks) checked begins refl
    (delay_waits core task ticks table place.2)
blocks_where_it_would table core task (DelayUntil prev inc) sound place checked begins = goes_or_waits table core task sound place (DelayUntil prev inc) checked
    begins refl (until_waits core task prev inc table place.2)
blocks_where_it_would table core task (NotifyWait entry exit ticks index) sound place checked begins = goes_or_waits table core task sound place
    (NotifyWait entry exit ticks index) checked begins refl (await_waits core task (blocking.NotifyWait entry exit ticks index) ticks
    (of_slot (slot_of table.settings task index) (wait_entered entry) table.notes) table place.2)
blocks_where_it_would table core task (NotifyTake clear ticks index) sound place checked begins = goes_or_waits table core task sound place
    (NotifyTake clear ticks index) checked begins refl (await_waits core task (blocking.NotifyTake clear ticks index) ticks
    (of_slot (slot_of table.settings task index) take_entered table.notes) table place.2)
blocks_where_it_would table core task (MutexTake mutex ticks) sound place checked begins = goes_or_waits table core task sound place (MutexTake mutex ticks)
    checked begins refl (take_waits core task mutex ticks table sound place.2)
blocks_where_it_would table core task (QueueSend queue ticks) sound place checked begins = goes_or_waits table core task sound place (QueueSend queue ticks)
    checked begins refl (queue_waits core task Send queue ticks table place.2)
blocks_where_it_would table core task (QueueReceive queue ticks) sound place checked begins = goes_or_waits table core task sound place
    (QueueReceive queue ticks) checked begins refl (queue_waits core task Receive queue ticks table place.2)
blocks_where_it_would table core task (Suspend other) sound place checked begins = goes_or_waits table core task sound place (Suspend other) checked begins refl
    (λ itself. ap (λ i. is_ready task (suspended stamp_queues core i table).orders) (eqb-true other task itself) ∙ suspend_waits core task table place.2)
blocks_where_it_would table core task (Resume other) sound place checked begins = goes_or_waits table core task sound place (Resume other) checked begins refl
    (λ never. absurd (cc (never)))
blocks_where_it_would table core task HoldOpen sound place checked begins = place.3
blocks_where_it_would table core task HoldClose sound place checked begins = place.3
blocks_where_it_would table core task Yield sound place checked begins = goes_or_waits table core task sound place Yield checked begins refl
    (λ never. absurd (cc (never)))
blocks_where_it_would table core task Finish sound place checked begins = goes_or_waits table core task sound place Finish checked begins refl
    (λ never. absurd (cc (never)))
blocks_where_it_would table core task (PrioritySet other priority) sound place checked begins = goes_or_waits table core task sound place
    (PrioritySet other priority) checked begins refl (λ never. absurd (cc (never)))
blocks_where_it_would table core task (AffinitySet other mask) sound place checked begins = goes_or_waits table core task sound place (AffinitySet other mask)
    checked begins refl (λ never. absurd (cc (never)))
blocks_where_it_would table core task (PreemptOff other) sound place checked begins = goes_or_waits table core task sound place (PreemptOff other) checked
    begins refl (λ never. absurd (cc (never)))
blocks_where_it_would table core task (PreemptOn other) sound place checked begins = goes_or_waits table core task sound place (PreemptOn other) checked begins
    refl (λ never. absurd (cc (never)))
blocks_where_it_would table core task (Notify note) sound place checked begins = goes_or_waits table core task sound place (Notify note) checked begins refl
    (λ never. absurd (cc (never)))
blocks_where_it_would table core task (StateClear other index) sound place checked begins = goes_or_waits table core task sound place (StateClear other index)
    checked begins refl (λ never. absurd (cc (never)))
blocks_where_it_would table core task (ValueClear other bits index) sound place checked begins = goes_or_waits table core task sound place
    (ValueClear other bits index) checked begins refl (λ never. absurd (cc (never)))
blocks_where_it_would table core task (MutexGive mutex) sound place checked begins = goes_or_waits table core task sound place (MutexGive mutex) checked begins
    refl (λ never. absurd (cc (never)))

kept_by_call : (table : Table) (core task : ℕ) (call : Call) (hold : Hold) → IsSound table → IsCaller table core task → IsCheckedCall table.settings call →
    table.settings.cores ≤ task → IsAccepted stamp_queues core task call table → table.hold ≡ Some hold → current
    (called stamp_queues core task call table).1.control hold.core ≡ current table.control hold.core
unfolding called hold_opened hold_closed
kept_by_call table core task HoldOpen hold sound place checked user taken is = refl
kept_by_call table core task HoldClose hold sound place checked user taken is = refl
kept_by_call table core task Yield hold sound place checked user taken is = (held_on core task Yield table sound place checked user taken hold is refl).currents
    hold.core
kept_by_call table core task (Delay ticks) hold sound place checked user taken is =
    (held_on core task (Delay ticks) table sound place checked user taken hold is refl).currents hold.core
kept_by_call table core task (DelayUntil prev inc) hold sound place checked user taken is =
    (held_on core task (DelayUntil prev inc) table sound place checked user taken hold is refl).currents hold.core
kept_by_call table core task Finish hold sound place checked user taken is =
    (held_on core task Finish table sound place checked user taken hold is refl).currents hold.core
kept_by_call table core task (PrioritySet other priority) hold sound place checked user taken is =
    (held_on core task (PrioritySet other priority) table sound place checked user taken hold is refl).currents hold.core
kept_by_call table core task (AffinitySet other mask) hold sound place checked user taken is =
    (held_on core task (AffinitySet other mask) table sound place checked user taken hold is refl).currents hold.core
kept_by_call table core task (PreemptOff other) hold sound place checked user taken is =
    (held_on core task (PreemptOff other) table sound place checked user taken hold is refl).currents hold.core
kept_by_call table core task (PreemptOn other) hold sound place checked user taken is =
    (held_on core task (PreemptOn other) table sound place checked user taken hold is refl).currents hold.core
kept_by_call table core task (Notify note) hold sound place checked user taken is =
    (held_on core task (Notify note) table sound place checked user taken hold is refl).currents hold.core
kept_by_call table core task (NotifyWait entry exit ticks index) hold sound place checked user taken is =
    (held_on core task (NotifyWait entry exit ticks index) table sound place checked user taken hold is refl).currents hold.core
kept_by_call table core task (NotifyTake clear ticks index) hold sound place checked user taken is =
    (held_on core task (NotifyTake clear ticks index) table sound place checked user taken hold is refl).currents hold.core
kept_by_call table core task (StateClear other index) hold sound place checked user taken is =
    (held_on core task (StateClear other index) table sound place checked user taken hold is refl).currents hold.core
kept_by_call table core task (ValueClear other bits index) hold sound place checked user taken is =
    (held_on core task (ValueClear other bits index) table sound place checked user taken hold is refl).currents hold.core
kept_by_call table core task (MutexTake mutex ticks) hold sound place checked user taken is =
    (held_on core task (MutexTake mutex ticks) table sound place checked user taken hold is refl).currents hold.core
kept_by_call table core task (MutexGive mutex) hold sound place checked user taken is =
    (held_on core task (MutexGive mutex) table sound place checked user taken hold is refl).currents hold.core
kept_by_call table core task (QueueSend queue ticks) hold sound place checked user taken is =
    (held_on core task (QueueSend queue ticks) table sound place checked user taken hold is refl).currents hold.core
kept_by_call table core task (Suspend other) hold sound place checked user taken is =
    (held_on core task (Suspend other) table sound place checked user taken hold is refl).currents hold.core
kept_by_call table core task (Resume other) hold sound place checked user taken is =
    (held_on core task (Resume other) table sound place checked user taken hold is refl).currents hold.core
kept_by_call table core task (QueueReceive queue ticks) hold sound place checked user taken is =
    (held_on core task (QueueReceive queue ticks) table sound place checked user taken hold is refl).currents hold.core

kept_by_step : (table : Table) (step : Step) (hold : Hold) → IsSound table → IsCheckedStep table.settings step → table.hold ≡ Some hold → refusal stamp_queues
    step table ≡ None → current (performed stamp_queues step table).1.control hold.core ≡ current table.control hold.core
unfolding performed interrupted
kept_by_step table steps.Tick hold sound checked is none = (ticked_undisturbed table).currents hold.core
kept_by_step table (steps.Switch core) hold sound checked is none = absurd (kept_out core table (ap is_some is) none)
kept_by_step table (steps.Interrupt core note) hold sound checked is none =
    let low = (noted_task table.settings note (both_pass (core_check table.settings core) (note_check table.settings note) checked.passes).1).1 in
    (notify_undisturbed core note table (omega (arith, sound.consistent.sized.rows, low))).currents hold.core
kept_by_step table (steps.QueueInterrupt core queue direction) hold sound checked is none =
    (queue_interrupted_undisturbed core direction queue table sound.consistent).currents hold.core
kept_by_step table (steps.ResumeInterrupt core task) hold sound checked is none =
    let low = (in_place (steps.ResumeInterrupt core task) table sound checked.passes none).1 in
    (resume_interrupted_undisturbed core task table (omega (arith, sound.consistent.sized.rows, low))).currents hold.core
kept_by_step table (steps.Pass units) hold sound checked is none = refl
kept_by_step table (steps.Call core task call) hold sound checked is none =
    let made = checked_call table.settings core task call checked in
    kept_by_call table core task call hold sound (in_place (steps.Call core task call) table sound checked.passes none) made.0 made.1
    (accepted stamp_queues core task call table none) is

pub holder_keeps_its_core : (table : Table) (step : Step) (hold : Hold) → IsSound table → IsCheckedStep table.settings step → table.hold ≡ Some hold → current
    (after stamp_queues step table).1.control hold.core ≡ current table.control hold.core
unfolding after
holder_keeps_its_core table step hold sound checked is = at (refusal stamp_queues step table) refl
  where
    at : (why : Option Refusal) → refusal stamp_queues step table ≡ why → current
        (option_map_or {U = Reply × Table} (λ why. (Refused why, table)) why (performed stamp_queues step table)).1.control hold.core ≡ current table.control
        hold.core
    at None none = kept_by_step table step hold sound checked is none
    at (Some why) refused = refl
