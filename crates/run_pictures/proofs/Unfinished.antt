-- A blocked task has an unfinished call, and is told to wait for what this call waits for.
use Rattle.std.proofs.Common.{◌≡◌, ℕ, zero, suc, ◌+◌, ◌<◌, ◌≤◌, ◌%◌, ◌^◌, get_or, Bool, true, false, cond, eqb, ltb, ◌&&◌, List, [], ◌∷◌, ◌++◌, length, map, take, Option, Some, None}
use Rattle.std.proofs.Common.{refl, sym, ap, subst, ◌∙◌, ◌⊎◌, inl, inr, arith, true≢false}
use Rattle.std.specs.Prelude.{All, fold, not, slice_set, option_map, unwrap_or, if◌then◌else◌}
use Rattle.std.specs.Option.{option_map_or}
use Rattle.std.proofs.lemmas.Bool.{cases_eq}
use Rattle.std.proofs.lemmas.Bool.Decides.{nat_tests}
use Rattle.std.proofs.lemmas.List.{get_or-set_same, get_or-set_other, length-set, take_all}
use Rattle.std.proofs.lemmas.List.Elements.{All-head, All-take}
use Rattle.std.proofs.Math.ListN.{get_or-eq_default}
use Rattle.list_orders.specs.Search.{numbers}
use Rattle.bench_types.proofs.Passes.{checked_index, checked_mutex, checked_task, noted_task}
use Rattle.bench_types.specs.declared.header.Header.{Header}
use Rattle.bench_types.specs.declared.kernel_data.EventWait.{EventWait}
use Rattle.bench_types.specs.declared.kernel_data.Settings.{Settings}
use Rattle.bench_types.specs.declared.note.Notification.{Notification}
use Rattle.bench_types.specs.declared.reply.Refusal.{Refusal}
use Rattle.bench_types.specs.declared.reply.Reply.{Reply}
use Rattle.bench_types.specs.declared.reply.Reply.TheVariants as reply
use Rattle.bench_types.specs.declared.step.BlockingCall.{BlockingCall}
use Rattle.bench_types.specs.declared.step.BlockingCall.TheVariants as blocking
use Rattle.bench_types.specs.declared.step.Call.{Call}
use Rattle.bench_types.specs.declared.step.Call.TheVariants.{Yield, Delay, DelayUntil, Finish, PrioritySet, AffinitySet, PreemptOff, PreemptOn, Notify}
use Rattle.bench_types.specs.declared.step.Call.TheVariants.{NotifyWait, NotifyTake, StateClear, ValueClear, MutexTake, MutexGive, QueueSend, QueueReceive, Suspend, Resume, HoldOpen}
use Rattle.bench_types.specs.declared.step.Call.TheVariants.{HoldClose}
use Rattle.bench_types.specs.declared.step.Direction.{Direction}
use Rattle.bench_types.specs.declared.step.Direction.TheVariants.{Send, Receive}
use Rattle.bench_types.specs.declared.step.Step.{Step}
use Rattle.bench_types.specs.declared.step.Step.TheVariants.{Tick, Switch, Interrupt, QueueInterrupt, ResumeInterrupt, Pass}
use Rattle.bench_types.specs.declared.step.Step.TheVariants as steps
use Rattle.bench_types.specs.declared.step.Unfinished.{Unfinished}
use Rattle.bench_types.specs.declared.step.Unfinished.TheVariants.{Made, Take, Transfer}
use Rattle.bench_types.specs.Cause.{cause_of}
use Rattle.bench_types.specs.Header.{IsCheckedHeader}
use Rattle.bench_types.specs.Step.{settings_of, IsCheckedCall, IsCheckedStep}
use Rattle.bench_model.specs.declared.row.TaskRow.{TaskRow}
use Rattle.bench_model.specs.declared.row.TaskState.TheVariants as standings
use Rattle.bench_model.specs.Control.{current, run_on, task_at}
use Rattle.bench_model.specs.ControlFields.{in_use_set, in_use_and_value_set}
use Rattle.bench_model.specs.Holds.{hold_opened, hold_closed}
use Rattle.bench_model.specs.Looks.{ticks_left}
use Rattle.bench_model.specs.Mutexes.{after_disinherit, finish_from, inherited, is_marked, mutex_take, owed, take_finished, take_from, timed_out, waited_at, waiting_priority}
use Rattle.bench_model.specs.Notes.{of_slot, slot_of, take_entered, wait_entered}
use Rattle.bench_model.specs.Notifying.{awaited, completed, interrupted, timeout_of}
use Rattle.bench_model.specs.Queues.{can_pass, queue_at, queue_called, queue_finished, queue_waited}
use Rattle.bench_model.specs.Refusals.{refusal}
use Rattle.bench_model.specs.Seek.{after_eviction, after_switch, may_move, seek}
use Rattle.bench_model.specs.Session.{state_after, state_at, step_of}
use Rattle.bench_model.specs.Sound.{IsCaller, IsConsistent, IsSound, StepFits}
use Rattle.bench_model.specs.Start.{first_stamps, ready_row, start, started, unstarted}
use Rattle.bench_model.specs.State.{after_return, after_select, blocked, call_at, holder_at}
use Rattle.bench_model.specs.Steps.{after, after_finish, called, delayed_until, performed}
use Rattle.bench_model.specs.Table.{Stamps, Table, add_to_ready_list, ahead, deadline_left, delay, forget_deadline, is_ready, pick, stamp_queues, stands_ready}
use Rattle.bench_model.specs.Table.{tick_count, set_list_value}
use Rattle.bench_model.specs.Until.{is_ahead, next_wake, ticks_to}
use Rattle.bench_model.specs.Waiters.{event_list}
use Rattle.order_laws.proofs.SoundSteps.{add_to_ready_keeps}
use Rattle.rule_laws.proofs.Mutexes.{forgotten_sound}
use Rattle.rule_laws.proofs.Suspending.{suspended_is_suspended}
use Rattle.order_laws.proofs.SoundMutexes.{delay_waits_other}
use Rattle.bench_model.specs.Suspending.{awaits_note, is_suspended, resume_interrupted, suspended}
use Rattle.step_laws.proofs.Along.{checked_rest}
use Rattle.step_laws.proofs.Holds.{checked_call, in_place}
use Rattle.step_laws.proofs.Starts.{start_sound}
use Rattle.step_laws.proofs.Steps.{after_sound, resume_task}
use Rattle.step_laws.proofs.Undisturbed.{IsUndisturbed, StaysAway, after_disinherit_undisturbed, quiet_entered, readied_undisturbed, resume_undisturbed, resume_interrupted_undisturbed, same_away, suspend_away, suspend_calm, suspend_calls, undisturbed_then, affinity_undisturbed, bits_undisturbed, completed_undisturbed, forgotten_undisturbed, give_undisturbed}
use Rattle.step_laws.proofs.Undisturbed.{inherited_undisturbed, notes_undisturbed, notify_undisturbed, off_undisturbed, on_undisturbed, priority_undisturbed}
use Rattle.step_laws.proofs.Undisturbed.{passed_undisturbed, queue_interrupted_undisturbed, taken_undisturbed, ticked_undisturbed, undisturbed, yielded_undisturbed}
use Rattle.run_views.proofs.States.{next_state}
use Rattle.run_pictures.specs.declared.stance.Stance.TheVariants.{Blocked, Suspended}
use Rattle.run_pictures.specs.Stances.{stance_on}
use Rattle.run_pictures.specs.WaitLaws.{BlockedCallsStay, WaitsAreUnfinished}
use Rattle.run_pictures.proofs.Seen.{checked_at_start, kept_settings, sound_state, stance_seen}

-- each task that is in no ready list and not suspended has an unfinished call
abbrev AreInCall : Table → Type 0
AreInCall table = (i : ℕ) → is_ready i table.orders ≡ false → is_suspended stamp_queues i table ≡ false → (call : Unfinished) × (call_at table.calls i ≡ Some call)

-- no ready task is blocked, no suspended one begins to wait, and the unfinished calls are as they were
record IsCalm (table later : Table) : Type 0 where
  ready : (i : ℕ) → is_ready i table.orders ≡ true → is_ready i later.orders ≡ true
  calls : later.calls ≡ table.calls
  away : (i : ℕ) → StaysAway table later i

-- so are those of all tasks but this, which is ready or has an unfinished call
record IsCalmBut (task : ℕ) (table later : Table) : Type 0 where
  ready : (i : ℕ) → (i ≡ task → ⊥) → is_ready i table.orders ≡ true → is_ready i later.orders ≡ true
  calls : (i : ℕ) → (i ≡ task → ⊥) → call_at later.calls i ≡ call_at table.calls i
  away : (i : ℕ) → (i ≡ task → ⊥) → StaysAway table later i
  own : (is_ready task later.orders ≡ true) ⊎ ((call : Unfinished) × (call_at later.calls task ≡ Some call))

blocked_before : (a b : Bool) → (a ≡ true → b ≡ true) → b ≡ false → a ≡ false
blocked_before true b keeps is = absurd (true≢false (sym (keeps refl) ∙ is))
blocked_before false b keeps is = refl

not_before : (table later : Table) (i : ℕ) → StaysAway table later i → is_ready i later.orders ≡ false → is_suspended stamp_queues i later ≡ false
    → is_suspended stamp_queues i table ≡ false
not_before table later i away off is = at (is_suspended stamp_queues i table) refl
  where
    at : (b : Bool) → is_suspended stamp_queues i table ≡ b → b ≡ false
    at false was = refl
    at true was = absurd (true≢false (sym (away was off) ∙ is))

-- blocked tasks are in calls after it where they were before it, and a task that was blocked has the same call
record IsFair (table later : Table) : Type 0 where
  in_call : AreInCall table → AreInCall later
  stays : (i : ℕ) → is_ready i table.orders ≡ false → call_at later.calls i ≡ call_at table.calls i

calm_fair : (table later : Table) → IsCalm table later → IsFair table later
calm_fair table later calm = record {
  in_call = λ are i is here.
      let was = are i (blocked_before (is_ready i table.orders) (is_ready i later.orders) (calm.ready i) is) (not_before table later i (calm.away i) is here) in
      (was.0, ap (λ calls. call_at calls i) calm.calls ∙ was.1);
  stays = λ i is. ap (λ calls. call_at calls i) calm.calls;
}

but_fair : (task : ℕ) (table later : Table) → is_ready task table.orders ≡ true → IsCalmBut task table later → IsFair table later
but_fair task table later ready calm = record {
  in_call = λ are i is here. elim (cases_eq i task) [
    | inl same ↦ own i is same calm.own
    | inr other ↦
        let was = are i (blocked_before (is_ready i table.orders) (is_ready i later.orders) (calm.ready i other) is)
        (not_before table later i (calm.away i other) is here) in
        (was.0, calm.calls i other ∙ was.1)
  ];
  stays = λ i is. calm.calls i (λ same. true≢false (sym ready ∙ ap (λ j. is_ready j table.orders) (sym same) ∙ is));
}
  where
    own : (i : ℕ) → is_ready i later.orders ≡ false → i ≡ task →
        (is_ready task later.orders ≡ true) ⊎ ((call : Unfinished) × (call_at later.calls task ≡ Some call)) → (call : Unfinished) ×
        (call_at later.calls i ≡ Some call)
    own i is same (inl ready) = absurd (true≢false (sym ready ∙ ap (λ j. is_ready j later.orders) (sym same) ∙ is))
    own i is same (inr has) = (has.0, ap (call_at later.calls) same ∙ has.1)

undisturbed_calm : (table later : Table) → IsUndisturbed table later → IsCalm table later
undisturbed_calm table later kept = record { ready = kept.ready; calls = kept.calls; away = kept.away }

either_calm : (table one other : Table) (b : Bool) → IsCalm table one → IsCalm table other → IsCalm table (cond b one other)
either_calm table one other true here there = here
either_calm table one other false here there = there

either_but : (task : ℕ) (table : Table) (one other : Reply × Table) (b : Bool) → IsCalmBut task table one.1 → IsCalmBut task table other.1 → IsCalmBut task table
    (cond b one other).1
either_but task table one other true here there = here
either_but task table one other false here there = there

-- ---- the rules that no law of undisturbed tasks has

few_or : (m n : ℕ) → (m < n) ⊎ (n ≤ m)
few_or m n = by (ltb m n) refl
  where
    by : (b : Bool) → ltb m n ≡ b → (m < n) ⊎ (n ≤ m)
    by true within = inl (grind (arith, nat_tests, within))
    by false beyond = inr (grind (arith, nat_tests, beyond))

timed_out_calm : (core task mutex : ℕ) (mark : Bool) (holder : ℕ) (table : Table) → holder < length table.orders.rows → IsCalm table
    (timed_out stamp_queues core task mutex mark holder table)
unfolding timed_out
timed_out_calm core task mutex mark holder table low =
    either_calm table _ table _
    (undisturbed_calm table _ (after_disinherit_undisturbed core holder (owed stamp_queues holder mutex table) table low))
    (undisturbed_calm table table (undisturbed table))

selected_calm : (core : ℕ) (table : Table) → current table.control core < length table.orders.rows → IsCalm table (after_select stamp_queues core table)
unfolding after_select
selected_calm core table low = at (is_ready left table.orders)
  where
    left : ℕ
    left = current table.control core

    runs : Bool → Table
    runs b = record table {
      control = run_on core (unwrap_or (pick table.control core (cond b (add_to_ready_list left table.orders) table.orders)) left) table.control;
      orders = cond b (add_to_ready_list left table.orders) table.orders;
    }

    at : (b : Bool) → IsCalm table (runs b)
    at true =
        let kept = readied_undisturbed table left low in
        let queued : Table = record table { orders = add_to_ready_list left table.orders } in
        record { ready = kept.ready; calls = refl; away = λ i is off. same_away queued (runs true) i refl (λ quiet. quiet) (kept.away i is off) off }
    at false = record { ready = λ i is. is; calls = refl; away = λ i. same_away table (runs false) i refl (λ quiet. quiet) }

switch_calm : (core : ℕ) (table : Table) → current table.control core < length table.orders.rows → IsCalm table (after_switch stamp_queues core table)
unfolding after_switch after_eviction
switch_calm core table low =
    let left = current table.control core in
    let selected : Table = after_select stamp_queues core table in
    let winner = current selected.control core in
    let kept = selected_calm core table low in
    let sought : Table = record selected { control = seek core left (may_move selected.control left winner core) selected.control } in
    either_calm table sought selected
    (not (eqb winner left) && is_ready left selected.orders)
    (record {
      ready = kept.ready;
      calls = kept.calls;
      away = λ i is off. same_away selected sought i refl (λ quiet. quiet) (kept.away i is off) off;
    }) kept

-- ---- calls

module _ (core task : ℕ) (table : Table) (sound : IsConsistent table) (place : IsCaller table core task) where
  calm_but : (later : Table) → IsCalm table later → IsCalmBut task table later
  calm_but later calm = record {
    ready = λ i other is. calm.ready i is;
    calls = λ i other. ap (λ calls. call_at calls i) calm.calls;
    away = λ i other. calm.away i;
    own = inl (calm.ready task place.3);
  }

  kept_but : (later : Table) → IsUndisturbed table later → IsCalmBut task table later
  kept_but later kept = calm_but later (undisturbed_calm table later kept)

  blocked_but : (call : Unfinished) (ticks : Option ℕ) (wait : Option EventWait) (near : Table) → IsUndisturbed table near → IsCalmBut task table
      (blocked stamp_queues core task call ticks wait near)
  unfolding blocked delay
  blocked_but call ticks wait near kept =
      let waits : TaskRow = record { stamp = near.orders.next; standing = standings.Blocked (ahead near.orders ticks) } in
      let few : task < length near.calls = omega (arith, ap length kept.calls, sound.sized.calls, sound.sized.rows, place.2) in
      record {
        ready = λ i other is. ap (λ (row : TaskRow). stands_ready row.standing) (get_or-set_other near.orders.rows task i waits (ready_row 0) other)
            ∙ kept.ready i is;
        calls = λ i other. get_or-set_other near.calls task i (Some call) None other ∙ ap (λ calls. call_at calls i) kept.calls;
        away = λ i other is off.
            let low : task < length near.orders.rows = omega (arith, kept.rows, place.2) in
            same_away near (blocked stamp_queues core task call ticks wait near) i (delay_waits_other near.orders task ticks wait low i other) (λ quiet. quiet)
            (kept.away i is (sym (ap (λ (row : TaskRow). stands_ready row.standing) (get_or-set_other near.orders.rows task i waits (ready_row 0) other)) ∙ off)) off;
        own = inr (call, get_or-set_same near.calls task (Some call) None few);
      }

  -- the task's call is over
  abbrev over : Table
  over = after_return stamp_queues task table

  then_calm : (later : Table) → IsCalm over later → IsCalmBut task table later
  unfolding forget_deadline
  then_calm later calm = record {
    ready = λ i other is. calm.ready i is;
    calls = λ i other. ap (λ calls. call_at calls i) calm.calls ∙ get_or-set_other table.calls task i None None other;
    away = λ i other is off.
        calm.away i (same_away table over i refl (λ quiet. quiet) is (blocked_before (is_ready i table.orders) (is_ready i later.orders) (calm.ready i) off)) off;
    own = inl (calm.ready task place.3);
  }

  then_kept : (later : Table) → IsUndisturbed over later → IsCalmBut task table later
  then_kept later kept = then_calm later (undisturbed_calm over later kept)

  waited_but : (mutex holder : ℕ) (ticks : Option ℕ) → holder < length table.orders.rows → IsCalmBut task table
      (waited_at stamp_queues core task mutex holder ticks table)
  unfolding waited_at
  waited_but mutex holder ticks low =
      let priority = (task_at table.control task).in_use in
      blocked_but (Take mutex (is_marked table.control task holder)) ticks (Some (record { list = mutex; priority = waiting_priority stamp_queues task table }))
      (inherited stamp_queues core holder priority table) (inherited_undisturbed core holder priority table low)

  holder_low : (mutex holder : ℕ) → holder_at table.holders mutex ≡ Some holder → holder < length table.orders.rows
  holder_low mutex holder is = omega (arith, sound.mutexes.held_by_tasks mutex holder is, sound.sized.rows)

  take_but : (mutex ticks : ℕ) → IsCalmBut task table (mutex_take stamp_queues core task mutex ticks table).1
  unfolding mutex_take
  take_but mutex ticks = at (holder_at table.holders mutex) refl
    where
      at : (holder : Option ℕ) → holder_at table.holders mutex ≡ holder → IsCalmBut task table (take_from stamp_queues holder core task mutex ticks table).1
      at None is = kept_but _ (taken_undisturbed task mutex table)
      at (Some holder) is =
          either_but task table _ _ (eqb ticks 0) (kept_but table (undisturbed table)) (waited_but mutex holder (timeout_of ticks) (holder_low mutex holder is))

  take_finished_but : (mutex : ℕ) (mark : Bool) → IsCalmBut task table (take_finished stamp_queues core task mutex mark table).1
  unfolding take_finished forget_deadline
  take_finished_but mutex mark = at (holder_at table.holders mutex) refl
    where
      at : (holder : Option ℕ) → holder_at table.holders mutex ≡ holder → IsCalmBut task table (finish_from stamp_queues holder core task mutex mark table).1
      at None is = then_kept _ (taken_undisturbed task mutex over)
      at (Some holder) is =
          either_but task table _ _ (option_map_or (λ ticks. eqb ticks 0) (deadline_left task table.orders) false)
          (then_calm _ (timed_out_calm core task mutex mark holder over (holder_low mutex holder is)))
          (waited_but mutex holder (deadline_left task table.orders) (holder_low mutex holder is))

  queue_waited_but : (direction : Direction) (queue : ℕ) (ticks : Option ℕ) → IsCalmBut task table
      (queue_waited stamp_queues core task direction queue ticks table)
  unfolding queue_waited
  queue_waited_but direction queue ticks = blocked_but (Transfer queue direction) ticks
      (Some (record { list = event_list table.settings direction queue; priority = waiting_priority stamp_queues task table })) table (undisturbed table)

  queue_called_but : (direction : Direction) (queue ticks : ℕ) → IsCalmBut task table (queue_called stamp_queues core task direction queue ticks table).1
  unfolding queue_called
  queue_called_but direction queue ticks =
      either_but task table _ _ (can_pass direction (queue_at table.queues queue)) (kept_but _ (passed_undisturbed core direction queue table sound))
      (either_but task table _ _ (eqb ticks 0) (kept_but table (undisturbed table)) (queue_waited_but direction queue (timeout_of ticks)))

  over_sound : IsConsistent over
  over_sound = forgotten_sound table task sound (omega (arith, sound.sized.rows, place.2)) place.3

  queue_finished_but : (direction : Direction) (queue : ℕ) → IsCalmBut task table (queue_finished stamp_queues core task direction queue table).1
  unfolding queue_finished
  queue_finished_but direction queue =
      either_but task table _ _ (can_pass direction (queue_at table.queues queue)) (then_kept _ (passed_undisturbed core direction queue over over_sound))
      (either_but task table _ _ (option_map_or (λ ticks. eqb ticks 0) (deadline_left task table.orders) false) (then_kept over (undisturbed over))
      (queue_waited_but direction queue (deadline_left task table.orders)))

  finish_but : IsCalmBut task table
      (option_map_or {U = Reply × Table} (λ call. after_finish stamp_queues core task call table) (call_at table.calls task) (reply.Done, table)).1
  unfolding after_finish
  finish_but = at (call_at table.calls task)
    where
      at : (call : Option Unfinished) → IsCalmBut task table
          (option_map_or {U = Reply × Table} (λ call. after_finish stamp_queues core task call table) call (reply.Done, table)).1
      at None = kept_but table (undisturbed table)
      at (Some (Made call)) = then_kept _ (completed_undisturbed task call over)
      at (Some (Take mutex mark)) = take_finished_but mutex mark
      at (Some (Transfer queue direction)) = queue_finished_but direction queue

  await_but : (call : BlockingCall) (ticks : ℕ) (entered : Bool × List Notification)
      → ((i : ℕ) → is_suspended stamp_queues i table ≡ true → awaits_note table.settings.notes i entered.1 ≡ false)
      → IsCalmBut task table (awaited stamp_queues core task call ticks entered table).1
  unfolding awaited
  await_but call ticks entered quiet =
      let waiting : Table = record table { notes = entered.1 } in
      let noted = notes_undisturbed table entered.1 quiet in
      let done = undisturbed_then table waiting (completed task call waiting).1 noted (completed_undisturbed task call waiting) in
      either_but task table _ _ (entered.0 && ltb 0 ticks) (blocked_but (Made call) (timeout_of ticks) None waiting noted)
      (kept_but _ done)

  until_but : (prev inc : ℕ) → IsCalmBut task table (delayed_until stamp_queues core task prev inc table).1
  unfolding delayed_until
  until_but prev inc =
      either_but task table _ _ (is_ahead (tick_count table.orders) prev (next_wake prev inc))
      (blocked_but (Made (blocking.DelayUntil prev inc)) (Some (ticks_to (tick_count table.orders) (next_wake prev inc))) None table (undisturbed table))
      (kept_but _ (yielded_undisturbed core table place.0))

  abbrev suspends : Call → Bool
  suspends (Suspend other) = true
  suspends call = false

  called_but : (call : Call) → suspends call ≡ false → IsCheckedCall table.settings call → IsCalmBut task table (called stamp_queues core task call table).1
  unfolding called hold_opened hold_closed
  called_but Yield goes checked = kept_but _ (yielded_undisturbed core table place.0)
  called_but (Delay ticks) goes checked =
      either_but task table _ _ (eqb ticks 0) (kept_but _ (yielded_undisturbed core table place.0))
      (blocked_but (Made (blocking.Delay ticks)) (Some ticks) None table (undisturbed table))
  called_but (DelayUntil prev inc) goes checked = until_but prev inc
  called_but Finish goes checked = finish_but
  called_but (PrioritySet other priority) goes checked = kept_but _ (priority_undisturbed core other priority table
      (omega (arith, sound.sized.rows, (checked_task table.settings other checked.passes).1)))
  called_but (AffinitySet other mask) goes checked = kept_but _ (affinity_undisturbed core other mask table)
  called_but (PreemptOff other) goes checked = kept_but _ (off_undisturbed other table)
  called_but (PreemptOn other) goes checked = kept_but _ (on_undisturbed core other table)
  called_but (Notify note) goes checked = kept_but _ (notify_undisturbed core note table
      (omega (arith, sound.sized.rows, (noted_task table.settings note checked.passes).1)))
  called_but (NotifyWait entry exit ticks index) goes checked = await_but (blocking.NotifyWait entry exit ticks index) ticks
      (of_slot (slot_of table.settings task index) (wait_entered entry) table.notes)
      (quiet_entered table task index _ place.3 (checked_index table.settings index checked.passes))
  called_but (NotifyTake clear ticks index) goes checked = await_but (blocking.NotifyTake clear ticks index) ticks
      (of_slot (slot_of table.settings task index) take_entered table.notes)
      (quiet_entered table task index _ place.3 (checked_index table.settings index checked.passes))
  called_but (StateClear other index) goes checked = kept_but _ (forgotten_undisturbed other index table)
  called_but (ValueClear other bits index) goes checked = kept_but _ (bits_undisturbed other bits index table)
  called_but (MutexTake mutex ticks) goes checked = take_but mutex ticks
  called_but (MutexGive mutex) goes checked = kept_but _ (give_undisturbed core task mutex table sound place.2
      (checked_mutex table.settings mutex checked.passes))
  called_but (QueueSend queue ticks) goes checked = queue_called_but Send queue ticks
  called_but (QueueReceive queue ticks) goes checked = queue_called_but Receive queue ticks
  called_but (Suspend other) goes checked = absurd (true≢false goes)
  called_but (Resume other) goes checked = kept_but _ (resume_undisturbed core other table
      (omega (arith, sound.sized.rows, resume_task table.settings other checked.passes)))
  called_but HoldOpen goes checked = calm_but _ (record { ready = λ i is. is; calls = refl; away = λ i. same_away table _ i refl (λ quiet. quiet) })
  called_but HoldClose goes checked = calm_but _ (record { ready = λ i is. is; calls = refl; away = λ i. same_away table _ i refl (λ quiet. quiet) })

  -- a task that is suspended has its unfinished call as before
  suspend_fair : (other : ℕ) → other < table.settings.tasks → IsFair table (suspended stamp_queues core other table)
  suspend_fair other low =
      let later = suspended stamp_queues core other table in
      let below : other < length table.orders.rows = omega (arith, sound.sized.rows, low) in
      let calls = suspend_calls core other table in
      record {
        in_call = λ are i off here. elim (cases_eq i other) [
          | inl same ↦
              absurd (true≢false (sym (ap (λ j. is_suspended stamp_queues j later) same ∙ suspended_is_suspended table core other sound low) ∙ here))
          | inr away ↦
              let calm = suspend_calm core other i table below away in
              let was = are i (blocked_before (is_ready i table.orders) (is_ready i later.orders) calm.ready off)
              (not_before table later i (suspend_away core other table below i away) off here) in
              (was.0, ap (λ calls. call_at calls i) calls ∙ was.1)
        ];
        stays = λ i is. ap (λ calls. call_at calls i) calls;
      }

  called_fair : (call : Call) → IsCheckedCall table.settings call → IsFair table (called stamp_queues core task call table).1
  unfolding called
  called_fair (Suspend other) checked = suspend_fair other (resume_task table.settings other checked.passes)
  called_fair call checked = but_fair task table _ place.3 (called_but call refl checked)

-- ---- steps

performed_fair : (step : Step) (table : Table) → IsSound table → IsCheckedStep table.settings step → StepFits table step → IsFair table
    (performed stamp_queues step table).1
unfolding performed interrupted resume_interrupted
performed_fair Tick table sound checked fits = calm_fair table _ (undisturbed_calm table _ (ticked_undisturbed table))
performed_fair (Switch core) table sound checked fits = calm_fair table _ (switch_calm core table (sound.consistent.in_place.is_task core fits))
performed_fair (Interrupt core note) table sound checked fits = calm_fair table _ (undisturbed_calm table _ (notify_undisturbed core note table
    (omega (arith, sound.consistent.sized.rows, fits.1))))
performed_fair (QueueInterrupt core queue direction) table sound checked fits = calm_fair table _ (undisturbed_calm table _
    (queue_interrupted_undisturbed core direction queue table sound.consistent))
performed_fair (ResumeInterrupt core task) table sound checked fits = calm_fair table _ (undisturbed_calm table _
    (resume_interrupted_undisturbed core task table (omega (arith, sound.consistent.sized.rows, fits.1))))
performed_fair (Pass units) table sound checked fits = calm_fair table table (undisturbed_calm table table (undisturbed table))
performed_fair (steps.Call core task call) table sound checked fits =
    called_fair core task table sound.consistent fits call (checked_call table.settings core task call checked).0

step_fair : (step : Step) (table : Table) → IsSound table → IsCheckedStep table.settings step → IsFair table (step_of step table).1
unfolding after
step_fair step table sound checked = at (refusal stamp_queues step table) refl
  where
    at : (why : Option Refusal) → refusal stamp_queues step table ≡ why → IsFair table
        (option_map_or {U = Reply × Table} (λ why. (reply.Refused why, table)) why (performed stamp_queues step table)).1
    at None free = performed_fair step table sound checked (in_place step table sound checked.passes free)
    at (Some why) refuses = record { in_call = λ are. are; stays = λ i is. refl }

-- ---- a session

along : (steps : List Step) (table : Table) → IsSound table → All (IsCheckedStep table.settings) steps → AreInCall table → AreInCall (state_after table steps)
along [] table sound all are = are
along (step ∷ steps) table sound all are =
    let checked = All-head (IsCheckedStep table.settings) step steps all in
    along steps (step_of step table).1 (after_sound step table sound checked) (checked_rest table step steps sound all)
    ((step_fair step table sound checked).in_call are)

abbrev AreReady : List TaskRow → Type 0
AreReady rows = (i : ℕ) → stands_ready (get_or rows i (ready_row 0)).standing ≡ true

each_ready : (stamp : ℕ → ℕ) (ns : List ℕ) → AreReady (map (λ n. ready_row (stamp n)) ns)
each_ready stamp [] i = refl
each_ready stamp (n ∷ ns) zero = refl
each_ready stamp (n ∷ ns) (suc i) = each_ready stamp ns i

all_ready : (rows more : List TaskRow) → AreReady rows → AreReady more → AreReady (rows ++ more)
all_ready [] more first second i = second i
all_ready (row ∷ rows) more first second zero = first zero
all_ready (row ∷ rows) more first second (suc i) = all_ready rows more (λ k. first (suc k)) second i

-- a switch keeps all tasks ready
AllReady : Table → Type 0
AllReady table = (i : ℕ) → is_ready i table.orders ≡ true

queued_ready : (b : Bool) (stamps : Stamps) (task : ℕ) → ((i : ℕ) → is_ready i stamps ≡ true) → (i : ℕ)
    → is_ready i (cond b (add_to_ready_list task stamps) stamps) ≡ true
unfolding add_to_ready_list
queued_ready false stamps task all i = all i
queued_ready true stamps task all i = elim (few_or task (length stamps.rows)) [
  | inl below ↦ elim (cases_eq i task) [
    | inl same ↦ ap (λ (row : TaskRow). stands_ready row.standing) (ap (get_or_row (slice_set stamps.rows task (ready_row stamps.next))) same
        ∙ get_or-set_same stamps.rows task (ready_row stamps.next) (ready_row 0) below)
    | inr other ↦ ap (λ (row : TaskRow). stands_ready row.standing)
        (get_or-set_other stamps.rows task i (ready_row stamps.next) (ready_row 0) other) ∙ all i
  ]
  | inr beyond ↦ elim (cases_eq i task) [
    | inl same ↦ ap (λ (row : TaskRow). stands_ready row.standing)
        (get_or-eq_default (slice_set stamps.rows task (ready_row stamps.next)) (ready_row 0)
        (omega (arith, beyond, same, length-set stamps.rows task (ready_row stamps.next))))
    | inr other ↦ ap (λ (row : TaskRow). stands_ready row.standing)
        (get_or-set_other stamps.rows task i (ready_row stamps.next) (ready_row 0) other) ∙ all i
  ]
]
  where
    get_or_row : List TaskRow → ℕ → TaskRow
    get_or_row rows i = get_or rows i (ready_row 0)

switch_ready : (core : ℕ) (table : Table) → AllReady table → AllReady (after_switch stamp_queues core table)
unfolding AllReady after_switch after_select after_eviction
switch_ready core table all i =
    at (not (eqb winner left) && is_ready left selected.orders)
  where
    left : ℕ
    left = current table.control core

    selected : Table
    selected = after_select stamp_queues core table

    winner : ℕ
    winner = current selected.control core

    at : (b : Bool)
        → is_ready i (cond b (record selected { control = seek core left (may_move selected.control left winner core) selected.control }) selected).orders ≡ true
    at true = queued_ready (is_ready left table.orders) table.orders left all i
    at false = queued_ready (is_ready left table.orders) table.orders left all i

started_so : (cores : List ℕ) (table : Table) → AllReady table → AllReady (fold (λ kernel core. after_switch stamp_queues core kernel) table cores)
started_so [] table all = all
started_so (core ∷ cores) table all = started_so cores (after_switch stamp_queues core table) (switch_ready core table all)

start_ready : (header : Header) → AllReady (start header)
unfolding AllReady started unstarted first_stamps
start_ready header =
    let users = length header.tasks in
    let ready = all_ready _ _ (each_ready (λ core. users + core) (numbers header.config.cores)) (each_ready (λ n. n) (numbers users)) in
    started_so (numbers header.config.cores) (unstarted (first_stamps header) header) ready

start_so : (header : Header) → AreInCall (start header)
unfolding AllReady
start_so header i is here = absurd (true≢false (sym (start_ready header i) ∙ is))

in_call : (header : Header) (steps : List Step) (place : ℕ) → IsCheckedHeader header → All (IsCheckedStep (settings_of header)) steps → AreInCall
    (state_at header steps place)
unfolding state_at
in_call header steps place is checked =
    along (take place steps) (start header) (start_sound header is.passes)
    (All-take (IsCheckedStep (start header).settings) place steps (checked_at_start header steps checked)) (start_so header)

waits : (b d : Bool) (core wake : Option ℕ) (unfinished : Option Unfinished) (call : Unfinished) → b ≡ false → d ≡ false → unfinished ≡ Some call →
    (if b then stance_on core else (if d then Suspended else Blocked wake (option_map cause_of unfinished))) ≡ Blocked wake (Some (cause_of call))
waits true d core wake unfinished call is here made = absurd (true≢false is)
waits false true core wake unfinished call is here made = absurd (true≢false here)
waits false false core wake unfinished call is here made = ap (λ one. Blocked wake (option_map cause_of one)) made

pub waits_are_unfinished : WaitsAreUnfinished
waits_are_unfinished header steps place task is checked few blocked here =
    let table = state_at header steps place in
    let has = in_call header steps place is checked task blocked here in
    let low : task < table.settings.tasks = subst (λ (settings : Settings). task < settings.tasks) (sym (kept_settings header steps place is checked)) few in
    record {
      call = has.0;
      made = has.1;
      wake = option_map (λ left. (tick_count table.orders + left) % 2 ^ 32) (ticks_left task table.orders);
      told_so = stance_seen table task low ∙ waits (is_ready task table.orders) (is_suspended stamp_queues task table) _ _ (call_at table.calls task) has.0 blocked
          here has.1;
    }

past_end : (header : Header) (steps : List Step) (place : ℕ) → length steps ≤ place → state_at header steps (suc place) ≡ state_at header steps place
unfolding state_at
past_end header steps place beyond =
    ap (state_after (start header)) (take_all (suc place) steps (omega (arith, beyond)) ∙ sym (take_all place steps beyond))

pub blocked_calls_stay : BlockedCallsStay
blocked_calls_stay header steps place task is checked blocked = elim (few_or place (length steps)) [
  | inl early ↦
      let step = get_or steps place Tick in
      let fits = subst (λ (settings : Settings). IsCheckedStep settings step) (sym (kept_settings header steps place is checked)) (checked place Tick early) in
      ap (λ (table : Table). call_at table.calls task) (next_state header steps place Tick early)
      ∙ (step_fair step (state_at header steps place) (sound_state header steps place is checked) fits).stays task blocked
  | inr beyond ↦ ap (λ (table : Table). call_at table.calls task) (past_end header steps place beyond)
]
