-- Each step: over lists it is the step of what was seen of the table before, and it keeps a sound table sound.
use Rattle.std.proofs.Common.{◌≡◌, ℕ, ◌<◌, ◌≤◌, Bool, true, false, cond, not, eqb, ◌&&◌, length, Option, Some, None, Ok, refl, sym, ap, subst, ◌∙◌, arith}
use Rattle.std.specs.Option.{option_map_or, option_or}
use Rattle.std.proofs.lemmas.Bool.Decides.{nat_tests}
use Rattle.bench_types.specs.declared.kernel_data.Hold.{Hold}
use Rattle.bench_types.specs.declared.kernel_data.Settings.{Settings}
use Rattle.bench_types.specs.declared.reply.Reply.{Reply}
use Rattle.bench_types.specs.declared.reply.Reply.TheVariants.{Done, Blocked, Flag, Until, Refused}
use Rattle.bench_types.specs.declared.reply.Refusal.{Refusal}
use Rattle.bench_types.specs.declared.reply.Refusal.TheVariants.{Held, Displaced, SwitchDue, HoldBlock, NoHold, HoldDeep}
use Rattle.bench_types.specs.declared.step.Step.{Step}
use Rattle.bench_types.specs.declared.step.Step.TheVariants.{Tick, Switch, Interrupt, QueueInterrupt, ResumeInterrupt, Pass}
use Rattle.bench_types.specs.declared.step.Step.TheVariants as steps
use Rattle.bench_types.specs.declared.step.BlockingCall.TheVariants as blocking
use Rattle.bench_types.specs.declared.step.Direction.TheVariants.{Send, Receive}
use Rattle.bench_types.specs.declared.step.Unfinished.{Unfinished}
use Rattle.bench_types.specs.declared.step.Unfinished.TheVariants.{Made}
use Rattle.bench_types.specs.declared.step.Call.{Call}
use Rattle.bench_types.specs.declared.step.Call.TheVariants.{Yield, Delay, DelayUntil, Finish, PrioritySet, AffinitySet, PreemptOff, PreemptOn, Notify}
use Rattle.bench_types.specs.declared.step.Call.TheVariants.{NotifyWait, NotifyTake, StateClear, ValueClear, MutexTake, MutexGive, QueueSend, QueueReceive, Suspend, Resume, HoldOpen, HoldClose}
use Rattle.bench_types.proofs.Passes.{both_pass, checked_task, checked_mutex, checked_queue, noted_task}
use Rattle.bench_types.specs.Step.{IsCheckedStep, IsCheckedCall, task_check, mask_check, resume_check, suspending_check, ◌>>◌}
use Rattle.bench_types.specs.Limits.{max_depth}
use Rattle.bench_model.specs.Notes.{wait_entered, take_entered, of_slot, slot_of}
use Rattle.bench_model.specs.Notifying.{is_passed}
use Rattle.bench_model.specs.Refusals.{call_refusal, give_refusal, opens_hold, closes_hold, would_block, refusal}
use Rattle.bench_model.specs.State.{call_at, yielded, blocked}
use Rattle.bench_model.specs.Control.{current, is_due}
use Rattle.bench_model.specs.Holds.{is_held_by, is_held_elsewhere, depth_of, hold_opened, hold_closed}
use Rattle.bench_model.specs.Steps.{delayed_until, called, performed, after, after_finish}
use Rattle.bench_model.specs.Until.{next_wake, is_ahead, ticks_to}
use Rattle.step_laws.proofs.Holds.{in_place, checked_call, held_after}
use Rattle.bench_model.proofs.Untils.{some_ticks_to, few_ticks_to}
use Rattle.bench_model.specs.Table.{Table, stamp_queues, tick_count}
use Rattle.bench_model.specs.Lists.{View, list_queues, lists_of, view_of}
use Rattle.bench_model.specs.Lists.{seen_of}
use Rattle.bench_model.specs.Equal.{Same}
use Rattle.bench_model.specs.Session.{step_of}
use Rattle.bench_model.specs.Sound.{IsCaller, StepFits, IsConsistent, IsSound}
use Rattle.rule_laws.proofs.Awaiting.{wait_entered_word, take_entered_word, interrupted_seen, interrupted_sound, forgotten_seen, forgotten_sound, bits_seen}
use Rattle.rule_laws.proofs.Awaiting.{bits_sound, timeout_seen, timeout_sound}
use Rattle.rule_laws.proofs.Mutexes.{take_seen, take_sound, give_seen, give_sound}
use Rattle.rule_laws.proofs.Finishes.{finished_seen, finished_sound}
use Rattle.rule_laws.proofs.Queues as queues
use Rattle.rule_laws.proofs.Suspending.{suspend_rule_seen, resume_rule_seen, interrupt_rule_seen, suspend_rule_sound, resume_rule_sound, resume_interrupted_sound}
use Rattle.rule_laws.proofs.Notifying.{notify_seen, notify_sound, ruled_sound}
use Rattle.order_laws.proofs.SeenSteps.{yielded_seen, blocked_seen}
use Rattle.order_laws.proofs.SoundSteps.{yielded_sound, blocked_sound}
use Rattle.rule_laws.proofs.Seeks.{after_switch_seen, after_switch_sound}
use Rattle.rule_laws.proofs.PriorityAffinity.{priority_seen, priority_sound, affinity_seen, affinity_sound, off_seen, off_sound, on_seen, on_sound}
use Rattle.rule_laws.proofs.Ticks.{ticked_seen, ticked_sound}
use Rattle.order_laws.proofs.Sizes.{resized}

abbrev outcome_from : Reply → View → Reply × View
outcome_from reply view = (reply, view)

same_outcome : (reply : Reply) (one other : View) → one ≡ other → outcome_from reply one ≡ outcome_from reply other
same_outcome reply one other a = ap (λ view. outcome_from reply view) a

-- the task that a checked call is for
pub set_task : (settings : Settings) (task : ℕ) → task_check settings task ≡ Ok tt → task < settings.tasks
set_task settings task passes = (checked_task settings task passes).1

pub affinity_set_task : (settings : Settings) (task mask : ℕ) → (task_check settings task >> mask_check settings mask) ≡ Ok tt → task < settings.tasks
affinity_set_task settings task mask passes = set_task settings task (both_pass (task_check settings task) (mask_check settings mask) passes).0

-- the task that is suspended or resumed
pub resume_task : (settings : Settings) (task : ℕ) → resume_check settings task ≡ Ok tt → task < settings.tasks
resume_task settings task passes = set_task settings task (both_pass (task_check settings task) (suspending_check settings) passes).0

-- it is a user task
resume_user : (settings : Settings) (task : ℕ) → resume_check settings task ≡ Ok tt → settings.cores ≤ task
resume_user settings task passes = (checked_task settings task (both_pass (task_check settings task) (suspending_check settings) passes).0).0

-- the caller of a step in place is a task
caller_below : (core task : ℕ) (table : Table) → IsConsistent table → IsCaller table core task → task < table.settings.tasks
caller_below core task table sound place = omega (arith, sound.sized.rows, place.2)

until_seen : (core task prev inc : ℕ) (table : Table) → IsConsistent table → IsCaller table core task → seen_of
    (delayed_until stamp_queues core task prev inc table) ≡ delayed_until list_queues core task prev inc (view_of table)
unfolding delayed_until lists_of
until_seen core task prev inc table sound place = either (is_ahead now prev wake)
  where
    now : ℕ
    now = tick_count table.orders

    wake : ℕ
    wake = next_wake prev inc

    call : Unfinished
    call = Made (blocking.DelayUntil prev inc)

    either : (b : Bool) → seen_of (cond b (Until true wake, blocked stamp_queues core task call (Some (ticks_to now wake)) None table)
        (Until false wake, yielded stamp_queues core table)) ≡ cond b (
          Until true wake,
          blocked list_queues core task call (Some (ticks_to now wake)) None
              (view_of table),
        ) (Until false wake, yielded list_queues core (view_of table))
    either true = same_outcome (Until true wake) _ _ (blocked_seen core task call (Some (ticks_to now wake)) None table sound.stamped.given place.2 place.3)
    either false = same_outcome (Until false wake) _ _ (yielded_seen core table)

opened_seen : (core : ℕ) (table : Table) → outcome_from Done (view_of (hold_opened core table)) ≡ (Done, hold_opened core (view_of table))
unfolding hold_opened
opened_seen core table = refl

closed_seen : (core : ℕ) (table : Table) → outcome_from Done (view_of (hold_closed core table)) ≡ (Done, hold_closed core (view_of table))
unfolding hold_closed
closed_seen core table = refl

pub called_seen : (core task : ℕ) (call : Call) (table : Table) → IsConsistent table → IsCheckedCall table.settings call → IsCaller table core task → seen_of
    (called stamp_queues core task call table) ≡ called list_queues core task call (view_of table)
unfolding called
called_seen core task Yield table sound checked place = same_outcome Done _ _ (yielded_seen core table)
called_seen core task (Delay ticks) table sound checked place = either (eqb ticks 0)
  where
    either : (b : Bool) → seen_of (cond b (Done, yielded stamp_queues core table)
        (Blocked, blocked stamp_queues core task (Made (blocking.Delay ticks)) (Some ticks) None table)) ≡ cond b
        (Done, yielded list_queues core (view_of table)) (
          Blocked,
          blocked list_queues core task (Made (blocking.Delay ticks)) (Some ticks) None
              (view_of table),
        )
    either true = same_outcome Done _ _ (yielded_seen core table)
    either false = same_outcome Blocked _ _ (blocked_seen core task (Made (blocking.Delay ticks)) (Some ticks) None table sound.stamped.given place.2 place.3)
called_seen core task (DelayUntil prev inc) table sound checked place = until_seen core task prev inc table sound place
called_seen core task Finish table sound checked place = from (call_at table.calls task)
  where
    from : (unfinished : Option Unfinished) → seen_of (option_map_or (λ call. after_finish stamp_queues core task call table) unfinished (Done, table)) ≡
        option_map_or (λ call. after_finish list_queues core task call (view_of table)) unfinished (Done, view_of table)
    from None = refl
    from (Some call) = finished_seen table core task call sound place
called_seen core task (PrioritySet other priority) table sound checked place = same_outcome Done _ _
    (priority_seen table core other priority sound (set_task table.settings other checked.passes))
called_seen core task (AffinitySet other mask) table sound checked place = same_outcome Done _ _
    (affinity_seen table core other mask sound (affinity_set_task table.settings other mask checked.passes))
called_seen core task (PreemptOff other) table sound checked place = same_outcome Done _ _ (off_seen table other)
called_seen core task (PreemptOn other) table sound checked place = same_outcome Done _ _ (on_seen table core other)
called_seen core task (Notify note) table sound checked place = same_outcome (Flag (is_passed note table)) _ _
    (notify_seen table core note sound (noted_task table.settings note checked.passes).1)
called_seen core task (NotifyWait entry exit ticks index) table sound checked place = timeout_seen table core task (blocking.NotifyWait entry exit ticks index)
    ticks (of_slot (slot_of table.settings task index) (wait_entered entry) table.notes) sound place.2 place.3
called_seen core task (NotifyTake clear ticks index) table sound checked place = timeout_seen table core task (blocking.NotifyTake clear ticks index) ticks
    (of_slot (slot_of table.settings task index) take_entered table.notes) sound place.2 place.3
called_seen core task (StateClear other index) table sound checked place = forgotten_seen table other index
called_seen core task (ValueClear other bits index) table sound checked place = bits_seen table other bits index
called_seen core task (MutexTake mutex ticks) table sound checked place = take_seen table core task mutex ticks sound place
called_seen core task (MutexGive mutex) table sound checked place = give_seen table core task mutex sound (caller_below core task table sound place)
    (checked_mutex table.settings mutex checked.passes)
called_seen core task (QueueSend queue ticks) table sound checked place = queues.called_seen table core task Send queue ticks sound place
called_seen core task (QueueReceive queue ticks) table sound checked place = queues.called_seen table core task Receive queue ticks sound place
called_seen core task (Suspend other) table sound checked place = same_outcome Done _ _
    (suspend_rule_seen table core other sound (resume_task table.settings other checked.passes))
called_seen core task (Resume other) table sound checked place = same_outcome Done _ _
    (resume_rule_seen table core other sound (resume_task table.settings other checked.passes))
called_seen core task HoldOpen table sound checked place = opened_seen core table
called_seen core task HoldClose table sound checked place = closed_seen core table

pub performed_seen : (step : Step) (table : Table) → IsConsistent table → IsCheckedStep table.settings step → StepFits table step → seen_of
    (performed stamp_queues step table) ≡ performed list_queues step (view_of table)
unfolding performed
performed_seen Tick table sound checked place = same_outcome Done _ _ (ticked_seen table sound)
performed_seen (Switch core) table sound checked place = same_outcome Done _ _ (after_switch_seen table core sound (omega (arith, sound.sized.cores, place)))
performed_seen (Interrupt core note) table sound checked place = interrupted_seen table core note sound place.1
performed_seen (QueueInterrupt core queue direction) table sound checked place = queues.interrupted_seen table core direction queue sound
performed_seen (ResumeInterrupt core task) table sound checked place = interrupt_rule_seen table core task sound place.1
performed_seen (Pass units) table sound checked place = refl
performed_seen (steps.Call core task call) table sound checked place = called_seen core task call table sound
    (checked_call table.settings core task call checked).0 place

after_from : (step : Step) (table : Table) (why : Option Refusal) → (why ≡ None → seen_of (performed stamp_queues step table) ≡ performed list_queues step
    (view_of table)) → seen_of (option_map_or (λ why. (Refused why, table)) why (performed stamp_queues step table)) ≡ option_map_or
    (λ why. (Refused why, view_of table)) why (performed list_queues step (view_of table))
after_from step table None performs = performs refl
after_from step table (Some why) performs = refl

-- what a step is refused for can be seen
would_block_seen : (task : ℕ) (call : Call) (table : Table) → would_block list_queues task call (view_of table) ≡ would_block stamp_queues task call table
unfolding would_block lists_of
would_block_seen task Yield table = refl
would_block_seen task (Delay ticks) table = refl
would_block_seen task (DelayUntil prev inc) table = refl
would_block_seen task Finish table = refl
would_block_seen task (PrioritySet other priority) table = refl
would_block_seen task (AffinitySet other mask) table = refl
would_block_seen task (PreemptOff other) table = refl
would_block_seen task (PreemptOn other) table = refl
would_block_seen task (Notify note) table = refl
would_block_seen task (NotifyWait entry exit ticks index) table = refl
would_block_seen task (NotifyTake clear ticks index) table = refl
would_block_seen task (StateClear other index) table = refl
would_block_seen task (ValueClear other bits index) table = refl
would_block_seen task (MutexTake mutex ticks) table = refl
would_block_seen task (MutexGive mutex) table = refl
would_block_seen task (QueueSend queue ticks) table = refl
would_block_seen task (QueueReceive queue ticks) table = refl
would_block_seen task (Suspend other) table = refl
would_block_seen task (Resume other) table = refl
would_block_seen task HoldOpen table = refl
would_block_seen task HoldClose table = refl

pub refusal_seen : (step : Step) (table : Table) → refusal list_queues step (view_of table) ≡ refusal stamp_queues step table
unfolding refusal
refusal_seen Tick table = refl
refusal_seen (Switch core) table = refl
refusal_seen (Interrupt core note) table = refl
refusal_seen (QueueInterrupt core queue direction) table = refl
refusal_seen (ResumeInterrupt core task) table = refl
refusal_seen (Pass units) table = refl
refusal_seen (steps.Call core task call) table =
    let kept_out = is_held_elsewhere core table.hold in
    let displaced = not (eqb (current table.control core) task) in
    let due = is_due table.control core && not (is_held_by core table.hold) in
    let fits = call_refusal (call_at table.calls task) call in
    let deep = cond (opens_hold call && eqb (depth_of table.hold) max_depth) (Some HoldDeep) None in
    let none = cond (closes_hold call) (Some NoHold) None in
    ap (λ waits. cond kept_out (Some Held) (cond displaced (Some Displaced)
    (cond due (Some SwitchDue) (option_or fits (option_or (cond (is_held_by core table.hold) (cond waits (Some HoldBlock) deep) none)
    (give_refusal table.holders task call))))))
    (would_block_seen task call table)

pub after_seen : (step : Step) (table : Table) → IsSound table → IsCheckedStep table.settings step → seen_of (after stamp_queues step table) ≡ after list_queues
    step (view_of table)
unfolding after
after_seen step table sound checked =
    after_from step table (refusal stamp_queues step table) (λ accepted. performed_seen step table sound.consistent checked
    (in_place step table sound checked.passes accepted))
    ∙ ap (λ why. option_map_or (λ why. (Refused why, view_of table)) why (performed list_queues step (view_of table))) (sym (refusal_seen step table))

-- equal tables take every step alike
pub equal_after : (a b : Table) (step : Step) → IsSound a → IsSound b → Same a b → IsCheckedStep a.settings step → ((step_of step a).0 ≡ (step_of step b).0) ×
    Same (step_of step a).1 (step_of step b).1
equal_after a b step sound other same checked =
    let settings = ap (λ (view : View). view.settings) same in
    let both : seen_of (step_of step a) ≡ seen_of (step_of step b) = after_seen step a sound checked ∙ ap (after list_queues step) same ∙ sym
    (after_seen step b other (subst (λ s. IsCheckedStep s step) settings checked)) in
    (ap (λ (r : Reply × View). r.0) both, ap (λ (r : Reply × View). r.1) both)

-- a hold is nothing that a consistent table speaks of
with_hold : (table : Table) (hold : Option Hold) → IsConsistent table → IsConsistent (record table { hold = hold })
with_hold table hold sound = record {
  sized = resized table _ refl refl sound.sized;
  stamped = sound.stamped;
  in_place = sound.in_place;
  in_time = sound.in_time;
  blocks = sound.blocks;
  calls = sound.calls;
  notes = sound.notes;
  mutexes = sound.mutexes;
}

until_sound : (core task prev inc : ℕ) (table : Table) → IsConsistent table → IsCaller table core task → IsCheckedCall table.settings (DelayUntil prev inc) →
    length table.control.cores ≤ task → IsConsistent (delayed_until stamp_queues core task prev inc table).1
unfolding delayed_until
until_sound core task prev inc table sound place checked user = either (is_ahead now prev wake) refl
  where
    now : ℕ
    now = tick_count table.orders

    wake : ℕ
    wake = next_wake prev inc

    call : Unfinished
    call = Made (blocking.DelayUntil prev inc)

    either : (b : Bool) → is_ahead now prev wake ≡ b → IsConsistent (cond {A = Reply × Table} b
        (Until true wake, blocked stamp_queues core task call (Some (ticks_to now wake)) None table) (Until false wake, yielded stamp_queues core table)).1
    either true ahead = blocked_sound core task call (Some (ticks_to now wake)) None table sound place checked user
        (some_ticks_to now prev wake (omega arith) (omega arith) ahead, few_ticks_to now wake) tt (refl, λ none. absurd (cc (none)))
    either false later = yielded_sound core table sound place.0

opened_sound : (core : ℕ) (table : Table) → IsConsistent table → IsConsistent (hold_opened core table)
unfolding hold_opened
opened_sound core table sound = with_hold table _ sound

closed_sound : (core : ℕ) (table : Table) → IsConsistent table → IsConsistent (hold_closed core table)
unfolding hold_closed
closed_sound core table sound = with_hold table _ sound

pub called_sound : (core task : ℕ) (call : Call) (table : Table) → IsConsistent table → IsCaller table core task → IsCheckedCall table.settings call → length
    table.control.cores ≤ task → IsConsistent (called stamp_queues core task call table).1
unfolding called
called_sound core task Yield table sound place checked user = yielded_sound core table sound place.0
called_sound core task (Delay ticks) table sound place checked user = either (eqb ticks 0) refl
  where
    either : (b : Bool) → eqb ticks 0 ≡ b → IsConsistent (cond {A = Reply × Table} b (Done, yielded stamp_queues core table)
        (Blocked, blocked stamp_queues core task (Made (blocking.Delay ticks)) (Some ticks) None table)).1
    either true none = yielded_sound core table sound place.0
    either false some = blocked_sound core task (Made (blocking.Delay ticks)) (Some ticks) None table sound place checked user
        (grind (arith, nat_tests, some), checked.words) tt (refl, λ none. absurd (cc (none)))
called_sound core task (DelayUntil prev inc) table sound place checked user = until_sound core task prev inc table sound place checked user
called_sound core task Finish table sound place checked user = from (call_at table.calls task) refl
  where
    from : (unfinished : Option Unfinished) → call_at table.calls task ≡ unfinished → IsConsistent
        (option_map_or {U = Reply × Table} (λ call. after_finish stamp_queues core task call table) unfinished (Done, table)).1
    from None none = sound
    from (Some call) some = finished_sound table core task call sound place (sound.calls task call some) user
called_sound core task (PrioritySet other priority) table sound place checked user = priority_sound table core other priority sound
    (set_task table.settings other checked.passes)
called_sound core task (AffinitySet other mask) table sound place checked user = affinity_sound table core other mask sound
    (affinity_set_task table.settings other mask checked.passes)
called_sound core task (PreemptOff other) table sound place checked user = off_sound table other sound (set_task table.settings other checked.passes)
called_sound core task (PreemptOn other) table sound place checked user = on_sound table core other sound (set_task table.settings other checked.passes)
called_sound core task (Notify note) table sound place checked user = notify_sound table core note sound (noted_task table.settings note checked.passes).1
    checked.words
called_sound core task (NotifyWait entry exit ticks index) table sound place checked user =
    let call = blocking.NotifyWait entry exit ticks index in
    let entered = ruled_sound (slot_of table.settings task index) (wait_entered entry) table sound (wait_entered_word entry) in
    timeout_sound table core task call ticks (of_slot (slot_of table.settings task index) (wait_entered entry) table.notes) entered place checked user
    checked.words.2
called_sound core task (NotifyTake clear ticks index) table sound place checked user =
    let call = blocking.NotifyTake clear ticks index in
    let entered = ruled_sound (slot_of table.settings task index) take_entered table sound take_entered_word in
    timeout_sound table core task call ticks (of_slot (slot_of table.settings task index) take_entered table.notes) entered place checked user checked.words
called_sound core task (StateClear other index) table sound place checked user = forgotten_sound table other index sound
called_sound core task (ValueClear other bits index) table sound place checked user = bits_sound table other bits index sound
called_sound core task (MutexTake mutex ticks) table sound place checked user = take_sound table core task mutex ticks sound place user checked.words
    (checked_mutex table.settings mutex checked.passes)
called_sound core task (MutexGive mutex) table sound place checked user = give_sound table core task mutex sound (caller_below core task table sound place)
    (checked_mutex table.settings mutex checked.passes)
called_sound core task (QueueSend queue ticks) table sound place checked user = queues.called_sound table core task Send queue ticks sound place user checked.words
    (checked_queue table.settings queue checked.passes)
called_sound core task (QueueReceive queue ticks) table sound place checked user = queues.called_sound table core task Receive queue ticks sound place user
    checked.words (checked_queue table.settings queue checked.passes)
called_sound core task (Suspend other) table sound place checked user = suspend_rule_sound table core other sound
    (resume_task table.settings other checked.passes) (resume_user table.settings other checked.passes)
called_sound core task (Resume other) table sound place checked user = resume_rule_sound table core other sound
    (resume_task table.settings other checked.passes)
called_sound core task HoldOpen table sound place checked user = opened_sound core table sound
called_sound core task HoldClose table sound place checked user = closed_sound core table sound

pub performed_sound : (step : Step) (table : Table) → IsConsistent table → IsCheckedStep table.settings step → StepFits table step → IsConsistent
    (performed stamp_queues step table).1
unfolding performed
performed_sound Tick table sound checked place = ticked_sound table sound
performed_sound (Switch core) table sound checked place = after_switch_sound table core sound (omega (arith, sound.sized.cores, place))
performed_sound (Interrupt core note) table sound checked place = interrupted_sound table core note sound place.1 checked.words
performed_sound (QueueInterrupt core queue direction) table sound checked place = queues.interrupted_sound table core direction queue sound
performed_sound (ResumeInterrupt core task) table sound checked place = resume_interrupted_sound table core task sound place.1
performed_sound (Pass units) table sound checked place = sound
performed_sound (steps.Call core task call) table sound checked place =
    let call_checked = checked_call table.settings core task call checked in
    called_sound core task call table sound place call_checked.0 (omega (arith, sound.sized.cores, call_checked.1))

pub after_sound : (step : Step) (table : Table) → IsSound table → IsCheckedStep table.settings step → IsSound (after stamp_queues step table).1
unfolding after
after_sound step table sound checked = from (refusal stamp_queues step table) refl
  where
    from : (why : Option Refusal) → refusal stamp_queues step table ≡ why → IsSound
        (option_map_or {U = Reply × Table} (λ why. (Refused why, table)) why (performed stamp_queues step table)).1
    from None accepted = record {
      consistent = performed_sound step table sound.consistent checked (in_place step table sound checked.passes accepted);
      held =
          held_after step table sound checked accepted;
    }
    from (Some why) refused = sound
