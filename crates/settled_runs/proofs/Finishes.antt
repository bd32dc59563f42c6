-- A `finish` leaves the unfinished calls less weight: the call is over, or its task waits again. All others stand as they did, but for
-- one that a message wakes.
use Rattle.std.proofs.Common.{◌≡◌, ℕ, ◌+◌, ◌<◌, ◌≤◌, ◌≢◌, Bool, true, false, cond, not, eqb, ltb, ◌&&◌, length, Option, Some, None, refl, sym, ap, subst, ◌∙◌, arith}
use Rattle.std.specs.Prelude.{is_some, slice_set}
use Rattle.std.specs.List.{sum_by}
use Rattle.std.specs.Option.{option_map_or}
use Rattle.std.proofs.lemmas.List.{get_or-set_same, get_or-set_other, length-set}
use Rattle.bench_types.specs.declared.kernel_data.EventWait.{EventWait}
use Rattle.bench_types.specs.declared.kernel_data.Waiter.{Waiter}
use Rattle.bench_types.specs.declared.reply.Reply.{Reply}
use Rattle.bench_types.specs.declared.reply.Reply.TheVariants.{Done, Blocked, Flag}
use Rattle.bench_types.specs.declared.step.Step.TheVariants as steps
use Rattle.bench_types.specs.declared.step.Call.TheVariants.{Finish}
use Rattle.bench_types.specs.declared.step.BlockingCall.{BlockingCall}
use Rattle.bench_types.specs.declared.step.Unfinished.{Unfinished}
use Rattle.bench_types.specs.declared.step.Direction.{Direction}
use Rattle.bench_types.specs.declared.step.Unfinished.TheVariants.{Made, Take, Transfer}
use Rattle.bench_types.specs.Step.{IsCheckedStep}
use Rattle.bench_model.specs.declared.row.TaskState.TheVariants as standings
use Rattle.bench_model.specs.Control.{Control, task_at, in_mask}
use Rattle.bench_model.specs.ControlFields.{in_use_set, in_use_and_value_set}
use Rattle.bench_model.specs.Mutexes.{first_woken, held_by, taken, inherited, waited_at, after_disinherit, timed_out, finish_from, take_finished}
use Rattle.bench_model.specs.Notifying.{completed}
use Rattle.bench_model.specs.Queues.{can_pass, other_way, passed, queue_at, queue_finished, queue_waited, with_passed}
use Rattle.bench_model.specs.Refusals.{call_refusal}
use Rattle.bench_model.specs.Seek.{seek, wake}
use Rattle.bench_model.specs.Session.{step_of}
use Rattle.bench_model.specs.Sound.{IsConsistent, IsSound, IsCaller, IsWaiter}
use Rattle.bench_model.specs.State.{call_at, holder_at, after_return, blocked}
use Rattle.bench_model.specs.Steps.{after_finish, called, performed}
use Rattle.bench_model.specs.Table.{Stamps, Table, stamp_queues, is_ready, stands_ready, add_to_ready_list, ahead, delay, deadline_left, first_waiter, forget_deadline, set_list_value}
use Rattle.bench_model.specs.Waiters.{event_list}
use Rattle.list_orders.specs.Search.{numbers}
use Rattle.order_laws.proofs.FirstWaiters.{first_waiter_all}
use Rattle.order_laws.proofs.SoundMutexes.{standing_same, standing_other}
use Rattle.rule_laws.proofs.Awaiting.{completed_notes}
use Rattle.rule_laws.proofs.Mutexes.{forgotten_sound}
use Rattle.rule_laws.proofs.Queues.{with_passed_sound}
use Rattle.step_laws.proofs.Holds.{accepted, in_place}
use Rattle.settled_runs.specs.Settled.{is_open}
use Rattle.settled_runs.specs.Work.{call_weight}
use Rattle.settled_runs.proofs.Sums.{one_sum}
use Rattle.settled_runs.proofs.Switches.{none_refused, ready_again, step_open}

-- the same tasks are ready and have unfinished calls
record IsCalm (table later : Table) : Type 0 where
  ready : (i : ℕ) → is_ready i later.orders ≡ is_ready i table.orders
  calls : later.calls ≡ table.calls

-- the task's call weighs less than that of a ready task, and all others weigh what they did
record HasEnded (task : ℕ) (table later : Table) : Type 0 where
  ends : call_weight later task < 2
  others : (i : ℕ) → i ≢ task → call_weight later i ≡ call_weight table i

-- what the unfinished calls of so many tasks weigh
abbrev pub weights : Table → ℕ → ℕ
weights table tasks = sum_by (call_weight table) (numbers tasks)

calm_weight : (table later : Table) → IsCalm table later → (i : ℕ) → call_weight later i ≡ call_weight table i
calm_weight table later calm i = λ k. cond (is_some (call_at (calm.calls k) i)) (cond (calm.ready i k) 2 1) 0

calm_then : (task : ℕ) (table next later : Table) → IsCalm table next → HasEnded task next later → HasEnded task table later
calm_then task table next later calm ended = record { ends = ended.ends; others = λ i away. ended.others i away ∙ calm_weight table next calm i }

then_calm : (task : ℕ) (table next later : Table) → HasEnded task table next → IsCalm next later → HasEnded task table later
then_calm task table next later ended calm =
    record { ends = omega (arith, calm_weight next later calm task, ended.ends); others = λ i away. calm_weight next later calm i ∙ ended.others i away }

calm_same : (table : Table) → IsCalm table table
calm_same table = record { ready = λ i. refl; calls = refl }

either_calm : (b : Bool) (table one other : Table) → IsCalm table one → IsCalm table other → IsCalm table (cond b one other)
either_calm true table one other first second = first
either_calm false table one other first second = second

-- ---- rules that leave who is ready

in_use_ready : (table : Table) (task priority : ℕ) → task < length table.orders.rows → (i : ℕ)
    → is_ready i (in_use_and_value_set stamp_queues task priority table).orders ≡ is_ready i table.orders
unfolding in_use_set in_use_and_value_set set_list_value
in_use_ready table task priority below i = at (is_ready task table.orders) refl
  where
    at : (b : Bool) → is_ready task table.orders ≡ b → is_ready i (cond b (add_to_ready_list task table.orders) table.orders) ≡ is_ready i table.orders
    at true ready = ready_again table.orders task below ready i
    at false waits = refl

in_use_calm : (table : Table) (task priority : ℕ) (control : Control) → task < length table.orders.rows
    → IsCalm table (record (in_use_and_value_set stamp_queues task priority table) { control = control })
unfolding in_use_set in_use_and_value_set set_list_value
in_use_calm table task priority control below = record { ready = in_use_ready table task priority below; calls = refl }

set_calm : (table : Table) (task priority : ℕ) → task < length table.orders.rows → IsCalm table (in_use_and_value_set stamp_queues task priority table)
unfolding in_use_set in_use_and_value_set set_list_value
set_calm table task priority below = record { ready = in_use_ready table task priority below; calls = refl }

inherited_calm : (table : Table) (acting holder priority : ℕ) → holder < length table.orders.rows
    → IsCalm table (inherited stamp_queues acting holder priority table)
unfolding inherited
inherited_calm table acting holder priority below =
    either_calm (ltb (task_at table.control holder).in_use priority) table _ table
    (either_calm (is_ready holder table.orders) table _ _ (in_use_calm table holder priority _ below) (set_calm table holder priority below))
    (calm_same table)

disinherit_calm : (table : Table) (acting task priority : ℕ) → task < length table.orders.rows
    → IsCalm table (after_disinherit stamp_queues acting task priority table)
unfolding after_disinherit
disinherit_calm table acting task priority below =
    either_calm (eqb (task_at table.control task).in_use priority) table table _ (calm_same table) (in_use_calm table task priority _ below)

timed_out_calm : (table : Table) (acting task mutex : ℕ) (mark : Bool) (holder : ℕ) → holder < length table.orders.rows
    → IsCalm table (timed_out stamp_queues acting task mutex mark holder table)
unfolding timed_out
timed_out_calm table acting task mutex mark holder below =
    either_calm (mark && not (eqb holder task) && eqb (held_by table.holders holder) 1) table _ table (disinherit_calm table acting holder _ below)
    (calm_same table)

taken_calm : (table : Table) (task mutex : ℕ) → IsCalm table (taken task mutex table)
unfolding taken
taken_calm table task mutex = record { ready = λ i. refl; calls = refl }

completed_calm : (table : Table) (task : ℕ) (call : BlockingCall) → IsCalm table (completed task call table).1
completed_calm table task call = let made = completed_notes task call table in subst (IsCalm table) (sym made.1) (record { ready = λ i. refl; calls = refl })

in_use_rows : (table : Table) (task priority : ℕ) → length (in_use_and_value_set stamp_queues task priority table).orders.rows ≡ length table.orders.rows
unfolding in_use_set in_use_and_value_set set_list_value add_to_ready_list
in_use_rows table task priority = at (is_ready task table.orders)
  where
    at : (b : Bool) → length (cond b (add_to_ready_list task table.orders) table.orders).rows ≡ length table.orders.rows
    at true = length-set table.orders.rows task _
    at false = refl

inherited_rows : (table : Table) (acting holder priority : ℕ)
    → length (inherited stamp_queues acting holder priority table).orders.rows ≡ length table.orders.rows
unfolding inherited
inherited_rows table acting holder priority = at (ltb (task_at table.control holder).in_use priority) (is_ready holder table.orders)
  where
    later : Table
    later = in_use_and_value_set stamp_queues holder priority table

    at : (b d : Bool)
        → length (cond b (cond d (record later { control = seek acting holder (in_mask later.control holder) later.control }) later) table).orders.rows ≡ length
        table.orders.rows
    at true true = in_use_rows table holder priority
    at true false = in_use_rows table holder priority
    at false d = refl

return_rows : (table : Table) (task : ℕ) → length (after_return stamp_queues task table).orders.rows ≡ length table.orders.rows
unfolding forget_deadline
return_rows table task = refl

-- ---- rules that end a call

-- the call of a task that waits weighs less
waits_light : (has : Bool) → cond has (cond false 2 1) 0 < 2
waits_light true = omega arith
waits_light false = omega arith

return_weight : (table : Table) (task : ℕ) → task < length table.calls → call_weight (after_return stamp_queues task table) task ≡ 0
unfolding forget_deadline
return_weight table task below =
    ap {B = ℕ} (λ call. cond (is_some call) (cond (is_ready task table.orders) 2 1) 0) (get_or-set_same table.calls task None None below)

return_others : (table : Table) (task i : ℕ) → i ≢ task → call_weight (after_return stamp_queues task table) i ≡ call_weight table i
unfolding forget_deadline
return_others table task i away =
    ap {B = ℕ} (λ call. cond (is_some call) (cond (is_ready i table.orders) 2 1) 0) (get_or-set_other table.calls task i None None away)

return_ends : (table : Table) (task : ℕ) → task < length table.calls → HasEnded task table (after_return stamp_queues task table)
return_ends table task below = record {
  ends = omega (arith, return_weight table task below);
  others = λ i away. return_others table task i away;
}

delayed_waits : (stamps : Stamps) (task : ℕ) (ticks : Option ℕ) (wait : Option EventWait) → task < length stamps.rows
    → is_ready task (delay task ticks wait stamps) ≡ false
unfolding delay
delayed_waits stamps task ticks wait below = ap stands_ready (standing_same stamps task (standings.Blocked (ahead stamps ticks)) below)

delayed_others : (stamps : Stamps) (task : ℕ) (ticks : Option ℕ) (wait : Option EventWait) → task < length stamps.rows → (i : ℕ) → i ≢ task
    → is_ready i (delay task ticks wait stamps) ≡ is_ready i stamps
unfolding delay
delayed_others stamps task ticks wait below i away = ap stands_ready (standing_other stamps task (standings.Blocked (ahead stamps ticks)) below i away)

block_ends : (table : Table) (core task : ℕ) (call : Unfinished) (ticks : Option ℕ) (wait : Option EventWait) → task < length table.orders.rows
    → HasEnded task table (blocked stamp_queues core task call ticks wait table)
unfolding blocked
block_ends table core task call ticks wait below = record {
  ends = omega (
    arith,
    ap {B = ℕ} (λ ready. cond (is_some (call_at (slice_set table.calls task (Some call)) task)) (cond ready 2 1) 0) (delayed_waits table.orders task ticks wait below),
    waits_light (is_some (call_at (slice_set table.calls task (Some call)) task)),
  );
  others = λ i away.
      (λ k. cond (is_some (get_or-set_other table.calls task i (Some call) None away k)) (cond (delayed_others table.orders task ticks wait below i away k) 2 1) 0);
}

-- ---- a task that a message wakes

-- a call weighs one more at most where its task is ready
ready_weight : (has ready : Bool) → cond has (cond true 2 1) 0 ≤ cond has (cond ready 2 1) 0 + 1
ready_weight true true = omega arith
ready_weight true false = omega arith
ready_weight false ready = omega arith

woken_others : (stamps : Stamps) (task : ℕ) → task < length stamps.rows → (i : ℕ) → i ≢ task → is_ready i (add_to_ready_list task stamps) ≡ is_ready i stamps
unfolding add_to_ready_list
woken_others stamps task below i away = ap stands_ready (standing_other stamps task standings.Ready below i away)

woken_ready : (stamps : Stamps) (task : ℕ) → task < length stamps.rows → is_ready task (add_to_ready_list task stamps) ≡ true
unfolding add_to_ready_list
woken_ready stamps task below = ap stands_ready (standing_same stamps task standings.Ready below)

wake_weights : (table : Table) (acting task tasks : ℕ) → task < length table.orders.rows → task < tasks
    → weights (wake stamp_queues acting task table) tasks ≤ weights table tasks + 1
unfolding wake
wake_weights table acting task tasks below low =
    let later = wake stamp_queues acting task table in
    let has = is_some (call_at table.calls task) in
    let here = ap {B = ℕ} (λ ready. cond has (cond ready 2 1) 0) (woken_ready table.orders task below) in
    let more = ready_weight has (is_ready task table.orders) in
    let others = λ (i : ℕ) (away : i ≢ task).
    ap {B = ℕ} (λ ready. cond (is_some (call_at table.calls i)) (cond ready 2 1) 0) (sym (woken_others table.orders task below i away)) in
    let sums = one_sum (call_weight table) (call_weight later) task tasks low others in
    omega (arith, here, more, sums)

first_weights : (table : Table) (acting list : ℕ) → IsConsistent table
    → weights (first_woken stamp_queues acting list table) table.settings.tasks ≤ weights table table.settings.tasks + 1
unfolding first_woken
first_weights table acting list sound = at (first_waiter list table.orders) refl
  where
    tasks : ℕ
    tasks = table.settings.tasks

    at : (first : Option Waiter) → first_waiter list table.orders ≡ first
        → weights (option_map_or (λ (waiter : Waiter). wake stamp_queues acting waiter.task table) first table) tasks ≤ weights table tasks + 1
    at None none = omega arith
    at (Some waiter) some =
        let waits = first_waiter_all (IsWaiter table.settings table.orders) list table.orders waiter sound.mutexes.waits some in
        wake_weights table acting waiter.task tasks waits.0 (omega (arith, sound.sized.rows, waits.0))

passed_weights : (table : Table) (core : ℕ) (direction : Direction) (queue : ℕ) → IsConsistent table
    → weights (passed stamp_queues core direction queue table) table.settings.tasks ≤ weights table table.settings.tasks + 1
unfolding passed
passed_weights table core direction queue sound =
    first_weights (with_passed direction queue table) core (event_list table.settings (other_way direction) queue)
    (with_passed_sound table direction queue sound)

-- ---- a finish

module _ (table : Table) (core task : ℕ) (sound : IsConsistent table) (place : IsCaller table core task) where
  low : task < length table.calls
  low = omega (arith, sound.sized.calls, sound.sized.rows, place.2)

  returned : HasEnded task table (after_return stamp_queues task table)
  returned = return_ends table task low

  tasks : ℕ
  tasks = table.settings.tasks

  on : task < table.settings.tasks
  on = omega (arith, sound.sized.rows, place.2)

  -- before the finish its call weighs two
  before : is_some (call_at table.calls task) ≡ true → call_weight table task ≡ 2
  before has = (λ k. cond (has k) (cond (place.3 k) 2 1) 0)

  -- so less is left of it
  ended_lessens : (later : Table) → is_some (call_at table.calls task) ≡ true → HasEnded task table later
      → weights later table.settings.tasks < weights table table.settings.tasks
  ended_lessens later has ended =
      let sums = one_sum (call_weight table) (call_weight later) task table.settings.tasks on (λ i away. sym (ended.others i away)) in
      omega (arith, before has, ended.ends, sums)

  returned_weights : is_some (call_at table.calls task) ≡ true
      → weights (after_return stamp_queues task table) table.settings.tasks + 2 ≡ weights table table.settings.tasks
  returned_weights has =
      let over = after_return stamp_queues task table in
      let sums = one_sum (call_weight table) (call_weight over) task table.settings.tasks on (λ i away. sym (return_others table task i away)) in
      omega (arith, before has, return_weight table task low, sums)

  wait_ends : (mutex holder : ℕ) (left : Option ℕ) → holder_at table.holders mutex ≡ Some holder
      → HasEnded task table (waited_at stamp_queues core task mutex holder left table)
  unfolding waited_at
  wait_ends mutex holder left held =
      let owner = sound.mutexes.held_by_tasks mutex holder held in
      let calm = inherited_calm table core holder (task_at table.control task).in_use (omega (arith, owner, sound.sized.rows)) in
      let rows = inherited_rows table core holder (task_at table.control task).in_use in
      calm_then task table _ _ calm (block_ends _ core task _ left _ (subst (λ n. task < n) (sym rows) place.2))

  take_ends : (mutex : ℕ) (mark : Bool) → HasEnded task table (take_finished stamp_queues core task mutex mark table).1
  unfolding take_finished
  take_ends mutex mark = at (holder_at table.holders mutex) refl
    where
      later : (holder : ℕ) → holder_at table.holders mutex ≡ Some holder → (b : Bool)
          → HasEnded task table
          (cond {A = Reply × Table} b (Flag false, timed_out stamp_queues core task mutex mark holder (after_return stamp_queues task table))
          (Blocked, waited_at stamp_queues core task mutex holder (deadline_left task table.orders) table)).1
      later holder held true =
          let owner = sound.mutexes.held_by_tasks mutex holder held in
          then_calm task table _ _ returned
          (timed_out_calm (after_return stamp_queues task table) core task mutex mark holder
          (omega (arith, owner, sound.sized.rows, return_rows table task)))
      later holder held false = wait_ends mutex holder (deadline_left task table.orders) held

      at : (o : Option ℕ) → holder_at table.holders mutex ≡ o
          → HasEnded task table (finish_from stamp_queues o core task mutex mark table).1
      at None free = then_calm task table _ _ returned (taken_calm (after_return stamp_queues task table) task mutex)
      at (Some holder) held = later holder held (option_map_or (λ ticks. eqb ticks 0) (deadline_left task table.orders) false)

  queue_wait_ends : (direction : Direction) (queue : ℕ) (left : Option ℕ) → HasEnded task table
      (queue_waited stamp_queues core task direction queue left table)
  unfolding queue_waited
  queue_wait_ends direction queue left = block_ends table core task _ left _ place.2

  transfer_lessens : (direction : Direction) (queue : ℕ) → is_some (call_at table.calls task) ≡ true
      → weights (queue_finished stamp_queues core task direction queue table).1 table.settings.tasks < weights table table.settings.tasks
  unfolding queue_finished
  transfer_lessens direction queue has =
      at (can_pass direction (queue_at table.queues queue)) (option_map_or (λ ticks. eqb ticks 0) (deadline_left task table.orders) false)
    where
      over : Table
      over = after_return stamp_queues task table

      waits : Table
      waits = queue_waited stamp_queues core task direction queue (deadline_left task table.orders) table

      at : (b d : Bool) → weights (cond {A = Reply × Table} b (Flag true, passed stamp_queues core direction queue over)
          (cond d (Flag false, over) (Blocked, waits))).1 table.settings.tasks < weights table table.settings.tasks
      at true d = omega (arith, returned_weights has, passed_weights over core direction queue (forgotten_sound table task sound on place.3))
      at false true = omega (arith, returned_weights has)
      at false false = ended_lessens waits has (queue_wait_ends direction queue (deadline_left task table.orders))

  finish_lessens : (call : Unfinished) → is_some (call_at table.calls task) ≡ true
      → weights (after_finish stamp_queues core task call table).1 table.settings.tasks < weights table table.settings.tasks
  unfolding after_finish
  finish_lessens (Made call) has = ended_lessens _ has (then_calm task table _ _ returned (completed_calm (after_return stamp_queues task table) task call))
  finish_lessens (Take mutex mark) has = ended_lessens _ has (take_ends mutex mark)
  finish_lessens (Transfer queue direction) has = transfer_lessens direction queue has

-- a call of `finish` that is not refused leaves the unfinished calls less weight
module _ (table : Table) (core task : ℕ) (sound : IsSound table) (checked : IsCheckedStep table.settings (steps.Call core task Finish))
    (free : is_open table (steps.Call core task Finish) ≡ true) where
  caller : IsCaller table core task
  caller = in_place (steps.Call core task Finish) table sound checked.passes (none_refused table (steps.Call core task Finish) free)

  has_call : is_some (call_at table.calls task) ≡ true
  has_call = at (call_at table.calls task) (accepted stamp_queues core task Finish table (none_refused table (steps.Call core task Finish) free)).fits
    where
      at : (o : Option Unfinished) → call_refusal o Finish ≡ None → is_some o ≡ true
      at None fits = absurd (cc (fits))
      at (Some call) fits = refl

  pub lighter_after : weights (step_of (steps.Call core task Finish) table).1 table.settings.tasks < weights table table.settings.tasks
  unfolding performed called
  lighter_after =
      subst (λ (outcome : Reply × Table). weights outcome.1 table.settings.tasks < weights table table.settings.tasks) (sym (step_open table (steps.Call core task Finish) free))
      (at (call_at table.calls task) has_call)
    where
      at : (o : Option Unfinished) → is_some o ≡ true
          → weights (option_map_or {U = Reply × Table} (λ call. after_finish stamp_queues core task call table) o (Done, table)).1 table.settings.tasks <
          weights table table.settings.tasks
      at None none = absurd (cc (none))
      at (Some call) some = finish_lessens table core task sound.consistent caller call has_call
