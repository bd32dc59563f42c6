-- A step is answered E1 where a hold keeps it out, and nowhere else.
use Rattle.std.proofs.Common.{◌≡◌, ℕ, Bool, true, false, cond, not, eqb, ◌&&◌, List, [], ◌∷◌, Option, Some, None, refl, sym, ap, ◌∙◌, rules}
use Rattle.std.specs.Prelude.{◌↔◌, is_some}
use Rattle.std.specs.List.{fold}
use Rattle.std.specs.Option.{option_or, option_map_or}
use Rattle.bench_types.specs.declared.header.Header.{Header}
use Rattle.bench_types.specs.declared.reply.Refusal.{Refusal}
use Rattle.bench_types.specs.declared.reply.Refusal.TheVariants.{Held, NotHolder, NotDue}
use Rattle.bench_types.specs.declared.reply.Reply.{Reply}
use Rattle.bench_types.specs.declared.reply.Reply.TheVariants.{Refused}
use Rattle.bench_types.specs.declared.step.Step.{Step}
use Rattle.bench_types.specs.declared.step.Step.TheVariants.{Tick, Switch, Interrupt, QueueInterrupt, ResumeInterrupt, Pass}
use Rattle.bench_types.specs.declared.step.Step.TheVariants as steps
use Rattle.bench_types.specs.declared.step.Call.{Call}
use Rattle.bench_types.specs.declared.step.Call.TheVariants.{Yield, Delay, DelayUntil, Finish, PrioritySet, AffinitySet, PreemptOff, PreemptOn, Notify}
use Rattle.bench_types.specs.declared.step.Call.TheVariants.{NotifyWait, NotifyTake, StateClear, ValueClear, MutexTake, MutexGive, QueueSend, QueueReceive, Suspend, Resume, HoldOpen, HoldClose}
use Rattle.bench_types.specs.declared.step.Direction.{Direction}
use Rattle.bench_types.specs.declared.step.Direction.TheVariants.{Send, Receive}
use Rattle.bench_types.specs.declared.step.BlockingCall.{BlockingCall}
use Rattle.bench_types.specs.declared.step.BlockingCall.TheVariants as blocking
use Rattle.bench_types.specs.declared.step.Unfinished.{Unfinished}
use Rattle.bench_types.specs.declared.step.Unfinished.TheVariants.{Made, Take, Transfer}
use Rattle.bench_types.specs.Limits.{max_depth}
use Rattle.list_orders.specs.Search.{numbers}
use Rattle.bench_model.specs.Control.{current, is_due}
use Rattle.bench_model.specs.History.{is_kept_out}
use Rattle.bench_model.specs.Holds.{is_held_by, is_held_elsewhere, depth_of}
use Rattle.bench_model.specs.Mutexes.{take_from, mutex_take, finish_from, take_finished, give_from, mutex_give}
use Rattle.bench_model.specs.Notifying.{interrupted, state_forgotten, bits_cleared, completed, awaited}
use Rattle.bench_model.specs.Queues.{can_pass, queue_at, queue_called, queue_finished, queue_interrupted}
use Rattle.bench_model.specs.Refusals.{call_refusal, opens_hold, closes_hold, give_refusal, would_block, hold_refusal, own_refusal, refusal}
use Rattle.bench_model.specs.Seek.{after_switch}
use Rattle.bench_model.specs.Session.{step_of}
use Rattle.bench_model.specs.Start.{start, started, unstarted, first_stamps}
use Rattle.bench_model.specs.Suspending.{resume_interrupted}
use Rattle.bench_model.specs.State.{State, QueueOps, call_at, holder_at}
use Rattle.bench_model.specs.Steps.{performed, called, after_finish, delayed_until, after}
use Rattle.bench_model.specs.Table.{Table, stamp_queues}
use Rattle.step_laws.proofs.Nears.{turned_hold}

-- what a step does that is not refused is not answered by a refusal
abbrev pub is_refusal : Reply → Bool
is_refusal (Refused why) = true
is_refusal reply = false

module _ {S : Type 0} where
  abbrev pub IsMade : Reply × S → Type 0
  IsMade outcome = is_refusal outcome.0 ≡ false

  either_made : (b : Bool) (one other : Reply × S) → IsMade one → IsMade other → IsMade (cond b one other)
  either_made true one other first second = first
  either_made false one other first second = second

  some_made : {A : Type 0} (f : A → Reply × S) (o : Option A) (none : Reply × S) → ((x : A) → IsMade (f x)) → IsMade none → IsMade (option_map_or f o none)
  some_made f (Some x) none each otherwise = each x
  some_made f None none each otherwise = otherwise

module _ {Orders : Type 0} (ops : QueueOps Orders) where
  completed_made : (task : ℕ) (call : BlockingCall) (state : State Orders) → IsMade (completed task call state)
  unfolding completed
  completed_made task (blocking.NotifyWait entry exit ticks index) state = refl
  completed_made task (blocking.NotifyTake clear ticks index) state = refl
  completed_made task call state = refl

  take_finished_made : (core task mutex : ℕ) (mark : Bool) (state : State Orders) → IsMade (take_finished ops core task mutex mark state)
  unfolding take_finished
  take_finished_made core task mutex mark state = at (holder_at state.holders mutex)
    where
      at : (holder : Option ℕ) → IsMade (finish_from ops holder core task mutex mark state)
      at None = refl
      at (Some holder) = search (rules, either_made)

  take_made : (core task mutex ticks : ℕ) (state : State Orders) → IsMade (mutex_take ops core task mutex ticks state)
  unfolding mutex_take
  take_made core task mutex ticks state = at (holder_at state.holders mutex)
    where
      at : (holder : Option ℕ) → IsMade (take_from ops holder core task mutex ticks state)
      at None = refl
      at (Some holder) = either_made (eqb ticks 0) _ _ refl refl

  give_made : (core task mutex : ℕ) (state : State Orders) → IsMade (mutex_give ops core task mutex state)
  unfolding mutex_give
  give_made core task mutex state = at (holder_at state.holders mutex)
    where
      at : (holder : Option ℕ) → IsMade (give_from ops holder core task mutex state)
      at None = refl
      at (Some holder) = refl

  queue_called_made : (core task : ℕ) (direction : Direction) (queue ticks : ℕ) (state : State Orders) → IsMade
      (queue_called ops core task direction queue ticks state)
  unfolding queue_called
  queue_called_made core task direction queue ticks state =
      either_made (can_pass direction (queue_at state.queues queue)) _ _ refl (either_made (eqb ticks 0) _ _ refl refl)

  queue_finished_made : (core task : ℕ) (direction : Direction) (queue : ℕ) (state : State Orders) → IsMade
      (queue_finished ops core task direction queue state)
  unfolding queue_finished
  queue_finished_made core task direction queue state =
      either_made (can_pass direction (queue_at state.queues queue)) _ _ refl
      (either_made (option_map_or (λ ticks. eqb ticks 0) (ops.deadline_left task state.orders) false) _ _ refl refl)

  finish_made : (core task : ℕ) (call : Unfinished) (state : State Orders) → IsMade (after_finish ops core task call state)
  unfolding after_finish
  finish_made core task (Made call) state = completed_made task call _
  finish_made core task (Take mutex mark) state = take_finished_made core task mutex mark state
  finish_made core task (Transfer queue direction) state = queue_finished_made core task direction queue state

  awaited_made : (core task : ℕ) (call : BlockingCall) (ticks : ℕ) (entered : Bool × List _) (state : State Orders) → IsMade
      (awaited ops core task call ticks entered state)
  unfolding awaited
  awaited_made core task call ticks entered state = search (rules, either_made, completed_made)

  called_made : (core task : ℕ) (call : Call) (state : State Orders) → IsMade (called ops core task call state)
  unfolding called delayed_until state_forgotten bits_cleared
  called_made core task Yield state = refl
  called_made core task (Delay ticks) state = either_made (eqb ticks 0) _ _ refl refl
  called_made core task (DelayUntil prev inc) state = search (rules, either_made)
  called_made core task Finish state = some_made _ (call_at state.calls task) _ (λ call. finish_made core task call state) refl
  called_made core task (PrioritySet other priority) state = refl
  called_made core task (AffinitySet other mask) state = refl
  called_made core task (PreemptOff other) state = refl
  called_made core task (PreemptOn other) state = refl
  called_made core task (Notify note) state = refl
  called_made core task (NotifyWait entry exit ticks index) state = awaited_made core task _ ticks _ state
  called_made core task (NotifyTake clear ticks index) state = awaited_made core task _ ticks _ state
  called_made core task (StateClear other index) state = refl
  called_made core task (ValueClear other bits index) state = refl
  called_made core task (MutexTake mutex ticks) state = take_made core task mutex ticks state
  called_made core task (MutexGive mutex) state = give_made core task mutex state
  called_made core task (QueueSend queue ticks) state = queue_called_made core task Send queue ticks state
  called_made core task (QueueReceive queue ticks) state = queue_called_made core task Receive queue ticks state
  called_made core task (Suspend other) state = refl
  called_made core task (Resume other) state = refl
  called_made core task HoldOpen state = refl
  called_made core task HoldClose state = refl

  pub performed_made : (step : Step) (state : State Orders) → IsMade (performed ops step state)
  unfolding performed interrupted queue_interrupted resume_interrupted
  performed_made Tick state = refl
  performed_made (Switch core) state = refl
  performed_made (steps.Call core task call) state = called_made core task call state
  performed_made (Interrupt core note) state = refl
  performed_made (QueueInterrupt core queue direction) state = refl
  performed_made (ResumeInterrupt core task) state = refl
  performed_made (Pass units) state = refl

-- whether a step is refused since the kernel is held
abbrev says_held : Option Refusal → Bool
says_held (Some Held) = true
says_held why = false

either_free : (b : Bool) (one other : Option Refusal) → says_held one ≡ false → says_held other ≡ false → says_held (cond b one other) ≡ false
either_free true one other first second = first
either_free false one other first second = second

first_free : (one other : Option Refusal) → says_held one ≡ false → says_held other ≡ false → says_held (option_or one other) ≡ false
first_free (Some why) other first second = first
first_free None other first second = second

call_free : (unfinished : Option Unfinished) (call : Call) → says_held (call_refusal unfinished call) ≡ false
call_free None Finish = refl
call_free None call = refl
call_free (Some unfinished) Finish = refl
call_free (Some unfinished) call = refl

give_free : (holders : List (Option ℕ)) (task : ℕ) (call : Call) → says_held (give_refusal holders task call) ≡ false
give_free holders task (MutexGive mutex) = at (holder_at holders mutex)
  where
    at : (holder : Option ℕ) → says_held (option_map_or (λ holder. cond (eqb holder task) None (Some NotHolder)) holder None) ≡ false
    at None = refl
    at (Some holder) = either_free (eqb holder task) None (Some NotHolder) refl refl
give_free holders task call = refl

module _ {Orders : Type 0} (ops : QueueOps Orders) where
  hold_free : (core task : ℕ) (call : Call) (state : State Orders) → says_held (hold_refusal ops core task call state) ≡ false
  hold_free core task call state =
      either_free (is_held_by core state.hold) _ _
      (either_free (would_block ops task call state) _ _ refl (either_free (opens_hold call && eqb (depth_of state.hold) max_depth) _ _ refl refl))
      (either_free (closes_hold call) _ _ refl refl)

  own_free : (core task : ℕ) (call : Call) (state : State Orders) → says_held (own_refusal ops core task call state) ≡ false
  own_free core task call state =
      either_free (not (eqb (current state.control core) task)) _ _ refl
      (either_free (is_due state.control core && not (is_held_by core state.hold)) _ _ refl
      (first_free _ _ (call_free (call_at state.calls task) call) (first_free _ _ (hold_free core task call state) (give_free state.holders task call))))

  either_held : (b : Bool) (other : Option Refusal) → says_held other ≡ false → says_held (cond b (Some Held) other) ≡ b
  either_held true other free = refl
  either_held false other free = free

  refusal_held : (step : Step) (state : State Orders) → says_held (refusal ops step state) ≡ is_kept_out state.hold step
  unfolding refusal
  refusal_held Tick state = refl
  refusal_held (Interrupt core note) state = refl
  refusal_held (QueueInterrupt core queue direction) state = refl
  refusal_held (ResumeInterrupt core task) state = refl
  refusal_held (Pass units) state = refl
  refusal_held (Switch core) state = either_held (is_some state.hold) _ (either_free (is_due state.control core) None (Some NotDue) refl refl)
  refusal_held (steps.Call core task call) state = either_held (is_held_elsewhere core state.hold) _ (own_free core task call state)

  known : Option Refusal → Step → State Orders → Reply × State Orders
  known why step state = option_map_or (λ why. (Refused why, state)) why (performed ops step state)

  is_known : (why : Option Refusal) (step : Step) (state : State Orders) → (known why step state).0 ≡ Refused Held → says_held why ≡ true
  unfolding known
  is_known None step state is = absurd (cc (performed_made ops step state))
  is_known (Some why) step state is = ap (λ (why : Refusal). says_held (Some why)) (same_refusal why is)
    where
      same_refusal : (why : Refusal) → Refused why ≡ Refused Held → why ≡ Held
      same_refusal why is = cc

  tells : (why : Option Refusal) (step : Step) (state : State Orders) → says_held why ≡ true → (known why step state).0 ≡ Refused Held
  unfolding known
  tells (Some Held) step state is = refl
  tells why step state is = absurd (cc is)

  pub held_where_kept_out : (state : State Orders) (step : Step) → ((after ops step state).0 ≡ Refused Held ↔ is_kept_out state.hold step ≡ true)
  unfolding after known
  held_where_kept_out state step = (
    λ is. sym (refusal_held step state) ∙ is_known (refusal ops step state) step state is,
    λ kept. tells
        (refusal ops step state) step state (refusal_held step state ∙ kept),
  )

pub held_kept_out : (table : Table) (step : Step) → ((step_of step table).0 ≡ Refused Held ↔ is_kept_out table.hold step ≡ true)
held_kept_out table step = held_where_kept_out stamp_queues table step

switches_hold : (cores : List ℕ) (table : Table) → (fold (λ kernel core. after_switch stamp_queues core kernel) table cores).hold ≡ table.hold
switches_hold [] table = refl
switches_hold (core ∷ cores) table = switches_hold cores (after_switch stamp_queues core table) ∙ turned_hold core table

pub start_free : (header : Header) → (start header).hold ≡ None
unfolding started unstarted
start_free header = switches_hold (numbers header.config.cores) (unstarted (first_stamps header) header)
