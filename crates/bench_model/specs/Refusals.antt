-- What a kernel refuses, over orders of tasks that are kept in one way or another.
use Rattle.std.specs.Prelude.{ℕ, List, Bool, true, false, not, ◌&&◌, ◌==◌, nat_lt, Option, Some, None, is_some, if◌then◌else◌}
use Rattle.std.specs.Option.{option_or, option_map_or}
use Rattle.bench_types.specs.declared.reply.Refusal.{Refusal}
use Rattle.bench_types.specs.declared.reply.Refusal.TheVariants.{Held, Displaced, SwitchDue, InCall, NotInCall, HoldBlock, NoHold, HoldDeep, NotHolder, NotDue}
use Rattle.bench_types.specs.declared.step.Step.{Step}
use Rattle.bench_types.specs.declared.step.Step.TheVariants.{Tick, Switch, Interrupt, QueueInterrupt, ResumeInterrupt, Pass}
use Rattle.bench_types.specs.declared.step.Step.TheVariants as steps
use Rattle.bench_types.specs.declared.step.Call.{Call}
use Rattle.bench_types.specs.declared.step.Call.TheVariants.{Delay, DelayUntil, NotifyWait, NotifyTake, MutexTake, MutexGive, QueueSend, QueueReceive, Suspend, Finish, HoldOpen, HoldClose}
use Rattle.bench_types.specs.declared.step.Direction.TheVariants.{Send, Receive}
use Rattle.bench_types.specs.declared.step.Unfinished.{Unfinished}
use Rattle.bench_types.specs.Limits.{max_depth}
use Rattle.bench_model.specs.Control.{current, is_due}
use Rattle.bench_model.specs.Holds.{is_held_by, is_held_elsewhere, depth_of}
use Rattle.bench_model.specs.Notes.{note_at, slot_of, wait_entered, take_entered}
use Rattle.bench_model.specs.Queues.{can_pass, queue_at}
use Rattle.bench_model.specs.State.{State, QueueOps, call_at, holder_at}
use Rattle.bench_model.specs.Until.{next_wake, is_ahead}

-- a task with an unfinished call can only finish it, and without one it can't finish
abbrev pub call_refusal : Option Unfinished → Call → Option Refusal
call_refusal None Finish = Some NotInCall
call_refusal None _ = None
call_refusal (Some unfinished) Finish = None
call_refusal (Some unfinished) _ = Some InCall

abbrev pub opens_hold : Call → Bool
opens_hold HoldOpen = true
opens_hold call = false

abbrev pub closes_hold : Call → Bool
closes_hold HoldClose = true
closes_hold call = false

-- a task can't give a mutex that another task holds
abbrev pub give_refusal : List (Option ℕ) → ℕ → Call → Option Refusal
give_refusal holders task (MutexGive mutex) =
    option_map_or (λ holder. if holder == task then None else Some NotHolder)
    (holder_at holders mutex) None
give_refusal holders task call = None

module _ {Orders : Type 0} (ops : QueueOps Orders) where
  -- A call of the task would make it wait: it delays for some ticks, it has nothing to complete
  -- with and some ticks to wait for it, or it suspends itself. (A task that holds the kernel has no
  -- unfinished call that could wait again.)
  unfoldable pub would_block : ℕ → Call → State Orders → Bool
  would_block task (Delay ticks) state = nat_lt 0 ticks
  would_block task (DelayUntil prev inc) state =
      is_ahead (ops.tick_count state.orders) prev (next_wake prev inc)
  would_block task (NotifyWait entry exit ticks index) state =
      (wait_entered entry (note_at state.notes (slot_of state.settings task index))).0
      && nat_lt 0 ticks
  would_block task (NotifyTake clear ticks index) state =
      (take_entered (note_at state.notes (slot_of state.settings task index))).0 && nat_lt 0 ticks
  would_block task (MutexTake mutex ticks) state =
      is_some (holder_at state.holders mutex) && nat_lt 0 ticks
  would_block task (QueueSend queue ticks) state =
      not (can_pass Send (queue_at state.queues queue)) && nat_lt 0 ticks
  would_block task (QueueReceive queue ticks) state =
      not (can_pass Receive (queue_at state.queues queue)) && nat_lt 0 ticks
  would_block task (Suspend other) state = other == task
  would_block task call state = false

  -- a core that holds the kernel lets no task wait and holds it at most `max_depth` times over, and
  -- one that doesn't can't free it
  -- (FreeRTOS Reference Manual, taskENTER_CRITICAL: no API call that could block)
  abbrev pub hold_refusal : ℕ → ℕ → Call → State Orders → Option Refusal
  hold_refusal core task call state =
      if is_held_by core state.hold
      then (if would_block task call state then Some HoldBlock
      else (if opens_hold call && depth_of state.hold == max_depth then Some HoldDeep else None))
      else (if closes_hold call then Some NoHold else None)

  -- Why a call of a core's task is refused that no other core keeps out, the first reason that
  -- applies.
  abbrev pub own_refusal : ℕ → ℕ → Call → State Orders → Option Refusal
  own_refusal core task call state =
      if not (current state.control core == task) then Some Displaced
      else (if is_due state.control core && not (is_held_by core state.hold) then Some SwitchDue
      else option_or (call_refusal (call_at state.calls task) call)
      (option_or (hold_refusal core task call state) (give_refusal state.holders task call)))

  -- Why a step is refused, the first reason that applies. A core that holds the kernel keeps out
  -- switches and the calls of others.
  unfoldable pub refusal : Step → State Orders → Option Refusal
  refusal Tick state = None
  refusal (Interrupt core note) state = None
  refusal (QueueInterrupt core queue direction) state = None
  refusal (ResumeInterrupt core task) state = None
  refusal (Pass units) state = None
  refusal (Switch core) state =
      if is_some state.hold then Some Held
      else (if is_due state.control core then None else Some NotDue)
  refusal (steps.Call core task call) state =
      if is_held_elsewhere core state.hold then Some Held else own_refusal core task call state
