-- What a core does while it owns the interrupt word.
use Rattle.std.specs.Prelude.{◌≡◌, ◌<◌, List, Bool, true, false, Some, None}
use Rattle.bench_types.specs.declared.core_action.CoreAction.{CoreAction}
use Rattle.bench_types.specs.declared.core_action.CoreAction.TheVariants as core_actions
use Rattle.bench_types.specs.declared.entry.Entry.{Entry}
use Rattle.bench_model.specs.History.{made_by, is_kept_out}
use Rattle.port_locks.specs.declared.view.Terms.{Terms}
use Rattle.port_locks.specs.Holds.{hold_after}
use Rattle.port_locks.specs.Seats.{SeatView}
use Rattle.recordings.specs.RecordingView.{RecordingView, act_on, after_core_action}
use Rattle.core_rig.specs.Seats.{recording_of}

-- what a lock pair knows of a recording
abbrev pub terms_of : RecordingView → Terms
terms_of view = record { header = view.header; limit = view.limit }

abbrev pub entries_of : RecordingView → List Entry
entries_of view = view.entries

-- the core has the recording in hand, of what it has seen
pub record IsInHand (seat : SeatView RecordingView) : Type 0 where
  pub core : seat.number < seat.terms.header.config.cores
  pub once : seat.interrupt_depth ≡ 1
  pub value : seat.value ≡ Some (recording_of seat.terms seat.seen)
  pub own : made_by seat.number seat.seen ≡ seat.made

-- an action is a call of the core's current task
abbrev pub is_call : CoreAction → Bool
is_call (core_actions.Call call) = true
is_call (core_actions.Interrupt note) = false
is_call (core_actions.QueueInterrupt queue direction) = false
is_call (core_actions.ResumeInterrupt task) = false
is_call core_actions.Tick = false
is_call core_actions.Switch = false

-- calls and switches are a task's, interrupts and ticks are not
abbrev pub is_by_task : CoreAction → Bool
is_by_task (core_actions.Call call) = true
is_by_task (core_actions.Interrupt note) = false
is_by_task (core_actions.QueueInterrupt queue direction) = false
is_by_task (core_actions.ResumeInterrupt task) = false
is_by_task core_actions.Tick = false
is_by_task core_actions.Switch = true

-- no hold keeps the core's step out, and who calls owns the task word
pub record MayAct (core_action : CoreAction) (seat : SeatView RecordingView) : Type 0 where
  pub unheld :
      is_kept_out (hold_after seat.terms.header seat.seen)
      (act_on seat.number core_action (recording_of seat.terms seat.seen))
      ≡ false
  pub owns : is_call core_action ≡ true → 0 < seat.task_depth

-- the seat after the action, without the interrupt word
abbrev pub after_stretch : CoreAction → SeatView RecordingView → SeatView RecordingView
after_stretch core_action seat =
    let recording = recording_of seat.terms seat.seen in
    let history = (after_core_action seat.number core_action recording).entries in
    record seat {
      interrupt_depth = 0;
      seen = history;
      made = made_by seat.number history;
      value = None;
    }
