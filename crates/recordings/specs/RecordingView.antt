-- What a recording is to those who use it.
use Rattle.std.specs.Prelude.{ℕ, List, [], ◌∷◌, ◌++◌, length, nat_lt, Option, Result, Ok, Err, is_ok, if◌then◌else◌}
use Rattle.bench_types.specs.declared.core_action.CoreAction.{CoreAction}
use Rattle.bench_types.specs.declared.core_action.CoreAction.TheVariants as core_actions
use Rattle.bench_types.specs.declared.entry.Entry.{Entry}
use Rattle.bench_types.specs.declared.header.Header.{Header}
use Rattle.bench_types.specs.declared.kernel_data.Hold.{Hold}
use Rattle.bench_types.specs.declared.reply.Reply.{Reply}
use Rattle.bench_types.specs.declared.step.Call.{Call}
use Rattle.bench_types.specs.declared.step.Step.{Step}
use Rattle.bench_types.specs.declared.step.Step.TheVariants as steps
use Rattle.bench_model.specs.Control.{current}
use Rattle.bench_types.specs.Step.{core_of}
use Rattle.bench_model.specs.History.{end_of, free_places, places_of}
use Rattle.bench_model.specs.Session.{step_of}
use Rattle.bench_model.specs.Table.{Table}
use Rattle.recordings.specs.declared.recording.Answer.{Answer}
use Rattle.recordings.specs.declared.recording.RecordRefusal.{RecordRefusal}
use Rattle.recordings.specs.declared.recording.RecordRefusal.TheVariants.{IdleHere, Full}

pub record RecordingView : Type 0 where
  pub header : Header
  -- in the order in which they were recorded
  pub entries : List Entry
  -- how many entries there may ever be
  pub limit : ℕ

-- a recording of no entries
abbrev pub empty_recording : Header → ℕ → RecordingView
empty_recording header limit = record { header = header; entries = []; limit = limit }

-- the table after all entries
abbrev pub table_of : RecordingView → Table
table_of view = end_of view.header view.entries

-- the open hold after them
abbrev pub hold_of : RecordingView → Option Hold
hold_of view = (table_of view).hold

-- the current task of a core after them
abbrev pub task_on : ℕ → RecordingView → ℕ
task_on core view = current (table_of view).control core

-- how many entries more there is room for
abbrev pub room_of : RecordingView → ℕ
room_of view = free_places view.limit view.entries (hold_of view)

-- what the kernel replies to a step
abbrev pub reply_to : Step → RecordingView → Reply
reply_to step view = (step_of step (table_of view)).0

-- the entry of a step
abbrev pub entry_of : Step → RecordingView → Entry
entry_of step view = record { core = core_of step; step = step; reply = reply_to step view }

-- the recording with it
abbrev pub with_step : Step → RecordingView → RecordingView
with_step step view = record view { entries = view.entries ++ entry_of step view ∷ [] }

-- the answer to a step: its place is how many entries there were before it
abbrev pub answer_to : Step → RecordingView → Answer
answer_to step view = record { place = length view.entries; reply = reply_to step view }

-- the answer where there is room for the step, else G1
abbrev pub answer_in_room : Step → RecordingView → Result Answer RecordRefusal
answer_in_room step view =
    if nat_lt (room_of view) (places_of (hold_of view) step) then Err Full
    else Ok (answer_to step view)

-- a call is made by the current task of its core
abbrev pub call_on : ℕ → Call → RecordingView → Step
call_on core call view = steps.Call core (task_on core view) call

-- the answer to a call of the core: G2 where an idle task is its current one, else G1 where there
-- is no room
abbrev pub answer_to_call : ℕ → Call → RecordingView → Result Answer RecordRefusal
answer_to_call core call view =
    if nat_lt (task_on core view) view.header.config.cores then Err IdleHere
    else answer_in_room (call_on core call view) view

-- the step of what the core does: a call is made by its current task
abbrev pub act_on : ℕ → CoreAction → RecordingView → Step
act_on core (core_actions.Call call) view = call_on core call view
act_on core (core_actions.Interrupt note) view = steps.Interrupt core note
act_on core (core_actions.QueueInterrupt queue direction) view =
    steps.QueueInterrupt core queue direction
act_on core (core_actions.ResumeInterrupt task) view = steps.ResumeInterrupt core task
act_on core core_actions.Tick view = steps.Tick
act_on core core_actions.Switch view = steps.Switch core

-- the answer to what the core does: G2 comes for calls alone
abbrev pub answer_to_core_action : ℕ → CoreAction → RecordingView → Result Answer RecordRefusal
answer_to_core_action core (core_actions.Call call) view = answer_to_call core call view
answer_to_core_action core (core_actions.Interrupt note) view =
    answer_in_room (steps.Interrupt core note) view
answer_to_core_action core (core_actions.QueueInterrupt queue direction) view =
    answer_in_room (steps.QueueInterrupt core queue direction) view
answer_to_core_action core (core_actions.ResumeInterrupt task) view =
    answer_in_room (steps.ResumeInterrupt core task) view
answer_to_core_action core core_actions.Tick view = answer_in_room steps.Tick view
answer_to_core_action core core_actions.Switch view = answer_in_room (steps.Switch core) view

-- The recording after what the core does: with the step's entry, or as it was where the step is
-- refused.
abbrev pub after_core_action : ℕ → CoreAction → RecordingView → RecordingView
after_core_action core core_action view =
    if is_ok (answer_to_core_action core core_action view)
    then with_step (act_on core core_action view) view else view
