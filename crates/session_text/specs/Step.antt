-- A step: `do` says which, and after it stand the members of its kind.
use Rattle.std.specs.Prelude.{ℕ, List, [], ◌∷◌, ◌++◌, codes, bytes_eq, find, Option, Some, None, option_map, Result, Ok}
use Rattle.std.specs.Option.{option_or}
use Rattle.serde_json.specs.Data.{Data}
use Rattle.bench_types.specs.declared.core_action.CoreAction.{CoreAction}
use Rattle.bench_types.specs.declared.core_action.CoreAction.TheVariants as core_action
use Rattle.bench_types.specs.declared.note.Note.{Note}
use Rattle.bench_types.specs.declared.step.Step.{Step}
use Rattle.bench_types.specs.declared.step.Step.TheVariants as step
use Rattle.bench_types.specs.declared.step.Call.{Call}
use Rattle.bench_types.specs.declared.step.Call.TheVariants as call
use Rattle.bench_types.specs.declared.step.Direction.{Direction}
use Rattle.bench_types.specs.declared.step.Direction.TheVariants.{Send, Receive}
use Rattle.session_text.specs.declared.detail.Detail.TheVariants.{NoWord}
use Rattle.session_text.specs.declared.fault.TextFault.{TextFault}
use Rattle.session_text.specs.declared.step.Kind.{Kind}
use Rattle.session_text.specs.declared.step.Kind.TheVariants as kind
use Rattle.session_text.specs.declared.step.StepKind.{StepKind}
use Rattle.session_text.specs.declared.step.StepKind.TheVariants.{OfCore, Pass}
use Rattle.session_text.specs.declared.call.CallKind.{CallKind}
use Rattle.session_text.specs.declared.call.CallKind.TheVariants as callkind
use Rattle.session_text.specs.declared.format.Format.{Format}
use Rattle.session_text.specs.declared.format.Format.TheVariants.{One, Two, Three}
use Rattle.session_text.specs.Detail.{words_of}
use Rattle.session_text.specs.NotifyAction.{action_at, action_number}
use Rattle.session_text.specs.Format.{index_at, index_member}
use Rattle.session_text.specs.Member.{object_at, number_at, text_at, flag_at, only_at}
use Rattle.session_text.specs.Names.{TaskNames, number_of}
use Rattle.session_text.specs.Nearest.{stray}
use Rattle.session_text.specs.ReadingRules.{◌>>=◌, found}
use Rattle.session_text.specs.Path.{member_path}

-- the words of `do` that each format has
abbrev pub kinds : List (List ℕ × Kind)
kinds =
    (codes "tick", kind.Tick) ∷
    (codes "switch", kind.Switch) ∷
    (codes "isr_notify", kind.Interrupt) ∷
    (codes "yield", kind.Call callkind.Yield) ∷
    (codes "delay", kind.Call callkind.Delay) ∷
    (codes "delay_until", kind.Call callkind.DelayUntil) ∷
    (codes "priority_set", kind.Call callkind.PrioritySet) ∷
    (codes "affinity_set", kind.Call callkind.AffinitySet) ∷
    (codes "preempt_off", kind.Call callkind.PreemptOff) ∷
    (codes "preempt_on", kind.Call callkind.PreemptOn) ∷
    (codes "notify", kind.Call callkind.Notify) ∷
    (codes "notify_wait", kind.Call callkind.NotifyWait) ∷
    (codes "notify_take", kind.Call callkind.NotifyTake) ∷
    (codes "state_clear", kind.Call callkind.StateClear) ∷
    (codes "value_clear", kind.Call callkind.ValueClear) ∷
    (codes "mutex_take", kind.Call callkind.MutexTake) ∷
    (codes "mutex_give", kind.Call callkind.MutexGive) ∷
    (codes "finish", kind.Call callkind.Finish) ∷
    (codes "hold_open", kind.Call callkind.HoldOpen) ∷
    (codes "hold_close", kind.Call callkind.HoldClose) ∷ []

-- those that the third alone has
abbrev pub third_kinds : List (List ℕ × Kind)
third_kinds =
    (codes "queue_send", kind.Call callkind.QueueSend) ∷
    (codes "queue_receive", kind.Call callkind.QueueReceive) ∷
    (codes "isr_send", kind.QueueInterrupt Send) ∷
    (codes "isr_receive", kind.QueueInterrupt Receive) ∷
    (codes "suspend", kind.Call callkind.Suspend) ∷
    (codes "resume", kind.Call callkind.Resume) ∷
    (codes "isr_resume", kind.ResumeInterrupt) ∷ []

-- those that the format has beside the ones that each has
abbrev pub further_kinds : Format → List (List ℕ × Kind)
further_kinds One = []
further_kinds Two = []
further_kinds Three = third_kinds

-- the words of `do` that an action has in a format
abbrev pub kinds_in : Format → List (List ℕ × Kind)
kinds_in format = kinds ++ further_kinds format

-- the word that a step has beside them, by which time goes by
abbrev pub pass_kinds : Format → List (List ℕ × StepKind)
pass_kinds One = []
pass_kinds Two = []
pass_kinds Three = (codes "pass", Pass) ∷ []

-- the words of `do` that a step has in a format
abbrev pub step_words : Format → List (List ℕ)
step_words format = words_of (kinds_in format) ++ words_of (pass_kinds format)

-- what a word is among others
abbrev pub kind_among : {A : Type 0} → List (List ℕ × A) → List ℕ → Option A
kind_among entries word =
    option_map (λ entry. entry.1) (find (λ entry. bytes_eq word entry.0) entries)

-- what a word is of a step
abbrev pub step_kind_of : Format → List ℕ → Option StepKind
step_kind_of format word =
    option_or (option_map OfCore (kind_among (kinds_in format) word))
    (kind_among (pass_kinds format) word)

unfoldable pub kind_at : Format → List ℕ → Data → Result Kind TextFault
kind_at format at d = do
  word ← text_at at (codes "do") d
  found (kind_among (kinds_in format) word) (member_path at (codes "do"))
      (NoWord (stray word (words_of (kinds_in format))))

unfoldable pub step_kind_at : Format → List ℕ → Data → Result StepKind TextFault
step_kind_at format at d = do
  word ← text_at at (codes "do") d
  found (step_kind_of format word) (member_path at (codes "do"))
      (NoWord (stray word (step_words format)))

-- the members of a notification: `value` is one where the action has a number
abbrev pub note_members : Format → Option ℕ → List (List ℕ)
note_members format None = codes "to" ∷ codes "action" ∷ index_member format
note_members format (Some value) =
    codes "to" ∷ codes "action" ∷ codes "value" ∷ index_member format

-- the members of a call beside those that every call has
abbrev pub arguments_of : Format → Call → List (List ℕ)
arguments_of format call.Yield = []
arguments_of format (call.Delay ticks) = codes "ticks" ∷ []
arguments_of format (call.DelayUntil prev inc) = codes "prev" ∷ codes "inc" ∷ []
arguments_of format (call.PrioritySet task priority) = codes "to" ∷ codes "priority" ∷ []
arguments_of format (call.AffinitySet task mask) = codes "to" ∷ codes "mask" ∷ []
arguments_of format (call.PreemptOff task) = codes "to" ∷ []
arguments_of format (call.PreemptOn task) = codes "to" ∷ []
arguments_of format (call.Notify note) = note_members format (action_number note.action)
arguments_of format (call.NotifyWait entry exit ticks index) =
    codes "entry" ∷ codes "exit" ∷ codes "ticks" ∷ index_member format
arguments_of format (call.NotifyTake clear ticks index) =
    codes "clear" ∷ codes "ticks" ∷ index_member format
arguments_of format (call.StateClear task index) = codes "to" ∷ index_member format
arguments_of format (call.ValueClear task bits index) =
    codes "to" ∷ codes "bits" ∷ index_member format
arguments_of format (call.MutexTake mutex ticks) = codes "mutex" ∷ codes "ticks" ∷ []
arguments_of format (call.MutexGive mutex) = codes "mutex" ∷ []
arguments_of format (call.QueueSend queue ticks) = codes "queue" ∷ codes "ticks" ∷ []
arguments_of format (call.QueueReceive queue ticks) = codes "queue" ∷ codes "ticks" ∷ []
arguments_of format (call.Suspend task) = codes "to" ∷ []
arguments_of format (call.Resume task) = codes "to" ∷ []
arguments_of format call.Finish = []
arguments_of format call.HoldOpen = []
arguments_of format call.HoldClose = []

-- the members of an action
abbrev pub members_of_core_action : Format → CoreAction → List (List ℕ)
members_of_core_action format core_action.Tick = codes "do" ∷ []
members_of_core_action format core_action.Switch = codes "do" ∷ []
members_of_core_action format (core_action.Call made) = codes "do" ∷ arguments_of format made
members_of_core_action format (core_action.Interrupt note) =
    codes "do" ∷ note_members format (action_number note.action)
members_of_core_action format (core_action.QueueInterrupt queue direction) =
    codes "do" ∷ codes "queue" ∷ []
members_of_core_action format (core_action.ResumeInterrupt task) = codes "do" ∷ codes "to" ∷ []

-- a step has `core` beside the members of its action, and a call has `by` too; a pass, which no
-- core makes, has neither
abbrev pub members_of_call : Format → Call → List (List ℕ)
members_of_call format made =
    codes "core" ∷ codes "by" ∷ members_of_core_action format (core_action.Call made)

abbrev pub members_of_interrupt : Format → Note → List (List ℕ)
members_of_interrupt format note = codes "core" ∷ members_of_core_action format (core_action.Interrupt note)

abbrev pub members_of : Format → Step → List (List ℕ)
members_of format step.Tick = members_of_core_action format core_action.Tick
members_of format (step.Switch core) = codes "core" ∷ members_of_core_action format core_action.Switch
members_of format (step.Call core task made) = members_of_call format made
members_of format (step.Interrupt core note) = members_of_interrupt format note
members_of format (step.QueueInterrupt core queue direction) =
    codes "core" ∷ members_of_core_action format (core_action.QueueInterrupt queue direction)
members_of format (step.ResumeInterrupt core task) =
    codes "core" ∷ members_of_core_action format (core_action.ResumeInterrupt task)
members_of format (step.Pass units) = codes "do" ∷ codes "units" ∷ []

-- the number of the task that a member names
unfoldable pub task_named_at : TaskNames → List ℕ → List ℕ → Data → Result ℕ TextFault
task_named_at names at name d = do
  text ← text_at at name d
  Ok (number_of names text)

-- `to` names the task that is notified
unfoldable pub note_at : Format → TaskNames → List ℕ → Data → Result Note TextFault
note_at format names at d = do
  task ← task_named_at names at (codes "to") d
  what ← action_at at d
  index ← index_at format at d
  Ok (record { task = task; action = what; index = index })

unfoldable pub wait_at : Format → List ℕ → Data → Result Call TextFault
wait_at format at d = do
  entry ← number_at at (codes "entry") d
  exit ← number_at at (codes "exit") d
  ticks ← number_at at (codes "ticks") d
  index ← index_at format at d
  Ok (call.NotifyWait entry exit ticks index)

-- a call by which a message goes into a queue or out of it
unfoldable pub transfer_at : Direction → List ℕ → Data → Result Call TextFault
transfer_at Send at d = do
  queue ← number_at at (codes "queue") d
  ticks ← number_at at (codes "ticks") d
  Ok (call.QueueSend queue ticks)
transfer_at Receive at d = do
  queue ← number_at at (codes "queue") d
  ticks ← number_at at (codes "ticks") d
  Ok (call.QueueReceive queue ticks)

-- `to` names the task that a call is for
unfoldable pub call_at :
    Format → TaskNames → CallKind → List ℕ → Data → Result Call TextFault
call_at format names callkind.Yield at d = Ok call.Yield
call_at format names callkind.Delay at d = do
  ticks ← number_at at (codes "ticks") d
  Ok (call.Delay ticks)
call_at format names callkind.DelayUntil at d = do
  prev ← number_at at (codes "prev") d
  inc ← number_at at (codes "inc") d
  Ok (call.DelayUntil prev inc)
call_at format names callkind.PrioritySet at d = do
  task ← task_named_at names at (codes "to") d
  priority ← number_at at (codes "priority") d
  Ok (call.PrioritySet task priority)
call_at format names callkind.AffinitySet at d = do
  task ← task_named_at names at (codes "to") d
  mask ← number_at at (codes "mask") d
  Ok (call.AffinitySet task mask)
call_at format names callkind.PreemptOff at d = do
  task ← task_named_at names at (codes "to") d
  Ok (call.PreemptOff task)
call_at format names callkind.PreemptOn at d = do
  task ← task_named_at names at (codes "to") d
  Ok (call.PreemptOn task)
call_at format names callkind.Notify at d = do
  note ← note_at format names at d
  Ok (call.Notify note)
call_at format names callkind.NotifyWait at d = wait_at format at d
call_at format names callkind.NotifyTake at d = do
  clear ← flag_at at (codes "clear") d
  ticks ← number_at at (codes "ticks") d
  index ← index_at format at d
  Ok (call.NotifyTake clear ticks index)
call_at format names callkind.StateClear at d = do
  task ← task_named_at names at (codes "to") d
  index ← index_at format at d
  Ok (call.StateClear task index)
call_at format names callkind.ValueClear at d = do
  task ← task_named_at names at (codes "to") d
  bits ← number_at at (codes "bits") d
  index ← index_at format at d
  Ok (call.ValueClear task bits index)
call_at format names callkind.MutexTake at d = do
  mutex ← number_at at (codes "mutex") d
  ticks ← number_at at (codes "ticks") d
  Ok (call.MutexTake mutex ticks)
call_at format names callkind.MutexGive at d = do
  mutex ← number_at at (codes "mutex") d
  Ok (call.MutexGive mutex)
call_at format names callkind.QueueSend at d = transfer_at Send at d
call_at format names callkind.QueueReceive at d = transfer_at Receive at d
call_at format names callkind.Suspend at d = do
  task ← task_named_at names at (codes "to") d
  Ok (call.Suspend task)
call_at format names callkind.Resume at d = do
  task ← task_named_at names at (codes "to") d
  Ok (call.Resume task)
call_at format names callkind.Finish at d = Ok call.Finish
call_at format names callkind.HoldOpen at d = Ok call.HoldOpen
call_at format names callkind.HoldClose at d = Ok call.HoldClose

unfoldable pub step_of_core_at :
    Format → TaskNames → Kind → List ℕ → Data → Result Step TextFault
step_of_core_at format names kind.Tick at d = Ok step.Tick
step_of_core_at format names kind.Switch at d = do
  core ← number_at at (codes "core") d
  Ok (step.Switch core)
step_of_core_at format names (kind.Call which) at d = do
  core ← number_at at (codes "core") d
  task ← task_named_at names at (codes "by") d
  made ← call_at format names which at d
  Ok (step.Call core task made)
step_of_core_at format names kind.Interrupt at d = do
  core ← number_at at (codes "core") d
  note ← note_at format names at d
  Ok (step.Interrupt core note)
step_of_core_at format names (kind.QueueInterrupt direction) at d = do
  core ← number_at at (codes "core") d
  queue ← number_at at (codes "queue") d
  Ok (step.QueueInterrupt core queue direction)
step_of_core_at format names kind.ResumeInterrupt at d = do
  core ← number_at at (codes "core") d
  task ← task_named_at names at (codes "to") d
  Ok (step.ResumeInterrupt core task)

unfoldable pub step_of_kind_at :
    Format → TaskNames → StepKind → List ℕ → Data → Result Step TextFault
step_of_kind_at format names (OfCore which) at d = step_of_core_at format names which at d
step_of_kind_at format names Pass at d = do
  units ← number_at at (codes "units") d
  Ok (step.Pass units)

unfoldable pub step_at : Format → TaskNames → List ℕ → Data → Result Step TextFault
step_at format names at d = do
  members ← object_at at d
  which ← step_kind_at format at d
  made ← step_of_kind_at format names which at d
  only ← only_at at (members_of format made) members
  Ok made
