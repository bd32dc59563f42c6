-- What an item of a program says, but for the items in it.
use Rattle.std.specs.Prelude.{ℕ, List, [], ◌∷◌, ◌++◌, codes, bytes_eq, length, ◌==◌, Option, Some, None, is_some, option_and_then, Result, Ok, Err, if◌then◌else◌, ⊤}
use Rattle.serde_json.specs.Data.{Data, Items}
use Rattle.serde_json.specs.Find.{get, as_array, as_str}
use Rattle.bench_types.specs.declared.note.NotifyAction.{NotifyAction}
use Rattle.bench_types.specs.declared.core_action.CoreAction.TheVariants as core_action
use Rattle.session_text.specs.declared.call.CallKind.{CallKind}
use Rattle.session_text.specs.declared.call.CallKind.TheVariants as callkind
use Rattle.session_text.specs.declared.detail.BrokenRule.TheVariants.{NoWorks}
use Rattle.session_text.specs.declared.detail.Detail.TheVariants as detail
use Rattle.session_text.specs.declared.detail.Expected.TheVariants.{Number}
use Rattle.session_text.specs.declared.fault.TextFault.{TextFault}
use Rattle.session_text.specs.declared.format.Format.TheVariants.{Three}
use Rattle.session_text.specs.declared.step.Kind.{Kind}
use Rattle.session_text.specs.declared.step.Kind.TheVariants as kind
use Rattle.session_text.specs.Array.{each_at}
use Rattle.session_text.specs.Member.{as_u32, member_at, number_at, object_at, only_at, text_at, typed}
use Rattle.session_text.specs.Names.{TaskNames}
use Rattle.session_text.specs.Nearest.{stray}
use Rattle.session_text.specs.Path.{member_path}
use Rattle.session_text.specs.ReadingRules.{◌>>=◌, bad_shape, found}
use Rattle.session_text.specs.NotifyAction.{action_number}
use Rattle.session_text.specs.Step.{call_at, kind_among, kinds_in, members_of_core_action, note_members}
use Rattle.task_programs.specs.declared.instruction.ProgramCall.{ProgramCall}
use Rattle.task_programs.specs.declared.instruction.ProgramCall.TheVariants.{Made, DelayUntilNext}
use Rattle.workload_text.specs.declared.head.Form.{Form}
use Rattle.workload_text.specs.declared.head.Form.TheVariants as form
use Rattle.workload_text.specs.declared.head.Head.{Head}
use Rattle.workload_text.specs.declared.head.Head.TheVariants as head

-- an item that is a text ends a loop
abbrev pub break_words : List (List ℕ)
break_words = codes "break" ∷ []

unfoldable pub break_at : List ℕ → List ℕ → Result Head TextFault
break_at at word =
    if bytes_eq word (codes "break") then Ok head.Break
    else Err (bad_shape at (detail.NoWord (stray word break_words)))

-- which item an object is, by the members that it has
abbrev pub form_of : Data → Form
form_of d =
    if is_some (get (codes "work") d) then form.Work
    else if is_some (get (codes "repeat") d) then form.Repeat
    else if is_some (get (codes "forever") d) then form.Forever else form.Call

-- one work of a list
abbrev pub work_number_at : List ℕ → Data → Result ℕ TextFault
work_number_at at d = typed Number d (as_u32 d) at

-- a list has a work at least, or H2 there
abbrev pub some_at : List ℕ → List ℕ → Result (List ℕ) TextFault
some_at at works =
    if length works == 0 then Err (bad_shape at (detail.Rule NoWorks)) else Ok works

-- one work, or a list of them
abbrev pub works_or : List ℕ → Data → Option Items → Result (List ℕ) TextFault
works_or at d None = do
  units ← work_number_at at d
  Ok (units ∷ [])
works_or at d (Some items) = do
  works ← each_at work_number_at at 0 items
  some_at at works

unfoldable pub works_at : List ℕ → Data → Result Head TextFault
works_at at d = do
  value ← member_at at (codes "work") d
  works ← works_or (member_path at (codes "work")) value (as_array value)
  Ok (head.Works works)

-- the calls that a program may have: all but `finish`, which a task makes by itself
abbrev pub as_program_call : Kind → Option CallKind
as_program_call (kind.Call callkind.Finish) = None
as_program_call (kind.Call which) = Some which
as_program_call other = None

abbrev pub program_kind_of : List ℕ → Option CallKind
program_kind_of word = option_and_then as_program_call (kind_among (kinds_in Three) word)

-- their words
abbrev pub program_words : List (List ℕ)
program_words =
    codes "yield" ∷ codes "delay" ∷ codes "delay_until" ∷ codes "priority_set"
    ∷ codes "affinity_set" ∷ codes "preempt_off" ∷ codes "preempt_on" ∷ codes "notify"
    ∷ codes "notify_wait" ∷ codes "notify_take" ∷ codes "state_clear" ∷ codes "value_clear"
    ∷ codes "mutex_take" ∷ codes "mutex_give" ∷ codes "hold_open" ∷ codes "hold_close"
    ∷ codes "queue_send" ∷ codes "queue_receive" ∷ codes "suspend" ∷ codes "resume" ∷ []

unfoldable pub program_kind_at : List ℕ → Data → Result CallKind TextFault
program_kind_at at d = do
  word ← text_at at (codes "do") d
  found (program_kind_of word) (member_path at (codes "do"))
      (detail.NoWord (stray word program_words))

-- a call as a session has it
unfoldable pub made_at : TaskNames → CallKind → List ℕ → Data → Result ProgramCall TextFault
made_at names which at d = do
  made ← call_at Three names which at d
  Ok (Made made)

-- a delay until a wake; that before it may be left out
abbrev pub wake_at : TaskNames → Option Data → List ℕ → Data → Result ProgramCall TextFault
wake_at names (Some prev) at d = made_at names callkind.DelayUntil at d
wake_at names None at d = do
  inc ← number_at at (codes "inc") d
  Ok (DelayUntilNext inc)

abbrev pub program_call_at : TaskNames → CallKind → List ℕ → Data → Result ProgramCall TextFault
program_call_at names callkind.DelayUntil at d = wake_at names (get (codes "prev") d) at d
program_call_at names which at d = made_at names which at d

unfoldable pub call_head_at : TaskNames → List ℕ → Data → Result Head TextFault
call_head_at names at d = do
  which ← program_kind_at at d
  made ← program_call_at names which at d
  Ok (head.Call made)

unfoldable pub repeat_head_at : List ℕ → Data → Result Head TextFault
repeat_head_at at d = do
  rounds ← number_at at (codes "repeat") d
  Ok (head.Repeat rounds)

abbrev pub formed_at : TaskNames → Form → List ℕ → Data → Result Head TextFault
formed_at names form.Work at d = works_at at d
formed_at names form.Repeat at d = repeat_head_at at d
formed_at names form.Forever at d = Ok head.Forever
formed_at names form.Call at d = call_head_at names at d

unfoldable pub object_head_at : TaskNames → List ℕ → Data → Result Head TextFault
object_head_at names at d = do
  members ← object_at at d
  formed_at names (form_of d) at d

abbrev pub head_or : TaskNames → List ℕ → Data → Option (List ℕ) → Result Head TextFault
head_or names at d (Some word) = break_at at word
head_or names at d None = object_head_at names at d

-- what the item at a location says
abbrev pub head_at : TaskNames → List ℕ → Data → Result Head TextFault
head_at names at d = head_or names at d (as_str d)

-- the members of an item

abbrev pub branch_members : List (List ℕ)
branch_members = codes "then" ∷ codes "else" ∷ []

abbrev pub notify_members : NotifyAction → List (List ℕ)
notify_members action =
    codes "do" ∷ note_members Three (action_number action) ++ branch_members

abbrev pub members_of_program_call : ProgramCall → List (List ℕ)
members_of_program_call (Made made) =
    members_of_core_action Three (core_action.Call made) ++ branch_members
members_of_program_call (DelayUntilNext inc) =
    codes "do" ∷ codes "prev" ∷ codes "inc" ∷ branch_members

abbrev pub members_of_head : Head → List (List ℕ)
members_of_head head.Break = []
members_of_head (head.Works works) = codes "work" ∷ []
members_of_head (head.Call made) = members_of_program_call made
members_of_head (head.Repeat rounds) = codes "repeat" ∷ codes "of" ∷ []
members_of_head head.Forever = codes "forever" ∷ []

unfoldable pub only_members_of : Head → List ℕ → Data → Result ⊤ TextFault
only_members_of which at d = do
  members ← object_at at d
  only_at at (members_of_head which) members

-- no members beside them
abbrev pub only_of : Head → List ℕ → Data → Result ⊤ TextFault
only_of head.Break at d = Ok tt
only_of (head.Works works) at d = only_members_of (head.Works works) at d
only_of (head.Call made) at d = only_members_of (head.Call made) at d
only_of (head.Repeat rounds) at d = only_members_of (head.Repeat rounds) at d
only_of head.Forever at d = only_members_of head.Forever at d
