-- The lines of edits and of a replay.
use Rattle.std.specs.Prelude.{◌≡◌, Some, slice_get, ℕ, suc, List, [], ◌∷◌, ◌++◌, flat_map, codes, decimal, Bool, if◌then◌else◌, Result, Ok, Err}
use Rattle.bench_types.specs.declared.edit.EditFault.{EditFault}
use Rattle.bench_types.specs.declared.header.Header.{Header}
use Rattle.bench_types.specs.Codes.{refusal_code, edit_fault_code}
use Rattle.bench_types.specs.Header.{name_of}
use Rattle.bench_types.specs.Session.{Session}
use Rattle.program_io.specs.Refusal.{spaced}
use Rattle.bench_model.specs.Session.{running_at}
use Rattle.bench_types.specs.declared.reply.Reply.{Reply}
use Rattle.bench_types.specs.declared.reply.Reply.TheVariants.{Done, Blocked, Flag, Value, Waited, Until, Isr, Refused}
use Rattle.session_store.specs.declared.outcome.Outcome.{Outcome}

-- the names of the running tasks, each after a space
abbrev pub row_text : Header → List ℕ → List ℕ
row_text header row = flat_map (λ task. spaced (name_of header task)) row

-- the tasks that run at a place of a session, and the text of their row
pub record IsShownAt (session : Session) (place : ℕ) (tasks text : List ℕ) : Type 0 where
  pub runs : running_at session.header session.steps place ≡ Some tasks
  pub shown : text ≡ row_text session.header tasks

-- each text is what rows say of the task with its number
abbrev pub AreLabels : Header → List (List ℕ) → Type 0
AreLabels header labels =
    (task : ℕ) (label : List ℕ) → slice_get labels task ≡ Some label
    → label ≡ spaced (name_of header task)

abbrev pub flag_text : Bool → List ℕ
flag_text flag = if flag then codes "true" else codes "false"

abbrev pub reply_text : Reply → List ℕ
reply_text Done = codes "done"
reply_text Blocked = codes "blocked"
reply_text (Flag flag) = flag_text flag
reply_text (Value value) = codes "value" ++ spaced (decimal value)
reply_text (Waited ok value) = codes "waited" ++ spaced (flag_text ok) ++ spaced (decimal value)
reply_text (Until delayed wake) =
    codes "until" ++ spaced (flag_text delayed) ++ spaced (decimal wake)
reply_text (Isr pass pend) = codes "isr" ++ spaced (flag_text pass) ++ spaced (flag_text pend)
reply_text (Refused why) = codes "refused" ++ spaced (refusal_code why)

-- the first line: the tasks that run at the start
abbrev pub start_line : Header → List ℕ → List ℕ
start_line header row = codes "start" ++ row_text header row ++ codes "\n"

-- the line of a step: its index, its reply, and the tasks that run after it
abbrev pub step_line : Header → ℕ → Reply → List ℕ → List ℕ
step_line header index reply row =
    decimal index ++ spaced (reply_text reply) ++ row_text header row ++ codes "\n"

-- what an edit led to
abbrev pub answer_text : Result Outcome EditFault → List ℕ
answer_text (Ok outcome) =
    codes "from " ++ decimal outcome.from ++ codes " met " ++ decimal outcome.met
    ++ codes " replayed " ++ decimal outcome.replayed
answer_text (Err why) = codes "refused" ++ spaced (edit_fault_code why)

-- the line of an edit: its index, and what it led to
abbrev pub edit_line : ℕ → Result Outcome EditFault → List ℕ
edit_line index answer = codes "edit " ++ decimal index ++ spaced (answer_text answer) ++ codes "\n"

-- the lines of edits, the first of which has the index
abbrev pub edit_lines : ℕ → List (Result Outcome EditFault) → List ℕ
edit_lines index [] = []
edit_lines index (answer ∷ rest) = edit_line index answer ++ edit_lines (suc index) rest
