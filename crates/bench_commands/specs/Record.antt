-- What a recording has read and written when it ends.
use Rattle.std.specs.Prelude.{◌≡◌, ◌≤◌, ◌++◌, ℕ, List, [], length, codes, nat_lt, Option, None, Bool, true, false, Result, Ok, Err}
use Rattle.std.specs.Io.KnownBytes.{Appends}
use Rattle.bench_types.specs.declared.entry.Entry.{Entry}
use Rattle.bench_types.specs.declared.header.Header.{Header}
use Rattle.bench_types.specs.Limits.{max_input}
use Rattle.bench_model.specs.History.{AreByCurrent, IsLegal, steps_of}
use Rattle.port_locks.specs.Holds.{hold_after}
use Rattle.core_scripts.specs.Played.{ArePlayed}
use Rattle.session_text.specs.declared.fault.TextFault.{TextFault}
use Rattle.session_text.specs.declared.rig.RigScript.{RigScript}
use Rattle.session_text.specs.Rig.{rig_text}
use Rattle.session_write.specs.Written.{written}
use Rattle.bench_commands.specs.declared.execution.Status.{Status}
use Rattle.bench_commands.specs.declared.execution.Status.TheVariants.{Fine, Refused, Gone, Fault}
use Rattle.program_io.specs.declared.ending.RunFault.TheVariants.{Memory, Read, Write}
use Rattle.program_io.specs.Refusal.{why_text}
use Rattle.program_io.specs.Device.{ReadsInput, AppendsPrefix}
use Rattle.program_io.specs.Endings.{WroteNothing}
use Rattle.program_io.specs.Hint.{IsRigHint, IsRigTextHint}
use Rattle.program_io.specs.Outputs.{Printed}
use Rattle.program_io.specs.Twice.{twice_note_as_read, twice_note_of_input}
use Rattle.bench_commands.specs.Answer.{IsPrintedAnswer, Output, refused}

-- a session that was recorded, and a line feed
abbrev pub recorded_text : Header → List Entry → List ℕ
recorded_text header entries = written header (steps_of entries) ++ codes "\n"

-- The steps of some history are written, which the cores of the rig may have recorded when they
-- played their scripts: a legal one, each call by the task that is current on its core there,
-- within the limit, at whose end no core holds the kernel.
pub record IsRecorded (rig : RigScript) (output : Output) : Type 0 where
  pub entries : List Entry
  pub legal : IsLegal rig.header entries
  pub current : AreByCurrent rig.header entries
  pub few : length entries ≤ rig.limit
  pub unheld : hold_after rig.header entries ≡ None
  pub played : ArePlayed rig.header rig.limit entries rig.scripts
  pub fine : output.is_refused ≡ false
  pub text : output.text ≡ recorded_text rig.header entries

-- by what a text is read as
abbrev pub IsAnswerTo : Result RigScript TextFault → Output → Type 0
IsAnswerTo (Ok rig) output = IsRecorded rig output
IsAnswerTo (Err fault) output = output ≡ refused (why_text fault.why) fault.path

-- H3 where the input is too long
abbrev pub IsAnswerWhere : Bool → List ℕ → Output → Type 0
IsAnswerWhere true input output = output ≡ refused (codes "H3") []
IsAnswerWhere false input output = IsAnswerTo (rig_text input) output

abbrev pub IsAnswer : List ℕ → Output → Type 0
IsAnswer input output = IsAnswerWhere (nat_lt max_input (length input)) input output

-- what a recording tells of a text, by what that is read as
pub record IsRecordingOf (input : List ℕ) (rig : Result RigScript TextFault) (printed : Printed)
    : Type 0 where
  pub output : Output
  pub answer : IsAnswerTo rig output
  pub tells :
      IsPrintedAnswer output (twice_note_as_read input rig) [] (IsRigTextHint input rig) printed

-- what a recording tells of an input
pub record IsRecording (input : List ℕ) (printed : Printed) : Type 0 where
  pub output : Output
  pub answer : IsAnswer input output
  pub tells :
      IsPrintedAnswer output (twice_note_of_input input (rig_text input)) [] (IsRigHint input)
      printed

-- the input was read, and its whole answer written
pub record WroteAnswer (read_old read_new write_old write_new : Option (List ℕ))
    (is_refused : Bool) : Type 0 where
  pub input : List ℕ
  pub reads : ReadsInput read_old read_new input
  pub output : Output
  pub answer : IsAnswer input output
  pub status : output.is_refused ≡ is_refused
  pub writes : Appends write_old write_new output.text

-- the input was read, and some first bytes of its answer written
pub record WrotePartOfAnswer (read_old read_new write_old write_new : Option (List ℕ))
    : Type 0 where
  pub input : List ℕ
  pub reads : ReadsInput read_old read_new input
  pub output : Output
  pub answer : IsAnswer input output
  pub writes : AppendsPrefix write_old write_new output.text

-- by the status, what was read and written
abbrev pub EndsRecord :
    Status → Option (List ℕ) → Option (List ℕ) → Option (List ℕ) → Option (List ℕ) → Type 0
EndsRecord Fine read_old read_new write_old write_new =
    WroteAnswer read_old read_new write_old write_new false
EndsRecord Refused read_old read_new write_old write_new =
    WroteAnswer read_old read_new write_old write_new true
EndsRecord Gone read_old read_new write_old write_new =
    WrotePartOfAnswer read_old read_new write_old write_new
EndsRecord (Fault Memory) read_old read_new write_old write_new =
    WroteNothing read_old read_new write_old write_new
EndsRecord (Fault Read) read_old read_new write_old write_new =
    WroteNothing read_old read_new write_old write_new
EndsRecord (Fault Write) read_old read_new write_old write_new =
    WrotePartOfAnswer read_old read_new write_old write_new
