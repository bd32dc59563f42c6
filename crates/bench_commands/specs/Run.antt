-- What a run has read and written when it ends.
use Rattle.std.specs.Prelude.{◌≡◌, ℕ, List, Option, Some, None, Bool, true, false}
use Rattle.std.specs.Io.KnownBytes.{Appends}
use Rattle.bench_types.specs.Name.{is_within}
use Rattle.bench_types.specs.Limits.{max_span}
use Rattle.bench_commands.specs.declared.execution.Mode.{Mode}
use Rattle.bench_commands.specs.declared.execution.Status.{Status}
use Rattle.bench_commands.specs.declared.execution.Status.TheVariants.{Fine, Refused, Fault}
use Rattle.bench_commands.specs.declared.execution.Status.TheVariants as status
use Rattle.program_io.specs.declared.ending.Ending.{Ending}
use Rattle.program_io.specs.declared.ending.Ending.TheVariants.{BadCommandLine, Failed, Gone, NotOpened, Written}
use Rattle.program_io.specs.declared.output.OutputStatus.{OutputStatus}
use Rattle.program_io.specs.declared.output.OutputStatus.TheVariants as went
use Rattle.program_io.specs.declared.ending.RunFault.TheVariants.{Memory, Read, Write}
use Rattle.program_io.specs.declared.writing.WriteFault.{WriteFault}
use Rattle.program_io.specs.declared.writing.WriteFault.TheVariants as write
use Rattle.program_io.specs.Device.{AppendsPrefix, ReadsInput}
use Rattle.program_io.specs.Endings.{WroteNothing}
use Rattle.bench_commands.specs.Answer.{output, span_of}

-- a span of checkpoints that a session may be opened with
abbrev pub has_span : Mode → Bool
has_span mode = is_within 1 max_span (span_of mode)

-- the input was read, and its whole output written
pub record Wrote (mode : Mode) (read_old read_new write_old write_new : Option (List ℕ))
    (is_refused : Bool) : Type 0 where
  pub input : List ℕ
  pub reads : ReadsInput read_old read_new input
  pub status : (output mode input).is_refused ≡ is_refused
  pub writes : Appends write_old write_new (output mode input).text

-- the input was read, and some first bytes of its output written
pub record WrotePart (mode : Mode)
    (read_old read_new write_old write_new : Option (List ℕ)) : Type 0 where
  pub input : List ℕ
  pub reads : ReadsInput read_old read_new input
  pub writes : AppendsPrefix write_old write_new (output mode input).text

-- by the mode and the status, what was read and written
abbrev pub Ran :
    Mode → Status → Option (List ℕ) → Option (List ℕ) → Option (List ℕ) → Option (List ℕ) → Type 0
Ran mode Fine read_old read_new write_old write_new =
    Wrote mode read_old read_new write_old write_new false
Ran mode Refused read_old read_new write_old write_new =
    Wrote mode read_old read_new write_old write_new true
Ran mode status.Gone read_old read_new write_old write_new =
    WrotePart mode read_old read_new write_old write_new
Ran mode (Fault Memory) read_old read_new write_old write_new =
    WroteNothing read_old read_new write_old write_new
Ran mode (Fault Read) read_old read_new write_old write_new =
    WroteNothing read_old read_new write_old write_new
Ran mode (Fault Write) read_old read_new write_old write_new =
    WrotePart mode read_old read_new write_old write_new

-- whether no read failed
abbrev pub reads_well : Status → Bool
reads_well Fine = true
reads_well Refused = true
reads_well status.Gone = true
reads_well (Fault Memory) = true
reads_well (Fault Read) = false
reads_well (Fault Write) = true

-- whether no write failed
abbrev pub writes_well : Status → Bool
writes_well Fine = true
writes_well Refused = true
writes_well status.Gone = false
writes_well (Fault Memory) = true
writes_well (Fault Read) = true
writes_well (Fault Write) = false

-- why the output was not written, if that is how a run ended
abbrev pub fault_of_status : Status → Option WriteFault
fault_of_status Fine = None
fault_of_status Refused = None
fault_of_status status.Gone = Some write.Gone
fault_of_status (Fault Memory) = None
fault_of_status (Fault Read) = None
fault_of_status (Fault Write) = Some write.Failed

-- a run or a recording may end like this
abbrev pub is_of_run : Ending → Bool
is_of_run (Written status note) = true
is_of_run (BadCommandLine text) = false
is_of_run (NotOpened line) = false
is_of_run Gone = true
is_of_run (Failed fault) = true

-- by how an output went that was written
abbrev pub status_of_output : OutputStatus → Status
status_of_output went.Fine = Fine
status_of_output went.Failed = Refused
status_of_output went.Unknown = Refused

-- by how a run or a recording ends
abbrev pub status_of : Ending → Status
status_of (Written status note) = status_of_output status
status_of (BadCommandLine text) = Refused
status_of (NotOpened line) = Refused
status_of Gone = status.Gone
status_of (Failed fault) = Fault fault
