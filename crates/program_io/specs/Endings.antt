-- How a program ends, and what it has read and written then.
use Rattle.std.specs.Prelude.{◌≡◌, ◌≢◌, ℕ, ◌+◌, List, [], Bool, true, false, Option, Some, None, Result, Ok, Err, String, codes, map, string_bytes}
use Rattle.std.specs.Io.KnownBytes.{Appends}
use Rattle.std.specs.IoError.{error_kind}
use Rattle.std.specs.Vec.Iter.{into_iter_items}
use Rattle.std.specs.declared.vec.IntoIter.{IntoIter}
use Rattle.std.specs.declared.alloc.Global.{Global}
use Rattle.std.specs.declared.io.Error.{Error}
use Rattle.std.specs.declared.io.ErrorKind.{ErrorKind}
use Rattle.std.specs.declared.io.ErrorKind.TheVariants.{InvalidData}
use Rattle.bench_types.specs.Limits.{max_input}
use Rattle.program_io.specs.declared.ending.Ending.{Ending}
use Rattle.program_io.specs.declared.ending.Ending.TheVariants.{BadCommandLine, Failed, Gone, NotOpened, Written}
use Rattle.program_io.specs.declared.ending.RunFault.{RunFault}
use Rattle.program_io.specs.declared.ending.RunFault.TheVariants.{Memory, Read, Write}
use Rattle.program_io.specs.declared.input.InputFault.{InputFault}
use Rattle.program_io.specs.declared.input.InputFault.TheVariants as input
use Rattle.program_io.specs.declared.output.OutputStatus.{OutputStatus}
use Rattle.program_io.specs.declared.output.OutputStatus.TheVariants.{Fine}
use Rattle.program_io.specs.declared.writing.WriteFault.{WriteFault}
use Rattle.program_io.specs.declared.writing.WriteFault.TheVariants as write
use Rattle.program_io.specs.Device.{AppendsPrefix, DeviceState, ReadsInput, ReadsSome, WritesText, failures_after, later_fault}
use Rattle.program_io.specs.Outputs.{Printed, status_code}

-- ---- the end of a program

abbrev pub exit_code : Ending → ℕ
exit_code (Written status note) = status_code status
exit_code (BadCommandLine text) = 2
exit_code (NotOpened line) = 3
exit_code Gone = 141
exit_code (Failed fault) = 3

abbrev pub fault_line : RunFault → List ℕ
fault_line Memory = codes "fault memory\n"
fault_line Read = codes "fault read\n"
fault_line Write = codes "fault write\n"

-- what goes to standard error
abbrev pub message : Ending → List ℕ
message (Written status note) = note.items
message (BadCommandLine text) = string_bytes text
message (NotOpened line) = string_bytes line
message Gone = []
message (Failed fault) = fault_line fault

-- whether no read failed, and the file that is named was opened
abbrev pub all_reads_well : Ending → Bool
all_reads_well (Written status note) = true
all_reads_well (BadCommandLine text) = true
all_reads_well (NotOpened line) = false
all_reads_well Gone = true
all_reads_well (Failed Memory) = true
all_reads_well (Failed Read) = false
all_reads_well (Failed Write) = true

-- whether no write failed
abbrev pub all_writes_well : Ending → Bool
all_writes_well (Written status note) = true
all_writes_well (BadCommandLine text) = true
all_writes_well (NotOpened line) = true
all_writes_well Gone = false
all_writes_well (Failed Memory) = true
all_writes_well (Failed Read) = true
all_writes_well (Failed Write) = false

-- the input was not read
abbrev pub unread : InputFault → Ending
unread input.Memory = Failed Memory
unread input.Read = Failed Read

-- not all of the output was written
abbrev pub unwritten : WriteFault → Ending
unwritten write.Gone = Gone
unwritten write.Failed = Failed Write

-- why the output was not written, if that is how the program ends
abbrev pub fault_of_end : Ending → Option WriteFault
fault_of_end (Written status note) = None
fault_of_end (BadCommandLine text) = None
fault_of_end (NotOpened line) = None
fault_of_end Gone = Some write.Gone
fault_of_end (Failed Memory) = None
fault_of_end (Failed Read) = None
fault_of_end (Failed Write) = Some write.Failed

-- ---- what was read and written

-- what a device has left or holds, where that is known
abbrev pub Bytes : Type 0
Bytes = Option (List ℕ)

-- what is told of an end: how a program ends, and what was read and written then
abbrev pub Account : Type 1
Account = Ending → Bytes → Bytes → Bytes → Bytes → Type 0

-- It is so over a reader and a writer, and the read or the write that failed is counted. Where a
-- write failed the program ends by its error.
pub record EndsOver (account : Account) (ending : Ending)
    (read_old read_new write_old write_new : DeviceState) : Type 0 where
  pub bytes : account ending read_old.bytes read_new.bytes write_old.bytes write_new.bytes
  pub reads : read_new.failures ≡ failures_after (all_reads_well ending) read_old.failures
  pub writes : write_new.failures ≡ failures_after (all_writes_well ending) write_old.failures
  pub fault : write_new.fault ≡ later_fault (fault_of_end ending) write_old.fault

-- neither read nor written
abbrev pub Untouched : Bytes → Bytes → Bytes → Bytes → Type 0
Untouched read_old read_new write_old write_new = (read_new ≡ read_old) × (write_new ≡ write_old)

-- by how a program ends that has something to tell, or was refused memory for it, what it wrote
abbrev pub EndsWriting : {E : Type 0} → Result Printed E → Ending → Bytes → Bytes → Type 0
EndsWriting (Ok printed) (Written status note) old new =
    (printed.status ≡ status) × (printed.note ≡ note.items) × Appends old new printed.text
EndsWriting (Ok printed) Gone old new = AppendsPrefix old new printed.text
EndsWriting (Ok printed) (Failed Write) old new = AppendsPrefix old new printed.text
EndsWriting (Err e) (Failed Memory) old new = new ≡ old
EndsWriting _ _ old new = ⊥

-- no more was read than is ever read, and nothing written
pub record WroteNothing (read_old read_new write_old write_new : Bytes) : Type 0 where
  pub reads : ReadsSome read_old read_new (max_input + 1)
  pub writes : write_new ≡ write_old

-- the input was read, all that a command promises of it written, and the note is left
pub record WroteAll (Promises : List ℕ → Printed → Type 0)
    (read_old read_new write_old write_new : Bytes) (status : OutputStatus) (note : List ℕ)
    : Type 0 where
  pub input : List ℕ
  pub reads : ReadsInput read_old read_new input
  pub printed : Printed
  pub promised : Promises input printed
  pub is_status : printed.status ≡ status
  pub is_note : printed.note ≡ note
  pub writes : Appends write_old write_new printed.text

-- the input was read, and some first bytes of what a command promises of it written
pub record WroteFirst (Promises : List ℕ → Printed → Type 0)
    (read_old read_new write_old write_new : Bytes) : Type 0 where
  pub input : List ℕ
  pub reads : ReadsInput read_old read_new input
  pub printed : Printed
  pub promised : Promises input printed
  pub writes : AppendsPrefix write_old write_new printed.text

-- by how a command ends, what was read and written, where it promises this of an input
abbrev pub EndsTelling : (List ℕ → Printed → Type 0) → Account
EndsTelling Promises (Written status note) read_old read_new write_old write_new =
    WroteAll Promises read_old read_new write_old write_new status note.items
EndsTelling Promises Gone read_old read_new write_old write_new =
    WroteFirst Promises read_old read_new write_old write_new
EndsTelling Promises (Failed Memory) read_old read_new write_old write_new =
    WroteNothing read_old read_new write_old write_new
EndsTelling Promises (Failed Read) read_old read_new write_old write_new =
    WroteNothing read_old read_new write_old write_new
EndsTelling Promises (Failed Write) read_old read_new write_old write_new =
    WroteFirst Promises read_old read_new write_old write_new
EndsTelling Promises (BadCommandLine text) read_old read_new write_old write_new = ⊥
EndsTelling Promises (NotOpened line) read_old read_new write_old write_new = ⊥

-- a text was written and nothing is told beside it, or some first bytes of it were written
abbrev pub Shows : List ℕ → Ending → Bytes → Bytes → Type 0
Shows text (Written Fine note) old new = (note.items ≡ []) × Appends old new text
Shows text Gone old new = AppendsPrefix old new text
Shows text (Failed Write) old new = AppendsPrefix old new text
Shows text _ old new = ⊥

-- a text was shown, and nothing read; or memory was refused before
abbrev pub EndsShowing : List ℕ → Account
EndsShowing text (Failed Memory) read_old read_new write_old write_new =
    Untouched read_old read_new write_old write_new
EndsShowing text ending read_old read_new write_old write_new =
    (read_new ≡ read_old) × Shows text ending write_old write_new

-- the same of some text
abbrev pub EndsHelp : Account
EndsHelp ending read_old read_new write_old write_new =
    (text : List ℕ) × EndsShowing text ending read_old read_new write_old write_new

-- a bad command line, of which such a text is told; or memory was refused before that was known
abbrev pub EndsBad : (List ℕ → Type 0) → Account
EndsBad IsTold (BadCommandLine text) read_old read_new write_old write_new =
    IsTold (string_bytes text) × Untouched read_old read_new write_old write_new
EndsBad IsTold (Failed Memory) read_old read_new write_old write_new =
    Untouched read_old read_new write_old write_new
EndsBad IsTold _ read_old read_new write_old write_new = ⊥

-- ---- the process

-- the words of the process as the system hands them over: an error says that one of them is no
-- text, or that memory was refused
abbrev pub Words : Type 0
Words = Result (IntoIter (String Global) Global) Error

-- the words themselves, or none where one of them is no text
abbrev pub AreGiven : Words → Option (List (List ℕ)) → Type 0
AreGiven (Ok words) given = given ≡ Some (map string_bytes (into_iter_items words))
AreGiven (Err error) given = (error_kind error ≡ InvalidData) × (given ≡ None)

-- by the words that are given, what is told of the end
abbrev pub Ends : Type 1
Ends = Option (List (List ℕ)) → Account

-- by the kind of the system's error
abbrev pub EndsWithout : Ends → ErrorKind → Account
EndsWithout ends kind ending read_old read_new write_old write_new =
    (kind ≡ InvalidData → ends None ending read_old read_new write_old write_new)
    × (kind ≢ InvalidData
    → (ending ≡ Failed Memory) × Untouched read_old read_new write_old write_new)

-- by the words of the process
abbrev pub EndsWith : Ends → Words → Account
EndsWith ends (Ok words) ending = ends (Some (map string_bytes (into_iter_items words))) ending
EndsWith ends (Err error) ending = EndsWithout ends (error_kind error) ending

-- how the process ends, with its exit status, and what became of standard input, or the file that
-- was read in its place, of standard output and of standard error
pub record EndsProcess (ends : Ends) (words : Words) (code : ℕ)
    (read_old read_new write_old write_new error_old error_new : DeviceState) : Type 0 where
  pub ending : Ending
  pub status : code ≡ exit_code ending
  pub ended : EndsOver (EndsWith ends words) ending read_old read_new write_old write_new
  pub tells : WritesText (message ending) error_old error_new
