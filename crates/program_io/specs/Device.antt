-- What is known of reads and writes that are counted.
use Rattle.std.specs.Prelude.{◌≡◌, ◌⊎◌, ℕ, zero, suc, ◌+◌, ◌-◌, ◌≤◌, ◌^◌, min, List, ◌++◌, length, take, Option, Some, None, Bool, true, false, Result, Ok, Err}
use Rattle.std.specs.Prelude.{if◌then◌else◌}
use Rattle.std.specs.Io.KnownBytes.{Appends, Consumes, IsAtEnd}
use Rattle.std.specs.IoError.{error_kind}
use Rattle.std.specs.declared.io.Error.{Error}
use Rattle.std.specs.declared.io.ErrorKind.{ErrorKind}
use Rattle.std.specs.declared.io.ErrorKind.TheVariants as kind
use Rattle.bench_types.specs.Limits.{max_input}
use Rattle.program_io.specs.declared.input.InputFault.{InputFault}
use Rattle.program_io.specs.declared.input.InputFault.TheVariants.{Memory, Read}
use Rattle.program_io.specs.declared.writing.WriteFault.{WriteFault}
use Rattle.program_io.specs.declared.writing.WriteFault.TheVariants.{Failed, Gone}

-- one failure more, up to the end of 64 bits
abbrev pub one_more : ℕ → ℕ
one_more failures = min (failures + 1) (2 ^ 64 - 1)

-- a write succeeds where it takes a byte
abbrev pub took_some : {E : Type 0} → Result ℕ E → Bool
took_some (Ok zero) = false
took_some (Ok (suc n)) = true
took_some (Err fault) = false

-- the count after a try
abbrev pub failures_after : Bool → ℕ → ℕ
failures_after succeeds failures = if succeeds then failures else one_more failures

-- all that was left was read, or as much as is ever read
pub record ReadsInput (old new : Option (List ℕ)) (input : List ℕ) : Type 0 where
  pub consumes : Consumes old new input
  pub within : length input ≤ max_input + 1
  pub whole : (length input ≡ max_input + 1) ⊎ IsAtEnd new

-- at most so many bytes were read
pub record ReadsSome (old new : Option (List ℕ)) (most : ℕ) : Type 0 where
  pub bytes : List ℕ
  pub consumes : Consumes old new bytes
  pub within : length bytes ≤ most

-- some bytes, at most so many, were read after what was there; none only at the end
pub record ReadsOn (old new : Option (List ℕ)) (most : ℕ) (before after : List ℕ)
    (count_read : ℕ) : Type 0 where
  pub bytes : List ℕ
  pub appended : after ≡ before ++ bytes
  pub count : length bytes ≡ count_read
  pub within : count_read ≤ most
  pub consumes : Consumes old new bytes
  pub ends : count_read ≡ 0 → IsAtEnd new

-- no read failed: what stopped the reading, if anything, was want of memory
abbrev pub reads_on : {A : Type 0} → Result A InputFault → Bool
reads_on (Ok input) = true
reads_on (Err Memory) = true
reads_on (Err Read) = false

-- some first bytes of the text were written, and no others
abbrev pub AppendsPrefix : Option (List ℕ) → Option (List ℕ) → List ℕ → Type 0
AppendsPrefix old new text = (count : ℕ) × Appends old new (take count text)

-- a device: its bytes, where they are known, how many of its reads or writes failed, and why the
-- last write that failed did
pub record DeviceState : Type 0 where
  pub bytes : Option (List ℕ)
  pub failures : ℕ
  pub fault : Option WriteFault

abbrev pub written_device : Option (List ℕ) → ℕ → Option WriteFault → DeviceState
written_device bytes failures fault =
    record { bytes = bytes; failures = failures; fault = fault }

-- one of which no write is told that failed
abbrev pub device : Option (List ℕ) → ℕ → DeviceState
device bytes failures = written_device bytes failures None

-- By the kind of the error of a write, why it failed: the reader has gone where the pipe to it is
-- broken, and nowhere else.
abbrev pub fault_of_kind : ErrorKind → WriteFault
fault_of_kind kind.BrokenPipe = Gone
fault_of_kind _ = Failed

-- why a write failed, if it did; one that took no byte did
abbrev pub write_fault : Result ℕ Error → Option WriteFault
write_fault (Ok zero) = Some Failed
write_fault (Ok (suc n)) = None
write_fault (Err error) = Some (fault_of_kind (error_kind error))

-- why the last write that failed did, after one more write
abbrev pub later_fault : Option WriteFault → Option WriteFault → Option WriteFault
later_fault None before = before
later_fault (Some fault) before = Some fault

-- the same after the writes of a text
abbrev pub fault_left : {A : Type 0} → Result A WriteFault → Option WriteFault → Option WriteFault
fault_left (Ok done) before = before
fault_left (Err fault) before = Some fault

-- the text was written, or some first bytes of it where a write failed
abbrev pub Tells : Bool → Option (List ℕ) → Option (List ℕ) → List ℕ → Type 0
Tells true old new text = Appends old new text
Tells false old new text = AppendsPrefix old new text

-- the same of a device, whose failures are counted
pub record WritesText (text : List ℕ) (old new : DeviceState) : Type 0 where
  pub printed : Bool
  pub tells : Tells printed old.bytes new.bytes text
  pub failures : new.failures ≡ failures_after printed old.failures
