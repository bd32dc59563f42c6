-- How a run or a recording ended, by how the program ends.
use Rattle.std.proofs.Common.{◌≡◌, ℕ, Bool, true, false, List, refl, sym, ap, subst, ◌∙◌}
use Rattle.std.specs.Prelude.{if◌then◌else◌}
use Rattle.std.specs.Io.KnownBytes.{Appends}
use Rattle.program_io.specs.declared.ending.Ending.{Ending}
use Rattle.program_io.specs.declared.ending.Ending.TheVariants.{BadCommandLine, Failed, Gone, NotOpened, Written}
use Rattle.program_io.specs.declared.ending.RunFault.TheVariants.{Memory, Read, Write}
use Rattle.program_io.specs.declared.output.OutputStatus.TheVariants as went
use Rattle.program_io.specs.Device.{AppendsPrefix}
use Rattle.program_io.specs.Endings.{all_reads_well, all_writes_well, Bytes, EndsTelling, fault_of_end}
use Rattle.program_io.specs.Outputs.{Printed}
use Rattle.bench_commands.specs.declared.execution.Mode.{Mode}
use Rattle.bench_commands.specs.Answer.{IsRun}
use Rattle.bench_commands.specs.Record.{EndsRecord, IsRecording}
use Rattle.bench_commands.specs.Run.{fault_of_status, is_of_run, Ran, reads_well, status_of, writes_well}

-- how an answer went says whether it is a refusal
fine_is : (refused : Bool) → (if refused then went.Failed else went.Fine) ≡ went.Fine → refused ≡ false
fine_is true e = absurd (cc e)
fine_is false e = refl

failed_is : (refused : Bool) → (if refused then went.Failed else went.Fine) ≡ went.Failed → refused ≡ true
failed_is true e = refl
failed_is false e = absurd (cc e)

unknown_is : (refused : Bool) → (if refused then went.Failed else went.Fine) ≡ went.Unknown → refused ≡ true
unknown_is true e = refl
unknown_is false e = absurd (cc e)

-- a run or a recording has no other ending
pub of_run : (Promises : List ℕ → Printed → Type 0) (ending : Ending) (read_old read_new write_old write_new : Bytes) → EndsTelling Promises ending read_old
    read_new write_old write_new → is_of_run ending ≡ true
of_run Promises (Written status note) read_old read_new write_old write_new ended = refl
of_run Promises (BadCommandLine text) read_old read_new write_old write_new ended = absurd ended
of_run Promises (NotOpened line) read_old read_new write_old write_new ended = absurd ended
of_run Promises Gone read_old read_new write_old write_new ended = refl
of_run Promises (Failed fault) read_old read_new write_old write_new ended = refl

pub reads_by_status : (ending : Ending) → is_of_run ending ≡ true → reads_well (status_of ending) ≡ all_reads_well ending
reads_by_status (Written went.Fine note) is = refl
reads_by_status (Written went.Failed note) is = refl
reads_by_status (Written went.Unknown note) is = refl
reads_by_status (BadCommandLine text) is = absurd (cc is)
reads_by_status (NotOpened line) is = absurd (cc is)
reads_by_status Gone is = refl
reads_by_status (Failed Memory) is = refl
reads_by_status (Failed Read) is = refl
reads_by_status (Failed Write) is = refl

pub writes_by_status : (ending : Ending) → is_of_run ending ≡ true → writes_well (status_of ending) ≡ all_writes_well ending
writes_by_status (Written went.Fine note) is = refl
writes_by_status (Written went.Failed note) is = refl
writes_by_status (Written went.Unknown note) is = refl
writes_by_status (BadCommandLine text) is = absurd (cc is)
writes_by_status (NotOpened line) is = absurd (cc is)
writes_by_status Gone is = refl
writes_by_status (Failed Memory) is = refl
writes_by_status (Failed Read) is = refl
writes_by_status (Failed Write) is = refl

pub fault_by_status : (ending : Ending) → is_of_run ending ≡ true → fault_of_status (status_of ending) ≡ fault_of_end ending
fault_by_status (Written went.Fine note) is = refl
fault_by_status (Written went.Failed note) is = refl
fault_by_status (Written went.Unknown note) is = refl
fault_by_status (BadCommandLine text) is = absurd (cc is)
fault_by_status (NotOpened line) is = absurd (cc is)
fault_by_status Gone is = refl
fault_by_status (Failed Memory) is = refl
fault_by_status (Failed Read) is = refl
fault_by_status (Failed Write) is = refl

module _ (read_old read_new write_old write_new : Bytes) where
  pub run_ended : (mode : Mode) (ending : Ending) → EndsTelling (IsRun mode) ending read_old read_new write_old write_new → Ran mode (status_of ending) read_old
      read_new write_old write_new
  run_ended mode (Written went.Fine note) all = record {
    input = all.input;
    reads = all.reads;
    status = fine_is _
        (sym (ap (λ (t : Printed). t.status) all.promised.is_printed) ∙ all.is_status);
    writes = subst (λ text. Appends write_old write_new text)
        (ap (λ (t : Printed). t.text) all.promised.is_printed) all.writes;
  }
  run_ended mode (Written went.Failed note) all = record {
    input = all.input;
    reads = all.reads;
    status = failed_is _
        (sym (ap (λ (t : Printed). t.status) all.promised.is_printed) ∙ all.is_status);
    writes = subst (λ text. Appends write_old write_new text)
        (ap (λ (t : Printed). t.text) all.promised.is_printed) all.writes;
  }
  run_ended mode (Written went.Unknown note) all = record {
    input = all.input;
    reads = all.reads;
    status = unknown_is _
        (sym (ap (λ (t : Printed). t.status) all.promised.is_printed) ∙ all.is_status);
    writes = subst (λ text. Appends write_old write_new text)
        (ap (λ (t : Printed). t.text) all.promised.is_printed) all.writes;
  }
  run_ended mode (BadCommandLine text) ended = absurd ended
  run_ended mode (NotOpened line) ended = absurd ended
  run_ended mode Gone first = record {
    input = first.input;
    reads = first.reads;
    writes = subst (λ text. AppendsPrefix write_old write_new text)
        (ap (λ (t : Printed). t.text) first.promised.is_printed) first.writes;
  }
  run_ended mode (Failed Memory) nothing = nothing
  run_ended mode (Failed Read) nothing = nothing
  run_ended mode (Failed Write) first = record {
    input = first.input;
    reads = first.reads;
    writes = subst (λ text. AppendsPrefix write_old write_new text)
        (ap (λ (t : Printed). t.text) first.promised.is_printed) first.writes;
  }

  pub recording_ended : (ending : Ending) → EndsTelling IsRecording ending read_old read_new write_old write_new → EndsRecord (status_of ending) read_old
      read_new write_old write_new
  recording_ended (Written went.Fine note) all = record {
    input = all.input;
    reads = all.reads;
    output = all.promised.output;
    answer = all.promised.answer;
    status = fine_is _ (sym (ap (λ (t : Printed). t.status) all.promised.tells.is_printed) ∙ all.is_status);
    writes = subst
        (λ text. Appends write_old write_new text) (ap (λ (t : Printed). t.text) all.promised.tells.is_printed) all.writes;
  }
  recording_ended (Written went.Failed note) all = record {
    input = all.input;
    reads = all.reads;
    output = all.promised.output;
    answer = all.promised.answer;
    status = failed_is _ (sym (ap (λ (t : Printed). t.status) all.promised.tells.is_printed) ∙ all.is_status);
    writes = subst
        (λ text. Appends write_old write_new text) (ap (λ (t : Printed). t.text) all.promised.tells.is_printed) all.writes;
  }
  recording_ended (Written went.Unknown note) all = record {
    input = all.input;
    reads = all.reads;
    output = all.promised.output;
    answer = all.promised.answer;
    status = unknown_is _ (sym (ap (λ (t : Printed). t.status) all.promised.tells.is_printed) ∙ all.is_status);
    writes = subst
        (λ text. Appends write_old write_new text) (ap (λ (t : Printed). t.text) all.promised.tells.is_printed) all.writes;
  }
  recording_ended (BadCommandLine text) ended = absurd ended
  recording_ended (NotOpened line) ended = absurd ended
  recording_ended Gone first = record {
    input = first.input;
    reads = first.reads;
    output = first.promised.output;
    answer = first.promised.answer;
    writes = subst
        (λ text. AppendsPrefix write_old write_new text) (ap (λ (t : Printed). t.text) first.promised.tells.is_printed) first.writes;
  }
  recording_ended (Failed Memory) nothing = nothing
  recording_ended (Failed Read) nothing = nothing
  recording_ended (Failed Write) first = record {
    input = first.input;
    reads = first.reads;
    output = first.promised.output;
    answer = first.promised.answer;
    writes = subst (λ text. AppendsPrefix write_old write_new text) (ap (λ (t : Printed). t.text) first.promised.tells.is_printed) first.writes;
  }
