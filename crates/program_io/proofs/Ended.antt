-- What was read and written when a program ends.
use Rattle.std.proofs.Common.{◌≡◌, ℕ, ◌+◌, List, [], true, Bor, Option, Some, None, Result, Ok, Err, IfOk, Vec, map, option_map, string_bytes, refl}
use Rattle.std.proofs.Common.{sym, ap, subst, ◌∙◌, arith}
use Rattle.std.specs.Prelude.{String}
use Rattle.std.specs.declared.alloc.Global.{Global}
use Rattle.bench_types.specs.Limits.{max_input}
use Rattle.program_io.specs.declared.ending.Ending.{Ending}
use Rattle.program_io.specs.declared.ending.Ending.TheVariants.{BadCommandLine, Failed, Gone, NotOpened, Written}
use Rattle.program_io.specs.declared.ending.RunFault.TheVariants.{Memory, Read, Write}
use Rattle.program_io.specs.declared.input.InputFault.{InputFault}
use Rattle.program_io.specs.declared.input.InputFault.TheVariants as input
use Rattle.program_io.specs.declared.output.OutputStatus.TheVariants.{Fine, Failed as Refused, Unknown}
use Rattle.program_io.specs.Device.{DeviceState, failures_after, later_fault, ReadsInput, ReadsSome, reads_on}
use Rattle.program_io.specs.Endings.{Account, all_reads_well, all_writes_well, AreGiven, Bytes, Ends, EndsBad, EndsHelp, EndsOver, EndsTelling, EndsWith}
use Rattle.program_io.specs.Endings.{EndsShowing, EndsWriting, Shows, fault_of_end, unread, Words}
use Rattle.program_io.specs.Outputs.{Printed}

-- ---- what a command tells

module _ (Promises : List ℕ → Printed → Type 0) (read_old read_new write_old write_new : Bytes) where
  -- what it promises was told, or memory was refused for it
  pub printed_ended : {E : Type 0} (input : List ℕ) (result : Result Printed E) (ending : Ending) → ReadsInput read_old read_new input → IfOk result
      (Promises input) → EndsWriting result ending write_old write_new
      → EndsTelling Promises ending read_old read_new write_old write_new
  printed_ended input (Ok printed) (Written status note) reads promised wrote =
      record { input = input; reads = reads; printed = printed; promised = promised; is_status = wrote.0; is_note = wrote.1; writes = wrote.2 }
  printed_ended input (Ok printed) Gone reads promised wrote = record { input = input; reads = reads; printed = printed; promised = promised; writes = wrote }
  printed_ended input (Ok printed) (Failed Write) reads promised wrote =
      record { input = input; reads = reads; printed = printed; promised = promised; writes = wrote }
  printed_ended input (Ok printed) (Failed Memory) reads promised wrote = absurd wrote
  printed_ended input (Ok printed) (Failed Read) reads promised wrote = absurd wrote
  printed_ended input (Ok printed) (BadCommandLine text) reads promised wrote = absurd wrote
  printed_ended input (Ok printed) (NotOpened line) reads promised wrote = absurd wrote
  printed_ended input (Err e) (Failed Memory) reads promised wrote = record {
    reads =
        record { bytes = input; consumes = reads.consumes; within = reads.within };
    writes = wrote;
  }
  printed_ended input (Err e) (Failed Read) reads promised wrote = absurd wrote
  printed_ended input (Err e) (Failed Write) reads promised wrote = absurd wrote
  printed_ended input (Err e) (Written status note) reads promised wrote = absurd wrote
  printed_ended input (Err e) Gone reads promised wrote = absurd wrote
  printed_ended input (Err e) (BadCommandLine text) reads promised wrote = absurd wrote
  printed_ended input (Err e) (NotOpened line) reads promised wrote = absurd wrote

  -- the input was not read
  pub unread_ended : (fault : InputFault) → ReadsSome read_old read_new (max_input + 1) → write_new ≡ write_old → EndsTelling Promises (unread fault) read_old
      read_new write_old write_new
  unread_ended input.Memory reads same = record { reads = reads; writes = same }
  unread_ended input.Read reads same = record { reads = reads; writes = same }

-- where it promises more, it promises this
pub promises_less : (P Q : List ℕ → Printed → Type 0) (ending : Ending) (read_old read_new write_old write_new : Bytes) →
    ((input : List ℕ) (printed : Printed) → P input printed → Q input printed) → EndsTelling P ending read_old read_new write_old write_new → EndsTelling Q
    ending read_old read_new write_old write_new
promises_less P Q (Written status note) read_old read_new write_old write_new less all =
    record {
      input = all.input;
      reads = all.reads;
      printed = all.printed;
      promised = less all.input all.printed all.promised;
      is_status = all.is_status;
      is_note
          = all.is_note;
      writes = all.writes;
    }
promises_less P Q (BadCommandLine text) read_old read_new write_old write_new less ended = absurd ended
promises_less P Q (NotOpened line) read_old read_new write_old write_new less ended = absurd ended
promises_less P Q Gone read_old read_new write_old write_new less first =
    record {
      input = first.input;
      reads = first.reads;
      printed = first.printed;
      promised = less first.input first.printed first.promised;
      writes = first.writes;
    }
promises_less P Q (Failed Memory) read_old read_new write_old write_new less nothing = nothing
promises_less P Q (Failed Read) read_old read_new write_old write_new less nothing = nothing
promises_less P Q (Failed Write) read_old read_new write_old write_new less first =
    record {
      input = first.input;
      reads = first.reads;
      printed = first.printed;
      promised = less first.input first.printed first.promised;
      writes = first.writes;
    }

none_read : (bytes : Bytes) → ReadsSome bytes bytes (max_input + 1)
none_read None = record { bytes = []; consumes = tt; within = omega arith }
none_read (Some bytes) = record { bytes = []; consumes = refl; within = omega arith }

-- memory was refused before anything was read
pub nothing_printed : (Promises : List ℕ → Printed → Type 0) (read write : Bytes) → EndsTelling Promises (Failed Memory) read read write write
nothing_printed Promises read write = record { reads = none_read read; writes = refl }

-- ---- texts that are shown

pub text_ended : (text : List ℕ) (ending : Ending) (read write_old write_new : Bytes) → Shows text ending write_old write_new → EndsShowing text ending read
    read write_old write_new
text_ended text (Written Fine note) read write_old write_new shows = (refl, shows)
text_ended text (Written Refused note) read write_old write_new shows = absurd shows
text_ended text (Written Unknown note) read write_old write_new shows = absurd shows
text_ended text (BadCommandLine words) read write_old write_new shows = absurd shows
text_ended text (NotOpened line) read write_old write_new shows = absurd shows
text_ended text Gone read write_old write_new shows = (refl, shows)
text_ended text (Failed Memory) read write_old write_new shows = absurd shows
text_ended text (Failed Read) read write_old write_new shows = absurd shows
text_ended text (Failed Write) read write_old write_new shows = (refl, shows)

-- ---- reads that failed

pub unread_counted : {A : Type 0} (fault : InputFault) (result : Result A InputFault) → result ≡ Err fault → all_reads_well (unread fault) ≡ reads_on result
unread_counted {A = A} fault result is = go fault ∙ sym (ap (λ r. reads_on r) is)
  where
    go : (fault : InputFault) → all_reads_well (unread fault) ≡ reads_on {A = A} (Err fault)
    go input.Memory = refl
    go input.Read = refl

pub unread_writes : (fault : InputFault) → all_writes_well (unread fault) ≡ true
unread_writes input.Memory = refl
unread_writes input.Read = refl

-- ---- the words of the process

module _ (ends : Ends) (words : Words) (read_old read_new write_old write_new : Bytes) where
  -- by the words that it was given
  pub words_ended : (given : Option (List (List ℕ))) (ending : Ending) → AreGiven words given → ends given ending read_old read_new write_old write_new →
      EndsWith ends words ending read_old read_new write_old write_new
  words_ended given ending are ended = go words are
    where
      go : (words : Words) → AreGiven words given → EndsWith ends words ending read_old read_new write_old write_new
      go (Ok handed) is = subst (λ (given : Option (List (List ℕ))). ends given ending read_old read_new write_old write_new) is ended
      go (Err error) is = (
        λ same. subst (λ (given : Option (List (List ℕ))). ends given ending read_old read_new write_old write_new) is.1 ended,
        λ other.
            absurd (other is.0),
      )

-- the words that it was given are those that are lent of them
are_lent : (words : Words) (lent : Option (Bor (List (String Global)))) (given : Option (Vec (String Global) Global)) → option_map (λ all. all.now) lent ≡
    option_map (λ all. all.items) given
    → AreGiven words (option_map (λ all. map string_bytes all.items) given) → AreGiven words (option_map (λ all. map string_bytes all.now) lent)
are_lent words lent given is are = subst (AreGiven words) (go lent given (sym is)) are
  where
    go : (lent : Option (Bor (List (String Global)))) (given : Option (Vec (String Global) Global)) → option_map (λ all. all.items) given ≡ option_map
        (λ all. all.now) lent
        → option_map (λ all. map string_bytes all.items) given ≡ option_map (λ all. map string_bytes all.now) lent
    go None None is = refl
    go None (Some all) is = ap (option_map (map string_bytes)) is
    go (Some all) None is = ap (option_map (map string_bytes)) is
    go (Some lent) (Some all) is = ap (option_map (map string_bytes)) is

-- memory was refused before they were known
pub words_refused : (ends : Ends) (words : Words) (read write : Bytes) → ((given : Option (List (List ℕ))) → ends given (Failed Memory) read read write write) →
    EndsWith ends words (Failed Memory) read read write write
words_refused ends (Ok handed) read write law = law (Some (map string_bytes _))
words_refused ends (Err error) read write law = (λ same. law None, λ other. (refl, (refl, refl)))

-- ---- over a reader and a writer

module _ (read_old read_new write_old write_new : DeviceState) where
  -- another account of the same end
  pub over_also : (account also : Account) (ending : Ending) → (account ending read_old.bytes read_new.bytes write_old.bytes write_new.bytes → also ending
      read_old.bytes read_new.bytes write_old.bytes write_new.bytes)
      → EndsOver account ending read_old read_new write_old write_new → EndsOver also ending read_old read_new write_old write_new
  over_also account also ending so over = record { bytes = so over.bytes; reads = over.reads; writes = over.writes; fault = over.fault }

  -- it is told by the words of the process, which are those that are lent of them
  pub words_over : (ends : Ends) (words : Words) (lent : Option (Bor (List (String Global)))) (given : Option (Vec (String Global) Global)) (ending : Ending) →
      option_map (λ all. all.now) lent ≡ option_map (λ all. all.items) given
      → AreGiven words (option_map (λ all. map string_bytes all.items) given) → EndsOver (ends (option_map (λ all. map string_bytes all.now) lent)) ending
      read_old read_new write_old write_new
      → EndsOver (EndsWith ends words) ending read_old read_new write_old write_new
  words_over ends words lent given ending same are over =
      let printed = option_map (λ all. map string_bytes all.now) lent in
      over_also (ends printed) (EndsWith ends words) ending (words_ended ends words read_old.bytes read_new.bytes write_old.bytes write_new.bytes printed ending
      (are_lent words lent given same are)) over

-- memory was refused before anything was read or written
pub refused_over : (account : Account) (read write : DeviceState) → account (Failed Memory) read.bytes read.bytes write.bytes write.bytes → EndsOver account
    (Failed Memory) read read write write
refused_over account read write so = record { bytes = so; reads = refl; writes = refl; fault = refl }

-- a text was shown
pub shown_over : (text : List ℕ) (ending : Ending) (read write_old write_new : DeviceState) → Shows text ending write_old.bytes write_new.bytes → all_reads_well
    ending ≡ true → write_new.failures ≡ failures_after (all_writes_well ending) write_old.failures
    → write_new.fault ≡ later_fault (fault_of_end ending) write_old.fault → EndsOver (EndsShowing text) ending read read write_old write_new
shown_over text ending read write_old write_new shows reads writes fault = record {
  bytes = text_ended text ending read.bytes write_old.bytes write_new.bytes shows;
  reads = sym (ap (λ well. failures_after well read.failures) reads);
  writes = writes;
  fault = fault;
}

-- the same, where any text may be
pub help_over : (text : List ℕ) (ending : Ending) (read_old read_new write_old write_new : DeviceState) → EndsOver (EndsShowing text) ending read_old read_new
    write_old write_new → EndsOver EndsHelp ending read_old read_new write_old write_new
help_over text ending read_old read_new write_old write_new over =
    over_also read_old read_new write_old write_new (EndsShowing text) EndsHelp ending (λ shows. (text, shows)) over

-- no write failed where the input was not read
pub unread_fault : (fault : InputFault) → fault_of_end (unread fault) ≡ None
unread_fault input.Memory = refl
unread_fault input.Read = refl

-- a bad command line of which such a text is told, where more may be
bad_less : (P Q : List ℕ → Type 0) (ending : Ending) (read_old read_new write_old write_new : Bytes) → ((text : List ℕ) → P text → Q text) → EndsBad P ending
    read_old read_new write_old write_new → EndsBad Q ending read_old read_new write_old write_new
bad_less P Q (BadCommandLine text) read_old read_new write_old write_new less ended = (less (string_bytes text) ended.0, ended.1)
bad_less P Q (Failed Memory) read_old read_new write_old write_new less ended = ended
bad_less P Q (Failed Read) read_old read_new write_old write_new less ended = absurd ended
bad_less P Q (Failed Write) read_old read_new write_old write_new less ended = absurd ended
bad_less P Q (Written status note) read_old read_new write_old write_new less ended = absurd ended
bad_less P Q (NotOpened line) read_old read_new write_old write_new less ended = absurd ended
bad_less P Q Gone read_old read_new write_old write_new less ended = absurd ended

pub bad_over : (P Q : List ℕ → Type 0) (ending : Ending) (read_old read_new write_old write_new : DeviceState) → ((text : List ℕ) → P text → Q text) →
    EndsOver (EndsBad P) ending read_old read_new write_old write_new → EndsOver (EndsBad Q) ending read_old read_new write_old write_new
bad_over P Q ending read_old read_new write_old write_new less over =
    over_also read_old read_new write_old write_new (EndsBad P) (EndsBad Q) ending
    (bad_less P Q ending read_old.bytes read_new.bytes write_old.bytes write_new.bytes less) over
