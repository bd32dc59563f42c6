-- What is told of a document, whether it was read and opened or not.
use Rattle.std.proofs.Common.{◌≡◌, ◌⊎◌, ℕ, List, [], length, flat_map, Bool, true, false, Result, Ok, Err, IfOk, nat_lt, nat_le, codes, refl, sym, ap}
use Rattle.std.proofs.Common.{subst, ◌∙◌, arith, inl, inr}
use Rattle.std.specs.Prelude.{All, IsErr, OnOk, if◌then◌else◌}
use Rattle.std.proofs.lemmas.Bool.Decides.{nat_tests}
use Rattle.bench_types.specs.Name.{is_within}
use Rattle.bench_types.specs.Limits.{max_span, max_steps}
use Rattle.session_store.specs.declared.fault.OpenRefusal.{OpenRefusal}
use Rattle.session_store.specs.declared.fault.OpenRefusal.TheVariants as refusal
use Rattle.session_store.specs.declared.fault.OpenRefusal.TheVariants.{TooLong}
use Rattle.session_store.specs.Opening.{open_check}
use Rattle.bench_types.specs.declared.edit.Edit.{Edit}
use Rattle.bench_types.specs.Edit.{IsCheckedEdit}
use Rattle.bench_types.specs.Session.{Session}
use Rattle.session_edits.specs.Notes.{edit_notes, refused_line}
use Rattle.session_edits.specs.Refused.{refused_edits, IsCounted}
use Rattle.session_text.specs.declared.bench.Bench.{Bench}
use Rattle.session_text.specs.declared.detail.Detail.TheVariants.{None}
use Rattle.session_text.specs.declared.fault.TextFault.{TextFault}
use Rattle.session_text.specs.declared.fault.Why.TheVariants.{NoMemory}
use Rattle.session_text.specs.Bench.{bench_text, IsCheckedBench}
use Rattle.bench_model.specs.Meeting.{CheckpointedSession, first_kept}
use Rattle.program_io.specs.Hint.{IsBenchTextHint, too_many_steps_line}
use Rattle.program_io.specs.Outputs.{Printed, fine, noted, refused_with}
use Rattle.program_io.specs.Refusal.{IsPrintedFault, refusal_line}
use Rattle.program_io.specs.Twice.{twice_note, twice_note_as_read, warned}
use Rattle.bench_commands.specs.declared.execution.Mode.{Mode}
use Rattle.bench_commands.specs.Answer.{IsPrintedAnswer, Output, bench_notes, bench_output, notes_of, output_of, output_of_bench, refused, span_of}
use Rattle.bench_commands.specs.Answer.{store_text, printed_with}
use Rattle.bench_commands.proofs.Opened.{few_steps, opens}

-- what is told of a text that was not read
pub refused_printed : {E : Type 0} (mode : Mode) (text : Bench Edit → List ℕ) (input : List ℕ) (fault : TextFault) (result : Result Printed E) →
    (bench_text input ≡ Err fault) ⊎ (fault ≡ record { why = NoMemory; path = []; detail = None })
    → IfOk result (λ printed. IsPrintedFault refused_with input fault printed) → (fault.why ≡ NoMemory → IsErr result) → IfOk result
    (λ printed. IsPrintedAnswer (output_of text (bench_text input)) (twice_note_as_read input (bench_text input)) (notes_of mode (bench_text input))
    (IsBenchTextHint input (bench_text input)) printed)
refused_printed mode text input fault (Err e) reading printed memory = tt
refused_printed mode text input fault (Ok printed) (inl read) line memory =
    subst (λ (r : Result (Bench Edit) TextFault). IsPrintedAnswer (output_of text r) (twice_note_as_read input r) (notes_of mode r) (IsBenchTextHint input r) printed)
    (sym read)
    (record { hint = line.hint; is_hint = λ refused. line.is_hint; is_printed = line.is_printed })
refused_printed mode text input fault (Ok printed) (inr none) line memory = absurd (cc (memory (ap (λ (f : TextFault). f.why) none)))

-- what is told of a text that was read
pub read_printed : {E : Type 0} (mode : Mode) (text : Bench Edit → List ℕ) (input line : List ℕ) (bench : Bench Edit) (printed : Printed) (result : Result Printed E) →
    bench_text input ≡ Ok bench → line ≡ twice_note input
    → printed ≡ printed_with (output_of_bench text bench) (bench_notes mode bench) too_many_steps_line → IfOk result (λ output. output ≡ warned line printed)
    → IfOk result (λ printed. IsPrintedAnswer (output_of text (bench_text input)) (twice_note_as_read input (bench_text input)) (notes_of mode
    (bench_text input)) (IsBenchTextHint input (bench_text input)) printed)
read_printed mode text input line bench printed (Err e) read is_line is_printed given = tt
read_printed mode text input line bench printed (Ok output) read is_line is_printed given =
    subst (λ (r : Result (Bench Edit) TextFault). IsPrintedAnswer (output_of text r) (twice_note_as_read input r) (notes_of mode r) (IsBenchTextHint input r) output)
    (sym read)
    (record {
      hint = too_many_steps_line;
      is_hint = λ refused. refl;
      is_printed =
          given ∙ ap (warned line) is_printed
          ∙ ap (λ (first : List ℕ). warned first (printed_with (output_of_bench text bench) (bench_notes mode bench) too_many_steps_line)) is_line;
    })

-- a session that was checked is not opened only where it has too many steps
pub too_long_output : (text : Bench Edit → List ℕ) (bench : Bench Edit) (span : ℕ) (why : OpenRefusal) → IsCheckedBench bench → is_within 1 max_span span ≡ true →
    (open_check bench.header bench.steps span ≡ Ok tt → why ≡ refusal.NoMemory) → why ≡ TooLong
    → refused (codes "J2") [] ≡ output_of_bench text bench
too_long_output text bench span why checked within memory long = go (nat_lt max_steps (length bench.steps)) refl
  where
    go : (b : Bool) → nat_lt max_steps (length bench.steps) ≡ b → refused (codes "J2") [] ≡ output_of_bench text bench
    go true many = rw many refl
    go false few =
        let fits : nat_le (length bench.steps) max_steps ≡ true = grind (arith, nat_tests, few) in
        absurd (cc (memory (opens bench.header bench.steps span checked.is_session within fits), long))

-- what is told of a session that was not opened
pub not_opened_printed : {E : Type 0} (text : Bench Edit → List ℕ) (notes : List ℕ) (bench : Bench Edit) (why : OpenRefusal) (result : Result Printed E) → OnOk result
    (why ≡ TooLong) → IfOk result (λ printed. printed ≡ refused_with (refusal_line (codes "J2") []) too_many_steps_line)
    → (why ≡ TooLong → refused (codes "J2") [] ≡ output_of_bench text bench) → IfOk result
    (λ printed. printed ≡ printed_with (output_of_bench text bench) notes too_many_steps_line)
not_opened_printed text notes bench why (Err e) long line printed = tt
not_opened_printed text notes bench why (Ok answer) long line printed = line ∙ ap (λ (answer : Output). printed_with answer notes too_many_steps_line)
    (printed long)

-- what is told of a session that was opened
pub opened_printed : (mode : Mode) (notes : List ℕ) (bench : Bench Edit) (span : ℕ) (kept : CheckpointedSession) (printed : Printed) → span ≡ span_of mode →
    open_check bench.header bench.steps span ≡ Ok tt
    → kept ≡ first_kept span (record { header = bench.header; steps = bench.steps })
    → printed ≡ noted (fine (store_text mode kept bench.edits)) notes → printed ≡ printed_with (output_of_bench (bench_output mode) bench) notes
    too_many_steps_line
opened_printed mode notes bench span kept printed is accepted same given =
    let few = few_steps bench.header bench.steps span accepted in
    let begin = same ∙ ap (λ n. first_kept n (record { header = bench.header; steps = bench.steps })) is in
    given ∙ ap (λ (k : CheckpointedSession). noted (fine (store_text mode k bench.edits)) notes) begin
    ∙ sym (ap (λ (many : Bool). printed_with (if many then refused (codes "J2") [] else record { is_refused = false; text = bench_output mode bench }) notes
    too_many_steps_line) few)

-- a text that is told with notes
pub noted_printed : (printed given : Printed) (bytes text note notes : List ℕ) → given ≡ fine bytes → printed ≡ noted given note → bytes ≡ text → note ≡ notes →
    printed ≡ noted (fine text) notes
noted_printed printed given bytes text note notes is_given is_printed is_text are_notes =
    is_printed ∙ ap (λ (one : Printed). noted one note) is_given ∙ ap (λ (some : List ℕ). noted (fine some) note) is_text ∙ ap (noted (fine text)) are_notes

-- nothing is told of no edits of a replay
pub no_notes : (session : Session) (edits : List Edit) → edits ≡ [] → [] ≡ edit_notes session edits
unfolding edit_notes
no_notes session edits none = sym (ap (λ (list : List Edit). flat_map refused_line (refused_edits session list)) none)

-- the lines of the edits of a document, by the number of its steps in the store
pub counted : (bench : Bench Edit) (kept : CheckpointedSession) (span count : ℕ) → kept ≡ first_kept span (record { header = bench.header; steps = bench.steps }) →
    count ≡ length kept.session.steps → All (IsCheckedEdit bench.header) bench.edits
    → IsCounted count bench.edits (record { header = bench.header; steps = bench.steps })
counted bench kept span count same is checked = record { many = sym (is ∙ ap (λ (k : CheckpointedSession). length k.session.steps) same); checked = checked }
