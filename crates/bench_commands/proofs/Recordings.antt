-- What is written of a rig document.
use Rattle.std.proofs.Common.{◌≡◌, ℕ, ◌≤◌, ◌⊎◌, List, [], ◌++◌, length, Bool, true, false, None, Result, Ok, Err, IfOk, nat_lt, codes, refl, sym, ap, subst, inl, inr}
use Rattle.std.proofs.Common.{◌∙◌}
use Rattle.std.specs.Prelude.{IsErr, if◌then◌else◌}
use Rattle.bench_types.specs.declared.entry.Entry.{Entry}
use Rattle.bench_types.specs.declared.header.Header.{Header}
use Rattle.bench_types.specs.declared.step.Step.{Step}
use Rattle.bench_model.specs.History.{AreByCurrent, IsLegal, steps_of}
use Rattle.port_locks.specs.Holds.{hold_after}
use Rattle.core_scripts.specs.Played.{ArePlayed}
use Rattle.session_text.specs.declared.rig.RigScript.{RigScript}
use Rattle.session_write.specs.Written.{written}
use Rattle.session_text.specs.declared.detail.Detail.TheVariants as detail
use Rattle.session_text.specs.declared.fault.TextFault.{TextFault}
use Rattle.session_text.specs.declared.fault.Why.TheVariants.{NoMemory}
use Rattle.session_text.specs.Rig.{rig_text}
use Rattle.bench_types.specs.Limits.{max_input}
use Rattle.program_io.specs.Hint.{IsRigHintWhere, too_long_line}
use Rattle.program_io.specs.Outputs.{Printed, fine, refused_with}
use Rattle.program_io.specs.Refusal.{IsPrintedFault, refusal_line, why_text}
use Rattle.program_io.specs.Twice.{twice_note, twice_note_as_read, warned}
use Rattle.bench_commands.specs.Answer.{printed_with, refused}
use Rattle.bench_commands.specs.Record.{IsAnswerWhere, IsRecorded, IsRecording, IsRecordingOf}

pub is_recorded : (rig : RigScript) (header : Header) (entries : List Entry) (steps : List Step) (bytes text : List ℕ) → header ≡ rig.header → IsLegal header
    entries → AreByCurrent header entries → length entries ≤ rig.limit → hold_after header entries ≡ None
    → ArePlayed header rig.limit entries rig.scripts → steps ≡ steps_of entries → bytes ≡ written header steps → text ≡ bytes ++ codes "\n" → IsRecorded rig
    (record { is_refused = false; text = text })
is_recorded rig header entries steps bytes text is legal current few unheld played steps_are is_written longer = record {
  entries = entries;
  legal = subst (λ header. IsLegal header entries) is legal;
  current = subst (λ header. AreByCurrent header entries) is current;
  few = few;
  unheld = subst (λ header. hold_after header entries ≡ None) is unheld;
  played = subst (λ header. ArePlayed header rig.limit entries rig.scripts) is played;
  fine = refl;
  text =
      longer ∙ ap (λ front. front ++ codes "\n") (is_written ∙ ap (written header) steps_are ∙ ap (λ header. written header (steps_of entries)) is);
}

-- what is told of a text that was not read
pub refused_recording : {E : Type 0} (input : List ℕ) (fault : TextFault) (result : Result Printed E) → (rig_text input ≡ Err fault) ⊎
    (fault ≡ record { why = NoMemory; path = []; detail = detail.None })
    → IfOk result (λ printed. IsPrintedFault refused_with input fault printed) → (fault.why ≡ NoMemory → IsErr result) → IfOk result
    (λ printed. IsRecordingOf input (rig_text input) printed)
refused_recording input fault (Err e) reading printed memory = tt
refused_recording input fault (Ok printed) (inl read) line memory =
    subst (λ (r : Result RigScript TextFault). IsRecordingOf input r printed) (sym read)
    (record {
      output = refused (why_text fault.why) fault.path;
      answer = refl;
      tells =
          record { hint = line.hint; is_hint = λ refused. line.is_hint; is_printed = line.is_printed };
    })
refused_recording input fault (Ok printed) (inr none) line memory = absurd (cc (memory (ap (λ (f : TextFault). f.why) none)))

-- what is told of a text that was read
pub recording_printed : {E : Type 0} (input line text : List ℕ) (rig : RigScript) (given : Printed) (result : Result Printed E) → rig_text input ≡ Ok rig →
    IsRecorded rig (record { is_refused = false; text = text }) → line ≡ twice_note input → given ≡ fine text
    → IfOk result (λ printed. printed ≡ warned line given) → IfOk result (λ printed. IsRecordingOf input (rig_text input) printed)
recording_printed input line text rig given (Err e) read recorded is_line is_given is = tt
recording_printed input line text rig given (Ok printed) read recorded is_line is_given is =
    subst (λ (r : Result RigScript TextFault). IsRecordingOf input r printed) (sym read)
    (record {
      output = record { is_refused = false; text = text };
      answer = recorded;
      tells = record {
        hint = [];
        is_hint = λ refused. absurd (cc refused);
        is_printed = is ∙ ap (warned line) is_given ∙ ap (λ (first : List ℕ). warned first (fine text)) is_line;
      };
    })

-- what is told of an input that is not too long
pub short_recording : {E : Type 0} (input : List ℕ) (result : Result Printed E) → nat_lt max_input (length input) ≡ false → IfOk result
    (λ printed. IsRecordingOf input (rig_text input) printed) → IfOk result (λ printed. IsRecording input printed)
short_recording input (Err e) short printed = tt
short_recording input (Ok given) short printed = record {
  output = printed.output;
  answer = subst (λ long. IsAnswerWhere long input printed.output) (sym short) printed.answer;
  tells = record {
    hint = printed.tells.hint;
    is_hint = λ refused. subst (λ long. IsRigHintWhere long input printed.tells.hint) (sym short)
        (printed.tells.is_hint refused);
    is_printed = printed.tells.is_printed
        ∙ ap (λ (long : Bool). warned (if long then [] else twice_note_as_read input (rig_text input)) (printed_with printed.output [] printed.tells.hint))
        (sym short);
  };
}

-- what is told of one that is
pub long_recording : (input hint : List ℕ) (printed : Printed) → nat_lt max_input (length input) ≡ true → hint ≡ too_long_line → printed ≡ refused_with
    (refusal_line (codes "H3") []) hint → IsRecording input printed
long_recording input hint printed long is_hint is = record {
  output = refused (codes "H3") [];
  answer = subst (λ long. IsAnswerWhere long input (refused (codes "H3") [])) (sym long) refl;
  tells = record {
    hint = hint;
    is_hint = λ refused. subst (λ long. IsRigHintWhere long input hint) (sym long) is_hint;
    is_printed = is
        ∙ ap (λ (long : Bool). warned (if long then [] else twice_note_as_read input (rig_text input)) (refused_with (refusal_line (codes "H3") []) hint))
        (sym long);
  };
}
