-- What a run writes for the bytes that it read.
use Rattle.std.specs.Prelude.{◌≡◌, ℕ, suc, List, [], ◌∷◌, ◌++◌, length, flat_map, codes, Bool, true, false, is_ok, nat_lt, if◌then◌else◌, Result, Ok, Err}
use Rattle.std.specs.Option.{option_map_or}
use Rattle.bench_types.specs.declared.edit.Edit.{Edit}
use Rattle.bench_types.specs.declared.header.Header.{Header}
use Rattle.bench_types.specs.declared.step.Step.{Step}
use Rattle.bench_types.specs.Limits.{max_input, max_steps}
use Rattle.list_orders.specs.Search.{numbers}
use Rattle.bench_model.specs.Control.{running}
use Rattle.bench_model.specs.Start.{start}
use Rattle.bench_types.specs.Session.{Session}
use Rattle.bench_model.specs.Edits.{accepted, after_edits}
use Rattle.bench_model.specs.Meeting.{CheckpointedSession, first_kept}
use Rattle.bench_model.specs.Session.{outcome_at}
use Rattle.bench_model.specs.Tally.{tallies}
use Rattle.tallies.specs.Lines.{tally_lines}
use Rattle.session_store.specs.Outcomes.{answer, answers}
use Rattle.session_store.specs.Trials.{tallies_after}
use Rattle.session_edits.specs.Notes.{edit_notes, trial_notes}
use Rattle.session_text.specs.declared.bench.Bench.{Bench}
use Rattle.session_text.specs.declared.fault.TextFault.{TextFault}
use Rattle.session_text.specs.Bench.{bench_text}
use Rattle.program_io.specs.declared.output.OutputStatus.TheVariants.{Failed, Fine}
use Rattle.program_io.specs.Hint.{IsBenchHint}
use Rattle.program_io.specs.Outputs.{Printed}
use Rattle.program_io.specs.Refusal.{refusal_line, why_text}
use Rattle.program_io.specs.Twice.{twice_note_of_input, warned}
use Rattle.bench_commands.specs.declared.execution.Mode.{Mode}
use Rattle.bench_commands.specs.declared.execution.Mode.TheVariants.{Replay, WhatIf}
use Rattle.bench_commands.specs.Lines.{edit_line, edit_lines, start_line, step_line}

-- the line of the step at a place
abbrev pub line_at : Header → List Step → ℕ → List ℕ
line_at header steps place =
    option_map_or (λ outcome. step_line header place outcome.0 outcome.1)
    (outcome_at header steps place) []

-- the line of the start
abbrev pub first_line : Header → List ℕ
first_line header = start_line header (running (start header).control)

-- the start, then a line a step
unfoldable pub replay_text : Header → List Step → List ℕ
replay_text header steps =
    first_line header ++ flat_map (line_at header steps) (numbers (length steps))

-- whether the input is refused, and what is written
pub record Output : Type 0 where
  pub is_refused : Bool
  pub text : List ℕ

abbrev pub refused : List ℕ → List ℕ → Output
refused code path = record { is_refused = true; text = refusal_line code path }

-- a line a task, where they are asked for
abbrev pub tally_text : Bool → Header → List Step → List ℕ
tally_text tally header steps = if tally then tally_lines header 0 (tallies header steps) else []

-- the lines of the edits, then those of the session that they leave
abbrev pub edited_text : Bool → CheckpointedSession → List Edit → List ℕ
edited_text tally kept edits =
    let last = after_edits kept.session edits in
    edit_lines 0 (answers kept edits) ++ replay_text last.header last.steps
    ++ tally_text tally last.header last.steps

-- how the tasks fare in the edited session, where the edit is accepted; no edit renames a task
abbrev pub tallies_text : Session → Edit → List ℕ
tallies_text session edit =
    if is_ok (accepted session edit) then tally_lines session.header 0 (tallies_after edit session)
    else []

-- an edit that is tried alone: what it leads to, then how the tasks fare
abbrev pub trial_text : CheckpointedSession → ℕ → Edit → List ℕ
trial_text kept index edit =
    edit_line index (answer kept edit) ++ tallies_text kept.session edit

-- edits that are each tried alone, the first of which has the index
abbrev pub trials_text : CheckpointedSession → ℕ → List Edit → List ℕ
trials_text kept index [] = []
trials_text kept index (edit ∷ edits) =
    trial_text kept index edit ++ trials_text kept (suc index) edits

-- about how many steps are to lie between two checkpoints
abbrev pub span_of : Mode → ℕ
span_of (Replay span tally) = span
span_of (WhatIf span) = span

-- by the mode, what is written of a session that was opened, and of edits
abbrev pub store_text : Mode → CheckpointedSession → List Edit → List ℕ
store_text (Replay span tally) kept edits = edited_text tally kept edits
store_text (WhatIf span) kept edits = trials_text kept 0 edits

-- by the mode, what is written for a bench document
abbrev pub bench_output : Mode → Bench Edit → List ℕ
bench_output mode bench =
    store_text mode
    (first_kept (span_of mode) (record { header = bench.header; steps = bench.steps })) bench.edits

-- by what is written for a bench document; J2 comes after all other refusals
abbrev pub output_of_bench : (Bench Edit → List ℕ) → Bench Edit → Output
output_of_bench text bench =
    if nat_lt max_steps (length bench.steps) then refused (codes "J2") []
    else record { is_refused = false; text = text bench }

abbrev pub output_of : (Bench Edit → List ℕ) → Result (Bench Edit) TextFault → Output
output_of text (Ok bench) = output_of_bench text bench
output_of text (Err fault) = refused (why_text fault.why) fault.path

-- by the mode, the output for an input; H3 where that is too long
unfoldable pub output : Mode → List ℕ → Output
output mode input =
    if nat_lt max_input (length input) then refused (codes "H3") []
    else output_of (bench_output mode) (bench_text input)

-- by the mode, a line for each edit that is refused
abbrev pub bench_notes : Mode → Bench Edit → List ℕ
bench_notes (Replay span tally) bench =
    edit_notes (record { header = bench.header; steps = bench.steps }) bench.edits
bench_notes (WhatIf span) bench =
    trial_notes (record { header = bench.header; steps = bench.steps }) bench.edits

-- none where no document was read
abbrev pub notes_of : Mode → Result (Bench Edit) TextFault → List ℕ
notes_of mode (Ok bench) = bench_notes mode bench
notes_of mode (Err fault) = []

-- an answer, with what people are told beside it, and in the place of that of a refused one
abbrev pub printed_with : Output → List ℕ → List ℕ → Printed
printed_with answer notes hint = record {
  status = if answer.is_refused then Failed else Fine;
  text = answer.text;
  note = if answer.is_refused then hint else notes;
}

-- an answer is told with these lines first, and then these notes, or where it is a refusal such a
-- hint
pub record IsPrintedAnswer (answer : Output) (lines notes : List ℕ) (IsHint : List ℕ → Type 0)
    (printed : Printed) : Type 0 where
  pub hint : List ℕ
  pub is_hint : answer.is_refused ≡ true → IsHint hint
  pub is_printed : printed ≡ warned lines (printed_with answer notes hint)

-- by the mode, what a run tells of an input: first where a member of it stands twice, and then a
-- line for each edit that is refused, or why the input is
abbrev pub IsRun : Mode → List ℕ → Printed → Type 0
IsRun mode input printed =
    IsPrintedAnswer (output mode input) (twice_note_of_input input (bench_text input))
    (notes_of mode (bench_text input)) (IsBenchHint input) printed
