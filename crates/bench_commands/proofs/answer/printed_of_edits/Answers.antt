use Rattle.std.proofs.Common.{rules, string_bytes, ◌≡◌, ◌∙◌, List, Ok, refl, sym, ap, subst}
use Rattle.bench_types.specs.declared.step.Step.{Step}
use Rattle.bench_types.specs.declared.edit.Edit.{Edit}
use Rattle.bench_types.specs.Session.{Session}
use Rattle.bench_model.specs.Meeting.{first_kept}
use Rattle.session_edits.specs.Notes.{edit_notes}
use Rattle.session_edits.specs.Refused.{IsCounted}
use Rattle.session_store.specs.Opening.{open_check}
use Rattle.bench_commands.specs.declared.execution.Mode.TheVariants.{Replay}
use Rattle.bench_commands.specs.Answer.{bench_notes, bench_output, edited_text}
use Rattle.bench_commands.proofs.RefusedTexts.{counted, not_opened_printed, noted_printed, opened_printed, too_long_output}
use Rattle.bench_commands.proofs.answer.printed_of_edits.Goals as goal

pub returns : goal.returns
returns c =
    let mode = Replay c.args.span c.args.tally in
    not_opened_printed (bench_output mode) (bench_notes mode c.args.bench) c.args.bench c.in-Err.fault.why c.not_opened.result c.not_opened.ensures.why
    c.not_opened.ensures.line
    (too_long_output (bench_output mode) c.args.bench c.args.span c.in-Err.fault.why c.requires.checked c.requires.span
    (λ passes. ap (λ fault. fault.why) (c.in-Err.ensures.no_memory
    (subst (λ steps. open_check c.args.bench.header steps c.args.span ≡ Ok tt) (sym c.into_vec.ensures) passes))))

pub returns-in-Ok : goal.returns-in-Ok
returns-in-Ok c =
    let bench = c.args.bench in
    let accepted = subst (λ steps. open_check bench.header steps c.args.span ≡ Ok tt) c.into_vec.ensures c.in-Ok.ensures.accepted in
    let same = c.in-Ok.ensures.opened ∙ ap (λ (steps : List Step). first_kept c.args.span (record { header = bench.header; steps = steps })) c.into_vec.ensures
    in
    let edits : c.as_slice.result.now ≡ bench.edits = search rules in
    let mode = Replay c.args.span c.args.tally in
    let session : Session = record { header = bench.header; steps = bench.steps } in
    let many = counted bench c.in-Ok.store c.args.span c.len.result same c.len.ensures.steps c.requires.checked.edits_checked in
    let lines = c.in_ok-notes-in-Ok.ensures session (subst (λ (list : List Edit). IsCounted c.len.result list session) (sym edits) many) in
    let repeated : c.as_slice-in-Ok.result.now ≡ bench.edits = search rules in
    let bytes : c.into_bytes.result.items ≡ string_bytes c.in_ok-text-in-Ok.text = search rules in
    let noted_bytes : c.into_bytes-in-Ok.result.items ≡ string_bytes c.in_ok-notes-in-Ok.notes = search rules in
    let text = bytes ∙ c.in_ok-text-in-Ok.ensures ∙ ap (edited_text c.args.tally c.in-Ok.store) repeated in
    opened_printed mode (bench_notes mode bench) bench c.args.span c.in-Ok.store c.noted.result refl accepted same
    (noted_printed c.noted.result c.fine.result _ _ _ _ c.fine.ensures c.noted.ensures text (noted_bytes ∙ lines ∙ ap (edit_notes session) edits))
