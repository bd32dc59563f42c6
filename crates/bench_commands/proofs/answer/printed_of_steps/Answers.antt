use Rattle.std.proofs.Common.{rules, [], string_bytes, ◌≡◌, ◌∙◌, List, Ok, refl, sym, ap, subst}
use Rattle.bench_types.specs.declared.step.Step.{Step}
use Rattle.bench_types.specs.Session.{Session}
use Rattle.bench_model.specs.Meeting.{first_kept}
use Rattle.session_store.specs.Opening.{open_check}
use Rattle.program_io.specs.Outputs.{fine}
use Rattle.bench_commands.specs.declared.execution.Mode.TheVariants.{Replay}
use Rattle.bench_commands.specs.Answer.{bench_notes, bench_output, edited_text}
use Rattle.bench_commands.proofs.RefusedTexts.{no_notes, not_opened_printed, noted_printed, opened_printed, too_long_output}
use Rattle.bench_commands.proofs.answer.printed_of_steps.Goals as goal

pub returns : goal.returns
returns c =
    let mode = Replay c.args.span c.args.tally in
    not_opened_printed (bench_output mode) (bench_notes mode c.args.bench) c.args.bench c.in-Err.fault.why c.not_opened.result c.not_opened.ensures.why
    c.not_opened.ensures.line
    (too_long_output (bench_output mode) c.args.bench c.args.span c.in-Err.fault.why c.requires.checked c.requires.span
    (λ passes. ap (λ fault. fault.why) (c.in-Err.ensures.no_memory
    (subst (λ steps. open_check c.args.bench.header steps c.args.span ≡ Ok tt) (sym c.into_vec.ensures) passes))))

pub returns-in-Ok : goal.returns-in-Ok
returns-in-Ok c =
    let bench = c.args.bench in
    let accepted = subst (λ steps. open_check bench.header steps c.args.span ≡ Ok tt) c.into_vec.ensures c.in-Ok.ensures.accepted in
    let same = c.in-Ok.ensures.opened ∙ ap (λ (steps : List Step). first_kept c.args.span (record { header = bench.header; steps = steps })) c.into_vec.ensures
    in
    let mode = Replay c.args.span c.args.tally in
    let session : Session = record { header = bench.header; steps = bench.steps } in
    let bytes : c.into_bytes.result.items ≡ string_bytes c.in_ok-text-in-Ok.text = search rules in
    let text = bytes ∙ c.in_ok-text-in-Ok.ensures ∙ ap (edited_text c.args.tally c.in-Ok.store) (sym c.requires.none) in
    opened_printed mode (bench_notes mode bench) bench c.args.span c.in-Ok.store c.fine.result refl accepted same
    (noted_printed c.fine.result (fine c.into_bytes.result.items) c.into_bytes.result.items _ [] _ refl c.fine.ensures text
    (no_notes session bench.edits c.requires.none))
