use Rattle.std.proofs.Common.{ap, lt-ltb, string_bytes, List, ℕ, ◌∙◌}
use Rattle.program_io.specs.Outputs.{refused_with}
use Rattle.bench_commands.proofs.Recordings.{long_recording}
use Rattle.bench_commands.proofs.recording.printed_of.Goals as goal

pub returns-then-input-gt-MAX_INPUT : goal.returns-then-input-gt-MAX_INPUT
returns-then-input-gt-MAX_INPUT g c =
    let hint = string_bytes c.in_ok-too_long.field-0.hint in
    long_recording c.args.input.now hint c.on_output.result (lt-ltb _ _ c.if-input-gt-MAX_INPUT.true) c.in_ok-too_long.ensures.hint
    (c.on_output.ensures ∙ ap (λ (line : List ℕ). refused_with line hint) c.in_ok-too_long.ensures.line)
