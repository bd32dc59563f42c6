use Rattle.std.proofs.Common.{string_bytes}
use Rattle.bench_commands.proofs.Recordings.{recording_printed, refused_recording}
use Rattle.bench_commands.proofs.recording.printed_of_text.Goals as goal

pub returns-in-Err : goal.returns-in-Err
returns-in-Err g c = refused_recording c.args.input.now c.in-Err.fault c.refused_text.result c.in-Err.ensures.reading c.refused_text.ensures.printed
    c.refused_text.ensures.memory

pub returns-in_ok-text-in-Ok : goal.returns-in_ok-text-in-Ok
returns-in_ok-text-in-Ok g c =
    recording_printed c.args.input.now (string_bytes c.in_ok-line-in-Ok.line) c.in_ok-text-in-Ok.text.items c.in-Ok.field-0.document c.fine.result
    c.warned.result c.in-Ok.ensures.reading c.in_ok-text-in-Ok.ensures c.in_ok-line-in-Ok.ensures c.fine.ensures c.warned.ensures
