use Rattle.std.proofs.Common.{string_bytes}
use Rattle.bench_commands.specs.Answer.{bench_output}
use Rattle.bench_commands.proofs.RefusedTexts.{read_printed, refused_printed}
use Rattle.bench_commands.proofs.answer.printed_of_text.Goals as goal

pub returns-in-Err : goal.returns-in-Err
returns-in-Err g c = refused_printed c.args.mode (bench_output c.args.mode) c.args.input.now c.in-Err.fault c.refused_text.result c.in-Err.ensures.reading
    c.refused_text.ensures.printed c.refused_text.ensures.memory

pub returns-in_ok-printed-in-Ok : goal.returns-in_ok-printed-in-Ok
returns-in_ok-printed-in-Ok g c =
    read_printed c.args.mode (bench_output c.args.mode) c.args.input.now (string_bytes c.in_ok-line-in-Ok.line) c.in-Ok.field-0.document
    c.in_ok-printed-in-Ok.printed c.warned.result c.in-Ok.ensures.reading c.in_ok-line-in-Ok.ensures
    c.in_ok-printed-in-Ok.ensures c.warned.ensures
