use Rattle.program_io.proofs.Printed.{bytes_printed, text_printed}
use Rattle.program_io.proofs.hint.short_text_hint.Goals as goal

pub returns-in-Ok : goal.returns-in-Ok
returns-in-Ok c = text_printed c.args.input.now c.in-Ok.text.now c.no_value_hint.result c.in-Ok.ensures.cases.0 c.in-Ok.ensures.cases.1 c.no_value_hint.ensures

pub returns-in-Err : goal.returns-in-Err
returns-in-Err c = bytes_printed c.args.input.now c.from_str.result c.in-Err.ensures.cases.0 c.from_str.ensures.ok
