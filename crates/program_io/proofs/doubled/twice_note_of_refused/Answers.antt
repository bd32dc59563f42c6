use Rattle.std.proofs.Common.{ap, string_bytes}
use Rattle.std.specs.Prelude.{is_some}
use Rattle.program_io.proofs.RefusedNotes.{json_noted, json_read, nothing_noted}
use Rattle.program_io.proofs.doubled.twice_note_of_refused.Goals as goal

pub returns-in-Ok : goal.returns-in-Ok
returns-in-Ok c = json_noted c.args.text.now c.twice_note_of_json.result
    (json_read c.args.text.now c.in-Ok.ensures.ok.0 (ap is_some c.in-Ok.ensures.ok.1)) c.twice_note_of_json.ensures

pub returns-in-Err-NotJson : goal.returns-in-Err-NotJson
returns-in-Err-NotJson c = nothing_noted c.args.text.now (string_bytes c.new.result) c.new.ensures.bytes (c.in-Err-NotJson.ensures.refused (cc c.in-Err-NotJson.field-0-is))
