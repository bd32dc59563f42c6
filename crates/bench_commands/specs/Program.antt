-- How the program ends, and what it has read and written then.
use Rattle.std.specs.Prelude.{◌≡◌, ℕ, List, Option, string_bytes}
use Rattle.command_words.specs.Said.{IsMistake}
use Rattle.program_io.specs.Endings.{Account, EndsBad, EndsHelp, EndsShowing, EndsTelling}
use Rattle.bench_commands.specs.declared.command.Request.{Request}
use Rattle.bench_commands.specs.declared.command.Request.TheVariants.{Run, Record, Help, Bad}
use Rattle.bench_commands.specs.Answer.{IsRun}
use Rattle.bench_commands.specs.Command.{Asked, a_mistake, a_recording, a_run, asked, help}
use Rattle.bench_commands.specs.Record.{IsRecording}

-- by a request, what is told of the end
abbrev pub EndsRequest : Request → Account
EndsRequest (Run mode) = EndsTelling (IsRun mode)
EndsRequest Record = EndsTelling IsRecording
EndsRequest (Help text) = EndsShowing (string_bytes text)
EndsRequest (Bad text) = EndsBad (λ told. told ≡ string_bytes text)

-- by what was asked, what is told of the end; a mistake's text begins with `error: `
abbrev pub EndsAsked : Asked → Account
EndsAsked (a_run mode) = EndsTelling (IsRun mode)
EndsAsked a_recording = EndsTelling IsRecording
EndsAsked help = EndsHelp
EndsAsked a_mistake = EndsBad IsMistake

-- by the words of the command line; none where one of them is no text
abbrev pub Ends : Option (List (List ℕ)) → Account
Ends words = EndsAsked (asked words)
