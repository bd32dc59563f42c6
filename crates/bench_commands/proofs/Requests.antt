-- How the program ends, by what was asked for.
use Rattle.std.proofs.Common.{◌≡◌, [], string_bytes, refl, sym, subst}
use Rattle.command_words.specs.Said.{IsMistake}
use Rattle.program_io.specs.declared.ending.Ending.{Ending}
use Rattle.program_io.specs.declared.ending.Ending.TheVariants.{Failed}
use Rattle.program_io.specs.declared.ending.RunFault.TheVariants.{Memory}
use Rattle.program_io.specs.Device.{DeviceState}
use Rattle.program_io.specs.Endings.{Bytes, EndsOver}
use Rattle.program_io.proofs.Ended.{bad_over, help_over, nothing_printed}
use Rattle.bench_commands.specs.declared.command.Request.{Request}
use Rattle.bench_commands.specs.declared.command.Request.TheVariants.{Run, Record, Help, Bad}
use Rattle.bench_commands.specs.Answer.{IsRun}
use Rattle.bench_commands.specs.Command.{Asked, TellsMistake, a_mistake, a_recording, a_run, asked_in, help}
use Rattle.bench_commands.specs.Program.{EndsAsked, EndsRequest}
use Rattle.bench_commands.specs.Record.{IsRecording}

-- as the request that was read ends, so does what was asked for
pub request_ended : (request : Request) (asked : Asked) (ending : Ending) (read_old read_new write_old write_new : DeviceState) → asked_in request ≡ asked →
    TellsMistake request → EndsOver (EndsRequest request) ending read_old read_new write_old write_new
    → EndsOver (EndsAsked asked) ending read_old read_new write_old write_new
request_ended request asked ending read_old read_new write_old write_new is marked over =
    subst (λ (what : Asked). EndsOver (EndsAsked what) ending read_old read_new write_old write_new) is (go request marked over)
  where
    go : (request : Request) → TellsMistake request → EndsOver (EndsRequest request) ending read_old read_new write_old write_new → EndsOver
        (EndsAsked (asked_in request)) ending read_old read_new write_old write_new
    go (Run mode) marked over = over
    go Record marked over = over
    go (Help text) marked over = help_over (string_bytes text) ending read_old read_new write_old write_new over
    go (Bad text) marked over = bad_over (λ told. told ≡ string_bytes text) IsMistake ending read_old read_new write_old write_new
        (λ told is. subst IsMistake (sym is) marked) over

-- memory was refused before anything was read, whatever was asked for
pub memory_refused : (asked : Asked) (read write : Bytes) → EndsAsked asked (Failed Memory) read read write write
memory_refused (a_run mode) read write = nothing_printed (IsRun mode) read write
memory_refused a_recording read write = nothing_printed IsRecording read write
memory_refused help read write = ([], (refl, refl))
memory_refused a_mistake read write = (refl, refl)
