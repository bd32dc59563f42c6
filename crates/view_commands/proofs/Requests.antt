-- How the program ends, by the request that was read.
use Rattle.std.proofs.Common.{◌≡◌, string_bytes, sym, subst}
use Rattle.command_words.specs.Said.{IsMistake}
use Rattle.program_io.specs.declared.ending.Ending.{Ending}
use Rattle.program_io.specs.Device.{DeviceState}
use Rattle.program_io.specs.Endings.{EndsOver}
use Rattle.program_io.proofs.Ended.{bad_over, help_over}
use Rattle.view_commands.specs.declared.request.Request.{Request}
use Rattle.view_commands.specs.declared.request.Request.TheVariants.{Show, Help, Version, Lacking, Bad}
use Rattle.view_commands.specs.CommandLine.{Asked, TellsMistake, asked_in}
use Rattle.view_commands.specs.ViewProgram.{EndsAsked, EndsRequest, Files}

-- so does what was asked for
pub request_ended : (request : Request) (asked : Asked) (files : Files) (ending : Ending) (read_old read_new write_old write_new : DeviceState) → asked_in
    request ≡ asked → TellsMistake request → EndsOver (EndsRequest request files) ending read_old read_new write_old write_new
    → EndsOver (EndsAsked asked files) ending read_old read_new write_old write_new
request_ended request asked files ending read_old read_new write_old write_new is marked over =
    subst (λ (what : Asked). EndsOver (EndsAsked what files) ending read_old read_new write_old write_new) is (go request marked over)
  where
    go : (request : Request) → TellsMistake request → EndsOver (EndsRequest request files) ending read_old read_new write_old write_new → EndsOver
        (EndsAsked (asked_in request) files) ending read_old read_new write_old write_new
    go (Show job file) marked over = over
    go (Help text) marked over = help_over (string_bytes text) ending read_old read_new write_old write_new over
    go Version marked over = over
    go (Lacking text) marked over = over
    go (Bad text) marked over = bad_over (λ told. told ≡ string_bytes text) IsMistake ending read_old read_new write_old write_new
        (λ told is. subst IsMistake (sym is) marked) over
