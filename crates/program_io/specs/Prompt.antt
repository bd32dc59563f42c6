-- What a terminal is told when it is read.
use Rattle.std.specs.Prelude.{◌≡◌, ℕ, List, Bool, true, false, codes}
use Rattle.program_io.specs.Device.{DeviceState, WritesText}

abbrev pub prompt : List ℕ
prompt = codes "Reading a JSON document from the terminal, to the end of input (Ctrl-D)\n"

-- by whether the prompt is due when a read begins, what the read writes; where it is not, nothing
abbrev pub Prompts : Bool → DeviceState → DeviceState → Type 0
Prompts true old new = WritesText prompt old new
Prompts false old new = new ≡ old
