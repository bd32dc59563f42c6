-- What a terminal is told of long work.
use Rattle.std.specs.Prelude.{◌≡◌, ◌==◌, ℕ, List, [], ◌++◌, Bool, true, false, codes, decimal, if◌then◌else◌}
use Rattle.program_io.specs.Device.{DeviceState, WritesText}
use Rattle.shown_runs.specs.declared.parts.Part.{Part}
use Rattle.shown_runs.specs.declared.parts.Part.TheVariants.{Settling, Simulating, Drawing, Tracing, Comparing, Measuring, Refusals}

-- so much is done of all; the line ends with the work
abbrev pub progress_text : ℕ → ℕ → List ℕ
progress_text done all =
    codes "\r" ++ decimal done ++ codes " of " ++ decimal all ++ codes " tried"
    ++ (if done == all then codes "\n" else [])

abbrev pub part_word : Part → List ℕ
part_word Settling = codes "settling"
part_word Simulating = codes "simulating"
part_word Drawing = codes "drawing"
part_word Tracing = codes "tracing"
part_word Comparing = codes "comparing"
part_word Measuring = codes "measuring"
part_word Refusals = codes "refusals"

-- the part that begins, after its number and how many there are
abbrev pub part_text : Part → ℕ → ℕ → List ℕ
part_text part number all =
    codes "part " ++ decimal number ++ codes " of " ++ decimal all ++ codes ": " ++ part_word part
    ++ codes "\n"

-- by whether it is a terminal: it is given the text, or nothing
abbrev pub TellsText : Bool → List ℕ → DeviceState → DeviceState → Type 0
TellsText true text old new = WritesText text old new
TellsText false text old new = new ≡ old

abbrev pub TellsProgress : Bool → ℕ → ℕ → DeviceState → DeviceState → Type 0
TellsProgress is_terminal done all = TellsText is_terminal (progress_text done all)

abbrev pub BeginsPart : Bool → Part → ℕ → ℕ → DeviceState → DeviceState → Type 0
BeginsPart is_terminal part number all = TellsText is_terminal (part_text part number all)
