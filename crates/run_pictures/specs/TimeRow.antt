-- The row that tells the time before places, where a tick has more than one unit.
use Rattle.std.specs.Prelude.{ℕ, ◌+◌, ◌==◌, List, [], ◌++◌, flat_map, codes, decimal, if◌then◌else◌, slice_index_or}
use Rattle.list_orders.specs.Search.{numbers}
use Rattle.bench_types.specs.declared.header.Header.{Header}
use Rattle.run_pictures.specs.declared.frame.Frame.{Frame}
use Rattle.run_pictures.specs.Axis.{place_label}

-- how many units a tick has
unfoldable pub units_words : ℕ → List ℕ
units_words units = decimal units ++ codes " a tick</tspan></text>\n"

-- the name of the row, in two lines
unfoldable pub time_name : ℕ → ℕ → List ℕ
time_name y units =
    codes "<text x='8' y='" ++ decimal y ++ codes "'>time in units, <tspan x='8' dy='13'>"
    ++ units_words units

-- the times before so many places, from the first that is shown on, at those that are numbered
abbrev pub time_labels : Frame → ℕ → List ℕ → ℕ → List ℕ
time_labels frame y times count =
    flat_map (λ k. place_label frame y (frame.first + k) (slice_index_or times (frame.first + k) 0))
    (numbers count)

unfoldable pub time_row : Header → Frame → ℕ → List ℕ → ℕ → List ℕ
time_row header frame y times count =
    if header.config.units == 1 then []
    else time_name (y + 11) header.config.units ++ time_labels frame (y + 24) times count

-- the row takes so many pixels from top to bottom
abbrev pub time_height : Header → ℕ
time_height header = if header.config.units == 1 then 0 else 28
