-- The places at which a run is not known, drawn paler than the others.
use Rattle.std.specs.Prelude.{ℕ, ◌+◌, ◌-◌, List, [], ◌++◌, length, max, codes, decimal, Bool, nat_le, nat_lt, Option, Some, None, if◌then◌else◌}
use Rattle.std.specs.Option.{option_and_then}
use Rattle.run_pictures.specs.declared.frame.Frame.{Frame}
use Rattle.run_pictures.specs.declared.style.TheConstants.{UNKNOWN_STYLE}
use Rattle.run_pictures.specs.Frame.{width_between, x_of}
use Rattle.run_pictures.specs.Shown.{Shown}

-- the first place that is pale, where the run is not known from that place on: a place before the
-- first one that is shown is not drawn
abbrev pub pale_from : Frame → ℕ → ℕ
pale_from frame place = max place frame.first

-- one of so many places that are shown is pale then
abbrev pub is_pale : Frame → ℕ → ℕ → Bool
is_pale frame count place = nat_lt (pale_from frame place) (frame.first + count)

-- from which place on the run is not known, where that makes a place that is shown pale
abbrev pub unknown_in : Shown → Option ℕ
unknown_in shown =
    option_and_then
    (λ place. if is_pale shown.frame (length shown.run_looks.looks) place then Some place else None)
    shown.known

-- what is told on hover
unfoldable pub unknown_title : ℕ → List ℕ
unknown_title place = codes "<title>not known from place " ++ decimal place ++ codes " on</title>"

-- as wide as the places from the one to the other
unfoldable pub veil_size : Frame → ℕ → ℕ → ℕ → List ℕ
veil_size frame from last height =
    codes " width='" ++ decimal (width_between frame from last) ++ codes "' height='"
    ++ decimal height ++ codes "'/>"

-- so far from the left and from the top
unfoldable pub veil_corner : ℕ → ℕ → List ℕ
veil_corner x top =
    codes "<rect class='b f' x='" ++ decimal x ++ codes "' y='" ++ decimal top ++ codes "'"

-- the ground over the bars of the places from the one to the other, through which they are seen
unfoldable pub veil_text : Frame → ℕ → ℕ → ℕ → ℕ → List ℕ
veil_text frame from last top height =
    veil_corner (x_of frame from) top ++ veil_size frame from last height

-- a dashed line through all rows, where the place begins
unfoldable pub edge_text : Frame → ℕ → ℕ → ℕ → List ℕ
edge_text frame place top height =
    codes "<path class='y' d='M" ++ decimal (x_of frame place) ++ codes " " ++ decimal top
    ++ codes "v" ++ decimal height ++ codes "'/>"

-- the line, unless the place lies before the first one that is shown
abbrev pub edge_from : Frame → ℕ → ℕ → ℕ → List ℕ
edge_from frame place top height =
    if nat_le frame.first place then edge_text frame place top height else []

-- what is told on hover, and of so many places that are shown the ground over those from the place
-- on
unfoldable pub veil_told : Frame → ℕ → ℕ → ℕ → ℕ → List ℕ
veil_told frame count place top height =
    unknown_title place
    ++ veil_text frame (pale_from frame place) (frame.first + (count - 1)) top height

-- the same, and the line
unfoldable pub pale_parts : Frame → ℕ → ℕ → ℕ → ℕ → List ℕ
pale_parts frame count place top height =
    veil_told frame count place top height ++ edge_from frame place top height

-- of so many places that are shown those from the place on are pale, over so many pixels below the
-- top
unfoldable pub pale_text : Frame → ℕ → ℕ → ℕ → ℕ → List ℕ
pale_text frame count place top height =
    UNKNOWN_STYLE.now ++ codes "<g>" ++ pale_parts frame count place top height ++ codes "</g>\n"
