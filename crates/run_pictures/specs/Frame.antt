-- Where the places stand in a picture. Lengths are in pixels.
use Rattle.std.specs.Prelude.{ℕ, suc, ◌+◌, ◌-◌, ◌*◌, List, nat_le, slice_get, unwrap_or, if◌then◌else◌}
use Rattle.run_pictures.specs.declared.frame.Scale.{Scale}
use Rattle.run_pictures.specs.declared.frame.Scale.TheVariants.{Broad, Widest, Wide, Middle, Narrow, Narrowest}
use Rattle.run_pictures.specs.declared.frame.Frame.{Frame}

-- the scale at which so many columns are drawn
abbrev pub scale_for : ℕ → Scale
scale_for columns =
    if nat_le columns 8 then Broad
    else (if nat_le columns 20 then Widest
    else (if nat_le columns 60 then Wide
    else (if nat_le columns 150 then Middle
    else (if nat_le columns 600 then Narrow else Narrowest))))

-- the width of so many columns
abbrev pub pixels : Scale → ℕ → ℕ
pixels Broad columns = 80 * columns
pixels Widest columns = 40 * columns
pixels Wide columns = 24 * columns
pixels Middle columns = 12 * columns
pixels Narrow columns = 6 * columns
pixels Narrowest columns = 2 * columns

-- from one place that is numbered to the next
abbrev pub every : Scale → ℕ
every Broad = 1
every Widest = 1
every Wide = 2
every Middle = 5
every Narrow = 10
every Narrowest = 50

-- the column at which the place begins: its own number, where none is given
abbrev pub column_of : List ℕ → ℕ → ℕ
column_of columns place = unwrap_or (slice_get columns place) place

-- where the place begins; names stand at the left of the first column
unfoldable pub x_of : Frame → ℕ → ℕ
x_of frame place = 150 + pixels frame.scale (column_of frame.columns place - frame.left)

-- from where the one place begins to where the other ends
unfoldable pub width_between : Frame → ℕ → ℕ → ℕ
width_between frame first last =
    pixels frame.scale (column_of frame.columns (suc last) - column_of frame.columns first)
