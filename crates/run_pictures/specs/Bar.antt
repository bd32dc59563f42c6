-- Bars over places, with words that are shown over them or on hover.
use Rattle.std.specs.Prelude.{ℕ, ◌+◌, ◌-◌, ◌/◌, ◌==◌, List, [], ◌++◌, flat_map, length, codes, decimal, Bool, nat_le, if◌then◌else◌}
use Rattle.run_pictures.specs.declared.bar.Bar.{Bar}
use Rattle.run_pictures.specs.declared.bar.Letters.{Letters}
use Rattle.run_pictures.specs.declared.bar.Letters.TheVariants.{Dark, Small}
use Rattle.run_pictures.specs.declared.frame.Frame.{Frame}
use Rattle.run_pictures.specs.Escape.{escaped}
use Rattle.run_pictures.specs.Frame.{width_between, x_of}
use Rattle.run_pictures.specs.Ink.{ink_text}

-- where a bar stands
unfoldable pub extent_text : ℕ → ℕ → ℕ → ℕ → List ℕ
extent_text x y width height =
    codes "' x='" ++ decimal x ++ codes "' y='" ++ decimal y ++ codes "' width='" ++ decimal width
    ++ codes "' height='" ++ decimal height ++ codes "'><title>"

-- a bar, with words to be shown on hover
unfoldable pub bar_text : Frame → Bar → List ℕ → List ℕ
bar_text frame bar words =
    codes "<rect class='" ++ ink_text bar.ink
    ++ extent_text (x_of frame bar.first) bar.y (width_between frame bar.first bar.last) bar.height
    ++ flat_map escaped words ++ codes "</title></rect>\n"

-- whether words of so many bytes fit into so many pixels
abbrev pub fits : Letters → ℕ → ℕ → Bool
fits Dark width bytes = nat_le bytes ((width - 4) / 8)
fits Small width bytes = nat_le bytes ((width - 4) / 6)

-- the name by which the style knows the letters
abbrev pub letters_text : Letters → List ℕ
letters_text Dark = codes "l"
letters_text Small = codes "s"

-- where words begin
abbrev pub origin_text : Letters → ℕ → ℕ → List ℕ
origin_text letters x y =
    codes "<text class='" ++ letters_text letters ++ codes "' x='" ++ decimal x
    ++ codes "' y='" ++ decimal y ++ codes "'>"

unfoldable pub word_text : Letters → ℕ → ℕ → List ℕ → List ℕ
word_text letters x y words =
    origin_text letters x y ++ flat_map escaped words ++ codes "</text>\n"

-- words in the bar over the places, where they fit there
unfoldable pub label_text : Frame → Letters → ℕ → ℕ → ℕ → List ℕ → List ℕ
label_text frame letters first last y words =
    if fits letters (width_between frame first last) (length words)
    then word_text letters (x_of frame first + 3) y words else []

-- the name of a row
unfoldable pub name_text : ℕ → List ℕ → List ℕ
name_text y words =
    codes "<text x='8' y='" ++ decimal y ++ codes "'>" ++ flat_map escaped words
    ++ codes "</text>\n"

-- of which places something is told
abbrev pub over_text : ℕ → ℕ → List ℕ
over_text first last =
    if first == last then codes "place " ++ decimal first ++ codes ": "
    else codes "places " ++ decimal first ++ codes " to " ++ decimal last ++ codes ": "
