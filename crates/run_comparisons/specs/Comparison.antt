-- The run before edits beside the run after them.
use Rattle.std.specs.Prelude.{◌≡◌, ◌↔◌, ℕ, List, [], ◌∷◌, ◌++◌, All, filter, flat_map, codes, decimal, false, Option, Some, None}
use Rattle.bench_types.specs.Session.{Session}
use Rattle.bench_model.specs.Tally.{tallies}
use Rattle.kept_runs.specs.declared.known_limit.KnownLimit.{KnownLimit}
use Rattle.run_views.specs.declared.places.Places.{Places}
use Rattle.run_comparisons.specs.declared.rows.Row.{Row}
use Rattle.run_comparisons.specs.declared.rows.Row.TheVariants.{Both, Removed, Inserted}
use Rattle.run_comparisons.specs.Gains.{gains_text}
use Rattle.run_comparisons.specs.Pairs.{left_lines, PairView}
use Rattle.run_comparisons.specs.RowWords.{differs, place_text}
use Rattle.run_comparisons.specs.Shown.{lines_text}

-- the places of a row before and after the edits
abbrev pub places_text : Row → List ℕ
places_text (Both old new) = place_text (Some old) ++ place_text (Some new)
places_text (Removed old) = place_text (Some old) ++ place_text None
places_text (Inserted new) = place_text None ++ place_text (Some new)

unfoldable pub first_text : Row → List ℕ
first_text row = codes "the runs differ first at" ++ places_text row

unfoldable pub last_text : Row → List ℕ
last_text row = codes " and last at" ++ places_text row ++ codes "\n"

unfoldable pub ends_text : Row → Row → List ℕ
ends_text first last = first_text first ++ last_text last

abbrev pub last_of : Row → List Row → Row
last_of row [] = row
last_of row (next ∷ rows) = last_of next rows

-- one edit more, by its place
abbrev pub further_text : ℕ → List ℕ
further_text place = codes ", edit " ++ decimal place

-- edits that are refused and so not made, by their places
unfoldable pub not_made_text : ℕ → List ℕ → List ℕ
not_made_text place places =
    codes "no step differs; refused and not made: edit " ++ decimal place
    ++ flat_map further_text places

-- the same as a line
abbrev pub not_made_line : ℕ → List ℕ → List ℕ
not_made_line place places = not_made_text place places ++ codes "\n"

-- No step differs, which is no word of what the tasks gained and lost. Behind it stand the places
-- of the edits that are refused, where there are some.
abbrev pub no_difference_text : List ℕ → List ℕ
no_difference_text [] = codes "no step differs\n"
no_difference_text (place ∷ places) = not_made_line place places

-- The first and the last of the rows in which the runs differ. Where there are none, the edits that
-- are refused are told.
abbrev pub differences_text : List ℕ → List Row → List ℕ
differences_text refused [] = no_difference_text refused
differences_text refused (row ∷ rows) = ends_text row (last_of row rows)

-- the text begins with these words
abbrev pub SaysNoDifference : List ℕ → Type 0
SaysNoDifference text = (rest : List ℕ) × (text ≡ codes "no step differs" ++ rest)

-- It is said that no step differs exactly where the runs differ in no row.
abbrev pub NoDifferenceIsSaid : Type 0
NoDifferenceIsSaid =
    (before after : Session) (refused : List ℕ) (rows : List Row)
    → SaysNoDifference (differences_text refused (filter (differs before after) rows))
    ↔ All (λ row. differs before after row ≡ false) rows

-- Rows of two runs, all of them or those at the places alone, with up to where the run after the
-- edits is known, and the places of the edits that are refused. Where the runs differ first and
-- last is told of all rows.
abbrev pub rows_text :
    Option KnownLimit → Option Places → Session → Session → List ℕ → List Row → List ℕ
rows_text known shown before after refused rows =
    lines_text known shown before after rows
    ++ differences_text refused (filter (differs before after) rows)

-- a line for each task that fared otherwise
abbrev pub fared_text : Session → Session → List ℕ
fared_text before after =
    gains_text before.header (tallies before.header before.steps)
    (tallies after.header after.steps)

-- Lines of rows, all of them or those at the places alone, with a line up to where the run after
-- the edits is known, then where the two runs differ first and last, then what each task gained and
-- lost, then the calls that were not made.
unfoldable pub compare_text : Option Places → PairView → List ℕ
compare_text shown pair =
    rows_text pair.known shown pair.before.session pair.after.session pair.refused pair.rows
    ++ fared_text pair.before.session pair.after.session ++ left_lines pair.before pair.after
