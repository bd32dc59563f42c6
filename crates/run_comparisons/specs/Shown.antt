-- The rows of two runs at some places alone.
use Rattle.std.specs.Prelude.{ℕ, List, [], ◌++◌, ◌==◌, length, filter, flat_map, codes, decimal, Bool, true, not, Option, Some, None, if◌then◌else◌}
use Rattle.std.specs.List.{list_any}
use Rattle.bench_types.specs.Session.{Session}
use Rattle.kept_runs.specs.declared.known_limit.KnownLimit.{KnownLimit}
use Rattle.run_views.specs.declared.places.Places.{Places}
use Rattle.run_views.specs.Trace.{shows}
use Rattle.run_comparisons.specs.declared.rows.Row.{Row}
use Rattle.run_comparisons.specs.Known.{known_before, known_behind}
use Rattle.run_comparisons.specs.Rows.{place_after, place_before}
use Rattle.run_comparisons.specs.RowWords.{row_line}

-- the places of a row, before the edits and after them
abbrev pub places_of : Row → List ℕ
places_of row = place_before row ++ place_after row

-- whether one of them is among the places
abbrev pub is_shown : Places → Row → Bool
is_shown places row = list_any (shows places) (places_of row)

-- the same where there are places; without them each row is shown
abbrev pub is_row_shown : Option Places → Row → Bool
is_row_shown None row = true
is_row_shown (Some places) row = is_shown places row

-- the rows that are shown, and those that are left out
abbrev pub shown_rows : Places → List Row → List Row
shown_rows places rows = filter (is_shown places) rows

abbrev pub rows_left_out : Places → List Row → List Row
rows_left_out places rows = filter (λ row. not (is_shown places row)) rows

-- a line that tells how many are left out; none where there are none
abbrev pub left_out_line : ℕ → List ℕ
left_out_line count =
    if count == 0 then []
    else codes "rows at other places, left out: " ++ decimal count ++ codes "\n"

abbrev pub left_out_text : Option Places → List Row → List ℕ
left_out_text None rows = []
left_out_text (Some places) rows = left_out_line (length (rows_left_out places rows))

-- the line of a row that is shown; nothing of another one
abbrev pub line_shown : Option Places → Session → Session → Row → List ℕ
line_shown shown before after row =
    if is_row_shown shown row then row_line before after row else []

-- The same, and before it up to where the run after the edits is known, which is told also where
-- the row is not shown.
abbrev pub row_told : Option KnownLimit → Option Places → Session → Session → Row → List ℕ
row_told known shown before after row =
    known_before after.header known row ++ line_shown shown before after row

-- row by row, and how many rows are left out
abbrev pub lines_text :
    Option KnownLimit → Option Places → Session → Session → List Row → List ℕ
lines_text known shown before after rows =
    flat_map (row_told known shown before after) rows ++ known_behind after.header known rows
    ++ left_out_text shown rows
