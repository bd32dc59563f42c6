-- What is told of the rows at some places alone has to do with what is told of all rows.
use Rattle.std.specs.Prelude.{◌≡◌, ◌↔◌, ◌≤◌, ◌+◌, ℕ, List, ◌++◌, length, flat_map, All, Any, Contains, true, Option, Some, None}
use Rattle.bench_types.specs.declared.header.Header.{Header}
use Rattle.bench_types.specs.Session.{Session}
use Rattle.kept_runs.specs.declared.known_limit.KnownLimit.{KnownLimit}
use Rattle.session_runs.specs.Run.{RunView}
use Rattle.run_views.specs.declared.places.Places.{Places}
use Rattle.run_comparisons.specs.declared.rows.Row.{Row}
use Rattle.run_comparisons.specs.Comparison.{compare_text}
use Rattle.run_comparisons.specs.Known.{known_before, known_behind, known_line}
use Rattle.run_comparisons.specs.Pairs.{EachStandsOnce, PairView}
use Rattle.run_comparisons.specs.RowWords.{row_line}
use Rattle.run_comparisons.specs.Shown.{is_shown, left_out_line, lines_text, places_of, rows_left_out, shown_rows}

-- the place is from the first to the last of the places
abbrev pub IsAmong : Places → ℕ → Type 0
IsAmong places place = (places.from ≤ place) × (place ≤ places.to)

-- A row is shown exactly where it is one of the rows and a place of it is among the places.
abbrev pub ShownHavePlaces : Type 0
ShownHavePlaces =
    (places : Places) (rows : List Row) (row : Row)
    → Contains (shown_rows places rows) row
    ↔ (Contains rows row × Any (IsAmong places) (places_of row))

-- those that are shown and those that are left out are all rows
abbrev pub ShownAndLeftOutAreAll : Type 0
ShownAndLeftOutAreAll =
    (places : Places) (rows : List Row)
    → length (shown_rows places rows) + length (rows_left_out places rows) ≡ length rows

-- each of the rows is shown
abbrev pub AreAllShown : Places → List Row → Type 0
AreAllShown places rows = All (λ row. is_shown places row ≡ true) rows

-- where each row is shown, the lines are those of all rows
abbrev pub AllShownAreWhole : Type 0
AllShownAreWhole =
    (known : Option KnownLimit) (places : Places) (before after : Session) (rows : List Row)
    → AreAllShown places rows
    → lines_text known (Some places) before after rows ≡ lines_text known None before after rows

-- and the comparison is that without places
abbrev pub AllShownIsCompared : Type 0
AllShownIsCompared =
    (places : Places) (pair : PairView) → AreAllShown places pair.rows
    → compare_text (Some places) pair ≡ compare_text None pair

-- the lines of the rows alone, and how many are left out
abbrev pub lines_alone : Option Places → Session → Session → List Row → List ℕ
lines_alone None before after rows = flat_map (row_line before after) rows
lines_alone (Some places) before after rows =
    flat_map (row_line before after) (shown_rows places rows)
    ++ left_out_line (length (rows_left_out places rows))

-- they are all that is told where all of the run is known
abbrev pub AllKnownIsNotTold : Type 0
AllKnownIsNotTold =
    (shown : Option Places) (before after : Session) (rows : List Row)
    → lines_text None shown before after rows ≡ lines_alone shown before after rows

-- Where each step stands in one row, it is told once up to where the run is known, before a row or
-- behind the last.
abbrev pub KnownIsToldOnce : Type 0
KnownIsToldOnce =
    (header : Header) (limit : KnownLimit) (before after : RunView) (rows : List Row)
    → EachStandsOnce before after rows
    → flat_map (known_before header (Some limit)) rows ++ known_behind header (Some limit) rows
    ≡ known_line header limit
