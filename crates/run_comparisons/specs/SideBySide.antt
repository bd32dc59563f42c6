-- Two runs that were made, step beside step.
use Rattle.std.specs.Prelude.{◌≡◌, ◌<◌, ℕ, suc, List, [], ◌∷◌, ◌++◌, length, take, drop, Bool, true, false, nat_lt, Option, Some, None, position, slice_get}
use Rattle.std.specs.Prelude.{if◌then◌else◌}
use Rattle.bench_types.specs.declared.edit.Edit.{Edit}
use Rattle.bench_types.specs.declared.step.Step.{Step}
use Rattle.bench_types.specs.Session.{Session}
use Rattle.run_comparisons.specs.declared.place_pair.PlacePair.{PlacePair}
use Rattle.run_comparisons.specs.declared.rows.Row.{Row}
use Rattle.run_comparisons.specs.declared.rows.Row.TheVariants.{Both, Removed, Inserted}
use Rattle.run_comparisons.specs.Alike.{are_alike}
use Rattle.run_comparisons.specs.Shared.{kept_events, paired_events, shared_events}

-- within so many steps a step is looked for that is like another
abbrev pub look_ahead : ℕ
look_ahead = 64

-- how far ahead of the place one stands that is like the step
abbrev pub found_after : Step → List Step → ℕ → Option ℕ
found_after step steps place = position (are_alike step) (take look_ahead (drop (suc place) steps))

-- there is the one, and nearer than the other
abbrev pub is_nearer : Option ℕ → Option ℕ → Bool
is_nearer None other = false
is_nearer (Some near) None = true
is_nearer (Some near) (Some far) = nat_lt near far

-- The row of two steps. If they are not alike, the one of the run after the edits comes first where
-- the other is found ahead in that run, and it is not found as near in the run before them.
abbrev pub row_of_two : List Step → List Step → PlacePair → Step → Step → Row
row_of_two before after at old new =
    if are_alike old new then Both at.before at.after
    else (if is_nearer (found_after old after at.after) (found_after new before at.before)
    then Inserted at.after else Removed at.before)

-- the row of the steps that there are
abbrev pub row_of_those :
    List Step → List Step → PlacePair → Option Step → Option Step → Option Row
row_of_those before after at None None = None
row_of_those before after at (Some old) None = Some (Removed at.before)
row_of_those before after at None (Some new) = Some (Inserted at.after)
row_of_those before after at (Some old) (Some new) =
    Some (row_of_two before after at old new)

-- the next row, where the steps at these places and those behind them have none
abbrev pub next_row : List Step → List Step → PlacePair → Option Row
next_row before after at =
    row_of_those before after at (slice_get before at.before) (slice_get after at.after)

-- the places behind a row
abbrev pub past : Row → PlacePair → PlacePair
past (Both old new) at = record { before = suc old; after = suc new }
past (Removed old) at = record at { before = suc old }
past (Inserted new) at = record at { after = suc new }

-- The rows from these places on: each is the next one, and there is none after the last.
abbrev pub AreAligned : List Step → List Step → PlacePair → List Row → Type 0
AreAligned before after at [] = next_row before after at ≡ None
AreAligned before after at (row ∷ rows) =
    (next_row before after at ≡ Some row) × AreAligned before after (past row at) rows

-- a step stands at either place
abbrev pub IsWithin : List Step → List Step → PlacePair → Type 0
IsWithin before after at = (at.before < length before) × (at.after < length after)

-- the row of a shared event
abbrev pub row_of : PlacePair → Row
row_of event = Both event.before event.after

-- The rows from these places on, with the shared events that are still to come. Each of those
-- stands in a row, and the steps before it, between it and the one before, in the rows before.
abbrev pub AreSideBySide :
    List Step → List Step → List PlacePair → PlacePair → List Row → Type 0
AreSideBySide before after [] at rows = AreAligned before after at rows
AreSideBySide before after (event ∷ events) at rows =
    (window : List Row) × (rest : List Row) × (rows ≡ window ++ row_of event ∷ rest)
    × AreAligned (take event.before before) (take event.after after) at window
    × AreSideBySide before after events (past (row_of event) at) rest

-- the first places
abbrev pub first_places : PlacePair
first_places = record { before = 0; after = 0 }

-- the rows of the settled runs of a session and of the session after edits of it
abbrev pub AreSettledRows : Session → List Edit → List Step → List Step → List Row → Type 0
AreSettledRows session edits before after rows =
    AreSideBySide before after (shared_events session edits before after) first_places rows

-- the rows of two simulated runs
abbrev pub AreSimulatedRows : List Step → List Step → List Row → Type 0
AreSimulatedRows before after rows =
    AreSideBySide before after (paired_events before after) first_places rows

-- the rows of the runs that keep work of a session and of the session after edits of it
abbrev pub AreKeptRows : Session → List Edit → List Step → List Step → List Row → Type 0
AreKeptRows session edits before after rows =
    AreSideBySide before after (kept_events session edits before after) first_places rows
