-- The laws of kernels that are equal but for their tick counts. Each is a clause of a public
-- function.
use Rattle.std.specs.Prelude.{◌≡◌, ◌↔◌, ◌⊎◌, ℕ, ◌+◌, ◌<◌, ◌%◌, ◌^◌, List, All, true, false}
use Rattle.bench_types.specs.declared.step.Step.{Step}
use Rattle.bench_types.specs.Step.{IsCheckedStep}
use Rattle.bench_model.specs.Equal.{Same, StandsFor}
use Rattle.bench_model.specs.Lists.{View, view_of}
use Rattle.bench_model.specs.Session.{step_of}
use Rattle.bench_model.specs.Shifted.{SameShifted, is_same_shifted, untimed, shifted, shift_between, delays_until, some_delays_until, is_met}
use Rattle.bench_model.specs.Sound.{IsConsistent, IsSound}
use Rattle.bench_model.specs.Table.{Table, tick_count}
use Rattle.shift_laws.specs.Later.{later}
use Rattle.shift_laws.specs.Shifts.{IsShifted, RunShifted, SamePairwiseShifted}

-- ---- steps

-- tables that are equal but for their tick counts give equal replies to every step but a delay
-- until a tick count, and are so equal after it
abbrev pub SameShiftedStaysSo : Type 0
SameShiftedStaysSo =
    (a b : Table) (step : Step) → IsSound a → IsSound b → SameShifted a b
    → IsCheckedStep a.settings step → delays_until step ≡ false →
    ((step_of step a).0 ≡ (step_of step b).0) × SameShifted (step_of step a).1 (step_of step b).1

-- and as many ticks later as they were
abbrev pub ShiftedStaysShifted : Type 0
ShiftedStaysShifted =
    (by : ℕ) (a b : Table) (step : Step) → IsSound a → IsSound b → IsShifted by a b
    → IsCheckedStep a.settings step → delays_until step ≡ false →
    ((step_of step a).0 ≡ (step_of step b).0) × IsShifted by (step_of step a).1 (step_of step b).1

-- so checked steps, none of which is such a delay, run alike but for the tick counts
abbrev pub ShiftedRunAlike : Type 0
ShiftedRunAlike =
    (by : ℕ) (a b : Table) (steps : List Step) → IsSound a → IsSound b → IsShifted by a b
    → All (IsCheckedStep a.settings) steps → some_delays_until steps ≡ false →
    RunShifted by a b steps

-- and so do steps from two kernels that the test of a meeting finds met, equal ones too
abbrev pub MetRunShifted : Type 0
MetRunShifted =
    (a b : Table) (steps : List Step) → IsSound a → IsSound b
    → All (IsCheckedStep a.settings) steps → is_met a b steps ≡ true →
    RunShifted (shift_between (view_of a).orders.tick (view_of b).orders.tick) a b steps

-- ---- equality but for the tick counts

-- two tables are equal but for their tick counts just where one looks as the other does as many
-- ticks later as lie between the two
abbrev pub SameShiftedIsShifted : Type 0
SameShiftedIsShifted =
    (a b : Table)
    → (SameShifted a b
    ↔ IsShifted (shift_between (view_of a).orders.tick (view_of b).orders.tick) a b)

-- tables that are shifted by any number of ticks are equal but for their tick counts
abbrev pub ShiftedIsSameShifted : Type 0
ShiftedIsSameShifted = (by : ℕ) (a b : Table) → IsShifted by a b → SameShifted a b

-- the test of it tells just whether two tables are equal but for their tick counts
abbrev pub SameShiftedIsTested : Type 0
SameShiftedIsTested = (a b : Table) → ((is_same_shifted a b ≡ true) ↔ SameShifted a b)

-- tables are equal just where they are so but for their tick counts, and these are equal too
abbrev pub SameIsSameTick : Type 0
SameIsSameTick =
    (a b : Table)
    → (Same a b ↔ (SameShifted a b × (tick_count a.orders ≡ tick_count b.orders)))

-- tables are equal just where they are shifted by no ticks
abbrev pub SameIsUnshifted : Type 0
SameIsUnshifted = (a b : Table) → (Same a b ↔ IsShifted 0 a b)

-- the test of a meeting tells just whether the tables are equal, or are so but for their tick
-- counts and no step reads these
abbrev pub MetIsTested : Type 0
MetIsTested =
    (old new : Table) (steps : List Step) →
    (is_met old new steps ≡ true)
    ↔ (Same old new ⊎ (SameShifted old new × (some_delays_until steps ≡ false)))

-- consistent tables are equal but for their tick counts just where they are alike pair by pair
-- but for these
abbrev pub SameShiftedIsAlike : Type 0
SameShiftedIsAlike =
    (a b : Table) → IsConsistent a → IsConsistent b → (SameShifted a b ↔ SamePairwiseShifted a b)

-- ---- shifts

-- a shift after another is one by both numbers of ticks
abbrev pub ShiftsAddUp : Type 0
ShiftsAddUp =
    (x y : ℕ) (view : View) → shifted x (shifted y view) ≡ shifted ((x + y) % 2 ^ 32) view

-- a shift by no ticks changes nothing
abbrev pub ShiftByNoTicks : Type 0
ShiftByNoTicks = (view : View) → view.orders.tick < 2 ^ 32 → shifted 0 view ≡ view

-- a shift changes nothing but the tick count
abbrev pub ShiftIsUntimed : Type 0
ShiftIsUntimed = (by : ℕ) (view : View) → untimed (shifted by view) ≡ untimed view

-- ---- tables that are moved in time

-- a table that is moved in time looks as the table does so many ticks later
abbrev pub LaterIsShifted : Type 0
LaterIsShifted = (by : ℕ) (table : Table) → IsShifted by table (later by table)

-- and is as sound
abbrev pub LaterIsSound : Type 0
LaterIsSound = (by : ℕ) (table : Table) → IsSound table → IsSound (later by table)

-- so a kernel that is shifted stands for the table that is moved in time
abbrev pub ShiftedStandsForLater : Type 0
ShiftedStandsForLater =
    (by : ℕ) (view : View) (table : Table)
    → StandsFor view table → StandsFor (shifted by view) (later by table)

-- and for each sound table that is shifted by as many ticks
abbrev pub ShiftedStandsForShifted : Type 0
ShiftedStandsForShifted =
    (by : ℕ) (view : View) (a b : Table)
    → StandsFor view a → IsShifted by a b → IsSound b → StandsFor (shifted by view) b
