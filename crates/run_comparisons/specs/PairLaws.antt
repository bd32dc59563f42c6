-- What the rows of two runs have to do with their steps.
use Rattle.std.specs.Prelude.{◌≡◌, ◌⊎◌, ◌+◌, ℕ, suc, List, [], ◌++◌, Bool, Contains, length, map, true, Option, Some, None, slice_get}
use Rattle.bench_types.specs.declared.edit.Edit.{Edit}
use Rattle.bench_types.specs.declared.step.Step.{Step}
use Rattle.bench_types.specs.Session.{Session}
use Rattle.bench_model.specs.Edits.{after_edits}
use Rattle.kept_runs.specs.declared.known_limit.KnownLimit.{KnownLimit}
use Rattle.kept_runs.specs.KeptLaws.{comings}
use Rattle.settled_runs.specs.SettleLaws.{comes_from_outside}
use Rattle.session_runs.specs.Run.{RunView}
use Rattle.run_comparisons.specs.declared.rows.Row.{Row}
use Rattle.run_comparisons.specs.declared.rows.Row.TheVariants.{Both, Removed, Inserted}
use Rattle.run_comparisons.specs.Alike.{MayShareRow}
use Rattle.run_comparisons.specs.Pairs.{as_written, edited_pair, with_itself, EachStandsOnce, IsKeptPair, IsSettledPair, IsSimulatedPair, PairView}
use Rattle.run_comparisons.specs.Rows.{rows_of}
use Rattle.run_comparisons.specs.Shared.{events_before, is_moment, moments, AreMomentsOf}

-- ---- of which pairs

-- the settled runs of some session and of the session after some edits
abbrev pub IsOfSettled : PairView → Type 0
IsOfSettled pair = (session : Session) × (edits : List Edit) × IsSettledPair session edits pair

-- the runs that keep work of some session and of the session after some edits
abbrev pub IsOfKept : PairView → Type 0
IsOfKept pair =
    (session : Session) × (edits : List Edit)
    × IsKeptPair session edits pair.refused pair.known pair.before pair.after pair

-- runs that were made: settled, simulated, or such that keep work
abbrev pub IsMadePair : PairView → Type 0
IsMadePair pair =
    IsOfSettled pair ⊎ (IsSimulatedPair pair.before pair.after pair ⊎ IsOfKept pair)

-- the same, or the runs of some session and some edits as their steps stand
abbrev pub IsPair : PairView → Type 0
IsPair pair =
    ((session : Session) × (edits : List Edit) × (pair ≡ edited_pair session edits))
    ⊎ IsMadePair pair

-- ---- each step

-- each step of either run stands in one row, in its order
abbrev pub EachStands : Type 0
EachStands = (pair : PairView) → IsPair pair → EachStandsOnce pair.before pair.after pair.rows

-- ---- shared events

-- the event stands at the place of the run, and as many come before it as at that of the session
pub record StandsAs (is_event : Step → Bool) (session : List Step) (old : ℕ) (event : Step)
    (run : List Step) (place : ℕ) : Type 0 where
  pub stands : slice_get run place ≡ Some event
  pub as_many : events_before is_event run place ≡ events_before is_event session old

-- A tick or an interrupt that both sessions have, the same one before the edits and after them,
-- stands in a row of both settled runs.
abbrev pub SharedStandTogether : Type 0
SharedStandTogether =
    (session : Session) (edits : List Edit) (pair : PairView) (old new : ℕ) (event : Step)
    → IsSettledPair session edits pair → Contains (rows_of session edits) (Both old new)
    → slice_get session.steps old ≡ Some event
    → slice_get (after_edits session edits).steps new ≡ Some event
    → comes_from_outside event ≡ true →
    (place : ℕ) × (later : ℕ) × Contains pair.rows (Both place later)
    × StandsAs comes_from_outside session.steps old event pair.before.session.steps place
    × StandsAs comes_from_outside (after_edits session edits).steps new event
    pair.after.session.steps later

-- A tick or an interrupt that both sessions have stands in a row of both runs that keep work.
abbrev pub KeptStandTogether : Type 0
KeptStandTogether =
    (session : Session) (edits : List Edit) (refused : List ℕ) (known : Option KnownLimit)
    (before after : RunView) (pair : PairView) (old new : ℕ) (event : Step)
    → IsKeptPair session edits refused known before after pair
    → Contains (rows_of session edits) (Both old new) → slice_get session.steps old ≡ Some event
    → slice_get (after_edits session edits).steps new ≡ Some event → is_moment event ≡ true →
    (place : ℕ) × (later : ℕ) × Contains pair.rows (Both place later)
    × StandsAs is_moment session.steps old event before.session.steps place
    × StandsAs is_moment (after_edits session edits).steps new event after.session.steps later

-- So do those behind the ticks and interrupts of the sessions, where one event comes as the first
-- in both runs, as the second in both, and so on.
abbrev pub FurtherStandTogether : Type 0
FurtherStandTogether =
    (session : Session) (edits : List Edit) (refused : List ℕ) (known : Option KnownLimit)
    (before after : RunView) (pair : PairView) (number place later : ℕ) (event : Step)
    → IsKeptPair session edits refused known before after pair
    → slice_get (moments before.session.steps) (length (moments session.steps) + number)
    ≡ Some place
    → slice_get (moments after.session.steps)
    (length (moments (after_edits session edits).steps) + number) ≡ Some later
    → slice_get before.session.steps place ≡ Some event
    → slice_get after.session.steps later ≡ Some event → Contains pair.rows (Both place later)

-- the ticks and interrupts of a session are those of a run where they come at the same times, also
-- where further ones are put behind the end of the session
abbrev pub ComingsAreMoments : Type 0
ComingsAreMoments =
    (units : ℕ) (session further run : List Step)
    → comings units 0 (session ++ further) ≡ comings units 0 run → AreMomentsOf session run

-- the ticks and interrupts of both runs are the same, in the same order
abbrev pub HaveSameMoments : List Step → List Step → Type 0
HaveSameMoments before after =
    map (slice_get before) (moments before) ≡ map (slice_get after) (moments after)

-- Then the one that comes as the first stands in a row of both simulated runs, and so does the
-- second, and so on.
abbrev pub MomentsStandTogether : Type 0
MomentsStandTogether =
    (before after : RunView) (pair : PairView) (number place : ℕ)
    → IsSimulatedPair before after pair
    → HaveSameMoments before.session.steps after.session.steps
    → slice_get (moments before.session.steps) number ≡ Some place →
    (later : ℕ) × (slice_get (moments after.session.steps) number ≡ Some later)
    × Contains pair.rows (Both place later)

-- ---- alike steps

-- both steps are there, and they may share a row
pub record AreAlikeAt (before after : List Step) (old new : ℕ) : Type 0 where
  pub step : Step
  pub other : Step
  pub stands : slice_get before old ≡ Some step
  pub beside : slice_get after new ≡ Some other
  pub alike : MayShareRow step other

-- In a row of both runs stands one step of both, or one call of one task.
abbrev pub RowsAreAlike : Type 0
RowsAreAlike =
    (pair : PairView) (old new : ℕ) → IsMadePair pair → Contains pair.rows (Both old new)
    → AreAlikeAt pair.before.session.steps pair.after.session.steps old new

-- the second row stands directly behind the first
abbrev pub StandInTurn : List Row → ℕ → Row → Row → Type 0
StandInTurn rows place first second =
    (slice_get rows place ≡ Some first) × (slice_get rows (suc place) ≡ Some second)

-- the steps have rows of their own, one directly behind the other, in either order
abbrev pub AreNeighbours : List Row → ℕ → ℕ → Type 0
AreNeighbours rows old new =
    (place : ℕ)
    × (StandInTurn rows place (Removed old) (Inserted new)
    ⊎ StandInTurn rows place (Inserted new) (Removed old))

-- Steps that may share a row have no rows of their own one directly behind the other.
abbrev pub AlikeAreNotApart : Type 0
AlikeAreNotApart =
    (pair : PairView) (old new : ℕ) → IsMadePair pair → AreNeighbours pair.rows old new
    → ¬ AreAlikeAt pair.before.session.steps pair.after.session.steps old new

-- ---- there is one pair

-- of a session and edits of it there is one pair of settled runs
abbrev pub SettledPairIsOne : Type 0
SettledPairIsOne =
    (session : Session) (edits : List Edit) (pair other : PairView)
    → IsSettledPair session edits pair → IsSettledPair session edits other → pair ≡ other

-- and one of two simulated runs
abbrev pub SimulatedPairIsOne : Type 0
SimulatedPairIsOne =
    (before after : RunView) (pair other : PairView) → IsSimulatedPair before after pair
    → IsSimulatedPair before after other → pair ≡ other

-- and one of two runs that keep work
abbrev pub KeptPairIsOne : Type 0
KeptPairIsOne =
    (session : Session) (edits : List Edit) (refused : List ℕ) (known : Option KnownLimit)
    (before after : RunView) (pair other : PairView)
    → IsKeptPair session edits refused known before after pair
    → IsKeptPair session edits refused known before after other → pair ≡ other

-- without edits a run stands beside itself, as its steps stand and settled
abbrev pub AloneIsWithItself : Type 0
AloneIsWithItself =
    ((session : Session) → edited_pair session [] ≡ with_itself (as_written session))
    × ((session : Session) (pair : PairView) → IsSettledPair session [] pair
    → pair ≡ with_itself pair.before)

-- so does a run that keeps work
abbrev pub KeptAloneIsWithItself : Type 0
KeptAloneIsWithItself =
    (session : Session) (run : RunView) (pair : PairView)
    → IsKeptPair session [] [] None run run pair → pair ≡ with_itself run
