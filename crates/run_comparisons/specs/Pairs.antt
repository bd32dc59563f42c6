-- Two runs beside each other: the run before edits, and that after them.
use Rattle.std.specs.Prelude.{◌≡◌, ℕ, List, [], ◌∷◌, ◌++◌, codes, flat_map, length, map, min, true, Option, None, option_map}
use Rattle.list_orders.specs.Search.{numbers}
use Rattle.bench_types.specs.declared.edit.Edit.{Edit}
use Rattle.bench_types.specs.declared.header.Header.{Header}
use Rattle.bench_types.specs.Session.{Session}
use Rattle.bench_model.specs.Edits.{after_edits}
use Rattle.kept_runs.specs.declared.known_limit.KnownLimit.{KnownLimit}
use Rattle.session_edits.specs.Refused.{refused_places}
use Rattle.settled_runs.specs.declared.waiting_call.WaitingCall.{WaitingCall}
use Rattle.session_runs.specs.Run.{IsRunOf, RunView}
use Rattle.settling.specs.Notes.{left_text}
use Rattle.run_comparisons.specs.declared.columns.Side.{Side}
use Rattle.run_comparisons.specs.declared.columns.Side.TheVariants.{Before, After}
use Rattle.run_comparisons.specs.declared.rows.Row.{Row}
use Rattle.run_comparisons.specs.declared.rows.Row.TheVariants.{Both}
use Rattle.run_comparisons.specs.Rows.{place_after, place_before, rows_of}
use Rattle.run_comparisons.specs.Shared.{AreMomentsOf}
use Rattle.run_comparisons.specs.SideBySide.{AreKeptRows, AreSettledRows, AreSimulatedRows}

pub record PairView : Type 0 where
  pub before : RunView
  pub after : RunView
  -- the steps of both runs, beside each other
  pub rows : List Row
  -- the places of the edits that are refused
  pub refused : List ℕ
  -- up to where the run after the edits is known; all of it where there is none
  pub known : Option KnownLimit

-- the one run of the pair
abbrev pub run_of : Side → PairView → RunView
run_of Before pair = pair.before
run_of After pair = pair.after

-- the place up to which the run after the edits is known, at most the end of the run; none where
-- all of it is known
abbrev pub known_place : PairView → Option ℕ
known_place pair =
    option_map (λ limit. min limit.place (length pair.after.session.steps)) pair.known

-- each step of either run stands in one row, in its order
pub record EachStandsOnce (before after : RunView) (rows : List Row) : Type 0 where
  pub each_before : flat_map place_before rows ≡ numbers (length before.session.steps)
  pub each_after : flat_map place_after rows ≡ numbers (length after.session.steps)

-- ---- which pairs there are

-- the run of a session as its steps stand
abbrev pub as_written : Session → RunView
as_written session = record { session = session; left = [] }

-- the runs of a session and of the session after edits of it, as their steps stand
abbrev pub edited_pair : Session → List Edit → PairView
edited_pair session edits = record {
  before = as_written session;
  after = as_written (after_edits session edits);
  rows = rows_of session edits;
  refused = refused_places session edits;
  known = None;
}

-- the settled runs of both
pub record IsSettledPair (session : Session) (edits : List Edit) (pair : PairView) : Type 0 where
  pub before : IsRunOf true session pair.before
  pub after : IsRunOf true (after_edits session edits) pair.after
  pub rows : AreSettledRows session edits pair.before.session.steps pair.after.session.steps
      pair.rows
  pub refused : pair.refused ≡ refused_places session edits
  pub known : pair.known ≡ None

-- these two runs of workloads; no edit of a workload is refused
pub record IsSimulatedPair (before after : RunView) (pair : PairView) : Type 0 where
  pub is_before : pair.before ≡ before
  pub is_after : pair.after ≡ after
  pub rows : AreSimulatedRows before.session.steps after.session.steps pair.rows
  pub refused : pair.refused ≡ []
  pub known : pair.known ≡ None

-- these two runs that keep work, of a session and of the session after edits of it; edits are
-- refused at these places, and so far the run after the edits is known
pub record IsKeptPair (session : Session) (edits : List Edit) (refused : List ℕ)
    (known : Option KnownLimit) (before after : RunView) (pair : PairView) : Type 0 where
  pub is_before : pair.before ≡ before
  pub is_after : pair.after ≡ after
  pub of_session : AreMomentsOf session.steps before.session.steps
  pub of_edited : AreMomentsOf (after_edits session edits).steps after.session.steps
  pub rows : AreKeptRows session edits before.session.steps after.session.steps pair.rows
  pub is_refused : pair.refused ≡ refused
  pub is_known : pair.known ≡ known

-- a run beside itself
abbrev pub with_itself : RunView → PairView
with_itself run = record {
  before = run;
  after = run;
  rows = map (λ place. Both place place) (numbers (length run.session.steps));
  refused = [];
  known = None;
}

-- ---- the calls that were not made

-- those of one run, in a line; none where all were made
abbrev pub left_line : List ℕ → Header → List WaitingCall → List ℕ
left_line run header [] = []
left_line run header (call ∷ left) =
    codes "not made " ++ run ++ codes ": " ++ left_text header (call ∷ left) ++ codes "\n"

-- those of the run before the edits, and those of the run after them
unfoldable pub left_lines : RunView → RunView → List ℕ
left_lines before after =
    left_line (codes "before") before.session.header before.left
    ++ left_line (codes "after") after.session.header after.left
