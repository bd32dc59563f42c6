-- Which runs of a document are shown.
use Rattle.std.specs.Prelude.{◌≡◌, List, [], ◌∷◌, ◌&&◌, Bool, true, false}
use Rattle.kept_edits.specs.Edits.{plain_edits}
use Rattle.kept_runs.specs.declared.call_order.CallOrder.{CallOrder}
use Rattle.kept_sessions.specs.Runs.{IsKeptRunOf, IsKnownRunOf}
use Rattle.kept_sessions.specs.Sessions.{without_edits, KeptView}
use Rattle.run_comparisons.specs.Pairs.{edited_pair, IsKeptPair, IsSettledPair, IsSimulatedPair, PairView}
use Rattle.run_sources.specs.declared.source.Source.{Source}
use Rattle.run_sources.specs.Sources.{IsRunOfSource, IsSimulated}
use Rattle.shown_runs.specs.declared.ask.Ask.{Ask}
use Rattle.shown_runs.specs.declared.ask.Ask.TheVariants as ask
use Rattle.shown_runs.specs.declared.shown.Shown.{Shown}
use Rattle.shown_runs.specs.declared.shown.Shown.TheVariants.{One, Two}
use Rattle.edited_workloads.specs.declared.document.EditedWorkload.{EditedWorkload}
use Rattle.view_commands.specs.declared.edited.EditedSource.{EditedSource}
use Rattle.view_commands.specs.declared.edited.EditedSource.TheVariants as edited
use Rattle.view_commands.specs.EditedSources.{after_of, before_of, has_edits, last_workload, refused_of}

-- what is asked is told of the run before the edits and of that after them
abbrev pub asks_both : Ask → Bool
asks_both (ask.Trace selection) = false
asks_both ask.Session = false
asks_both ask.Compare = true
asks_both (ask.Timeline extent) = true
asks_both (ask.Report form) = true
asks_both (ask.Check limits) = false
asks_both (ask.Page extent) = true

-- both runs are shown, if there are edits
abbrev pub shows_both : Ask → EditedSource → Bool
shows_both asked source = asks_both asked && has_edits source

-- the sources whose runs are shown: both, or what the edits leave
abbrev pub sources_of : Bool → EditedSource → List Source
sources_of true source = before_of source ∷ after_of source ∷ []
sources_of false source = after_of source ∷ []

-- the runs of a workload before the edits and after them
pub record AreSimulated (made : EditedWorkload) (pair : PairView) : Type 0 where
  pub before : IsSimulated made.workload pair.before
  pub after : IsSimulated (last_workload made) pair.after
  pub beside : IsSimulatedPair pair.before pair.after pair

-- The runs that keep work of a session without edits and with them, of which the second is known
-- up to where the pair is. Of all edits some are refused; those of the session alone tell which
-- steps stand beside each other.
pub record AreKept (made : KeptView) (order : CallOrder) (pair : PairView) : Type 0 where
  pub before : IsKeptRunOf order (without_edits made) pair.before
  pub after : IsKnownRunOf order made pair.after pair.known
  pub beside : IsKeptPair made.session (plain_edits made.edits)
      (refused_of (edited.Kept made order)) pair.known pair.before pair.after pair

-- both runs of a source
abbrev pub IsPair : EditedSource → PairView → Type 0
IsPair (edited.Session made) pair = pair ≡ edited_pair made.session made.edits
IsPair (edited.Settled made) pair = IsSettledPair made.session made.edits pair
IsPair (edited.Workload made) pair = AreSimulated made pair
IsPair (edited.Kept made order) pair = AreKept made order pair

-- both, or the run of what the edits leave
abbrev pub IsShown : Bool → EditedSource → Shown → Type 0
IsShown false source (One run) = IsRunOfSource (after_of source) run
IsShown true source (Two pair) = IsPair source pair
IsShown both source shown = ⊥
