-- The laws of changes. Each is a clause of a public function.
use Rattle.std.specs.Prelude.{◌≡◌, ℕ, List, [], ◌∷◌, All, take, drop, false, slice_index_or}
use Rattle.bench_types.specs.declared.edit.Edit.{Edit}
use Rattle.bench_types.specs.declared.edit.Edit.TheVariants.{Replace, ChangeTask}
use Rattle.bench_types.specs.declared.step.Step.{Step}
use Rattle.bench_types.specs.declared.step.Step.TheVariants.{Tick}
use Rattle.bench_types.specs.Session.{Session, IsSession}
use Rattle.bench_model.specs.Edits.{after_edits, args_of}
use Rattle.run_sources.specs.declared.source.Source.{Source}
use Rattle.run_sources.specs.declared.source.Source.TheVariants as source
use Rattle.run_sources.specs.Sources.{IsCheckedSource}
use Rattle.ranked_changes.specs.declared.change.Change.{Change}
use Rattle.ranked_changes.specs.declared.change.Change.TheVariants as change
use Rattle.ranked_changes.specs.declared.change.Family.{Family}
use Rattle.ranked_changes.specs.declared.judge.Judge.{Judge}
use Rattle.ranked_changes.specs.declared.rank.Ranked.{Ranked}
use Rattle.ranked_changes.specs.Changed.{changed, changed_session, IsChangeOf}
use Rattle.ranked_changes.specs.Changes.{changes_of}
use Rattle.ranked_changes.specs.Ranking.{is_before, AreBestFirst, IsRanking}

-- the step at the place; a tick past the last
abbrev pub step_at : List Step → ℕ → Step
step_at steps place = slice_index_or steps place Tick

-- the change as edits
abbrev pub edits_of : Session → Change → List Edit
edits_of session (change.Priority task priority) =
    ChangeTask task priority (args_of session.header task).mask ∷ []
edits_of session (change.Mask task mask) =
    ChangeTask task (args_of session.header task).priority mask ∷ []
edits_of session (change.Order first second) =
    Replace first (step_at session.steps second) ∷ Replace second (step_at session.steps first)
    ∷ []

-- edits make the same session of a session
abbrev pub ChangesAreEdits : Type 0
ChangesAreEdits =
    (session : Session) (made : Change) → IsSession session
    → IsChangeOf (source.Session session) made
    → after_edits session (edits_of session made) ≡ changed_session session made

-- a source with a change made passes the checks of its kind
abbrev pub ChangesKeepSources : Type 0
ChangesKeepSources =
    (source : Source) (made : Change) → IsCheckedSource source → IsChangeOf source made
    → IsCheckedSource (changed source made)

-- each change of a family may be made
abbrev pub FamiliesAreAllowed : Type 0
FamiliesAreAllowed =
    (source : Source) (family : Family) → IsCheckedSource source
    → All (IsChangeOf source) (changes_of source family)

-- no entry that is not among the best is better than one that is
abbrev pub OthersAreNoBetter : Type 0
OthersAreNoBetter =
    (ranked : List Ranked) (best : ℕ) → AreBestFirst ranked
    → All (λ kept. All (λ other. is_before other kept ≡ false) (drop best ranked))
    (take best ranked)

-- by a judge the changes of a source have one ranking alone
abbrev pub RankingsAreOne : Type 0
RankingsAreOne =
    (judge : Judge) (source : Source) (changes : List Change) (ranked others : List Ranked)
    → IsRanking judge source changes ranked → IsRanking judge source changes others
    → ranked ≡ others
