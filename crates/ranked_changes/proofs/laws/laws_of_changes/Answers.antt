use Rattle.run_sources.proofs.CheckedSources.{header_checked}
use Rattle.ranked_changes.proofs.Allowed.{allowed}
use Rattle.ranked_changes.proofs.ChangedSessions.{changes_are_edits}
use Rattle.ranked_changes.proofs.ChangedSources.{changes_keep_sources}
use Rattle.ranked_changes.proofs.laws.laws_of_changes.Goals as goal

pub returns-clause-changes_are_edits : goal.returns-clause-changes_are_edits
returns-clause-changes_are_edits c = changes_are_edits

pub returns-clause-changes_keep_sources : goal.returns-clause-changes_keep_sources
returns-clause-changes_keep_sources c = changes_keep_sources

pub returns-clause-families_are_allowed : goal.returns-clause-families_are_allowed
returns-clause-families_are_allowed c = λ source family is. allowed source (header_checked source is) family
