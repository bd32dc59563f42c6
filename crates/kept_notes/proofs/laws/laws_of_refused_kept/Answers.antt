use Rattle.kept_notes.proofs.RefusedThese.{kept_are_made, refused_changes_nothing, refused_kept_are_these}
use Rattle.kept_notes.proofs.laws.laws_of_refused_kept.Goals as goal

pub returns : goal.returns
returns c = record {
  these = refused_kept_are_these;
  made = kept_are_made;
  nothing = refused_changes_nothing;
}
