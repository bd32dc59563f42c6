use Rattle.kept_notes.proofs.NoteTexts.{none_refused_nothing_told, plain_are_noted}
use Rattle.kept_notes.proofs.laws.laws_of_kept_notes.Goals as goal

pub returns : goal.returns
returns c = record {
  plain = plain_are_noted;
  none = none_refused_nothing_told;
}
