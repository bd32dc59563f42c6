use Rattle.session_edits.proofs.RefusedLaws.{refused_are_these, refused_are_printed}
use Rattle.session_edits.proofs.laws.laws_of_refused_edits.Goals as goal

pub returns-clause-these : goal.returns-clause-these
returns-clause-these c = refused_are_these

pub returns-clause-printed : goal.returns-clause-printed
returns-clause-printed c = refused_are_printed
