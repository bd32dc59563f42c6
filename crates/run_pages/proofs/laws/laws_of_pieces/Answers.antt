use Rattle.run_pages.proofs.MarksFound.{pieces_safe}
use Rattle.run_pages.proofs.laws.laws_of_pieces.Goals as goal

pub returns-clause-marks : goal.returns-clause-marks
returns-clause-marks c = pieces_safe
