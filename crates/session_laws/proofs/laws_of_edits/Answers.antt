use Rattle.session_laws.proofs.EditedSessions.{edited_session, edited_room}
use Rattle.session_laws.proofs.laws_of_edits.Goals as goal

pub returns : goal.returns
returns c = record { keeps_session = edited_session; keeps_room = edited_room }
