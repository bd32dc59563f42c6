use Rattle.history_laws.proofs.Recorded.{legal_session, replies_kept}
use Rattle.history_laws.proofs.laws_of_recorded_sessions.Goals as goal

pub returns : goal.returns
returns c = record { legal_is_session = legal_session; replies_are_kept = replies_kept }
