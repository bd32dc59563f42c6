use Rattle.session_store.proofs.RecordedSessions.{recorded_opened, recorded_replies}
use Rattle.session_store.proofs.laws.laws_of_recordings.Goals as goal

pub returns : goal.returns
returns c = record { recorded_is_opened = recorded_opened; recorded_replies = recorded_replies }
