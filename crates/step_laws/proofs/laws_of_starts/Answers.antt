use Rattle.step_laws.proofs.Starts.{start_sound, start_seen_lem}
use Rattle.step_laws.proofs.StartFlags.{start_flags}
use Rattle.step_laws.proofs.laws_of_starts.Goals as goal

pub returns-clause-start_is_sound : goal.returns-clause-start_is_sound
returns-clause-start_is_sound c = start_sound

pub returns-clause-start_asks_none : goal.returns-clause-start_asks_none
returns-clause-start_asks_none c = start_flags

pub returns-clause-start_simulates : goal.returns-clause-start_simulates
returns-clause-start_simulates c = start_seen_lem
