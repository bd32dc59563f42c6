use Rattle.meeting_laws.proofs.Checkpoints.{added_is_replayed, ascending_are_one, before_is_last, first_fit, next_are_these, next_fit, places_near}
use Rattle.meeting_laws.proofs.Checkpoints.{replay_is_within}
use Rattle.meeting_laws.proofs.Moves.{moved_from, moved_later, moved_within}
use Rattle.meeting_laws.proofs.laws_of_checkpoints.Goals as goal

pub returns-clause-first_checkpoints_fit : goal.returns-clause-first_checkpoints_fit
returns-clause-first_checkpoints_fit c = first_fit

pub returns-clause-next_checkpoints_fit : goal.returns-clause-next_checkpoints_fit
returns-clause-next_checkpoints_fit c = next_fit

pub returns-clause-places_are_near : goal.returns-clause-places_are_near
returns-clause-places_are_near c = places_near

pub returns-clause-checkpoint_before_is_last : goal.returns-clause-checkpoint_before_is_last
returns-clause-checkpoint_before_is_last c = before_is_last

pub returns-clause-added_is_replayed : goal.returns-clause-added_is_replayed
returns-clause-added_is_replayed c = λ kept edit place some accepts fit. added_is_replayed kept edit some accepts fit place

pub returns-clause-moved_places_are_within : goal.returns-clause-moved_places_are_within
returns-clause-moved_places_are_within c = λ session edit place accepts within compared.
    (moved_from edit place compared, moved_within session edit place accepts within)

pub returns-clause-later_places_move_alike : goal.returns-clause-later_places_move_alike
returns-clause-later_places_move_alike c = moved_later

pub returns-clause-replay_is_within : goal.returns-clause-replay_is_within
returns-clause-replay_is_within c = replay_is_within

pub returns-clause-next_are_these : goal.returns-clause-next_are_these
returns-clause-next_are_these c = λ kept edit place some accepts fit. next_are_these kept edit some accepts fit place

pub returns-clause-ascending_are_one : goal.returns-clause-ascending_are_one
returns-clause-ascending_are_one c = ascending_are_one
