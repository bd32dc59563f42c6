use Rattle.segment_laws.proofs.Following.{segment_follows}
use Rattle.segment_laws.proofs.OpenedPlaces.{opened_places}
use Rattle.segment_laws.proofs.Reading.{places_are_read}
use Rattle.segment_laws.proofs.ResultsLater.{results_later}
use Rattle.segment_laws.proofs.laws_of_segments.Goals as goal

pub returns-clause-places_are_read : goal.returns-clause-places_are_read
returns-clause-places_are_read c = places_are_read

pub returns-clause-segment_follows : goal.returns-clause-segment_follows
returns-clause-segment_follows c = segment_follows

pub returns-clause-opened_places_are_first : goal.returns-clause-opened_places_are_first
returns-clause-opened_places_are_first c = opened_places

pub returns-clause-results_stay_later : goal.returns-clause-results_stay_later
returns-clause-results_stay_later c = results_later
