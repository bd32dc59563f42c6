use Rattle.segment_laws.proofs.EditedSegments.{edited_segments_stand, unmet_are_replayed}
use Rattle.segment_laws.proofs.Reading.{parts_are_found, part_stands_still}
use Rattle.segment_laws.proofs.laws_of_edited_segments.Goals as goal

pub returns-clause-parts_are_found : goal.returns-clause-parts_are_found
returns-clause-parts_are_found c = parts_are_found

pub returns-clause-part_stands_still : goal.returns-clause-part_stands_still
returns-clause-part_stands_still c = part_stands_still

pub returns-clause-edited_segments_stand : goal.returns-clause-edited_segments_stand
returns-clause-edited_segments_stand c = edited_segments_stand

pub returns-clause-unmet_are_replayed : goal.returns-clause-unmet_are_replayed
returns-clause-unmet_are_replayed c = unmet_are_replayed
