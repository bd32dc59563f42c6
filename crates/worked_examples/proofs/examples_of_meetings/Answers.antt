use Rattle.worked_examples.proofs.MeetingExamples.{openings, meetings, checkpoints}
use Rattle.worked_examples.proofs.examples_of_meetings.Goals as goal

pub returns-clause-worked_openings : goal.returns-clause-worked_openings
returns-clause-worked_openings c = openings

pub returns-clause-worked_meetings : goal.returns-clause-worked_meetings
returns-clause-worked_meetings c = meetings

pub returns-clause-worked_checkpoints : goal.returns-clause-worked_checkpoints
returns-clause-worked_checkpoints c = checkpoints
