-- The worked edits of sessions with checkpoints, computed on the definitions.
use Rattle.std.proofs.Common.{ℕ}
use Rattle.bench_model.specs.Meeting.{checkpoint_before, met}
use Rattle.bench_model.specs.Notes.{slot_in, state_cleared}
use Rattle.bench_model.specs.Notifying.{state_forgotten}
use Rattle.bench_model.specs.SameTest.{is_same}
use Rattle.bench_model.specs.Shifted.{is_same_shifted}
use Rattle.bench_model.specs.Steps.{delayed_until}
use Rattle.bench_model.specs.Table.{deadline_left}
use Rattle.bench_model.specs.Until.{is_ahead}
use Rattle.worked_examples.specs.MeetingExamples.{WorkedOpenings, WorkedMeetings, WorkedCheckpoints}
use Rattle.worked_examples.proofs.Examples.{computed}

-- whoever names this computes with meetings
unfoldable of_meetings : ℕ
unfolding computed checkpoint_before met is_same is_same_shifted is_ahead delayed_until slot_in state_cleared state_forgotten deadline_left
of_meetings = 0

pub openings : WorkedOpenings
unfolding of_meetings
openings = assumption

pub meetings : WorkedMeetings
unfolding of_meetings
meetings = assumption

pub checkpoints : WorkedCheckpoints
unfolding of_meetings
checkpoints = assumption
