-- The worked notifications, computed on the definitions.
use Rattle.std.proofs.Common.{ℕ}
use Rattle.bench_model.specs.Notes.{notified, slot_in, wait_entered, wait_ended, take_entered, take_ended, state_cleared, value_cleared}
use Rattle.worked_examples.specs.NoteExamples.{WorkedNotes, WorkedWaits, WorkedTakes, WorkedClears, WorkedNotifies, WorkedCalls, WorkedIndexes}
use Rattle.bench_model.specs.Session.{state_at}
use Rattle.bench_model.specs.Notifying.{notify, interrupted, state_forgotten, bits_cleared, awaited}
use Rattle.worked_examples.proofs.Examples.{computed}

-- whoever names this computes with notifications
unfoldable pub of_notes : ℕ
unfolding notified slot_in wait_entered wait_ended take_entered take_ended state_cleared value_cleared
of_notes = 0

pub notes : WorkedNotes
unfolding of_notes
notes = assumption

pub waits : WorkedWaits
unfolding of_notes
waits = assumption

pub takes : WorkedTakes
unfolding of_notes
takes = assumption

pub clears : WorkedClears
unfolding of_notes
clears = assumption

pub notifies : WorkedNotifies
unfolding of_notes notify computed
notifies = assumption

pub called : WorkedCalls
unfolding of_notes notify interrupted state_forgotten bits_cleared awaited computed
called = assumption

pub indexed : WorkedIndexes
unfolding of_notes notify interrupted state_forgotten bits_cleared awaited computed state_at
indexed = assumption
