use Rattle.std.proofs.Common.{rules}
use Rattle.bench_model.specs.Notes.{slot_in}
use Rattle.notify_core.proofs.notes.Notes.slot.Goals as goal

pub returns-clause-slot : goal.returns-clause-slot
unfolding slot_in
returns-clause-slot c = search rules
