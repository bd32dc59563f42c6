use Rattle.std.proofs.Common.{◌≡◌}
use Rattle.bench_model.proofs.Waits.{freed}
use Rattle.notify_core.proofs.notes.Notes.stop_waiting.Given as goal

abbrev pub invariant-loop-index : goal.invariant-loop-index
invariant-loop-index l =
    l.self ≡ record l.initial.self { notes = freed l.initial.self.entries l.task l.initial.self.notes l.index }
