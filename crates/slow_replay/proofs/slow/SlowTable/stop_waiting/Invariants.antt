use Rattle.std.proofs.Common.{◌≡◌}
use Rattle.bench_model.proofs.Waits.{freed}
use Rattle.slow_replay.proofs.slow.SlowTable.stop_waiting.Given as goal

abbrev pub invariant-loop-index : goal.invariant-loop-index
invariant-loop-index l =
    l.self ≡ record l.initial.self { notes = freed l.initial.self.settings.notes l.task l.initial.self.notes l.index }
