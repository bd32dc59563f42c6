use Rattle.std.proofs.Common.{◌≡◌, ◌≤◌, length, take}
use Rattle.std.specs.List.{filter}
use Rattle.bench_model.specs.Mutexes.{holds}
use Rattle.slow_replay.proofs.slow.SlowTable.held.Given as goal

abbrev pub invariant-loop-holder : goal.invariant-loop-holder
invariant-loop-holder l = (l.held ≡ length (filter (holds l.task) (take l.holder-index l.holder-items))) × (l.held ≤ l.holder-index)
