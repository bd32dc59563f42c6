use Rattle.std.proofs.Common.{◌≡◌, ◌-◌, length, None}
use Rattle.std.specs.Prelude.{slice_index_or}
use Rattle.std.specs.List.{find, range_with_len}
use Rattle.workload_runs.specs.Situations.{has_come}
use Rattle.simulating.specs.Progress.{due_at}
use Rattle.simulating.proofs.progress.due_interrupt.Given as goal

-- none so far has come
abbrev pub invariant-loop-index : goal.invariant-loop-index
invariant-loop-index l =
    find (λ index. has_come l.time (slice_index_or l.arrivals index None)) (range_with_len l.index (length l.arrivals - l.index)) ≡ due_at l.time l.arrivals
