use Rattle.std.proofs.Common.{◌≡◌, ◌+◌, ◌*◌, ◌++◌, flat_map, string_bytes}
use Rattle.std.specs.Prelude.{slice_index_or}
use Rattle.list_orders.specs.Search.{numbers}
use Rattle.run_pictures.specs.declared.frame.TheConstants.{QUEUE_ROW}
use Rattle.run_pictures.specs.QueueLines.{queue_row}
use Rattle.run_pictures.proofs.queue_lines.push_queue_rows.Given as goal

abbrev pub invariant-loop-k : goal.invariant-loop-k
invariant-loop-k l = string_bytes l.text ≡ string_bytes l.initial.text ++ flat_map
    (λ k. queue_row l.frame (l.y + QUEUE_ROW * k) l.looks (slice_index_or l.queues k 0)) (numbers l.k)
