use Rattle.std.proofs.Common.{◌≡◌, ◌+◌, ◌*◌, ◌++◌, flat_map, string_bytes}
use Rattle.std.specs.Prelude.{slice_index_or}
use Rattle.list_orders.specs.Search.{numbers}
use Rattle.run_pictures.specs.declared.frame.TheConstants.{MUTEX_ROW}
use Rattle.run_pictures.specs.MutexLines.{mutex_row}
use Rattle.run_pictures.proofs.mutex_lines.push_mutex_rows.Given as goal

abbrev pub invariant-loop-k : goal.invariant-loop-k
invariant-loop-k l = string_bytes l.text ≡ string_bytes l.initial.text ++ flat_map
    (λ k. mutex_row l.header l.frame (l.y + MUTEX_ROW * k) l.looks (slice_index_or l.mutexes k 0)) (numbers l.k)
