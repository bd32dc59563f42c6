use Rattle.std.proofs.Common.{◌+◌, ◌*◌, string_bytes}
use Rattle.std.specs.Prelude.{slice_index_or}
use Rattle.run_pictures.specs.declared.frame.TheConstants.{MUTEX_ROW}
use Rattle.run_pictures.specs.MutexLines.{mutex_row}
use Rattle.run_pictures.proofs.Rows.{row_more}
use Rattle.run_pictures.proofs.mutex_lines.push_mutex_rows.Goals as goal

pub loop-k-preserved : goal.loop-k-preserved
loop-k-preserved c =
    let k = c.loop-k.k in
    row_more (λ k. mutex_row c.args.header.now c.args.frame.now (c.args.y + MUTEX_ROW * k) c.args.looks.now (slice_index_or c.args.mutexes.now k 0)) k
    (string_bytes c.args.text.now) (string_bytes c.loop-k.text) (string_bytes c.push_mutex_row.new.text) c.loop-k.invariant c.in_ok-push_mutex_row.ensures
