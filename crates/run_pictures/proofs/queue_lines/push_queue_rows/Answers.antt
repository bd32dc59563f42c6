use Rattle.std.proofs.Common.{◌+◌, ◌*◌, string_bytes}
use Rattle.std.specs.Prelude.{slice_index_or}
use Rattle.run_pictures.specs.declared.frame.TheConstants.{QUEUE_ROW}
use Rattle.run_pictures.specs.QueueLines.{queue_row}
use Rattle.run_pictures.proofs.Rows.{row_more}
use Rattle.run_pictures.proofs.queue_lines.push_queue_rows.Goals as goal

pub loop-k-preserved : goal.loop-k-preserved
loop-k-preserved c =
    let k = c.loop-k.k in
    row_more (λ k. queue_row c.args.frame.now (c.args.y + QUEUE_ROW * k) c.args.looks.now (slice_index_or c.args.queues.now k 0)) k
    (string_bytes c.args.text.now) (string_bytes c.loop-k.text) (string_bytes c.push_queue_row.new.text) c.loop-k.invariant c.in_ok-push_queue_row.ensures
