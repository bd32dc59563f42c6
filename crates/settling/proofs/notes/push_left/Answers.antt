use Rattle.std.proofs.Common.{string_bytes, arith}
use Rattle.settling.proofs.NotesKnown.{entries_end, entry_more}
use Rattle.settling.proofs.notes.push_left.Goals as goal

pub loop-task-preserved : goal.loop-task-preserved
loop-task-preserved c =
    entry_more c.args.header.now c.args.left.now (string_bytes c.args.text.now) (string_bytes c.loop-task.text) _ c.loop-task.task c.loop-task.invariant
    c.in_ok-push_entry_if_left.ensures

pub returns : goal.returns
returns c =
    entries_end c.args.header.now c.args.left.now (string_bytes c.args.text.now) (string_bytes c.loop-task.text) c.loop-task.task
    (omega (arith, c.loop-task.auto.task-end, c.loop-task-test.false)) c.loop-task.invariant
