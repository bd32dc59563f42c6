use Rattle.std.proofs.Common.{string_bytes, arith}
use Rattle.run_comparisons.specs.Gains.{gains_line}
use Rattle.run_comparisons.proofs.GainsPrinted.{gains_end}
use Rattle.run_comparisons.proofs.Ranges.{next_text}
use Rattle.run_comparisons.proofs.gains.push_gains.Goals as goal

pub loop-task-preserved : goal.loop-task-preserved
loop-task-preserved c =
    next_text (gains_line c.args.header.now c.args.before.now c.args.after.now) (string_bytes c.args.text.now) (string_bytes c.loop-task.text) _
    c.loop-task.task c.loop-task.invariant c.in_ok-push_gains_line.ensures

pub returns : goal.returns
returns c =
    gains_end c.args.header.now c.args.before.now c.args.after.now (string_bytes c.args.text.now) (string_bytes c.loop-task.text) c.loop-task.task
    (omega (arith, c.loop-task.auto.task-end, c.loop-task-test.false)) c.loop-task.invariant
