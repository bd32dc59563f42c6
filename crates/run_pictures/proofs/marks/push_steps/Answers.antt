use Rattle.std.proofs.Common.{string_bytes}
use Rattle.run_pictures.specs.Marks.{step_at}
use Rattle.run_pictures.proofs.Rows.{row_more}
use Rattle.run_pictures.proofs.marks.push_steps.Goals as goal

pub loop-k-preserved : goal.loop-k-preserved
loop-k-preserved c = row_more (step_at c.args.header.now c.args.frame.now c.args.top c.args.made.now) c.loop-k.k
    (string_bytes c.args.text.now) (string_bytes c.loop-k.text) (string_bytes c.push_at.new.text) c.loop-k.invariant c.in_ok-push_at.ensures
