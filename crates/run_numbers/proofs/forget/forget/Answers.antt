use Rattle.run_numbers.proofs.Known.{forgotten}
use Rattle.run_numbers.proofs.forget.forget.Goals as goal

pub returns-then-task-looks : goal.returns-then-task-looks
returns-then-task-looks c other look known = forgotten c.args.looks.now c.args.task other look c.if-task-looks.true known
