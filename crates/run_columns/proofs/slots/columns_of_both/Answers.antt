use Rattle.run_columns.proofs.LinedUp.{lined_up}
use Rattle.run_columns.proofs.slots.columns_of_both.Goals as goal

pub returns-clause-lined_up : goal.returns-clause-lined_up
returns-clause-lined_up c = lined_up c.args.slots.now c.args.later.now c.requires.slots c.requires.later
