use Rattle.std.proofs.Common.{map}
use Rattle.session_text.proofs.NewNames.{GoesOn}
use Rattle.session_text.proofs.names.Names.of.Given as goal

abbrev pub invariant-loop-task : goal.invariant-loop-task
invariant-loop-task l = GoesOn l.task-items l.task-index (map (λ name. name.now) l.names.keys)
