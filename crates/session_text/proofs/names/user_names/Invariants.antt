use Rattle.std.proofs.Common.{◌≡◌, map, take}
use Rattle.session_text.proofs.names.user_names.Given as goal

abbrev pub invariant-loop-task : goal.invariant-loop-task
invariant-loop-task l = map (λ name. name.now) l.names.items ≡ map (λ task. task.name) (take l.task-index l.task-items)
