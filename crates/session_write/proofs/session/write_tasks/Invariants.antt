use Rattle.std.proofs.Common.{◌≡◌, ◌∷◌}
use Rattle.json.specs.Token.{end_array}
use Rattle.session_write.specs.Tokens.{with_value}
use Rattle.session_write.specs.Written.{task_data, tasks_data}
use Rattle.session_write.proofs.Tokens.{with_rest}
use Rattle.session_write.proofs.session.write_tasks.Given as goal

abbrev pub invariant-loop-task : goal.invariant-loop-task
invariant-loop-task l = end_array ∷ with_rest task_data l.tasks l.task-index l.scribe ≡ with_value (tasks_data l.tasks) l.fn.scribe
