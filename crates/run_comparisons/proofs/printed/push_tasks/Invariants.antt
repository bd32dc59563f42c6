use Rattle.std.proofs.Common.{◌≡◌, ◌++◌, take, string_bytes}
use Rattle.run_comparisons.specs.Printed.{tasks_part}
use Rattle.run_comparisons.proofs.printed.push_tasks.Given as goal

abbrev pub invariant-loop-task : goal.invariant-loop-task
invariant-loop-task l = string_bytes l.text ≡ string_bytes l.initial.text ++ tasks_part l.header (take l.task-index l.tasks)
