use Rattle.std.proofs.Common.{◌≡◌, flat_map, take, string_bytes}
use Rattle.shown_runs.specs.Interests.{listed, task_named}
use Rattle.shown_runs.proofs.interest.tasks_named.Given as goal

abbrev pub invariant-loop-name : goal.invariant-loop-name
invariant-loop-name l = l.tasks.items ≡ flat_map (λ name. listed (task_named l.header (string_bytes name))) (take l.name-index l.names)
