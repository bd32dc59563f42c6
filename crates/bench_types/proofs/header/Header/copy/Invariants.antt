use Rattle.std.proofs.Common.{◌≡◌, take}
use Rattle.bench_types.proofs.header.Header.copy.Given as goal

abbrev pub invariant-loop-task : goal.invariant-loop-task
invariant-loop-task l = l.copies.items ≡ take l.task-index l.self.tasks
