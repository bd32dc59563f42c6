use Rattle.std.proofs.Common.{◌≡◌, map, take}
use Rattle.bench_samples.proofs.header.header_of.Given as goal

abbrev pub invariant-loop-name : goal.invariant-loop-name
invariant-loop-name l = l.all.items ≡ map (λ task. record { name = task.0.now; priority = task.1; mask = task.2 }) (take l.name-index l.tasks)
