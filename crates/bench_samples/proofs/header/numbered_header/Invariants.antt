use Rattle.std.proofs.Common.{◌≡◌, ◌++◌, drop}
use Rattle.bench_samples.specs.Rows.{numbered}
use Rattle.bench_samples.proofs.header.numbered_header.Given as goal

-- the tasks so far and those to come
abbrev pub invariant-loop-number : goal.invariant-loop-number
invariant-loop-number l = l.all.items ++ numbered l.number-counter (drop l.number-counter l.tasks) ≡ numbered 0 l.tasks
