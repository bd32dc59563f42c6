use Rattle.std.proofs.Common.{◌≡◌, ◌++◌, map, take, replicate}
use Rattle.bench_model.specs.Start.{idle_control, user_control}
use Rattle.ready_core.proofs.first.first_controls.Given as goal

-- the idle tasks, and the user tasks that were looked at
abbrev pub invariant-loop-args : goal.invariant-loop-args
invariant-loop-args l = l.tasks.items ≡ replicate l.cores (idle_control l.cores) ++ map (user_control l.cores) (take l.args-index l.args-items)
