use Rattle.std.proofs.Common.{◌≡◌, ◌++◌, map, replicate, take}
use Rattle.bench_model.specs.Start.{idle_control, user_control}
use Rattle.slow_replay.proofs.slow.first_controls.Given as goal

abbrev pub invariant-loop-args : goal.invariant-loop-args
invariant-loop-args l = l.controls.items ≡ replicate l.cores (idle_control l.cores) ++ map (user_control l.cores) (take l.args-index l.args-items)
