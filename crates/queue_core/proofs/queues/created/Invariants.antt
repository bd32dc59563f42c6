use Rattle.std.proofs.Common.{◌≡◌, map, take}
use Rattle.bench_model.specs.Start.{first_queue}
use Rattle.queue_core.proofs.queues.created.Given as goal

abbrev pub invariant-loop-args : goal.invariant-loop-args
invariant-loop-args l = l.created.items ≡ map first_queue (take l.args-index l.queues)
