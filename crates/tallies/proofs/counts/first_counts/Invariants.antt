use Rattle.std.proofs.Common.{◌≡◌, ◌≤◌, map}
use Rattle.std.specs.Vec.{vec_capacity, vec_len}
use Rattle.list_orders.specs.Search.{numbers}
use Rattle.tallies.proofs.Begins.{first_counts}
use Rattle.tallies.proofs.counts.first_counts.Given as goal

abbrev pub invariant-loop-task : goal.invariant-loop-task
invariant-loop-task l = record {
  counts : l.counts.items ≡ map (first_counts l.kernel.control) (numbers l.task);
  len : vec_len l.counts ≡ l.task;
  room : l.tasks ≤ vec_capacity l.counts;
}
