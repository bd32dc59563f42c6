use Rattle.std.proofs.Common.{◌<◌, ◌^◌, ◌==◌, take}
use Rattle.std.specs.Prelude.{All}
use Rattle.bench_types.specs.declared.header.TaskArgs.{TaskArgs}
use Rattle.bench_types.specs.Mask.{cores_of_mask}
use Rattle.bench_types.proofs.Positions.{IsSoughtTo}
use Rattle.bench_types.proofs.flaw.location_of_mask.Given as goal

-- no mask before the place is at fault
abbrev pub invariant-loop-place : goal.invariant-loop-place
invariant-loop-place l = record {
  value : IsSoughtTo (λ (task : TaskArgs). cores_of_mask l.cores task.mask == 0) l.tasks l.place;
  words : All (λ (task : TaskArgs). task.mask < 2 ^ 32) (take l.place l.tasks);
}
