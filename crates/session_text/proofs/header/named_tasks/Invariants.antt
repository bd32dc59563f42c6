use Rattle.std.proofs.Common.{◌≡◌, not, take}
use Rattle.bench_types.specs.declared.header.TaskArgs.{TaskArgs}
use Rattle.bench_types.specs.Name.{is_name}
use Rattle.bench_types.proofs.Positions.{IsSoughtTo}
use Rattle.session_text.proofs.header.named_tasks.Given as goal

-- the tasks so far are taken over, since their names are names
abbrev pub invariant-loop-location : goal.invariant-loop-location
invariant-loop-location l = record {
  so_far : l.tasks.items ≡ take l.location l.shapes;
  sought : IsSoughtTo (λ (task : TaskArgs). not (is_name task.name)) l.shapes l.location;
}
