use Rattle.std.proofs.Common.{◌≡◌, ◌≤◌, map, take}
use Rattle.std.specs.Vec.{vec_capacity, vec_len}
use Rattle.bench_types.specs.declared.kernel_data.CoreLook.{CoreLook}
use Rattle.session_runs.proofs.outcomes.first_row.Given as goal

abbrev pub invariant-loop-core : goal.invariant-loop-core
invariant-loop-core l = record {
  row : l.row.items ≡ map (λ (core : CoreLook). core.current) (take l.core l.kernel.control.cores);
  len : vec_len l.row ≡ l.core;
  room : l.cores ≤ vec_capacity l.row;
}
