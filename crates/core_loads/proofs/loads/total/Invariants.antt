use Rattle.std.proofs.Common.{◌≡◌, ◌≤◌, ◌*◌, ◌-◌, ◌^◌, take}
use Rattle.core_loads.specs.Loads.{total}
use Rattle.core_loads.proofs.loads.total.Given as goal

abbrev pub invariant-loop-time : goal.invariant-loop-time
invariant-loop-time l = record {
  value : l.all ≡ total (take l.time-index l.times);
  room : l.all ≤ l.time-index * (2 ^ 64 - 1);
}
