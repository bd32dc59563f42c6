use Rattle.std.proofs.Common.{◌≡◌, ◌≤◌, length, filter, take}
use Rattle.bench_model.specs.Mutexes.{holds}
use Rattle.mutex_inherit.proofs.mutexes.held_by.Given as goal

-- how many of the mutexes that were looked at the task holds
abbrev pub invariant-loop-holder : goal.invariant-loop-holder
invariant-loop-holder l = record {
  held : l.held ≡ length (filter (holds l.task) (take l.holder-index l.holders));
  few : l.held ≤ l.holder-index;
}
