use Rattle.std.proofs.Common.{◌≡◌, ℕ, ◌<◌, ◌≤◌, ◌-◌, false}
use Rattle.std.specs.List.{range_with_len}
use Rattle.list_orders.specs.Search.{has}
use Rattle.ready_core.specs.Fields.{all_placed}
use Rattle.ready_core.proofs.cores.Cores.push_range.Given as goal

-- the tasks so far are placed, and the others are not ready yet
abbrev pub invariant-loop-task : goal.invariant-loop-task
invariant-loop-task l = record {
  placed : l.self ≡ record l.initial.self { ready = all_placed l.initial.self.control (range_with_len l.from (l.task - l.from)) l.initial.self.ready };
  free : (t : ℕ) → l.task ≤ t → t < l.to → has t l.self.ready ≡ false;
}
