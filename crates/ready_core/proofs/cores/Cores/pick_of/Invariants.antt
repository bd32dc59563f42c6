use Rattle.std.proofs.Common.{◌≡◌, ◌<◌, length, drop, find, Some}
use Rattle.bench_model.specs.Control.{may_select}
use Rattle.ready_core.specs.Fields.{ready_list}
use Rattle.ready_core.proofs.Picks.{head_of}
use Rattle.ready_core.proofs.cores.Cores.pick_of.Given as goal

-- no task so far may be selected, and the next one is that of the next place
abbrev pub invariant-loop-place : goal.invariant-loop-place
invariant-loop-place l = record {
  next : Some l.task ≡ head_of (drop l._place (ready_list l.priority l.self));
  first : find (may_select l.self.control l.core) (drop l._place (ready_list l.priority l.self)) ≡ find (may_select l.self.control l.core)
      (ready_list l.priority l.self);
  in_range : l.task < length l.self.control.tasks;
}
