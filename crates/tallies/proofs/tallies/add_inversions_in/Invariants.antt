use Rattle.std.proofs.Common.{◌≡◌, ◌<◌}
use Rattle.std.specs.Prelude.{slice_get, IfSome}
use Rattle.smp_kernel.specs.Kernel.{ready_list}
use Rattle.tallies.proofs.Inversions.{IsAlong}
use Rattle.tallies.proofs.tallies.add_inversions_in.Given as goal

abbrev pub invariant-loop-place : goal.invariant-loop-place
invariant-loop-place l = record {
  along : IsAlong l.kernel l.priority l.fn.tasks l._place l.tasks;
  next : l.next ≡ slice_get (ready_list l.kernel l.priority) l._place;
  in_range : IfSome l.next (λ task. task < l.kernel.settings.tasks);
}
