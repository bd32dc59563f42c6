use Rattle.std.proofs.Common.{◌≡◌, ◌^◌, ◌<◌, drop, fold}
use Rattle.kept_runs.specs.Works.{changed_work}
use Rattle.kept_works.proofs.works.with_changes.Given as goal

abbrev pub invariant-loop-change : goal.invariant-loop-change
invariant-loop-change l = record {
  work : fold changed_work l.work (drop l.change-index l.changes) ≡ fold changed_work l.fn.work l.changes;
  small : l.work.units < 2 ^ 63;
}
