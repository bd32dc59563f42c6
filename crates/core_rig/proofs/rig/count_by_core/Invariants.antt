use Rattle.std.proofs.Common.{◌≡◌, ◌≤◌}
use Rattle.core_rig.specs.Closing.{counts}
use Rattle.core_rig.proofs.rig.count_by_core.Given as goal

-- the cores below this one are counted
abbrev pub invariant-loop-core : goal.invariant-loop-core
invariant-loop-core l = (l.core ≤ l.cores) × (l.counts.items ≡ counts l.core l.entries)
