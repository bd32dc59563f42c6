use Rattle.std.proofs.Common.{◌≡◌, ℕ, ◌<◌}
use Rattle.ready_core.specs.Fields.{ready_list}
use Rattle.ready_core.proofs.cores.Cores.has_same_lists.Given as goal

-- the ready lists of the priorities so far are the same
abbrev pub invariant-loop-priority : goal.invariant-loop-priority
invariant-loop-priority l = (p : ℕ) → p < l.priority → ready_list p l.self ≡ ready_list p l.other
