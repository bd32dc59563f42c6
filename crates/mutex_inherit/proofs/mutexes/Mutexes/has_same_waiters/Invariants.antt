use Rattle.std.proofs.Common.{◌≡◌, ℕ, ◌<◌, eqb, filter}
use Rattle.bench_types.specs.declared.kernel_data.Waiter.{Waiter}
use Rattle.mutex_inherit.proofs.mutexes.Mutexes.has_same_waiters.Given as goal

-- the waiters in the lists so far are the same
abbrev pub invariant-loop-list : goal.invariant-loop-list
invariant-loop-list l = (k : ℕ) → k < l.list → filter (λ (w : Waiter). eqb w.wait.list k) l.self.waiters ≡ filter (λ (w : Waiter). eqb w.wait.list k)
    l.other.waiters
