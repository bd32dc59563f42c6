use Rattle.std.proofs.Common.{◌≡◌, ◌+◌, ◌++◌, ℕ, None, map}
use Rattle.list_orders.specs.Search.{numbers}
use Rattle.kept_runs.specs.Clocks.{elapsed}
use Rattle.keeping.specs.Works.{clock_at}
use Rattle.kept_works.proofs.works.push_ends.Given as goal

abbrev pub invariant-loop-user : goal.invariant-loop-user
invariant-loop-user l =
    l.unmade.items
    ≡ l.fn.unmade.items
    ++ map (λ (user : ℕ). record { task = l.cores + user; call = None; work = elapsed (clock_at l.last (l.cores + user)) (clock_at l.ends user) })
    (numbers l.user)
