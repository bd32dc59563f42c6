use Rattle.std.proofs.Common.{rules, ◌≡◌, ◌∙◌, sym, ap}
use Rattle.port_locks.specs.Seats.{owns}
use Rattle.port_locks.proofs.Hands.{nothing_held, same_hold}
use Rattle.port_locks.proofs.Steps.{frees_task_as}
use Rattle.port_locks.proofs.pair.LockPair.free_task.Goals as goal

pub store-requires : goal.store-requires
store-requires g c =
    let task_depth : c.seat.inside.task_depth ≡ 1 = search rules in
    let i = c.seat.invariant in
    let depth : c.seat.inside.interrupt_depth ≡ 0 = search rules in (
      search rules,
      search rules,
      frees_task_as _ _ _ _ _ _ i.kept (i.owns_task ∙ ap owns task_depth)
          (nothing_held _ _ _ _ _ _ _ i depth)
          (same_hold c.args.seat.now _ _ c.seat.view_is i.same_number
          (c.requires.last (ap (λ s. s.task_depth) (sym c.seat.view_is) ∙ task_depth)).1),
    )
