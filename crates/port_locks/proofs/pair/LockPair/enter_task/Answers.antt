use Rattle.std.proofs.Common.{rules, ◌≡◌, ◌∙◌, ap}
use Rattle.port_locks.specs.Seats.{owns}
use Rattle.port_locks.proofs.Hands.{nothing_held}
use Rattle.port_locks.proofs.Steps.{takes_task_as}
use Rattle.port_locks.proofs.pair.LockPair.enter_task.Goals as goal

pub compare_exchange-requires : goal.compare_exchange-requires
compare_exchange-requires g c =
    let depth : c.seat.inside.interrupt_depth ≡ 0 = search rules in
    let task_depth : c.seat.inside.task_depth ≡ 0 = search rules in
    let i = c.seat.invariant in (
      search rules,
      search rules,
      takes_task_as _ _ _ _ _ _ _ i.kept (i.owns_task ∙ ap owns task_depth)
          (nothing_held _ _ _ _ _ _ _ i depth) (search rules),
    )
