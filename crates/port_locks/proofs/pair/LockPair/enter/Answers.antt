use Rattle.std.proofs.Common.{rules, ◌≡◌, ◌∙◌, ap}
use Rattle.port_locks.specs.Seats.{owns}
use Rattle.port_locks.proofs.Hands.{front_of, nothing_held}
use Rattle.port_locks.proofs.Steps.{takes_interrupt_as}
use Rattle.port_locks.proofs.pair.LockPair.enter.Goals as goal

pub compare_exchange-requires : goal.compare_exchange-requires
compare_exchange-requires g c =
    let depth : c.seat.inside.interrupt_depth ≡ 0 = search rules in
    let i = c.seat.invariant in (
      search rules,
      search rules,
      takes_interrupt_as _ _ _ _ _ _ _ i.kept (i.owns_interrupt ∙ ap owns depth)
          (nothing_held _ _ _ _ _ _ _ i depth) (search rules),
    )

pub exchange-requires : goal.exchange-requires
exchange-requires g c =
    let took = c.compare_exchange.ensures.2.0 (search rules) in
    (search rules, (_, front_of _ _ _ (ap (λ me. me.1) took.2)))
