use Rattle.std.proofs.Common.{rules, ◌≡◌, ◌∙◌, ◌∷◌, Some, ap}
use Rattle.atomic_table.specs.Table.{rest}
use Rattle.port_locks.specs.Seats.{owns}
use Rattle.port_locks.proofs.Hands.{slot_held, may_return, same_may}
use Rattle.port_locks.proofs.Steps.{publishes_after, frees_interrupt_after}
use Rattle.port_locks.proofs.pair.LockPair.leave.Goals as goal

pub store-requires : goal.store-requires
store-requires g c =
    let i = c.seat.invariant in
    let depth : c.seat.inside.interrupt_depth ≡ 1 = search rules in
    let own = i.owns_interrupt ∙ ap owns depth in
    let is : c.args.seat.now.value ≡ Some c.in-Some.value = search rules in
    let may =
    may_return g.V.Kept.terms g.V.Kept.list c.args.seat.now _ c.in-Some.value
    c.requires.returns is c.seat.view_is in (
      search rules,
      search rules,
      publishes_after _ _ _ _ _ c.seat.inside.inner.me c.exchange.new.seat.me c.in-Some.value _
          c.exchange.ensures.3 (slot_held _ _ _ _ _ _ _ i (ap owns depth)) c.self.invariant.1
          i.kept own c.entries-entries.ensures.count may.0
          c.entries-entries.ensures.legal
          (same_may c.seat.inside.inner.me.0 _ _ _ i.same_number i.owns_task may.1),
    )

pub store-requires-2 : goal.store-requires-2
store-requires-2 g c =
    let i = c.seat.invariant in
    let depth : c.seat.inside.interrupt_depth ≡ 1 = search rules in
    let own = i.owns_interrupt ∙ ap owns depth in
    let e = c.exchange.ensures.3 in (
      search rules,
      search rules,
      frees_interrupt_after _ _ _ _ _ c.exchange.new.seat.me.0 c.store.new.seat.me
          (g.V.Kept.list c.in-Some.value) (c.store.ensures.2 c.in-Some.value
          (ap (λ m. m.1) e
          ∙ ap (λ held. (0, Some c.in-Some.value) ∷ rest held)
          (slot_held _ _ _ _ _ _ _ i (ap owns depth))))
          (ap (λ m. m.0.spent) e ∙ i.kept) (ap (λ m. m.0.owns_interrupt) e ∙ own),
    )
