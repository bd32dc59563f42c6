use Rattle.std.proofs.Common.{rules, ◌∙◌, ap, arith}
use Rattle.port_locks.specs.Made.{new_seat}
use Rattle.port_locks.specs.Steps.{one_more}
use Rattle.port_locks.proofs.SeatsInOrder.{same_seat, one_more_made, all_made}
use Rattle.port_locks.proofs.Seats.{splits}
use Rattle.port_locks.proofs.pair.LockPair.seats.Goals as goal

pub split_seat-inner-requires : goal.split_seat-inner-requires
split_seat-inner-requires g c =
    let i = c.loop-number.invariant in
    let given = ap (λ m. m.0.given) i.2 in
    let less = c.loop-number-test.true in
    let cores = c.self.invariant.2 in (
      search rules,
      search rules,
      splits _ _ _ _ _ (ap (λ m. m.0.spent) i.2) (ap (λ m. m.0.number) i.2) (omega arith),
    )

pub loop-number-preserved : goal.loop-number-preserved
loop-number-preserved g c =
    let i = c.loop-number.invariant in
    let less = c.loop-number-test.true in
    let cores = ap (λ p. p.cores) c.self.view_is in
    let s = c.split_seat-inner.ensures in
    let terms = ap (λ m. m.0.terms) s.4 ∙ ap (λ m. m.0.terms) i.2 in
    let made =
    one_more_made (new_seat c.args.self.now) _ _ _ c.loop-number.number (search rules)
    (same_seat c.args.self.now _ _ _ _ (s.3 ∙ i.1) terms c.seat_over.ensures) i.3 i.4 in (
      omega arith,
      s.0 ∙ i.1,
      s.2 ∙ ap (λ m. (one_more m.0, m.1)) i.2,
      made.0,
      made.1,
    )

pub returns : goal.returns
returns g c =
    let i = c.loop-number.invariant in
    let last = c.loop-number-test.false in
    let cores = ap (λ p. p.cores) c.self.view_is in
    all_made (new_seat c.args.self.now) _ _ _ _ c.loop-number.number (search rules)
    (same_seat c.args.self.now _ _ _ _ i.1 (ap (λ m. m.0.terms) i.2) c.seat_over-2.ensures) i.3
    (let few = i.0 in omega arith) i.4
