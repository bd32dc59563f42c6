use Rattle.std.proofs.Common.{rules, ◌≡◌, ◌∙◌, [], ◌∷◌, ◌++◌, All, sym, ap, subst}
use Rattle.std.proofs.lemmas.List.Elements.{All-nil, All-cons}
use Rattle.port_locks.specs.Closing.{IsFree}
use Rattle.port_locks.specs.Seats.{IsSeatOf}
use Rattle.port_locks.proofs.KnownSeats.{IsKnown, first_known, one_more_known, all_there, moved_over, free_seat}
use Rattle.port_locks.proofs.Seats.{joins}
use Rattle.port_locks.proofs.pair.LockPair.join_all.Goals as goal

pub loop-seat-init : goal.loop-seat-init
loop-seat-init g c =
    let split : c.args.seats.items ≡ c.pop.new.self.items ++ c.in-Some.last ∷ [] = search rules in
    let own = all_there (IsSeatOf c.args.self.now) _ _ _ _ split c.requires.own in
    let free = all_there IsFree _ _ _ _ split c.requires.free in
    let f = free_seat _ _ _ _ _ _ _ _ c.last.invariant _ c.last.view_is free in (
      ap (λ s. s.pair) c.last.view_is ∙ own.0,
      f.0,
      c.last.invariant.kept,
      f.1,
      f.2,
      c.in-Some.last ∷ [],
      split,
      All-cons (IsKnown c.last.inside.inner.me.0) c.in-Some.last []
          (first_known c.last.inside.inner.me.0 c.in-Some.last f.3 f.4 f.5)
          (All-nil (IsKnown c.last.inside.inner.me.0)),
    )

pub join_seat-requires : goal.join_seat-requires
join_seat-requires g c =
    let i = c.loop-seat.invariant in
    let split : c.loop-seat.seats.items ≡ c.pop-in-loop-seat.new.self.items ++ c.in-Some-pop.seat ∷ [] =
    search rules in
    let whole = moved_over _ _ _ _ _ i.6 split in
    let own = all_there (IsSeatOf c.args.self.now) _ _ _ _ whole c.requires.own in
    let free = all_there IsFree _ _ _ _ whole c.requires.free in
    let f = free_seat _ _ _ _ _ _ _ _ c.seat.invariant _ c.seat.view_is free in
    let table = ap (λ p. p.pair) c.self.view_is in (
      i.0 ∙ sym table,
      ap (λ s. s.pair) c.seat.view_is ∙ own.0 ∙ sym table,
      f.0,
      search rules,
      joins _ _ _ _ _ _ _ i.2 c.seat.invariant.kept f.1 f.2,
    )

pub loop-seat-preserved-in-Some-pop : goal.loop-seat-preserved-in-Some-pop
loop-seat-preserved-in-Some-pop g c =
    let i = c.loop-seat.invariant in
    let split : c.loop-seat.seats.items ≡ c.pop-in-loop-seat.new.self.items ++ c.in-Some-pop.seat ∷ [] =
    search rules in
    let whole = moved_over _ _ _ _ _ i.6 split in
    let free = all_there IsFree _ _ _ _ whole c.requires.free in
    let f = free_seat _ _ _ _ _ _ _ _ c.seat.invariant _ c.seat.view_is free in
    let e = c.join_seat.ensures in (
      e.0 ∙ i.0,
      ap (λ m. m.1) e.2 ∙ i.1,
      ap (λ m. m.0.spent) e.2 ∙ i.2,
      ap (λ m. m.0.owns_interrupt) e.2 ∙ i.3,
      ap (λ m. m.0.owns_task) e.2 ∙ i.4,
      c.in-Some-pop.seat ∷ i.5,
      whole,
      one_more_known c.loop-seat.all.me.0 c.seat.inside.inner.me.0 _ c.in-Some-pop.seat i.5
          (ap (λ m. m.0) e.2) f.3 f.4 f.5 i.7,
    )

pub loop-seat-preserved : goal.loop-seat-preserved
loop-seat-preserved g c =
    let i = c.loop-seat.invariant in
    let split : c.loop-seat.seats.items ≡ c.pop-in-loop-seat.new.self.items ++ c.in-Some-pop.seat ∷ [] =
    search rules in
    let whole = moved_over _ _ _ _ _ i.6 split in
    let free = all_there IsFree _ _ _ _ whole c.requires.free in
    let f = free_seat _ _ _ _ _ _ _ _ c.seat.invariant _ c.seat.view_is free in
    let e = c.join_seat.ensures in (
      e.0 ∙ i.0,
      ap (λ m. m.1) e.2 ∙ i.1,
      ap (λ m. m.0.spent) e.2 ∙ i.2,
      ap (λ m. m.0.owns_interrupt) e.2 ∙ i.3,
      ap (λ m. m.0.owns_task) e.2 ∙ i.4,
      c.in-Some-pop.seat ∷ i.5,
      whole,
      one_more_known c.loop-seat.all.me.0 c.seat.inside.inner.me.0 _ c.in-Some-pop.seat i.5
          (ap (λ m. m.0) e.2) f.3 f.4 f.5 i.7,
    )

pub returns-clause-all : goal.returns-clause-all
returns-clause-all g c =
    let i = c.loop-seat.invariant in
    let none : c.loop-seat.seats.items ≡ [] = search rules in
    subst (All (IsKnown c.loop-seat.all.me.0)) (sym (i.6 ∙ ap (λ l. l ++ i.5) none)) i.7
