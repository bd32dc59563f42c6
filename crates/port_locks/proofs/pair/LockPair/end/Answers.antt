use Rattle.std.proofs.Common.{◌≡◌, ◌∙◌, All, None, sym, ap, subst}
use Rattle.std.proofs.lemmas.Option.{same_Some}
use Rattle.bench_model.specs.History.{IsLegal}
use Rattle.port_locks.specs.Closing.{IsEndOf, HasNoOthers}
use Rattle.port_locks.specs.Holds.{hold_after}
use Rattle.port_locks.proofs.Ends.{ends_as}
use Rattle.port_locks.proofs.pair.LockPair.end.Given as given
use Rattle.port_locks.proofs.pair.LockPair.end.Goals as goal

pub unreachable-requires : goal.unreachable-requires
unreachable-requires g c =
    let j = c.join_all-all.ensures in
    let e =
    ends_as g.V.Kept.terms g.V.Kept.list _ _ _ _ _ j.free.0 j.free.1 j.free.2
    c.args.self.cores
    c.args.seats.items (c.self.invariant.2 ∙ ap (λ p. p.cores) c.self.view_is) c.requires.all
    j.all c.close_with-closed.ensures.values.2 c.take.result c.take.ensures.value in
    c.in_default.not-Some e.0 e.1

-- the value that was taken out is the one at the end
ended : (g : given.Over) (c : goal.After-free g)
    → (g.V.Kept.terms c.in-Some.value ≡ c.args.self.terms)
    × IsLegal c.args.self.terms.header (g.V.Kept.list c.in-Some.value)
    × All (IsEndOf (g.V.Kept.list c.in-Some.value)) c.args.seats.items
    × (hold_after c.args.self.terms.header (g.V.Kept.list c.in-Some.value) ≡ None)
    × HasNoOthers c.args.self.cores (g.V.Kept.list c.in-Some.value)
ended g c =
    let j = c.join_all-all.ensures in
    let e =
    ends_as g.V.Kept.terms g.V.Kept.list _ _ _ _ _ j.free.0 j.free.1 j.free.2
    c.args.self.cores
    c.args.seats.items (c.self.invariant.2 ∙ ap (λ p. p.cores) c.self.view_is) c.requires.all
    j.all c.close_with-closed.ensures.values.2 c.take.result c.take.ensures.value in
    let same = same_Some c.in-Some.value e.0 (sym c.in-Some.is ∙ e.1) in
    let terms = e.2 ∙ ap (λ p. p.terms) c.self.view_is in (
      ap g.V.Kept.terms same ∙ terms,
      subst (λ t. IsLegal t.header (g.V.Kept.list c.in-Some.value)) terms
          (subst (λ v. IsLegal (g.V.Kept.terms e.0).header (g.V.Kept.list v)) (sym same) e.3),
      subst (λ v. All (IsEndOf (g.V.Kept.list v)) c.args.seats.items) (sym same) e.4,
      subst (λ t. hold_after t.header (g.V.Kept.list c.in-Some.value) ≡ None) terms
          (subst (λ v. hold_after (g.V.Kept.terms e.0).header (g.V.Kept.list v) ≡ None) (sym same)
          e.5),
      subst (λ v. HasNoOthers c.args.self.cores (g.V.Kept.list v)) (sym same) e.6,
    )

pub returns-clause-terms : goal.returns-clause-terms
returns-clause-terms g c = (ended g c).0

pub returns-clause-legal : goal.returns-clause-legal
returns-clause-legal g c = (ended g c).1

pub returns-clause-seats : goal.returns-clause-seats
returns-clause-seats g c = (ended g c).2

pub returns-clause-no_hold : goal.returns-clause-no_hold
returns-clause-no_hold g c = (ended g c).3

pub returns-clause-no_others : goal.returns-clause-no_others
returns-clause-no_others g c = (ended g c).4
