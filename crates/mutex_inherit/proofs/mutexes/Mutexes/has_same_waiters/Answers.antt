use Rattle.std.proofs.Common.{◌≡◌, true, arith, inl, inr, refl}
use Rattle.std.proofs.lemmas.Bool.{cases_eq}
use Rattle.mutex_inherit.proofs.Waits.{same_lists, same_group, same_groups}
use Rattle.mutex_inherit.proofs.mutexes.Mutexes.has_same_waiters.Goals as goal

pub returns-then-not-has_same_entries : goal.returns-then-not-has_same_entries
returns-then-not-has_same_entries c = (
  λ no. absurd (cc (no)),
  λ same. absurd (cc (
    c.if-not-has_same_entries.true,
    c.has_same_entries.ensures.1 (same_lists _ _ _ _ _ c.self.inside.lists _ c.self.view_is _ _ _ _ _ c.other.inside.lists _
        c.other.view_is c.self.invariant c.other.invariant c.requires.priorities same c.loop-list.list),
  )),
)

pub loop-list-preserved : goal.loop-list-preserved
loop-list-preserved c = λ k below.
    let yes : c.has_same_entries.result ≡ true = grind (arith, c.if-not-has_same_entries.false) in
    elim (cases_eq k c.loop-list.list) [
      | inl same ↦ rw same (same_group _ _ _ _ _ c.self.inside.lists _ c.self.view_is _ _ _ _ _ c.other.inside.lists _ c.other.view_is c.self.invariant
          c.other.invariant c.requires.priorities c.loop-list.list (c.has_same_entries.ensures.0 yes))
      | inr away ↦ c.loop-list.invariant k (omega (arith, below, away))
    ]

pub returns : goal.returns
returns c = (
  λ yes. same_groups _ _ _ _ _ c.self.inside.lists _ c.self.view_is _ _ _ _ _ c.other.inside.lists _ c.other.view_is c.self.invariant c.other.invariant
      c.requires.priorities c.requires.lists (λ k low. c.loop-list.invariant k
      (omega (arith, low, c.loop-list-test.false, c.loop-list.auto.list-end))),
  λ same. refl,
)
