use Rattle.std.proofs.Common.{◌≡◌, ◌∙◌, ℕ, List, Option, length, sym, ap, subst}
use Rattle.std.proofs.lemmas.List.{with_items_is, length-map}
use Rattle.smp_kernel.specs.Deadlines.{one_less, left_after, lefts, AreNone}
use Rattle.smp_kernel.proofs.deadlines.Deadlines.age.Goals as goal

pub invariant_of-self : goal.invariant_of-self
invariant_of-self c =
    let inside = c.self.inside in
    let ends = c.next_count-self-inside.new.ends in
    let made = c.next_count-self-inside.ensures in
    let sized : length ends ≡ length c.as_mut_slice.result.now =
    sym (length-map ends (left_after c.next_count-self-inside.result)) ∙ ap (λ (es : List (Option ℕ)). length es) made.lefts
    ∙ length-map (lefts inside.passed c.as_mut_slice.result.now) one_less ∙ length-map c.as_mut_slice.result.now (left_after inside.passed) in
    let written = with_items_is inside.ends ends (sized ∙ c.as_mut_slice.ensures.len) in
    rw written (made.most, made.near, made.none inside.some (subst (AreNone inside.some) (sym c.as_mut_slice.ensures.value) c.self.invariant.2))
