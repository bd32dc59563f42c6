use Rattle.std.proofs.Common.{◌≡◌, ◌-◌, ◌<◌, suc, drop, length, sym, ◌∙◌, subst, arith, None}
use Rattle.json_data.specs.Held.{last_named}
use Rattle.json_data.proofs.Gathering.{found_last}
use Rattle.json_data.proofs.gathered.last_named.Goals as goal

pub returns-then-eq : goal.returns-then-eq
returns-then-eq c =
    let name = c.args.name.now in
    let held = c.args.held.now in
    let at = c.loop-at.at - 1 in
    let next : c.loop-at.at ≡ suc at = omega (arith, c.loop-at-test.true) in
    let low : at < length held = omega (arith, c.loop-at-test.true, c.loop-at.invariant.within) in
    sym (found_last name held at c.in-Some.named c.index-held-at.result (sym c.index-held-at.is ∙ c.in-Some.is) low
    (sym c.eq.ensures ∙ c.if-eq.true) (subst (λ n. last_named name (drop n held) ≡ None) next c.loop-at.invariant.none))
