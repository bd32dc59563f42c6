use Rattle.std.proofs.Common.{◌≡◌, ◌+◌, suc, length, ap, ◌∙◌, arith}
use Rattle.kept_works.specs.Places.{place_from}
use Rattle.kept_works.proofs.Placings.{each_from}
use Rattle.kept_works.proofs.places.places_from.Goals as goal

pub returns : goal.returns
returns c =
    let many : length c.loop-index.places.items ≡ suc (length c.args.own.now) = omega (arith, c.loop-index.invariant.many) in
    each_from (place_from c.args.own.now c.args.end) c.args.end 0 (suc (length c.args.own.now)) c.loop-index.places.items many
    (λ k within.
    c.loop-index.invariant.each k (omega arith) (omega (arith, many, within))
    ∙ ap (place_from c.args.own.now c.args.end) (let same : k ≡ 0 + k = omega arith in same))
