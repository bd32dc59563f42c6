use Rattle.std.proofs.Common.{◌≡◌, false, nat_eq, nat_lt, sym, ap, ◌∙◌, arith}
use Rattle.std.specs.Int.{bit_at}
use Rattle.std.proofs.lemmas.Bool.Decides.{nat_tests}
use Rattle.run_pictures.proofs.Hindering.{no_bit}
use Rattle.run_pictures.proofs.hindrance.has_core.Goals as goal

pub returns-else-core-lt32 : goal.returns-else-core-lt32
returns-else-core-lt32 c =
    let none : bit_at c.args.mask c.args.core ≡ 0 = no_bit c.args.mask c.args.core (omega (arith, c.ranges.mask.fits)) (omega (arith, c.if-core-lt32.false)) in
    let past : nat_lt c.args.core 32 ≡ false = grind (arith, nat_tests, c.if-core-lt32.false) in
    past ∙ sym (ap (λ n. nat_eq n 1) none)
