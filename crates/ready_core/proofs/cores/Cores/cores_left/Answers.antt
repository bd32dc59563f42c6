use Rattle.std.proofs.Common.{◌≡◌, ℕ, ◌<◌, ◌^◌, true, false, not, eqb, ◌&&◌, bit_and, w32, sym, ◌∙◌, arith}
use Rattle.std.specs.Int.{bit_at, bit_not}
use Rattle.std.proofs.lemmas.Bool.Decides.{nat_tests}
use Rattle.std.proofs.lemmas.Nat.Bits.{bit_at_and, bit_at_not, bit_at-lt}
use Rattle.ready_core.proofs.cores.Cores.cores_left.Goals as goal

bit_but : (mask other core : ℕ) → other < 2 ^ 32 → core < 32 → eqb (bit_at (bit_and mask (bit_not w32 other)) core) 1 ≡
    (eqb (bit_at mask core) 1 && not (eqb (bit_at other core) 1))
bit_but mask other core fits low = grind (
  arith,
  nat_tests,
  bit_at_and mask (bit_not w32 other) core,
  bit_at_not w32 other core fits low,
  bit_at-lt mask core,
  bit_at-lt other core,
)

-- what of a mask is left without another's cores, where it has the lost core; all of it, where not
some_left : (mask other lost core m w : ℕ) → m ≡ mask → w ≡ other → eqb (bit_at m lost) 1 ≡ true → (eqb (bit_at m core) 1 && not (eqb (bit_at w core) 1)) ≡
    (eqb (bit_at mask core) 1 && not (eqb (bit_at mask lost) 1 && eqb (bit_at other core) 1))
some_left mask other lost core m w same too has = cc

all_left : (mask other lost core m : ℕ) → m ≡ mask → eqb (bit_at m lost) 1 ≡ false → eqb (bit_at m core) 1 ≡
    (eqb (bit_at mask core) 1 && not (eqb (bit_at mask lost) 1 && eqb (bit_at other core) 1))
all_left mask other lost core m same hasnt = grind (arith, same, hasnt)

pub returns-then-has_bit : goal.returns-then-has_bit
returns-then-has_bit c = λ core low.
    bit_but c.mask-mask.result c.mask.result core c.mask.type_inv (omega (arith, low, c.has_bit.ensures.few))
    ∙ some_left _ _ c.args.lost core _ _ c.mask-mask.ensures c.mask.ensures (sym c.has_bit.ensures.bit ∙ c.if-has_bit.true)

pub returns-else-has_bit : goal.returns-else-has_bit
returns-else-has_bit c = λ core low. all_left _ _ c.args.lost core _ c.mask-mask.ensures (sym c.has_bit.ensures.bit ∙ c.if-has_bit.false)
