use Rattle.std.proofs.Common.{zero, ◌≤◌, ◌<◌, ◌^◌, arith, sym}
use Rattle.std.proofs.Math.Nat.{mod-eq_of_lt, pow-le-pow_right}
use Rattle.bench_types.proofs.mask.cores_of_mask.Goals as goal

-- a mask of 32 bits has none at or above core 32
pub returns-else-cores-lt-BITS : goal.returns-else-cores-lt-BITS
returns-else-cores-lt-BITS c =
    let some : zero < 2 = omega arith in
    let many : 32 ≤ c.args.cores = omega (arith, c.if-cores-lt-BITS.false) in
    let most : 2 ^ 32 ≤ 2 ^ c.args.cores = pow-le-pow_right some many in
    let fits : c.args.mask < 2 ^ c.args.cores = omega (arith, most, c.ranges.mask.fits) in
    sym (mod-eq_of_lt fits)
