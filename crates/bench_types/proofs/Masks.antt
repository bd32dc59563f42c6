-- A mask of all bits has those of all cores.
use Rattle.std.proofs.Common.{◌≡◌, ℕ, zero, suc, ◌+◌, ◌-◌, ◌*◌, ◌%◌, ◌^◌, ◌<◌, ◌≤◌, ap, ◌∙◌, arith}
use Rattle.std.proofs.Math.Nat.{suc-mul}
use Rattle.std.proofs.lemmas.Nat.{mod-mul-add, pow-add, pow_pos}
use Rattle.bench_types.specs.Header.{cores_of_mask}

one_less : (a w : ℕ) → 0 < a → 0 < w → a * w - 1 ≡ (a - 1) * w + (w - 1)
one_less zero w some wide = absurd (omega (arith, some))
one_less (suc a) w some wide =
    let split : suc a * w ≡ a * w + w = suc-mul a w in
    let less : suc a - 1 ≡ a = omega arith in
    ap (λ n. n - 1) split ∙ borrowed (a * w) ∙ ap (λ n. n * w + (w - 1)) (omega (arith, less))
  where
    borrowed : (p : ℕ) → (p + w) - 1 ≡ p + (w - 1)
    borrowed p = omega (arith, wide)

pub all_bits : (cores : ℕ) → cores ≤ 32 → cores_of_mask cores (2 ^ 32 - 1) ≡ 2 ^ cores - 1
all_bits cores few =
    let rest = 32 - cores in
    let whole : 32 ≡ rest + cores = omega (arith, few) in
    let parts : 2 ^ 32 ≡ 2 ^ rest * 2 ^ cores = ap (λ n. 2 ^ n) whole ∙ pow-add 2 rest cores in
    ap (λ n. (n - 1) % 2 ^ cores) parts
    ∙ ap (λ n. n % 2 ^ cores) (one_less (2 ^ rest) (2 ^ cores) (pow_pos rest) (pow_pos cores))
    ∙ mod-mul-add (2 ^ rest - 1) (2 ^ cores) (2 ^ cores - 1) (omega (arith, pow_pos cores))
