-- Counts that grow by several steps.
use Rattle.std.proofs.Common.{◌≡◌, ℕ, zero, suc, ◌+◌, ◌-◌, ◌^◌, min, refl, sym, ap, ◌∙◌, arith, add-zero, zero-add}
use Rattle.smp_kernel.specs.Counting.{meter_after}

capped : (most count first second : ℕ) → min (min (count + first) most + second) most ≡ min (count + (first + second)) most
capped most count first second = omega arith

pub counted_more : (steps count : ℕ) → min (meter_after steps count + 1) (2 ^ 64 - 1) ≡ meter_after (steps + 1) count
counted_more zero count = refl
counted_more (suc steps) count =
    let next : suc steps + 1 ≡ suc (suc steps) = omega arith in
    capped (2 ^ 64 - 1) count (suc steps) 1 ∙ ap (λ n. min (count + n) (2 ^ 64 - 1)) next ∙ sym (ap (λ n. meter_after n count) next)

pub counted_twice : (first second count : ℕ) → meter_after second (meter_after first count) ≡ meter_after (first + second) count
counted_twice first zero count = ap (λ steps. meter_after steps count) (sym (add-zero first))
counted_twice zero (suc second) count = ap (λ steps. meter_after steps count) (sym (zero-add (suc second)))
counted_twice (suc first) (suc second) count =
    let both : suc first + suc second ≡ suc (suc first + second) = omega arith in
    capped (2 ^ 64 - 1) count (suc first) (suc second) ∙ ap (λ n. min (count + n) (2 ^ 64 - 1)) both ∙ sym (ap (λ n. meter_after n count) both)
