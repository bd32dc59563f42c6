-- What is said of one part more.
use Rattle.std.proofs.Common.{◌≡◌, ℕ, ◌+◌, ◌-◌, ◌≤◌, List, ◌++◌, take, drop, sym, subst, ap, ap₂, ◌∙◌, arith}
use Rattle.std.specs.List.{AllZip}
use Rattle.std.proofs.lemmas.List.{drop-take, take-append-drop, take-take}
use Rattle.rayon.proofs.ListFacts.{AllZip-append}

take_part : {X : Type 0} (xs : List X) (done count : ℕ) → take (done + count) xs ≡ take done xs ++ take count (drop done xs)
take_part xs done count =
    let some : done ≤ done + count = omega arith in
    sym (take-append-drop done (take (done + count) xs))
    ∙ ap₂ (λ first second. first ++ second) (take-take done (done + count) xs some) (drop-take done count xs)

-- each of the next items has its result
pub part_more : {X Y : Type 0} (R : X → Y → Type 0) (xs : List X) (ys zs : List Y) (done end : ℕ) → done ≤ end → AllZip R (take done xs) ys
    → AllZip R (take (end - done) (drop done xs)) zs → AllZip R (take end xs) (ys ++ zs)
part_more R xs ys zs done end more first second =
    let count : end ≡ done + (end - done) = omega arith in
    let whole : take end xs ≡ take done xs ++ take (end - done) (drop done xs) = ap (λ (n : ℕ). take n xs) count ∙ take_part xs done (end - done) in
    subst (λ xs. AllZip R xs (ys ++ zs)) (sym whole) (AllZip-append R (take done xs) (take (end - done) (drop done xs)) ys zs first second)
