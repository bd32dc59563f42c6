-- What loops over hindrances have found so far.
use Rattle.std.proofs.Common.{◌≡◌, ◌<◌, ◌≤◌, ℕ, zero, suc, ◌+◌, ◌-◌, List, [], ◌∷◌, length, drop, get_or, Bool, true, false, refl, subst, ap, ◌∙◌, arith}
use Rattle.std.specs.Int.{bit_at}
use Rattle.std.specs.Prelude.{sum_by, ◌&&◌, ◌/◌, ◌%◌, ◌^◌}
use Rattle.std.proofs.Math.Nat.{pow-le-pow_right}
use Rattle.std.proofs.Math.Seq.{drop-cons}
use Rattle.std.proofs.lemmas.List.{drop_all}
use Rattle.std.proofs.lemmas.Nat.{shr_below}
use Rattle.std.proofs.lemmas.List.Sums.{sum_by_push}
use Rattle.list_orders.specs.Search.{numbers}
use Rattle.list_orders.proofs.Stamped.{numbers_more}
use Rattle.bench_model.specs.SameTest.{are_same_lists}

-- a word has no bit above its own
pub no_bit : (mask core : ℕ) → mask < 2 ^ 32 → 32 ≤ core → bit_at mask core ≡ 0
no_bit mask core few past =
    let powers : 2 ^ 32 ≤ 2 ^ core = pow-le-pow_right (omega arith) past in
    let same : core ≡ 0 + core = omega arith in
    let none = shr_below mask 0 core (subst (λ k. mask < 2 ^ k) same (omega (arith, few, powers))) in
    let zero : mask / 2 ^ core ≡ 0 = omega (arith, none) in
    ap (λ n. n % 2) zero

-- one task more
pub sum_more : (f : ℕ → ℕ) (n : ℕ) → sum_by f (numbers (n + 1)) ≡ sum_by f (numbers n) + f n
sum_more f n = ap (sum_by f) (numbers_more n) ∙ sum_by_push f (numbers n) n

pub pieces_more : (f : ℕ → ℕ) (n pieces count : ℕ) → pieces ≡ sum_by f (numbers n) → count ≡ f n → pieces + count ≡ sum_by f (numbers (n + 1))
pieces_more f n pieces count are is = let more = sum_more f n in omega (arith, are, is, more)

-- the first tasks have no more than all
pub sum_part : (f : ℕ → ℕ) (m k : ℕ) → sum_by f (numbers m) ≤ sum_by f (numbers (m + k))
sum_part f m zero = let same : m + 0 ≡ m = omega arith in omega (arith, ap (λ n. sum_by f (numbers n)) same)
sum_part f m (suc k) =
    let rest = sum_part f m k in
    let more : sum_by f (numbers (m + suc k)) ≡ sum_by f (numbers (m + k)) + f (m + k) =
    (let n : m + suc k ≡ m + k + 1 = omega arith in ap (λ n. sum_by f (numbers n)) n) ∙ sum_more f (m + k) in
    omega (arith, rest, more)

-- too many of the first tasks are too many of all
pub too_many : (f : ℕ → ℕ) (n all most pieces count : ℕ) → n < all → pieces ≡ sum_by f (numbers n) → count ≡ f n → most < pieces + count → most < sum_by f
    (numbers all)
too_many f n all most pieces count early are is many =
    let more = pieces_more f n pieces count are is in
    let rest : n + 1 + (all - (n + 1)) ≡ all = omega (arith, early) in
    let part = sum_part f (n + 1) (all - (n + 1)) in
    let same = ap (λ k. sum_by f (numbers k)) rest in
    omega (arith, many, more, part, same)

-- two lists of one length that are the same so far
pub same_so_far : {X : Type 0} (same : X → X → Bool) (xs ys : List X) (k : ℕ) (d : X) → k < length xs → k < length ys
    → are_same_lists same (drop k xs) (drop k ys) ≡ (same (get_or xs k d) (get_or ys k d) && are_same_lists same (drop (suc k) xs) (drop (suc k) ys))
same_so_far same xs ys k d few within =
    ap (λ zs. are_same_lists same zs (drop k ys)) (drop-cons xs k d few)
    ∙ ap (λ zs. are_same_lists same (get_or xs k d ∷ drop (suc k) xs) zs) (drop-cons ys k d within)

pub both_done : {X : Type 0} (same : X → X → Bool) (xs ys : List X) (k : ℕ) → length xs ≡ length ys → length xs ≤ k → are_same_lists same (drop k xs)
    (drop k ys) ≡ true
both_done same xs ys k long done =
    ap (λ zs. are_same_lists same zs (drop k ys)) (drop_all k xs (omega (arith, done)))
    ∙ ap (are_same_lists same []) (drop_all k ys (omega (arith, done, long)))

-- lists of two lengths are not the same
pub apart_by_length : {X : Type 0} (same : X → X → Bool) (xs ys : List X) → (length xs ≡ length ys → ⊥) → are_same_lists same xs ys ≡ false
apart_by_length same [] [] apart = absurd (apart refl)
apart_by_length same [] (y ∷ ys) apart = refl
apart_by_length same (x ∷ xs) [] apart = refl
apart_by_length same (x ∷ xs) (y ∷ ys) apart = at (same x y) (apart_by_length same xs ys (λ e. apart (ap suc e)))
  where
    at : (b : Bool) → are_same_lists same xs ys ≡ false → (b && are_same_lists same xs ys) ≡ false
    at true rest = rest
    at false rest = refl
