-- A number that one digit writes.
use Rattle.std.proofs.Common.{◌≡◌, ℕ, zero, suc, ◌+◌, ◌-◌, ◌≤◌, ◌<◌, List, [], ◌∷◌, length, get_or, Some, refl, subst, arith}
use Rattle.serde_json.specs.Data.{unsigned}
use Rattle.serde_json.specs.Read.{number_of}
use Rattle.serde_json.proofs.OnLiterals.{serde_json_on_literals}

at : (n : ℕ) → n < 10 → number_of ((n + 48) ∷ []) ≡ Some (unsigned n)
unfolding serde_json_on_literals
at zero low = refl
at (suc zero) low = refl
at (suc (suc zero)) low = refl
at (suc (suc (suc zero))) low = refl
at (suc (suc (suc (suc zero)))) low = refl
at (suc (suc (suc (suc (suc zero))))) low = refl
at (suc (suc (suc (suc (suc (suc zero)))))) low = refl
at (suc (suc (suc (suc (suc (suc (suc zero))))))) low = refl
at (suc (suc (suc (suc (suc (suc (suc (suc zero)))))))) low = refl
at (suc (suc (suc (suc (suc (suc (suc (suc (suc zero))))))))) low = refl
at (suc (suc (suc (suc (suc (suc (suc (suc (suc (suc n)))))))))) low = absurd (omega (arith, low))

of_digit : (c : ℕ) → 48 ≤ c → c < 58 → number_of (c ∷ []) ≡ Some (unsigned (c - 48))
of_digit c least most =
    let same : (c - 48) + 48 ≡ c = omega (arith, least) in
    subst (λ (k : ℕ). number_of (k ∷ []) ≡ Some (unsigned (c - 48))) same
    (at (c - 48) (omega (arith, least, most)))

pub of_one : (bytes : List ℕ) → length bytes ≡ 1 → 48 ≤ get_or bytes 0 0 → get_or bytes 0 0 < 58
    → number_of bytes ≡ Some (unsigned (get_or bytes 0 0 - 48))
of_one [] one least most = absurd (cc one)
of_one (c ∷ []) one least most = of_digit c least most
of_one (c ∷ d ∷ more) one least most = absurd (omega (arith, one))
