-- What is left to deadlines as ticks pass.
use Rattle.std.proofs.Common.{◌≡◌, ◌<◌, ◌≤◌, ◌+◌, ◌-◌, ℕ, zero, suc, Bool, List, [], ◌∷◌, map, replicate, length, get_or, Option, None, Some, refl, sym, ap}
use Rattle.std.proofs.Common.{◌∙◌, arith}
use Rattle.std.specs.Option.{ForSome}
use Rattle.std.proofs.lemmas.List.{get_or-map, length-map}
use Rattle.std.proofs.lemmas.Option.{same_Some}
use Rattle.smp_kernel.specs.Deadlines.{one_less, left_after, lefts, AreNear, AreNone}

pub map_replicate : {A B : Type 0} (f : A → B) (n : ℕ) (a : A) → map f (replicate n a) ≡ replicate n (f a)
map_replicate f zero a = refl
map_replicate f (suc n) a = ap (λ rest. f a ∷ rest) (map_replicate f n a)

-- one tick more
pub lefts_later : (passed : ℕ) (ends : List (Option ℕ)) → lefts (passed + 1) ends ≡ map one_less (lefts passed ends)
lefts_later passed [] = refl
lefts_later passed (None ∷ ends) = ap (λ rest. None ∷ rest) (lefts_later passed ends)
lefts_later passed (Some end ∷ ends) =
    let less : end - (passed + 1) ≡ end - passed - 1 = omega arith in
    ap (λ (left : ℕ). Some left ∷ lefts (passed + 1) ends) less ∙ ap (λ (rest : List (Option ℕ)). Some (end - passed - 1) ∷ rest) (lefts_later passed ends)

pub near_later : (passed : ℕ) (ends : List (Option ℕ)) → AreNear passed ends → AreNear (passed + 1) ends
near_later passed ends near k d low end is = let bound = near k d low end is in omega (arith, bound)

pub near_anew : (passed : ℕ) (ends : List (Option ℕ)) → AreNear passed ends → AreNear 1 (lefts passed ends)
near_anew passed ends near k d low end is =
    let low' : k < length ends = omega (arith, low, length-map ends (left_after passed)) in
    at (get_or ends k None) (near k None low') end (sym (get_or-map (left_after passed) ends k None d low') ∙ is)
  where
    at : (old : Option ℕ) → ForSome old (λ end. end ≤ passed + 4294967295) → ForSome (left_after passed old) (λ end. end ≤ 1 + 4294967295)
    at None near end is = absurd (cc is)
    at (Some old) near end is = let bound = near old refl in let same = same_Some (old - passed) end is in omega (arith, bound, same)

-- where there is no deadline, none is left as the count begins anew
pub none_anew : (passed : ℕ) (ends : List (Option ℕ)) (some : Bool) → AreNone some ends → AreNone some (lefts passed ends)
none_anew passed ends some none off =
    ap (lefts passed) (none off) ∙ map_replicate (left_after passed) (length ends) None ∙ ap (λ n. replicate n None) (sym (length-map ends (left_after passed)))
