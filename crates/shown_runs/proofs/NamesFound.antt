-- Names of tasks as words and as their bytes.
use Rattle.std.proofs.Common.{◌≡◌, ℕ, zero, suc, ◌<◌, Bool, List, [], ◌∷◌, length, get_or, nat_lt, map, Some, None, not, string_bytes, refl, ap₂, arith}
use Rattle.std.specs.Prelude.{String, if◌then◌else◌, position}
use Rattle.std.specs.List.{prefix_len}
use Rattle.std.specs.declared.alloc.Global.{Global}

prefix_mapped : (p : List ℕ → Bool) (names : List (String Global)) → prefix_len p (map string_bytes names) ≡ prefix_len (λ name. p (string_bytes name)) names
prefix_mapped p [] = refl
prefix_mapped p (name ∷ names) = rw (prefix_mapped p names) refl

many_mapped : (names : List (String Global)) → length (map string_bytes names) ≡ length names
many_mapped [] = refl
many_mapped (name ∷ names) = rw (many_mapped names) refl

pub position_mapped : (p : List ℕ → Bool) (names : List (String Global)) → position p (map string_bytes names) ≡ position (λ name. p (string_bytes name)) names
position_mapped p names =
    ap₂ (λ (k n : ℕ). if nat_lt k n then Some k else None) (prefix_mapped (λ word. not (p word)) names) (many_mapped names)

pub name_at : (names : List (String Global)) (i : ℕ) (d : String Global) → i < length names → get_or (map string_bytes names) i [] ≡ string_bytes
    (get_or names i d)
name_at [] i d within = absurd (omega (arith, within))
name_at (name ∷ names) zero d within = refl
name_at (name ∷ names) (suc i) d within = name_at names i d (omega (arith, within))
