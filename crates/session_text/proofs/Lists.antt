-- Lists at references, as the definitions see them.
use Rattle.std.proofs.Common.{◌≡◌, ◌≤◌, ℕ, Bool, not, ◌||◌, List, [], ◌∷◌, drop, take, map, length, ap, refl, sym, ◌∙◌, arith}
use Rattle.std.specs.List.{list_any, prefix_len, position}
use Rattle.std.proofs.lemmas.List.{drop-map, length-map, length-take-le, take-map}

-- a test of what is seen
pub list_any_map : {A B : Type 0} (test : B → Bool) (see : A → B) (xs : List A) → list_any test (map see xs) ≡ list_any (λ x. test (see x)) xs
list_any_map test see [] = refl
list_any_map test see (x ∷ xs) = ap (λ rest. test (see x) || rest) (list_any_map test see xs)

prefix_len_map : {A B : Type 0} (test : B → Bool) (see : A → B) (xs : List A) → prefix_len test (map see xs) ≡ prefix_len (λ x. test (see x)) xs
prefix_len_map test see [] = refl
prefix_len_map test see (x ∷ xs) = rw (prefix_len_map test see xs) refl

-- the location of what is seen
pub position_map : {A B : Type 0} (test : B → Bool) (see : A → B) (xs : List A) → position test (map see xs) ≡ position (λ x. test (see x)) xs
position_map test see xs = rw (prefix_len_map (λ y. not (test y)) see xs, length-map xs see) refl

-- what is seen of all but the first ones
pub map_drop : {A B : Type 0} (see : A → B) (n : ℕ) (xs : List A) → map see (drop n xs) ≡ drop n (map see xs)
map_drop see n xs = sym (drop-map see n xs)

-- and of the first ones
pub map_take : {A B : Type 0} (see : A → B) (n : ℕ) (xs : List A) → map see (take n xs) ≡ take n (map see xs)
map_take see n xs = sym (take-map see n xs)

-- there are as many first ones as are asked for
pub length_take_map : {A B : Type 0} (see : A → B) (n : ℕ) (xs : List A) (seen : List B) → map see xs ≡ seen → n ≤ length seen → n ≡ length (take n xs)
length_take_map see n xs seen is enough =
    let same : length xs ≡ length seen = sym (length-map xs see) ∙ ap length is in
    sym (length-take-le n xs (omega (arith, same, enough)))
