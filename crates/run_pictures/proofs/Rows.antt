-- Rows one below another.
use Rattle.std.proofs.Common.{◌≡◌, ℕ, ◌+◌, List, [], ◌∷◌, ◌++◌, flat_map, ap, sym, ◌∙◌, append_assoc}
use Rattle.std.proofs.lemmas.List.{append-nil}
use Rattle.list_orders.specs.Search.{numbers}
use Rattle.list_orders.proofs.Stamped.{numbers_more}

one_last : (f : ℕ → List ℕ) (xs : List ℕ) (x : ℕ) → flat_map f (xs ++ x ∷ []) ≡ flat_map f xs ++ f x
one_last f [] x = append-nil (f x)
one_last f (y ∷ xs) x = ap (λ ys. f y ++ ys) (one_last f xs x) ∙ sym (append_assoc (f y) (flat_map f xs) (f x))

-- one row more was written
pub row_more : (f : ℕ → List ℕ) (count : ℕ) (before text after : List ℕ) → text ≡ before ++ flat_map f (numbers count) → after ≡ text ++ f count → after ≡
    before ++ flat_map f (numbers (count + 1))
row_more f count before text after were written =
    let more : flat_map f (numbers (count + 1)) ≡ flat_map f (numbers count) ++ f count = ap (flat_map f) (numbers_more count) ∙ one_last f (numbers count)
    count in
    let joined = append_assoc before (flat_map f (numbers count)) (f count) in
    cc (were, written, more, joined)
