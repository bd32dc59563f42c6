-- What is made of the numbers below one, one after another.
use Rattle.std.proofs.Common.{◌≡◌, ℕ, ◌+◌, List, [], ◌∷◌, ◌++◌, flat_map, ap, sym, ◌∙◌, append_assoc}
use Rattle.std.proofs.lemmas.List.{append-nil}
use Rattle.list_orders.specs.Search.{numbers}
use Rattle.list_orders.proofs.Stamped.{numbers_more}

flat_map_more : {X : Type 0} (f : X → List ℕ) (xs : List X) (x : X) → flat_map f (xs ++ x ∷ []) ≡ flat_map f xs ++ f x
flat_map_more f [] x = append-nil (f x)
flat_map_more f (y ∷ ys) x = ap (λ rest. f y ++ rest) (flat_map_more f ys x) ∙ sym (append_assoc (f y) (flat_map f ys) (f x))

-- the text of one number more
pub next_text : (f : ℕ → List ℕ) (before text after : List ℕ) (n : ℕ) → text ≡ before ++ flat_map f (numbers n) → after ≡ text ++ f n → after ≡ before ++
    flat_map f (numbers (n + 1))
next_text f before text after n so_far pushed =
    pushed ∙ ap (λ all. all ++ f n) so_far ∙ append_assoc before (flat_map f (numbers n)) (f n)
    ∙ ap (λ all. before ++ all) (sym (ap (flat_map f) (numbers_more n) ∙ flat_map_more f (numbers n) n))
