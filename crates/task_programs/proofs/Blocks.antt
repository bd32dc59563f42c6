-- The innermost one that passes a test, where the innermost stands last.
use Rattle.std.proofs.Common.{◌≡◌, ℕ, ◌+◌, ◌<◌, Bool, cond, List, [], ◌∷◌, length, take, get_or, Option, Some, None, ap, sym, ◌∙◌, reverse, ◌≤◌, arith}
use Rattle.std.specs.Prelude.{find, OnSome}
use Rattle.std.proofs.lemmas.List.{take_more, length-reverse, reverse-append}

pub last_of_more : {X : Type 0} (p : X → Bool) (xs : List X) (i : ℕ) (x : X) → i < length xs → x ≡ get_or xs i x
    → find p (reverse (take (i + 1) xs)) ≡ cond (p x) (Some x) (find p (reverse (take i xs)))
last_of_more p xs i x within is =
    ap (λ ys. find p (reverse ys)) (take_more xs i x within) ∙ ap (find p) (reverse-append (take i xs) (get_or xs i x ∷ []))
    ∙ ap (λ y. cond (p y) (Some y) (find p (reverse (take i xs)))) (sym is)

-- where one was taken there is room
pub room_left : {X : Type 0} (xs ys : List X) (most : ℕ) (popped : Option X) → OnSome popped (length ys + 1 ≡ length xs) → length xs ≤ most
    → OnSome popped (length (reverse ys) < most)
room_left xs ys most None shorter within = tt
room_left xs ys most (Some x) shorter within = omega (arith, shorter, within, length-reverse ys)
