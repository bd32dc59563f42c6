-- A ready list, task by task.
use Rattle.std.proofs.Common.{◌≡◌, ℕ, zero, suc, ◌+◌, List, [], ◌∷◌, drop, refl, sym, ap, ◌∙◌, arith}
use Rattle.std.specs.Prelude.{slice_get}
use Rattle.index_lists.specs.Listed.{Listed, items_of, first_of}

-- the first task of a list
pub first_get : (row : List Listed) → first_of row ≡ slice_get (items_of row) 0
first_get [] = refl
first_get (entry ∷ row) = refl

-- the task after a place
pub next_get : (row : List Listed) (k : ℕ) → first_of (drop (k + 1) row) ≡ slice_get (items_of row) (k + 1)
next_get row k = let one : k + 1 ≡ suc k = omega arith in ap (λ n. first_of (drop n row)) one ∙ at row (suc k) ∙ ap (slice_get (items_of row)) (sym one)
  where
    at : (row : List Listed) (k : ℕ) → first_of (drop k row) ≡ slice_get (items_of row) k
    at row zero = first_get row
    at [] (suc k) = refl
    at (entry ∷ row) (suc k) = at row k
