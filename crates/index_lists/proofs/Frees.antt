-- Whether an item is in some list, and that it is in none once it was taken out.
use Rattle.std.proofs.Common.{◌≡◌, ℕ, suc, Bool, true, false, not, cond, ltb, ◌||◌, ◌+◌, List, [], ◌∷◌, length, map, Some, None, refl, ap, ◌∙◌, arith}
use Rattle.std.specs.Prelude.{is_some}
use Rattle.std.specs.List.{list_any, position_or_len}
use Rattle.std.proofs.lemmas.Bool.Decides.{nat_tests}
use Rattle.index_lists.specs.Listed.{Listed, ListsView, has_item, without_item, list_of}

any_place : {X : Type 0} (p : X → Bool) (xs : List X) → ltb (position_or_len p xs) (length xs) ≡ list_any p xs
any_place p [] = grind (arith, nat_tests)
any_place p (x ∷ xs) = at (p x) refl (any_place p xs)
  where
    at : (b : Bool) → p x ≡ b → ltb (position_or_len p xs) (length xs) ≡ list_any p xs → ltb (cond (not b) (1 + position_or_len p xs) 0) (suc (length xs)) ≡
        (b || list_any p xs)
    at true is rest = grind (arith, nat_tests)
    at false is rest = grind (arith, nat_tests, rest)

-- an item is in some list where some list has it
pub some_list : (item : ℕ) (view : ListsView) → is_some (list_of item view) ≡ list_any (has_item item) view.lists
some_list item view = at (ltb (position_or_len (has_item item) view.lists) (length view.lists)) ∙ any_place (has_item item) view.lists
  where
    at : (b : Bool) → is_some (cond b (Some (position_or_len (has_item item) view.lists)) None) ≡ b
    at true = refl
    at false = refl

pub no_list : (item : ℕ) (view : ListsView) → list_any (has_item item) view.lists ≡ false → list_of item view ≡ None
no_list item view none = ap (λ b. cond b (Some (position_or_len (has_item item) view.lists)) None) (any_place (has_item item) view.lists ∙ none)

gone_from_row : (item : ℕ) (row : List Listed) → has_item item (without_item item row) ≡ false
gone_from_row item [] = refl
gone_from_row item (e ∷ row) = grind (arith, nat_tests, gone_from_row item row)

pub gone_from_all : (item : ℕ) (lists : List (List Listed)) → list_any (has_item item) (map (without_item item) lists) ≡ false
gone_from_all item [] = refl
gone_from_all item (row ∷ lists) = grind (arith, gone_from_row item row, gone_from_all item lists)
