-- That an item stands in one list at most.
use Rattle.std.proofs.Common.{◌≡◌, ℕ, ◌≤◌, Bool, true, false, eqb, ltb, List, [], length, Option, Some, None, refl, sym, ap, subst, ◌∙◌, arith}
use Rattle.std.specs.List.{IsDistinct}
use Rattle.std.proofs.lemmas.Bool.Decides.{nat_tests}
use Rattle.std.proofs.lemmas.List.{get_or_past}
use Rattle.index_lists.specs.declared.links.Home.{Home}
use Rattle.index_lists.specs.Listed.{Listed, has_item, items_of, EachInOneList}
use Rattle.index_lists.specs.Shape.{home_at, is_home, StandFor}
use Rattle.index_lists.proofs.Fields.{row_at}
use Rattle.index_lists.proofs.Paths.{distinct_nil}

two_homes : (home : Option Home) (l k : ℕ) → is_home home l ≡ true → is_home home k ≡ true → l ≡ k
two_homes None l k one other = absurd (cc (one))
two_homes (Some home) l k one other = grind (arith, nat_tests, one, other)

module _ (items : ℕ) (named named_back : List ℕ) (homes : List (Option Home)) (lens : List ℕ) (lists : List (List Listed))
    (stand : StandFor items named named_back homes lens lists) where
  away_past : (item l : ℕ) (home : Option Home) → home_at homes item ≡ home → length lists ≤ l → is_home home l ≡ false
  away_past item l None is past = refl
  away_past item l (Some home) is past = let within = stand.within item home is in grind (arith, nat_tests, within, past)

  -- an item stands in its home alone, also of the numbers that are no lists
  at_its_home : (item l : ℕ) → has_item item (row_at lists l) ≡ is_home (home_at homes item) l
  at_its_home item l = at (ltb l (length lists)) refl
    where
      at : (b : Bool) → ltb l (length lists) ≡ b → has_item item (row_at lists l) ≡ is_home (home_at homes item) l
      at true low = stand.at_home item l (grind (arith, nat_tests, low))
      at false high =
          let past : length lists ≤ l = grind (arith, nat_tests, high) in
          ap (has_item item) (get_or_past lists l [] past) ∙ sym (away_past item l (home_at homes item) refl past)

  pub only_home : (item l : ℕ) (home : Home) → home_at homes item ≡ Some home → (has_item item (row_at lists l) ≡ true → Some home.list ≡ Some l) ×
      (Some home.list ≡ Some l → has_item item (row_at lists l) ≡ true)
  only_home item l home is =
      let here : has_item item (row_at lists l) ≡ eqb home.list l = at_its_home item l ∙ ap (λ h. is_home h l) is in
      (λ there. grind (arith, nat_tests, here, there), λ same. let listed : home.list ≡ l = cc (same) in grind (arith, nat_tests, here, listed))

  pub no_home : (item l : ℕ) → home_at homes item ≡ None → has_item item (row_at lists l) ≡ false
  no_home item l is = at_its_home item l ∙ ap (λ h. is_home h l) is

  once_in : (l : ℕ) → IsDistinct eqb (items_of (row_at lists l))
  once_in l = at (ltb l (length lists)) refl
    where
      at : (b : Bool) → ltb l (length lists) ≡ b → IsDistinct eqb (items_of (row_at lists l))
      at true low = stand.once l (grind (arith, nat_tests, low))
      at false high = subst (λ row. IsDistinct eqb (items_of row)) (sym (get_or_past lists l [] (grind (arith, nat_tests, high)))) distinct_nil

  pub in_one_list : EachInOneList (record { items = items; lists = lists })
  in_one_list = record {
    one_list = λ item l k one other. two_homes (home_at homes item) l k (sym (at_its_home item l) ∙ one) (sym (at_its_home item k) ∙ other);
    once = once_in;
  }
