-- The first and the last entry of a list.
use Rattle.std.proofs.Common.{◌≡◌, ℕ, ◌+◌, ◌<◌, true, false, cond, ltb, List, [], ◌∷◌, ◌++◌, length, get_or, Option, Some, None, option_map, refl, sym, ap}
use Rattle.std.proofs.Common.{subst, ◌∙◌, arith}
use Rattle.std.specs.Prelude.{reverse}
use Rattle.std.specs.List.{AllByRecursion}
use Rattle.std.proofs.lemmas.Bool.Decides.{nat_tests}
use Rattle.std.proofs.lemmas.List.{reverse-append, map-append}
use Rattle.list_orders.proofs.Filters.{All-append}
use Rattle.index_lists.specs.declared.links.Home.{Home}
use Rattle.index_lists.specs.Listed.{Listed, ListsView, items_of, key_of, first_entry, last_entry}
use Rattle.index_lists.specs.Rings.{IsPath, first_or}
use Rattle.index_lists.specs.Shape.{home_at, StandFor}
use Rattle.index_lists.proofs.Fields.{row_at, homed_low}
use Rattle.index_lists.proofs.Looks.{key_of_home}

path_first : (named : List ℕ) (end : ℕ) (nodes : List ℕ) → IsPath named end nodes end → get_or named end 0 ≡ first_or end nodes
path_first named end [] path = path
path_first named end (node ∷ nodes) path = path.0

All-reverse : (P : Listed → Type 0) (xs : List Listed) → AllByRecursion P xs → AllByRecursion P (reverse xs)
All-reverse P [] all = tt
All-reverse P (x ∷ xs) all = subst (AllByRecursion P) (sym (reverse-append (x ∷ []) xs))
    (All-append P (reverse xs) (x ∷ []) (All-reverse P xs all.1) (all.0, tt))

items_of-reverse : (xs : List Listed) → items_of (reverse xs) ≡ reverse (items_of xs)
items_of-reverse [] = refl
items_of-reverse (x ∷ xs) =
    ap items_of (reverse-append (x ∷ []) xs) ∙ map-append (λ (e : Listed). e.item) (reverse xs) (x ∷ [])
    ∙ ap (λ ns. ns ++ x.item ∷ []) (items_of-reverse xs) ∙ sym (reverse-append (x.item ∷ []) (items_of xs))

module _ (items : ℕ) (named named_back : List ℕ) (homes : List (Option Home)) (lens : List ℕ) (lists : List (List Listed))
    (stand : StandFor items named named_back homes lens lists)
    (l : ℕ) (low : l < length lists) where
  abbrev view : ListsView
  view = record { items = items; lists = lists }

  abbrev IsHome : Listed → Type 0
  IsHome e = home_at homes e.item ≡ Some (record { list = l; key = e.key })

  -- the node with its key, where it is an item
  abbrev pub entry_at : ℕ → Option (ℕ × ℕ)
  entry_at node = cond (ltb node items) (option_map (λ key. (node, key)) (key_of node view)) None

  found : (entries : List Listed) → AllByRecursion IsHome entries → entry_at (first_or (items + l) (items_of entries)) ≡ first_entry entries
  found [] homed = ap (λ b. cond b (option_map (λ key. (items + l, key)) (key_of (items + l) view)) None)
      (let past : ltb (items + l) items ≡ false = grind (arith, nat_tests) in past)
  found (e ∷ entries) homed =
      let home : Home = record { list = l; key = e.key } in
      let less = homed_low items named named_back homes lens lists stand e.item home homed.0 in
      let within : ltb e.item items ≡ true = grind (arith, nat_tests, less) in
      ap (λ b. cond b (option_map (λ key. (e.item, key)) (key_of e.item view)) None) within
      ∙ ap (option_map (λ key. (e.item, key))) (key_of_home items named named_back homes lens lists stand e.item home homed.0)

  pub first_found : entry_at (get_or named (items + l) 0) ≡ first_entry (row_at lists l)
  first_found =
      ap entry_at (path_first named (items + l) (items_of (row_at lists l)) (stand.rings l low).forwards)
      ∙ found (row_at lists l) (stand.keys l low)

  pub last_found : entry_at (get_or named_back (items + l) 0) ≡ last_entry (row_at lists l)
  last_found =
      ap entry_at (path_first named_back (items + l) (reverse (items_of (row_at lists l))) (stand.rings l low).backwards
      ∙ ap (first_or (items + l)) (sym (items_of-reverse (row_at lists l))))
      ∙ found (reverse (row_at lists l)) (All-reverse IsHome (row_at lists l) (stand.keys l low))
