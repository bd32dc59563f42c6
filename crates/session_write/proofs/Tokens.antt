-- Tokens that are written one after another are those of the whole.
use Rattle.std.proofs.Common.{◌≡◌, ℕ, ◌+◌, ◌<◌, List, [], ◌∷◌, ◌++◌, length, get_or, drop, map, reverse, refl, sym, ap, ◌∙◌, append_assoc, append-nil}
use Rattle.std.proofs.lemmas.List.{at_drop_more}
use mathlib.Core.List.{reverse_aux}
use Rattle.json.specs.Token.{Token, begin_array, begin_object, end_array, end_object, key}
use Rattle.json.specs.Print.{print}
use Rattle.json.specs.Tree.{json_tokens, items_tokens, members_tokens}
use Rattle.serde_json.specs.Data.{Data, null, boolean, number, string, array, object, Items, no_items, item, Members, no_members, member}
use Rattle.serde_json.specs.View.{items_of}
use Rattle.serde_json.specs.Written.{outline, items_outline, members_outline, compact_text}
use Rattle.serde_json.proofs.Texts.{print-outline}
use Rattle.session_write.specs.Tokens.{with_value, with_items, with_members}
use Rattle.session_write.specs.Written.{members}

-- joined members are the first and then the second
pub members_joined : (first second : List (List ℕ × Data)) (written : List Token) → with_members (members (first ++ second)) written
    ≡ with_members (members second) (with_members (members first) written)
members_joined [] second written = refl
members_joined (each ∷ first) second written = members_joined first second (with_value each.1 (key each.0 ∷ written))

-- the tokens, and then those of the items from the index on
abbrev pub with_rest : {A : Type 0} → (A → Data) → List A → ℕ → List Token → List Token
with_rest data_of items index written = with_items (items_of (map data_of (drop index items))) written

pub one_more : {A : Type 0} (data_of : A → Data) (items : List A) (index : ℕ) (d : A) (old new : List Token) → index < length items
    → new ≡ with_value (data_of (get_or items index d)) old → with_rest data_of items (index + 1) new ≡ with_rest data_of items index old
one_more data_of items index d old new within is =
    ap (with_rest data_of items (index + 1)) is ∙ sym (at_drop_more (λ left. with_items (items_of (map data_of left)) old) items index d within)

-- ---- the text

regrouped : (written first second rest : List Token) → reverse_aux written (first ++ (second ++ rest)) ≡ reverse_aux written ((first ++ second) ++ rest)
regrouped written first second rest = ap (reverse_aux written) (sym (append_assoc first second rest))

mutual
  value_reversed : (value : Data) (written rest : List Token) → reverse_aux (with_value value written) rest
      ≡ reverse_aux written (json_tokens (outline value) ++ rest)
  value_reversed null written rest = refl
  value_reversed (boolean b) written rest = refl
  value_reversed (number n) written rest = refl
  value_reversed (string s) written rest = refl
  value_reversed (array items) written rest = items_reversed items (begin_array ∷ written) rest
  value_reversed (object all) written rest = members_reversed all (begin_object ∷ written) rest

  items_reversed : (items : Items) (written rest : List Token) → reverse_aux (with_items items written) (end_array ∷ rest)
      ≡ reverse_aux written (items_tokens (items_outline items) ++ rest)
  items_reversed no_items written rest = refl
  items_reversed (item first others) written rest =
      let tokens = items_tokens (items_outline others) in
      items_reversed others (with_value first written) rest
      ∙ value_reversed first written (tokens ++ rest)
      ∙ regrouped written (json_tokens (outline first)) tokens rest

  members_reversed : (all : Members) (written rest : List Token) → reverse_aux (with_members all written) (end_object ∷ rest)
      ≡ reverse_aux written (members_tokens (members_outline all) ++ rest)
  members_reversed no_members written rest = refl
  members_reversed (member name value others) written rest =
      let tokens = members_tokens (members_outline others) in
      members_reversed others (with_value value (key name ∷ written)) rest
      ∙ value_reversed value (key name ∷ written) (tokens ++ rest)
      ∙ regrouped (key name ∷ written) (json_tokens (outline value)) tokens rest

-- the text of a value's tokens is its compact text
pub text_of_value : (value : Data) → print (reverse (with_value value [])) ≡ compact_text value
text_of_value value = ap print (value_reversed value [] [] ∙ append-nil (json_tokens (outline value))) ∙ print-outline value
