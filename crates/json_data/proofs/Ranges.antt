-- The tokens of a value are in range where serde_json reads that value.
use Rattle.std.proofs.Common.{◌≡◌, ℕ, zero, suc, ◌≤◌, max, ◌+◌, ◌<◌, List, ◌∷◌, ◌++◌, length, map, drop, get_or, Bool, true, false, ◌&&◌, Option, Some, None}
use Rattle.std.proofs.Common.{is_some, option_map, option_and_then, refl, sym, ap, ◌∙◌, arith, append_assoc}
use Rattle.std.specs.Prelude.{nat_le}
use Rattle.std.specs.Option.{option_map_or}
use Rattle.std.proofs.lemmas.List.{drop_all, drop_more, get_or-map, length-map}
use Rattle.std.proofs.lemmas.Bool.Decides.{nat_tests}
use Rattle.json.specs.Token.{Token}
use Rattle.json.specs.Json as json
use Rattle.json.specs.Tree.{json_tokens, items_tokens, members_tokens, depth, items_depth, members_depth}
use Rattle.serde_json.specs.Data.{Num, Data, Items, Members, no_members, number, array, object, item, put}
use Rattle.serde_json.specs.Read.{of_json, of_items, of_members, number_of}
use Rattle.json.specs.Tape.{node_token}
use Rattle.json.specs.declared.tape.Node.{Node}
use Rattle.json.proofs.Found.{Some_inj}
use Rattle.json_data.specs.Reading.{are_in_range, left_after}

mapped : {A B : Type 0} (f : A → B) (o : Option A) → is_some (option_map f o) ≡ is_some o
mapped f None = refl
mapped f (Some a) = refl

and_both : (a b c d e : Bool) → ((a && c) && ((b && d) && e)) ≡ (((a && b) && (c && d)) && e)
and_both a b c d e = grind arith

number_range : (n : ℕ) (o : Option Num) (rest : List Token) → option_map_or (λ left. are_in_range left rest) (option_map (λ value. n) o) false ≡
    (is_some o && are_in_range n rest)
number_range n None rest = refl
number_range n (Some x) rest = refl

flat : (n : ℕ) (a b : Bool) → (a && b) ≡ ((nat_le 0 n && a) && b)
flat n a b = grind (arith, nat_tests)

too_deep : (d : ℕ) (a b : Bool) → false ≡ ((nat_le (suc d) 0 && a) && b)
too_deep d a b = grind (arith, nat_tests)

inside : (d n : ℕ) (a b : Bool) → ((nat_le d n && a) && b) ≡ ((nat_le (suc d) (suc n) && a) && b)
inside d n a b = grind (arith, nat_tests)

max_test : (a b n : ℕ) → nat_le (max a b) n ≡ (nat_le a n && nat_le b n)
max_test a b n = grind (arith, nat_tests)

both : (o : Option Data) (p : Option Items) → (is_some o && is_some p) ≡ is_some (option_and_then (λ d. option_map (item d) p) o)
both None p = refl
both (Some d) p = sym (mapped (item d) p)

-- a member more, where the others are in range as they are read
member_range : (n : ℕ) (j : json.Json) (ms : json.Members) (k : List ℕ) (found : Members) (rest : List Token) (o : Option Data)
    → ((d : Data) → are_in_range n (members_tokens ms ++ rest) ≡ ((nat_le (members_depth ms) n && is_some (of_members ms (put k d found))) && are_in_range
    (suc n) rest))
    → ((nat_le (depth j) n && is_some o) && are_in_range n (members_tokens ms ++ rest)) ≡
    ((nat_le (max (depth j) (members_depth ms)) n && is_some (option_and_then (λ d. of_members ms (put k d found)) o)) && are_in_range (suc n) rest)
member_range n j ms k found rest None more = grind arith
member_range n j ms k found rest (Some d) more =
    ap (λ b. (nat_le (depth j) n && true) && b) (more d)
    ∙ and_both (nat_le (depth j) n) (nat_le (members_depth ms) n) true (is_some (of_members ms (put k d found))) (are_in_range (suc n) rest)
    ∙ ap (λ b. (b && is_some (of_members ms (put k d found))) && are_in_range (suc n) rest) (sym (max_test (depth j) (members_depth ms) n))

mutual
  unfolding are_in_range

  pub range_of_json : (n : ℕ) (j : json.Json) (rest : List Token) → are_in_range n (json_tokens j ++ rest) ≡
      ((nat_le (depth j) n && is_some (of_json j)) && are_in_range n rest)
  range_of_json n json.null rest = flat n true (are_in_range n rest)
  range_of_json n (json.boolean b) rest = flat n true (are_in_range n rest)
  range_of_json n (json.number s) rest = number_range n (number_of s) rest ∙ flat n (is_some (number_of s)) (are_in_range n rest) ∙ ap
      (λ b. (nat_le 0 n && b) && are_in_range n rest) (sym (mapped number (number_of s)))
  range_of_json n (json.string s) rest = flat n true (are_in_range n rest)
  range_of_json zero (json.array js) rest = too_deep (items_depth js) (is_some (option_map array (of_items js))) (are_in_range zero rest)
  range_of_json (suc n) (json.array js) rest = range_of_items n js rest ∙ inside (items_depth js) n (is_some (of_items js)) (are_in_range (suc n) rest) ∙ ap
      (λ b. (nat_le (suc (items_depth js)) (suc n) && b) && are_in_range (suc n) rest) (sym (mapped array (of_items js)))
  range_of_json zero (json.object ms) rest = too_deep (members_depth ms) (is_some (option_map object (of_members ms no_members))) (are_in_range zero rest)
  range_of_json (suc n) (json.object ms) rest = range_of_members n ms no_members rest ∙ inside (members_depth ms) n (is_some (of_members ms no_members))
      (are_in_range (suc n) rest) ∙ ap (λ b. (nat_le (suc (members_depth ms)) (suc n) && b) && are_in_range (suc n) rest)
      (sym (mapped object (of_members ms no_members)))

  pub range_of_items : (n : ℕ) (js : json.Items) (rest : List Token) → are_in_range n (items_tokens js ++ rest) ≡
      ((nat_le (items_depth js) n && is_some (of_items js)) && are_in_range (suc n) rest)
  range_of_items n json.no_items rest = flat n true (are_in_range (suc n) rest)
  range_of_items n (json.item j js) rest =
      ap (are_in_range n) (append_assoc (json_tokens j) (items_tokens js) rest)
      ∙ range_of_json n j (items_tokens js ++ rest)
      ∙ ap (λ b. (nat_le (depth j) n && is_some (of_json j)) && b) (range_of_items n js rest)
      ∙ and_both (nat_le (depth j) n) (nat_le (items_depth js) n) (is_some (of_json j)) (is_some (of_items js)) (are_in_range (suc n) rest)
      ∙ ap (λ b. (b && (is_some (of_json j) && is_some (of_items js))) && are_in_range (suc n) rest) (sym (max_test (depth j) (items_depth js) n))
      ∙ ap (λ b. (nat_le (max (depth j) (items_depth js)) n && b) && are_in_range (suc n) rest) (both (of_json j) (of_items js))

  pub range_of_members : (n : ℕ) (ms : json.Members) (found : Members) (rest : List Token) → are_in_range n (members_tokens ms ++ rest) ≡
      ((nat_le (members_depth ms) n && is_some (of_members ms found)) && are_in_range (suc n) rest)
  range_of_members n json.no_members found rest = flat n true (are_in_range (suc n) rest)
  range_of_members n (json.member k j ms) found rest =
      ap (are_in_range n) (append_assoc (json_tokens j) (members_tokens ms) rest)
      ∙ range_of_json n j (members_tokens ms ++ rest)
      ∙ member_range n j ms k found rest (of_json j) (λ d. range_of_members n ms (put k d found) rest)

-- ---- the nodes of a tape, one after another

pub range_turn : (ns : List Node) (i n : ℕ) (d : Node) → i < length ns
    → are_in_range n (drop i (map node_token ns)) ≡ option_map_or (λ left. are_in_range left (drop (i + 1) (map node_token ns)))
    (left_after n (node_token (get_or ns i d))) false
unfolding are_in_range
range_turn ns i n d low =
    let more = drop_more (map node_token ns) i (node_token d) (omega (arith, low, length-map ns node_token)) in
    ap (are_in_range n) (more ∙ ap (λ t. t ∷ drop (i + 1) (map node_token ns)) (get_or-map node_token ns i d (node_token d) low))

pub range_end : (ns : List Node) (i n : ℕ) → length ns ≤ i → are_in_range n (drop i (map node_token ns)) ≡ true
unfolding are_in_range
range_end ns i n past = ap (are_in_range n) (drop_all i (map node_token ns) (omega (arith, past, length-map ns node_token)))

-- at most one more may open
pub one_more : (n m : ℕ) (t : Token) → Some m ≡ left_after n t → m ≤ suc n
one_more zero m Token.begin_object is = absurd (cc is)
one_more (suc n) m Token.begin_object is = omega (arith, Some_inj m n is)
one_more n m Token.end_object is = omega (arith, Some_inj m (suc n) is)
one_more zero m Token.begin_array is = absurd (cc is)
one_more (suc n) m Token.begin_array is = omega (arith, Some_inj m n is)
one_more n m Token.end_array is = omega (arith, Some_inj m (suc n) is)
one_more n m (Token.key s) is = omega (arith, Some_inj m n is)
one_more n m (Token.string s) is = omega (arith, Some_inj m n is)
one_more n m (Token.number s) is = by (number_of s) is
  where
    by : (o : Option Num) → Some m ≡ option_map (λ value. n) o → m ≤ suc n
    by None is = absurd (cc is)
    by (Some x) is = omega (arith, Some_inj m n is)
one_more n m (Token.boolean b) is = omega (arith, Some_inj m n is)
one_more n m Token.null is = omega (arith, Some_inj m n is)
one_more n m Token.bad is = omega (arith, Some_inj m n is)
