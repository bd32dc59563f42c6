-- A JSON value of whole numbers, texts and objects with ascending ASCII keys is read back from its compact text.
use Rattle.std.proofs.Common.{◌≡◌, ℕ, suc, max, ◌^◌, ◌<◌, ◌≤◌, Bool, true, false, ◌&&◌, List, [], ◌∷◌, ◌++◌, Option, Some, option_map, option_and_then, Ok}
use Rattle.std.proofs.Common.{decimal, refl, sym, ap, ap₂, ◌∙◌, subst, append-nil, IsUtf8, Ordering, Less, Equal, Greater, nat_cmp}
use Rattle.std.specs.Prelude.{⊤}
use Rattle.std.specs.Ordering.{is_gt, match_ordering}
use Rattle.std.specs.Cmp.Lexicographic.{slice_cmp}
use Rattle.std.proofs.lemmas.Bool.{and_parts, and_from}
use Rattle.std.proofs.lemmas.Str.{IsUtf8-append, IsUtf8-from_ascii}
use Rattle.std.proofs.lemmas.Fmt.{IsAscii-decimal}
use Rattle.json.specs.Token.{Token}
use Rattle.json.specs.Lex.{tokens}
use Rattle.json.specs.Json as json
use Rattle.json.specs.Print.{quoted}
use Rattle.json.specs.Tree as tree
use Rattle.json.specs.Tree.{json_tokens, HasNumbers, ItemsHaveNumbers, MembersHaveNumbers}
use Rattle.json.proofs.Printed.Decimals.{IsNumber-decimal}
use Rattle.json.proofs.Printed.Tokens.{tokens-print}
use Rattle.json.proofs.Printed.Trees.{value-json_tokens, ArePrintable-json_tokens}
use Rattle.json.proofs.Printed.Utf8.{are_ascii, IsUtf8-are_ascii, IsUtf8-quoted}
use Rattle.serde_json.specs.Data.{Num, unsigned, negative, float, Data, null, boolean, number, string, array, object, Items, no_items, item, Members}
use Rattle.serde_json.specs.Data.{no_members, member, put, depth, items_depth, members_depth}
use Rattle.serde_json.specs.Read.{read, of_json, of_items, of_members, max_depth}
use Rattle.serde_json.specs.Written.{outline, items_outline, members_outline, comma_if, compact_text}
use Rattle.serde_json.specs.Written.{items_text, members_text}
use Rattle.serde_json.proofs.Numbers.{number_of-decimal}
use Rattle.serde_json.proofs.Texts.{print-outline}
use Rattle.session_text.specs.Session.{document}
use Rattle.session_text.proofs.Documents.{document_read}

abbrev pub IsWhole : Num → Type 0
IsWhole (unsigned n) = n < 2 ^ 64
IsWhole (negative z) = ⊥
IsWhole (float x) = ⊥

-- the key is above every key of the members
abbrev pub is_above : List ℕ → Members → Bool
is_above k no_members = true
is_above k (member l d ms) = is_gt (slice_cmp nat_cmp k l) && is_above k ms

-- every key of the second is above every key of the first
abbrev are_above : Members → Members → Bool
are_above before no_members = true
are_above before (member k d ms) = is_above k before && are_above before ms

abbrev pub is_below : List ℕ → Members → Bool
is_below k no_members = true
is_below k (member l d ms) = is_gt (slice_cmp nat_cmp l k) && is_below k ms

abbrev mutual
  pub IsPlain : Data → Type 0
  IsPlain null = ⊤
  IsPlain (boolean b) = ⊤
  IsPlain (number n) = IsWhole n
  IsPlain (string s) = IsUtf8 s
  IsPlain (array ds) = ArePlain ds
  IsPlain (object ms) = MembersArePlain ms

  pub ArePlain : Items → Type 0
  ArePlain no_items = ⊤
  ArePlain (item d ds) = IsPlain d × ArePlain ds

  pub MembersArePlain : Members → Type 0
  MembersArePlain no_members = ⊤
  MembersArePlain (member k d ms) = (is_below k ms ≡ true) × (are_ascii k ≡ true) × IsPlain d × MembersArePlain ms

-- ---- members in ascending order go in one after another

abbrev join : Members → Members → Members
join no_members ms = ms
join (member k d front) ms = member k d (join front ms)

join-no_members : (ms : Members) → join ms no_members ≡ ms
join-no_members no_members = refl
join-no_members (member k d ms) = ap (member k d) (join-no_members ms)

join-join : (front ms rest : Members) → join (join front ms) rest ≡ join front (join ms rest)
join-join no_members ms rest = refl
join-join (member k d front) ms rest = ap (member k d) (join-join front ms rest)

goes_after : (o : Ordering) (a b c : Members) → is_gt o ≡ true → match_ordering o a b c ≡ c
goes_after Less a b c e = absurd cc
goes_after Equal a b c e = absurd cc
goes_after Greater a b c e = refl

put_last : (k : List ℕ) (d : Data) (front : Members) → is_above k front ≡ true → put k d front ≡ join front (member k d no_members)
put_last k d no_members above = refl
put_last k d (member l e front) above =
    let both = and_parts (is_gt (slice_cmp nat_cmp k l)) (is_above k front) above in
    goes_after (slice_cmp nat_cmp k l) _ _ _ both.0 ∙ ap (member l e) (put_last k d front both.1)

is_above-join : (k : List ℕ) (front ms : Members) → is_above k front ≡ true → is_above k ms ≡ true → is_above k (join front ms) ≡ true
is_above-join k no_members ms above more = more
is_above-join k (member l e front) ms above more =
    let both = and_parts (is_gt (slice_cmp nat_cmp k l)) (is_above k front) above in
    and_from _ _ both.0 (is_above-join k front ms both.1 more)

are_above-join : (k : List ℕ) (d : Data) (front ms : Members) → are_above front ms ≡ true → is_below k ms ≡ true → are_above
    (join front (member k d no_members)) ms ≡ true
are_above-join k d front no_members above below = refl
are_above-join k d front (member l e ms) above below =
    let both = and_parts (is_above l front) (are_above front ms) above in
    let less = and_parts (is_gt (slice_cmp nat_cmp l k)) (is_below k ms) below in
    and_from _ _ (is_above-join l front (member k d no_members) both.0 (and_from _ _ less.0 refl)) (are_above-join k d front ms both.1 less.1)

are_above-no_members : (ms : Members) → are_above no_members ms ≡ true
are_above-no_members no_members = refl
are_above-no_members (member k d ms) = are_above-no_members ms

-- ---- the JSON of a value is read as the value

mutual
  of_json-outline : (d : Data) → IsPlain d → of_json (outline d) ≡ Some d
  of_json-outline null h = refl
  of_json-outline (boolean b) h = refl
  of_json-outline (number (unsigned n)) h = ap (option_map number) (number_of-decimal n h)
  of_json-outline (number (negative z)) h = absurd h
  of_json-outline (number (float x)) h = absurd h
  of_json-outline (string s) h = refl
  of_json-outline (array ds) h = ap (option_map array) (of_items-outline ds h)
  of_json-outline (object ms) h = ap (option_map object) (of_members-outline no_members ms (are_above-no_members ms) h)

  of_items-outline : (ds : Items) → ArePlain ds → of_items (items_outline ds) ≡ Some ds
  of_items-outline no_items h = refl
  of_items-outline (item d ds) h = ap₂ (λ first others. option_and_then (λ d. option_map (item d) others) first) (of_json-outline d h.0)
      (of_items-outline ds h.1)

  of_members-outline : (front ms : Members) → are_above front ms ≡ true → MembersArePlain ms → of_members (members_outline ms) front ≡ Some (join front ms)
  of_members-outline front no_members above h = ap Some (sym (join-no_members front))
  of_members-outline front (member k d ms) above h =
      let both = and_parts (is_above k front) (are_above front ms) above in
      ap (option_and_then (λ d. of_members (members_outline ms) (put k d front))) (of_json-outline d h.2)
      ∙ ap (of_members (members_outline ms)) (put_last k d front both.0)
      ∙ of_members-outline (join front (member k d no_members)) ms (are_above-join k d front ms both.1 h.0) h.3
      ∙ ap Some (join-join front (member k d no_members) ms)

-- ---- its text

mutual
  numbers-outline : (d : Data) → IsPlain d → HasNumbers (outline d)
  numbers-outline null h = tt
  numbers-outline (boolean b) h = tt
  numbers-outline (number (unsigned n)) h = IsNumber-decimal n h
  numbers-outline (number (negative z)) h = absurd h
  numbers-outline (number (float x)) h = absurd h
  numbers-outline (string s) h = tt
  numbers-outline (array ds) h = items_numbers-outline ds h
  numbers-outline (object ms) h = members_numbers-outline ms h

  items_numbers-outline : (ds : Items) → ArePlain ds → ItemsHaveNumbers (items_outline ds)
  items_numbers-outline no_items h = tt
  items_numbers-outline (item d ds) h = (numbers-outline d h.0, items_numbers-outline ds h.1)

  members_numbers-outline : (ms : Members) → MembersArePlain ms → MembersHaveNumbers (members_outline ms)
  members_numbers-outline no_members h = tt
  members_numbers-outline (member k d ms) h = (numbers-outline d h.2, members_numbers-outline ms h.3)

mutual
  depth-outline : (d : Data) → tree.depth (outline d) ≡ depth d
  depth-outline null = refl
  depth-outline (boolean b) = refl
  depth-outline (number n) = refl
  depth-outline (string s) = refl
  depth-outline (array ds) = ap suc (items_depth-outline ds)
  depth-outline (object ms) = ap suc (members_depth-outline ms)

  items_depth-outline : (ds : Items) → tree.items_depth (items_outline ds) ≡ items_depth ds
  items_depth-outline no_items = refl
  items_depth-outline (item d ds) = ap₂ max (depth-outline d) (items_depth-outline ds)

  members_depth-outline : (ms : Members) → tree.members_depth (members_outline ms) ≡ members_depth ms
  members_depth-outline no_members = refl
  members_depth-outline (member k d ms) = ap₂ max (depth-outline d) (members_depth-outline ms)

utf8_comma : (later : Bool) → IsUtf8 (comma_if later)
utf8_comma true = IsUtf8-are_ascii _ refl
utf8_comma false = IsUtf8-are_ascii _ refl

utf8_boolean : (b : Bool) → IsUtf8 (compact_text (boolean b))
utf8_boolean true = IsUtf8-are_ascii _ refl
utf8_boolean false = IsUtf8-are_ascii _ refl

mutual
  utf8-text : (d : Data) → IsPlain d → IsUtf8 (compact_text d)
  utf8-text null h = IsUtf8-are_ascii _ refl
  utf8-text (boolean b) h = utf8_boolean b
  utf8-text (number (unsigned n)) h = IsUtf8-from_ascii (decimal n) (IsAscii-decimal n h)
  utf8-text (number (negative z)) h = absurd h
  utf8-text (number (float x)) h = absurd h
  utf8-text (string s) h = IsUtf8-quoted s h
  utf8-text (array ds) h = IsUtf8-append (91 ∷ []) _ (IsUtf8-are_ascii _ refl) (utf8-items_text false ds h)
  utf8-text (object ms) h = IsUtf8-append (123 ∷ []) _ (IsUtf8-are_ascii _ refl) (utf8-members_text false ms h)

  utf8-items_text : (later : Bool) (ds : Items) → ArePlain ds → IsUtf8 (items_text later ds)
  utf8-items_text later no_items h = IsUtf8-are_ascii _ refl
  utf8-items_text later (item d ds) h = IsUtf8-append (comma_if later) _ (utf8_comma later)
      (IsUtf8-append (compact_text d) _ (utf8-text d h.0) (utf8-items_text true ds h.1))

  utf8-members_text : (later : Bool) (ms : Members) → MembersArePlain ms → IsUtf8 (members_text later ms)
  utf8-members_text later no_members h = IsUtf8-are_ascii _ refl
  utf8-members_text later (member k d ms) h =
      let value = IsUtf8-append (compact_text d) _ (utf8-text d h.2) (utf8-members_text true ms h.3) in
      IsUtf8-append (comma_if later) _ (utf8_comma later) (IsUtf8-append (quoted k) _ (IsUtf8-quoted k (IsUtf8-are_ascii k h.1))
      (IsUtf8-append (58 ∷ []) _ (IsUtf8-are_ascii _ refl) value))

read-compact_text : (d : Data) → IsPlain d → depth d ≤ max_depth → read (compact_text d) ≡ Some d
read-compact_text d h shallow =
    let whole = λ (o : Option (json.Json × List Token)). option_and_then of_json (option_and_then (λ p. json.if_last p.0 p.1) o) in
    let text : tokens (compact_text d) ≡ json_tokens (outline d) ++ [] =
    ap tokens (sym (print-outline d)) ∙ tokens-print (json_tokens (outline d)) (ArePrintable-json_tokens (outline d) (numbers-outline d h)) ∙ sym (append-nil _)
    in
    let within : tree.depth (outline d) ≤ max_depth = subst (λ n. n ≤ max_depth) (sym (depth-outline d)) shallow in
    ap whole (ap (json.value max_depth) text ∙ value-json_tokens (outline d) max_depth [] within) ∙ of_json-outline d h

-- the reading of the text of a plain value is the value
pub document-compact_text : (d : Data) → IsPlain d → depth d ≤ max_depth → document (compact_text d) ≡ Ok d
document-compact_text d h shallow = document_read (compact_text d) d (utf8-text d h) (read-compact_text d h shallow)
