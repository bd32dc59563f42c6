-- What is found at a place of a tape, as serde_json would find it in the value there.
use Rattle.std.proofs.Common.{◌≡◌, ℕ, ◌≤◌, List, Bool, true, Option, Some, None, is_some, option_and_then, refl, sym, ap, ◌∙◌, arith}
use Rattle.std.specs.Prelude.{MatchOption, unwrap_or}
use Rattle.json.specs.Token.{Token}
use Rattle.json.specs.Json as json
use Rattle.json.specs.Find as json_find
use Rattle.json.specs.Tree.{depth}
use Rattle.json.proofs.Found.{Some_inj}
use Rattle.json.proofs.Nesting.{value-depth}
use Rattle.serde_json.specs.Data.{Data, null, boolean, number, string, array, object, no_members}
use Rattle.serde_json.specs.Find.{get, as_null, as_str, as_bool, as_number}
use Rattle.serde_json.specs.Read.{of_json, of_items, of_members, number_of, max_depth}
use Rattle.json_data.specs.Reading.{data_at, data_of}
use Rattle.json_data.proofs.Documents.{value_in}
use Rattle.json_data.proofs.Members.{mapped_some, found_in, get_read, part_read}

-- the value at a place, and what serde_json reads there
pub record ParsedValue (ts : List Token) : Type 0 where
  pub value : json.Json
  pub rest : List Token
  pub read : Data
  pub is : json.value max_depth ts ≡ Some (value, rest)
  pub reads : of_json value ≡ Some read
  pub shows : data_of ts ≡ read

pub parsed_value : (ts : List Token) → is_some (data_at ts) ≡ true → ParsedValue ts
parsed_value ts valid = at (json.value max_depth ts) refl valid
  where
    read : (v : json.Json) (r : List Token) (o : Option Data) → json.value max_depth ts ≡ Some (v, r) → of_json v ≡ o → is_some o ≡ true → ParsedValue ts
    read v r None is reads some = absurd (cc some)
    read v r (Some d) is reads some = record { value = v; rest = r; read = d; is = is; reads = reads; shows = rw (is, reads) refl }

    at : (o : Option (json.Json × List Token)) → json.value max_depth ts ≡ o → is_some (option_and_then (λ (p : json.Json × List Token). of_json p.0) o) ≡ true
        → ParsedValue ts
    at None is some = absurd (cc some)
    at (Some (v, r)) is some = read v r (of_json v) is refl some

-- a value that begins at a place, and nests no deeper than serde_json allows, is the one read there
pub starts : (e : ℕ) (ts r : List Token) (j : json.Json) → json.value e ts ≡ Some (j, r) → depth j ≤ max_depth → data_at ts ≡ of_json j
starts e ts r j is deep = rw (value_in e max_depth ts r j is deep) refl

pub some_data : (ts : List Token) (j : json.Json) → data_at ts ≡ of_json j → is_some (of_json j) ≡ true → (is_some (data_at ts) ≡ true) ×
    (Some (data_of ts) ≡ of_json j)
some_data ts j is some = (ap is_some is ∙ some, by (of_json j) is some)
  where
    by : (o : Option Data) → data_at ts ≡ o → is_some o ≡ true → Some (data_of ts) ≡ o
    by None is some = absurd (cc some)
    by (Some d) is some = ap (λ (o : Option Data). Some (unwrap_or o null)) is

-- ---- members by name

get_of : (name : List ℕ) (j : json.Json) (d : Data) → of_json j ≡ Some d → get name d ≡ option_and_then of_json (json_find.get name j)
get_of name json.null d is = ap (get name) (sym (Some_inj null d is))
get_of name (json.boolean b) d is = ap (get name) (sym (Some_inj (boolean b) d is))
get_of name (json.number s) d is = let m = mapped_some number (number_of s) d is in ap (get name) m.2
get_of name (json.string s) d is = ap (get name) (sym (Some_inj (string s) d is))
get_of name (json.array js) d is = let m = mapped_some array (of_items js) d is in ap (get name) m.2
get_of name (json.object ms) d is =
    let m = mapped_some object (of_members ms no_members) d is in
    ap (get name) m.2 ∙ get_read name ms no_members m.0 m.1 ∙ found (json_find.get_member name ms)
  where
    found : (o : Option json.Json) → found_in o None ≡ option_and_then of_json o
    found None = refl
    found (Some j) = refl

part_of : (name : List ℕ) (j i : json.Json) (d : Data) → of_json j ≡ Some d → json_find.get name j ≡ Some i → (is_some (of_json i) ≡ true) × (depth i ≤ depth j)
part_of name json.null i d is there = absurd (cc there)
part_of name (json.boolean b) i d is there = absurd (cc there)
part_of name (json.number s) i d is there = absurd (cc there)
part_of name (json.string s) i d is there = absurd (cc there)
part_of name (json.array js) i d is there = absurd (cc there)
part_of name (json.object ms) i d is there =
    let m = mapped_some object (of_members ms no_members) d is in
    let part = part_read name ms no_members m.0 i m.1 there in
    (part.0, omega (arith, part.1))

pub got : (name : List ℕ) (ts : List Token) (r : Option (List Token)) → is_some (data_at ts) ≡ true →
    ((j : json.Json) → json_find.BeginsWith ts j → json_find.Finds r (json_find.get name j))
    → MatchOption r (None ≡ get name (data_of ts)) (λ at. (is_some (data_at at) ≡ true) × (Some (data_of at) ≡ get name (data_of ts)))
got name ts r valid finds =
    let b = parsed_value ts valid in
    let at = get_of name b.value b.read b.reads in
    by r b (ap (get name) b.shows ∙ at) (finds b.value (max_depth, b.rest, b.is))
  where
    by : (r : Option (List Token)) (b : ParsedValue ts) → get name (data_of ts) ≡ option_and_then of_json (json_find.get name b.value) → json_find.Finds r
        (json_find.get name b.value)
        → MatchOption r (None ≡ get name (data_of ts)) (λ at. (is_some (data_at at) ≡ true) × (Some (data_of at) ≡ get name (data_of ts)))
    by None b is none = sym (is ∙ ap (option_and_then of_json) none)
    by (Some at) b is found =
        let part = part_of name b.value found.0 b.read b.reads found.1 in
        let deep = value-depth max_depth ts b.rest b.value b.is in
        let there = starts found.2.0 at found.2.1 found.0 found.2.2 (omega (arith, part.1, deep)) in
        let some = some_data at found.0 there part.0 in
        (some.0, some.1 ∙ sym (is ∙ ap (option_and_then of_json) found.1))

-- ---- a value by itself

pub str_at : (ts : List Token) (r : Option (List ℕ)) → is_some (data_at ts) ≡ true → ((j : json.Json) → json_find.BeginsWith ts j → r ≡ json_find.as_str j) → r
    ≡ as_str (data_of ts)
str_at ts r valid is = let b = parsed_value ts valid in is b.value (max_depth, b.rest, b.is) ∙ by b.value b.read b.reads ∙ ap as_str (sym b.shows)
  where
    by : (j : json.Json) (d : Data) → of_json j ≡ Some d → json_find.as_str j ≡ as_str d
    by json.null d is = ap as_str (Some_inj null d is)
    by (json.boolean b) d is = ap as_str (Some_inj (boolean b) d is)
    by (json.number s) d is = let m = mapped_some number (number_of s) d is in ap as_str (sym m.2)
    by (json.string s) d is = ap as_str (Some_inj (string s) d is)
    by (json.array js) d is = let m = mapped_some array (of_items js) d is in ap as_str (sym m.2)
    by (json.object ms) d is = let m = mapped_some object (of_members ms no_members) d is in ap as_str (sym m.2)

pub bool_at : (ts : List Token) (r : Option Bool) → is_some (data_at ts) ≡ true → ((j : json.Json) → json_find.BeginsWith ts j → r ≡ json_find.as_bool j) → r ≡
    as_bool (data_of ts)
bool_at ts r valid is = let b = parsed_value ts valid in is b.value (max_depth, b.rest, b.is) ∙ by b.value b.read b.reads ∙ ap as_bool (sym b.shows)
  where
    by : (j : json.Json) (d : Data) → of_json j ≡ Some d → json_find.as_bool j ≡ as_bool d
    by json.null d is = ap as_bool (Some_inj null d is)
    by (json.boolean b) d is = ap as_bool (Some_inj (boolean b) d is)
    by (json.number s) d is = let m = mapped_some number (number_of s) d is in ap as_bool (sym m.2)
    by (json.string s) d is = ap as_bool (Some_inj (string s) d is)
    by (json.array js) d is = let m = mapped_some array (of_items js) d is in ap as_bool (sym m.2)
    by (json.object ms) d is = let m = mapped_some object (of_members ms no_members) d is in ap as_bool (sym m.2)

pub number_at : (ts : List Token) (r : Option (List ℕ)) → is_some (data_at ts) ≡ true →
    ((j : json.Json) → json_find.BeginsWith ts j → r ≡ json_find.as_number j) → option_and_then number_of r ≡ as_number (data_of ts)
number_at ts r valid is = let b = parsed_value ts valid in ap (option_and_then number_of) (is b.value (max_depth, b.rest, b.is)) ∙ by b.value b.read b.reads ∙
    ap as_number (sym b.shows)
  where
    by : (j : json.Json) (d : Data) → of_json j ≡ Some d → option_and_then number_of (json_find.as_number j) ≡ as_number d
    by json.null d is = ap as_number (Some_inj null d is)
    by (json.boolean b) d is = ap as_number (Some_inj (boolean b) d is)
    by (json.number s) d is = let m = mapped_some number (number_of s) d is in m.1 ∙ ap as_number (sym m.2)
    by (json.string s) d is = ap as_number (Some_inj (string s) d is)
    by (json.array js) d is = let m = mapped_some array (of_items js) d is in ap as_number (sym m.2)
    by (json.object ms) d is = let m = mapped_some object (of_members ms no_members) d is in ap as_number (sym m.2)

pub null_at : (ts : List Token) (r : Bool) → is_some (data_at ts) ≡ true → ((j : json.Json) → json_find.BeginsWith ts j → r ≡ json_find.is_null j) → r ≡ is_some
    (as_null (data_of ts))
null_at ts r valid is = let b = parsed_value ts valid in is b.value (max_depth, b.rest, b.is) ∙ by b.value b.read b.reads ∙ ap (λ d. is_some (as_null d))
    (sym b.shows)
  where
    by : (j : json.Json) (d : Data) → of_json j ≡ Some d → json_find.is_null j ≡ is_some (as_null d)
    by json.null d is = ap (λ d. is_some (as_null d)) (Some_inj null d is)
    by (json.boolean b) d is = ap (λ d. is_some (as_null d)) (Some_inj (boolean b) d is)
    by (json.number s) d is = let m = mapped_some number (number_of s) d is in ap (λ d. is_some (as_null d)) (sym m.2)
    by (json.string s) d is = ap (λ d. is_some (as_null d)) (Some_inj (string s) d is)
    by (json.array js) d is = let m = mapped_some array (of_items js) d is in ap (λ d. is_some (as_null d)) (sym m.2)
    by (json.object ms) d is = let m = mapped_some object (of_members ms no_members) d is in ap (λ d. is_some (as_null d)) (sym m.2)
