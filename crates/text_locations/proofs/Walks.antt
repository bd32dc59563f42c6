-- A walk over the items of an array, and over the members of an object: what was passed, and what it
-- says of where a path leads.
use Rattle.std.proofs.Common.{◌≡◌, ℕ, zero, suc, ◌+◌, ◌-◌, ◌<◌, ◌≤◌, List, [], ◌∷◌, length, Bool, true, false, cond, Option, Some, None, option_and_then, refl}
use Rattle.std.proofs.Common.{sym, ap, ◌∙◌, arith, bytes_eq}
use Rattle.std.specs.Prelude.{Result, Ok, Err, IfOk}
use Rattle.std.specs.Option.{option_map_or}
use Rattle.std.proofs.lemmas.List.{length-append}
use Rattle.json.specs.Token.{Token}
use Rattle.json.specs.Json.{Json, null, boolean, number, string, array, object, Items, no_items, item, Members, no_members, member, parse_map, after_end_array}
use Rattle.json.specs.Json.{read_key, items, members, value, max_depth, if_last}
use Rattle.json.specs.Tree.{json_tokens}
use Rattle.json.proofs.Grammar.{items_more, members_more, value_is, value-begin_array, value-begin_object}
use Rattle.json.proofs.Unique.Spelling.{value-json_tokens_back}
use Rattle.text_locations.specs.Path as path
use Rattle.text_locations.specs.Path.{Part, Target, is_named, itself, itself_or_lacking, next_item, next_member, next_parts}
use Rattle.text_locations.specs.Leads.{led_in, led_to, last_member, nth_item, or_earlier, size, wanted_at}
use Rattle.text_locations.specs.Walk.{Passes, items_lead, members_lead}
use Rattle.text_locations.specs.declared.search.Passed.{Passed}

-- Of the whole, `front` was passed, and `rest` reads what is left. The answer for the whole is known
-- from what is left.
pub record Walked {A : Type 0} (whole : Option (A × List Token)) (rest : ℕ → Option (A × List Token)) (left : List Token) (answer now : A → Option ℕ) : Type 0
  where
    pub turns : ℕ
    pub enough : length left ≤ turns
    pub front : A → A
    pub same : whole ≡ parse_map front (rest turns)
    pub answers : (a : A) → answer (front a) ≡ now a

parse_map-id : {A : Type 0} (r : Option (A × List Token)) → r ≡ parse_map (λ a. a) r
parse_map-id None = refl
parse_map-id (Some p) = refl

parse_map-parse_map : {A B C : Type 0} (f : B → C) (g : A → B) (r : Option (A × List Token)) → parse_map f (parse_map g r) ≡ parse_map (λ a. f (g a)) r
parse_map-parse_map f g None = refl
parse_map-parse_map f g (Some p) = refl

pub walk_begins : {A : Type 0} (rest : ℕ → Option (A × List Token)) (left : List Token) (answer now : A → Option ℕ) → ((a : A) → answer a ≡ now a) → Walked
    (rest (length left)) rest left answer now
walk_begins rest left answer now answers = record {
  turns = length left;
  enough = omega arith;
  front = λ a. a;
  same = parse_map-id (rest (length left));
  answers
      = answers;
}

pub walk_ends : {A : Type 0} {whole : Option (A × List Token)} {rest : ℕ → Option (A × List Token)} {left : List Token} {answer now : A → Option ℕ}
    (w : Walked whole rest left answer now) (none : A) (at count : ℕ) (r : List Token) (passed : Passed)
    → rest w.turns ≡ Some (none, r) → passed.next + length r ≡ at + count → passed.found ≡ now none → Passes whole at count r answer passed
walk_ends w none at count r passed ends next is = record {
  whole = w.front none;
  is = w.same ∙ ap (parse_map w.front) ends;
  next = next;
  found = is ∙ sym
      (w.answers none);
}

pub walk_fails : {A : Type 0} {whole : Option (A × List Token)} {rest : ℕ → Option (A × List Token)} {left : List Token} {answer now : A → Option ℕ}
    (w : Walked whole rest left answer now) → rest w.turns ≡ None → whole ≡ None
walk_fails w none = w.same ∙ ap (parse_map w.front) none

-- a value takes as many tokens as its size says
pub passed_size : (d at next : ℕ) (ts new : List Token) (j : Json) → value d ts ≡ Some (j, new) → next + length new ≡ at + length ts → next ≡ at + size j
passed_size d at next ts new j is len = omega (arith, len, ap length (value-json_tokens_back d ts new j is), length-append (json_tokens j) new)

-- ---- items

and_then_or : {A B : Type 0} (f : A → Option B) (o : Option A) → option_and_then f o ≡ option_map_or f o None
and_then_or f None = refl
and_then_or f (Some a) = refl

pub items_begin : (t : Target) (at : ℕ) (all : Items) → wanted_at t at (array all) ≡ items_lead (next_item t) (next_parts t) (at + 1) (itself t at) all
items_begin None at all = refl
items_begin (Some []) at all = refl
items_begin (Some (path.member name ∷ rest)) at all = refl
items_begin (Some (path.item n ∷ rest)) at all = and_then_or (λ (found : ℕ × Json). led_to rest found.0 found.1) (nth_item (at + 1) n all)

pub wanted_item : (rest : List Part) (at next : ℕ) (was now : Option ℕ) (j : Json) (all : Items) → now ≡ led_to rest at j → items_lead (Some 0) rest at was
    (item j all) ≡ items_lead None rest next now all
wanted_item rest at next was now j all is = sym is

pub item_before : (n : ℕ) (rest : List Part) (at next : ℕ) (found : Option ℕ) (j : Json) (all : Items) → 0 < n → next ≡ at + size j
    → items_lead (Some n) rest at found (item j all) ≡ items_lead (Some (n - 1)) rest next found all
item_before zero rest at next found j all some is = absurd (omega arith)
item_before (suc n) rest at next found j all some is =
    let same : n ≡ suc n - 1 = omega arith in
    ap (λ m. items_lead (Some m) rest (at + size j) found all) same ∙ ap (λ m. items_lead (Some (suc n - 1)) rest m found all) (sym is)

pub items_lead_end : (before : Option ℕ) (rest : List Part) (at : ℕ) (found : Option ℕ) → found ≡ items_lead before rest at found no_items
items_lead_end (Some n) rest at found = refl
items_lead_end None rest at found = refl

pub item_turn : (d : ℕ) (reader new : List Token) (j : Json) {whole : Option (Items × List Token)} {answer was now : Items → Option ℕ}
    → Walked whole (λ n. items (value d) n reader) reader answer was → after_end_array reader ≡ None → value d reader ≡ Some (j, new) → length new < length
    reader
    → ((all : Items) → was (item j all) ≡ now all) → Walked whole (λ n. items (value d) n new) new answer now
item_turn d reader new j w going is less step = record {
  turns = w.turns - 1;
  enough = omega (arith, w.enough);
  front = λ all. w.front (item j all);
  same = w.same ∙ ap (parse_map w.front) (items_more (value d) w.turns reader new j (omega (arith, w.enough)) going is) ∙ parse_map-parse_map w.front (item j)
      (items (value d) (w.turns - 1) new);
  answers = λ all. w.answers (item j all) ∙ step all;
}

-- ---- members

pub members_begin : (t : Target) (at : ℕ) (all : Members) → wanted_at t at (object all) ≡ members_lead (next_member t) (next_parts t) (at + 1)
    (itself_or_lacking t at) all
members_begin None at all = refl
members_begin (Some []) at all = refl
members_begin (Some (path.member name ∷ rest)) at all = refl
members_begin (Some (path.item n ∷ rest)) at all = refl

later : (f : ℕ × Json → Option ℕ) (o : Option (ℕ × Json)) (b : Bool) (found : Option ℕ) (p : ℕ × Json) → option_map_or f (or_earlier o (cond b (Some p) None))
    found ≡ option_map_or f o (cond b (f p) found)
later f (Some i) b found p = refl
later f None true found p = refl
later f None false found p = refl

one_more_member : (name : List ℕ) (rest : List Part) (at next : ℕ) (found : Option ℕ) (k : List ℕ) (j : Json) (all : Members) → next ≡ at + 1 + size j
    → members_lead (Some name) rest at found (member k j all) ≡ members_lead (Some name) rest next (cond (bytes_eq k name) (led_to rest (at + 1) j) found) all
one_more_member name rest at next found k j all is =
    later (λ p. led_to rest p.0 p.1) (last_member (at + 1 + size j) name all) (bytes_eq k name) found (at + 1, j)
    ∙ ap (λ m. members_lead (Some name) rest m (cond (bytes_eq k name) (led_to rest (at + 1) j) found) all) (sym is)

pub wanted_member : (name : Option (List ℕ)) (rest : List Part) (at next : ℕ) (was now : Option ℕ) (k : List ℕ) (j : Json) (all : Members) → is_named name k ≡
    true → now ≡ led_to rest (at + 1) j → next ≡ at + 1 + size j
    → members_lead name rest at was (member k j all) ≡ members_lead name rest next now all
wanted_member (Some name) rest at next was now k j all same is next_is =
    one_more_member name rest at next was k j all next_is ∙ ap (λ b. members_lead (Some name) rest next (cond b (led_to rest (at + 1) j) was) all) same
    ∙ ap (λ found. members_lead (Some name) rest next found all) (sym is)
wanted_member None rest at next was now k j all same is next_is = absurd (cc same)

pub other_member : (name : Option (List ℕ)) (rest : List Part) (at next : ℕ) (found : Option ℕ) (k : List ℕ) (j : Json) (all : Members) → is_named name k ≡
    false → next ≡ at + 1 + size j
    → members_lead name rest at found (member k j all) ≡ members_lead name rest next found all
other_member (Some name) rest at next found k j all other next_is =
    one_more_member name rest at next found k j all next_is ∙ ap (λ b. members_lead (Some name) rest next (cond b (led_to rest (at + 1) j) found) all) other
other_member None rest at next found k j all other next_is = refl

pub members_lead_end : (name : Option (List ℕ)) (rest : List Part) (at : ℕ) (found : Option ℕ) → found ≡ members_lead name rest at found no_members
members_lead_end (Some name) rest at found = refl
members_lead_end None rest at found = refl

pub member_turn : (d : ℕ) (reader key new : List Token) (k : List ℕ) (j : Json) {whole : Option (Members × List Token)} {answer was now : Members → Option ℕ}
    → Walked whole (λ n. members (value d) n reader) reader answer was → read_key reader ≡ Some (Some k, key) → value d key ≡ Some (j, new) → length new <
    length reader
    → ((all : Members) → was (member k j all) ≡ now all) → Walked whole (λ n. members (value d) n new) new answer now
member_turn d reader key new k j w named is less step = record {
  turns = w.turns - 1;
  enough = omega (arith, w.enough);
  front = λ all. w.front (member k j all);
  same = w.same ∙ ap (parse_map w.front) (members_more (value d) w.turns k reader key new j (omega (arith, w.enough)) named is) ∙ parse_map-parse_map w.front
      (member k j) (members (value d) (w.turns - 1) new);
  answers = λ all. w.answers (member k j all) ∙ step all;
}

-- ---- a value, from its first token

pub array_passed : (d : ℕ) (ts new : List Token) (t : Target) (at : ℕ) (passed : Passed) → 0 < d → Passes (items (value (d - 1)) (length ts) ts) (at + 1)
    (length ts) new (λ all. wanted_at t at (array all)) passed
    → Passes (value d (Token.begin_array ∷ ts)) at (length (Token.begin_array ∷ ts)) new (wanted_at t at) passed
array_passed d ts new t at passed deep h = record {
  whole = array h.whole;
  is = value-begin_array d ts deep ∙ ap (parse_map array) h.is;
  next = omega
      (arith, h.next);
  found = h.found;
}

pub object_passed : (d : ℕ) (ts new : List Token) (t : Target) (at : ℕ) (passed : Passed) → 0 < d → Passes (members (value (d - 1)) (length ts) ts) (at + 1)
    (length ts) new (λ all. wanted_at t at (object all)) passed
    → Passes (value d (Token.begin_object ∷ ts)) at (length (Token.begin_object ∷ ts)) new (wanted_at t at) passed
object_passed d ts new t at passed deep h = record {
  whole = object h.whole;
  is = value-begin_object d ts deep ∙ ap (parse_map object) h.is;
  next = omega
      (arith, h.next);
  found = h.found;
}

-- a value that has neither items nor members
abbrev pub is_leaf : Token → Bool
is_leaf Token.begin_object = false
is_leaf Token.end_object = false
is_leaf Token.begin_array = false
is_leaf Token.end_array = false
is_leaf (Token.key s) = false
is_leaf (Token.string s) = true
is_leaf (Token.number s) = true
is_leaf (Token.boolean b) = true
is_leaf Token.null = true
is_leaf Token.bad = false

abbrev LeadsNowhere : Json → Type 0
LeadsNowhere j = (t : Target) (at : ℕ) → itself t at ≡ wanted_at t at j

string_leads : (s : List ℕ) → LeadsNowhere (string s)
string_leads s None at = refl
string_leads s (Some []) at = refl
string_leads s (Some (path.member name ∷ rest)) at = refl
string_leads s (Some (path.item n ∷ rest)) at = refl

number_leads : (s : List ℕ) → LeadsNowhere (number s)
number_leads s None at = refl
number_leads s (Some []) at = refl
number_leads s (Some (path.member name ∷ rest)) at = refl
number_leads s (Some (path.item n ∷ rest)) at = refl

boolean_leads : (b : Bool) → LeadsNowhere (boolean b)
boolean_leads b None at = refl
boolean_leads b (Some []) at = refl
boolean_leads b (Some (path.member name ∷ rest)) at = refl
boolean_leads b (Some (path.item n ∷ rest)) at = refl

null_leads : LeadsNowhere null
null_leads None at = refl
null_leads (Some []) at = refl
null_leads (Some (path.member name ∷ rest)) at = refl
null_leads (Some (path.item n ∷ rest)) at = refl

leaf_value : (t : Token) (d : ℕ) (new : List Token) → is_leaf t ≡ true → (j : Json) × (value d (t ∷ new) ≡ Some (j, new)) × LeadsNowhere j
leaf_value Token.begin_object d new leaf = absurd (cc leaf)
leaf_value Token.end_object d new leaf = absurd (cc leaf)
leaf_value Token.begin_array d new leaf = absurd (cc leaf)
leaf_value Token.end_array d new leaf = absurd (cc leaf)
leaf_value (Token.key s) d new leaf = absurd (cc leaf)
leaf_value (Token.string s) d new leaf = (string s, value_is d (Token.string s ∷ new), string_leads s)
leaf_value (Token.number s) d new leaf = (number s, value_is d (Token.number s ∷ new), number_leads s)
leaf_value (Token.boolean b) d new leaf = (boolean b, value_is d (Token.boolean b ∷ new), boolean_leads b)
leaf_value Token.null d new leaf = (null, value_is d (Token.null ∷ new), null_leads)
leaf_value Token.bad d new leaf = absurd (cc leaf)

pub leaf_passed : (token : Token) (d : ℕ) (new : List Token) (t : Target) (at : ℕ) (passed : Passed) → is_leaf token ≡ true → passed.next ≡ at + 1 →
    passed.found ≡ itself t at
    → Passes (value d (token ∷ new)) at (length (token ∷ new)) new (wanted_at t at) passed
leaf_passed token d new t at passed leaf next found =
    let v = leaf_value token d new leaf in
    record { whole = v.0; is = v.1; next = omega (arith, next); found = found ∙ v.2 t at }

-- ---- results

pub ok_more : {T E : Type 0} {P Q : T → Type 0} (r : Result T E) → ((x : T) → P x → Q x) → IfOk r P → IfOk r Q
ok_more (Ok x) more p = more x p
ok_more (Err e) more p = tt

-- ---- one value, and nothing after it

pub whole_refused : (ts : List Token) (ps : List Part) → value max_depth ts ≡ None → None ≡ led_in ts ps
whole_refused ts ps none = ap (λ r. option_and_then (led_to ps 0) (option_and_then (λ (p : Json × List Token). if_last p.0 p.1) r)) (sym none)

pub whole_passed : (ts : List Token) (ps : List Part) (count : ℕ) (passed : Passed) → Passes (value max_depth ts) 0 count [] (wanted_at (Some ps) 0) passed →
    passed.found ≡ led_in ts ps
whole_passed ts ps count passed h = h.found ∙ ap (λ r. option_and_then (led_to ps 0) (option_and_then (λ (p : Json × List Token). if_last p.0 p.1) r))
    (sym h.is)

pub whole_goes_on : (ts : List Token) (ps : List Part) (count : ℕ) (passed : Passed) (t : Token) (more : List Token) → Passes (value max_depth ts) 0 count
    (t ∷ more) (wanted_at (Some ps) 0) passed → None ≡ led_in ts ps
whole_goes_on ts ps count passed t more h = ap (λ r. option_and_then (led_to ps 0) (option_and_then (λ (p : Json × List Token). if_last p.0 p.1) r)) (sym h.is)
