-- A walk over the nodes of a tape: what was passed, and what is left of the keys that stand again.
use Rattle.std.proofs.Common.{◌≡◌, ℕ, ◌+◌, ◌≤◌, ◌<◌, List, Option, is_some, option_and_then, [], ◌∷◌, ◌++◌, length, map, drop, get_or, bytes_eq, true, false}
use Rattle.std.proofs.Common.{cond, ◌||◌, Some, None, refl, sym, ap, ◌∙◌, subst, arith, append_assoc}
use Rattle.std.specs.Prelude.{slice_get, Result, IfOk}
use Rattle.std.specs.Borrow.{Bor}
use Rattle.std.specs.List.{list_any}
use Rattle.std.proofs.Math.Seq.{drop-append_seam}
use Rattle.std.proofs.lemmas.List.{drop-drop, drop_all, drop_more, get_or-map, length-append, length-map}
use Rattle.json.specs.Token.{Token}
use Rattle.json.specs.Json.{Json, Items, Members}
use Rattle.json.specs.Json as json
use Rattle.json.specs.Tape.{node_token}
use Rattle.json.specs.Tree.{json_tokens, items_tokens, members_tokens, depth}
use Rattle.serde_json.specs.Read.{max_depth}
use Rattle.json.specs.declared.tape.Node.{Node}
use Rattle.json.specs.declared.tape.Node.TheVariants.{Object, EndObject, Array, EndArray, Key, String, Number, Bool as Truth, Null}
use Rattle.json.proofs.Unique.Spelling.{value-json_tokens_back}
use Rattle.json.proofs.Nesting.{value-depth}
use Rattle.json_data.specs.Doubled.{doubled_in, doubled_in_items, doubled_in_members, first_doubled, if_doubled, key_of}
use Rattle.json_data.specs.Passing.{GoesOn, Passes}
use Rattle.json_data.specs.Reading.{data_at}
use Rattle.json_data.specs.Seen.{has_seen}
use Rattle.json_data.specs.declared.doubled.Doubled.{Doubled}
use Rattle.json_data.specs.declared.doubled.Passed.{Passed}
use Rattle.json_data.specs.declared.doubled.Passed.TheVariants.{Twice, Next}
use Rattle.json_data.specs.declared.seen.SeenNames.{SeenNames}
use Rattle.json_data.proofs.Documents.{value_in}
use Rattle.json_data.proofs.Values.{ParsedValue, parsed_value}

-- ---- by the first token

-- a value has tokens
not_empty : (whole : Json) (rest : List Token) → json_tokens whole ++ rest ≡ [] → ⊥
not_empty json.null rest is = cc is
not_empty (json.boolean b) rest is = cc is
not_empty (json.number s) rest is = cc is
not_empty (json.string s) rest is = cc is
not_empty (json.array js) rest is = cc is
not_empty (json.object ms) rest is = cc is

object_of : (whole : Json) (rest more : List Token) → json_tokens whole ++ rest
    ≡ Token.begin_object ∷ more → (all : Members) × (whole ≡ json.object all) × (more
    ≡ members_tokens all ++ rest)
object_of json.null rest more is = absurd (cc is)
object_of (json.boolean b) rest more is = absurd (cc is)
object_of (json.number s) rest more is = absurd (cc is)
object_of (json.string s) rest more is = absurd (cc is)
object_of (json.array js) rest more is = absurd (cc is)
object_of (json.object ms) rest more is = (ms, refl, cc is)

array_of : (whole : Json) (rest more : List Token) → json_tokens whole ++ rest
    ≡ Token.begin_array ∷ more → (all : Items) × (whole ≡ json.array all) × (more
    ≡ items_tokens all ++ rest)
array_of json.null rest more is = absurd (cc is)
array_of (json.boolean b) rest more is = absurd (cc is)
array_of (json.number s) rest more is = absurd (cc is)
array_of (json.string s) rest more is = absurd (cc is)
array_of (json.array js) rest more is = (js, refl, cc is)
array_of (json.object ms) rest more is = absurd (cc is)

not_closing : (whole : Json) (rest more : List Token) → json_tokens whole ++ rest
    ≡ Token.end_array ∷ more → ⊥
not_closing json.null rest more is = cc is
not_closing (json.boolean b) rest more is = cc is
not_closing (json.number s) rest more is = cc is
not_closing (json.string s) rest more is = cc is
not_closing (json.array js) rest more is = cc is
not_closing (json.object ms) rest more is = cc is

-- ---- a node

-- the tokens from a node on
here : (ns : List Node) (i : ℕ) → i < length ns → drop i (map node_token ns)
    ≡ node_token (get_or ns i (Object 0)) ∷ drop (i + 1) (map node_token ns)
here ns i low =
    drop_more (map node_token ns) i (node_token (Object 0)) (omega
    (arith, length-map ns node_token))
    ∙ ap (λ t. t ∷ drop (i + 1) (map node_token ns)) (get_or-map node_token ns i (Object 0)
    (node_token (Object 0)) low)

none_here : (ns : List Node) (i : ℕ) → length ns ≤ i → drop i (map node_token ns) ≡ []
none_here ns i past = drop_all i (map node_token ns) (omega (arith, past, length-map ns node_token))

-- the tokens behind some that were passed
behind : (ts front rest : List Token) (i next : ℕ) → drop i ts ≡ front ++ rest → next
    ≡ i + length front → drop next ts ≡ rest
behind ts front rest i next is same = ap (λ n. drop n ts) same
    ∙ sym (drop-drop (length front) i ts) ∙ ap (drop (length front)) is
    ∙ drop-append_seam front rest

abbrev NoBracket : Node → Type 0
NoBracket node = ((end : ℕ) → node ≡ Object end → ⊥) × ((end : ℕ) → node ≡ Array end → ⊥)

leaf_node : (whole : Json) (rest more : List Token) (at : ℕ) (node : Node) → NoBracket node
    → json_tokens whole ++ rest ≡ node_token node ∷ more → (doubled_in at whole ≡ [])
    × (length (json_tokens whole) ≡ 1)
leaf_node json.null rest more at node never is = (refl, refl)
leaf_node (json.boolean b) rest more at node never is = (refl, refl)
leaf_node (json.number s) rest more at node never is = (refl, refl)
leaf_node (json.string s) rest more at node never is = (refl, refl)
leaf_node (json.array js) rest more at node never is = absurd (by node never (cc is))
  where
    by : (node : Node) → NoBracket node → Token.begin_array ≡ node_token node → ⊥
    by (Object end) never is = cc is
    by EndObject never is = cc is
    by (Array end) never is = never.1 end refl
    by EndArray never is = cc is
    by (Key s) never is = cc is
    by (String s) never is = cc is
    by (Number s) never is = cc is
    by (Truth b) never is = cc is
    by Null never is = cc is
leaf_node (json.object ms) rest more at node never is = absurd (by node never (cc is))
  where
    by : (node : Node) → NoBracket node → Token.begin_object ≡ node_token node → ⊥
    by (Object end) never is = never.0 end refl
    by EndObject never is = cc is
    by (Array end) never is = cc is
    by EndArray never is = cc is
    by (Key s) never is = cc is
    by (String s) never is = cc is
    by (Number s) never is = cc is
    by (Truth b) never is = cc is
    by Null never is = cc is

no_closing_node : (node : Node) → (node ≡ EndArray → ⊥) → node_token node ≡ Token.end_array → ⊥
no_closing_node (Object end) never is = cc is
no_closing_node EndObject never is = cc is
no_closing_node (Array end) never is = cc is
no_closing_node EndArray never is = never refl
no_closing_node (Key s) never is = cc is
no_closing_node (String s) never is = cc is
no_closing_node (Number s) never is = cc is
no_closing_node (Truth b) never is = cc is
no_closing_node Null never is = cc is

no_key_node : (node : Node) (name : List ℕ) → ((key : Bor (List ℕ)) → node ≡ Key key → ⊥)
    → node_token node ≡ Token.key name → ⊥
no_key_node (Object end) name never is = cc is
no_key_node EndObject name never is = cc is
no_key_node (Array end) name never is = cc is
no_key_node EndArray name never is = cc is
no_key_node (Key s) name never is = never s refl
no_key_node (String s) name never is = cc is
no_key_node (Number s) name never is = cc is
no_key_node (Truth b) name never is = cc is
no_key_node Null name never is = cc is

-- ---- a value

pub value_past : (ns : List Node) (at : ℕ) (whole : Json) (rest : List Token) → length ns ≤ at
    → drop at (map node_token ns) ≡ json_tokens whole ++ rest → ⊥
value_past ns at whole rest past is = not_empty whole rest (sym is ∙ none_here ns at past)

pub object_passed : {E : Type 0} (r : Result Passed E) (ns : List Node) (at end : ℕ)
    (whole : Json) (rest : List Token) → at < length ns → get_or ns at (Object 0) ≡ Object end
    → drop at (map node_token ns) ≡ json_tokens whole ++ rest
    → ((all : Members) (more : List Token) → drop (at + 1) (map node_token ns)
    ≡ members_tokens all ++ more
    → IfOk r (Passes (doubled_in_members (at + 1) [] all) (at + 1 + length (members_tokens all))))
    → IfOk r (Passes (doubled_in at whole) (at + length (json_tokens whole)))
object_passed r ns at end whole rest low is reads inner =
    let first = sym reads ∙ here ns at low
    ∙ ap (λ n. node_token n ∷ drop (at + 1) (map node_token ns)) is in
    let o = object_of whole rest (drop (at + 1) (map node_token ns)) first in
    subst (λ (w : Json). IfOk r (Passes (doubled_in at w) (at + length (json_tokens w)))) (sym o.1)
    (subst (λ (n : ℕ). IfOk r (Passes (doubled_in_members (at + 1) [] o.0) n)) (omega arith)
    (inner o.0 rest o.2))

pub array_passed : {E : Type 0} (r : Result Passed E) (ns : List Node) (at end : ℕ) (whole : Json)
    (rest : List Token) → at < length ns → get_or ns at (Object 0) ≡ Array end
    → drop at (map node_token ns) ≡ json_tokens whole ++ rest
    → ((all : Items) (more : List Token) → drop (at + 1) (map node_token ns)
    ≡ items_tokens all ++ more
    → IfOk r (Passes (doubled_in_items (at + 1) all) (at + 1 + length (items_tokens all))))
    → IfOk r (Passes (doubled_in at whole) (at + length (json_tokens whole)))
array_passed r ns at end whole rest low is reads inner =
    let first = sym reads ∙ here ns at low
    ∙ ap (λ n. node_token n ∷ drop (at + 1) (map node_token ns)) is in
    let o = array_of whole rest (drop (at + 1) (map node_token ns)) first in
    subst (λ (w : Json). IfOk r (Passes (doubled_in at w) (at + length (json_tokens w)))) (sym o.1)
    (subst (λ (n : ℕ). IfOk r (Passes (doubled_in_items (at + 1) o.0) n)) (omega arith)
    (inner o.0 rest o.2))

pub leaf_passed : (ns : List Node) (at : ℕ) (whole : Json) (rest : List Token) → at < length ns
    → ((end : ℕ) → get_or ns at (Object 0) ≡ Object end → ⊥) → ((end : ℕ)
    → get_or ns at (Object 0) ≡ Array end → ⊥) → drop at (map node_token ns)
    ≡ json_tokens whole ++ rest
    → Passes (doubled_in at whole) (at + length (json_tokens whole)) (Next (at + 1))
leaf_passed ns at whole rest low no_object no_array reads =
    let leaf = leaf_node whole rest (drop (at + 1) (map node_token ns)) at (get_or ns at
    (Object 0)) (no_object, no_array) (sym reads ∙ here ns at low) in
    (leaf.0, omega (arith, leaf.1))

-- where the nodes go on
pub goes_on : (item : Passed) (least end after : ℕ) → item ≡ Next after → GoesOn least end item
    → (least ≤ after) × (after ≤ end)
goes_on item least end after is goes = subst (λ (i : Passed). GoesOn least end i) is goes

-- ---- the items of an array

-- what is left of them
pub record ItemsLeft (ts : List Token) (at next : ℕ) (all : Items)
    (rest : List Token) : Type 0 where
  pub left : Items
  pub reads : drop next ts ≡ items_tokens left ++ rest
  pub same : doubled_in_items at all ≡ doubled_in_items next left
  pub ends : next + length (items_tokens left) ≡ at + length (items_tokens all)

first_of : {A : Type 0} (xs ys : List A) (x : A) → slice_get xs 0 ≡ Some x
    → slice_get (xs ++ ys) 0 ≡ Some x
first_of [] ys x is = absurd (cc is)
first_of (y ∷ xs) ys x is = is

pub items_past : (ns : List Node) (at next : ℕ) (all : Items) (rest : List Token)
    → ItemsLeft (map node_token ns) at next all rest → length ns ≤ next → ⊥
items_past ns at next all rest l past = by l.left (sym l.reads ∙ none_here ns next past)
  where
    by : (left : Items) → items_tokens left ++ rest ≡ [] → ⊥
    by json.no_items is = cc is
    by (json.item j js) is = not_empty j (items_tokens js ++ rest) (sym (append_assoc
        (json_tokens j) (items_tokens js) rest) ∙ is)

pub items_closed : (ns : List Node) (at next : ℕ) (all : Items) (rest : List Token)
    → ItemsLeft (map node_token ns) at next all rest → next < length ns
    → get_or ns next (Object 0) ≡ EndArray
    → Passes (doubled_in_items at all) (at + length (items_tokens all)) (Next (next + 1))
items_closed ns at next all rest l low is = by l.left (sym l.reads ∙ here ns next low
    ∙ ap (λ n. node_token n ∷ drop (next + 1) (map node_token ns)) is) l.same l.ends
  where
    by : (left : Items) → items_tokens left ++ rest
        ≡ Token.end_array ∷ drop (next + 1) (map node_token ns) → doubled_in_items at all
        ≡ doubled_in_items next left
        → next + length (items_tokens left) ≡ at + length (items_tokens all)
        → Passes (doubled_in_items at all) (at + length (items_tokens all)) (Next (next + 1))
    by json.no_items closes same ends = (same, omega (arith, ends))
    by (json.item j js) closes same ends = absurd (not_closing j (items_tokens js ++ rest) (drop
        (next + 1) (map node_token ns)) (sym (append_assoc (json_tokens j)
        (items_tokens js) rest) ∙ closes))

-- the next item, where the array goes on
record ItemNext (ts : List Token) (at next : ℕ) (all : Items) (rest : List Token) : Type 0 where
  first : Json
  others : Items
  reads : drop next ts ≡ json_tokens first ++ (items_tokens others ++ rest)
  same : doubled_in_items at all
      ≡ doubled_in next first ++ doubled_in_items (next + length (json_tokens first)) others
  ends : next + length (json_tokens first ++ items_tokens others) ≡ at + length (items_tokens all)

item_next : (ns : List Node) (at next : ℕ) (all : Items) (rest : List Token)
    → ItemsLeft (map node_token ns) at next all rest → next < length ns
    → (get_or ns next (Object 0) ≡ EndArray → ⊥) → ItemNext (map node_token ns) at next all rest
item_next ns at next all rest l low never = by l.left l.reads l.same l.ends
  where
    by : (left : Items) → drop next (map node_token ns) ≡ items_tokens left ++ rest
        → doubled_in_items at all ≡ doubled_in_items next left
        → next + length (items_tokens left) ≡ at + length (items_tokens all)
        → ItemNext (map node_token ns) at next all rest
    by json.no_items reads same ends = absurd (no_closing_node (get_or ns next (Object 0)) never
        (cc (sym (here ns next low) ∙ reads)))
    by (json.item j js) reads same ends = record {
      first = j;
      others = js;
      reads = reads
          ∙ append_assoc (json_tokens j) (items_tokens js) rest;
      same = same;
      ends = ends;
    }

pub items_turn : (ns : List Node) (at next after : ℕ) (item : Passed) (all : Items)
    (rest : List Token) → ItemsLeft (map node_token ns) at next all rest → next < length ns
    → (get_or ns next (Object 0) ≡ EndArray → ⊥)
    → ((whole : Json) (more : List Token) → drop next (map node_token ns)
    ≡ json_tokens whole ++ more
    → Passes (doubled_in next whole) (next + length (json_tokens whole)) item) → item ≡ Next after
    → ItemsLeft (map node_token ns) at after all rest
items_turn ns at next after item all rest l low never passed is =
    let n = item_next ns at next all rest l low never in
    let p = subst (λ (i : Passed). Passes (doubled_in next n.first) (next + length
    (json_tokens n.first)) i) is (passed n.first (items_tokens n.others ++ rest) n.reads) in
    record {
      left = n.others;
      reads = behind (map node_token ns) (json_tokens n.first)
          (items_tokens n.others ++ rest) next after n.reads p.1;
      same = n.same ∙ ap (λ keys. keys ++ doubled_in_items (next + length
          (json_tokens n.first)) n.others) p.0 ∙ ap (λ m. doubled_in_items m n.others) (sym p.1);
      ends = omega (
        arith,
        n.ends,
        p.1,
        length-append (json_tokens n.first)
            (items_tokens n.others),
      );
    }

pub items_twice : (ns : List Node) (at next : ℕ) (doubled : Doubled) (item : Passed) (all : Items)
    (rest : List Token) → ItemsLeft (map node_token ns) at next all rest → next < length ns
    → (get_or ns next (Object 0) ≡ EndArray → ⊥)
    → ((whole : Json) (more : List Token) → drop next (map node_token ns)
    ≡ json_tokens whole ++ more
    → Passes (doubled_in next whole) (next + length (json_tokens whole)) item) → item
    ≡ Twice doubled
    → Passes (doubled_in_items at all) (at + length (items_tokens all)) (Twice doubled)
items_twice ns at next doubled item all rest l low never passed is =
    let n = item_next ns at next all rest l low never in
    let p = subst (λ (i : Passed). Passes (doubled_in next n.first) (next + length
    (json_tokens n.first)) i) is (passed n.first (items_tokens n.others ++ rest) n.reads) in
    ap (λ keys. slice_get keys 0) n.same
    ∙ first_of (doubled_in next n.first) (doubled_in_items (next + length
    (json_tokens n.first)) n.others) (key_of doubled) p

-- ---- the members of an object

-- what is left of them, and the names of those before
pub record MembersLeft (ts : List Token) (at next : ℕ) (names : SeenNames) (all : Members)
    (rest : List Token) : Type 0 where
  pub left : Members
  pub before : List (List ℕ)
  pub seen : (name : List ℕ) → has_seen names name ≡ list_any (bytes_eq name) before
  pub reads : drop next ts ≡ members_tokens left ++ rest
  pub same : doubled_in_members at [] all ≡ doubled_in_members next before left
  pub ends : next + length (members_tokens left) ≡ at + length (members_tokens all)

pub members_begin : (ts : List Token) (at : ℕ) (names : SeenNames) (all : Members)
    (rest : List Token) → ((name : List ℕ) → has_seen names name ≡ false) → drop at ts
    ≡ members_tokens all ++ rest → MembersLeft ts at at names all rest
members_begin ts at names all rest none reads = record {
  left = all;
  before = [];
  seen = none;
  reads = reads;
  same = refl;
  ends = refl;
}

pub members_past : (ns : List Node) (at next : ℕ) (names : SeenNames) (all : Members)
    (rest : List Token) → MembersLeft (map node_token ns) at next names all rest
    → length ns ≤ next → ⊥
members_past ns at next names all rest l past = by l.left (sym l.reads ∙ none_here ns next past)
  where
    by : (left : Members) → members_tokens left ++ rest ≡ [] → ⊥
    by json.no_members is = cc is
    by (json.member k j ms) is = cc is

pub members_closed : (ns : List Node) (at next : ℕ) (names : SeenNames) (all : Members)
    (rest : List Token) → MembersLeft (map node_token ns) at next names all rest → next < length ns
    → ((key : Bor (List ℕ)) → get_or ns next (Object 0) ≡ Key key → ⊥)
    → Passes (doubled_in_members at [] all) (at + length (members_tokens all)) (Next (next + 1))
members_closed ns at next names all rest l low never = by l.left (sym (here ns next low)
    ∙ l.reads) l.same l.ends
  where
    by : (left : Members)
        → node_token (get_or ns next (Object 0)) ∷ drop (next + 1) (map node_token ns)
        ≡ members_tokens left ++ rest → doubled_in_members at [] all
        ≡ doubled_in_members next l.before left
        → next + length (members_tokens left) ≡ at + length (members_tokens all)
        → Passes (doubled_in_members at [] all) (at + length (members_tokens all)) (Next (next + 1))
    by json.no_members reads same ends = (same, omega (arith, ends))
    by (json.member k j ms) reads same ends = absurd (no_key_node (get_or ns next
        (Object 0)) k never (cc reads))

-- the next member, where the object goes on
record MemberNext (ts : List Token) (at next : ℕ) (name : List ℕ) (before : List (List ℕ))
    (all : Members) (rest : List Token) : Type 0 where
  first : Json
  others : Members
  reads : drop (next + 1) ts ≡ json_tokens first ++ (members_tokens others ++ rest)
  same : doubled_in_members at [] all
      ≡ if_doubled next name before ++ doubled_in (next + 1) first ++ doubled_in_members
      (next + 1 + length (json_tokens first)) (name ∷ before) others
  ends : next + 1 + length (json_tokens first ++ members_tokens others)
      ≡ at + length (members_tokens all)

member_next : (ns : List Node) (at next : ℕ) (key : Bor (List ℕ)) (names : SeenNames)
    (all : Members) (rest : List Token) (l : MembersLeft
    (map node_token ns) at next names all rest) → next < length ns → get_or ns next (Object 0)
    ≡ Key key
    → MemberNext (map node_token ns) at next key.now l.before all rest
member_next ns at next key names all rest l low is = by l.left (sym (here ns next low
    ∙ ap (λ n. node_token n ∷ drop (next + 1) (map node_token ns)) is) ∙ l.reads) l.same l.ends
  where
    by : (left : Members) → Token.key key.now ∷ drop (next + 1) (map node_token ns)
        ≡ members_tokens left ++ rest → doubled_in_members at [] all
        ≡ doubled_in_members next l.before left
        → next + length (members_tokens left) ≡ at + length (members_tokens all)
        → MemberNext (map node_token ns) at next key.now l.before all rest
    by json.no_members reads same ends = absurd (cc reads)
    by (json.member k j ms) reads same ends =
        let name : k ≡ key.now = cc reads in
        let more : drop (next + 1) (map node_token ns)
        ≡ (json_tokens j ++ members_tokens ms) ++ rest = cc reads in
        record {
          first = j;
          others = ms;
          reads = more ∙ append_assoc (json_tokens j) (members_tokens ms) rest;
          same = same ∙ ap (λ n. if_doubled next n l.before ++ doubled_in
              (next + 1) j ++ doubled_in_members (next + 1 + length (json_tokens j))
              (n ∷ l.before) ms) name;
          ends = omega (arith, ends);
        }

-- the name was there before
pub name_doubled : (ns : List Node) (at next : ℕ) (key : Bor (List ℕ)) (names : SeenNames)
    (all : Members) (rest : List Token) → MembersLeft (map node_token ns) at next names all rest
    → next < length ns → get_or ns next (Object 0) ≡ Key key
    → has_seen names key.now ≡ true
    → Passes (doubled_in_members at [] all) (at + length (members_tokens all)) (Twice
    (record { name = key; token = next }))
name_doubled ns at next key names all rest l low is there =
    let n = member_next ns at next key names all rest l low is in
    let second : list_any (bytes_eq key.now) l.before ≡ true = sym (l.seen key.now) ∙ there in
    ap (λ keys. slice_get keys 0) (n.same
    ∙ ap (λ b. cond b (record { token = next; name = key.now } ∷ []) [] ++ doubled_in
    (next + 1) n.first ++ doubled_in_members (next + 1 + length (json_tokens n.first))
    (key.now ∷ l.before) n.others) second)

-- the name is new
new_name : (ns : List Node) (at next : ℕ) (key : Bor (List ℕ)) (names : SeenNames) (all : Members)
    (rest : List Token) (l : MembersLeft (map node_token ns) at next names all rest)
    (n : MemberNext (map node_token ns) at next key.now l.before all rest)
    → has_seen names key.now ≡ false → doubled_in_members at [] all
    ≡ doubled_in (next + 1) n.first ++ doubled_in_members (next + 1 + length
    (json_tokens n.first)) (key.now ∷ l.before) n.others
new_name ns at next key names all rest l n there =
    let second : list_any (bytes_eq key.now) l.before ≡ false = sym (l.seen key.now) ∙ there in
    n.same ∙ ap (λ b. cond b (record { token = next; name = key.now } ∷ []) [] ++ doubled_in
    (next + 1) n.first ++ doubled_in_members (next + 1 + length (json_tokens n.first))
    (key.now ∷ l.before) n.others) second

pub members_turn : (ns : List Node) (at next after : ℕ) (item : Passed) (key : Bor (List ℕ))
    (names now : SeenNames) (all : Members) (rest : List Token)
    → MembersLeft (map node_token ns) at next names all rest → next < length ns
    → get_or ns next (Object 0) ≡ Key key
    → has_seen names key.now ≡ false → ((other : List ℕ) → has_seen now other
    ≡ (bytes_eq other key.now || has_seen names other))
    → ((whole : Json) (more : List Token) → drop (next + 1) (map node_token ns)
    ≡ json_tokens whole ++ more
    → Passes (doubled_in (next + 1) whole) (next + 1 + length (json_tokens whole)) item) → item
    ≡ Next after
    → MembersLeft (map node_token ns) at after now all rest
members_turn ns at next after item key names now all rest l low is there seen passed goes =
    let n = member_next ns at next key names all rest l low is in
    let p = subst (λ (i : Passed). Passes (doubled_in (next + 1) n.first) (next + 1 + length
    (json_tokens n.first)) i) goes (passed n.first (members_tokens n.others ++ rest) n.reads) in
    record {
      left = n.others;
      before = key.now ∷ l.before;
      seen = λ other. seen other ∙ ap (λ b. bytes_eq other key.now || b) (l.seen other);
      reads = behind (map node_token ns) (json_tokens n.first) (members_tokens n.others ++ rest)
          (next + 1) after n.reads p.1;
      same = new_name ns at next key names all rest l n there
          ∙ ap (λ keys. keys ++ doubled_in_members (next + 1 + length (json_tokens n.first))
          (key.now ∷ l.before) n.others) p.0
          ∙ ap (λ m. doubled_in_members m (key.now ∷ l.before) n.others) (sym p.1);
      ends = omega (
        arith,
        n.ends,
        p.1,
        length-append (json_tokens n.first)
            (members_tokens n.others),
      );
    }

pub members_twice : (ns : List Node) (at next : ℕ) (doubled : Doubled) (item : Passed) (key : Bor
    (List ℕ)) (names : SeenNames) (all : Members) (rest : List Token)
    → MembersLeft (map node_token ns) at next names all rest → next < length ns
    → get_or ns next (Object 0) ≡ Key key → has_seen names key.now ≡ false
    → ((whole : Json) (more : List Token) → drop (next + 1) (map node_token ns)
    ≡ json_tokens whole ++ more
    → Passes (doubled_in (next + 1) whole) (next + 1 + length (json_tokens whole)) item) → item
    ≡ Twice doubled
    → Passes (doubled_in_members at [] all) (at + length (members_tokens all)) (Twice doubled)
members_twice ns at next doubled item key names all rest l low is there passed twice =
    let n = member_next ns at next key names all rest l low is in
    let p = subst (λ (i : Passed). Passes (doubled_in (next + 1) n.first) (next + 1 + length
    (json_tokens n.first)) i) twice (passed n.first
    (members_tokens n.others ++ rest) n.reads) in
    ap (λ keys. slice_get keys 0) (new_name ns at next key names all rest l n there)
    ∙ first_of (doubled_in (next + 1) n.first) (doubled_in_members (next + 1 + length
    (json_tokens n.first)) (key.now ∷ l.before) n.others) (key_of doubled) p

-- ---- the whole

-- what is told of the value that the tokens begin with
record Whole (ts : List Token) : Type 0 where
  whole : Json
  rest : List Token
  reads : drop 0 ts ≡ json_tokens whole ++ rest
  tells : first_doubled ts ≡ slice_get (doubled_in 0 whole) 0

whole_of : (ts : List Token) → is_some (data_at ts) ≡ true → Whole ts
whole_of ts valid =
    let b : ParsedValue ts = parsed_value ts valid in
    let wide : depth b.value ≤ 128 = omega (arith, value-depth max_depth ts b.rest b.value b.is) in
    record {
      whole = b.value;
      rest = b.rest;
      reads = value-json_tokens_back max_depth ts b.rest b.value b.is;
      tells = ap (λ (o : Option (Json × List Token)). option_and_then (λ (read : Json
          × List Token). slice_get (doubled_in 0 read.0) 0) o)
          (value_in max_depth 128 ts b.rest b.value b.is wide);
    }

pub whole_twice : (ns : List Node) (ts : List Token) (doubled : Doubled) (item : Passed)
    → map node_token ns ≡ ts → is_some (data_at ts) ≡ true
    → ((whole : Json) (rest : List Token) → drop 0 (map node_token ns)
    ≡ json_tokens whole ++ rest
    → Passes (doubled_in 0 whole) (0 + length (json_tokens whole)) item) → item ≡ Twice doubled
    → Some (key_of doubled) ≡ first_doubled ts
whole_twice ns ts doubled item same valid passed is =
    let w = whole_of ts valid in
    sym (w.tells ∙ subst (λ (i : Passed). Passes (doubled_in 0 w.whole) (0 + length
    (json_tokens w.whole)) i) is (passed w.whole w.rest (ap (drop 0) same ∙ w.reads)))

pub whole_once : (ns : List Node) (ts : List Token) (next : ℕ) (item : Passed)
    → map node_token ns ≡ ts → is_some (data_at ts) ≡ true
    → ((whole : Json) (rest : List Token) → drop 0 (map node_token ns)
    ≡ json_tokens whole ++ rest
    → Passes (doubled_in 0 whole) (0 + length (json_tokens whole)) item) → item ≡ Next next
    → None ≡ first_doubled ts
whole_once ns ts next item same valid passed is =
    let w = whole_of ts valid in
    let p = subst (λ (i : Passed). Passes (doubled_in 0 w.whole) (0 + length
    (json_tokens w.whole)) i) is (passed w.whole w.rest (ap (drop 0) same ∙ w.reads)) in
    sym (w.tells ∙ ap (λ keys. slice_get keys 0) p.0)
