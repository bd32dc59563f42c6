-- The items of an array, one after another: the tokens after an item are read as if the array had
-- just opened there.
use Rattle.std.proofs.Common.{◌≡◌, ℕ, zero, suc, ◌≤◌, max, List, ◌∷◌, ◌++◌, length, true, Option, Some, None, is_some, option_map, refl, sym, ap, ◌∙◌, subst}
use Rattle.std.proofs.Common.{arith, append_assoc}
use Rattle.std.specs.Prelude.{MatchOption, IfNone, unwrap_or}
use Rattle.json.specs.Token.{Token}
use Rattle.json.specs.Json as json
use Rattle.json.specs.Find.{BeginsWith, InItems, NextItem}
use Rattle.json.specs.Find as json_find
use Rattle.json.specs.Tree.{depth, items_depth, json_tokens, items_tokens}
use Rattle.json.proofs.Found.{Some_inj}
use Rattle.json.proofs.Grammar.{closed_array, value-begin_array}
use Rattle.json.proofs.Nesting.{value-depth}
use Rattle.json.proofs.Printed.Trees.{value-json_tokens}
use Rattle.json.proofs.Unique.Spelling.{value-json_tokens_back}
use Rattle.serde_json.specs.Data.{Data, Items, no_items, item, null, boolean, number, string, array, object, no_members}
use Rattle.serde_json.specs.Find.{as_array}
use Rattle.serde_json.specs.Read.{of_json, of_items, of_members, number_of, max_depth}
use Rattle.json_data.specs.Reading.{data_at, data_of, rest_of}
use Rattle.json_data.proofs.Members.{then_some, mapped_some}
use Rattle.json_data.proofs.Values.{ParsedValue, parsed_value, starts, some_data}

-- items are read from the tokens that they have
spelled : (d n : ℕ) (ts r : List Token) (js : json.Items) → json.items (json.value d) n ts ≡ Some (js, r) → ts ≡ items_tokens js ++ r
unfolding json.items
spelled d zero ts r js is = absurd (cc is)
spelled d (suc n) ts r js is = by (json.after_end_array ts) refl is (λ q x more. spelled d n q r x more)
  where
    by : (o : Option (List Token)) → json.after_end_array ts ≡ o → json.items_step (json.value d) (json.items (json.value d) n) ts o ≡ Some (js, r)
        → ((q : List Token) (x : json.Items) → json.items (json.value d) n q ≡ Some (x, r) → q ≡ items_tokens x ++ r) → ts ≡ items_tokens js ++ r
    by (Some rest) ends is more =
        let same = Some_inj (json.no_items, rest) (js, r) is in
        closed_array ts rest ends ∙ ap (λ (p : json.Items × List Token). items_tokens p.0 ++ p.1) same
    by None ends is more =
        let first = then_some (λ (p : json.Json × List Token). json.parse_map (json.item p.0) (json.items (json.value d) n p.1)) (json.value d ts) (js, r) is in
        let others = mapped_some (λ (p : json.Items × List Token). (json.item first.0.0 p.0, p.1)) (json.items (json.value d) n first.0.1) (js, r) first.2 in
        let left : others.0.1 ≡ r = ap (λ (p : json.Items × List Token). p.1) (sym others.2) in
        let ends : first.0.1 ≡ items_tokens others.0.0 ++ r = more first.0.1 others.0.0 (others.1 ∙ ap (λ r. Some (others.0.0, r)) left) in
        value-json_tokens_back d ts first.0.1 first.0.0 first.1 ∙ ap (λ ts. json_tokens first.0.0 ++ ts) ends
        ∙ sym (append_assoc (json_tokens first.0.0) (items_tokens others.0.0) r)
        ∙ ap (λ (p : json.Items × List Token). items_tokens p.0 ++ r) (sym others.2)

-- tokens that go on with items are those of an array that has opened
opened : (ts : List Token) (js : json.Items) → InItems ts js → depth (json.array js) ≤ max_depth → data_at (Token.begin_array ∷ ts) ≡ of_json (json.array js)
opened ts js inside deep =
    rw (ap (λ ts. Token.begin_array ∷ ts) (spelled inside.0 inside.1 ts inside.2 js inside.3), value-json_tokens (json.array js) max_depth inside.2 deep) refl

-- what an array that has opened goes on with
record Opened (ts : List Token) : Type 0 where
  pub found : json.Items
  pub items : Items
  pub inside : InItems ts found
  pub deep : depth (json.array found) ≤ max_depth
  pub reads : of_items found ≡ Some items
  pub shows : rest_of ts ≡ items

opens : (ts : List Token) → is_some (data_at (Token.begin_array ∷ ts)) ≡ true → Opened ts
opens ts valid =
    let b = parsed_value (Token.begin_array ∷ ts) valid in
    let here = sym (value-begin_array max_depth ts (omega arith)) ∙ b.is in
    let inside = mapped_some (λ (p : json.Items × List Token). (json.array p.0, p.1)) (json.items (json.value 126) (length ts) ts) (b.value, b.rest) here in
    let is : b.value ≡ json.array inside.0.0 = ap (λ (p : json.Json × List Token). p.0) inside.2 in
    let read = mapped_some array (of_items inside.0.0) b.read (ap of_json (sym is) ∙ b.reads) in
    record {
      found = inside.0.0;
      items = read.0;
      inside = (126, length ts, inside.0.1, inside.1);
      deep = subst (λ (j : json.Json). depth j ≤ max_depth) is (value-depth max_depth (Token.begin_array ∷ ts) b.rest b.value b.is);
      reads = read.1;
      shows = ap (λ (d : Data). unwrap_or (as_array d) no_items) (b.shows ∙ read.2);
    }

-- the items of an array
pub array_at : (ts : List Token) (r : Option (List Token)) → is_some (data_at ts) ≡ true
    → ((j : json.Json) → BeginsWith ts j → MatchOption r (json_find.as_array j ≡ None) (λ rest. (js : json.Items) × (j ≡ json.array js) × InItems rest js))
    → MatchOption r (None ≡ as_array (data_of ts)) (λ rest. (is_some (data_at (Token.begin_array ∷ rest)) ≡ true) ×
    (Some (rest_of rest) ≡ as_array (data_of ts)))
array_at ts r valid finds = let b = parsed_value ts valid in by r b (finds b.value (max_depth, b.rest, b.is))
  where
    none : (j : json.Json) (d : Data) → of_json j ≡ Some d → json_find.as_array j ≡ None → None ≡ as_array d
    none json.null d is never = ap as_array (Some_inj null d is)
    none (json.boolean b) d is never = ap as_array (Some_inj (boolean b) d is)
    none (json.number s) d is never = let m = mapped_some number (number_of s) d is in ap as_array (sym m.2)
    none (json.string s) d is never = ap as_array (Some_inj (string s) d is)
    none (json.array js) d is never = absurd (cc never)
    none (json.object ms) d is never = let m = mapped_some object (of_members ms no_members) d is in ap as_array (sym m.2)

    by : (r : Option (List Token)) (b : ParsedValue ts) → MatchOption r (json_find.as_array b.value ≡ None)
        (λ rest. (js : json.Items) × (b.value ≡ json.array js) × InItems rest js)
        → MatchOption r (None ≡ as_array (data_of ts)) (λ rest. (is_some (data_at (Token.begin_array ∷ rest)) ≡ true) ×
        (Some (rest_of rest) ≡ as_array (data_of ts)))
    by None b never = none b.value b.read b.reads never ∙ ap as_array (sym b.shows)
    by (Some rest) b found =
        let deep = subst (λ (j : json.Json). depth j ≤ max_depth) found.1 (value-depth max_depth ts b.rest b.value b.is) in
        let is = opened rest found.0 found.2 deep in
        let reads : of_json (json.array found.0) ≡ Some b.read = ap of_json (sym found.1) ∙ b.reads in
        let items = mapped_some array (of_items found.0) b.read reads in
        let shows : data_of (Token.begin_array ∷ rest) ≡ b.read = ap (λ (o : Option Data). unwrap_or o null) (is ∙ reads) in (
          ap is_some (is ∙ reads),
          ap (λ (d : Data). Some (unwrap_or (as_array d) no_items)) (shows ∙ items.2) ∙ ap as_array (sym (b.shows ∙ items.2)),
        )

-- the next item, and those after it
pub next_at : (old new : List Token) (r : Option (List Token)) → is_some (data_at (Token.begin_array ∷ old)) ≡ true → NextItem old r new
    → MatchOption r (rest_of old ≡ no_items) (λ ts. (is_some (data_at ts) ≡ true) × (is_some (data_at (Token.begin_array ∷ new)) ≡ true) ×
    (rest_of old ≡ item (data_of ts) (rest_of new)))
next_at old new r valid next = let o = opens old valid in by r o (next o.found o.inside)
  where
    by : (r : Option (List Token)) (o : Opened old) → MatchOption r (o.found ≡ json.no_items)
        (λ ts. (j : json.Json) × (rest : json.Items) × (o.found ≡ json.item j rest) × BeginsWith ts j × InItems new rest)
        → MatchOption r (rest_of old ≡ no_items) (λ ts. (is_some (data_at ts) ≡ true) × (is_some (data_at (Token.begin_array ∷ new)) ≡ true) ×
        (rest_of old ≡ item (data_of ts) (rest_of new)))
    by None o none = o.shows ∙ Some_inj o.items no_items (sym o.reads ∙ ap of_items none)
    by (Some ts) o found =
        let deep : suc (max (depth found.0) (items_depth found.1)) ≤ max_depth = subst (λ (js : json.Items). depth (json.array js) ≤ max_depth) found.2 o.deep
        in
        let reads : of_items (json.item found.0 found.1) ≡ Some o.items = ap of_items (sym found.2) ∙ o.reads in
        let first = then_some (λ d. option_map (item d) (of_items found.1)) (of_json found.0) o.items reads in
        let others = mapped_some (item first.0) (of_items found.1) o.items first.2 in
        let begins = starts found.3.0 ts found.3.1 found.0 found.3.2 (omega (arith, deep)) in
        let some = some_data ts found.0 begins (ap is_some first.1) in
        let goes_on = opened new found.1 found.4 (omega (arith, deep)) ∙ ap (option_map array) others.1 in (
          some.0,
          ap is_some goes_on,
          o.shows ∙ others.2 ∙ ap (λ (d : Data). item d others.0) (sym (Some_inj (data_of ts) first.0 (some.1 ∙ first.1)))
              ∙ ap (λ (ds : Items). item (data_of ts) ds) (sym (ap (λ (o : Option Data). unwrap_or (as_array (unwrap_or o null)) no_items) goes_on)),
        )

pub next_valid : (old new : List Token) (r : Option (List Token)) → is_some (data_at (Token.begin_array ∷ old)) ≡ true → NextItem old r new → IfNone r
    (new ≡ old)
    → is_some (data_at (Token.begin_array ∷ new)) ≡ true
next_valid old new None valid next stays = subst (λ ts. is_some (data_at (Token.begin_array ∷ ts)) ≡ true) (sym stays) valid
next_valid old new (Some ts) valid next stays = (next_at old new (Some ts) valid next).1
