-- The members of an object as a tape has them.
use Rattle.std.proofs.Common.{◌≡◌, ℕ, ◌≤◌, List, true, Option, Some, None, is_some, refl, sym, ap, ◌∙◌, subst, arith}
use Rattle.json.specs.Token.{Token}
use Rattle.json.specs.Json as json
use Rattle.json.specs.Find.{BeginsWith, InMembers, NextMember}
use Rattle.json.specs.Find as json_find
use Rattle.json.specs.Tree.{depth}
use Rattle.json.proofs.Found.{Some_inj}
use Rattle.json.proofs.Nesting.{value-depth}
use Rattle.serde_json.specs.Data.{Data, Members, null, boolean, number, string, array, object, no_members}
use Rattle.serde_json.specs.Find.{as_object, get, get_member}
use Rattle.serde_json.specs.Read.{of_json, of_items, of_members, number_of, max_depth}
use Rattle.json_data.specs.declared.gathered.Named.{Named}
use Rattle.json_data.specs.declared.item.Item.{Item}
use Rattle.json_data.specs.Held.{later, last_named, IsGathered, Passed}
use Rattle.json_data.specs.Opening.{AreReadable, Opens}
use Rattle.json_data.specs.Reading.{data_at, data_of, least_unknown, least_unknown_key, lesser_unknown}
use Rattle.json_data.specs.View.{view}
use Rattle.json_data.proofs.Gathering.{are_read, found_held, names_held}
use Rattle.json_data.proofs.Members.{mapped_some, names_read, taken, taken_all}
use Rattle.json_data.proofs.Values.{parsed_value}

none : (j : json.Json) (d : Data) → of_json j ≡ Some d → json_find.as_object j ≡ None → None ≡ as_object d
none json.null d is never = ap as_object (Some_inj null d is)
none (json.boolean b) d is never = ap as_object (Some_inj (boolean b) d is)
none (json.number s) d is never = let m = mapped_some number (number_of s) d is in ap as_object (sym m.2)
none (json.string s) d is never = ap as_object (Some_inj (string s) d is)
none (json.array js) d is never = let m = mapped_some array (of_items js) d is in ap as_object (sym m.2)
none (json.object ms) d is never = absurd (cc never)

pub no_object : (ts : List Token) → is_some (data_at ts) ≡ true → Opens ts None → None ≡ as_object (data_of ts)
no_object ts valid finds = let b = parsed_value ts valid in none b.value b.read b.reads (finds b.value (max_depth, b.rest, b.is)) ∙ ap as_object (sym b.shows)

-- what stands in an object
pub record Object (ts rest : List Token) : Type 0 where
  pub found : json.Members
  pub members : Members
  pub inside : InMembers rest found
  pub reads : of_members found no_members ≡ Some members
  pub shows : as_object (data_of ts) ≡ Some members

pub an_object : (ts rest : List Token) → is_some (data_at ts) ≡ true → Opens ts (Some rest) → Object ts rest
an_object ts rest valid finds =
    let b = parsed_value ts valid in
    let found = finds b.value (max_depth, b.rest, b.is) in
    let m = mapped_some object (of_members found.0 no_members) b.read (ap of_json (sym found.1) ∙ b.reads) in
    record { found = found.0; members = m.0; inside = found.2; reads = m.1; shows = ap as_object (b.shows ∙ m.2) }

-- an object's least unknown name is that of its keys
pub unknown_name : (names : List (List ℕ)) (ts rest : List Token) (least : Option (List ℕ)) (members : Members) → is_some (data_at ts) ≡ true → Opens ts
    (Some rest)
    → ((all : json.Members) → InMembers rest all → least ≡ least_unknown_key names all) → as_object (data_of ts) ≡ Some members → least ≡ least_unknown names
    members
unknown_name names ts rest least members valid finds keys is =
    let o = an_object ts rest valid finds in
    let same : o.members ≡ members = Some_inj o.members members (sym o.shows ∙ is) in
    keys o.found o.inside ∙ sym (names_read names o.found o.members o.reads) ∙ ap (least_unknown names) same

-- one key, and those after it
pub keys_turn : (names : List (List ℕ)) (old new at : List Token) (k : List ℕ) (ms : json.Members) (least : Option (List ℕ)) → NextMember old (Some (k, at)) new
    → InMembers old ms
    → (rest : json.Members) × InMembers new rest × (taken names ms least ≡ taken names rest (lesser_unknown names k least))
keys_turn names old new at k ms least next inside = let f = next ms inside in (f.1, f.4, ap (λ (ms : json.Members). taken names ms least) f.2)

pub keys_end : (names : List (List ℕ)) (old new : List Token) (ms : json.Members) (least : Option (List ℕ)) → NextMember old None new → InMembers old ms → taken
    names ms least ≡ least
keys_end names old new ms least next inside = ap (λ (ms : json.Members). taken names ms least) (next ms inside)

-- ---- an object whose members are gone through

pub object_readable : (item : Item) (rest : List Token) → Opens item.element (Some rest) → AreReadable rest
object_readable item rest opens =
    let b = parsed_value item.element item.valid in
    let found = opens b.value (max_depth, b.rest, b.is) in
    let m = mapped_some object (of_members found.0 no_members) b.read (ap of_json (sym found.1) ∙ b.reads) in
    let deep : depth (json.object found.0) ≤ max_depth =
    subst (λ (j : json.Json). depth j ≤ max_depth) found.1 (value-depth max_depth item.element b.rest b.value b.is) in
    (found.0, found.2, are_read found.0 no_members m.0 m.1 (omega (arith, deep)))

last_of : (name : List ℕ) (d : Data) (all : Members) (held : List (Option Named))
    → as_object d ≡ Some all → get_member name all ≡ later (last_named name held) None → get name d ≡ last_named name held
last_of name (object ms) all held is found = ap (get_member name) (Some_inj ms all is) ∙ found ∙ none_later (last_named name held)
  where
    none_later : (o : Option Data) → later o None ≡ o
    none_later None = refl
    none_later (Some x) = refl
last_of name null all held is found = absurd (cc is)
last_of name (boolean b) all held is found = absurd (cc is)
last_of name (number n) all held is found = absurd (cc is)
last_of name (string s) all held is found = absurd (cc is)
last_of name (array ds) all held is found = absurd (cc is)

pub object_gathered : (item : Item) (rest : List Token) (held : List (Option Named)) → Opens item.element (Some rest)
    → ((all : json.Members) → InMembers rest all → Passed held all json.no_members) → IsGathered held item
object_gathered item rest held opens passed =
    let o = an_object item.element rest item.valid opens in
    let all = passed o.found o.inside in (
      ap is_some o.shows,
      λ name. last_of name (view item) o.members held o.shows (found_held name held o.found no_members o.members all o.reads),
      λ known members is.
          names_held known held o.found None all ∙ taken_all known o.found ∙ sym (names_read known o.found o.members o.reads)
          ∙ ap (least_unknown known) (Some_inj o.members members (sym o.shows ∙ is)),
    )
