-- The members of an object, one after another, and what is found among them.
use Rattle.std.proofs.Common.{◌≡◌, ℕ, zero, suc, ◌<◌, ◌≤◌, length, drop, get_or, List, [], ◌∷◌, ◌++◌, Bool, true, false, cond, Option, Some, None, is_some}
use Rattle.std.proofs.Common.{refl, sym, ap, ◌∙◌, subst, arith, bytes_eq}
use Rattle.std.proofs.lemmas.Slice.Eq.{bytes_eq-Decides}
use Rattle.json.specs.Token.{Token}
use Rattle.json.specs.Json as json
use Rattle.json.specs.Find.{BeginsWith}
use Rattle.json.specs.Tree.{depth, members_depth}
use Rattle.json.proofs.Found.{one_reading, Some_inj}
use Rattle.serde_json.specs.Data.{Data, Members, put}
use Rattle.serde_json.specs.Find.{get_member}
use Rattle.serde_json.specs.Read.{of_json, of_members, max_depth}
use Rattle.serde_json.proofs.Views.{get_member-put, get_member-put_other}
use Rattle.json_data.specs.declared.gathered.Named.{Named}
use Rattle.json_data.specs.declared.item.Item.{Item}
use Rattle.json_data.specs.Held.{later, last_named, least_held, Passed}
use Rattle.json_data.specs.Opening.{AreRead}
use Rattle.json_data.specs.Reading.{data_at, lesser_unknown}
use Rattle.json_data.specs.View.{view}
use Rattle.json_data.proofs.Members.{then_some, taken}
use Rattle.json_data.proofs.Values.{parsed_value, some_data, starts}

-- one more is passed
pub passed_more : (held : List (Option Named)) (it : Named) (j : json.Json) (all rest more : json.Members)
    → Passed held all rest → rest ≡ json.member it.name.now j more → BeginsWith it.value.element j → Passed (held ++ Some it ∷ []) all more
passed_more [] it j all rest more passed is begins = subst (λ (ms : json.Members). Passed (Some it ∷ []) ms more) (sym (passed ∙ is)) (refl, begins, refl)
passed_more (None ∷ held) it j all rest more passed is begins = absurd passed
passed_more (Some x ∷ held) it j json.no_members rest more passed is begins = absurd passed
passed_more (Some x ∷ held) it j (json.member k i ms) rest more passed is begins = (passed.0, passed.1, passed_more held it j ms rest more passed.2 is begins)

pub rest_read : (held : List (Option Named)) (all rest : json.Members) → Passed held all rest → AreRead all → AreRead rest
rest_read [] all rest passed read = subst AreRead passed read
rest_read (None ∷ held) all rest passed read = absurd passed
rest_read (Some x ∷ held) json.no_members rest passed read = absurd passed
rest_read (Some x ∷ held) (json.member k i ms) rest passed read = rest_read held ms rest passed.2 read.2

pub are_read : (ms : json.Members) (found all : Members) → of_members ms found ≡ Some all → members_depth ms ≤ max_depth → AreRead ms
are_read json.no_members found all is deep = tt
are_read (json.member k j ms) found all is deep =
    let first = then_some (λ d. of_members ms (put k d found)) (of_json j) all is in
    (ap is_some first.1, omega (arith, deep), are_read ms (put k first.0 found) all first.2 (omega (arith, deep)))

-- a member that serde_json reads is read where it begins
pub begins_read : (ts : List Token) (j : json.Json) → BeginsWith ts j → is_some (of_json j) ≡ true → depth j ≤ max_depth → is_some (data_at ts) ≡ true
begins_read ts j begins some deep = (some_data ts j (starts begins.0 ts begins.1 j begins.2 deep) some).0

-- what an item shows is what serde_json reads of the value there
shown : (it : Item) (j : json.Json) (d : Data) → BeginsWith it.element j → of_json j ≡ Some d → view it ≡ d
shown it j d begins is =
    let b = parsed_value it.element it.valid in
    let same = Some_inj (b.value, b.rest) (j, begins.1) (one_reading max_depth begins.0 it.element (b.value, b.rest) (j, begins.1) b.is begins.2) in
    let value : b.value ≡ j = ap (λ (p : json.Json × List Token). p.0) same in
    b.shows ∙ Some_inj b.read d (sym b.reads ∙ ap of_json value ∙ is)

turn : (name k : List ℕ) (d : Data) (o : Option Data) (found : Members)
    → later o (get_member name (put k d found)) ≡ later (later o (cond (bytes_eq k name) (Some d) None)) (get_member name found)
turn name k d (Some e) found = refl
turn name k d None found = by (bytes_eq k name) refl
  where
    by : (b : Bool) → bytes_eq k name ≡ b → get_member name (put k d found) ≡ later (cond b (Some d) None) (get_member name found)
    by true same = subst (λ n. get_member n (put k d found) ≡ Some d) ((bytes_eq-Decides k name).0 same) (get_member-put k d found)
    by false same = get_member-put_other name k d found (λ e. cc (same, (bytes_eq-Decides k name).1 (sym e)))

-- what is found at a name is the last one of it
pub found_held : (name : List ℕ) (held : List (Option Named)) (ms : json.Members) (found all : Members)
    → Passed held ms json.no_members → of_members ms found ≡ Some all → get_member name all ≡ later (last_named name held) (get_member name found)
found_held name [] ms found all passed is =
    ap (get_member name) (sym (Some_inj found all (subst (λ (m : json.Members). of_members m found ≡ Some all) passed is)))
found_held name (None ∷ held) ms found all passed is = absurd passed
found_held name (Some it ∷ held) json.no_members found all passed is = absurd passed
found_held name (Some it ∷ held) (json.member k j ms) found all passed is =
    let first = then_some (λ d. of_members ms (put k d found)) (of_json j) all is in
    let value : view it.value ≡ first.0 = shown it.value j first.0 passed.1 first.1 in
    found_held name held ms (put k first.0 found) all passed.2 first.2
    ∙ turn name k first.0 (last_named name held) found
    ∙ ap (λ n. later (later (last_named name held) (cond (bytes_eq n name) (Some first.0) None)) (get_member name found)) passed.0
    ∙ ap (λ d. later (later (last_named name held) (cond (bytes_eq it.name.now name) (Some d) None)) (get_member name found)) (sym value)

-- their names are those of the object
pub names_held : (known : List (List ℕ)) (held : List (Option Named)) (ms : json.Members) (least : Option (List ℕ))
    → Passed held ms json.no_members → least_held known held least ≡ taken known ms least
names_held known [] ms least passed = ap (λ (m : json.Members). taken known m least) (sym passed)
names_held known (None ∷ held) ms least passed = absurd passed
names_held known (Some it ∷ held) json.no_members least passed = absurd passed
names_held known (Some it ∷ held) (json.member k j ms) least passed =
    names_held known held ms (lesser_unknown known it.name.now least) passed.2 ∙ ap (λ n. taken known ms (lesser_unknown known n least)) (sym passed.0)

pub passed_push : (new held : List (Option Named)) (it : Named) (j : json.Json) (all rest more : json.Members)
    → new ≡ held ++ Some it ∷ [] → Passed held all rest → rest ≡ json.member it.name.now j more → BeginsWith it.value.element j → Passed new all more
passed_push new held it j all rest more is passed next begins =
    subst (λ xs. Passed xs all more) (sym is) (passed_more held it j all rest more passed next begins)

-- the last one of a name is one after which none has it
pub found_last : (name : List ℕ) (held : List (Option Named)) (at : ℕ) (it : Named) (d : Option Named)
    → get_or held at d ≡ Some it → at < length held → bytes_eq it.name.now name ≡ true
    → last_named name (drop (suc at) held) ≡ None → last_named name held ≡ Some (view it.value)
found_last name [] at it d is low same none = absurd (omega arith)
found_last name (x ∷ held) zero it d is low same none =
    subst (λ (y : Option Named). last_named name (y ∷ held) ≡ Some (view it.value)) (sym is)
    (ap (λ o. later o (cond (bytes_eq it.name.now name) (Some (view it.value)) None)) none ∙ ap (λ b. cond b (Some (view it.value)) None) same)
found_last name (None ∷ held) (suc at) it d is low same none = found_last name held at it d is (omega arith) same none
found_last name (Some y ∷ held) (suc at) it d is low same none =
    ap (λ o. later o (cond (bytes_eq y.name.now name) (Some (view y.value)) None)) (found_last name held at it d is (omega arith) same none)
