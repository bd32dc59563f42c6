-- The members of an object: what serde_json has at a name is what `json` finds there last, and both
-- have the same names.
use Rattle.std.proofs.Common.{◌≡◌, ℕ, ◌≤◌, max, List, [], ◌∷◌, ◌++◌, ◌||◌, Bool, true, false, cond, not, ◌&&◌, Bor, Option, Some, None, is_none, is_some}
use Rattle.std.proofs.Common.{option_map, option_and_then, refl, sym, ap, ◌∙◌, subst, arith, bytes_eq, Ordering, Less, Equal, Greater}
use Rattle.std.specs.List.{list_any}
use Rattle.std.specs.Option.{option_map_or}
use Rattle.std.specs.Ordering.{is_eq, nat_cmp, match_ordering}
use Rattle.std.specs.Cmp.Lexicographic.{slice_cmp}
use Rattle.std.proofs.lemmas.Map.Text.{is_eq-slice_cmp}
use Rattle.std.proofs.lemmas.Slice.Eq.{bytes_eq-Decides}
use Rattle.json.specs.Json as json
use Rattle.json.specs.Find as json_find
use Rattle.json.specs.Tree.{depth, members_depth}
use Rattle.json.proofs.Found.{Some_inj}
use Rattle.serde_json.specs.Data.{Data, Members, no_members, member, put}
use Rattle.serde_json.specs.Find.{get_member}
use Rattle.serde_json.specs.Read.{of_json, of_members}
use Rattle.serde_json.proofs.Views.{get_member-put, get_member-put_other}
use Rattle.json_data.specs.Reading.{are_known, least_unknown, least_unknown_key, lesser, lesser_unknown}
use Rattle.json_data.proofs.Least.{swap, twice}

pub then_some : {A B : Type 0} (f : A → Option B) (o : Option A) (y : B) → option_and_then f o ≡ Some y → (x : A) × (o ≡ Some x) × (f x ≡ Some y)
then_some f (Some x) y is = (x, refl, is)
then_some f None y is = absurd (cc is)

pub mapped_some : {A B : Type 0} (f : A → B) (o : Option A) (y : B) → option_map f o ≡ Some y → (x : A) × (o ≡ Some x) × (y ≡ f x)
mapped_some f (Some x) y is = (x, refl, sym (Some_inj (f x) y is))
mapped_some f None y is = absurd (cc is)

-- ---- what is found at a name

abbrev pub found_in : Option json.Json → Option Data → Option Data
found_in None earlier = earlier
found_in (Some j) earlier = of_json j

turn : (name k : List ℕ) (j : json.Json) (d : Data) (o : Option json.Json) (found : Members) → of_json j ≡ Some d
    → found_in o (get_member name (put k d found)) ≡ found_in (json_find.later_or o (cond (bytes_eq k name) (Some j) None)) (get_member name found)
turn name k j d (Some i) found is = refl
turn name k j d None found is = by (bytes_eq k name) refl
  where
    by : (b : Bool) → bytes_eq k name ≡ b → get_member name (put k d found) ≡ found_in (cond b (Some j) None) (get_member name found)
    by true same = subst (λ n. get_member n (put k d found) ≡ of_json j) ((bytes_eq-Decides k name).0 same) (get_member-put k d found ∙ sym is)
    by false same = get_member-put_other name k d found (λ e. cc (same, (bytes_eq-Decides k name).1 (sym e)))

pub get_read : (name : List ℕ) (ms : json.Members) (found all : Members) → of_members ms found ≡ Some all → get_member name all ≡ found_in
    (json_find.get_member name ms) (get_member name found)
get_read name json.no_members found all is = ap (get_member name) (sym (Some_inj found all is))
get_read name (json.member k j ms) found all is =
    let first = then_some (λ d. of_members ms (put k d found)) (of_json j) all is in
    get_read name ms (put k first.0 found) all first.2 ∙ turn name k j first.0 (json_find.get_member name ms) found first.1

-- what is found is read, and nests no deeper
pub part_read : (name : List ℕ) (ms : json.Members) (found all : Members) (i : json.Json) → of_members ms found ≡ Some all → json_find.get_member name ms ≡ Some
    i → (is_some (of_json i) ≡ true) × (depth i ≤ members_depth ms)
part_read name json.no_members found all i is there = absurd (cc there)
part_read name (json.member k j ms) found all i is there =
    let first = then_some (λ d. of_members ms (put k d found)) (of_json j) all is in
    from (json_find.get_member name ms) first.0 first.1 there (λ e. part_read name ms (put k first.0 found) all i first.2 e) refl
  where
    from : (o : Option json.Json) (d : Data) → of_json j ≡ Some d → json_find.later_or o (cond (bytes_eq k name) (Some j) None) ≡ Some i →
        (o ≡ Some i → (is_some (of_json i) ≡ true) × (depth i ≤ members_depth ms)) → json_find.get_member name ms ≡ o
        → (is_some (of_json i) ≡ true) × (depth i ≤ max (depth j) (members_depth ms))
    from (Some x) d is that more e = let later = more that in (later.0, omega (arith, later.1))
    from None d is that more e = here (bytes_eq k name) d is that
      where
        here : (b : Bool) (d : Data) → of_json j ≡ Some d → cond b (Some j) None ≡ Some i → (is_some (of_json i) ≡ true) ×
            (depth i ≤ max (depth j) (members_depth ms))
        here false d is that = absurd (cc that)
        here true d is that =
            let same : j ≡ i = Some_inj j i that in (
              subst (λ (x : json.Json). is_some (of_json x) ≡ true) same (ap is_some is),
              subst (λ (x : json.Json). depth x ≤ max (depth j) (members_depth ms))
                  same (omega arith),
            )

-- ---- the names

put_unknown : (names : List (List ℕ)) (k : List ℕ) (d : Data) (ms : Members) → least_unknown names (put k d ms) ≡ lesser_unknown names k
    (least_unknown names ms)
put_unknown names k d no_members = refl
put_unknown names k d (member l e ms) = by (slice_cmp nat_cmp k l) refl (put_unknown names k d ms)
  where
    by : (o : Ordering) → slice_cmp nat_cmp k l ≡ o → least_unknown names (put k d ms) ≡ lesser_unknown names k (least_unknown names ms)
        → least_unknown names (match_ordering o (member k d (member l e ms)) (member l d ms) (member l e (put k d ms))) ≡ lesser_unknown names k
        (lesser_unknown names l (least_unknown names ms))
    by Less is more = refl
    by Equal is more =
        let same : k ≡ l = (bytes_eq-Decides k l).0 (sym (is_eq-slice_cmp k l) ∙ ap is_eq is) in
        sym (ap (λ (n : List ℕ). lesser_unknown names n (lesser_unknown names l (least_unknown names ms))) same ∙ twice names l (least_unknown names ms))
    by Greater is more = ap (lesser_unknown names l) more ∙ swap names l k (least_unknown names ms)

-- names one after another, as a loop takes them
abbrev pub taken : List (List ℕ) → json.Members → Option (List ℕ) → Option (List ℕ)
taken names json.no_members least = least
taken names (json.member k j ms) least = taken names ms (lesser_unknown names k least)

taken_later : (names : List (List ℕ)) (k : List ℕ) (ms : json.Members) (least : Option (List ℕ)) → taken names ms (lesser_unknown names k least) ≡
    lesser_unknown names k (taken names ms least)
taken_later names k json.no_members least = refl
taken_later names k (json.member l j ms) least = ap (taken names ms) (swap names l k least) ∙ taken_later names k ms (lesser_unknown names l least)

pub taken_all : (names : List (List ℕ)) (ms : json.Members) → taken names ms None ≡ least_unknown_key names ms
taken_all names json.no_members = refl
taken_all names (json.member k j ms) = taken_later names k ms None ∙ ap (lesser_unknown names k) (taken_all names ms)

names_taken : (names : List (List ℕ)) (ms : json.Members) (found all : Members) → of_members ms found ≡ Some all → least_unknown names all ≡ taken names ms
    (least_unknown names found)
names_taken names json.no_members found all is = ap (least_unknown names) (sym (Some_inj found all is))
names_taken names (json.member k j ms) found all is =
    let first = then_some (λ d. of_members ms (put k d found)) (of_json j) all is in
    names_taken names ms (put k first.0 found) all first.2 ∙ ap (taken names ms) (put_unknown names k first.0 found)

pub names_read : (names : List (List ℕ)) (ms : json.Members) (all : Members) → of_members ms no_members ≡ Some all → least_unknown names all ≡ least_unknown_key
    names ms
names_read names ms all is = names_taken names ms no_members all is ∙ taken_all names ms

-- all names are known where there is no least unknown one
pub known_by_least : (names : List (List ℕ)) (ms : Members) → is_none (least_unknown names ms) ≡ are_known names ms
known_by_least names no_members = refl
known_by_least names (member k d ms) = by (list_any (bytes_eq k) names) (known_by_least names ms)
  where
    by : (b : Bool) → is_none (least_unknown names ms) ≡ are_known names ms → is_none
        (cond b (least_unknown names ms) (Some (option_map_or (lesser k) (least_unknown names ms) k))) ≡ (b && are_known names ms)
    by true rest = rest
    by false rest = refl

pub known_where_none : (names : List (List ℕ)) (ms : Members) (least : Option (Bor (List ℕ))) (b : Bool) → is_some least ≡ not b → option_map (λ name. name.now)
    least ≡ least_unknown names ms → b ≡ are_known names ms
known_where_none names ms least b none same = by least none ∙ ap is_none same ∙ known_by_least names ms
  where
    by : (o : Option (Bor (List ℕ))) → is_some o ≡ not b → b ≡ is_none (option_map (λ name. name.now) o)
    by None is = grind arith
    by (Some name) is = grind arith

pub known_if_none : (names : List (List ℕ)) (ms : Members) → least_unknown names ms ≡ None
    → true ≡ are_known names ms
known_if_none names ms none = sym (ap is_none none) ∙ known_by_least names ms

is_gone : (o : Option (List ℕ)) → is_none o ≡ true → o ≡ None
is_gone None is = refl
is_gone (Some name) is = absurd (cc is)

pub none_if_known : (names : List (List ℕ)) (ms : Members) → are_known names ms ≡ true
    → least_unknown names ms ≡ None
none_if_known names ms known = is_gone (least_unknown names ms) (known_by_least names ms ∙ known)

-- names more
any_more : (x : List ℕ) (names more : List (List ℕ)) → list_any (bytes_eq x) names ≡ true
    → list_any (bytes_eq x) (names ++ more) ≡ true
any_more x [] more is = absurd (cc is)
any_more x (name ∷ names) more is = by (bytes_eq x name) is (any_more x names more)
  where
    by : (b : Bool) → (b || list_any (bytes_eq x) names) ≡ true
        → (list_any (bytes_eq x) names ≡ true → list_any (bytes_eq x) (names ++ more) ≡ true)
        → (b || list_any (bytes_eq x) (names ++ more)) ≡ true
    by true is later = refl
    by false is later = later is

pub known_more : (names more : List (List ℕ)) (ms : Members) → are_known names ms ≡ true
    → are_known (names ++ more) ms ≡ true
known_more names more no_members is = refl
known_more names more (member k d ms) is =
    by (list_any (bytes_eq k) names) (list_any (bytes_eq k) (names ++ more)) is
    (any_more k names more) (known_more names more ms)
  where
    by : (b e : Bool) → (b && are_known names ms) ≡ true → (b ≡ true → e ≡ true)
        → (are_known names ms ≡ true → are_known (names ++ more) ms ≡ true)
        → (e && are_known (names ++ more) ms) ≡ true
    by true true is more later = later is
    by true false is more later = absurd (cc (more refl))
    by false e is more later = absurd (cc is)
