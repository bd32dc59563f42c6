-- Values and lists, as the changes of them leave them.
use Rattle.std.proofs.Common.{◌≡◌, ◌<◌, ◌≤◌, ℕ, zero, suc, max, nat_le, List, [], ◌∷◌, length, set, Bool, true, false, String, Global, cond, is_eq, bytes_eq, string_bytes, nat_cmp, refl, ap, ◌∙◌, arith}
use Rattle.std.proofs.lemmas.Map.Text.{is_eq-slice_cmp}
use Rattle.std.specs.BTreeMap.{is_at}
use Rattle.std.specs.Cmp.Lexicographic.{slice_cmp}
use Rattle.std.specs.Map.{remove_entry}
use Rattle.serde_json.specs.Data.{item, member}
use Rattle.serde_json.specs.View.{items_view, members_view, view}
use Rattle.serde_json.specs.declared.value.Value.{Value}
use Rattle.serde_json.proofs.Views.{Entry}
use Rattle.workload_edits.specs.Edits.{with_item_at, without}

entry_gone : (gone : Bool) (e : Entry) (es rest : List Entry) (name : List ℕ) → members_view rest ≡ without name (members_view es)
    → members_view (cond gone es (e ∷ rest)) ≡ cond gone (members_view es) (member (string_bytes e.0) (view e.1) (without name (members_view es)))
entry_gone true e es rest name same = refl
entry_gone false e es rest name same = ap (member (string_bytes e.0) (view e.1)) same

-- a map without the entry of a name has the members but for that name
pub members_view_without : (name : List ℕ) (es : List Entry)
    → members_view (remove_entry (is_at (λ k. slice_cmp nat_cmp name (string_bytes k))) es) ≡ without name (members_view es)
members_view_without name [] = refl
members_view_without name (e ∷ es) =
    rw (is_eq-slice_cmp name (string_bytes e.0)) (entry_gone (bytes_eq name (string_bytes e.0)) e es _ name (members_view_without name es))

-- a list with another value at an index has the items with its data there
pub items_view_set : (vs : List Value) (index : ℕ) (v : Value) → items_view (set vs index v) ≡ with_item_at index (view v) (items_view vs)
items_view_set [] index v = refl
items_view_set (w ∷ vs) zero v = refl
items_view_set (w ∷ vs) (suc index) v = ap (item (view w)) (items_view_set vs index v)

-- past the end there is none
pub with_item_past : (vs : List Value) (index : ℕ) (v : Value) → length vs ≤ index → items_view vs ≡ with_item_at index (view v) (items_view vs)
with_item_past [] index v past = refl
with_item_past (w ∷ vs) zero v past = absurd (omega (arith, past))
with_item_past (w ∷ vs) (suc index) v past = ap (item (view w)) (with_item_past vs index v (omega (arith, past)))

pub max_within : (a b most : ℕ) → nat_le a most ≡ true → nat_le (max a b) most ≡ nat_le b most
max_within a b most within = grind (arith, within)

pub max_past : (a b most : ℕ) → nat_le a most ≡ false → nat_le (max a b) most ≡ false
max_past a b most past = grind (arith, past)
