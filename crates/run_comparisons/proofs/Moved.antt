-- Where edits move the steps of a session, and which steps stand in one row by it.
use Rattle.std.proofs.Common.{◌≡◌, ℕ, zero, suc, ◌+◌, ◌-◌, ◌≤◌, ◌<◌, Bool, true, false, cond, List, [], ◌∷◌, ◌++◌, length, map, Option, Some, None, Result, Ok, Err, refl}
use Rattle.std.proofs.Common.{ap, sym, subst, ◌∙◌, arith, inl, inr}
use Rattle.std.specs.Prelude.{◌⊎◌, ◌≢◌, ◌==◌, Contains, insert, is_ok, nat_lt, option_and_then, remove, slice_get, slice_index_or, slice_set, if◌then◌else◌}
use Rattle.std.specs.List.{range_with_len}
use Rattle.std.proofs.lemmas.Bool.{cases_eq}
use Rattle.std.proofs.lemmas.Bool.Decides.{nat_tests}
use Rattle.std.proofs.lemmas.List.Elements.{Contains-append_cases, Contains-append_left, Contains-append_right}
use Rattle.std.proofs.lemmas.Option.{slice_get_cases}
use Rattle.bench_types.specs.declared.edit.Edit.{Edit}
use Rattle.bench_types.specs.declared.edit.Edit.TheVariants.{Insert, Remove, Replace, ChangeTask}
use Rattle.bench_types.specs.declared.edit.EditFault.{EditFault}
use Rattle.bench_types.specs.declared.step.Step.{Step}
use Rattle.bench_types.specs.Session.{Session}
use Rattle.bench_model.specs.Edits.{accepted, after_edit, after_edits, edited}
use Rattle.run_comparisons.specs.declared.rows.Row.TheVariants.{Both, Removed, Inserted}
use Rattle.session_edits.specs.Origins.{Origin, all_kept, origins_after, origins_made, origins_of}
use Rattle.run_comparisons.specs.Rows.{removed, rows_from, rows_of}
use Rattle.run_comparisons.specs.RowLaws.{moved, moved_by, moved_to, IsReplaced, MovedStandTogether, RowsAreOfOne}

-- ---- lists

-- an item before the inserted one, and one behind it
insert_before : {X : Type 0} (xs : List X) (at p : ℕ) (y x : X) → p < at → slice_get xs p ≡ Some x → slice_get (insert xs at y) p ≡ Some x
insert_before [] at p y x low found = absurd (cc found)
insert_before (z ∷ xs) zero p y x low found = absurd (omega (arith, low))
insert_before (z ∷ xs) (suc at) zero y x low found = found
insert_before (z ∷ xs) (suc at) (suc p) y x low found = insert_before xs at p y x (omega (arith, low)) found

insert_behind : {X : Type 0} (xs : List X) (at p : ℕ) (y x : X) → at ≤ p → slice_get xs p ≡ Some x → slice_get (insert xs at y) (suc p) ≡ Some x
insert_behind [] at p y x low found = absurd (cc found)
insert_behind (z ∷ xs) zero p y x low found = found
insert_behind (z ∷ xs) (suc at) zero y x low found = absurd (omega (arith, low))
insert_behind (z ∷ xs) (suc at) (suc p) y x low found = insert_behind xs at p y x (omega (arith, low)) found

-- where an insertion at a place moves another
abbrev Past : ℕ → ℕ → ℕ → Type 0
Past at p q = ((p < at) × (q ≡ p)) ⊎ ((at ≤ p) × (q ≡ suc p))

past_on : (at p q : ℕ) → Past at p q → Past (suc at) (suc p) (suc q)
past_on at p q (inl before) = inl (omega (arith, before.0), ap suc before.1)
past_on at p q (inr behind) = inr (omega (arith, behind.0), ap suc behind.1)

from_insert : {X : Type 0} (xs : List X) (at q : ℕ) (y x : X) → y ≢ x → slice_get (insert xs at y) q ≡ Some x → (p : ℕ) × (slice_get xs p ≡ Some x) × Past at p q
from_insert [] zero zero y x other found = absurd (other (cc found))
from_insert [] zero (suc q) y x other found = absurd (cc found)
from_insert [] (suc at) zero y x other found = absurd (other (cc found))
from_insert [] (suc at) (suc q) y x other found = absurd (cc found)
from_insert (z ∷ xs) zero zero y x other found = absurd (other (cc found))
from_insert (z ∷ xs) zero (suc q) y x other found = (q, found, inr (omega arith, refl))
from_insert (z ∷ xs) (suc at) zero y x other found = (0, found, inl (omega arith, refl))
from_insert (z ∷ xs) (suc at) (suc q) y x other found =
    let rest = from_insert xs at q y x other found in
    (suc rest.0, rest.1, past_on at rest.0 q rest.2)

-- an item before the removed one, and one behind it
remove_before : {X : Type 0} (xs : List X) (at p : ℕ) (x : X) → p < at → slice_get xs p ≡ Some x → slice_get (remove xs at) p ≡ Some x
remove_before [] at p x low found = absurd (cc found)
remove_before (z ∷ xs) zero p x low found = absurd (omega (arith, low))
remove_before (z ∷ xs) (suc at) zero x low found = found
remove_before (z ∷ xs) (suc at) (suc p) x low found = remove_before xs at p x (omega (arith, low)) found

remove_behind : {X : Type 0} (xs : List X) (at p : ℕ) (x : X) → at ≤ p → slice_get xs (suc p) ≡ Some x → slice_get (remove xs at) p ≡ Some x
remove_behind [] at p x low found = absurd (cc found)
remove_behind (z ∷ xs) zero p x low found = found
remove_behind (z ∷ xs) (suc at) zero x low found = absurd (omega (arith, low))
remove_behind (z ∷ xs) (suc at) (suc p) x low found = remove_behind xs at p x (omega (arith, low)) found

-- where a removal at a place moves another
abbrev Closed : ℕ → ℕ → ℕ → Type 0
Closed at p q = ((p < at) × (q ≡ p)) ⊎ ((at < p) × (p ≡ suc q))

closed_on : (at p q : ℕ) → Closed at p q → Closed (suc at) (suc p) (suc q)
closed_on at p q (inl before) = inl (omega (arith, before.0), ap suc before.1)
closed_on at p q (inr behind) = inr (omega (arith, behind.0), ap suc behind.1)

from_remove : {X : Type 0} (xs : List X) (at q : ℕ) (x : X) → slice_get (remove xs at) q ≡ Some x → (p : ℕ) × (slice_get xs p ≡ Some x) × Closed at p q
from_remove [] zero q x found = absurd (cc found)
from_remove [] (suc at) q x found = absurd (cc found)
from_remove (z ∷ xs) zero q x found = (suc q, found, inr (omega arith, refl))
from_remove (z ∷ xs) (suc at) zero x found = (0, found, inl (omega arith, refl))
from_remove (z ∷ xs) (suc at) (suc q) x found =
    let rest = from_remove xs at q x found in
    (suc rest.0, rest.1, closed_on at rest.0 q rest.2)

set_here : {X : Type 0} (xs : List X) (p : ℕ) (y x : X) → slice_get xs p ≡ Some x → slice_get (slice_set xs p y) p ≡ Some y
set_here [] p y x found = absurd (cc found)
set_here (z ∷ xs) zero y x found = refl
set_here (z ∷ xs) (suc p) y x found = set_here xs p y x found

set_other : {X : Type 0} (xs : List X) (at p : ℕ) (y x : X) → p ≢ at → slice_get xs p ≡ Some x → slice_get (slice_set xs at y) p ≡ Some x
set_other [] at p y x other found = absurd (cc found)
set_other (z ∷ xs) zero zero y x other found = absurd (other refl)
set_other (z ∷ xs) zero (suc p) y x other found = found
set_other (z ∷ xs) (suc at) zero y x other found = found
set_other (z ∷ xs) (suc at) (suc p) y x other found = set_other xs at p y x (λ same. other (ap suc same)) found

-- ---- where an edit moves a place

moved_past : (at p q : ℕ) (step : Step) → Past at p q → moved (Insert at step) p ≡ Some q
moved_past at p q step (inl before) =
    let below : nat_lt p at ≡ true = grind (arith, nat_tests, before.0) in
    ap (λ (b : Bool). Some (cond b p (suc p))) below ∙ ap Some (sym before.1)
moved_past at p q step (inr behind) =
    let above : nat_lt p at ≡ false = grind (arith, nat_tests, behind.0) in
    ap (λ (b : Bool). Some (cond b p (suc p))) above ∙ ap Some (sym behind.1)

past_moved : (at p q : ℕ) (step : Step) → moved (Insert at step) p ≡ Some q → Past at p q
past_moved at p q step to = by (nat_lt p at) refl to
  where
    by : (b : Bool) → nat_lt p at ≡ b → ◌≡◌ {A = Option ℕ} (Some (cond b p (suc p))) (Some q) → Past at p q
    by true tells is = inl (grind (arith, nat_tests, tells), sym (cc is))
    by false tells is = inr (grind (arith, nat_tests, tells), sym (cc is))

moved_closed : (at p q : ℕ) → Closed at p q → moved (Remove at) p ≡ Some q
moved_closed at p q (inl before) =
    let other : (p == at) ≡ false = grind (arith, nat_tests, before.0) in
    let below : nat_lt p at ≡ true = grind (arith, nat_tests, before.0) in
    ap (λ (b : Bool). cond b None (Some (cond (nat_lt p at) p (p - 1)))) other ∙ ap (λ (b : Bool). Some (cond b p (p - 1))) below ∙ ap Some (sym before.1)
moved_closed at p q (inr behind) =
    let other : (p == at) ≡ false = grind (arith, nat_tests, behind.0) in
    let above : nat_lt p at ≡ false = grind (arith, nat_tests, behind.0) in
    let one_less : p - 1 ≡ q = omega (arith, behind.1) in
    ap (λ (b : Bool). cond b None (Some (cond (nat_lt p at) p (p - 1)))) other ∙ ap (λ (b : Bool). Some (cond b p (p - 1))) above ∙ ap Some one_less

closed_moved : (at p q : ℕ) → moved (Remove at) p ≡ Some q → Closed at p q
closed_moved at p q to = by (p == at) refl (nat_lt p at) refl to
  where
    by : (same : Bool) → (p == at) ≡ same → (less : Bool) → nat_lt p at ≡ less → cond same None (Some (cond less p (p - 1))) ≡ Some q → Closed at p q
    by true tells less too is = absurd (cc is)
    by false tells true too is = inl (grind (arith, nat_tests, too), sym (cc is))
    by false tells false too is =
        let behind : at < p = grind (arith, nat_tests, tells, too) in
        let one_less : p - 1 ≡ q = cc is in
        inr (behind, omega (arith, behind, one_less))

-- the origin of a step of the edited session stood at a place that is moved there
came_from : (edit : Edit) (origins : List Origin) (q o : ℕ) → slice_get (origins_after edit origins) q ≡ Some (Some o) → (p : ℕ) ×
    (slice_get origins p ≡ Some (Some o)) × (moved edit p ≡ Some q)
came_from (Insert at step) origins q o found =
    let one = from_insert origins at q None (Some o) (λ same. cc same) found in
    (one.0, one.1, moved_past at one.0 q step one.2)
came_from (Remove at) origins q o found =
    let one = from_remove origins at q (Some o) found in
    (one.0, one.1, moved_closed at one.0 q one.2)
came_from (Replace at step) origins q o found = (q, found, refl)
came_from (ChangeTask task priority mask) origins q o found = (q, found, refl)

-- an item that is moved stands where it is moved to
kept_in_insert : {X : Type 0} (xs : List X) (at p q : ℕ) (y x : X) → Past at p q → slice_get xs p ≡ Some x → slice_get (insert xs at y) q ≡ Some x
kept_in_insert xs at p q y x (inl before) found = ap (slice_get (insert xs at y)) before.1 ∙ insert_before xs at p y x before.0 found
kept_in_insert xs at p q y x (inr behind) found = ap (slice_get (insert xs at y)) behind.1 ∙ insert_behind xs at p y x behind.0 found

kept_in_remove : {X : Type 0} (xs : List X) (at p q : ℕ) (x : X) → Closed at p q → slice_get xs p ≡ Some x → slice_get (remove xs at) q ≡ Some x
kept_in_remove xs at p q x (inl before) found = ap (slice_get (remove xs at)) before.1 ∙ remove_before xs at p x before.0 found
kept_in_remove xs at p q x (inr behind) found =
    remove_behind xs at q x (omega (arith, behind.0, behind.1)) (ap (slice_get xs) (sym behind.1) ∙ found)

goes_to : (edit : Edit) (origins : List Origin) (p q o : ℕ) → slice_get origins p ≡ Some (Some o) → moved edit p ≡ Some q → slice_get
    (origins_after edit origins) q ≡ Some (Some o)
goes_to (Insert at step) origins p q o found to = kept_in_insert origins at p q None (Some o) (past_moved at p q step to) found
goes_to (Remove at) origins p q o found to = kept_in_remove origins at p q (Some o) (closed_moved at p q to) found
goes_to (Replace at step) origins p q o found to = ap (slice_get origins) (sym (let same : p ≡ q = cc to in same)) ∙ found
goes_to (ChangeTask task priority mask) origins p q o found to = ap (slice_get origins) (sym (let same : p ≡ q = cc to in same)) ∙ found

-- ---- where edits move it

came_by : (session : Session) (edit : Edit) (origins : List Origin) (q o : ℕ) → slice_get (origins_made session edit origins) q ≡ Some (Some o) → (p : ℕ) ×
    (slice_get origins p ≡ Some (Some o)) × (moved_by session edit p ≡ Some q)
came_by session edit origins q o found = by (is_ok (accepted session edit)) found
  where
    by : (b : Bool) → slice_get (if b then origins_after edit origins else origins) q ≡ Some (Some o) → (p : ℕ) × (slice_get origins p ≡ Some (Some o)) ×
        ((if b then moved edit p else Some p) ≡ Some q)
    by true there = came_from edit origins q o there
    by false there = (q, there, refl)

goes_by : (session : Session) (edit : Edit) (origins : List Origin) (p q o : ℕ) → slice_get origins p ≡ Some (Some o) → moved_by session edit p ≡ Some q →
    slice_get (origins_made session edit origins) q ≡ Some (Some o)
goes_by session edit origins p q o found to = by (is_ok (accepted session edit)) to
  where
    by : (b : Bool) → (if b then moved edit p else Some p) ≡ Some q → slice_get (if b then origins_after edit origins else origins) q ≡ Some (Some o)
    by true is = goes_to edit origins p q o found is
    by false is = ap (slice_get origins) (sym (let same : p ≡ q = cc is in same)) ∙ found

came_all : (session : Session) (edits : List Edit) (origins : List Origin) (q o : ℕ) → slice_get (origins_of session edits origins) q ≡ Some (Some o) → (p : ℕ) ×
    (slice_get origins p ≡ Some (Some o)) × (moved_to session edits p ≡ Some q)
came_all session [] origins q o found = (q, found, refl)
came_all session (edit ∷ edits) origins q o found =
    let rest = came_all (after_edit session edit) edits (origins_made session edit origins) q o found in
    let one = came_by session edit origins rest.0 o rest.1 in
    (one.0, one.1, ap (option_and_then (moved_to (after_edit session edit) edits)) one.2 ∙ rest.2)

goes_all : (session : Session) (edits : List Edit) (origins : List Origin) (p q o : ℕ) → slice_get origins p ≡ Some (Some o) → moved_to session edits p ≡ Some q
    → slice_get (origins_of session edits origins) q ≡ Some (Some o)
goes_all session [] origins p q o found to = ap (slice_get origins) (sym (let same : p ≡ q = cc to in same)) ∙ found
goes_all session (edit ∷ edits) origins p q o found to =
    by (λ r there on. goes_all (after_edit session edit) edits (origins_made session edit origins) r q o there on) (moved_by session edit p) refl to
  where
    by : ((r : ℕ) → slice_get (origins_made session edit origins) r ≡ Some (Some o) → moved_to (after_edit session edit) edits r ≡ Some q → slice_get
        (origins_of (after_edit session edit) edits (origins_made session edit origins)) q ≡ Some (Some o)) → (next : Option ℕ) → moved_by session edit p ≡ next
        → option_and_then (moved_to (after_edit session edit) edits) next ≡ Some q → slice_get
        (origins_of (after_edit session edit) edits (origins_made session edit origins)) q ≡ Some (Some o)
    by rest None is on = absurd (cc on)
    by rest (Some r) is on = rest r (goes_by session edit origins p r o found is) on

-- ---- the rows of both

pub first_or_later : {X : Type 0} (y x : X) (ys : List X) → Contains (y ∷ ys) x → (y ≡ x) ⊎ Contains ys x
first_or_later y x ys there = by there.0 there.1 there.2
  where
    by : (k : ℕ) → k < length (y ∷ ys) → slice_index_or (y ∷ ys) k x ≡ x → (y ≡ x) ⊎ Contains ys x
    by zero low is = inl is
    by (suc k) low is = inr (k, omega (arith, low), is)

none_both : (places : List ℕ) (old new : ℕ) → Contains (map Removed places) (Both old new) → ⊥
none_both [] old new there = omega (arith, there.1)
none_both (place ∷ places) old new there = elim (first_or_later (Removed place) (Both old new) (map Removed places) there) [
  | inl one ↦ cc one
  | inr rest ↦ none_both places old new rest
]

-- a row of both is that of an origin
in_rows : (count next place : ℕ) (origins : List Origin) (old new : ℕ) → Contains (rows_from count next place origins) (Both old new) → (k : ℕ) ×
    (new ≡ place + k) × (slice_get origins k ≡ Some (Some old))
in_rows count next place [] old new there = absurd (none_both (range_with_len next (count - next)) old new there)
in_rows count next place (None ∷ origins) old new there =
    elim (first_or_later (Inserted place) (Both old new) (rows_from count next (suc place) origins) there) [
      | inl one ↦ absurd (cc one)
      | inr rest ↦
          let later = in_rows count next (suc place) origins old new rest in
          (suc later.0, omega (arith, later.1), later.2)
    ]
in_rows count next place (Some before ∷ origins) old new there =
    let rest = rows_from count (suc before) (suc place) origins in
    elim (Contains-append_cases (removed next before ++ Both before place ∷ []) rest (Both old new) there) [
      | inl here ↦ elim (Contains-append_cases (removed next before) (Both before place ∷ []) (Both old new) here) [
        | inl none ↦ absurd (none_both (range_with_len next (before - next)) old new none)
        | inr last ↦ elim (first_or_later (Both before place) (Both old new) [] last) [
          | inl one ↦
              let same : place ≡ new = cc one in
              let from : before ≡ old = cc one in
              (0, omega (arith, same), ap (λ n. Some (Some n)) from)
          | inr none ↦ absurd (omega (arith, none.1))
        ]
      ]
      | inr behind ↦
          let later = in_rows count (suc before) (suc place) origins old new behind in
          (suc later.0, omega (arith, later.1), later.2)
    ]

-- each origin has its row of both
rows_in : (count next place : ℕ) (origins : List Origin) (k old : ℕ) → slice_get origins k ≡ Some (Some old) → Contains (rows_from count next place origins)
    (Both old (place + k))
rows_in count next place [] k old found = absurd (cc found)
rows_in count next place (None ∷ origins) zero old found = absurd (cc found)
rows_in count next place (None ∷ origins) (suc k) old found =
    let rest = rows_from count next (suc place) origins in
    let same : suc place + k ≡ place + suc k = omega arith in
    subst (λ n. Contains (Inserted place ∷ rest) (Both old n)) same
    (Contains-append_right (Inserted place ∷ []) rest (Both old (suc place + k)) (rows_in count next (suc place) origins k old found))
rows_in count next place (Some before ∷ origins) zero old found =
    let rest = rows_from count (suc before) (suc place) origins in
    let from : before ≡ old = cc found in
    let same : place ≡ place + 0 = omega arith in
    Contains-append_left (removed next before ++ Both before place ∷ []) rest (Both old (place + 0))
    (Contains-append_right (removed next before) (Both before place ∷ []) (Both old (place + 0))
    (0, omega arith, ap (λ n. Both n place) from ∙ ap (Both old) same))
rows_in count next place (Some before ∷ origins) (suc k) old found =
    let rest = rows_from count (suc before) (suc place) origins in
    let same : suc place + k ≡ place + suc k = omega arith in
    subst (λ n. Contains ((removed next before ++ Both before place ∷ []) ++ rest) (Both old n)) same
    (Contains-append_right (removed next before ++ Both before place ∷ []) rest (Both old (suc place + k))
    (rows_in count (suc before) (suc place) origins k old found))

-- before any edit
kept_there : (m n p : ℕ) → p < n → slice_get (map Some (range_with_len m n)) p ≡ Some (Some (m + p))
kept_there m zero p low = absurd (omega (arith, low))
kept_there m (suc n) zero low = ap (λ k. Some (Some k)) (omega arith)
kept_there m (suc n) (suc p) low =
    let same : m + 1 + p ≡ m + suc p = omega arith in
    kept_there (m + 1) n p (omega (arith, low)) ∙ ap (λ k. Some (Some k)) same

kept_is : (m n p o : ℕ) → slice_get (map Some (range_with_len m n)) p ≡ Some (Some o) → (o ≡ m + p) × (p < n)
kept_is m zero p o found = absurd (cc found)
kept_is m (suc n) zero o found =
    let same : m ≡ o = cc found in
    (omega (arith, same), omega arith)
kept_is m (suc n) (suc p) o found =
    let rest = kept_is (m + 1) n p o found in
    (omega (arith, rest.0), omega (arith, rest.1))

-- a step of a row of both is one of the session, and it is moved to the other
both_moved : (session : Session) (edits : List Edit) (old new : ℕ) → Contains (rows_of session edits) (Both old new) → (old < length session.steps) ×
    (moved_to session edits old ≡ Some new)
both_moved session edits old new there =
    let count = length session.steps in
    let row = in_rows count 0 0 (origins_of session edits (all_kept count)) old new there in
    let one = came_all session edits (all_kept count) row.0 old row.2 in
    let kept = kept_is 0 count one.0 old one.1 in
    let here : old ≡ one.0 = omega (arith, kept.0) in
    let is : row.0 ≡ new = omega (arith, row.1) in
    (omega (arith, here, kept.1), ap (moved_to session edits) here ∙ one.2 ∙ ap Some is)

pub moved_stand_together : MovedStandTogether
moved_stand_together session edits old new low = (
  λ there. (both_moved session edits old new there).1,
  λ to.
      let count = length session.steps in
      let from_start : 0 + old ≡ old = omega arith in
      let first = kept_there 0 count old low ∙ ap (λ n. Some (Some n)) from_start in
      let found = goes_all session edits (all_kept count) old new old first to in
      let same : 0 + new ≡ new = omega arith in
      subst (λ n. Contains (rows_of session edits) (Both old n)) same (rows_in count 0 0 (origins_of session edits (all_kept count)) new old found),
)

-- ---- the steps that stand in it

-- an edit leaves the step, or puts another in its place
step_left : (session : Session) (edit : Edit) (p q : ℕ) (step : Step) → slice_get session.steps p ≡ Some step → moved edit p ≡ Some q → (other : Step) ×
    (slice_get (edited edit session).steps q ≡ Some other) × ((step ≡ other) ⊎ (edit ≡ Replace p other))
step_left session (Insert at new) p q step found to = (step, kept_in_insert session.steps at p q new step (past_moved at p q new to) found, inl refl)
step_left session (Remove at) p q step found to = (step, kept_in_remove session.steps at p q step (closed_moved at p q to) found, inl refl)
step_left session (ChangeTask task priority mask) p q step found to =
    let same : p ≡ q = cc to in
    (step, ap (slice_get session.steps) (sym same) ∙ found, inl refl)
step_left session (Replace at new) p q step found to = elim (cases_eq p at) [
  | inl here ↦ (
    new,
    ap (slice_get (slice_set session.steps at new)) (sym same) ∙ ap (λ n. slice_get (slice_set session.steps n new) p) (sym here) ∙ set_here session.steps p new
        step found,
    inr (ap (λ n. Replace n new) (sym here)),
  )
  | inr other ↦ (step, ap (slice_get (slice_set session.steps at new)) (sym same) ∙ set_other session.steps at p new step other found, inl refl)
]
  where
    same : p ≡ q
    same = cc to

is_accepted : (check : Result (Unit {0}) EditFault) → is_ok check ≡ true → check ≡ Ok tt
is_accepted (Ok done) is = refl
is_accepted (Err why) is = absurd (cc is)

step_on : (session : Session) (edit : Edit) (p q : ℕ) (step : Step) → slice_get session.steps p ≡ Some step → moved_by session edit p ≡ Some q →
    (other : Step) × (slice_get (after_edit session edit).steps q ≡ Some other) ×
    ((step ≡ other) ⊎ ((edit ≡ Replace p other) × (accepted session edit ≡ Ok tt)))
step_on session edit p q step found to = by (is_ok (accepted session edit)) refl to
  where
    with : is_ok (accepted session edit) ≡ true → (other : Step) → (step ≡ other) ⊎ (edit ≡ Replace p other) → (step ≡ other) ⊎
        ((edit ≡ Replace p other) × (accepted session edit ≡ Ok tt))
    with is other (inl same) = inl same
    with is other (inr put) = inr (put, is_accepted (accepted session edit) is)

    by : (b : Bool) → is_ok (accepted session edit) ≡ b → (if b then moved edit p else Some p) ≡ Some q → (other : Step) ×
        (slice_get (if b then edited edit session else session).steps q ≡ Some other) ×
        ((step ≡ other) ⊎ ((edit ≡ Replace p other) × (accepted session edit ≡ Ok tt)))
    by true is on =
        let one = step_left session edit p q step found on in
        (one.0, one.1, with is one.0 one.2)
    by false is on =
        let same : p ≡ q = cc on in
        (step, ap (slice_get session.steps) (sym same) ∙ found, inl refl)

lifted : (session : Session) (edit : Edit) (edits : List Edit) (p r : ℕ) (other : Step) → moved_by session edit p ≡ Some r → IsReplaced (after_edit session edit)
    edits r other → IsReplaced session (edit ∷ edits) p other
lifted session edit edits p r other is one = record {
  first = edit ∷ one.first;
  at = one.at;
  rest = one.rest;
  among = ap (λ (list : List Edit). edit ∷ list) one.among;
  made = one.made;
  stands = ap (option_and_then (moved_to (after_edit session edit) one.first)) is ∙ one.stands;
}

steps_all : (session : Session) (edits : List Edit) (p q : ℕ) (step : Step) → slice_get session.steps p ≡ Some step → moved_to session edits p ≡ Some q →
    (other : Step) × (slice_get (after_edits session edits).steps q ≡ Some other) × ((step ≡ other) ⊎ IsReplaced session edits p other)
steps_all session [] p q step found to =
    let same : p ≡ q = cc to in
    (step, ap (slice_get session.steps) (sym same) ∙ found, inl refl)
steps_all session (edit ∷ edits) p q step found to =
    by (λ r one there on. steps_all (after_edit session edit) edits r q one there on) (moved_by session edit p) refl to
  where
    both : (r : ℕ) (one other : Step) → moved_by session edit p ≡ Some r → (step ≡ one) ⊎ ((edit ≡ Replace p one) × (accepted session edit ≡ Ok tt))
        → (one ≡ other) ⊎ IsReplaced (after_edit session edit) edits r other → (step ≡ other) ⊎ IsReplaced session (edit ∷ edits) p other
    both r one other is (inl same) (inl too) = inl (same ∙ too)
    both r one other is (inl same) (inr later) = inr (lifted session edit edits p r other is later)
    both r one other is (inr put) (inr later) = inr (lifted session edit edits p r other is later)
    both r one other is (inr put) (inl too) =
        let here : edit ≡ Replace p other = put.0 ∙ ap (Replace p) too in
        inr (record {
          first = [];
          at = p;
          rest = edits;
          among = ap (λ (first : Edit). first ∷ edits) here;
          made = ap (accepted session) (sym here) ∙ put.1;
          stands = refl;
        })

    by : ((r : ℕ) (one : Step) → slice_get (after_edit session edit).steps r ≡ Some one → moved_to (after_edit session edit) edits r ≡ Some q → (other : Step) ×
        (slice_get (after_edits (after_edit session edit) edits).steps q ≡ Some other) × ((one ≡ other) ⊎ IsReplaced (after_edit session edit) edits r other))
        → (next : Option ℕ) → moved_by session edit p ≡ next → option_and_then (moved_to (after_edit session edit) edits) next ≡ Some q → (other : Step) ×
        (slice_get (after_edits (after_edit session edit) edits).steps q ≡ Some other) × ((step ≡ other) ⊎ IsReplaced session (edit ∷ edits) p other)
    by next None is on = absurd (cc on)
    by next (Some r) is on =
        let one = step_on session edit p r step found is in
        let rest = next r one.0 one.1 on in
        (rest.0, rest.1, both r one.0 rest.0 is one.2 rest.2)

pub rows_are_of_one : RowsAreOfOne
rows_are_of_one session edits old new there =
    let placed = both_moved session edits old new there in
    elim ((slice_get_cases session.steps old).1) [
      | inl here ↦
          let beside = steps_all session edits old new here.0 here.2 placed.1 in
          record { step = here.0; other = beside.0; stands = here.2; beside = beside.1; one = beside.2 }
      | inr away ↦ absurd (omega (arith, placed.0, away.0))
    ]
