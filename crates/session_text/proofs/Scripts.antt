-- Scripts: one is read for each item of their array, and all have been checked.
use Rattle.std.proofs.Common.{inl, inr, ◌≡◌, ℕ, suc, ◌+◌, ◌<◌, ◌==◌, true, List, [], ◌∷◌, length, get_or, drop, subst, Option, Result, Ok, Err, refl, ap, ◌∙◌}
use Rattle.std.proofs.Common.{arith, add-one, drop-cons}
use Rattle.std.specs.Prelude.{IfOk}
use Rattle.std.proofs.lemmas.Bool.{and_parts, cases_lt}
use Rattle.std.proofs.lemmas.Bool.Decides.{nat_tests}
use Rattle.serde_json.specs.Data.{Data, Items, no_items, item}
use Rattle.serde_json.specs.Events.{items_len}
use Rattle.session_text.specs.declared.fault.ReadFault.{ReadFault}
use Rattle.session_text.specs.declared.fault.TextFault.{TextFault}
use Rattle.bench_types.specs.declared.core_action.CoreAction.{CoreAction}
use Rattle.bench_types.specs.declared.header.Header.{Header}
use Rattle.session_text.specs.Array.{each_at, list_at}
use Rattle.session_text.specs.Member.{array_at}
use Rattle.session_text.specs.ReadingRules.{◌>>=◌, Gives}
use Rattle.session_text.specs.Path.{item_path, member_path}
use Rattle.session_text.specs.Rig.{are_arrays, has_arrays, script_accepted, scripts_accepted}

-- one more index of a list
pub each_more : {X : Type 0} (P : ℕ → X → Type 0) (xs : List X) (d : X) (i : ℕ) → ((k : ℕ) → k < i → P k (get_or xs k d)) → P i (get_or xs i d) → (k : ℕ) → k <
    i + 1 → P k (get_or xs k d)
each_more P xs d i before here k within = elim (cases_lt k i) [
  | inl below ↦ before k below
  | inr above ↦ (let same : i ≡ k = omega arith in subst (λ n. P n (get_or xs n d)) same here)
]

-- what is so of each value that the reading may give
pub given : {A B : Type 0} (view : A → B) (result : Result A ReadFault) (reading : Result B TextFault) (P : A → Type 0) →
    ((x : A) → reading ≡ Ok (view x) → P x) → Gives view result reading → IfOk result P
given view (Ok x) reading P holds gives = holds x gives
given view (Err stop) reading P holds gives = tt

one_more : {A : Type 0} (first : Result A TextFault) (others : Result (List A) TextFault) (n : ℕ) (all : List A) →
    ((rest : List A) → others ≡ Ok rest → length rest ≡ n) → (first >>= λ x. others >>= λ rest. Ok (x ∷ rest)) ≡ Ok all → length all ≡ suc n
one_more (Ok x) (Ok rest) n all many is = let same : x ∷ rest ≡ all = cc in rw (← same) (ap suc (many rest refl))
one_more (Ok x) (Err fault) n all many is = absurd cc
one_more (Err fault) others n all many is = absurd cc

each_length : {A : Type 0} (read : List ℕ → Data → Result A TextFault) (at : List ℕ) (index : ℕ) (items : Items) (all : List A) → each_at read at index items ≡
    Ok all → length all ≡ items_len items
each_length read at index no_items all is = let none : [] ≡ all = cc in rw (← none) refl
each_length read at index (item d rest) all is = one_more (read (item_path at index) d) (each_at read at (suc index) rest) (items_len rest) all
    (each_length read at (suc index) rest) is

-- as many are read of an array as it has items
list_length : {A : Type 0} (read : List ℕ → Data → Result A TextFault) (at name : List ℕ) (d : Data) (items : Items) (all : List A) → array_at at name d ≡ Ok
    items → list_at read at name d ≡ Ok all → length all ≡ items_len items
unfolding list_at
list_length read at name d items all found is =
    let each : each_at read (member_path at name) 0 items ≡ Ok all = rw found at is in
    each_length read (member_path at name) 0 items all each

pub one_per_core : {A : Type 0} (read : List ℕ → Data → Result A TextFault) (at name : List ℕ) (d : Data) (cores : ℕ) (items : Items) (all : List A) → array_at
    at name d ≡ Ok items → has_arrays cores items ≡ true → list_at read at name d ≡ Ok all → length all ≡ cores
one_per_core read at name d cores items all found has is =
    let many = (and_parts (items_len items == cores) (are_arrays items) has).0 in
    let same : items_len items ≡ cores = grind (arith, nat_tests, many) in
    list_length read at name d items all found is ∙ same

-- a script in which nothing is at fault leaves the faults to those after it
pub script_passed : (header : Header) (at : List ℕ) (array : Option Data) (scripts : List (List CoreAction)) (core : ℕ) → core < length scripts →
    script_accepted header at array core (get_or scripts core []) ≡ Ok tt → scripts_accepted header at array (core + 1) (drop (core + 1) scripts) ≡
    scripts_accepted header at array core (drop core scripts)
script_passed header at array scripts core within passed =
    let front : drop core scripts ≡ get_or scripts core [] ∷ drop (suc core) scripts = drop-cons scripts core [] within in
    rw (front, passed, add-one) refl
