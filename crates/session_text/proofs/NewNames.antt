-- Names that do not repeat go into a set one after another.
use Rattle.std.proofs.Common.{◌≡◌, ℕ, suc, ◌+◌, ◌<◌, ◌≤◌, ap, Bool, true, false, not, ◌&&◌, List, [], ◌∷◌, ◌++◌, length, get_or, take, drop, map, bytes_eq, Bor}
use Rattle.std.proofs.Common.{refl, sym, ◌∙◌, arith, add-one, drop-cons}
use Rattle.std.proofs.lemmas.List.{length-map, length-take, map_more, map_push}
use Rattle.indexmap.specs.IndexSet.{insert_key}
use Rattle.session_text.proofs.Lists.{list_any_map}
use Rattle.std.specs.List.{list_any, list_all}
use Rattle.std.specs.Cmp.Lexicographic.{nat_list_eq_equiv}
use Rattle.std.proofs.lemmas.List.Folds.{list_all-append}
use Rattle.bench_types.proofs.Repeats.{is_taken, repeats_name}
use Rattle.bench_types.specs.declared.header.TaskArgs.{TaskArgs}

-- no task has one of the names, or the name of a task before it
abbrev pub are_new : List (List ℕ) → List TaskArgs → Bool
are_new names [] = true
are_new names (task ∷ tasks) = not (list_any (bytes_eq task.name) names) && are_new (names ++ task.name ∷ []) tasks

-- no task has one of the names
abbrev are_apart : List (List ℕ) → List TaskArgs → Bool
are_apart names tasks = list_all (λ name. not (is_taken name tasks)) names

first_apart : (task : TaskArgs) (tasks : List TaskArgs) (names : List (List ℕ)) → are_apart names (task ∷ tasks) ≡ true → list_any (bytes_eq task.name) names ≡
    false
first_apart task tasks [] apart = refl
first_apart task tasks (name ∷ names) apart =
    let same : bytes_eq task.name name ≡ bytes_eq name task.name = nat_list_eq_equiv.symm task.name name in
    let later : are_apart names (task ∷ tasks) ≡ true → list_any (bytes_eq task.name) names ≡ false = first_apart task tasks names in
    grind arith

others_apart : (task : TaskArgs) (tasks : List TaskArgs) (names : List (List ℕ)) → are_apart names (task ∷ tasks) ≡ true → are_apart names tasks ≡ true
others_apart task tasks [] apart = refl
others_apart task tasks (name ∷ names) apart =
    let later : are_apart names (task ∷ tasks) ≡ true → are_apart names tasks ≡ true = others_apart task tasks names in
    grind arith

new_apart : (tasks : List TaskArgs) (names : List (List ℕ)) → are_apart names tasks ≡ true → repeats_name tasks ≡ false → are_new names tasks ≡ true
new_apart [] names apart once = refl
new_apart (task ∷ tasks) names apart once =
    let here = first_apart task tasks names apart in
    let there = others_apart task tasks names apart in
    let both = list_all-append (λ name. not (is_taken name tasks)) names (task.name ∷ []) in
    let later = new_apart tasks (names ++ task.name ∷ []) in
    grind arith

pub are_new_all : (tasks : List TaskArgs) → repeats_name tasks ≡ false → are_new [] tasks ≡ true
are_new_all tasks once = new_apart tasks [] refl once

-- the state of the loop: the names so far, and tasks that are new to them
pub record GoesOn (tasks : List TaskArgs) (index : ℕ) (names : List (List ℕ)) : Type 0 where
  pub so_far : names ≡ map (λ task. task.name) (take index tasks)
  pub others : are_new names (drop index tasks) ≡ true

-- there are no more names than tasks
pub few_keys : (tasks : List TaskArgs) (index : ℕ) (keys : List (Bor (List ℕ))) → GoesOn tasks index (map (λ name. name.now) keys) → length keys ≤ length tasks
few_keys tasks index keys state =
    omega (
      arith,
      length-map keys (λ (name : Bor (List ℕ)). name.now),
      ap length state.so_far,
      length-map (take index tasks) (λ (task : TaskArgs). task.name),
      length-take index tasks,
    )

-- the name of the next task is new
pub is_new : (tasks : List TaskArgs) (index : ℕ) (names : List (List ℕ)) (task : TaskArgs) → index < length tasks → task ≡ get_or tasks index task → GoesOn
    tasks index names → list_any (bytes_eq task.name) names ≡ false
is_new tasks index names task within at state =
    let front = drop-cons tasks index task within in
    let others : are_new names (get_or tasks index task ∷ drop (suc index) tasks) ≡ true = rw front at state.others in
    let here : list_any (bytes_eq (get_or tasks index task).name) names ≡ false = grind arith in
    rw at here

pub goes_on : (tasks : List TaskArgs) (index : ℕ) (names : List (List ℕ)) (task : TaskArgs) → index < length tasks → task ≡ get_or tasks index task → GoesOn
    tasks index names → GoesOn tasks (index + 1) (names ++ task.name ∷ [])
goes_on tasks index names task within at state =
    let front = drop-cons tasks index task within in
    let others : are_new names (get_or tasks index task ∷ drop (suc index) tasks) ≡ true = rw front at state.others in
    let later : are_new (names ++ (get_or tasks index task).name ∷ []) (drop (suc index) tasks) ≡ true = grind arith in
    let more = map_more (λ (task : TaskArgs). task.name) tasks index task within in
    record {
      so_far = rw (more, ← at, state.so_far) refl;
      others = rw (add-one, at) later;
    }

-- a new name goes last
pub insert_key_new : (keys : List (Bor (List ℕ))) (key : Bor (List ℕ)) → list_any (bytes_eq key.now) (map (λ name. name.now) keys) ≡ false → map
    (λ name. name.now) (insert_key (λ a b. bytes_eq a.now b.now) keys key) ≡ map (λ name. name.now) keys ++ key.now ∷ []
insert_key_new keys key new =
    let absent : list_any (λ name. bytes_eq key.now name.now) keys ≡ false = sym (list_any_map (bytes_eq key.now) (λ (name : Bor (List ℕ)). name.now) keys) ∙
    new in
    rw (absent, map_push (λ (name : Bor (List ℕ)). name.now) keys key) refl
