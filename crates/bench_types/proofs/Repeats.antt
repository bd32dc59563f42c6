-- Names that come twice: counting each name finds one exactly where some name is that of a task
-- before.
use Rattle.std.proofs.Common.{◌≡◌, ℕ, ◌+◌, Bool, true, false, not, ◌||◌, cond, ltb, List, [], ◌∷◌, bytes_eq, refl, sym, ap, ap₂, ◌∙◌, arith, zero-add}
use Rattle.std.specs.List.{list_all, list_any}
use Rattle.std.specs.Cmp.Lexicographic.{nat_list_eq_equiv}
use Rattle.std.proofs.lemmas.Bool.{and_parts, or_parts}
use Rattle.std.proofs.lemmas.Bool.Decides.{nat_tests}
use Rattle.std.proofs.lemmas.List.Sums.{sum_by-cons}
use Rattle.bench_types.specs.declared.header.TaskArgs.{TaskArgs}
use Rattle.bench_types.specs.Flaw.{count_of_name}

-- some task has the name
abbrev pub is_taken : List ℕ → List TaskArgs → Bool
is_taken name tasks = list_any (λ task. bytes_eq name task.name) tasks

-- some task has the name of one before it
abbrev pub repeats_name : List TaskArgs → Bool
repeats_name [] = false
repeats_name (task ∷ tasks) = is_taken task.name tasks || repeats_name tasks

-- no more than one of all tasks has the name of this one
abbrev is_single : List TaskArgs → TaskArgs → Bool
is_single all task = not (ltb 1 (count_of_name all task.name))

-- the same of each of these
abbrev pub are_single : List TaskArgs → List TaskArgs → Bool
are_single all tasks = list_all (λ task. not (ltb 1 (count_of_name all task.name))) tasks

counted : (name : List ℕ) (task : TaskArgs) (tasks : List TaskArgs) → count_of_name (task ∷ tasks) name ≡ cond (bytes_eq name task.name) 1 0 + count_of_name
    tasks name
counted name task tasks = sum_by-cons (λ (task : TaskArgs). cond (bytes_eq name task.name) 1 0) task tasks

none_counted : (b : Bool) (n : ℕ) → cond b 1 0 + n ≡ 0 → (b ≡ false) × (n ≡ 0)
none_counted true n none = absurd (omega (arith, none))
none_counted false n none = (refl, omega (arith, none))

one_counted : (n : ℕ) → not (ltb 1 (1 + n)) ≡ true → n ≡ 0
one_counted n few = grind (arith, nat_tests, few)

not_more : (b : Bool) (n : ℕ) → not (ltb 1 (cond b 1 0 + n)) ≡ true → not (ltb 1 n) ≡ true
not_more true n few = grind (arith, nat_tests, few)
not_more false n few = grind (arith, nat_tests, few)

free_uncounted : (name : List ℕ) (tasks : List TaskArgs) → count_of_name tasks name ≡ 0 → is_taken name tasks ≡ false
free_uncounted name [] none = refl
free_uncounted name (task ∷ tasks) none =
    let parts = none_counted (bytes_eq name task.name) (count_of_name tasks name) (sym (counted name task tasks) ∙ none) in
    rw (parts.0, free_uncounted name tasks parts.1) refl

uncounted : (name : List ℕ) (tasks : List TaskArgs) → is_taken name tasks ≡ false → count_of_name tasks name ≡ 0
uncounted name [] free = refl
uncounted name (task ∷ tasks) free =
    let parts = or_parts (bytes_eq name task.name) (is_taken name tasks) free in
    counted name task tasks ∙ ap₂ (λ b n. cond b 1 0 + n) parts.0 (uncounted name tasks parts.1)

-- fewer tasks have no more of a name
fewer_single : (first : TaskArgs) (all tasks : List TaskArgs) → are_single (first ∷ all) tasks ≡ true → are_single all tasks ≡ true
fewer_single first all [] single = refl
fewer_single first all (task ∷ tasks) single =
    let both = and_parts (is_single (first ∷ all) task) (are_single (first ∷ all) tasks) single in
    let few = not_more (bytes_eq task.name first.name) (count_of_name all task.name) (ap (λ n. not (ltb 1 n)) (sym (counted task.name first all)) ∙ both.0) in
    rw (few, fewer_single first all tasks both.1) refl

pub single_once : (tasks : List TaskArgs) → are_single tasks tasks ≡ true → repeats_name tasks ≡ false
single_once [] single = refl
single_once (task ∷ tasks) single =
    let both = and_parts (is_single (task ∷ tasks) task) (are_single (task ∷ tasks) tasks) single in
    let own : count_of_name (task ∷ tasks) task.name ≡ 1 + count_of_name tasks task.name = counted task.name task tasks ∙ ap
    (λ b. cond b 1 0 + count_of_name tasks task.name) (nat_list_eq_equiv.refl task.name) in
    let none = one_counted (count_of_name tasks task.name) (ap (λ n. not (ltb 1 n)) (sym own) ∙ both.0) in
    rw (free_uncounted task.name tasks none, single_once tasks (fewer_single task tasks tasks both.1)) refl

-- one more task, whose name none of these has
more_single : (first : TaskArgs) (all tasks : List TaskArgs) → is_taken first.name tasks ≡ false → are_single all tasks ≡ true → are_single (first ∷ all) tasks
    ≡ true
more_single first all [] free single = refl
more_single first all (task ∷ tasks) free single =
    let parts = or_parts (bytes_eq first.name task.name) (is_taken first.name tasks) free in
    let both = and_parts (is_single all task) (are_single all tasks) single in
    let other : bytes_eq task.name first.name ≡ false = nat_list_eq_equiv.symm task.name first.name ∙ parts.0 in
    let same : count_of_name (first ∷ all) task.name ≡ count_of_name all task.name = counted task.name first all ∙ ap
    (λ b. cond b 1 0 + count_of_name all task.name) other ∙ zero-add (count_of_name all task.name) in
    let here : is_single (first ∷ all) task ≡ true = ap (λ n. not (ltb 1 n)) same ∙ both.0 in
    rw (here, more_single first all tasks parts.1 both.1) refl

pub once_single : (tasks : List TaskArgs) → repeats_name tasks ≡ false → are_single tasks tasks ≡ true
once_single [] once = refl
once_single (task ∷ tasks) once =
    let parts = or_parts (is_taken task.name tasks) (repeats_name tasks) once in
    let own : count_of_name (task ∷ tasks) task.name ≡ 1 = counted task.name task tasks ∙ ap₂ (λ b n. cond b 1 0 + n) (nat_list_eq_equiv.refl task.name)
    (uncounted task.name tasks parts.0) in
    let here : is_single (task ∷ tasks) task ≡ true = ap (λ n. not (ltb 1 n)) own in
    rw (here, more_single task tasks tasks parts.0 (once_single tasks parts.1)) refl
