-- The name of a user task stands for its number.
use Rattle.std.proofs.Common.{◌≡◌, ℕ, zero, suc, ◌+◌, ◌-◌, ◌<◌, ◌≤◌, false, List, [], ◌∷◌, length, get_or, map, bytes_eq, refl, ◌∙◌, arith, lt-ltb}
use Rattle.std.specs.List.{position_or_len}
use Rattle.std.proofs.lemmas.Bool.{or_parts}
use Rattle.std.proofs.lemmas.List.{length-map}
use Rattle.std.specs.Cmp.Lexicographic.{nat_list_eq_equiv}
use Rattle.bench_types.specs.declared.header.TaskArgs.{TaskArgs}
use Rattle.bench_types.specs.declared.header.Header.{Header}
use Rattle.bench_types.proofs.Repeats.{is_taken, repeats_name}
use Rattle.session_text.specs.Names.{names_of, number_of}
use Rattle.session_write.specs.Written.{task_name}

-- a name that no task has is not that of one of them
not_that_of : (name : List ℕ) (tasks : List TaskArgs) (i : ℕ) (d : TaskArgs) → i < length tasks → is_taken name tasks ≡ false → bytes_eq (get_or tasks i d).name
    name ≡ false
not_that_of name [] i d within free = absurd (omega arith)
not_that_of name (task ∷ tasks) zero d within free = nat_list_eq_equiv.symm task.name name ∙ (or_parts (bytes_eq name task.name) (is_taken name tasks) free).0
not_that_of name (task ∷ tasks) (suc i) d within free = not_that_of name tasks i d (omega arith)
    (or_parts (bytes_eq name task.name) (is_taken name tasks) free).1

-- where no name is there twice, a task's name is first found at its own place
pub place_of_name : (tasks : List TaskArgs) (i : ℕ) (d : TaskArgs) → i < length tasks → repeats_name tasks ≡ false → position_or_len
    (bytes_eq (get_or tasks i d).name) (map (λ task. task.name) tasks) ≡ i
place_of_name [] i d within once = absurd (omega arith)
place_of_name (task ∷ tasks) zero d within once = rw (nat_list_eq_equiv.refl task.name) refl
place_of_name (task ∷ tasks) (suc i) d within once =
    let parts = or_parts (is_taken task.name tasks) (repeats_name tasks) once in
    rw (not_that_of task.name tasks i d (omega arith) parts.0) (omega (arith, place_of_name tasks i d (omega arith) parts.1))

pub number_of_name : (header : Header) (task : ℕ) → header.config.cores ≤ task → task < header.config.cores + length header.tasks → repeats_name header.tasks ≡
    false → number_of (names_of header) (task_name header task) ≡ task
number_of_name header task low high once =
    let i = task - header.config.cores in
    let place = place_of_name header.tasks i (record { name = []; priority = 0; mask = 0 }) (omega arith) once in
    let within : i < length (map (λ task. task.name) header.tasks) = omega (arith, length-map header.tasks (λ (task : TaskArgs). task.name)) in
    rw (place, lt-ltb _ _ within) (omega arith)
