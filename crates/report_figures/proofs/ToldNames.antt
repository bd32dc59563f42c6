-- What the names of the numbers of a task begin with: the task is found by it, and it begins as no
-- name of another number.
use Rattle.std.proofs.Common.{◌≡◌, ℕ, zero, suc, ◌+◌, ◌-◌, ◌<◌, ◌≤◌, Bool, true, false, cond, not, ◌||◌, ltb, List, [], ◌∷◌, ◌++◌, length, get_or, drop, bytes_eq, codes, refl, sym, ap, ◌∙◌, arith, true≢false, nat_eq, decimal}
use Rattle.std.specs.List.{starts_with}
use Rattle.std.specs.Cmp.Lexicographic.{bytes_decides, nat_list_eq_equiv}
use Rattle.std.proofs.lemmas.Bool.{cond-true, cond-false, false_from_ne_true, or_from, or_parts}
use Rattle.std.proofs.lemmas.Bool.Decides.{nat_tests}
use Rattle.bench_types.specs.Header.{name_of}
use Rattle.bench_types.specs.declared.header.Header.{Header}
use Rattle.bench_types.specs.declared.header.TaskArgs.{TaskArgs}
use Rattle.bench_types.proofs.Repeats.{is_taken, repeats_name}
use Rattle.report_figures.specs.Names.{is_reserved, told_name, told_text}
use Rattle.report_figures.proofs.Words.{joined, joined_split, split}

-- words with which the names of other numbers begin, before a number
abbrev pub is_owner : List ℕ → Bool
is_owner word = bytes_eq word (codes "core") || (bytes_eq word (codes "mutex") || bytes_eq word (codes "queue"))

-- words with which no such name begins
abbrev pub is_free : List ℕ → List (List ℕ) → Bool
is_free word [] = not (bytes_eq word (codes "run"))
is_free word (next ∷ words) = not (is_owner word)

abbrev untold : List ℕ → List ℕ
untold text = cond (starts_with nat_eq text (codes "task.")) (drop 5 text) text

module _ (name : List ℕ) where
  module _ (free : is_reserved name ≡ false) where
    abbrev begins : List ℕ → Bool
    begins word = starts_with nat_eq name word

    parts4 : ((((bytes_eq name (codes "run") || begins (codes "core.")) || begins (codes "mutex.")) || begins (codes "queue.")) ≡ false) ×
        (begins (codes "task.") ≡ false)
    parts4 = or_parts (((bytes_eq name (codes "run") || begins (codes "core.")) || begins (codes "mutex.")) || begins (codes "queue."))
        (begins (codes "task.")) free

    parts3 : (((bytes_eq name (codes "run") || begins (codes "core.")) || begins (codes "mutex.")) ≡ false) × (begins (codes "queue.") ≡ false)
    parts3 = or_parts ((bytes_eq name (codes "run") || begins (codes "core.")) || begins (codes "mutex.")) (begins (codes "queue.")) parts4.0

    parts2 : ((bytes_eq name (codes "run") || begins (codes "core.")) ≡ false) × (begins (codes "mutex.") ≡ false)
    parts2 = or_parts (bytes_eq name (codes "run") || begins (codes "core.")) (begins (codes "mutex.")) parts3.0

    parts1 : (bytes_eq name (codes "run") ≡ false) × (begins (codes "core.") ≡ false)
    parts1 = or_parts (bytes_eq name (codes "run")) (begins (codes "core.")) parts2.0

    other_word : (word owner front rest : List ℕ) → ((text : List ℕ) → starts_with nat_eq (owner ++ 46 ∷ text) front ≡ true) → begins front ≡ false → word ++ 46 ∷
        rest ≡ name → bytes_eq word owner ≡ false
    other_word word owner front rest starts unlike is =
        false_from_ne_true (bytes_eq word owner)
        (λ same. true≢false
        (sym (starts rest) ∙ ap (λ text. starts_with nat_eq text front) (ap (λ text. text ++ 46 ∷ rest) (sym ((bytes_decides word owner).0 same)) ∙ is)
        ∙ unlike))

    free_words : (word : List ℕ) (words : List (List ℕ)) → joined word words ≡ name → is_free word words ≡ true
    free_words word [] is = ap (λ text. not (bytes_eq text (codes "run"))) is ∙ ap not parts1.0
    free_words word (next ∷ words) is =
        let rest = joined next words in
        ap not
        (or_from (bytes_eq word (codes "core")) (bytes_eq word (codes "mutex") || bytes_eq word (codes "queue"))
        (other_word word (codes "core") (codes "core.") rest (λ text. refl) parts1.1 is)
        (or_from (bytes_eq word (codes "mutex")) (bytes_eq word (codes "queue"))
        (other_word word (codes "mutex") (codes "mutex.") rest (λ text. refl) parts2.1 is)
        (other_word word (codes "queue") (codes "queue.") rest (λ text. refl) parts3.1 is)))

    free_told : is_free (split name).0 (split name).1 ≡ true
    free_told = free_words (split name).0 (split name).1 (joined_split name)

    free_untold : untold name ≡ name
    free_untold = cond-false (starts_with nat_eq name (codes "task.")) (drop 5 name) name parts4.1

  text_free : is_free (split (told_text name)).0 (split (told_text name)).1 ≡ true
  text_free = at (is_reserved name) refl
    where
      at : (b : Bool) → is_reserved name ≡ b
          → is_free (split (cond b (codes "task." ++ name) name)).0 (split (cond b (codes "task." ++ name) name)).1 ≡ true
      at true is = refl
      at false is = free_told is

  untold_text : untold (told_text name) ≡ name
  untold_text = at (is_reserved name) refl
    where
      at : (b : Bool) → is_reserved name ≡ b → untold (cond b (codes "task." ++ name) name) ≡ name
      at true is = refl
      at false is = free_untold is

-- the place of the first task of a name
abbrev place_of : List ℕ → List TaskArgs → ℕ
place_of name [] = zero
place_of name (task ∷ tasks) = cond (bytes_eq name task.name) zero (suc (place_of name tasks))

untaken : (name : List ℕ) (tasks : List TaskArgs) (d : TaskArgs) (i : ℕ) → is_taken name tasks ≡ false → i < length tasks → bytes_eq name
    (get_or tasks i d).name ≡ false
untaken name [] d i none within = absurd (omega (arith, within))
untaken name (task ∷ tasks) d zero none within = (or_parts (bytes_eq name task.name) (is_taken name tasks) none).0
untaken name (task ∷ tasks) d (suc i) none within =
    untaken name tasks d i (or_parts (bytes_eq name task.name) (is_taken name tasks) none).1 (omega (arith, within))

placed : (tasks : List TaskArgs) (d : TaskArgs) (i : ℕ) → repeats_name tasks ≡ false → i < length tasks → place_of (get_or tasks i d).name tasks ≡ i
placed [] d i once within = absurd (omega (arith, within))
placed (task ∷ tasks) d zero once within =
    cond-true (bytes_eq task.name task.name) zero (suc (place_of task.name tasks)) (nat_list_eq_equiv.refl task.name)
placed (task ∷ tasks) d (suc i) once within =
    let parts = or_parts (is_taken task.name tasks) (repeats_name tasks) once in
    let below : i < length tasks = omega (arith, within) in
    let name = (get_or tasks i d).name in
    let other : bytes_eq name task.name ≡ false = nat_list_eq_equiv.symm name task.name ∙ untaken task.name tasks d i parts.0 below in
    cond-false (bytes_eq name task.name) zero (suc (place_of name tasks)) other ∙ ap suc (placed tasks d i parts.1 below)

module _ (header : Header) where
  pub told_free : (task : ℕ) → is_free (split (told_name header task)).0 (split (told_name header task)).1 ≡ true
  unfolding told_name
  told_free task = text_free (name_of header task)

  -- the task whose numbers have names that begin with the text
  pub task_told : List ℕ → ℕ
  task_told text = header.config.cores + place_of (untold text) header.tasks

  pub told_task : repeats_name header.tasks ≡ false → (task : ℕ) → header.config.cores ≤ task → task < header.config.cores + length header.tasks → task_told
      (told_name header task) ≡ task
  unfolding told_name task_told
  told_task once task least most =
      let d : TaskArgs = record { name = []; priority = 0; mask = 0 } in
      let place : ℕ = task - header.config.cores in
      let user : ltb task header.config.cores ≡ false = grind (arith, nat_tests, least) in
      let named : name_of header task ≡ (get_or header.tasks place d).name = cond-false (ltb task header.config.cores) (codes "IDLE" ++ decimal task)
      (get_or header.tasks place d).name user in
      let there : place_of (name_of header task) header.tasks ≡ place = ap (λ name. place_of name header.tasks) named ∙ placed header.tasks d place once
      (omega (arith, least, most)) in
      ap (λ name. header.config.cores + place_of name header.tasks) (untold_text (name_of header task)) ∙ omega (arith, there, least)
