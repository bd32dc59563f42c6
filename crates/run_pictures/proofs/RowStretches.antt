-- What the rows of tasks show is found look by look.
use Rattle.std.proofs.Common.{◌≡◌, ℕ, suc, ◌+◌, ◌<◌, List, [], ◌∷◌, ◌++◌, length, map, drop, get_or, cond, eqb, Option, Some, None, refl, sym, ap, ◌∙◌, arith}
use Rattle.std.specs.Prelude.{slice_set, ◌==◌}
use Rattle.std.specs.List.{position_from}
use Rattle.std.proofs.lemmas.List.{drop_all, drop_more}
use Rattle.std.proofs.lemmas.List.FromFn.{map-range_with_len_more}
use Rattle.std.proofs.lemmas.Iterator.Adapters.{position_from-zero}
use Rattle.bench_types.specs.declared.header.Header.{Header}
use Rattle.bench_types.specs.declared.kernel_data.CoreLook.{CoreLook}
use Rattle.list_orders.specs.Search.{numbers}
use Rattle.run_views.specs.declared.look.Look.{Look}
use Rattle.run_pictures.specs.Preemption.{preempt_stretches}
use Rattle.run_pictures.specs.RowStretches.{all_row_stretches, all_runners, empty_row, extended_row, Row, row_of}
use Rattle.run_pictures.specs.Stances.{core_of}
use Rattle.run_pictures.specs.TaskStretches.{priority_stretches, stance_stretches}
use Rattle.run_pictures.specs.TaskNames.{terms_stretches}
use Rattle.run_pictures.proofs.Numbered.{item, one_set, same_map, size}

-- ---- the cores that run the tasks

-- the first of the cores from that one on that runs the task
abbrev pub core_from : List CoreLook → ℕ → ℕ → Option ℕ
core_from cores core task = position_from (λ look. look.current == task) core (drop core cores)

-- no core was looked at
pub no_runner : (cores : List CoreLook) (tasks : ℕ) → map (λ _. None) (numbers tasks) ≡ map (core_from cores (length cores)) (numbers tasks)
no_runner cores tasks =
    same_map (λ _. None) (core_from cores (length cores)) None tasks
    (λ k _. sym (ap (position_from (λ look. look.current == k) (length cores)) (drop_all (length cores) cores (omega arith))))

-- the core before these was looked at
pub one_runner : (cores : List CoreLook) (core tasks task : ℕ) (d : CoreLook) → core < length cores → task ≡ (get_or cores core d).current
    → slice_set (map (core_from cores (core + 1)) (numbers tasks)) task (Some core) ≡ map (core_from cores core) (numbers tasks)
one_runner cores core tasks task d low is =
    one_set (core_from cores (core + 1)) tasks task (Some core)
    ∙ same_map (λ k. cond (eqb task k) (Some core) (core_from cores (core + 1) k)) (core_from cores core) None tasks
    (λ k _. ap (λ t. cond (eqb t k) (Some core) (core_from cores (core + 1) k)) is
    ∙ sym (ap (position_from (λ look. look.current == k) core) (drop_more cores core d low)))

pub each_runner : (look : Look) (tasks : ℕ) → map (core_from look.cores 0) (numbers tasks) ≡ all_runners look tasks
unfolding all_runners
each_runner look tasks =
    same_map (core_from look.cores 0) (λ task. core_of task look.cores) None tasks
    (λ k _. sym (position_from-zero (λ core. core.current == k) look.cores))

pub runners_count : (look : Look) (tasks : ℕ) → length (all_runners look tasks) ≡ tasks
unfolding all_runners
runners_count look tasks = size (λ task. core_of task look.cores) tasks

pub runner_at : (look : Look) (tasks task : ℕ) → task < tasks → get_or (all_runners look tasks) task None ≡ core_of task look.cores
unfolding all_runners
runner_at look tasks task low = item (λ task. core_of task look.cores) None tasks task low

-- ---- the stretches

-- a row more of which no place is known
pub one_row : (users : ℕ) (rows next : List Row) (row : Row) → rows ≡ map (λ _. empty_row) (numbers users)
    → next ≡ rows ++ row ∷ [] → row ≡ empty_row → next ≡ map (λ _. empty_row) (numbers (users + 1))
one_row users rows next row were adds none =
    let empty : ℕ → Row = λ _. empty_row in
    let more = map-range_with_len_more empty 0 users users (omega arith) in
    cc (were, adds, none, more)

-- what each user task's row shows from that place on
abbrev pub row_from : ℕ → List Look → ℕ → ℕ → ℕ → Row
row_from first looks cores index user = row_of (first + index) (drop index looks) (cores + user)

row_of_none : (first task : ℕ) → row_of first [] task ≡ empty_row
unfolding preempt_stretches priority_stretches stance_stretches terms_stretches
row_of_none first task = refl

row_of_more : (first : ℕ) (look : Look) (looks : List Look) (task : ℕ)
    → row_of first (look ∷ looks) task ≡ extended_row first look task (row_of (suc first) looks task)
unfolding preempt_stretches priority_stretches stance_stretches terms_stretches
row_of_more first look looks task = refl

-- no place is known
pub no_place : (first : ℕ) (looks : List Look) (cores users : ℕ)
    → map (λ _. empty_row) (numbers users) ≡ map (row_from first looks cores (length looks)) (numbers users)
no_place first looks cores users =
    let place = first + length looks in
    let none : drop (length looks) looks ≡ [] = drop_all (length looks) looks (omega arith) in
    same_map (λ _. empty_row) (row_from first looks cores (length looks)) empty_row users
    (λ k _. sym (ap (λ rest. row_of place rest (cores + k)) none ∙ row_of_none place (cores + k)))

-- what the rows show with the place of the look more
abbrev pub with_place : ℕ → Look → ℕ → List Row → ℕ → Row
with_place place look cores rows user = extended_row place look (cores + user) (get_or rows user empty_row)

-- the place before these is known
pub one_place : (first : ℕ) (looks : List Look) (cores users index : ℕ) (look d : Look) (rows next : List Row)
    → index < length looks → look ≡ get_or looks index d → rows ≡ map (row_from first looks cores (index + 1)) (numbers users)
    → next ≡ map (with_place (first + index) look cores rows) (numbers users)
    → next ≡ map (row_from first looks cores index) (numbers users)
one_place first looks cores users index look d rows next low is were extends =
    let rest = drop (index + 1) looks in
    let place : first + (index + 1) ≡ suc (first + index) = omega arith in
    let here : drop index looks ≡ look ∷ rest = drop_more looks index d low ∙ ap (λ l. l ∷ rest) (sym is) in
    let shift = λ (k : ℕ). ap (λ n. row_of n rest (cores + k)) place in
    let row = λ (k : ℕ) (below : k < users). ap (λ all. get_or all k empty_row) were ∙ item (row_from first looks cores (index + 1)) empty_row users k below in
    extends
    ∙ same_map (with_place (first + index) look cores rows) (row_from first looks cores index) empty_row users
    (λ k below. ap (extended_row (first + index) look (cores + k)) (row k below ∙ shift k)
    ∙ sym (ap (λ all. row_of (first + index) all (cores + k)) here ∙ row_of_more (first + index) look rest (cores + k)))

pub rows_count : (header : Header) (first : ℕ) (looks : List Look) → length (all_row_stretches header first looks) ≡ length header.tasks
unfolding all_row_stretches
rows_count header first looks = size (λ user. row_of first looks (header.config.cores + user)) (length header.tasks)

pub row_at : (header : Header) (first : ℕ) (looks : List Look) (user : ℕ) → user < length header.tasks
    → get_or (all_row_stretches header first looks) user empty_row ≡ row_of first looks (header.config.cores + user)
unfolding all_row_stretches
row_at header first looks user low = item (λ user. row_of first looks (header.config.cores + user)) empty_row (length header.tasks) user low
