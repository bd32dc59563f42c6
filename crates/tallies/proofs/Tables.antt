-- Tallies that are kept in two lists: where the numbers of a task stand, and what a write of one of them changes.
use Rattle.std.proofs.Common.{◌≡◌, ℕ, ◌+◌, ◌*◌, ◌<◌, ◌≤◌, List, length, map, take, drop, get_or, sym, ap, subst, ◌∙◌, arith, inl, inr}
use Rattle.std.specs.Prelude.{slice_set}
use Rattle.std.proofs.Math.Nat.{mul-le-mul_right}
use Rattle.std.proofs.lemmas.Bool.{cases_eq, cases_order}
use Rattle.std.proofs.lemmas.List.{length-drop, length-set, length-take-le, get_or-drop, get_or-set_same, get_or-set_other, get_or-take, get_or_default}
use Rattle.std.proofs.lemmas.List.{ext_get_or}
use Rattle.bench_types.specs.declared.tally.Tally.{Tally}
use Rattle.list_orders.specs.Search.{numbers}
use Rattle.bench_model.specs.Tally.{TaskTally}
use Rattle.bench_model.specs.Tallied.{no_counts, run_at, tally_at}
use Rattle.session_laws.proofs.Tallies.{each_at, length_each, numbers_agree}
use Rattle.tallies.specs.Tables.{counts_of, runs_of, tallies_in, tally_in}
use Rattle.tallies.proofs.Additions.{nothing}

-- ---- places

pub place_within : (cores task tasks core : ℕ) → task < tasks → core < cores → task * cores + core < tasks * cores
place_within cores task tasks core low inside =
    let next : task + 1 ≤ tasks = omega (arith, low) in
    let most : (task + 1) * cores ≤ tasks * cores = mul-le-mul_right cores next in
    omega (arith, most, inside)

-- the places of two tasks are apart
pub one_task : (cores task other core place : ℕ) → core < cores → place < cores → task * cores + core ≡ other * cores + place → task ≡ other
one_task cores task other core place inside within same = elim (cases_order task other) [
  | inl here ↦ here
  | inr (inl low) ↦ absurd (omega (arith, same, place_within cores task other core low inside))
  | inr (inr low) ↦ absurd (omega (arith, same, place_within cores other task place low within))
]

pub one_core : (cores task other core place : ℕ) → core < cores → place < cores → task * cores + core ≡ other * cores + place → core ≡ place
one_core cores task other core place inside within same =
    omega (arith, same, ap (λ n. n * cores) (one_task cores task other core place inside within same))

-- ---- what stands there

pub length_runs : (cores : ℕ) (runs : List ℕ) (task : ℕ) → length (runs_of cores runs task) ≡ cores
unfolding runs_of
length_runs cores runs task = length_each (λ core. get_or runs (task * cores + core) 0) cores

pub run_there : (cores : ℕ) (runs : List ℕ) (task core d : ℕ) → core < cores → get_or (runs_of cores runs task) core d ≡ get_or runs (task * cores + core) 0
unfolding runs_of
run_there cores runs task core d inside = each_at (λ core. get_or runs (task * cores + core) 0) cores core d inside

pub length_tallies : (cores : ℕ) (runs : List ℕ) (counts : List Tally) → length (tallies_in cores runs counts) ≡ length counts
unfolding tallies_in
length_tallies cores runs counts = length_each (tally_in cores runs counts) (length counts)

pub tally_there : (cores : ℕ) (runs : List ℕ) (counts : List Tally) (task : ℕ) → task < length counts → tally_at (tallies_in cores runs counts) task ≡ tally_in
    cores runs counts task
unfolding tallies_in
tally_there cores runs counts task low = each_at (tally_in cores runs counts) (length counts) task nothing low

-- all of a task's ticks stand together
pub part_within : (cores tasks task : ℕ) → task < tasks → task * cores + cores ≤ tasks * cores
part_within cores tasks task low =
    let next : task + 1 ≤ tasks = omega (arith, low) in omega (arith, mul-le-mul_right cores next)

pub part_there : (cores : ℕ) (runs : List ℕ) (tasks task : ℕ) → length runs ≡ tasks * cores → task < tasks → take cores (drop (task * cores) runs) ≡ runs_of
    cores runs task
unfolding runs_of
part_there cores runs tasks task size low =
    let from = task * cores in
    let part = take cores (drop from runs) in
    let tick : ℕ → ℕ = λ core. get_or runs (from + core) 0 in
    let long : length part ≡ cores = omega (
      arith,
      length-take-le cores (drop from runs)
          (omega (arith, size, part_within cores tasks task low, length-drop from runs)),
    ) in
    ext_get_or 0 part (map tick (numbers cores)) (long ∙ sym (length_each tick cores))
    (λ core within.
    let inside : core < cores = omega (arith, within, long) in
    get_or-take cores (drop from runs) core 0 inside ∙ get_or-drop from runs core 0 ∙ sym (each_at tick cores core 0 inside))

-- ---- a number that is written

-- a list that is made from numbers, with one item changed
set_one : {X : Type 0} (f g : ℕ → X) (n place : ℕ) (x d : X) → place < n → f place ≡ x → ((k : ℕ) → (k ≡ place → ⊥) → k < n → f k ≡ g k)
    → map f (numbers n) ≡ slice_set (map g (numbers n)) place x
set_one f g n place x d inside is others =
    let old = map g (numbers n) in
    ext_get_or d (map f (numbers n)) (slice_set old place x) (length_each f n ∙ sym (length-set old place x ∙ length_each g n))
    (λ k within. let low : k < n = omega (arith, within, length_each f n) in each_at f n k d low ∙ elim (cases_eq k place) [
      | inl here ↦ subst (λ j. f j ≡ get_or (slice_set old place x) j d) (sym here)
          (is ∙ sym (get_or-set_same old place x d (omega (arith, inside, length_each g n))))
      | inr away ↦ others k away low ∙ sym (each_at g n k d low) ∙ sym (get_or-set_other old place k x d away)
    ])

pub set_counts : (cores : ℕ) (runs : List ℕ) (counts : List Tally) (task : ℕ) (x : Tally) → task < length counts
    → tallies_in cores runs (slice_set counts task x) ≡ slice_set (tallies_in cores runs counts) task
    (record (tally_at (tallies_in cores runs counts) task) { counts = x })
unfolding tallies_in
set_counts cores runs counts task x low =
    let changed : ℕ → TaskTally = tally_in cores runs (slice_set counts task x) in
    let with_runs : List ℕ → Tally → TaskTally = λ run c. record { run = run; counts = c } in
    ap (λ n. map changed (numbers n)) (length-set counts task x)
    ∙ set_one changed (tally_in cores runs counts) (length counts) task (record (tally_at (tallies_in cores runs counts) task) { counts = x }) nothing low
    (ap (with_runs (runs_of cores runs task)) (get_or-set_same counts task x (no_counts 0) low) ∙ ap (λ (t : TaskTally). with_runs t.run x)
    (sym (tally_there cores runs counts task low)))
    (λ k away within. ap (with_runs (runs_of cores runs k)) (get_or-set_other counts task k x (no_counts 0) away))

runs_changed : (cores : ℕ) (runs : List ℕ) (task core n : ℕ) → core < cores → task * cores + core < length runs → runs_of cores
    (slice_set runs (task * cores + core) n) task ≡ slice_set (runs_of cores runs task) core n
unfolding runs_of
runs_changed cores runs task core n inside low =
    let place = task * cores + core in
    set_one (λ k. get_or (slice_set runs place n) (task * cores + k) 0) (λ k. get_or runs (task * cores + k) 0) cores core n 0 inside
    (get_or-set_same runs place n 0 low)
    (λ k away within. get_or-set_other runs place (task * cores + k) n 0 (λ same. away (one_core cores task task k core within inside same)))

runs_kept : (cores : ℕ) (runs : List ℕ) (task core n other : ℕ) → core < cores → (other ≡ task → ⊥) → runs_of cores (slice_set runs (task * cores + core) n)
    other ≡ runs_of cores runs other
unfolding runs_of
runs_kept cores runs task core n other inside away =
    let place = task * cores + core in
    numbers_agree (λ k. get_or (slice_set runs place n) (other * cores + k) 0) (λ k. get_or runs (other * cores + k) 0) cores
    (λ k within. get_or-set_other runs place (other * cores + k) n 0 (λ same. away (one_task cores other task k core within inside same)))

pub set_run : (cores : ℕ) (runs : List ℕ) (counts : List Tally) (task core n : ℕ) → length runs ≡ length counts * cores → task < length counts → core < cores
    → tallies_in cores (slice_set runs (task * cores + core) n) counts
    ≡ slice_set (tallies_in cores runs counts) task (record (tally_at (tallies_in cores runs counts) task)
    { run = slice_set (tally_at (tallies_in cores runs counts) task).run core n })
unfolding tallies_in
set_run cores runs counts task core n size low inside =
    let with_counts : Tally → List ℕ → TaskTally = λ c run. record { run = run; counts = c } in
    let set_in : TaskTally → TaskTally = λ t. record t { run = slice_set t.run core n } in
    set_one (tally_in cores (slice_set runs (task * cores + core) n) counts) (tally_in cores runs counts) (length counts) task
    (set_in (tally_at (tallies_in cores runs counts) task)) nothing low
    (ap (with_counts (counts_of counts task)) (runs_changed cores runs task core n inside
    (omega (arith, size, place_within cores task (length counts) core low inside)))
    ∙ ap set_in (sym (tally_there cores runs counts task low)))
    (λ k away within. ap (with_counts (counts_of counts k)) (runs_kept cores runs task core n k inside away))

-- ---- a table by its tallies

module _ (cores : ℕ) (runs : List ℕ) (counts : List Tally) (tallies : List TaskTally) (seen : tallies_in cores runs counts ≡ tallies) where
  pub seen_length : length tallies ≡ length counts
  seen_length = ap (λ (ts : List TaskTally). length ts) (sym seen) ∙ length_tallies cores runs counts

  pub seen_task : (task : ℕ) → task < length tallies → task < length counts
  seen_task task low = omega (arith, low, seen_length)

  pub seen_at : (task : ℕ) → task < length tallies → tally_at tallies task ≡ tally_in cores runs counts task
  seen_at task low = ap (λ ts. tally_at ts task) (sym seen) ∙ tally_there cores runs counts task (seen_task task low)

  pub seen_counts : (task : ℕ) → task < length tallies → (tally_at tallies task).counts ≡ counts_of counts task
  seen_counts task low = ap (λ (t : TaskTally). t.counts) (seen_at task low)

  pub seen_cores : (task : ℕ) → task < length tallies → length (tally_at tallies task).run ≡ cores
  seen_cores task low = ap (λ (t : TaskTally). length t.run) (seen_at task low) ∙ length_runs cores runs task

  pub seen_core : (task core : ℕ) → task < length tallies → core < length (tally_at tallies task).run → core < cores
  seen_core task core low inside = omega (arith, inside, seen_cores task low)

  pub seen_run : (task core : ℕ) → task < length tallies → core < length (tally_at tallies task).run → run_at (tally_at tallies task) core ≡ get_or runs
      (task * cores + core) 0
  seen_run task core low inside =
      ap (λ (t : TaskTally). run_at t core) (seen_at task low) ∙ run_there cores runs task core 0 (seen_core task core low inside)

  pub seen_place : (task core : ℕ) → length runs ≡ length counts * cores → task < length tallies → core < length (tally_at tallies task).run → task * cores +
      core < length runs
  seen_place task core size low inside = omega (arith, size, place_within cores task (length counts) core (seen_task task low) (seen_core task core low inside))

  -- what is read there
  pub read_counts : (task : ℕ) (x : Tally) → task < length tallies → x ≡ get_or counts task x → x ≡ (tally_at tallies task).counts
  read_counts task x low is = is ∙ get_or_default counts task x (no_counts 0) (seen_task task low) ∙ sym (seen_counts task low)

  pub read_run : (task core place x : ℕ) → length runs ≡ length counts * cores → task < length tallies → core < length (tally_at tallies task).run → place ≡
      task * cores + core → x ≡ get_or runs place x → x ≡ run_at (tally_at tallies task) core
  read_run task core place x size low inside there is =
      is ∙ ap (λ i. get_or runs i x) there ∙ get_or_default runs (task * cores + core) x 0 (seen_place task core size low inside) ∙ sym
      (seen_run task core low inside)

  -- the counts of a task are changed
  pub counts_changed : (f : Tally → Tally) (task : ℕ) (x : Tally) → task < length tallies → x ≡ get_or counts task x
      → tallies_in cores runs (slice_set counts task (f x)) ≡ slice_set tallies task
      (record (tally_at tallies task) { counts = f (tally_at tallies task).counts })
  counts_changed f task x low is =
      set_counts cores runs counts task (f x) (seen_task task low)
      ∙ ap (λ ts. slice_set ts task (record (tally_at ts task) { counts = f x })) seen
      ∙ ap (λ c. slice_set tallies task (record (tally_at tallies task) { counts = f c })) (read_counts task x low is)

  -- the ticks on a core are
  pub run_changed : (task core place x n : ℕ) → length runs ≡ length counts * cores → task < length tallies → core < length (tally_at tallies task).run → place
      ≡ task * cores + core → x ≡ get_or runs place x
      → tallies_in cores (slice_set runs place (x + n)) counts ≡ slice_set tallies task
      (record (tally_at tallies task) { run = slice_set (tally_at tallies task).run core (run_at (tally_at tallies task) core + n) })
  run_changed task core place x n size low inside there is =
      ap (λ i. tallies_in cores (slice_set runs i (x + n)) counts) there
      ∙ set_run cores runs counts task core (x + n) size (seen_task task low) (seen_core task core low inside)
      ∙ ap (λ ts. slice_set ts task (record (tally_at ts task) { run = slice_set (tally_at ts task).run core (x + n) })) seen
      ∙ ap (λ k. slice_set tallies task (record (tally_at tallies task) { run = slice_set (tally_at tallies task).run core (k + n) }))
      (read_run task core place x size low inside there is)
