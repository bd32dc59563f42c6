-- The order of quiet work: switches, then finishes, each by the least core, then the first waiting call.
use Rattle.std.proofs.Common.{◌≡◌, ℕ, zero, suc, ◌+◌, ◌<◌, ◌≤◌, Bool, true, false, cond, ◌&&◌, List, [], ◌∷◌, ◌++◌, map, Some, None, refl, sym, ap, subst}
use Rattle.std.proofs.Common.{◌∙◌, inl, inr, arith}
use Rattle.std.specs.Prelude.{All}
use Rattle.std.specs.List.{find, filter, range_with_len, AllByRecursion}
use Rattle.std.specs.Option.{option_or}
use Rattle.std.proofs.lemmas.Bool.{cases_eq}
use Rattle.std.proofs.lemmas.Bool.Decides.{nat_tests}
use Rattle.std.proofs.lemmas.List.Elements.{recursion_from_All}
use Rattle.bench_types.specs.declared.step.Step.TheVariants.{Switch}
use Rattle.bench_types.specs.declared.step.Step.TheVariants as steps
use Rattle.bench_types.specs.declared.step.Call.TheVariants.{Finish}
use Rattle.list_orders.specs.Search.{numbers}
use Rattle.list_orders.proofs.Filters.{All-weaker, find_none}
use Rattle.list_orders.proofs.Stamped.{numbers_below}
use Rattle.bench_model.specs.Control.{current}
use Rattle.bench_model.specs.Sound.{IsSound}
use Rattle.bench_model.specs.Table.{Table}
use Rattle.settled_runs.specs.declared.waiting_call.WaitingCall.{WaitingCall}
use Rattle.settled_runs.specs.Settled.{is_open, is_timely, is_finish, switches, finishes, finish_on, runs_user_task, core_running, on_its_core, quiet_step}
use Rattle.settled_runs.specs.SettleLaws.{CannotSwitch, CannotFinishOn, CannotCall}
use Rattle.settled_runs.proofs.Pieces.{each_map}
use Rattle.settled_runs.proofs.Rests.{running_below, runs_core}
use Rattle.settled_runs.proofs.Timely.{closed_elsewhere, timely_runs}

-- ---- searches

-- of consecutive numbers the least that passes is found
find_least : (p : ℕ → Bool) (a n c : ℕ) → a ≤ c → c < a + n → p c ≡ true → ((less : ℕ) → less < c → p less ≡ false)
    → find p (range_with_len a n) ≡ Some c
find_least p a zero c low high passes none = absurd (omega (arith, low, high))
find_least p a (suc n) c low high passes none = elim (cases_eq a c) [
  | inl same ↦
      ap (λ b. cond b (Some a) (find p (range_with_len (a + 1) n))) (subst (λ c. p c ≡ true) (sym same) passes) ∙ ap Some same
  | inr other ↦
      ap (λ b. cond b (Some a) (find p (range_with_len (a + 1) n))) (none a (omega (arith, low, other)))
      ∙ find_least p (a + 1) n c (omega (arith, low, other)) (omega (arith, high)) passes none
]

module _ {X : Type 0} where
  -- what is found of things is found of what they are mapped to
  find_mapped : {Y : Type 0} (p : Y → Bool) (f : X → Y) (xs : List X) (x : X) → find (λ x. p (f x)) xs ≡ Some x → find p (map f xs) ≡ Some (f x)
  find_mapped p f [] x found = absurd (cc (found))
  find_mapped p f (y ∷ ys) x found = at (p (f y)) found (find_mapped p f ys x)
    where
      at : (b : Bool) → cond b (Some y) (find (λ x. p (f x)) ys) ≡ Some x → (find (λ x. p (f x)) ys ≡ Some x → find p (map f ys) ≡ Some (f x))
          → cond b (Some (f y)) (find p (map f ys)) ≡ Some (f x)
      at true found rest = let same : y ≡ x = cc (found) in ap (λ x. Some (f x)) same
      at false found rest = rest found

  -- a search of what passes one test for what passes another
  find_filtered : (p r : X → Bool) (xs : List X) → find p (filter r xs) ≡ find (λ x. r x && p x) xs
  find_filtered p r [] = refl
  find_filtered p r (x ∷ xs) = at (r x) (find_filtered p r xs)
    where
      at : (b : Bool) → find p (filter r xs) ≡ find (λ x. r x && p x) xs
          → find p (cond b (x ∷ filter r xs) (filter r xs)) ≡ cond (b && p x) (Some x) (find (λ x. r x && p x) xs)
      at true same = ap (cond (p x) (Some x)) same
      at false same = same

  -- behind those that fail, one that passes is found
  find_behind : (p : X → Bool) (before : List X) (x : X) (after : List X) → AllByRecursion (λ x. p x ≡ false) before → p x ≡ true
      → find p (before ++ x ∷ after) ≡ Some x
  find_behind p [] x after fails passes = ap (λ b. cond b (Some x) (find p after)) passes
  find_behind p (y ∷ ys) x after fails passes =
      ap (λ b. cond b (Some y) (find p (ys ++ x ∷ after))) fails.0 ∙ find_behind p ys x after fails.1 passes

-- ---- the order

no_switch : (table : Table) → CannotSwitch table → find (is_open table) (switches table) ≡ None
no_switch table none =
    find_none (is_open table) (switches table)
    (each_map Switch (λ step. is_open table step ≡ false) (numbers table.settings.cores)
    (All-weaker (λ core. core < table.settings.cores) (λ core. is_open table (Switch core) ≡ false) none (numbers table.settings.cores)
    (numbers_below table.settings.cores)))

pub switches_come_first : (table : Table) (waiting : List WaitingCall) (core : ℕ) → core < table.settings.cores → is_open table (Switch core) ≡ true
    → ((less : ℕ) → less < core → is_open table (Switch less) ≡ false) → quiet_step table waiting ≡ Some (Switch core)
unfolding quiet_step
switches_come_first table waiting core below free none =
    let found = find_least (λ core. is_open table (Switch core)) 0 table.settings.cores core (omega arith) (omega (arith, below)) free none in
    ap (λ a. option_or a (option_or (find (is_open table) (finishes table)) (find (is_timely table) (map (on_its_core table) waiting))))
    (find_mapped (is_open table) Switch (numbers table.settings.cores) core found)

-- the core has a user task that can finish a call
abbrev finishes_on : Table → ℕ → Bool
finishes_on table core = runs_user_task table core && is_open table (finish_on table core)

none_finishes : (table : Table) (core : ℕ) → CannotFinishOn table core → finishes_on table core ≡ false
none_finishes table core none = at (runs_user_task table core) refl
  where
    at : (b : Bool) → runs_user_task table core ≡ b → (b && is_open table (finish_on table core)) ≡ false
    at true user = none (current table.control core) (grind (arith, nat_tests, user))
    at false idle = refl

no_finish : (table : Table) → ((core : ℕ) → core < table.settings.cores → CannotFinishOn table core) → find (is_open table) (finishes table) ≡ None
no_finish table none =
    let cores = filter (runs_user_task table) (numbers table.settings.cores) in
    find_none (is_open table) (finishes table)
    (each_map (finish_on table) (λ step. is_open table step ≡ false) cores
    (closed (numbers table.settings.cores) (numbers_below table.settings.cores)))
  where
    closed : (cores : List ℕ) → AllByRecursion (λ core. core < table.settings.cores) cores
        → AllByRecursion (λ core. is_open table (finish_on table core) ≡ false) (filter (runs_user_task table) cores)
    closed [] all = tt
    closed (core ∷ cores) all = at (runs_user_task table core) refl (closed cores all.1)
      where
        at : (b : Bool) → runs_user_task table core ≡ b
            → AllByRecursion (λ core. is_open table (finish_on table core) ≡ false) (filter (runs_user_task table) cores)
            → AllByRecursion (λ core. is_open table (finish_on table core) ≡ false)
            (cond b (core ∷ filter (runs_user_task table) cores) (filter (runs_user_task table) cores))
        at true user rest = (none core all.0 (current table.control core) (grind (arith, nat_tests, user)), rest)
        at false idle rest = rest

-- the task of a `finish` that is open is the core's current one
runs_here : (table : Table) (core task : ℕ) → is_open table (steps.Call core task Finish) ≡ true → current table.control core ≡ task
runs_here table core task free = elim (cases_eq (current table.control core) task) [
  | inl same ↦ same
  | inr other ↦ absurd (cc (free, closed_elsewhere table core task Finish (grind (arith, nat_tests, other))))
]

pub finishes_come_next : (table : Table) (waiting : List WaitingCall) (core task : ℕ) → core < table.settings.cores → table.settings.cores ≤ task
    → is_open table (steps.Call core task Finish) ≡ true → CannotSwitch table → ((less : ℕ) → less < core → CannotFinishOn table less)
    → quiet_step table waiting ≡ Some (steps.Call core task Finish)
unfolding quiet_step
finishes_come_next table waiting core task below user free none less =
    let same = runs_here table core task free in
    let runs : runs_user_task table core ≡ true = grind (arith, nat_tests, user, same) in
    let ends : is_open table (finish_on table core) ≡ true = subst (λ task. is_open table (steps.Call core task Finish) ≡ true) (sym same) free in
    let here : finishes_on table core ≡ true = ap (λ b. b && is_open table (finish_on table core)) runs ∙ ends in
    let found =
    find_least (finishes_on table) 0 table.settings.cores core (omega arith) (omega (arith, below)) here
    (λ other low. none_finishes table other (less other low)) in
    let first = find_mapped (is_open table) (finish_on table) (filter (runs_user_task table) (numbers table.settings.cores)) core
    (find_filtered (λ core. is_open table (finish_on table core)) (runs_user_task table) (numbers table.settings.cores) ∙ found) in
    ap (λ a. option_or a (option_or (find (is_open table) (finishes table)) (find (is_timely table) (map (on_its_core table) waiting)))) (no_switch table none)
    ∙ ap (λ b. option_or b (find (is_timely table) (map (on_its_core table) waiting))) first
    ∙ ap (λ task. Some (steps.Call core task Finish)) same

pub calls_come_last : (table : Table) (before after : List WaitingCall) (waits : WaitingCall) (core : ℕ) → IsSound table → is_finish waits.call ≡ false
    → core < table.settings.cores → is_timely table (steps.Call core waits.task waits.call) ≡ true → CannotSwitch table
    → ((other : ℕ) → other < table.settings.cores → CannotFinishOn table other) → All (CannotCall table) before
    → quiet_step table (before ++ waits ∷ after) ≡ Some (steps.Call core waits.task waits.call)
unfolding quiet_step
calls_come_last table before after waits core sound begins below timely none no_end early =
    let same : current table.control core ≡ waits.task = grind (arith, nat_tests, timely_runs table core waits.task waits.call begins timely) in
    let here : core_running table waits.task ≡ core = subst (λ task. core_running table task ≡ core) same (runs_core table core sound below) in
    let passes : is_timely table (on_its_core table waits) ≡ true
    = subst (λ core. is_timely table (steps.Call core waits.task waits.call) ≡ true) (sym here) timely in
    let fails = All-weaker (CannotCall table) (λ other. is_timely table (on_its_core table other) ≡ false)
    (λ other none. none (core_running table other.task) (running_below table other.task sound)) before (recursion_from_All (CannotCall table) before early) in
    let found = find_mapped (is_timely table) (on_its_core table) (before ++ waits ∷ after) waits
    (find_behind (λ other. is_timely table (on_its_core table other)) before waits after fails passes) in
    ap
    (λ a. option_or a (option_or (find (is_open table) (finishes table)) (find (is_timely table) (map (on_its_core table) (before ++ waits ∷ after)))))
    (no_switch table none)
    ∙ ap (λ b. option_or b (find (is_timely table) (map (on_its_core table) (before ++ waits ∷ after)))) (no_finish table no_end)
    ∙ found ∙ ap (λ core. Some (steps.Call core waits.task waits.call)) here
