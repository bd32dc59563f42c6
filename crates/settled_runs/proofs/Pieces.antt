-- What a piece of quiet work is: a switch, a `finish`, or a waiting call.
use Rattle.std.proofs.Common.{◌≡◌, ℕ, suc, ◌<◌, ◌≤◌, Bool, true, false, cond, eqb, List, [], ◌∷◌, ◌++◌, length, map, Option, Some, None, refl, sym, ap, subst}
use Rattle.std.proofs.Common.{◌∙◌, inl, inr, arith}
use Rattle.std.specs.Prelude.{◌⊎◌}
use Rattle.std.specs.List.{find, filter, AllByRecursion}
use Rattle.std.specs.Option.{option_or}
use Rattle.std.proofs.lemmas.Bool.{cases_eq}
use Rattle.std.proofs.lemmas.Bool.Decides.{nat_tests}
use Rattle.bench_types.specs.declared.step.Step.{Step}
use Rattle.bench_types.specs.declared.step.Step.TheVariants.{Switch}
use Rattle.bench_types.specs.declared.step.Step.TheVariants as steps
use Rattle.bench_types.specs.declared.step.Call.{Call}
use Rattle.list_orders.proofs.Filters.{All-filter, All-filter_passes, All-weaker}
use Rattle.list_orders.proofs.Stamped.{numbers_below}
use Rattle.list_orders.specs.Search.{numbers}
use Rattle.bench_model.specs.Control.{current}
use Rattle.bench_model.specs.Table.{Table}
use Rattle.settled_runs.specs.declared.waiting_call.WaitingCall.{WaitingCall}
use Rattle.settled_runs.specs.Settled.{is_open, is_timely, is_finish, switches, finish_on, runs_user_task, finishes, core_running, on_its_core, quiet_step}
use Rattle.settled_runs.specs.Settled.{without_first}
use Rattle.settled_runs.specs.SettleLaws.{waiting_of}
use Rattle.settled_runs.proofs.Timely.{timely_same}

-- ---- searches

module _ {X : Type 0} (p : X → Bool) where
  pub find_passes : (xs : List X) (x : X) → find p xs ≡ Some x → p x ≡ true
  find_passes [] x found = absurd (cc (found))
  find_passes (y ∷ ys) x found = at (p y) refl found (find_passes ys x)
    where
      at : (b : Bool) → p y ≡ b → cond b (Some y) (find p ys) ≡ Some x → (find p ys ≡ Some x → p x ≡ true) → p x ≡ true
      at true passes found rest = cc (passes, found)
      at false fails found rest = rest found

  pub find_among : (P : X → Type 0) (xs : List X) (x : X) → AllByRecursion P xs → find p xs ≡ Some x → P x
  find_among P [] x all found = absurd (cc (found))
  find_among P (y ∷ ys) x all found = at (p y) found (find_among P ys x all.1)
    where
      at : (b : Bool) → cond b (Some y) (find p ys) ≡ Some x → (find p ys ≡ Some x → P x) → P x
      at true found rest = let same : y ≡ x = cc (found) in subst P same all.0
      at false found rest = rest found

  pub find_fails : (xs : List X) → find p xs ≡ None → AllByRecursion (λ x. p x ≡ false) xs
  find_fails [] none = tt
  find_fails (y ∷ ys) none = at (p y) refl none (find_fails ys)
    where
      at : (b : Bool) → p y ≡ b → cond b (Some y) (find p ys) ≡ None → (find p ys ≡ None → AllByRecursion (λ x. p x ≡ false) ys) → (p y ≡ false)
          × AllByRecursion (λ x. p x ≡ false) ys
      at true passes none rest = absurd (cc (none))
      at false fails none rest = (fails, rest none)

pub each_map : {X Y : Type 0} (f : X → Y) (P : Y → Type 0) (xs : List X) → AllByRecursion (λ x. P (f x)) xs → AllByRecursion P (map f xs)
each_map f P [] all = tt
each_map f P (x ∷ xs) all = (all.0, each_map f P xs all.1)

pub each_unmap : {X Y : Type 0} (f : X → Y) (P : Y → Type 0) (xs : List X) → AllByRecursion P (map f xs) → AllByRecursion (λ x. P (f x)) xs
each_unmap f P [] all = tt
each_unmap f P (x ∷ xs) all = (all.0, each_unmap f P xs all.1)

pub both_each : {X : Type 0} (P Q : X → Type 0) (xs : List X) → AllByRecursion P xs → AllByRecursion Q xs → AllByRecursion (λ x. P x × Q x) xs
both_each P Q [] one other = tt
both_each P Q (x ∷ xs) one other = ((one.0, other.0), both_each P Q xs one.1 other.1)

-- ---- what a piece is

pub record SwitchMade (table : Table) (step : Step) : Type 0 where
  pub core : ℕ
  pub below : core < table.settings.cores
  pub is : step ≡ Switch core
  pub free : is_open table step ≡ true
  -- whatever waits
  pub always : (waiting : List WaitingCall) → quiet_step table waiting ≡ Some step

pub record FinishMade (table : Table) (step : Step) : Type 0 where
  pub core : ℕ
  pub below : core < table.settings.cores
  pub user : table.settings.cores ≤ current table.control core
  pub is : step ≡ finish_on table core
  pub free : is_open table step ≡ true
  pub always : (waiting : List WaitingCall) → quiet_step table waiting ≡ Some step

-- the call that was found, which is the first of its task, with what remains
record IsFound (P : WaitingCall → Type 0) (table : Table) (waiting : List WaitingCall) (step : Step) : Type 0 where
  waits : WaitingCall
  is : step ≡ on_its_core table waits
  may : P waits
  begins : is_finish waits.call ≡ false
  timely : is_timely table step ≡ true
  calls : (task : ℕ) → waiting_of task waiting ≡ waiting_of task (waits ∷ []) ++ waiting_of task (without_first waits.task waiting)
  fewer : suc (length (without_first waits.task waiting)) ≡ length waiting

pub record CallMade (P : WaitingCall → Type 0) (table : Table) (waiting : List WaitingCall) (step : Step) : Type 0 where
  pub waits : WaitingCall
  pub is : step ≡ on_its_core table waits
  pub may : P waits
  pub begins : is_finish waits.call ≡ false
  pub timely : is_timely table step ≡ true
  pub calls : (task : ℕ) → waiting_of task waiting ≡ waiting_of task (waits ∷ []) ++ waiting_of task (without_first waits.task waiting)
  pub fewer : suc (length (without_first waits.task waiting)) ≡ length waiting
  -- nothing could be made but a call, and it could be made were it the only one
  pub quiet : quiet_step table [] ≡ None
  pub alone : quiet_step table (waits ∷ []) ≡ Some step

here : (a : Bool) (x : Call) (all : List Call) → cond a (x ∷ []) [] ++ all ≡ (cond a (x ∷ []) [] ++ []) ++ all
here true x all = refl
here false x all = refl

-- one of another task is passed
past : (a b : Bool) (x y : Call) (all rest : List Call) → (a ≡ true → b ≡ true → ⊥) → all ≡ (cond b (y ∷ []) [] ++ []) ++ rest
    → cond a (x ∷ []) [] ++ all ≡ (cond b (y ∷ []) [] ++ []) ++ (cond a (x ∷ []) [] ++ rest)
past true true x y all rest apart same = absurd (apart refl refl)
past true false x y all rest apart same = ap (λ (calls : List Call). x ∷ calls) same
past false b x y all rest apart same = same

module _ (P : WaitingCall → Type 0) (begin : (waits : WaitingCall) → P waits → is_finish waits.call ≡ false) (table : Table) (step : Step) where
  found_first : (first : WaitingCall) (waiting : List WaitingCall) → P first → is_timely table (on_its_core table first) ≡ true → on_its_core table first ≡ step
      → IsFound P table (first ∷ waiting) step
  found_first first waiting may timely same = record {
    waits = first;
    is = sym same;
    may = may;
    begins = begin first may;
    timely = subst (λ step. is_timely table step ≡ true) same timely;
    calls = λ task.
        here (eqb first.task task) first.call (waiting_of task waiting)
        ∙ ap (λ own. waiting_of task (first ∷ []) ++ waiting_of task (cond own waiting (first ∷ without_first first.task waiting))) (sym own);
    fewer = ap (λ own. suc (length (cond own waiting (first ∷ without_first first.task waiting)))) own;
  }
    where
      own : eqb first.task first.task ≡ true
      own = grind (arith, nat_tests)

  found_later : (first : WaitingCall) (waiting : List WaitingCall) → P first → is_timely table (on_its_core table first) ≡ false → IsFound P table waiting step
      → IsFound P table (first ∷ waiting) step
  found_later first waiting may early found = record {
    waits = found.waits;
    is = found.is;
    may = found.may;
    begins = found.begins;
    timely = found.timely;
    calls = λ task.
        past (eqb first.task task) (eqb found.waits.task task) first.call found.waits.call _ _ (λ a b. apart (grind (arith, nat_tests, a, b)))
        (found.calls task)
        ∙ ap (λ own. waiting_of task (found.waits ∷ []) ++ waiting_of task (cond own waiting (first ∷ without_first found.waits.task waiting))) (sym away);
    fewer = ap (λ own. suc (length (cond own waiting (first ∷ without_first found.waits.task waiting)))) away ∙ ap suc found.fewer;
  }
    where
      apart : first.task ≡ found.waits.task → ⊥
      apart same =
          let here : is_timely table (on_its_core table found.waits) ≡ true = subst (λ step. is_timely table step ≡ true) found.is found.timely in
          let there : is_timely table (steps.Call (core_running table first.task) first.task found.waits.call) ≡ true
          = subst (λ task. is_timely table (steps.Call (core_running table task) task found.waits.call) ≡ true) (sym same) here in
          cc (early, there, timely_same table (core_running table first.task) first.task first.call found.waits.call (begin first may) found.begins)

      away : eqb first.task found.waits.task ≡ false
      away = elim (cases_eq first.task found.waits.task) [ inl same ↦ absurd (apart same) | inr other ↦ grind (arith, nat_tests, other) ]

  found_call : (waiting : List WaitingCall) → AllByRecursion P waiting → find (is_timely table) (map (on_its_core table) waiting) ≡ Some step
      → IsFound P table waiting step
  found_call [] all found = absurd (cc (found))
  found_call (first ∷ waiting) all found = at (is_timely table (on_its_core table first)) refl found (found_call waiting all.1)
    where
      at :
          (b : Bool) → is_timely table (on_its_core table first) ≡ b
          → cond b (Some (on_its_core table first)) (find (is_timely table) (map (on_its_core table) waiting)) ≡ Some step
          → (find (is_timely table) (map (on_its_core table) waiting) ≡ Some step → IsFound P table waiting step) → IsFound P table (first ∷ waiting) step
      at true timely found rest = let same : on_its_core table first ≡ step = cc (found) in found_first first waiting all.0 timely same
      at false early found rest = found_later first waiting all.0 early (rest found)

-- ---- the searches of quiet work

is_switch : Table → Step → Type 0
is_switch table step = (core : ℕ) × (core < table.settings.cores) × (step ≡ Switch core)

is_end : Table → Step → Type 0
is_end table step = (core : ℕ) × (core < table.settings.cores) × (table.settings.cores ≤ current table.control core) × (step ≡ finish_on table core)

all_switches : (table : Table) → AllByRecursion (is_switch table) (switches table)
unfolding is_switch
all_switches table =
    each_map Switch (is_switch table) (numbers table.settings.cores)
    (All-weaker (λ core. core < table.settings.cores) (λ core. is_switch table (Switch core)) (λ core below. (core, below, refl)) (numbers table.settings.cores)
    (numbers_below table.settings.cores))

all_ends : (table : Table) → AllByRecursion (is_end table) (finishes table)
unfolding is_end
all_ends table =
    let cores = filter (runs_user_task table) (numbers table.settings.cores) in
    let Below : ℕ → Type 0 = λ core. core < table.settings.cores in
    let Runs : ℕ → Type 0 = λ core. runs_user_task table core ≡ true in
    each_map (finish_on table) (is_end table) cores
    (All-weaker (λ core. Below core × Runs core) (λ core. is_end table (finish_on table core))
    (λ core both. (core, both.0, grind (arith, nat_tests, both.1), refl)) cores
    (both_each Below Runs cores (All-filter Below (runs_user_task table) (numbers table.settings.cores) (numbers_below table.settings.cores))
    (All-filter_passes (runs_user_task table) (numbers table.settings.cores))))

abbrev pub IsPiece : (WaitingCall → Type 0) → Table → List WaitingCall → Step → Type 0
IsPiece P table waiting step = SwitchMade table step ⊎ FinishMade table step ⊎ CallMade P table waiting step

module _ (P : WaitingCall → Type 0) (begin : (waits : WaitingCall) → P waits → is_finish waits.call ≡ false) (table : Table) (waiting : List WaitingCall)
    (step : Step) where
  pub piece_of : AllByRecursion P waiting → quiet_step table waiting ≡ Some step → IsPiece P table waiting step
  unfolding quiet_step is_switch is_end
  piece_of all made =
      at (find (is_open table) (switches table)) refl (find (is_open table) (finishes table)) refl (find (is_timely table) (map (on_its_core table) waiting))
      refl made
    where
      at :
          (a : Option Step) → find (is_open table) (switches table) ≡ a → (b : Option Step) → find (is_open table) (finishes table) ≡ b
          → (c : Option Step) → find (is_timely table) (map (on_its_core table) waiting) ≡ c → option_or a (option_or b c) ≡ Some step
          → IsPiece P table waiting step
      at (Some it) first b second c third made =
          let same : find (is_open table) (switches table) ≡ Some step = first ∙ made in
          let which = find_among (is_open table) (is_switch table) (switches table) step (all_switches table) same in
          inl (record {
            core = which.0;
            below = which.1;
            is = which.2;
            free = find_passes (is_open table) (switches table) step same;
            always = λ others. ap
                (λ a. option_or a (option_or (find (is_open table) (finishes table)) (find (is_timely table) (map (on_its_core table) others)))) same;
          })
      at None first (Some it) second c third made =
          let same : find (is_open table) (finishes table) ≡ Some step = second ∙ made in
          let which = find_among (is_open table) (is_end table) (finishes table) step (all_ends table) same in
          inr (inl (record {
            core = which.0;
            below = which.1;
            user = which.2;
            is = which.3;
            free = find_passes (is_open table) (finishes table) step same;
            always = λ others.
                ap (λ a. option_or a (option_or (find (is_open table) (finishes table)) (find (is_timely table) (map (on_its_core table) others)))) first
                ∙ ap (λ b. option_or b (find (is_timely table) (map (on_its_core table) others))) same;
          }))
      at None first None second c third made =
          let found = found_call P begin table step waiting all (third ∙ made) in
          let only = λ (others : List WaitingCall).
          ap (λ a. option_or a (option_or (find (is_open table) (finishes table)) (find (is_timely table) (map (on_its_core table) others)))) first
          ∙ ap (λ b. option_or b (find (is_timely table) (map (on_its_core table) others))) second in
          let one : is_timely table (on_its_core table found.waits) ≡ true = subst (λ step. is_timely table step ≡ true) found.is found.timely in
          inr (inr (record {
            waits = found.waits;
            is = found.is;
            may = found.may;
            begins = found.begins;
            timely = found.timely;
            calls = found.calls;
            fewer = found.fewer;
            quiet = only [];
            alone = only (found.waits ∷ []) ∙ ap (λ b. cond b (Some (on_its_core table found.waits)) None) one ∙ ap Some (sym found.is);
          }))

-- there is no piece: each search finds none
pub none_found : (table : Table) (waiting : List WaitingCall) → quiet_step table waiting ≡ None → (find (is_open table) (switches table) ≡ None)
    × (find (is_open table) (finishes table) ≡ None) × (find (is_timely table) (map (on_its_core table) waiting) ≡ None)
unfolding quiet_step
none_found table waiting none =
    at (find (is_open table) (switches table)) (find (is_open table) (finishes table)) (find (is_timely table) (map (on_its_core table) waiting)) none
  where
    at : (a b c : Option Step) → option_or a (option_or b c) ≡ None → (a ≡ None) × (b ≡ None) × (c ≡ None)
    at (Some it) b c none = absurd (cc (none))
    at None (Some it) c none = absurd (cc (none))
    at None None c none = (refl, refl, none)

-- so there is none either where nothing waits
pub none_alone : (table : Table) (waiting : List WaitingCall) → quiet_step table waiting ≡ None → quiet_step table [] ≡ None
unfolding quiet_step
none_alone table waiting none =
    let all = none_found table waiting none in
    ap (λ a. option_or a (option_or (find (is_open table) (finishes table)) None)) all.0 ∙ ap (λ b. option_or b None) all.1

-- what holds of all that wait does so of what waits without one
pub without_all : (P : WaitingCall → Type 0) (task : ℕ) (waiting : List WaitingCall) → AllByRecursion P waiting → AllByRecursion P (without_first task waiting)
without_all P task [] all = tt
without_all P task (waits ∷ waiting) all =
    elim (eqb waits.task task) as (λ b. AllByRecursion P (cond b waiting (waits ∷ without_first task waiting)))
    [ true ↦ all.1 | false ↦ (all.0, without_all P task waiting all.1) ]
