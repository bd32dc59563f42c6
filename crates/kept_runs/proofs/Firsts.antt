-- The first unmade calls of tasks, and the due ones among them.
use Rattle.std.proofs.Common.{◌≡◌, ℕ, zero, suc, Bool, true, false, cond, not, eqb, List, [], ◌∷◌, ◌++◌, Option, Some, None, refl, sym, ap, subst, ◌∙◌, inl, inr, arith}
use Rattle.std.specs.Prelude.{Contains, option_map, filter_map}
use Rattle.std.specs.List.{cons_option, filter, AllByRecursion}
use Rattle.std.proofs.lemmas.Bool.{cases_eq}
use Rattle.std.proofs.lemmas.Bool.Decides.{nat_tests}
use Rattle.bench_types.specs.declared.step.Call.{Call}
use Rattle.list_orders.proofs.Filters.{All-filter, All-filter_passes, All-weaker, All-both}
use Rattle.settled_runs.specs.declared.waiting_call.WaitingCall.{WaitingCall}
use Rattle.settled_runs.specs.Settled.{is_finish}
use Rattle.settled_runs.specs.SettleLaws.{waiting_of}
use Rattle.list_orders.specs.Search.{numbers}
use Rattle.bench_model.specs.Control.{current}
use Rattle.bench_model.specs.Table.{Table}
use Rattle.settled_runs.proofs.Pieces.{find_among}
use Rattle.kept_runs.specs.declared.call_order.CallOrder.{CallOrder}
use Rattle.kept_runs.specs.declared.call_order.CallOrder.TheVariants.{Oldest, LeastCore}
use Rattle.kept_runs.specs.OrderLaws.{HasBegun}
use Rattle.kept_runs.specs.Rule.{Progress, as_waiting, call_of_core, due_calls, firsts, has_worked, in_order, is_within_tick, without_first}
use Rattle.kept_runs.specs.declared.works.Unmade.{Unmade}

-- ---- lists

pub contains_later : {X : Type 0} (y : X) (xs : List X) (x : X) → Contains xs x → Contains (y ∷ xs) x
contains_later y xs x at = (suc at.0, let low = at.1 in omega arith, at.2)

pub contains_each : {X : Type 0} (xs : List X) → AllByRecursion (Contains xs) xs
contains_each [] = tt
contains_each (x ∷ xs) = ((zero, omega arith, refl), All-weaker (Contains xs) (Contains (x ∷ xs)) (contains_later x xs) xs (contains_each xs))

-- what holds of all holds of each that is among them
pub all_at : {X : Type 0} (P : X → Type 0) (xs : List X) (x : X) → AllByRecursion P xs → Contains xs x → P x
all_at P [] x all at = absurd (let low = at.1 in omega arith)
all_at P (y ∷ xs) x all (zero, low, is) = subst P is all.0
all_at P (y ∷ xs) x all (suc place, low, is) = all_at P xs x all.1 (place, omega (arith, low), is)

pub all_mapped :
    {X Y : Type 0} (h : X → Option Y) (P : X → Type 0) (Q : Y → Type 0) → ((x : X) (y : Y) → P x → h x ≡ Some y → Q y) → (xs : List X) → AllByRecursion P xs
    → AllByRecursion Q (filter_map h xs)
all_mapped h P Q goes [] all = tt
all_mapped {X} {Y} h P Q goes (x ∷ xs) all = at (h x) refl (all_mapped h P Q goes xs all.1)
  where
    at : (o : Option Y) → h x ≡ o → AllByRecursion Q (filter_map h xs) → AllByRecursion Q (filter_map h (x ∷ xs))
    at None none rest = rw none rest
    at (Some y) some rest = rw some (goes x y all.0 some, rest)

-- what comes of one that passes is there
pub mapped_contains :
    {X Y : Type 0} (h : X → Option Y) (p : X → Bool) (xs : List X) (x : X) (y : Y) → Contains xs x → p x ≡ true → h x ≡ Some y
    → Contains (filter_map h (filter p xs)) y
mapped_contains h p [] x y at passes is = absurd (let low = at.1 in omega arith)
mapped_contains h p (z ∷ xs) x y (zero, low, same) passes is =
    let here : p z ≡ true = ap p same ∙ passes in
    let gives : h z ≡ Some y = ap h same ∙ is in
    rw here (rw gives (zero, omega arith, refl))
mapped_contains {X} {Y} h p (z ∷ xs) x y (suc place, low, same) passes is =
    at (p z) refl (mapped_contains h p xs x y (place, omega (arith, low), same) passes is)
  where
    at : (b : Bool) → p z ≡ b → Contains (filter_map h (filter p xs)) y → Contains (filter_map h (filter p (z ∷ xs))) y
    at false fails rest = rw fails rest
    at true passes rest = rw passes (more (h z) refl)
      where
        more : (o : Option Y) → h z ≡ o → Contains (filter_map h (z ∷ filter p xs)) y
        more None none = rw none rest
        more (Some other) some = rw some (contains_later other (filter_map h (filter p xs)) y rest)

-- ---- the first of a task

-- none of the task comes before it
pub record IsFirst (unmade : List Unmade) (one : Unmade) : Type 0 where
  pub before : List Unmade
  pub behind : List Unmade
  pub parts : unmade ≡ before ++ one ∷ behind
  pub others : AllByRecursion (λ (other : Unmade). eqb other.task one.task ≡ false) before

pub later_first : (first : Unmade) (unmade : List Unmade) (one : Unmade) → IsFirst unmade one × (not (eqb one.task first.task) ≡ true) → IsFirst (first ∷ unmade) one
later_first first unmade one both = record {
  before = first ∷ both.0.before;
  behind = both.0.behind;
  parts = ap (λ unmade. first ∷ unmade) both.0.parts;
  others = (apart, both.0.others);
}
  where
    apart : eqb first.task one.task ≡ false
    apart = elim (cases_eq first.task one.task) [
      | inl same ↦ absurd (let test : eqb one.task first.task ≡ true = grind (arith, nat_tests, same) in cc (both.1, ap not test))
      | inr other ↦ grind (arith, nat_tests, other)
    ]

pub firsts_are_first : (unmade : List Unmade) → AllByRecursion (IsFirst unmade) (firsts unmade)
firsts_are_first [] = tt
firsts_are_first (first ∷ unmade) =
    let apart : Unmade → Bool = λ (other : Unmade). not (eqb other.task first.task) in (
      record { before = []; behind = unmade; parts = refl; others = tt },
      All-weaker (λ one. IsFirst unmade one × (apart one ≡ true)) (IsFirst (first ∷ unmade)) (later_first first unmade) (filter apart (firsts unmade))
          (All-both (IsFirst unmade) (λ one. apart one ≡ true) (filter apart (firsts unmade))
          (All-filter (IsFirst unmade) apart (firsts unmade) (firsts_are_first unmade))
          (All-filter_passes apart (firsts unmade))),
    )

-- ---- as waiting calls

pub record IsWaiting (one : Unmade) (waits : WaitingCall) : Type 0 where
  pub task : one.task ≡ waits.task
  pub call : one.call ≡ Some waits.call

pub waiting_is : (one : Unmade) (waits : WaitingCall) → as_waiting one ≡ Some waits → IsWaiting one waits
waiting_is one waits is = at one.call refl is
  where
    named : Option Call → Option WaitingCall
    named call = option_map (λ call. record { task = one.task; call = call }) call

    at : (call : Option Call) → one.call ≡ call → option_map (λ call. record { task = one.task; call = call }) call ≡ Some waits → IsWaiting one waits
    at None none is = absurd (cc is)
    at (Some call) some is =
        let same : record { task = one.task; call = call } ≡ waits = cc is in
        record { task = ap (λ (waits : WaitingCall). waits.task) same; call = some ∙ ap (λ (waits : WaitingCall). Some waits.call) same }

-- the calls of a task that wait, without the first one and with it
here : (a : Bool) (x : Call) (all : List Call) → cond a (x ∷ []) [] ++ all ≡ (cond a (x ∷ []) [] ++ []) ++ all
here true x all = refl
here false x all = refl

past : (a b : Bool) (x y : Call) (all rest : List Call) → (a ≡ true → b ≡ true → ⊥) → all ≡ (cond b (y ∷ []) [] ++ []) ++ rest
    → cond a (x ∷ []) [] ++ all ≡ (cond b (y ∷ []) [] ++ []) ++ (cond a (x ∷ []) [] ++ rest)
past true true x y all rest apart same = absurd (apart refl refl)
past true false x y all rest apart same = ap (λ (calls : List Call). x ∷ calls) same
past false b x y all rest apart same = same

abbrev pub waits_in : ℕ → List Unmade → List Call
waits_in task unmade = waiting_of task (filter_map as_waiting unmade)

calls_at :
    (before behind : List Unmade) (one : Unmade) (waits : WaitingCall) (task : ℕ) → as_waiting one ≡ Some waits
    → AllByRecursion (λ (other : Unmade). eqb other.task one.task ≡ false) before
    → waits_in task (before ++ one ∷ behind) ≡ waiting_of task (waits ∷ []) ++ waits_in task (before ++ behind)
calls_at [] behind one waits task is others = rw is (here (eqb waits.task task) waits.call (waits_in task behind))
calls_at (first ∷ before) behind one waits task is others = at (as_waiting first) refl (calls_at before behind one waits task is others.1)
  where
    at : (o : Option WaitingCall) → as_waiting first ≡ o
        → waits_in task (before ++ one ∷ behind) ≡ waiting_of task (waits ∷ []) ++ waits_in task (before ++ behind)
        → waits_in task (first ∷ (before ++ one ∷ behind)) ≡ waiting_of task (waits ∷ []) ++ waits_in task (first ∷ (before ++ behind))
    at None none rest = rw none rest
    at (Some it) some rest =
        let first_is = waiting_is first it some in
        let one_is = waiting_is one waits is in
        let apart : eqb it.task task ≡ true → eqb waits.task task ≡ true → ⊥
        = λ a b. let same : first.task ≡ one.task = grind (arith, nat_tests, a, b, first_is.task, one_is.task) in
        let test : eqb first.task one.task ≡ true = grind (arith, nat_tests, same) in cc (others.0, test) in
        rw some (past (eqb it.task task) (eqb waits.task task) it.call waits.call _ _ apart rest)

pub without_at :
    (before behind : List Unmade) (one : Unmade) (task : ℕ) → one.task ≡ task → AllByRecursion (λ (other : Unmade). eqb other.task one.task ≡ false) before
    → without_first task (before ++ one ∷ behind) ≡ before ++ behind
without_at [] behind one task same others =
    let own : eqb one.task task ≡ true = grind (arith, nat_tests, same) in ap (λ b. cond b behind (one ∷ without_first task behind)) own
without_at (first ∷ before) behind one task same others =
    let away : eqb first.task task ≡ false = subst (λ task. eqb first.task task ≡ false) same others.0 in
    ap (λ b. cond b (before ++ one ∷ behind) (first ∷ without_first task (before ++ one ∷ behind))) away
    ∙ ap (λ unmade. first ∷ unmade) (without_at before behind one task same others.1)

-- when the first call of a task is made, it alone waits no more
pub calls_without :
    (unmade : List Unmade) (one : Unmade) (waits : WaitingCall) → IsFirst unmade one → as_waiting one ≡ Some waits → (task : ℕ)
    → waits_in task unmade ≡ waiting_of task (waits ∷ []) ++ waits_in task (without_first waits.task unmade)
calls_without unmade one waits first is task =
    let rest = without_at first.before first.behind one waits.task (waiting_is one waits is).task first.others in
    ap (waits_in task) first.parts ∙ calls_at first.before first.behind one waits task is first.others
    ∙ ap (λ unmade. waiting_of task (waits ∷ []) ++ waits_in task unmade) (sym rest ∙ ap (without_first waits.task) (sym first.parts))

-- ---- in order

core_calls_all : (P : WaitingCall → Type 0) (table : Table) (calls : List WaitingCall) (cores : List ℕ) → AllByRecursion P calls
    → AllByRecursion P (filter_map (call_of_core table calls) cores)
core_calls_all P table calls [] all = tt
core_calls_all P table calls (core ∷ cores) all = at (call_of_core table calls core) refl (core_calls_all P table calls cores all)
  where
    at : (o : Option WaitingCall) → call_of_core table calls core ≡ o → AllByRecursion P (filter_map (call_of_core table calls) cores)
        → AllByRecursion P (cons_option o (filter_map (call_of_core table calls) cores))
    at None none rest = rest
    at (Some waits) some rest = (find_among (λ (waits : WaitingCall). eqb waits.task (current table.control core)) P calls waits all some, rest)

-- what holds of all calls holds of them in any order
pub in_order_all : (P : WaitingCall → Type 0) (order : CallOrder) (table : Table) (calls : List WaitingCall) → AllByRecursion P calls
    → AllByRecursion P (in_order order table calls)
in_order_all P Oldest table calls all = all
in_order_all P LeastCore table calls all = core_calls_all P table calls (numbers table.settings.cores) all

-- ---- due calls

pub without_first_all : (P : Unmade → Type 0) (task : ℕ) (unmade : List Unmade) → AllByRecursion P unmade → AllByRecursion P (without_first task unmade)
without_first_all P task [] all = tt
without_first_all P task (one ∷ unmade) all =
    elim (eqb one.task task) as (λ b. AllByRecursion P (cond b unmade (one ∷ without_first task unmade)))
    [ true ↦ all.1 | false ↦ (all.0, without_first_all P task unmade all.1) ]

pub firsts_all : (P : Unmade → Type 0) (unmade : List Unmade) → AllByRecursion P unmade → AllByRecursion P (firsts unmade)
firsts_all P [] all = tt
firsts_all P (one ∷ unmade) all =
    (all.0, All-filter P (λ (other : Unmade). not (eqb other.task one.task)) (firsts unmade) (firsts_all P unmade all.1))

-- the first unmade call of its task, for which the task has worked
pub record IsDue (now : Progress) (waits : WaitingCall) : Type 0 where
  pub one : Unmade
  pub is : as_waiting one ≡ Some waits
  pub among : Contains (firsts now.unmade) one
  pub first : IsFirst now.unmade one
  pub worked : has_worked now one ≡ true
  pub begins : is_finish waits.call ≡ false

module _ (now : Progress) (begun : AllByRecursion HasBegun now.unmade) where
  IsReady : Unmade → Type 0
  IsReady one = ((Contains (firsts now.unmade) one × IsFirst now.unmade one) × HasBegun one) × (has_worked now one ≡ true)

  ready : AllByRecursion IsReady (filter (has_worked now) (firsts now.unmade))
  unfolding IsReady
  ready =
      let all = firsts now.unmade in
      let First : Unmade → Type 0 = λ one. Contains all one × IsFirst now.unmade one in
      let Both : Unmade → Type 0 = λ one. First one × HasBegun one in
      All-both Both (λ one. has_worked now one ≡ true) (filter (has_worked now) all)
      (All-filter Both (has_worked now) all
      (All-both First HasBegun all (All-both (Contains all) (IsFirst now.unmade) all (contains_each all) (firsts_are_first now.unmade))
      (firsts_all HasBegun now.unmade begun)))
      (All-filter_passes (has_worked now) all)

  due_of : (one : Unmade) (waits : WaitingCall) → IsReady one → as_waiting one ≡ Some waits → IsDue now waits
  unfolding IsReady
  due_of one waits ready is = record {
    one = one;
    is = is;
    among = ready.0.0.0;
    first = ready.0.0.1;
    worked = ready.1;
    begins = ready.0.1 waits.call (waiting_is one waits is).call;
  }

  pub due_are_due : AllByRecursion (IsDue now) (due_calls now)
  unfolding due_calls
  due_are_due = at (is_within_tick now)
    where
      at : (b : Bool) → AllByRecursion (IsDue now)
          (cond b [] (in_order now.order now.table (filter_map as_waiting (filter (has_worked now) (firsts now.unmade)))))
      at true = tt
      at false = in_order_all (IsDue now) now.order now.table (filter_map as_waiting (filter (has_worked now) (firsts now.unmade)))
          (all_mapped as_waiting IsReady (IsDue now) due_of (filter (has_worked now) (firsts now.unmade)) ready)
