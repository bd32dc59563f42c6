-- Which due call is found.
use Rattle.std.proofs.Common.{◌≡◌, ◌≢◌, ℕ, zero, suc, ◌+◌, ◌<◌, ◌≤◌, Bool, true, false, cond, eqb, List, [], ◌∷◌, length, map, Option, Some, None, refl, sym, ap, subst, ◌∙◌, inl, inr, arith}
use Rattle.std.specs.Prelude.{◌⊎◌, option_and_then, option_map, slice_index}
use Rattle.std.specs.List.{cons_option, filter, filter_map, find, range_with_len}
use Rattle.std.specs.Option.{option_or}
use Rattle.std.proofs.lemmas.Bool.{cases_eq, cases_lt}
use Rattle.std.proofs.lemmas.Bool.Decides.{nat_tests}
use Rattle.std.proofs.lemmas.Option.{slice_get-get_or, slice_get_past}
use Rattle.std.proofs.lemmas.List.Elements.{All-get_or}
use Rattle.bench_types.specs.declared.step.Call.{Call}
use Rattle.bench_types.specs.declared.step.Step.{Step}
use Rattle.bench_types.specs.declared.step.Step.TheVariants as steps
use Rattle.bench_model.specs.Control.{current}
use Rattle.bench_model.specs.Sound.{IsSound}
use Rattle.bench_model.specs.Table.{Table}
use Rattle.list_orders.specs.Search.{numbers}
use Rattle.settled_runs.specs.declared.waiting_call.WaitingCall.{WaitingCall}
use Rattle.settled_runs.specs.Settled.{core_running, is_timely, on_its_core}
use Rattle.settled_runs.proofs.Rests.{running_below, runs_core}
use Rattle.settled_runs.proofs.Timely.{timely_runs}
use Rattle.kept_runs.specs.declared.works.Unmade.{Unmade}
use Rattle.kept_runs.specs.declared.call_order.CallOrder.TheVariants.{LeastCore}
use Rattle.kept_runs.specs.Rule.{Progress, as_waiting, call_of_core, firsts, has_worked, in_order, is_before_time}
use Rattle.keeping.specs.declared.works.Works.{Works}
use Rattle.keeping.specs.Queues.{call_at}
use Rattle.keeping.specs.Works.{clock_at, due_on, first_of, is_worked_for, timely_on, worked_calls, AreFit, HoldsWorks, IsUnmade}
use Rattle.keeping.proofs.Rows.{firsts_are, is_first, own_task}

-- ---- the first that something comes of

abbrev pub first_some : {X Y : Type 0} → (X → Option Y) → List X → Option Y
first_some r [] = None
first_some r (x ∷ xs) = option_or (r x) (first_some r xs)

-- the item, where it passes
abbrev pub passing : {Y : Type 0} → (Y → Bool) → Y → Option Y
passing p y = cond (p y) (Some y) None

pub found_some : {Y : Type 0} (r : ℕ → Option Y) (n i k : ℕ) (y : Y) → i ≤ k → k < i + n → r k ≡ Some y
    → ((j : ℕ) → i ≤ j → j < k → r j ≡ None) → first_some r (range_with_len i n) ≡ Some y
found_some r zero i k y low high is before = absurd (omega (arith, low, high))
found_some r (suc n) i k y low high is before = elim (cases_eq i k) [
  | inl here ↦ ap (λ o. option_or o (first_some r (range_with_len (i + 1) n))) (ap r here ∙ is)
  | inr away ↦
      ap (λ o. option_or o (first_some r (range_with_len (i + 1) n))) (before i (omega arith) (omega (arith, low, away)))
      ∙ found_some r n (i + 1) k y (omega (arith, low, away)) (omega (arith, high)) is (λ j past early. before j (omega (arith, past)) early)
]

pub none_some : {Y : Type 0} (r : ℕ → Option Y) (n i : ℕ) → ((j : ℕ) → i ≤ j → j < i + n → r j ≡ None) → first_some r (range_with_len i n) ≡ None
none_some r zero i none = refl
none_some r (suc n) i none =
    ap (λ o. option_or o (first_some r (range_with_len (i + 1) n))) (none i (omega arith) (omega arith))
    ∙ none_some r n (i + 1) (λ j past low. none j (omega (arith, past)) (omega (arith, low)))

some_mapped : {X Y Z : Type 0} (r : Y → Option Z) (f : X → Y) (xs : List X) → first_some r (map f xs) ≡ first_some (λ x. r (f x)) xs
some_mapped r f [] = refl
some_mapped r f (x ∷ xs) = ap (option_or (r (f x))) (some_mapped r f xs)

some_kept : {X Z : Type 0} (r : X → Option Z) (q : X → Bool) (xs : List X) → first_some r (filter q xs) ≡ first_some (λ x. cond (q x) (r x) None) xs
some_kept r q [] = refl
some_kept {X} {Z} r q (x ∷ xs) = at (q x) (some_kept r q xs)
  where
    at : (b : Bool) → first_some r (filter q xs) ≡ first_some (λ x. cond (q x) (r x) None) xs
        → first_some r (cond b (x ∷ filter q xs) (filter q xs)) ≡ option_or (cond b (r x) None) (first_some (λ x. cond (q x) (r x) None) xs)
    at true rest = ap (option_or (r x)) rest
    at false rest = rest

-- a search among what comes of items
pub find_some : {X Y : Type 0} (p : Y → Bool) (f : X → Option Y) (xs : List X) → find p (filter_map f xs) ≡ first_some (λ x. option_and_then (passing p) (f x)) xs
find_some p f [] = refl
find_some {X} {Y} p f (x ∷ xs) = at (f x) (find_some p f xs)
  where
    at : (o : Option Y) → find p (filter_map f xs) ≡ first_some (λ x. option_and_then (passing p) (f x)) xs
        → find p (cons_option o (filter_map f xs)) ≡ option_or (option_and_then (passing p) o) (first_some (λ x. option_and_then (passing p) (f x)) xs)
    at None rest = rest
    at (Some y) rest = which (p y) rest
      where
        which : (b : Bool) → find p (filter_map f xs) ≡ first_some (λ x. option_and_then (passing p) (f x)) xs
            → cond b (Some y) (find p (filter_map f xs)) ≡ option_or (cond b (Some y) None) (first_some (λ x. option_and_then (passing p) (f x)) xs)
        which true rest = refl
        which false rest = rest

-- the same of what they are mapped to
abbrev pub passing_as : {Y Z : Type 0} → (Y → Z) → (Z → Bool) → Y → Option Z
passing_as g p y = cond (p (g y)) (Some (g y)) None

pub find_mapped : {X Y Z : Type 0} (p : Z → Bool) (g : Y → Z) (f : X → Option Y) (xs : List X)
    → find p (map g (filter_map f xs)) ≡ first_some (λ x. option_and_then (passing_as g p) (f x)) xs
find_mapped p g f [] = refl
find_mapped {X} {Y} {Z} p g f (x ∷ xs) = at (f x) (find_mapped p g f xs)
  where
    at : (o : Option Y) → find p (map g (filter_map f xs)) ≡ first_some (λ x. option_and_then (passing_as g p) (f x)) xs
        → find p (map g (cons_option o (filter_map f xs)))
        ≡ option_or (option_and_then (passing_as g p) o) (first_some (λ x. option_and_then (passing_as g p) (f x)) xs)
    at None rest = rest
    at (Some y) rest = which (p (g y)) rest
      where
        which : (b : Bool) → find p (map g (filter_map f xs)) ≡ first_some (λ x. option_and_then (passing_as g p) (f x)) xs
            → cond b (Some (g y)) (find p (map g (filter_map f xs)))
            ≡ option_or (cond b (Some (g y)) None) (first_some (λ x. option_and_then (passing_as g p) (f x)) xs)
        which true rest = refl
        which false rest = rest

pub some_same : {X Y : Type 0} (r s : X → Option Y) (xs : List X) → ((x : X) → r x ≡ s x) → first_some r xs ≡ first_some s xs
some_same r s xs same = λ i. first_some (λ x. same x i) xs

-- ---- the search

-- the search for the first call, or end, of which something comes went over so many cores: it found
-- the one at this index, none where that is the number of calls
pub record IsSearched {Y : Type 0} (table : Table) (works : Works) (comes : ℕ → Option Y) (cores first : ℕ) (found : Option Y) : Type 0 where
  pub within : first ≤ length works.calls.items
  pub none : first ≡ length works.calls.items → found ≡ None
  pub some :
      first < length works.calls.items →
      (core : ℕ) × (core < table.settings.cores) × (slice_index works.queues.heads.items (current table.control core) ≡ first)
      × (found ≡ comes core) × ((y : Y) × (found ≡ Some y))
  pub others : (core : ℕ) → core < cores → slice_index works.queues.heads.items (current table.control core) < first → comes core ≡ None

pub search_begins : {Y : Type 0} (table : Table) (works : Works) (comes : ℕ → Option Y) (first : ℕ) → first ≡ length works.calls.items
    → IsSearched table works comes 0 first None
search_begins table works comes first all = record {
  within = omega (arith, all);
  none = λ same. refl;
  some = λ low. absurd (omega (arith, all, low));
  others = λ core low. absurd (omega (arith, low));
}

pub search_passes : {Y : Type 0} (table : Table) (works : Works) (comes : ℕ → Option Y) (core first : ℕ) (found : Option Y)
    → IsSearched table works comes core first found
    → (first ≤ slice_index works.queues.heads.items (current table.control core)) ⊎ (comes core ≡ None)
    → IsSearched table works comes (core + 1) first found
search_passes table works comes core first found searched why = record {
  within = searched.within;
  none = searched.none;
  some = searched.some;
  others = λ other low early. elim (cases_eq other core) [
    | inl same ↦ ap comes same ∙ at why (subst (λ core. slice_index works.queues.heads.items (current table.control core) < first) same early)
    | inr away ↦ searched.others other (omega (arith, low, away)) early
  ];
}
  where
    at : (first ≤ slice_index works.queues.heads.items (current table.control core)) ⊎ (comes core ≡ None)
        → slice_index works.queues.heads.items (current table.control core) < first → comes core ≡ None
    at (inl behind) early = absurd (omega (arith, behind, early))
    at (inr none) early = none

pub search_finds : {Y : Type 0} (table : Table) (works : Works) (comes : ℕ → Option Y) (core first : ℕ) (found : Option Y) (y : Y) → core < table.settings.cores
    → IsSearched table works comes core first found → slice_index works.queues.heads.items (current table.control core) < first
    → comes core ≡ Some y
    → IsSearched table works comes (core + 1) (slice_index works.queues.heads.items (current table.control core)) (Some y)
search_finds table works comes core first found y below searched early is = record {
  within = omega (arith, early, searched.within);
  none = λ same. absurd (omega (arith, same, early, searched.within));
  some = λ low. (core, below, refl, sym is, (y, refl));
  others = λ other low before. elim (cases_eq other core) [
    | inl same ↦ absurd (omega (arith, ap (λ core. slice_index works.queues.heads.items (current table.control core)) same, before))
    | inr away ↦ searched.others other (omega (arith, low, away)) (omega (arith, before, early))
  ];
}

pub moved :
    {Y : Type 0} (table : Table) (works : Works) (comes : ℕ → Option Y) (cores first place : ℕ) (found y : Option Y) → first ≡ place → found ≡ y
    → IsSearched table works comes cores place y → IsSearched table works comes cores first found
moved table works comes cores first place found y same like searched =
    subst (λ first. IsSearched table works comes cores first found) (sym same)
    (subst (λ found. IsSearched table works comes cores place found) (sym like) searched)

-- What is found is the first that something comes of, where on each core the same comes of it, and it
-- is at the head of some core's task.
module _ {Y : Type 0} (table : Table) (works : Works) (comes made : ℕ → Option Y)
    (there : (core : ℕ) → core < table.settings.cores
    → slice_index works.queues.heads.items (current table.control core) < length works.calls.items
    → comes core ≡ made (slice_index works.queues.heads.items (current table.control core)))
    (owned : (index : ℕ) (y : Y) → index < length works.calls.items → made index ≡ Some y
    → (core : ℕ) × (core < table.settings.cores) × (slice_index works.queues.heads.items (current table.control core) ≡ index))
    (cores first : ℕ) (found : Option Y) (all : cores ≡ table.settings.cores) (searched : IsSearched table works comes cores first found) where
  -- nothing comes of any before it
  none_before : (index : ℕ) → index < first → made index ≡ None
  none_before index low = which (made index) refl
    where
      which : (o : Option Y) → made index ≡ o → made index ≡ None
      which None none = none
      which (Some y) some =
          let below : index < length works.calls.items = omega (arith, low, searched.within) in
          let own = owned index y below some in
          let none = searched.others own.0 (omega (arith, own.1, all)) (omega (arith, own.2, low)) in
          ap made (sym own.2) ∙ sym (there own.0 own.1 (omega (arith, own.2, below))) ∙ none

  pub search_found : found ≡ first_some made (range_with_len 0 (length works.calls.items))
  search_found = elim (cases_lt first (length works.calls.items)) [
    | inl low ↦
        let some = searched.some low in
        let it : made first ≡ Some some.4.0
        = ap made (sym some.2) ∙ sym (there some.0 some.1 (omega (arith, some.2, low))) ∙ sym some.3 ∙ some.4.1 in
        some.4.1
        ∙ sym (found_some made (length works.calls.items) 0 first some.4.0 (omega arith) (omega (arith, low)) it (λ j past early. none_before j early))
    | inr high ↦
        let same : first ≡ length works.calls.items = omega (arith, high, searched.within) in
        searched.none same
        ∙ sym (none_some made (length works.calls.items) 0 (λ j past early. none_before j (omega (arith, early, same))))
  ]

-- ---- what is found

module _ (works : Works) (now : Progress) (sound : IsSound now.table) (fit : AreFit now.table.settings works) (holds : HoldsWorks works now) (timed : Bool)
    (timely : timed ≡ is_before_time now) where
  abbrev heads : List ℕ
  heads = works.queues.heads.items

  abbrev calls : List Unmade
  calls = works.calls.items

  abbrev table : Table
  table = now.table

  pub checked_at : (index : ℕ) → index < length calls → IsUnmade table.settings (call_at calls index)
  checked_at index below = All-get_or (IsUnmade table.settings) calls index _ below fit.checked

  pub callers : (index : ℕ) → index < length calls → (call_at calls index).task < table.settings.tasks
  callers index below = (checked_at index below).task

  pub running_task : (core : ℕ) → core < table.settings.cores → current table.control core < table.settings.tasks
  running_task core below = let sized = sound.consistent.sized in
      omega (arith, sized.rows, sound.consistent.in_place.is_task core (omega (arith, sized.cores, below)))

  pub worked_as : (one : Unmade) → one.task < table.settings.tasks → is_worked_for (clock_at works.worked.items one.task) timed one ≡ has_worked now one
  unfolding has_worked
  worked_as one low = let same = holds.worked one.task (omega (arith, low, fit.worked_each)) in λ i. is_worked_for (same i) (timely i) one

  -- the step that a first call comes to
  abbrev step_as : WaitingCall → Option Step
  step_as waits = passing_as (on_its_core table) (is_timely table) waits

  abbrev due_of : Unmade → Option Step
  due_of one = cond (has_worked now one) (option_and_then step_as (as_waiting one)) None

  abbrev due_at : ℕ → Option Step
  due_at index = cond (is_first heads calls index) (due_of (call_at calls index)) None

  pub first_calls : firsts now.unmade ≡ map (call_at calls) (filter (is_first heads calls) (range_with_len 0 (length calls)))
  first_calls = ap firsts (sym holds.unmade) ∙ firsts_are calls table.settings.tasks heads works.queues.next.items fit.rows callers

  -- something that comes of first calls, by their indices
  pub by_index : {Z : Type 0} (r : Unmade → Option Z)
      → first_some r (firsts now.unmade) ≡ first_some (λ index. cond (is_first heads calls index) (r (call_at calls index)) None) (range_with_len 0 (length calls))
  by_index r =
      ap (first_some r) first_calls ∙ some_mapped r (call_at calls) (filter (is_first heads calls) (range_with_len 0 (length calls)))
      ∙ some_kept (λ index. r (call_at calls index)) (is_first heads calls) (range_with_len 0 (length calls))

  pub oldest_is : find (is_timely table) (map (on_its_core table) (worked_calls now)) ≡ first_some due_at (range_with_len 0 (length calls))
  oldest_is =
      find_mapped (is_timely table) (on_its_core table) as_waiting (filter (has_worked now) (firsts now.unmade))
      ∙ some_kept (λ one. option_and_then step_as (as_waiting one)) (has_worked now) (firsts now.unmade)
      ∙ by_index due_of

  -- the call at the head of a core's task
  module _ (core : ℕ) (below : core < table.settings.cores) where
    abbrev task : ℕ
    task = current table.control core

    module _ (some : slice_index heads task < length calls) where
      abbrev one : Unmade
      one = call_at calls (slice_index heads task)

      pub its_task : one.task ≡ task
      its_task = own_task calls table.settings.tasks heads works.queues.next.items fit.rows callers task (slice_index heads task) (running_task core below) refl some

      pub at_head : is_first heads calls (slice_index heads task) ≡ true
      at_head = let same = ap (slice_index heads) its_task in grind (arith, nat_tests, same)

      pub first_there : first_of works task ≡ Some one
      first_there = slice_get-get_or calls (slice_index heads task) _ some

      pub runs_there : core_running table one.task ≡ core
      runs_there = ap (core_running table) its_task ∙ runs_core table core sound below

      timely_as : timely_on table core one ≡ option_and_then step_as (as_waiting one)
      timely_as = at one.call
        where
          at : (o : Option Call)
              → option_and_then (λ call. cond (is_timely table (steps.Call core one.task call)) (Some (steps.Call core one.task call)) None) o
              ≡ option_and_then step_as (option_map (λ call. record { task = one.task; call = call }) o)
          at None = refl
          at (Some call) =
              ap (λ core. cond (is_timely table (steps.Call core one.task call)) (Some (steps.Call core one.task call)) None) (sym runs_there)

      pub due_is : due_on table works timed core ≡ due_at (slice_index heads task)
      due_is =
          ap (option_and_then (λ one. cond (is_worked_for (clock_at works.worked.items one.task) timed one) (timely_on table core one) None)) first_there
          ∙ (λ i. cond (worked_as one (callers (slice_index heads task) some) i) (timely_as i) None)
          ∙ ap (λ b. cond b (due_of one) None) (sym at_head)

    pub none_there : length calls ≤ slice_index heads task → due_on table works timed core ≡ None
    none_there past =
        ap (option_and_then (λ one. cond (is_worked_for (clock_at works.worked.items one.task) timed one) (timely_on table core one) None))
        (slice_get_past calls (slice_index heads task) past)

  -- a call that can be made
  record IsDueAt (index : ℕ) : Type 0 where
    own : is_first heads calls index ≡ true
    call : Call
    is : (call_at calls index).call ≡ Some call
    can : is_timely table (on_its_core table (record { task = (call_at calls index).task; call = call })) ≡ true

  due_parts : (index : ℕ) (step : Step) → due_at index ≡ Some step → IsDueAt index
  due_parts index step found = at (is_first heads calls index) refl (has_worked now (call_at calls index)) (call_at calls index).call refl found
    where
      which : (own : is_first heads calls index ≡ true) (call : Call) (is : (call_at calls index).call ≡ Some call) (b : Bool)
          → is_timely table (on_its_core table (record { task = (call_at calls index).task; call = call })) ≡ b
          → cond b (Some (on_its_core table (record { task = (call_at calls index).task; call = call }))) None ≡ Some step → IsDueAt index
      which own call is false early found = absurd (cc found)
      which own call is true can found = record { own = own; call = call; is = is; can = can }

      at : (first_one : Bool) → is_first heads calls index ≡ first_one → (worked : Bool) (o : Option Call) → (call_at calls index).call ≡ o
          → cond first_one (cond worked (option_and_then step_as (option_map (λ call. record { task = (call_at calls index).task; call = call }) o)) None) None
          ≡ Some step → IsDueAt index
      at false other worked o is found = absurd (cc found)
      at true own false o is found = absurd (cc found)
      at true own true None is found = absurd (cc found)
      at true own true (Some call) is found =
          which own call is (is_timely table (on_its_core table (record { task = (call_at calls index).task; call = call }))) refl found

  -- a call that can be made is at the head of some core's task
  due_owned : (index : ℕ) (step : Step) → index < length calls → due_at index ≡ Some step
      → (core : ℕ) × (core < table.settings.cores) × (slice_index heads (current table.control core) ≡ index)
  due_owned index step low found =
      let due = due_parts index step found in
      let core = core_running table (call_at calls index).task in
      let test = timely_runs table core (call_at calls index).task due.call ((checked_at index low).begins due.call due.is) due.can in
      let runs : current table.control core ≡ (call_at calls index).task = grind (arith, nat_tests, test) in
      let own = due.own in
      let head : slice_index heads (call_at calls index).task ≡ index = grind (arith, nat_tests, own) in
      (core, running_below table (call_at calls index).task sound, ap (slice_index heads) runs ∙ head)

  pub search_ends : (cores first : ℕ) (found : Option Step) → cores ≡ table.settings.cores
      → IsSearched table works (due_on table works timed) cores first found
      → found ≡ find (is_timely table) (map (on_its_core table) (worked_calls now))
  search_ends cores first found all searched =
      search_found table works (due_on table works timed) due_at (λ core below some. due_is core below some) due_owned cores first found all searched
      ∙ sym oldest_is

  -- ---- the call of a core

  module _ (core : ℕ) (below : core < table.settings.cores) where
    abbrev own_call : WaitingCall → Bool
    own_call waits = eqb waits.task (current table.control core)

    abbrev call_of : Unmade → Option WaitingCall
    call_of one = cond (has_worked now one) (option_and_then (passing own_call) (as_waiting one)) None

    abbrev call_there : ℕ → Option WaitingCall
    call_there index = cond (is_first heads calls index) (call_of (call_at calls index)) None

    call_is : call_of_core table (worked_calls now) core ≡ first_some call_there (range_with_len 0 (length calls))
    call_is =
        find_some own_call as_waiting (filter (has_worked now) (firsts now.unmade))
        ∙ some_kept (λ one. option_and_then (passing own_call) (as_waiting one)) (has_worked now) (firsts now.unmade)
        ∙ by_index call_of

    abbrev head : ℕ
    head = slice_index heads (current table.control core)

    not_own : (one : Unmade) → eqb one.task (current table.control core) ≡ false → option_and_then (passing own_call) (as_waiting one) ≡ None
    not_own one other = at one.call
      where
        at : (o : Option Call) → option_and_then (passing own_call) (option_map (λ call. record { task = one.task; call = call }) o) ≡ None
        at None = refl
        at (Some call) = ap (λ b. cond b (Some (record { task = one.task; call = call })) None) other

    elsewhere : (index : ℕ) → index ≢ head → call_there index ≡ None
    elsewhere index away = at (is_first heads calls index) refl (has_worked now (call_at calls index))
      where
        at : (first_one : Bool) → is_first heads calls index ≡ first_one → (worked : Bool)
            → cond first_one (cond worked (option_and_then (passing own_call) (as_waiting (call_at calls index))) None) None ≡ None
        at false other worked = refl
        at true own false = refl
        at true own true = not_own (call_at calls index) (elim (cases_eq (call_at calls index).task (current table.control core)) [
          | inl same ↦
              absurd (let there = ap (slice_index heads) same in
              let here : slice_index heads (call_at calls index).task ≡ index = grind (arith, nat_tests, own) in
              away (sym here ∙ there))
          | inr other ↦ grind (arith, nat_tests, other)
        ])

    found_one : (o : Option WaitingCall) → call_there head ≡ o → head < length calls → first_some call_there (range_with_len 0 (length calls)) ≡ o
    found_one None none some =
        none_some call_there (length calls) 0 (λ index past low. elim (cases_eq index head) [
          | inl same ↦ ap call_there same ∙ none
          | inr away ↦ elsewhere index away
        ])
    found_one (Some waits) is some =
        found_some call_there (length calls) 0 head waits (omega arith) (omega (arith, some)) is
        (λ index past early. elsewhere index (λ same. absurd (omega (arith, same, early))))

    -- made from there it is the due one
    made_there : head < length calls → option_and_then step_as (call_there head) ≡ due_at head
    made_there some = at (is_first heads calls head) (has_worked now (call_at calls head))
      where
        test : eqb (call_at calls head).task (current table.control core) ≡ true
        test = let same = its_task core below some in grind (arith, nat_tests, same)

        own : (o : Option Call)
            → option_and_then step_as (option_and_then (passing own_call) (option_map (λ call. record { task = (call_at calls head).task; call = call }) o))
            ≡ option_and_then step_as (option_map (λ call. record { task = (call_at calls head).task; call = call }) o)
        own None = refl
        own (Some call) =
            ap (λ b. option_and_then step_as (cond b (Some (record { task = (call_at calls head).task; call = call })) None)) test

        at : (first_one worked : Bool)
            → option_and_then step_as (cond first_one (cond worked (option_and_then (passing own_call) (as_waiting (call_at calls head))) None) None)
            ≡ cond first_one (cond worked (option_and_then step_as (as_waiting (call_at calls head))) None) None
        at false worked = refl
        at true false = refl
        at true true = own (call_at calls head).call

    pub core_call : option_and_then step_as (call_of_core table (worked_calls now) core) ≡ due_on table works timed core
    core_call = elim (cases_lt head (length calls)) [
      | inl some ↦
          ap (option_and_then step_as) (call_is ∙ found_one (call_there head) refl some) ∙ made_there some ∙ sym (due_is core below some)
      | inr past ↦
          ap (option_and_then step_as)
          (call_is ∙ none_some call_there (length calls) 0 (λ index behind low. elsewhere index (λ same. absurd (omega (arith, same, past, low)))))
          ∙ sym (none_there core below past)
    ]

  core_calls : (n i : ℕ) → i + n ≡ table.settings.cores
      → first_some (λ core. option_and_then step_as (call_of_core table (worked_calls now) core)) (range_with_len i n)
      ≡ first_some (due_on table works timed) (range_with_len i n)
  core_calls zero i all = refl
  core_calls (suc n) i all =
      let here = core_call i (omega (arith, all)) in
      let rest = core_calls n (i + 1) (omega (arith, all)) in
      λ j. option_or (here j) (rest j)

  pub least_core_is :
      find (is_timely table) (map (on_its_core table) (in_order LeastCore table (worked_calls now)))
      ≡ first_some (due_on table works timed) (range_with_len 0 table.settings.cores)
  least_core_is =
      find_mapped (is_timely table) (on_its_core table) (call_of_core table (worked_calls now)) (numbers table.settings.cores)
      ∙ core_calls table.settings.cores 0 (omega arith)

  pub least_core_finds : (core : ℕ) (step : Step) → core < table.settings.cores → due_on table works timed core ≡ Some step
      → ((less : ℕ) → less < core → due_on table works timed less ≡ None)
      → Some step ≡ find (is_timely table) (map (on_its_core table) (in_order LeastCore table (worked_calls now)))
  least_core_finds core step below is others =
      sym (found_some (due_on table works timed) table.settings.cores 0 core step (omega arith) (omega (arith, below)) is (λ less past early. others less early))
      ∙ sym least_core_is

  pub least_core_none : ((less : ℕ) → less < table.settings.cores → due_on table works timed less ≡ None)
      → None ≡ find (is_timely table) (map (on_its_core table) (in_order LeastCore table (worked_calls now)))
  least_core_none others =
      sym (none_some (due_on table works timed) table.settings.cores 0 (λ less past low. others less (omega (arith, low)))) ∙ sym least_core_is
