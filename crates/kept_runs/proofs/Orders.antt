-- The oldest due call that can be made comes next, and where there is none a step from outside.
use Rattle.std.proofs.Common.{◌≡◌, ℕ, zero, suc, ◌+◌, ◌<◌, ◌≤◌, Bool, true, false, cond, not, eqb, List, [], ◌∷◌, ◌++◌, map, Option, Some, None, refl, sym, ap, subst, ◌∙◌, inl, inr, arith}
use Rattle.std.specs.Prelude.{All, ◌≢◌, ◌⊎◌, Contains, filter_map, option_map}
use Rattle.std.specs.List.{range_with_len, cons_option, filter, AllByRecursion}
use Rattle.std.specs.Option.{option_or}
use Rattle.std.proofs.lemmas.Bool.Decides.{nat_tests}
use Rattle.std.proofs.lemmas.List.Elements.{filter-append, filter_map-append, recursion_from_All}
use Rattle.bench_types.specs.declared.step.Call.{Call}
use Rattle.list_orders.proofs.Filters.{All-both, All-filter, All-filter_passes, find_none}
use Rattle.settled_runs.specs.declared.waiting_call.WaitingCall.{WaitingCall}
use Rattle.settled_runs.specs.Settled.{core_running, is_finish, is_timely, on_its_core, quiet_step}
use Rattle.settled_runs.proofs.Pieces.{each_map, find_among, find_fails, find_passes}
use Rattle.settled_runs.proofs.Rests.{runs_core}
use Rattle.settled_runs.proofs.Timely.{timely_runs}
use Rattle.bench_types.specs.declared.step.Step.TheVariants as steps
use Rattle.bench_model.specs.Control.{current}
use Rattle.bench_model.specs.Sound.{IsSound}
use Rattle.std.proofs.lemmas.Bool.{cases_eq}
use Rattle.kept_runs.specs.OrderLaws.{HasBegun, LeastCoreCallComesFirst, NoneCanBeMade, OldestCallComesFirst, OutsideComesLast}
use Rattle.kept_runs.specs.Rule.{Progress, as_waiting, call_of_core, due_calls, firsts, has_worked, in_order, is_within_tick, next_step, outside_step}
use Rattle.kept_runs.specs.declared.works.Unmade.{Unmade}
use Rattle.kept_runs.proofs.Agreeing.{due_apart}
use Rattle.kept_runs.proofs.Dues.{found_in, quiet_is}
use Rattle.kept_runs.proofs.Firsts.{all_at, all_mapped, contains_each, contains_later, firsts_all, in_order_all, mapped_contains, waiting_is}

-- ---- the firsts of two parts

-- one of another task than all before it stands behind the firsts of those
record StandsBehind (before behind : List Unmade) (one : Unmade) : Type 0 where
  rest : List Unmade
  are : firsts (before ++ one ∷ behind) ≡ firsts before ++ one ∷ rest

stands_behind : (before behind : List Unmade) (one : Unmade) → AllByRecursion (λ (other : Unmade). other.task ≢ one.task) before
    → StandsBehind before behind one
stands_behind [] behind one others = record { rest = filter (λ (other : Unmade). not (eqb other.task one.task)) (firsts behind); are = refl }
stands_behind (first ∷ before) behind one others =
    let later = stands_behind before behind one others.1 in
    let apart : Unmade → Bool = λ (other : Unmade). not (eqb other.task first.task) in
    let kept : apart one ≡ true = away (eqb one.task first.task) refl in record {
      rest = filter apart later.rest;
      are = ap (λ firsts. first ∷ filter apart firsts) later.are
          ∙ ap (λ rest. first ∷ rest) (filter-append apart (firsts before) (one ∷ later.rest)
          ∙ ap (λ b. filter apart (firsts before) ++ cond b (one ∷ filter apart later.rest) (filter apart later.rest)) kept);
    }
  where
    away : (b : Bool) → eqb one.task first.task ≡ b → not b ≡ true
    away false none = refl
    away true same = absurd (let alike : first.task ≡ one.task = grind (arith, nat_tests, same) in others.0 alike)

-- ---- searches

module _ (now : Progress) where
  abbrev CannotBeMade : WaitingCall → Type 0
  CannotBeMade waits = is_timely now.table (on_its_core now.table waits) ≡ false

  abbrev worked : List Unmade → List WaitingCall
  worked calls = filter_map as_waiting (filter (has_worked now) calls)

  none_of : (calls : List Unmade) → NoneCanBeMade now calls → AllByRecursion CannotBeMade (worked (firsts calls))
  none_of calls none =
      let Among : Unmade → Type 0 = Contains (firsts calls) in
      all_mapped as_waiting (λ one. Among one × (has_worked now one ≡ true)) CannotBeMade early (filter (has_worked now) (firsts calls))
      (All-both Among (λ one. has_worked now one ≡ true) (filter (has_worked now) (firsts calls))
      (All-filter Among (has_worked now) (firsts calls) (contains_each (firsts calls)))
      (All-filter_passes (has_worked now) (firsts calls)))
    where
      early : (one : Unmade) (waits : WaitingCall) → Contains (firsts calls) one × (has_worked now one ≡ true) → as_waiting one ≡ Some waits → CannotBeMade waits
      early one waits both is =
          let it = waiting_is one waits is in
          let same : record { task = one.task; call = waits.call } ≡ waits = λ i. record { task = it.task i; call = waits.call } in
          subst CannotBeMade same (none one waits.call both.0 it.call both.1)

  find_past : (first rest : List WaitingCall) → AllByRecursion CannotBeMade first → found_in now.table (first ++ rest) ≡ found_in now.table rest
  find_past [] rest all = refl
  find_past (waits ∷ first) rest all =
      ap (λ b. cond b (Some (on_its_core now.table waits)) (found_in now.table (first ++ rest))) all.0 ∙ find_past first rest all.1

  due_found : (before behind : List Unmade) (one : Unmade) (call : Call) → now.unmade ≡ before ++ one ∷ behind
      → AllByRecursion (λ (other : Unmade). other.task ≢ one.task) before → one.call ≡ Some call → has_worked now one ≡ true
      → is_timely now.table (on_its_core now.table (record { task = one.task; call = call })) ≡ true → NoneCanBeMade now before
      → found_in now.table (worked (firsts now.unmade)) ≡ Some (on_its_core now.table (record { task = one.task; call = call }))
  due_found before behind one call parts others is enough timely none =
      let stands = stands_behind before behind one others in
      let step = on_its_core now.table (record { task = one.task; call = call }) in
      let rest = worked stands.rest in
      let own : worked (one ∷ stands.rest) ≡ record { task = one.task; call = call } ∷ rest
      = ap (λ b. filter_map as_waiting (cond b (one ∷ filter (has_worked now) stands.rest) (filter (has_worked now) stands.rest))) enough
      ∙ ap (λ o. cons_option (option_map (λ call. record { task = one.task; call = call }) o) rest) is in
      let all : worked (firsts now.unmade) ≡ worked (firsts before) ++ (record { task = one.task; call = call } ∷ rest)
      = ap (λ unmade. worked (firsts unmade)) parts ∙ ap worked stands.are
      ∙ ap (filter_map as_waiting) (filter-append (has_worked now) (firsts before) (one ∷ stands.rest))
      ∙ filter_map-append as_waiting (filter (has_worked now) (firsts before)) (filter (has_worked now) (one ∷ stands.rest))
      ∙ ap (λ calls. worked (firsts before) ++ calls) own in
      ap (found_in now.table) all ∙ find_past (worked (firsts before)) (record { task = one.task; call = call } ∷ rest) (none_of before none)
      ∙ ap (λ b. cond b (Some step) (found_in now.table rest)) timely

-- ---- the order

pub oldest_call_comes_first : OldestCallComesFirst
unfolding next_step
oldest_call_comes_first now before behind one call oldest quiet apart parts others is enough timely none =
    let found = due_found now before behind one call parts (recursion_from_All (λ (other : Unmade). other.task ≢ one.task) before others) is enough timely none in
    ap (λ o. option_or o (outside_step now)) (quiet_is now.table (due_calls now) quiet ∙ ap (found_in now.table) (due_apart now oldest apart) ∙ found)

pub outside_comes_last : OutsideComesLast
unfolding next_step due_calls
outside_comes_last now quiet which = ap (λ o. option_or o (outside_step now)) (none (is_within_tick now) refl which)
  where
    none : (b : Bool) → is_within_tick now ≡ b → (is_within_tick now ≡ true) ⊎ NoneCanBeMade now now.unmade
        → quiet_step now.table (cond (is_within_tick now) [] (in_order now.order now.table (filter_map as_waiting (filter (has_worked now) (firsts now.unmade)))))
        ≡ None
    none true within which =
        ap (λ b. quiet_step now.table (cond b [] (in_order now.order now.table (filter_map as_waiting (filter (has_worked now) (firsts now.unmade)))))) within
        ∙ quiet
    none false apart (inl within) = absurd (cc (apart, within))
    none false apart (inr free) =
        let calls = in_order now.order now.table (filter_map as_waiting (filter (has_worked now) (firsts now.unmade))) in
        ap (λ b. quiet_step now.table (cond b [] calls)) apart ∙ quiet_is now.table calls quiet
        ∙ find_none (is_timely now.table) (map (on_its_core now.table) calls)
        (each_map (on_its_core now.table) (λ step. is_timely now.table step ≡ false) calls
        (in_order_all (CannotBeMade now) now.order now.table (filter_map as_waiting (filter (has_worked now) (firsts now.unmade)))
        (none_of now now.unmade free)))

-- ---- the least core

contains_all : {X : Type 0} (p : X → Bool) (xs : List X) (x : X) → Contains (filter p xs) x → Contains xs x × (p x ≡ true)
contains_all p [] x at = absurd (let low = at.1 in omega arith)
contains_all {X} p (y ∷ xs) x at = which (p y) refl at (contains_all p xs x)
  where
    which : (b : Bool) → p y ≡ b → Contains (cond b (y ∷ filter p xs) (filter p xs)) x → (Contains (filter p xs) x → Contains xs x × (p x ≡ true))
        → Contains (y ∷ xs) x × (p x ≡ true)
    which true passes (zero, low, is) rest = ((zero, omega arith, is), ap p (sym is) ∙ passes)
    which true passes (suc place, low, is) rest =
        let later = rest (place, omega (arith, low), is) in (contains_later y xs x later.0, later.1)
    which false fails at rest = let later = rest at in (contains_later y xs x later.0, later.1)

-- of each task there is one first call
first_is_one : (unmade : List Unmade) (one other : Unmade) → Contains (firsts unmade) one → Contains (firsts unmade) other → one.task ≡ other.task
    → one ≡ other
first_is_one [] one other first second same = absurd (let low = first.1 in omega arith)
first_is_one (head ∷ unmade) one other first second same = at first second (first_is_one unmade one other)
  where
    apart : Unmade → Bool
    apart it = not (eqb it.task head.task)

    alone : (it : Unmade) → not (eqb it.task head.task) ≡ true → it.task ≡ head.task → ⊥
    alone it away alike = let test : eqb it.task head.task ≡ true = grind (arith, nat_tests, alike) in cc (away, ap not test)

    at : Contains (head ∷ filter (λ (it : Unmade). not (eqb it.task head.task)) (firsts unmade)) one
        → Contains (head ∷ filter (λ (it : Unmade). not (eqb it.task head.task)) (firsts unmade)) other
        → (Contains (firsts unmade) one → Contains (firsts unmade) other → one.task ≡ other.task → one ≡ other) → one ≡ other
    at (zero, low, is) (zero, high, are) rest = sym is ∙ are
    at (zero, low, is) (suc place, high, are) rest =
        let later = contains_all (λ (it : Unmade). not (eqb it.task head.task)) (firsts unmade) other (place, omega (arith, high), are) in
        absurd (alone other later.1 (sym same ∙ ap (λ (it : Unmade). it.task) (sym is)))
    at (suc place, low, is) (zero, high, are) rest =
        let later = contains_all (λ (it : Unmade). not (eqb it.task head.task)) (firsts unmade) one (place, omega (arith, low), is) in
        absurd (alone one later.1 (same ∙ ap (λ (it : Unmade). it.task) (sym are)))
    at (suc place, low, is) (suc other_place, high, are) rest =
        let first = contains_all (λ (it : Unmade). not (eqb it.task head.task)) (firsts unmade) one (place, omega (arith, low), is) in
        let second = contains_all (λ (it : Unmade). not (eqb it.task head.task)) (firsts unmade) other (other_place, omega (arith, high), are) in
        rest first.0 second.0 same

-- a waiting call that is due, as the unmade one
record IsDueOne (now : Progress) (waits : WaitingCall) : Type 0 where
  one : Unmade
  is : as_waiting one ≡ Some waits
  among : Contains (firsts now.unmade) one
  enough : has_worked now one ≡ true

module _ (now : Progress) (core : ℕ) (one : Unmade) (call : Call) (sound : IsSound now.table) (begun : All HasBegun now.unmade)
    (below : core < now.table.settings.cores) (among : Contains (firsts now.unmade) one) (is : one.call ≡ Some call) (enough : has_worked now one ≡ true)
    (timely : is_timely now.table (steps.Call core one.task call) ≡ true)
    (lesser : (less : ℕ) (other : Unmade) (made : Call) → less < core → Contains (firsts now.unmade) other → other.call ≡ Some made
    → has_worked now other ≡ true
    → is_timely now.table (steps.Call less other.task made) ≡ false) where
  abbrev due : List WaitingCall
  due = worked now (firsts now.unmade)

  begins : is_finish call ≡ false
  begins = all_at HasBegun (firsts now.unmade) one (firsts_all HasBegun now.unmade (recursion_from_All HasBegun now.unmade begun)) among call is

  runs : current now.table.control core ≡ one.task
  runs = let here = timely_runs now.table core one.task call begins timely in grind (arith, nat_tests, here)

  due_ones : AllByRecursion (IsDueOne now) due
  due_ones =
      let Among : Unmade → Type 0 = Contains (firsts now.unmade) in
      all_mapped as_waiting (λ it. Among it × (has_worked now it ≡ true)) (IsDueOne now)
      (λ it waits both named. record { one = it; is = named; among = both.0; enough = both.1 }) (filter (has_worked now) (firsts now.unmade))
      (All-both Among (λ it. has_worked now it ≡ true) (filter (has_worked now) (firsts now.unmade))
      (All-filter Among (has_worked now) (firsts now.unmade) (contains_each (firsts now.unmade)))
      (All-filter_passes (has_worked now) (firsts now.unmade)))

  -- the call of a core is made there
  made_on : (other : ℕ) → other < now.table.settings.cores → (waits : WaitingCall) → call_of_core now.table due other ≡ Some waits
      → (waits.task ≡ current now.table.control other) × IsDueOne now waits
      × (on_its_core now.table waits ≡ steps.Call other waits.task waits.call)
  made_on other low waits found =
      let test : WaitingCall → Bool = λ (it : WaitingCall). eqb it.task (current now.table.control other) in
      let passes : eqb waits.task (current now.table.control other) ≡ true = find_passes test due waits found in
      let same : waits.task ≡ current now.table.control other = grind (arith, nat_tests, passes) in
      let here : core_running now.table waits.task ≡ other = ap (core_running now.table) same ∙ runs_core now.table other sound low in
      (same, find_among test (IsDueOne now) due waits due_ones found, ap (λ core. steps.Call core waits.task waits.call) here)

  own_found : (o : Option WaitingCall) → call_of_core now.table due core ≡ o → o ≡ Some (record { task = one.task; call = call })
  own_found None none =
      let there = mapped_contains as_waiting (has_worked now) (firsts now.unmade) one (record { task = one.task; call = call }) among enough
      (ap (option_map (λ call. record { task = one.task; call = call })) is) in
      let fails = find_fails (λ (it : WaitingCall). eqb it.task (current now.table.control core)) due none in
      let fail = all_at (λ (it : WaitingCall). eqb it.task (current now.table.control core) ≡ false) due (record { task = one.task; call = call }) fails there in
      let test : eqb one.task (current now.table.control core) ≡ true = let here = runs in grind (arith, nat_tests, here) in
      absurd (cc (fail, test))
  own_found (Some waits) some =
      let made = made_on core below waits some in
      let it = waiting_is made.1.one waits made.1.is in
      let same = first_is_one now.unmade made.1.one one made.1.among among (it.task ∙ made.0 ∙ runs) in
      let task : waits.task ≡ one.task = made.0 ∙ runs in
      let calls : Some waits.call ≡ Some call = sym it.call ∙ ap (λ (it : Unmade). it.call) same ∙ is in
      let one_call : waits.call ≡ call = cc calls in
      λ i. Some (record { task = task i; call = one_call i })

  found_from : (n a : ℕ) → a ≤ core → core < a + n → a + n ≤ now.table.settings.cores
      → found_in now.table (filter_map (call_of_core now.table due) (range_with_len a n)) ≡ Some (steps.Call core one.task call)
  found_from zero a low high all = absurd (omega (arith, low, high))
  found_from (suc n) a low high all = elim (cases_eq a core) [
    | inl same ↦
        let own = own_found (call_of_core now.table due core) refl in
        let here : call_of_core now.table due a ≡ Some (record { task = one.task; call = call }) = ap (call_of_core now.table due) same ∙ own in
        let running : core_running now.table one.task ≡ core = ap (core_running now.table) (sym runs) ∙ runs_core now.table core sound below in
        let step : on_its_core now.table (record { task = one.task; call = call }) ≡ steps.Call core one.task call
        = ap (λ core. steps.Call core one.task call) running in
        ap (λ o. found_in now.table (cons_option o (filter_map (call_of_core now.table due) (range_with_len (a + 1) n)))) here
        ∙ ap (λ b. cond b (Some (on_its_core now.table (record { task = one.task; call = call })))
        (found_in now.table (filter_map (call_of_core now.table due) (range_with_len (a + 1) n)))) (ap (is_timely now.table) step ∙ timely)
        ∙ ap Some step
    | inr other ↦
        past a (omega (arith, low, other)) (omega (arith, all)) (call_of_core now.table due a) refl (filter_map (call_of_core now.table due) (range_with_len (a + 1) n))
        ∙ found_from n (a + 1) (omega (arith, low, other)) (omega (arith, high)) (omega (arith, all))
  ]
    where
      past : (a : ℕ) → a < core → a < now.table.settings.cores → (o : Option WaitingCall) → call_of_core now.table due a ≡ o → (rest : List WaitingCall)
          → found_in now.table (cons_option (call_of_core now.table due a) rest) ≡ found_in now.table rest
      past a less low None none rest = ap (λ o. found_in now.table (cons_option o rest)) none
      past a less low (Some waits) some rest =
          let made = made_on a low waits some in
          let it = waiting_is made.1.one waits made.1.is in
          let early = lesser a made.1.one waits.call less made.1.among it.call made.1.enough in
          let there : is_timely now.table (on_its_core now.table waits) ≡ false
          = ap (is_timely now.table) made.2 ∙ ap (λ task. is_timely now.table (steps.Call a task waits.call)) (sym it.task) ∙ early in
          ap (λ o. found_in now.table (cons_option o rest)) some ∙ ap (λ b. cond b (Some (on_its_core now.table waits)) (found_in now.table rest)) there

pub least_core_call_comes_first : LeastCoreCallComesFirst
unfolding next_step due_calls
least_core_call_comes_first now core one call order sound quiet apart begun below among is enough timely lesser =
    let calls = worked now (firsts now.unmade) in
    let found = found_from now core one call sound begun below among is enough timely lesser now.table.settings.cores 0 (omega arith) (omega (arith, below)) (omega arith) in
    ap (λ o. option_or o (outside_step now))
    (quiet_is now.table (due_calls now) quiet
    ∙ ap (λ b. found_in now.table (cond b [] (in_order now.order now.table calls))) apart
    ∙ ap (λ order. found_in now.table (in_order order now.table calls)) order ∙ found)
