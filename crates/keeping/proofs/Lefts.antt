-- The least of what tasks have left to work; the calls that are left.
use Rattle.std.proofs.Common.{◌≡◌, ◌≢◌, ℕ, zero, suc, ◌+◌, ◌-◌, ◌<◌, ◌≤◌, Bool, true, false, cond, ltb, List, [], ◌∷◌, ◌++◌, length, map, min, Option, Some, None, refl, sym, ap, subst, ◌∙◌, inl, inr, arith}
use Rattle.std.specs.Prelude.{◌⊎◌, Contains, option_to_list, slice_index}
use Rattle.std.specs.List.{cons_option, filter, filter_map, fold, range_with_len, AllByRecursion}
use Rattle.std.specs.Option.{option_map_or}
use Rattle.std.proofs.lemmas.Bool.{cases_eq, cases_lt}
use Rattle.std.proofs.lemmas.Bool.Decides.{nat_tests}
use Rattle.std.proofs.lemmas.List.{map-append}
use Rattle.std.proofs.lemmas.List.Elements.{filter-append, filter_map-append}
use Rattle.std.proofs.lemmas.Option.{slice_get_past}
use Rattle.bench_types.specs.declared.step.Call.TheVariants.{Yield}
use Rattle.bench_types.specs.declared.step.Step.TheVariants as steps
use Rattle.list_orders.specs.Search.{numbers}
use Rattle.list_orders.proofs.Stamped.{numbers_more}
use Rattle.bench_model.specs.Control.{current}
use Rattle.bench_model.specs.Sound.{IsSound}
use Rattle.bench_model.specs.Table.{Table}
use Rattle.settled_runs.specs.declared.waiting_call.WaitingCall.{WaitingCall}
use Rattle.settled_runs.specs.Settled.{core_running, is_timely}
use Rattle.settled_runs.proofs.Rests.{running_below}
use Rattle.settled_runs.proofs.Timely.{timely_runs}
use Rattle.workload_runs.specs.Rule.{least}
use Rattle.workload_runs.proofs.Searches.{least_below, least_over}
use Rattle.kept_runs.specs.declared.works.Unmade.{Unmade}
use Rattle.kept_runs.proofs.Dues.{contains_filter}
use Rattle.kept_runs.proofs.Firsts.{contains_later}
use Rattle.kept_runs.specs.Rule.{Progress, as_waiting, can_call, firsts, is_before_time, works_left}
use Rattle.keeping.specs.declared.works.Works.{Works}
use Rattle.keeping.specs.Queues.{call_at, is_unmade, unmade_in}
use Rattle.keeping.specs.Works.{can_call_on, clock_at, left_on, waiting_at, AreFit, HoldsWorks}
use Rattle.keeping.proofs.Dues.{at_head, callers, first_calls, first_there, runs_there}
use Rattle.keeping.proofs.Rows.{all_picked, is_first}

-- ---- the least of numbers that are more than 0

-- the least so far of what is left on cores, where a number of them was looked at
pub record IsLeast (table : Table) (works : Works) (bound cores least : ℕ) : Type 0 where
  pub within : least ≤ bound
  pub one : (least ≡ bound) ⊎ ((core : ℕ) × (core < table.settings.cores) × (left_on table works core ≡ least) × (0 < least))
  pub others : (core : ℕ) → core < cores → (left_on table works core ≡ 0) ⊎ (least ≤ left_on table works core)

pub least_begins : (table : Table) (works : Works) (bound : ℕ) → IsLeast table works bound 0 bound
least_begins table works bound = record { within = omega arith; one = inl refl; others = λ core low. absurd (omega (arith, low)) }

pub least_passes : (table : Table) (works : Works) (bound core least : ℕ) → IsLeast table works bound core least → left_on table works core ≡ 0
    → IsLeast table works bound (core + 1) least
least_passes table works bound core least before none = record {
  within = before.within;
  one = before.one;
  others = λ other low. elim (cases_eq other core) [
    | inl same ↦ inl (ap (left_on table works) same ∙ none)
    | inr away ↦ before.others other (omega (arith, low, away))
  ];
}

pub least_takes : (table : Table) (works : Works) (bound core least : ℕ) → core < table.settings.cores → IsLeast table works bound core least
    → left_on table works core ≢ 0 → IsLeast table works bound (core + 1) (min least (left_on table works core))
least_takes table works bound core least below before some = record {
  within = let within = before.within in omega (arith, within);
  one = elim (cases_lt (left_on table works core) least) [
    | inl less ↦ inr (core, below, omega (arith, less), omega (arith, less, some))
    | inr more ↦
        let same : min least (left_on table works core) ≡ least = omega (arith, more) in
        subst (λ least. (least ≡ bound) ⊎ ((core : ℕ) × (core < table.settings.cores) × (left_on table works core ≡ least) × (0 < least))) (sym same) before.one
  ];
  others = λ other low. elim (cases_eq other core) [
    | inl same ↦ inr (let there = ap (left_on table works) same in omega (arith, there))
    | inr away ↦ at other (before.others other (omega (arith, low, away)))
  ];
}
  where
    at : (other : ℕ) → (left_on table works other ≡ 0) ⊎ (least ≤ left_on table works other)
        → (left_on table works other ≡ 0) ⊎ (min least (left_on table works core) ≤ left_on table works other)
    at other (inl none) = inl none
    at other (inr more) = inr (omega (arith, more))

least_down : (xs : List ℕ) (bound x : ℕ) → Contains xs x → fold min bound xs ≤ x
least_down [] bound x at = absurd (let low = at.1 in omega arith)
least_down (y ∷ xs) bound x (zero, low, same) =
    let here : y ≡ x = same in
    let rest : fold min (min bound y) xs ≤ min bound y = least_below xs (min bound y) in
    omega (arith, rest, here)
least_down (y ∷ xs) bound x (suc place, low, same) = least_down xs (min bound y) x (place, omega (arith, low), same)

contains_map : {X Y : Type 0} (f : X → Y) (xs : List X) (x : X) → Contains xs x → Contains (map f xs) (f x)
contains_map f [] x at = absurd (let low = at.1 in omega arith)
contains_map f (y ∷ xs) x (zero, low, same) = (zero, omega arith, ap f same)
contains_map f (y ∷ xs) x (suc place, low, same) = contains_later (f y) (map f xs) (f x) (contains_map f xs x (place, omega (arith, low), same))

contains_range : (n a k : ℕ) → a ≤ k → k < a + n → Contains (range_with_len a n) k
contains_range zero a k low high = absurd (omega (arith, low, high))
contains_range (suc n) a k low high = elim (cases_eq a k) [
  | inl same ↦ (zero, omega arith, same)
  | inr away ↦ contains_later a (range_with_len (a + 1) n) k (contains_range n (a + 1) k (omega (arith, low, away)) (omega (arith, high)))
]

-- those that are left of items are no less than a number
no_less : {X : Type 0} (can : X → Bool) (left : X → ℕ) (m : ℕ) (xs : List X)
    → AllByRecursion (λ x. can x ≡ true → 0 < left x → m ≤ left x) xs → AllByRecursion (λ x. m ≤ x) (filter (ltb 0) (map left (filter can xs)))
no_less can left m [] all = tt
no_less can left m (x ∷ xs) all = at (can x) refl (ltb 0 (left x)) refl (no_less can left m xs all.1)
  where
    at : (b : Bool) → can x ≡ b → (d : Bool) → ltb 0 (left x) ≡ d → AllByRecursion (λ x. m ≤ x) (filter (ltb 0) (map left (filter can xs)))
        → AllByRecursion (λ x. m ≤ x) (filter (ltb 0) (map left (cond b (x ∷ filter can xs) (filter can xs))))
    at false none d is rest = rest
    at true can_it false none rest =
        subst (λ b. AllByRecursion (λ x. m ≤ x) (cond b (left x ∷ filter (ltb 0) (map left (filter can xs))) (filter (ltb 0) (map left (filter can xs))))) (sym none)
        rest
    at true can_it true some rest =
        subst (λ b. AllByRecursion (λ x. m ≤ x) (cond b (left x ∷ filter (ltb 0) (map left (filter can xs))) (filter (ltb 0) (map left (filter can xs))))) (sym some)
        (all.0 can_it (grind (arith, nat_tests, some)), rest)

module _ (works : Works) (now : Progress) (sound : IsSound now.table) (fit : AreFit now.table.settings works) (holds : HoldsWorks works now) where
  abbrev heads : List ℕ
  heads = works.queues.heads.items

  abbrev calls : List Unmade
  calls = works.calls.items

  abbrev left_now : Unmade → ℕ
  left_now one = one.work.units - (now.worked one.task).units

  abbrev head_on : ℕ → ℕ
  head_on core = slice_index heads (current now.table.control core)

  left_there : (core : ℕ) → core < now.table.settings.cores → head_on core < length calls
      → left_on now.table works core ≡ cond (can_call now.table (call_at calls (head_on core))) (left_now (call_at calls (head_on core))) 0
  left_there core below some =
      let first = first_there works now sound fit holds (is_before_time now) refl core below some in
      let runs = runs_there works now sound fit holds (is_before_time now) refl core below some in
      let low = callers works now sound fit holds (is_before_time now) refl (head_on core) some in
      let worked = holds.worked (call_at calls (head_on core)).task (omega (arith, low, fit.worked_each)) in
      ap (λ o. option_map_or (λ (one : Unmade). cond (can_call_on now.table core one.task) (one.work.units - (clock_at works.worked.items one.task).units) 0) o 0)
      first
      ∙ (λ i. cond (is_timely now.table (steps.Call (sym runs i) (call_at calls (head_on core)).task Yield))
      ((call_at calls (head_on core)).work.units - (worked i).units) 0)

  none_left : (core : ℕ) → length calls ≤ head_on core → left_on now.table works core ≡ 0
  none_left core past =
      ap (λ o. option_map_or (λ (one : Unmade). cond (can_call_on now.table core one.task) (one.work.units - (clock_at works.worked.items one.task).units) 0) o 0)
      (slice_get_past calls (head_on core) past)

  first_among : (core : ℕ) → core < now.table.settings.cores → head_on core < length calls → Contains (firsts now.unmade) (call_at calls (head_on core))
  first_among core below some =
      let own = at_head works now sound fit holds (is_before_time now) refl core below some in
      subst (λ all. Contains all (call_at calls (head_on core))) (sym (first_calls works now sound fit holds (is_before_time now) refl))
      (contains_map (call_at calls) (filter (is_first heads calls) (range_with_len 0 (length calls))) (head_on core)
      (contains_filter (is_first heads calls) (range_with_len 0 (length calls)) (head_on core)
      (contains_range (length calls) 0 (head_on core) (omega arith) (omega (arith, some))) own))

  -- what a core's task has left is among those that count
  left_among : (core : ℕ) → core < now.table.settings.cores → 0 < left_on now.table works core → Contains (works_left now) (left_on now.table works core)
  left_among core below some = elim (cases_lt (head_on core) (length calls)) [
    | inl there ↦ at (can_call now.table (call_at calls (head_on core))) refl there (left_there core below there)
    | inr past ↦ absurd (let none = none_left core past in omega (arith, none, some))
  ]
    where
      at : (b : Bool) → can_call now.table (call_at calls (head_on core)) ≡ b → head_on core < length calls
          → left_on now.table works core ≡ cond b (left_now (call_at calls (head_on core))) 0 → Contains (works_left now) (left_on now.table works core)
      at false none there is = absurd (omega (arith, is, some))
      at true can there is =
          subst (Contains (works_left now)) (sym is)
          (contains_filter (ltb 0) (map left_now (filter (can_call now.table) (firsts now.unmade))) (left_now (call_at calls (head_on core)))
          (contains_map left_now (filter (can_call now.table) (firsts now.unmade)) (call_at calls (head_on core))
          (contains_filter (can_call now.table) (firsts now.unmade) (call_at calls (head_on core)) (first_among core below there) can))
          (let more : 0 < left_now (call_at calls (head_on core)) = omega (arith, is, some) in grind (arith, nat_tests, more)))

  least_low : (bound cores m : ℕ) → IsLeast now.table works bound cores m → least bound (works_left now) ≤ m
  least_low bound cores m is = at is.one
    where
      at : (m ≡ bound) ⊎ ((core : ℕ) × (core < now.table.settings.cores) × (left_on now.table works core ≡ m) × (0 < m)) → least bound (works_left now) ≤ m
      at (inl same) = let low = least_below (works_left now) bound in omega (arith, low, same)
      at (inr one) =
          let there = left_among one.0 one.1 (omega (arith, one.2, one.3)) in
          let down = least_down (works_left now) bound (left_on now.table works one.0) there in
          omega (arith, down, one.2)

  least_high : (bound cores m : ℕ) → cores ≡ now.table.settings.cores → IsLeast now.table works bound cores m → m ≤ least bound (works_left now)
  least_high bound cores m all is =
      least_over (works_left now) bound m is.within
      (no_less (can_call now.table) left_now m (firsts now.unmade)
      (subst (AllByRecursion (λ one. can_call now.table one ≡ true → 0 < left_now one → m ≤ left_now one))
      (sym (first_calls works now sound fit holds (is_before_time now) refl))
      (all_picked (λ one. can_call now.table one ≡ true → 0 < left_now one → m ≤ left_now one) (call_at calls) (is_first heads calls) (length calls) (length calls) 0
      (omega arith) each)))
    where
      each : (index : ℕ) → index < length calls → is_first heads calls index ≡ true → can_call now.table (call_at calls index) ≡ true
          → 0 < left_now (call_at calls index) → m ≤ left_now (call_at calls index)
      each index low own can some =
          let core = core_running now.table (call_at calls index).task in
          let below = running_below now.table (call_at calls index).task sound in
          let test = timely_runs now.table core (call_at calls index).task Yield refl can in
          let runs : current now.table.control core ≡ (call_at calls index).task = grind (arith, nat_tests, test) in
          let head : slice_index heads (call_at calls index).task ≡ index = grind (arith, nat_tests, own) in
          let there : head_on core ≡ index = ap (slice_index heads) runs ∙ head in
          let left : left_on now.table works core ≡ left_now (call_at calls index)
          = left_there core below (omega (arith, there, low))
          ∙ ap (λ index. cond (can_call now.table (call_at calls index)) (left_now (call_at calls index)) 0) there
          ∙ ap (λ b. cond b (left_now (call_at calls index)) 0) can in
          at core left (is.others core (omega (arith, below, all)))
        where
          at : (core : ℕ) → left_on now.table works core ≡ left_now (call_at calls index)
              → (left_on now.table works core ≡ 0) ⊎ (m ≤ left_on now.table works core) → m ≤ left_now (call_at calls index)
          at core left (inl none) = absurd (omega (arith, left, none, some))
          at core left (inr more) = omega (arith, left, more)

  pub least_ends : (bound cores m : ℕ) → cores ≡ now.table.settings.cores → IsLeast now.table works bound cores m → m ≡ least bound (works_left now)
  least_ends bound cores m all is =
      let low = least_low bound cores m is in
      let high = least_high bound cores m all is in
      omega (arith, low, high)

-- ---- the calls that are left

module _ (works : Works) where
  pub left_at : ℕ → List WaitingCall
  left_at n = filter_map as_waiting (map (call_at works.calls.items) (filter (is_unmade works.queues.heads.items works.calls.items) (numbers n)))

  pub left_none : [] ≡ left_at 0
  unfolding left_at
  left_none = refl

  pub left_more : (index : ℕ) (before after : List WaitingCall) (found : Option WaitingCall) → before ≡ left_at index → found ≡ waiting_at works index
      → after ≡ before ++ option_to_list found → after ≡ left_at (index + 1)
  unfolding left_at
  left_more index before after found first known grows =
      let unmade = is_unmade works.queues.heads.items works.calls.items in
      let at_index = call_at works.calls.items in
      grows ∙ (λ i. first i ++ option_to_list (known i)) ∙ ap (λ rest. left_at index ++ rest) (at (unmade index))
      ∙ sym (ap (λ ns. filter_map as_waiting (map at_index (filter unmade ns))) (numbers_more index)
      ∙ ap (λ ns. filter_map as_waiting (map at_index ns)) (filter-append unmade (numbers index) (index ∷ []))
      ∙ ap (filter_map as_waiting) (map-append at_index (filter unmade (numbers index)) (filter unmade (index ∷ [])))
      ∙ filter_map-append as_waiting (map at_index (filter unmade (numbers index))) (map at_index (filter unmade (index ∷ []))))
    where
      of_one : (o : Option WaitingCall) → option_to_list o ≡ cons_option o []
      of_one None = refl
      of_one (Some waits) = refl

      at : (b : Bool) → option_to_list (cond b (as_waiting (call_at works.calls.items index)) None)
          ≡ filter_map as_waiting (map (call_at works.calls.items) (cond b (index ∷ []) []))
      at true = of_one (as_waiting (call_at works.calls.items index))
      at false = refl

  pub left_all : (n : ℕ) (left : List WaitingCall) → left ≡ left_at n → n ≡ length works.calls.items
      → left ≡ filter_map as_waiting (unmade_in works.queues.heads.items works.calls.items)
  unfolding left_at unmade_in
  left_all n left is all =
      is ∙ ap (λ n. filter_map as_waiting (map (call_at works.calls.items) (filter (is_unmade works.queues.heads.items works.calls.items) (numbers n)))) all
