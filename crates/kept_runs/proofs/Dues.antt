-- Which call is found among the due ones.
use Rattle.std.proofs.Common.{◌≡◌, ℕ, zero, suc, Bool, true, false, cond, not, eqb, List, [], ◌∷◌, ◌++◌, map, Option, Some, None, refl, sym, ap, subst, ◌∙◌, arith}
use Rattle.std.specs.Prelude.{Contains, filter_map, fold}
use Rattle.std.specs.List.{filter, find, AllByRecursion}
use Rattle.std.specs.Option.{option_or}
use Rattle.std.proofs.lemmas.Bool.Decides.{nat_tests}
use Rattle.bench_types.specs.declared.step.Step.{Step}
use Rattle.bench_types.specs.declared.step.Step.TheVariants as steps
use Rattle.list_orders.proofs.Filters.{All-weaker}
use Rattle.bench_model.specs.Table.{Table}
use Rattle.settled_runs.specs.declared.waiting_call.WaitingCall.{WaitingCall}
use Rattle.settled_runs.specs.Settled.{core_running, finishes, is_finish, is_open, is_timely, on_its_core, quiet_step}
use Rattle.settled_runs.proofs.Pieces.{find_passes, none_found}
use Rattle.settled_runs.proofs.Settlings.{Begins}
use Rattle.settled_runs.proofs.Timely.{timely_same}
use Rattle.kept_runs.specs.Clocks.{Clocks, elapsed, later_clock}
use Rattle.kept_runs.specs.Rule.{as_waiting, firsts}
use Rattle.kept_runs.specs.declared.works.Unmade.{Unmade}
use Rattle.kept_runs.specs.Works.{Placed, changed_work, with_clock, works_from}
use Rattle.kept_runs.specs.OrderLaws.{HasBegun}
use Rattle.kept_runs.proofs.Firsts.{all_at, contains_later, firsts_all, waiting_is}
use Rattle.kept_runs.proofs.Placings.{waits_of}

-- ---- lists

pub contains_filter : {X : Type 0} (p : X → Bool) (xs : List X) (x : X) → Contains xs x → p x ≡ true → Contains (filter p xs) x
contains_filter p [] x at passes = absurd (let low = at.1 in omega arith)
contains_filter p (y ∷ xs) x (zero, low, same) passes =
    let here : p y ≡ true = ap p same ∙ passes in
    subst (λ b. Contains (cond b (y ∷ filter p xs) (filter p xs)) x) (sym here) (zero, omega arith, same)
contains_filter p (y ∷ xs) x (suc place, low, same) passes = at (p y) (contains_filter p xs x (place, omega (arith, low), same) passes)
  where
    at : (b : Bool) → Contains (filter p xs) x → Contains (cond b (y ∷ filter p xs) (filter p xs)) x
    at true rest = contains_later y (filter p xs) x rest
    at false rest = rest

pub find_among_first : {X : Type 0} (p : X → Bool) (xs ys : List X) (x : X) → find p xs ≡ Some x → find p (xs ++ ys) ≡ Some x
find_among_first p [] ys x found = absurd (cc found)
find_among_first p (y ∷ xs) ys x found = at (p y) found (find_among_first p xs ys x)
  where
    at : (b : Bool) → cond b (Some y) (find p xs) ≡ Some x → (find p xs ≡ Some x → find p (xs ++ ys) ≡ Some x)
        → cond b (Some y) (find p (xs ++ ys)) ≡ Some x
    at true found rest = found
    at false found rest = rest found

-- ---- quiet work

-- where no core switches and none has a `finish` the search among calls decides
pub quiet_is : (table : Table) (waiting : List WaitingCall) → quiet_step table [] ≡ None
    → quiet_step table waiting ≡ find (is_timely table) (map (on_its_core table) waiting)
unfolding quiet_step
quiet_is table waiting none =
    let all = none_found table [] none in
    let third = find (is_timely table) (map (on_its_core table) waiting) in
    ap (λ a. option_or a (option_or (find (is_open table) (finishes table)) third)) all.0 ∙ ap (λ b. option_or b third) all.1

-- ---- the due calls

module _ (table : Table) where
  -- whether a call can be made depends on its task alone
  pub same_task : (one other : WaitingCall) → one.task ≡ other.task → is_finish one.call ≡ false → is_finish other.call ≡ false
      → is_timely table (on_its_core table one) ≡ is_timely table (on_its_core table other)
  same_task one other same first second =
      timely_same table (core_running table one.task) one.task one.call other.call first second
      ∙ ap (λ task. is_timely table (steps.Call (core_running table task) task other.call)) same

  -- a search among calls
  abbrev pub found_in : List WaitingCall → Option Step
  found_in waiting = find (is_timely table) (map (on_its_core table) waiting)

  module _ (q : Unmade → Bool) where
    abbrev passing : List Unmade → List WaitingCall
    passing unmade = filter_map as_waiting (filter q unmade)

    -- those that can't be made are passed over
    skipped : (ne : Unmade → Bool) (unmade : List Unmade)
        → AllByRecursion (λ one. (waits : WaitingCall) → as_waiting one ≡ Some waits → ne one ≡ false → is_timely table (on_its_core table waits) ≡ false) unmade
        → found_in (passing (filter ne unmade)) ≡ found_in (passing unmade)
    skipped ne [] all = refl
    skipped ne (one ∷ unmade) all = at (ne one) refl (q one) refl (as_waiting one) refl (skipped ne unmade all.1)
      where
        at : (a : Bool) → ne one ≡ a → (b : Bool) → q one ≡ b → (o : Option WaitingCall) → as_waiting one ≡ o
            → found_in (passing (filter ne unmade)) ≡ found_in (passing unmade)
            → found_in (passing (filter ne (one ∷ unmade))) ≡ found_in (passing (one ∷ unmade))
        at true keeps true passes None none rest = rw keeps (rw passes (rw none rest))
        at true keeps true passes (Some waits) some rest =
            rw keeps (rw passes (rw some (ap (cond (is_timely table (on_its_core table waits)) (Some (on_its_core table waits))) rest)))
        at true keeps false passes o is rest = rw keeps (rw passes rest)
        at false drops true passes None none rest = rw drops (rw passes (rw none rest))
        at false drops true passes (Some waits) some rest =
            rw drops (rw passes (rw some
            (rest ∙ ap (λ b. cond b (Some (on_its_core table waits)) (found_in (passing unmade))) (sym (all.0 waits some drops)))))
        at false drops false passes o is rest = rw drops (rw passes rest)

    module _ (ends : Clocks) (tasks : List ℕ) where
      -- the first call that can be made is found among those for which tasks have worked, where it is one of them
      pub first_due :
          (placed : List Placed) (last : Clocks) (step : Step) → AllByRecursion Begins (map waits_of placed)
          → AllByRecursion HasBegun (works_from ends last tasks placed)
          → found_in (map waits_of placed) ≡ Some step
          → ((one : Unmade) (waits : WaitingCall) → Contains (firsts (works_from ends last tasks placed)) one → as_waiting one ≡ Some waits
          → on_its_core table waits ≡ step → q one ≡ true)
          → found_in (passing (firsts (works_from ends last tasks placed))) ≡ Some step
      first_due [] last step begins begun found worked = absurd (cc found)
      first_due (first ∷ placed) last step begins begun found worked =
          at (is_timely table (on_its_core table (waits_of first))) refl found
          (first_due placed (with_clock last first.task (later_clock (last first.task) first.clock)) step begins.1 begun.1)
        where
          next : Clocks
          next = with_clock last first.task (later_clock (last first.task) first.clock)

          rest : List Unmade
          rest = works_from ends next tasks placed

          one : Unmade
          one = record { task = first.task; call = Some first.call; work = fold changed_work (elapsed (last first.task) first.clock) first.changes }

          apart : Unmade → Bool
          apart other = not (eqb other.task first.task)

          at : (b : Bool) → is_timely table (on_its_core table (waits_of first)) ≡ b
              → cond b (Some (on_its_core table (waits_of first))) (found_in (map waits_of placed)) ≡ Some step
              → (found_in (map waits_of placed) ≡ Some step
              → ((other : Unmade) (waits : WaitingCall) → Contains (firsts rest) other → as_waiting other ≡ Some waits
              → on_its_core table waits ≡ step → q other ≡ true)
              → found_in (passing (firsts rest)) ≡ Some step)
              → found_in (passing (one ∷ filter apart (firsts rest))) ≡ Some step
          at true timely found later =
              let same : on_its_core table (waits_of first) ≡ step = cc found in
              let passes : q one ≡ true = worked one (waits_of first) (zero, omega arith, refl) refl same in
              rw passes (ap (λ b. cond b (Some (on_its_core table (waits_of first))) (found_in (passing (filter apart (firsts rest))))) timely ∙ ap Some same)
          at false early found later =
              past (q one) ∙ skipped apart (firsts rest) (firsts_all _ rest (All-weaker HasBegun _ none rest begun.1)) ∙ later found among
            where
              past : (b : Bool) → found_in (filter_map as_waiting (cond b (one ∷ filter q (filter apart (firsts rest))) (filter q (filter apart (firsts rest)))))
                  ≡ found_in (passing (filter apart (firsts rest)))
              past true = ap (λ b. cond b (Some (on_its_core table (waits_of first))) (found_in (passing (filter apart (firsts rest))))) early
              past false = refl

              none : (other : Unmade) → HasBegun other → (waits : WaitingCall) → as_waiting other ≡ Some waits → apart other ≡ false
                  → is_timely table (on_its_core table waits) ≡ false
              none other has waits is same =
                  let it = waiting_is other waits is in
                  let alike : waits.task ≡ first.task = let own = it.task in grind (arith, nat_tests, same, own) in
                  same_task waits (waits_of first) alike (has waits.call it.call) begins.0 ∙ early

              among : (other : Unmade) (waits : WaitingCall) → Contains (firsts rest) other → as_waiting other ≡ Some waits → on_its_core table waits ≡ step
                  → q other ≡ true
              among other waits there is same = which (apart other) refl
                where
                  timely : is_timely table (on_its_core table waits) ≡ true
                  timely = ap (is_timely table) same ∙ find_passes (is_timely table) (map (on_its_core table) (map waits_of placed)) step found

                  which : (b : Bool) → apart other ≡ b → q other ≡ true
                  which true away = worked other waits (contains_later one (filter apart (firsts rest)) other (contains_filter apart (firsts rest) other there away)) is same
                  which false alike =
                      let has = all_at HasBegun (firsts rest) other (firsts_all HasBegun rest begun.1) there in
                      absurd (cc (timely, none other has waits is alike))
