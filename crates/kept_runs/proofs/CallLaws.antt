-- Calls are made when their tasks have worked for them, and at once.
use Rattle.std.proofs.Common.{◌≡◌, ℕ, zero, suc, ◌≤◌, Bool, true, false, cond, eqb, List, [], ◌∷◌, length, map, take, Option, Some, None, refl, sym, ap, subst, ◌∙◌, inl, inr, arith}
use Rattle.std.specs.Prelude.{◌⊎◌, Contains, filter_map, option_map, slice_get}
use Rattle.std.specs.List.{cons_option, filter, AllByRecursion}
use Rattle.std.proofs.lemmas.Bool.Decides.{nat_tests}
use Rattle.list_orders.specs.Search.{numbers}
use Rattle.list_orders.proofs.Filters.{All-filter, All-has}
use Rattle.list_orders.proofs.Stamped.{numbers_have}
use Rattle.bench_model.specs.Control.{current}
use Rattle.bench_model.specs.Sound.{IsSound}
use Rattle.bench_model.specs.Table.{Table}
use Rattle.settled_runs.proofs.Rests.{running_below}
use Rattle.settled_runs.proofs.Settlings.{Begins}
use Rattle.settled_runs.proofs.Timely.{timely_runs}
use Rattle.kept_runs.specs.declared.call_order.CallOrder.{CallOrder}
use Rattle.kept_runs.specs.declared.call_order.CallOrder.TheVariants.{Oldest, LeastCore}
use Rattle.kept_runs.proofs.Dues.{same_task}
use Rattle.kept_runs.proofs.Keeping.{first_keeping, keeping_at}
use Rattle.std.specs.Option.{option_or}
use Rattle.std.proofs.lemmas.Option.{slice_get_within}
use Rattle.kept_edits.specs.declared.edit.KeptEdit.{KeptEdit}
use Rattle.bench_types.specs.declared.step.Call.{Call}
use Rattle.bench_types.specs.declared.step.Call.TheVariants.{Finish}
use Rattle.bench_types.specs.declared.step.Step.{Step}
use Rattle.bench_types.specs.declared.step.Step.TheVariants as steps
use Rattle.bench_types.specs.Session.{Session}
use Rattle.settled_runs.specs.declared.waiting_call.WaitingCall.{WaitingCall}
use Rattle.settled_runs.specs.Settled.{core_running, is_finish, is_timely, on_its_core, quiet_step}
use Rattle.settled_runs.specs.SettleLaws.{comes_from_outside}
use Rattle.settled_runs.proofs.Pieces.{each_unmap, find_among, find_fails, find_passes, none_found}
use Rattle.kept_runs.specs.KeptLaws.{CallsAreWorkedFor, CallsComeAtOnce}
use Rattle.kept_runs.specs.Rule.{Progress, after, after_steps, as_waiting, call_of_core, due_calls, first_progress, firsts, has_worked, in_order, next_step, outside_step, progress_at, IsKept, IsRunFrom}
use Rattle.kept_runs.specs.declared.works.Unmade.{Unmade}
use Rattle.kept_runs.specs.OrderLaws.{HasBegun}
use Rattle.kept_runs.proofs.Firsts.{all_at, all_mapped, firsts_all, mapped_contains, waiting_is, IsDue}
use Rattle.kept_runs.proofs.Listed.{first_good}
use Rattle.kept_runs.proofs.Pieces.{from_outside, good_after, origin, quiet_inside, IsFromOutside, IsGood, IsQuiet}

-- ---- places

next_at : (run : List Step) (place : ℕ) (now : Progress) (left : List WaitingCall) → IsRunFrom now run left → place ≤ length run
    → slice_get run place ≡ next_step (after_steps now (take place run))
next_at [] zero now left is within = sym is.0
next_at [] (suc place) now left is within = absurd (omega arith)
next_at (step ∷ run) zero now left is within = sym is.0
next_at (step ∷ run) (suc place) now left is within = next_at run place (after step now) left is.1 (omega arith)

good_along : (made : List Step) (now : Progress) → IsGood now → IsGood (after_steps now made)
good_along [] now good = good
good_along (step ∷ made) now good = good_along made (after step now) (good_after step now good)

module _ (order : CallOrder) (session : Session) (edits : List KeptEdit) (run : List Step) (left : List WaitingCall) (kept : IsKept order session edits run left)
  where
    abbrev there : ℕ → Progress
    there place = progress_at order session edits kept.settled run place

    next_there : (place : ℕ) → place ≤ length run → slice_get run place ≡ next_step (there place)
    unfolding progress_at
    next_there place within = next_at run place (first_progress order session edits kept.settled) left kept.is_run within

    good_there : (place : ℕ) → IsGood (there place)
    unfolding progress_at
    good_there place = good_along (take place run) (first_progress order session edits kept.settled) (first_good order session edits kept.settled)

-- ---- calls that are made

finish_of : (core other task : ℕ) (call : Call) → steps.Call core task call ≡ steps.Call core other Finish → is_finish call ≡ true
finish_of core other task call same = let ends : call ≡ Finish = cc same in ap is_finish ends

pub calls_are_worked_for : CallsAreWorkedFor
calls_are_worked_for order session edits run left kept place core task call stands begins =
    let now = there order session edits run left kept place in
    let within = slice_get_within run place (steps.Call core task call) stands in
    let next = sym (next_there order session edits run left kept place (omega (arith, within))) ∙ stands in
    at now (origin now (steps.Call core task call) (good_there order session edits run left kept place).begun next) (good_there order session edits run left kept place)
  where
    at : (now : Progress) → IsQuiet now (steps.Call core task call) ⊎ IsFromOutside now (steps.Call core task call) → IsGood now
        → (one : Unmade) × Contains (firsts now.unmade) one × (one.task ≡ task) × (one.call ≡ Some call) × (has_worked now one ≡ true)
    at now (inl (inl it)) good = absurd (cc it.is)
    at now (inl (inr (inl it))) good = absurd (let ends : call ≡ Finish = cc it.is in cc (begins, ap is_finish ends))
    at now (inl (inr (inr it))) good =
        let due : IsDue now it.waits = it.may in
        let one = waiting_is due.one it.waits due.is in
        let same : it.waits.task ≡ task = cc it.is in
        let made : it.waits.call ≡ call = cc it.is in
        (due.one, due.among, one.task ∙ same, one.call ∙ ap Some made, due.worked)
    at now (inr it) good = absurd (cc (from_outside now (steps.Call core task call) good it))

-- ---- at once

-- where a step from outside comes, or none, there is no quiet work
no_quiet : (now : Progress) → IsGood now → ((step : Step) → next_step now ≡ Some step → comes_from_outside step ≡ true)
    → quiet_step now.table (due_calls now) ≡ None
unfolding next_step
no_quiet now good outside = at (quiet_step now.table (due_calls now)) refl
  where
    at : (o : Option Step) → quiet_step now.table (due_calls now) ≡ o → o ≡ None
    at None none = refl
    at (Some step) some = which (origin now step good.begun next)
      where
        next : next_step now ≡ Some step
        next = ap (λ o. option_or o (outside_step now)) some

        which : IsQuiet now step ⊎ IsFromOutside now step → Some step ≡ None
        which (inl quiet) = absurd (cc (quiet_inside now step quiet, outside step next))
        which (inr it) = absurd (cc (it.quiet, some))

-- what holds of all that comes of some holds of what comes of each
all_unmapped : {X Y : Type 0} (h : X → Option Y) (P : Y → Type 0) (xs : List X) → AllByRecursion P (filter_map h xs)
    → AllByRecursion (λ x. (y : Y) → h x ≡ Some y → P y) xs
all_unmapped h P [] all = tt
all_unmapped {X} {Y} h P (x ∷ xs) all = at (h x) refl all (all_unmapped h P xs)
  where
    at : (o : Option Y) → h x ≡ o → AllByRecursion P (cons_option o (filter_map h xs))
        → (AllByRecursion P (filter_map h xs) → AllByRecursion (λ x. (y : Y) → h x ≡ Some y → P y) xs)
        → ((y : Y) → h x ≡ Some y → P y) × AllByRecursion (λ x. (y : Y) → h x ≡ Some y → P y) xs
    at None none all rest = (λ y is. absurd (cc (none, is)), rest all)
    at (Some it) some all rest = (λ y is. let same : it ≡ y = cc (some, is) in subst P same all.0, rest all.1)

-- where none can be made in order of cores none can be made at all
module _ (table : Table) (sound : IsSound table) (calls : List WaitingCall) (begin : AllByRecursion Begins calls) where
  abbrev CannotBeMade : WaitingCall → Type 0
  CannotBeMade waits = is_timely table (on_its_core table waits) ≡ false

  core_calls_none : AllByRecursion CannotBeMade (filter_map (call_of_core table calls) (numbers table.settings.cores)) → (waits : WaitingCall)
      → Contains calls waits → CannotBeMade waits
  core_calls_none all waits among = which (is_timely table (on_its_core table waits)) refl
    where
      core : ℕ
      core = core_running table waits.task

      which : (b : Bool) → is_timely table (on_its_core table waits) ≡ b → b ≡ false
      which false none = refl
      which true timely = found (call_of_core table calls (core_running table waits.task)) refl
        where
          own : is_finish waits.call ≡ false
          own = all_at Begins calls waits begin among

          runs : eqb waits.task (current table.control (core_running table waits.task)) ≡ true
          runs = let here = timely_runs table (core_running table waits.task) waits.task waits.call own timely in grind (arith, nat_tests, here)

          found : (o : Option WaitingCall) → call_of_core table calls (core_running table waits.task) ≡ o → true ≡ false
          found None none =
              let fails = find_fails (λ (other : WaitingCall). eqb other.task (current table.control (core_running table waits.task))) calls none in
              absurd (cc (runs, all_at (λ (other : WaitingCall). eqb other.task (current table.control (core_running table waits.task)) ≡ false) calls waits fails among))
          found (Some other) some =
              let passes = find_passes (λ (other : WaitingCall). eqb other.task (current table.control (core_running table waits.task))) calls other some in
              let same : other.task ≡ waits.task = grind (arith, nat_tests, passes, runs) in
              let each = all_unmapped (call_of_core table calls) CannotBeMade (numbers table.settings.cores) all in
              let there = All-has (λ core. (it : WaitingCall) → call_of_core table calls core ≡ Some it → CannotBeMade it) (core_running table waits.task)
              (numbers table.settings.cores) each
              (numbers_have table.settings.cores (core_running table waits.task) (running_below table waits.task sound)) in
              let begins = find_among (λ (other : WaitingCall). eqb other.task (current table.control (core_running table waits.task))) Begins calls other begin some in
              absurd (cc (timely, there other some, same_task table other waits same begins own))

  in_order_none : (order : CallOrder) → AllByRecursion CannotBeMade (in_order order table calls) → (waits : WaitingCall) → Contains calls waits
      → CannotBeMade waits
  in_order_none Oldest all waits among = all_at CannotBeMade calls waits all among
  in_order_none LeastCore all waits among = core_calls_none all waits among

pub calls_come_at_once : CallsComeAtOnce
unfolding due_calls progress_at
calls_come_at_once order session edits run left kept place is_session within outside apart one call among is worked =
    let now = there order session edits run left kept place in
    let good = good_there order session edits run left kept place in
    let none = no_quiet now good (λ step next. outside step (next_there order session edits run left kept place within ∙ next)) in
    let fails = each_unmap (on_its_core now.table) (λ step. is_timely now.table step ≡ false) (due_calls now)
    (find_fails (is_timely now.table) (map (on_its_core now.table) (due_calls now)) (none_found now.table (due_calls now) none).2) in
    let calls = filter_map as_waiting (filter (has_worked now) (firsts now.unmade)) in
    let all = subst (λ b. AllByRecursion (λ waits. is_timely now.table (on_its_core now.table waits) ≡ false) (cond b [] (in_order now.order now.table calls)))
    apart fails in
    let sound = (keeping_at run place (first_progress order session edits kept.settled) left (first_keeping order session edits kept.settled is_session)
    kept.is_run).sound in
    let begin = all_mapped as_waiting HasBegun Begins (λ one waits has is. has waits.call (waiting_is one waits is).call)
    (filter (has_worked now) (firsts now.unmade))
    (All-filter HasBegun (has_worked now) (firsts now.unmade) (firsts_all HasBegun now.unmade good.begun)) in
    in_order_none now.table sound calls begin now.order all (record { task = one.task; call = call })
    (mapped_contains as_waiting (has_worked now) (firsts now.unmade) one (record { task = one.task; call = call }) among worked
    (ap (option_map (λ call. record { task = one.task; call = call })) is))
