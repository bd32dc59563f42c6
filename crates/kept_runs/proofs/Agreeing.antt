-- Where a run that keeps work stands as the settled run does, the next step is that of the settled run.
use Rattle.std.proofs.Common.{◌≡◌, ℕ, ◌+◌, ◌-◌, ◌≤◌, Bool, true, false, cond, not, eqb, ltb, leb, ◌&&◌, ◌||◌, List, [], ◌∷◌, ◌++◌, map, replicate, Option, Some, None, Result, Ok, Err, refl, sym, ap, subst, ◌∙◌, arith}
use Rattle.std.specs.Prelude.{is_none, All, Contains, filter_map, option_map, slice_get}
use Rattle.std.specs.List.{cons_option, filter, find, AllByRecursion}
use Rattle.std.specs.Option.{option_map_or, option_or}
use Rattle.std.proofs.lemmas.Bool.Decides.{nat_tests}
use Rattle.std.proofs.lemmas.List.{append-nil, map-append}
use Rattle.std.proofs.lemmas.List.Elements.{All-head}
use Rattle.bench_types.specs.declared.fault.Fault.{Fault}
use Rattle.bench_types.specs.declared.fault.Fault.TheVariants.{BadArgument}
use Rattle.bench_types.specs.declared.step.Call.TheVariants.{Yield}
use Rattle.bench_types.specs.declared.step.Step.{Step}
use Rattle.bench_types.specs.declared.step.Step.TheVariants.{Tick, Switch, Interrupt, QueueInterrupt, ResumeInterrupt, Pass}
use Rattle.bench_types.specs.declared.step.Step.TheVariants as steps
use Rattle.bench_types.specs.Step.{IsCheckedStep}
use Rattle.list_orders.proofs.Filters.{All-both, All-filter, All-filter_passes, All-weaker, find_none}
use Rattle.bench_model.specs.Session.{step_of}
use Rattle.bench_model.specs.Sound.{IsSound}
use Rattle.settled_runs.specs.declared.waiting_call.WaitingCall.{WaitingCall}
use Rattle.settled_runs.specs.Settled.{is_finish, is_timely, on_its_core, quiet_step}
use Rattle.settled_runs.specs.SettleLaws.{comes_from_outside}
use Rattle.settled_runs.proofs.Pieces.{each_map, each_unmap, find_fails, none_alone, none_found}
use Rattle.settled_runs.proofs.Settlings.{Begins}
use Rattle.step_times.specs.Times.{time_of}
use Rattle.workload_runs.specs.Rule.{least}
use Rattle.workload_runs.specs.Situations.{is_working}
use Rattle.workload_runs.proofs.Searches.{least_below, least_over}
use Rattle.kept_runs.specs.declared.call_order.CallOrder.TheVariants.{Oldest}
use Rattle.kept_runs.specs.declared.clocks.Clock.{Clock}
use Rattle.kept_runs.specs.Clocks.{Clocks, clocks_after, clocks_along, elapsed, is_before}
use Rattle.kept_runs.specs.Items.{begins_call}
use Rattle.kept_runs.specs.Known.{is_due_end, task_at_end}
use Rattle.kept_runs.specs.Rule.{Progress, as_waiting, can_call, cut, due_calls, firsts, has_worked, in_order, is_before_time, is_within_tick, next_outside, next_step, outside_step, works_left}
use Rattle.kept_runs.specs.declared.works.Outside.{Outside}
use Rattle.kept_runs.specs.declared.works.Unmade.{Unmade}
use Rattle.kept_runs.specs.Works.{Placed, is_pass, is_tick, works_from}
use Rattle.kept_runs.proofs.Ahead.{ahead, caller_works, head_or, next_apart, next_behind, next_clock, next_is_head, outsides}
use Rattle.kept_runs.proofs.Dues.{find_among_first, first_due, found_in, quiet_is}
use Rattle.kept_runs.proofs.Elapsing.{elapsed_before, elapsed_more, not_before, up_to_itself, IsUpTo}
use Rattle.kept_runs.specs.OrderLaws.{HasBegun}
use Rattle.kept_runs.proofs.Firsts.{all_at, all_mapped, firsts_all, in_order_all, waiting_is}
use Rattle.kept_runs.proofs.Placings.{clocks_of, firsts_next, waits_of, works_wait, IsNextWork, IsUnchanged}

-- ---- where both stand

-- the calls of events
abbrev pub calls_in : List Step → List WaitingCall
calls_in [] = []
calls_in (steps.Call core task call ∷ events) = record { task = task; call = call } ∷ calls_in events
calls_in (event ∷ events) = calls_in events

-- The settled run has these calls waiting, these events and these steps to come; there are the clocks
-- of tasks, those at their last calls, and the calls that come with their clocks.
pub record Agrees (tasks : List ℕ) (waiting : List WaitingCall) (events run : List Step) (now : Progress) : Type 0 where
  pub oldest : now.order ≡ Oldest
  pub clocks : Clocks
  pub last : Clocks
  pub placed : List Placed
  pub unchanged : AllByRecursion IsUnchanged placed
  pub sound : IsSound now.table
  pub checked : All (IsCheckedStep now.table.settings) run
  pub begins : AllByRecursion Begins (map waits_of placed)
  pub begun : AllByRecursion HasBegun now.unmade
  pub unmade : now.unmade ≡ works_from (clocks_along now.table clocks run) last tasks placed
  pub worked : (task : ℕ) → now.worked task ≡ elapsed (last task) (clocks task)
  pub order : (task : ℕ) → IsUpTo (last task) (clocks task)
  pub calls : map waits_of placed ≡ waiting ++ calls_in events
  pub counts : ℕ → ℕ
  pub places : (task : ℕ)
      → clocks_of task placed ≡ ahead task now.table clocks run ++ replicate (counts task) (clocks_along now.table clocks run task)
  pub outside : now.outside ≡ outsides now.passed run

-- ---- first calls

-- the work of a first call is what elapses to its task's next clock
abbrev IsToNext : (last : Clocks) (now : Progress) (clocks : Clocks) (run : List Step) (one : Unmade) → Type 0
IsToNext last now clocks run one = one.work ≡ elapsed (last one.task) (next_clock one.task now.table clocks run)

module _ (tasks : List ℕ) (waiting : List WaitingCall) (events run : List Step) (now : Progress) (agrees : Agrees tasks waiting events run now) where
  firsts_to_next : AllByRecursion (IsToNext agrees.last now agrees.clocks run) (firsts now.unmade)
  firsts_to_next =
      let ends = clocks_along now.table agrees.clocks run in
      subst (λ unmade. AllByRecursion (IsToNext agrees.last now agrees.clocks run) (firsts unmade)) (sym agrees.unmade)
      (All-weaker (IsNextWork ends tasks agrees.last agrees.placed) (IsToNext agrees.last now agrees.clocks run) to_next
      (firsts (works_from ends agrees.last tasks agrees.placed)) (firsts_next ends tasks agrees.placed agrees.last agrees.unchanged))
    where
      to_next : (one : Unmade) → IsNextWork (clocks_along now.table agrees.clocks run) tasks agrees.last agrees.placed one
          → IsToNext agrees.last now agrees.clocks run one
      to_next one is =
          is
          ∙ ap (λ clocks. elapsed (agrees.last one.task) (head_or (clocks_along now.table agrees.clocks run one.task) clocks)) (agrees.places one.task)
          ∙ ap (elapsed (agrees.last one.task)) (next_is_head run one.task now.table agrees.clocks (agrees.counts one.task))

-- ---- a call

joined_next : (now : Progress) → option_map_or (λ (next : Outside). next.joined) (next_outside now) false ≡ false → is_within_tick now ≡ false
joined_next now none = at now.passed
  where
    at : (b : Bool) → (b && option_map_or (λ (next : Outside). next.joined) (next_outside now) false) ≡ false
    at true = none
    at false = refl

pub due_apart : (now : Progress) → now.order ≡ Oldest → is_within_tick now ≡ false → due_calls now ≡ filter_map as_waiting (filter (has_worked now) (firsts now.unmade))
unfolding due_calls
due_apart now oldest apart =
    ap (λ b. cond b [] (in_order now.order now.table (filter_map as_waiting (filter (has_worked now) (firsts now.unmade))))) apart
    ∙ ap (λ order. in_order order now.table (filter_map as_waiting (filter (has_worked now) (firsts now.unmade)))) oldest

-- what was worked is enough
enough : (now : Progress) (one : Unmade) → one.work ≡ now.worked one.task → has_worked now one ≡ true
unfolding has_worked
enough now one same =
    let none : is_before (now.worked one.task) one.work ≡ false
    = ap (is_before (now.worked one.task)) same ∙ not_before (now.worked one.task) (now.worked one.task) (up_to_itself (now.worked one.task)) in
    ap (λ b. not b || (leb one.work.units (now.worked one.task).units && is_before_time now)) none

module _ (tasks : List ℕ) (waiting : List WaitingCall) (events : List Step) (step : Step) (run : List Step) (now : Progress)
    (agrees : Agrees tasks waiting events (step ∷ run) now) where
  -- a call of the settled run is the next step
  pub call_next : (waits : WaitingCall) → step ≡ on_its_core now.table waits → is_finish waits.call ≡ false → quiet_step now.table [] ≡ None
      → quiet_step now.table waiting ≡ Some step → next_step now ≡ Some step
  unfolding next_step
  call_next waits is begins none made =
      ap (λ o. option_or o (outside_step now)) (quiet_is now.table (due_calls now) none ∙ ap (found_in now.table) due ∙ found)
    where
      inside : comes_from_outside step ≡ false
      inside = ap comes_from_outside is

      next : now.outside ≡ outsides (is_pass step) run
      next = agrees.outside
          ∙ ap (λ b. cond b (record { step = step; joined = is_tick step && now.passed } ∷ outsides (is_pass step) run) (outsides (is_pass step) run)) inside

      apart : is_within_tick now ≡ false
      apart = joined_next now
          (ap (λ outside. option_map_or (λ (next : Outside). next.joined) (slice_get outside 0) false) next ∙ next_apart run (is_pass step) (ap is_pass is))

      due : due_calls now ≡ filter_map as_waiting (filter (has_worked now) (firsts now.unmade))
      due = due_apart now agrees.oldest apart

      ends : Clocks
      ends = clocks_along now.table agrees.clocks (step ∷ run)

      there : found_in now.table (map waits_of agrees.placed) ≡ Some step
      there =
          ap (found_in now.table) agrees.calls ∙ ap (find (is_timely now.table)) (map-append (on_its_core now.table) waiting (calls_in events))
          ∙ find_among_first (is_timely now.table) (map (on_its_core now.table) waiting) (map (on_its_core now.table) (calls_in events)) step
          (sym (quiet_is now.table waiting none) ∙ made)

      worked : (one : Unmade) (other : WaitingCall) → Contains (firsts (works_from ends agrees.last tasks agrees.placed)) one → as_waiting one ≡ Some other
          → on_its_core now.table other ≡ step → has_worked now one ≡ true
      worked one other among named same =
          let it = waiting_is one other named in
          let alike : on_its_core now.table other ≡ on_its_core now.table waits = same ∙ is in
          let task : other.task ≡ waits.task = cc alike in
          let here = subst (λ unmade. Contains (firsts unmade) one) (sym agrees.unmade) among in
          let work = all_at (IsToNext agrees.last now agrees.clocks (step ∷ run)) (firsts now.unmade) one
          (firsts_to_next tasks waiting events (step ∷ run) now agrees) here in
          let own : eqb waits.task one.task ≡ true = let caller = it.task in grind (arith, nat_tests, caller, task) in
          let calls : begins_call one.task step ≡ true = ap (begins_call one.task) is ∙ (λ i. own i && not (begins i)) in
          enough now one
          (work
          ∙ ap (λ b. elapsed (agrees.last one.task)
          (cond b (agrees.clocks one.task)
          (next_clock one.task (step_of step now.table).1
          (clocks_after step now.table agrees.clocks) run))) calls
          ∙ sym (agrees.worked one.task))

      found : found_in now.table (filter_map as_waiting (filter (has_worked now) (firsts now.unmade))) ≡ Some step
      found = subst (λ unmade. found_in now.table (filter_map as_waiting (filter (has_worked now) (firsts unmade))) ≡ Some step) (sym agrees.unmade)
          (first_due now.table (has_worked now) ends tasks agrees.placed agrees.last step agrees.begins
          (subst (AllByRecursion HasBegun) agrees.unmade agrees.begun) there worked)

  -- ---- a step from outside

  module _ (comes : comes_from_outside step ≡ true) (quiet : quiet_step now.table waiting ≡ None) where
    next_is : next_outside now ≡ Some (record { step = step; joined = is_tick step && now.passed })
    next_is = ap (λ outside. slice_get outside 0)
        (agrees.outside
        ∙ ap (λ b. cond b (record { step = step; joined = is_tick step && now.passed } ∷ outsides (is_pass step) run) (outsides (is_pass step) run)) comes)

    -- of a task that works the step takes time that its first call, or its end, still needs
    not_yet : (one : Unmade) → IsToNext agrees.last now agrees.clocks (step ∷ run) one → is_working now.table one.task ≡ true
        → (is_before (now.worked one.task) one.work ≡ true) × ((now.worked one.task).units + time_of now.table.settings.units step ≤ one.work.units)
    not_yet one work works =
        let task = one.task in
        let next = next_clock task now.table agrees.clocks (step ∷ run) in
        let later = next_behind step run task now.table agrees.clocks comes works in
        let units = time_of now.table.settings.units step in (
          (λ i. is_before (agrees.worked task i) (work i)) ∙ elapsed_before (agrees.last task) (agrees.clocks task) next units (agrees.order task) later,
          let more = elapsed_more (agrees.last task) (agrees.clocks task) next units (agrees.order task) later in
              let one_units : (now.worked task).units ≡ (elapsed (agrees.last task) (agrees.clocks task)).units = ap (λ (clock : Clock). clock.units) (agrees.worked task) in
              let other_units : one.work.units ≡ (elapsed (agrees.last task) next).units = ap (λ (clock : Clock). clock.units) work in
              omega (arith, more, one_units, other_units),
        )

    not_worked : (one : Unmade) → IsToNext agrees.last now agrees.clocks (step ∷ run) one → is_working now.table one.task ≡ true
        → has_worked now one ≡ false
    unfolding has_worked
    not_worked one work works =
        let both = not_yet one work works in
        ap (λ b. not b || (leb one.work.units (now.worked one.task).units && is_before_time now)) both.0
        ∙ ap (λ o. leb one.work.units (now.worked one.task).units
        && option_map_or (λ (next : Outside). not (eqb (time_of now.table.settings.units next.step) 0)) o true) next_is
        ∙ at (eqb (time_of now.table.settings.units step) 0) refl both.1
      where
        at : (b : Bool) → eqb (time_of now.table.settings.units step) 0 ≡ b
            → (now.worked one.task).units + time_of now.table.settings.units step ≤ one.work.units
            → (leb one.work.units (now.worked one.task).units && not b) ≡ false
        at true none more = never (leb one.work.units (now.worked one.task).units)
          where
            never : (b : Bool) → (b && false) ≡ false
            never true = refl
            never false = refl
        at false some more =
            let less : leb one.work.units (now.worked one.task).units ≡ false = grind (arith, nat_tests, some, more) in
            ap (λ b. b && true) less

    -- no task is at its end
    pub not_at_end : task_at_end now ≡ None
    unfolding task_at_end
    not_at_end = which (is_within_tick now)
      where
        never : (b : Bool) → (b && false) ≡ false
        never true = refl
        never false = refl

        no_end : (one : Unmade) → IsToNext agrees.last now agrees.clocks (step ∷ run) one → is_due_end now one ≡ false
        no_end one work = at (can_call now.table one) refl
          where
            at : (b : Bool) → can_call now.table one ≡ b → (is_none one.call && (has_worked now one && can_call now.table one)) ≡ false
            at false none = ap (λ b. is_none one.call && (has_worked now one && b)) none
                ∙ ap (λ b. is_none one.call && b) (never (has_worked now one)) ∙ never (is_none one.call)
            at true can =
                let works = caller_works now.table one.task Yield agrees.sound refl can in
                ap (λ b. is_none one.call && (b && can_call now.table one)) (not_worked one work works) ∙ never (is_none one.call)

        which : (b : Bool) → cond b None (option_map (λ (one : Unmade). one.task) (find (is_due_end now) (firsts now.unmade))) ≡ None
        which true = refl
        which false =
            ap (option_map (λ (one : Unmade). one.task))
            (find_none (is_due_end now) (firsts now.unmade)
            (All-weaker (IsToNext agrees.last now agrees.clocks (step ∷ run)) (λ one. is_due_end now one ≡ false) no_end (firsts now.unmade)
            (firsts_to_next tasks waiting events (step ∷ run) now agrees)))

    none_due : quiet_step now.table (due_calls now) ≡ None
    unfolding due_calls
    none_due =
        quiet_is now.table (due_calls now) (none_alone now.table waiting quiet)
        ∙ find_none (is_timely now.table) (map (on_its_core now.table) (due_calls now))
        (each_map (on_its_core now.table) (λ step. is_timely now.table step ≡ false) (due_calls now) (at (is_within_tick now)))
      where
        early : (one : Unmade) (waits : WaitingCall)
            → (IsToNext agrees.last now agrees.clocks (step ∷ run) one × HasBegun one) × (has_worked now one ≡ true) → as_waiting one ≡ Some waits
            → is_timely now.table (on_its_core now.table waits) ≡ false
        early one waits ready named = which (is_timely now.table (on_its_core now.table waits)) refl
          where
            which : (b : Bool) → is_timely now.table (on_its_core now.table waits) ≡ b → b ≡ false
            which false none = refl
            which true timely =
                let it = waiting_is one waits named in
                let works = caller_works now.table waits.task waits.call agrees.sound (ready.0.1 waits.call it.call) timely in
                let own = subst (λ task. is_working now.table task ≡ true) (sym it.task) works in
                absurd (cc (ready.1, not_worked one ready.0.0 own))

        at : (b : Bool) → AllByRecursion (λ waits. is_timely now.table (on_its_core now.table waits) ≡ false)
            (cond b [] (in_order now.order now.table (filter_map as_waiting (filter (has_worked now) (firsts now.unmade)))))
        at true = tt
        at false =
            let all = firsts now.unmade in
            let Next : Unmade → Type 0 = IsToNext agrees.last now agrees.clocks (step ∷ run) in
            let Both : Unmade → Type 0 = λ one. Next one × HasBegun one in
            in_order_all (λ waits. is_timely now.table (on_its_core now.table waits) ≡ false) now.order now.table
            (filter_map as_waiting (filter (has_worked now) all)) (all_mapped as_waiting (λ one. Both one × (has_worked now one ≡ true)) (λ waits. is_timely now.table (on_its_core now.table waits) ≡ false) early
            (filter (has_worked now) all)
            (All-both Both (λ one. has_worked now one ≡ true) (filter (has_worked now) all)
            (All-filter Both (has_worked now) all
            (All-both Next HasBegun all (firsts_to_next tasks waiting events (step ∷ run) now agrees) (firsts_all HasBegun now.unmade agrees.begun)))
            (All-filter_passes (has_worked now) all)))

    pass_whole : (units : ℕ) → step ≡ Pass units → least units (works_left now) ≡ units
    pass_whole units is =
        let all = firsts now.unmade in
        let Next : Unmade → Type 0 = IsToNext agrees.last now agrees.clocks (step ∷ run) in
        let lefts = map (λ (one : Unmade). one.work.units - (now.worked one.task).units) (filter (can_call now.table) all) in
        let each = All-filter (λ left. units ≤ left) (λ left. ltb 0 left) lefts
        (each_map (λ (one : Unmade). one.work.units - (now.worked one.task).units) (λ left. units ≤ left) (filter (can_call now.table) all)
        (All-weaker (λ one. Next one × (can_call now.table one ≡ true)) (λ (one : Unmade). units ≤ one.work.units - (now.worked one.task).units) low
        (filter (can_call now.table) all)
        (All-both Next (λ one. can_call now.table one ≡ true) (filter (can_call now.table) all)
        (All-filter Next (can_call now.table) all (firsts_to_next tasks waiting events (step ∷ run) now agrees))
        (All-filter_passes (can_call now.table) all)))) in
        let over = least_over (works_left now) units units (omega arith) each in
        let below = least_below (works_left now) units in
        omega (arith, over, below)
      where
        takes : time_of now.table.settings.units step ≡ units
        takes = ap (time_of now.table.settings.units) is
            ∙ at (eqb now.table.settings.units 1) refl
            (subst (λ step. IsCheckedStep now.table.settings step) is (All-head (IsCheckedStep now.table.settings) step run agrees.checked)).passes
          where
            at : (b : Bool) → eqb now.table.settings.units 1 ≡ b
                → cond {A = Result (Unit {0}) Fault} b (Err BadArgument) (cond (eqb units 0) (Err BadArgument) (Ok tt)) ≡ Ok tt → cond b 0 units ≡ units
            at true one passes = absurd (cc passes)
            at false more passes = refl

        low : (one : Unmade) → IsToNext agrees.last now agrees.clocks (step ∷ run) one × (can_call now.table one ≡ true)
            → units ≤ one.work.units - (now.worked one.task).units
        low one both =
            let works = caller_works now.table one.task Yield agrees.sound refl both.1 in
            let more = (not_yet one both.0 works).1 in
            let same = takes in
            omega (arith, more, same)

    cut_whole : cut now step ≡ step
    cut_whole = at step refl
      where
        at : (it : Step) → step ≡ it → cut now it ≡ it
        at (Pass units) is = ap Pass (pass_whole units is)
        at Tick is = refl
        at (Switch core) is = refl
        at (Interrupt core note) is = refl
        at (QueueInterrupt core queue direction) is = refl
        at (ResumeInterrupt core task) is = refl
        at (steps.Call core task call) is = refl

    -- a step from outside of the settled run is the next step
    pub outside_next : next_step now ≡ Some step
    unfolding next_step outside_step
    outside_next =
        ap (λ o. option_or o (outside_step now)) none_due ∙ ap (λ o. option_map (λ (next : Outside). cut now next.step) o) next_is ∙ ap Some cut_whole

-- ---- the end

-- what holds of all calls that wait holds of those of each that is unmade
pub unmapped : (P : WaitingCall → Type 0) (unmade : List Unmade) → AllByRecursion P (filter_map as_waiting unmade)
    → AllByRecursion (λ one. (waits : WaitingCall) → as_waiting one ≡ Some waits → P waits) unmade
unmapped P [] all = tt
unmapped P (one ∷ unmade) all = at (as_waiting one) refl all (unmapped P unmade)
  where
    at : (o : Option WaitingCall) → as_waiting one ≡ o → AllByRecursion P (cons_option o (filter_map as_waiting unmade))
        → (AllByRecursion P (filter_map as_waiting unmade)
        → AllByRecursion (λ one. (waits : WaitingCall) → as_waiting one ≡ Some waits → P waits) unmade)
        → ((waits : WaitingCall) → as_waiting one ≡ Some waits → P waits)
        × AllByRecursion (λ one. (waits : WaitingCall) → as_waiting one ≡ Some waits → P waits) unmade
    at None none all later = (λ waits is. absurd (cc (none, is)), later all)
    at (Some it) some all later = (λ waits is. let same : it ≡ waits = cc (some, is) in subst P same all.0, later all.1)

module _ (tasks : List ℕ) (waiting : List WaitingCall) (now : Progress) (agrees : Agrees tasks waiting [] [] now) where
  waits_there : filter_map as_waiting now.unmade ≡ waiting ++ []
  waits_there = ap (filter_map as_waiting) agrees.unmade
      ∙ works_wait (clocks_along now.table agrees.clocks []) tasks agrees.placed agrees.last ∙ agrees.calls

  pub left_there : filter_map as_waiting now.unmade ≡ waiting
  left_there = waits_there ∙ append-nil waiting

  -- nothing is next where nothing is next in the settled run
  pub end_next : quiet_step now.table waiting ≡ None → next_step now ≡ None
  unfolding next_step outside_step due_calls
  end_next quiet =
      ap (λ o. option_or o (outside_step now)) none ∙ ap (λ outside. option_map (λ (next : Outside). cut now next.step) (slice_get outside 0)) agrees.outside
    where
      fails : AllByRecursion (λ waits. is_timely now.table (on_its_core now.table waits) ≡ false) (filter_map as_waiting now.unmade)
      fails = subst (AllByRecursion (λ waits. is_timely now.table (on_its_core now.table waits) ≡ false)) (sym left_there)
          (each_unmap (on_its_core now.table) (λ step. is_timely now.table step ≡ false) waiting
          (find_fails (is_timely now.table) (map (on_its_core now.table) waiting) (none_found now.table waiting quiet).2))

      none : quiet_step now.table (due_calls now) ≡ None
      none =
          quiet_is now.table (due_calls now) (none_alone now.table waiting quiet)
          ∙ find_none (is_timely now.table) (map (on_its_core now.table) (due_calls now))
          (each_map (on_its_core now.table) (λ step. is_timely now.table step ≡ false) (due_calls now) (at (is_within_tick now)))
        where
          at : (b : Bool) → AllByRecursion (λ waits. is_timely now.table (on_its_core now.table waits) ≡ false)
              (cond b [] (in_order now.order now.table (filter_map as_waiting (filter (has_worked now) (firsts now.unmade)))))
          at true = tt
          at false =
              let Early : Unmade → Type 0 = λ one. (waits : WaitingCall) → as_waiting one ≡ Some waits
              → is_timely now.table (on_its_core now.table waits) ≡ false in
              in_order_all (λ waits. is_timely now.table (on_its_core now.table waits) ≡ false) now.order now.table
              (filter_map as_waiting (filter (has_worked now) (firsts now.unmade))) (all_mapped as_waiting Early (λ waits. is_timely now.table (on_its_core now.table waits) ≡ false) (λ one waits early is. early waits is)
              (filter (has_worked now) (firsts now.unmade))
              (All-filter Early (has_worked now) (firsts now.unmade) (firsts_all Early now.unmade (unmapped (λ waits. is_timely now.table (on_its_core now.table waits) ≡ false) now.unmade fails))))
