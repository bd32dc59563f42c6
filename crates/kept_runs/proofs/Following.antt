-- A run that keeps work goes on as the settled run does.
use Rattle.std.proofs.Common.{◌≡◌, ℕ, suc, ◌-◌, Bool, true, false, cond, not, eqb, ltb, ◌&&◌, List, [], ◌∷◌, ◌++◌, length, map, replicate, Some, None, refl, sym, ap, subst, ◌∙◌, inl, inr, append_assoc, arith}
use Rattle.std.specs.List.{AllByRecursion}
use Rattle.std.specs.Option.{option_or}
use Rattle.std.proofs.lemmas.Bool.Decides.{nat_tests}
use Rattle.std.proofs.lemmas.List.{append-nil}
use Rattle.std.proofs.lemmas.List.Elements.{All-head}
use Rattle.std.proofs.lemmas.List.Sums.{fold-append}
use Rattle.bench_types.specs.declared.step.Call.{Call}
use Rattle.bench_types.specs.declared.step.Step.{Step}
use Rattle.bench_types.specs.declared.step.Step.TheVariants.{Tick, Switch, Interrupt, QueueInterrupt, ResumeInterrupt, Pass}
use Rattle.bench_types.specs.declared.step.Step.TheVariants as steps
use Rattle.bench_types.specs.Step.{IsCheckedStep}
use Rattle.bench_model.specs.Control.{current}
use Rattle.bench_model.specs.Session.{state_after, step_of}
use Rattle.bench_model.specs.Table.{Table}
use Rattle.step_laws.proofs.Along.{checked_rest}
use Rattle.step_laws.proofs.Steps.{after_sound}
use Rattle.settled_runs.specs.declared.waiting_call.WaitingCall.{WaitingCall}
use Rattle.settled_runs.specs.Settled.{core_running, is_event, is_finish, made_at_once, quiet_step, still_waiting, waiting_after, waiting_with, without_first, IsQuietWork, IsSettledFrom}
use Rattle.settled_runs.specs.SettleLaws.{comes_from_outside}
use Rattle.settled_runs.proofs.Pieces.{piece_of, without_all, IsPiece}
use Rattle.settled_runs.proofs.Settlings.{Begins, Events}
use Rattle.step_times.specs.Times.{time_of}
use Rattle.workload_runs.specs.Situations.{is_working}
use Rattle.kept_runs.specs.declared.clocks.Clock.{Clock}
use Rattle.kept_runs.specs.Clocks.{Clocks, clock_after, clocks_after, clocks_along, elapsed, later_clock, zero_clock}
use Rattle.kept_runs.specs.Items.{begins_call}
use Rattle.kept_runs.specs.Known.{task_at_end}
use Rattle.kept_runs.specs.Rule.{Progress, after, due_calls, next_step, outside_after, outside_step, rest_of, unmade_after, worked_after, IsRunFrom}
use Rattle.kept_runs.specs.Rule as rule
use Rattle.kept_runs.specs.Works.{is_pass, is_tick, with_clock, works_from}
use Rattle.kept_runs.proofs.Agreeing.{call_next, calls_in, end_next, left_there, not_at_end, outside_next, Agrees}
use Rattle.kept_runs.proofs.Ahead.{after_up_to, ahead, outside_begins, outsides}
use Rattle.kept_runs.proofs.Elapsing.{elapsed_none, elapsed_then, later_is, up_to_itself, up_to_third, IsUpTo}
use Rattle.kept_runs.specs.OrderLaws.{HasBegun}
use Rattle.kept_runs.proofs.Firsts.{without_first_all}
use Rattle.kept_runs.proofs.Pieces.{outside_stays, unmade_stays}
use Rattle.kept_runs.proofs.Placings.{clocks_of, clocks_other, clocks_without, placed_without, unchanged_without, waits_of, waits_without, works_without}

-- no task is at its end where a step from outside comes
abbrev pub IsKnownFrom : Progress → List Step → Type 0
IsKnownFrom now [] = Unit {0}
IsKnownFrom now (step ∷ run) = (comes_from_outside step ≡ true → task_at_end now ≡ None) × IsKnownFrom (after step now) run

-- so goes the run, and all of it is known
abbrev pub IsKnownRun : Progress → List Step → List WaitingCall → Type 0
IsKnownRun now run left = IsRunFrom now run left × IsKnownFrom now run

module _ (tasks : List ℕ) where
  -- ---- behind a step that is no call and doesn't come from outside

  module _ (waiting : List WaitingCall) (events : List Step) (step : Step) (run : List Step) (now : Progress)
      (agrees : Agrees tasks waiting events (step ∷ run) now) where
    abbrev next : Clocks
    next = clocks_after step now.table agrees.clocks

    ahead_same : (task : ℕ) → begins_call task step ≡ false
        → clocks_of task agrees.placed
        ≡ ahead task (step_of step now.table).1 (clocks_after step now.table agrees.clocks) run
        ++ replicate (agrees.counts task) (clocks_along now.table agrees.clocks (step ∷ run) task)
    ahead_same task none = agrees.places task
        ∙ ap (λ b. cond b (agrees.clocks task ∷ ahead task (step_of step now.table).1 (clocks_after step now.table agrees.clocks) run)
        (ahead task (step_of step now.table).1 (clocks_after step now.table agrees.clocks) run)
        ++ replicate (agrees.counts task) (clocks_along now.table agrees.clocks (step ∷ run) task)) none

    pub behind_quiet : comes_from_outside step ≡ false → ((task : ℕ) → begins_call task step ≡ false) → unmade_after step now.unmade ≡ now.unmade
        → ((task : ℕ) → worked_after step now.table now.worked task ≡ now.worked task) → Agrees tasks waiting events run (after step now)
    unfolding after
    behind_quiet inside none unmade worked = record {
      clocks = clocks_after step now.table agrees.clocks;
      last = agrees.last;
      placed = agrees.placed;
      unchanged = agrees.unchanged;
      oldest = agrees.oldest;
      sound = after_sound step now.table agrees.sound (All-head (IsCheckedStep now.table.settings) step run agrees.checked);
      checked = checked_rest now.table step run agrees.sound agrees.checked;
      begins = agrees.begins;
      begun = subst (AllByRecursion HasBegun) (sym unmade) agrees.begun;
      unmade = unmade ∙ agrees.unmade;
      worked = λ task. worked task ∙ agrees.worked task ∙ ap (elapsed (agrees.last task)) (sym (same task));
      order = λ task. subst (IsUpTo (agrees.last task)) (sym (same task)) (agrees.order task);
      calls = agrees.calls;
      counts = agrees.counts;
      places = λ task. ahead_same task (none task);
      outside = outside_stays step now.outside inside ∙ agrees.outside
          ∙ ap (λ b. cond b (record { step = step; joined = is_tick step && now.passed } ∷ outsides (is_pass step) run) (outsides (is_pass step) run)) inside;
    }
      where
        same : (task : ℕ) → clocks_after step now.table agrees.clocks task ≡ agrees.clocks task
        same task = ap
            (λ b. cond (b && is_working now.table task) (clock_after (time_of now.table.settings.units step) (agrees.clocks task)) (agrees.clocks task)) inside

    -- ---- behind a step from outside

    worked_outside : (it : Step) → comes_from_outside it ≡ true → (worked : Clocks) → worked_after it now.table worked ≡ clocks_after it now.table worked
    worked_outside Tick comes worked = refl
    worked_outside (Switch core) comes worked = refl
    worked_outside (Interrupt core note) comes worked = refl
    worked_outside (QueueInterrupt core queue direction) comes worked = refl
    worked_outside (ResumeInterrupt core task) comes worked = refl
    worked_outside (Pass units) comes worked = refl
    worked_outside (steps.Call core task call) comes worked = absurd (cc comes)

    no_rest : (it : Step) → rest_of it it ≡ []
    no_rest (Pass units) =
        let test : ltb units units ≡ false = grind (arith, nat_tests) in
        ap (λ b. cond b (record { step = Pass (units - units); joined = false } ∷ []) []) test
    no_rest Tick = refl
    no_rest (Switch core) = refl
    no_rest (Interrupt core note) = refl
    no_rest (QueueInterrupt core queue direction) = refl
    no_rest (ResumeInterrupt core task) = refl
    no_rest (steps.Call core task call) = refl

    pub behind_outside : comes_from_outside step ≡ true → Agrees tasks waiting events run (after step now)
    unfolding after
    behind_outside comes = record {
      clocks = clocks_after step now.table agrees.clocks;
      last = agrees.last;
      placed = agrees.placed;
      unchanged = agrees.unchanged;
      oldest = agrees.oldest;
      sound = after_sound step now.table agrees.sound (All-head (IsCheckedStep now.table.settings) step run agrees.checked);
      checked = checked_rest now.table step run agrees.sound agrees.checked;
      begins = agrees.begins;
      begun = subst (AllByRecursion HasBegun) (sym (unmade_stays step now.unmade comes)) agrees.begun;
      unmade = unmade_stays step now.unmade comes ∙ agrees.unmade;
      worked = λ task. ap (λ worked. worked task) (worked_outside step comes now.worked)
          ∙ went task (comes_from_outside step && is_working now.table task);
      order = λ task. up_to_third (agrees.last task) (agrees.clocks task) (clocks_after step now.table agrees.clocks task) (agrees.order task)
          (after_up_to step now.table agrees.clocks task);
      calls = agrees.calls;
      counts = agrees.counts;
      places = λ task. ahead_same task (outside_begins step task comes);
      outside = ap (outside_after step)
          (agrees.outside
          ∙ ap (λ b. cond b (record { step = step; joined = is_tick step && now.passed } ∷ outsides (is_pass step) run) (outsides (is_pass step) run)) comes)
          ∙ ap (λ b. cond b (rest_of step step ++ outsides (is_pass step) run)
          (record { step = step; joined = is_tick step && now.passed } ∷ outsides (is_pass step) run)) comes
          ∙ ap (λ rest. rest ++ outsides (is_pass step) run) (no_rest step);
    }
      where
        went : (task : ℕ) (b : Bool)
            → cond b (clock_after (time_of now.table.settings.units step) (now.worked task)) (now.worked task)
            ≡ elapsed (agrees.last task) (cond b (clock_after (time_of now.table.settings.units step) (agrees.clocks task)) (agrees.clocks task))
        went task true =
            ap (clock_after (time_of now.table.settings.units step)) (agrees.worked task)
            ∙ sym (elapsed_then (agrees.last task) (agrees.clocks task) (time_of now.table.settings.units step) (agrees.order task))
        went task false = agrees.worked task

  -- ---- behind a call

  -- the first call of a task that waits among the front ones
  without_front : (task : ℕ) (front back : List WaitingCall) → suc (length (without_first task front)) ≡ length front
      → without_first task (front ++ back) ≡ without_first task front ++ back
  without_front task [] back fewer = absurd (omega (arith, fewer))
  without_front task (waits ∷ front) back fewer = at (eqb waits.task task) fewer (without_front task front back)
    where
      at : (b : Bool) → suc (length (cond b front (waits ∷ without_first task front))) ≡ suc (length front)
          → (suc (length (without_first task front)) ≡ length front → without_first task (front ++ back) ≡ without_first task front ++ back)
          → cond b (front ++ back) (waits ∷ without_first task (front ++ back)) ≡ cond b front (waits ∷ without_first task front) ++ back
      at true fewer rest = refl
      at false fewer rest = ap (λ calls. waits ∷ calls) (rest (omega (arith, fewer)))

  module _ (waiting : List WaitingCall) (events : List Step) (core task : ℕ) (call : Call) (run : List Step) (now : Progress)
      (agrees : Agrees tasks waiting events (steps.Call core task call ∷ run) now) (begins : is_finish call ≡ false)
      (fewer : suc (length (without_first task waiting)) ≡ length waiting) where
    abbrev made : Step
    made = steps.Call core task call

    abbrev behind : List Clock
    behind = ahead task (step_of made now.table).1 (clocks_after made now.table agrees.clocks) run
        ++ replicate (agrees.counts task) (clocks_along now.table agrees.clocks (made ∷ run) task)

    abbrev last_after : Clocks
    last_after = with_clock agrees.last task (later_clock (agrees.last task) (agrees.clocks task))

    own_places : clocks_of task agrees.placed ≡ agrees.clocks task ∷ behind
    own_places =
        let own : eqb task task ≡ true = grind (arith, nat_tests) in
        agrees.places task
        ∙ ap (λ b. cond b (agrees.clocks task ∷ ahead task (step_of made now.table).1 (clocks_after made now.table agrees.clocks) run)
        (ahead task (step_of made now.table).1 (clocks_after made now.table agrees.clocks) run)
        ++ replicate (agrees.counts task) (clocks_along now.table agrees.clocks (made ∷ run) task)) (λ i. own i && not (begins i))

    later_same : later_clock (agrees.last task) (agrees.clocks task) ≡ agrees.clocks task
    later_same = later_is (agrees.last task) (agrees.clocks task) (agrees.order task)

    unmade_there : rule.unmade_after made now.unmade
        ≡ works_from (clocks_along now.table agrees.clocks (made ∷ run)) last_after tasks (placed_without task agrees.placed)
    unmade_there =
        ap (λ b. cond b now.unmade (rule.without_first task now.unmade)) begins ∙ ap (rule.without_first task) agrees.unmade
        ∙ works_without (clocks_along now.table agrees.clocks (made ∷ run)) tasks agrees.placed agrees.last task (agrees.clocks task) behind own_places

    worked_there : (other : ℕ) → worked_after made now.table now.worked other ≡ elapsed (last_after other) (agrees.clocks other)
    worked_there other =
        ap (λ b. cond b now.worked (with_clock now.worked task zero_clock) other) begins ∙ at (eqb other task) refl
      where
        at : (b : Bool) → eqb other task ≡ b
            → cond b zero_clock (now.worked other)
            ≡ elapsed (cond b (later_clock (agrees.last task) (agrees.clocks task)) (agrees.last other)) (agrees.clocks other)
        at true own =
            let same : other ≡ task = grind (arith, nat_tests, own) in
            sym (ap (λ clock. elapsed clock (agrees.clocks other)) (later_same ∙ ap agrees.clocks (sym same)) ∙ elapsed_none (agrees.clocks other))
        at false away = agrees.worked other

    order_there : (other : ℕ) → IsUpTo (last_after other) (agrees.clocks other)
    order_there other = at (eqb other task) refl
      where
        at : (b : Bool) → eqb other task ≡ b
            → IsUpTo (cond b (later_clock (agrees.last task) (agrees.clocks task)) (agrees.last other)) (agrees.clocks other)
        at true own =
            let same : other ≡ task = grind (arith, nat_tests, own) in
            subst (λ clock. IsUpTo clock (agrees.clocks other)) (sym (later_same ∙ ap agrees.clocks (sym same))) (up_to_itself (agrees.clocks other))
        at false away = agrees.order other

    places_there : (other : ℕ) → clocks_of other (placed_without task agrees.placed)
        ≡ ahead other (step_of made now.table).1 (clocks_after made now.table agrees.clocks) run
        ++ replicate (agrees.counts other) (clocks_along now.table agrees.clocks (made ∷ run) other)
    places_there other = at (eqb task other) refl
      where
        at : (b : Bool) → eqb task other ≡ b
            → clocks_of other (placed_without task agrees.placed)
            ≡ ahead other (step_of made now.table).1 (clocks_after made now.table agrees.clocks) run
            ++ replicate (agrees.counts other) (clocks_along now.table agrees.clocks (made ∷ run) other)
        at true own =
            let same : task ≡ other = grind (arith, nat_tests, own) in
            subst (λ other. clocks_of other (placed_without task agrees.placed)
            ≡ ahead other (step_of made now.table).1 (clocks_after made now.table agrees.clocks) run
            ++ replicate (agrees.counts other) (clocks_along now.table agrees.clocks (made ∷ run) other)) same
            (clocks_without task agrees.placed (agrees.clocks task) behind own_places)
        at false away =
            clocks_other task other agrees.placed away
            ∙ ahead_same waiting events made run now agrees other (ap (λ b. b && not (is_finish call)) away)

    calls_there : map waits_of (placed_without task agrees.placed) ≡ without_first task waiting ++ calls_in events
    calls_there = waits_without task agrees.placed ∙ ap (without_first task) agrees.calls ∙ without_front task waiting (calls_in events) fewer

    pub behind_call : Agrees tasks (without_first task waiting) events run (after (steps.Call core task call) now)
    unfolding after
    behind_call = record {
      clocks = clocks_after made now.table agrees.clocks;
      last = last_after;
      placed = placed_without task agrees.placed;
      unchanged = unchanged_without task agrees.placed agrees.unchanged;
      oldest = agrees.oldest;
      sound = after_sound made now.table agrees.sound (All-head (IsCheckedStep now.table.settings) made run agrees.checked);
      checked = checked_rest now.table made run agrees.sound agrees.checked;
      begins = subst (AllByRecursion Begins) (sym (waits_without task agrees.placed)) (without_all Begins task (map waits_of agrees.placed) agrees.begins);
      begun = subst (AllByRecursion HasBegun) (sym (ap (λ b. cond b now.unmade (rule.without_first task now.unmade)) begins))
          (without_first_all HasBegun task now.unmade agrees.begun);
      unmade = unmade_there;
      worked = worked_there;
      order = order_there;
      calls = calls_there;
      counts = agrees.counts;
      places = places_there;
      outside = outside_stays made now.outside refl ∙ agrees.outside;
    }

  -- ---- quiet work

  all_front : (front back : List WaitingCall) → AllByRecursion Begins (front ++ back) → AllByRecursion Begins front
  all_front [] back all = tt
  all_front (waits ∷ front) back all = (all.0, all_front front back all.1)

  begins_is : (waits : WaitingCall) → Begins waits → is_finish waits.call ≡ false
  begins_is waits is = is

  no_begin : (b : Bool) → (b && false) ≡ false
  no_begin true = refl
  no_begin false = refl

  module _ (waiting : List WaitingCall) (events : List Step) (step : Step) (run : List Step) (now : Progress)
      (agrees : Agrees tasks waiting events (step ∷ run) now) (quiet : quiet_step now.table waiting ≡ Some step) where
    piece : IsPiece Begins now.table waiting step
    piece = piece_of Begins begins_is now.table waiting step (all_front waiting (calls_in events) (subst (AllByRecursion Begins) agrees.calls agrees.begins)) quiet

    due_next : quiet_step now.table (due_calls now) ≡ Some step → next_step now ≡ Some step
    unfolding next_step
    due_next made = ap (λ o. option_or o (outside_step now)) made

    pub quiet_next : next_step now ≡ Some step
    quiet_next = at piece
      where
        at : IsPiece Begins now.table waiting step → next_step now ≡ Some step
        at (inl it) = due_next (it.always (due_calls now))
        at (inr (inl it)) = due_next (it.always (due_calls now))
        at (inr (inr it)) = call_next tasks waiting events step run now agrees it.waits it.is it.begins it.quiet quiet

    pub quiet_inner : comes_from_outside step ≡ false
    quiet_inner = at piece
      where
        at : IsPiece Begins now.table waiting step → comes_from_outside step ≡ false
        at (inl it) = ap comes_from_outside it.is
        at (inr (inl it)) = ap comes_from_outside it.is
        at (inr (inr it)) = ap comes_from_outside it.is

    pub quiet_behind : Agrees tasks (waiting_after waiting step) events run (after step now)
    quiet_behind = at piece
      where
        at : IsPiece Begins now.table waiting step → Agrees tasks (waiting_after waiting step) events run (after step now)
        at (inl it) =
            let none : (task : ℕ) → begins_call task step ≡ false = λ task. ap (begins_call task) it.is in
            subst (λ waiting. Agrees tasks waiting events run (after step now)) (sym (ap (waiting_after waiting) it.is))
            (behind_quiet waiting events step run now agrees (ap comes_from_outside it.is) none (ap (λ step. unmade_after step now.unmade) it.is)
            (λ task. ap (λ step. worked_after step now.table now.worked task) it.is))
        at (inr (inl it)) =
            let none : (task : ℕ) → begins_call task step ≡ false
            = λ task. ap (begins_call task) it.is ∙ no_begin (eqb (current now.table.control it.core) task) in
            subst (λ waiting. Agrees tasks waiting events run (after step now)) (sym (ap (waiting_after waiting) it.is))
            (behind_quiet waiting events step run now agrees (ap comes_from_outside it.is) none (ap (λ step. unmade_after step now.unmade) it.is)
            (λ task. ap (λ step. worked_after step now.table now.worked task) it.is))
        at (inr (inr it)) =
            let here = subst (λ step. Agrees tasks waiting events (step ∷ run) now) it.is agrees in
            let there = behind_call waiting events (core_running now.table it.waits.task) it.waits.task it.waits.call run now here it.begins it.fewer in
            let waits : waiting_after waiting step ≡ without_first it.waits.task waiting
            = ap (waiting_after waiting) it.is ∙ ap (λ b. cond b waiting (without_first it.waits.task waiting)) it.begins in
            subst (λ waiting. Agrees tasks waiting events run (after step now)) (sym waits)
            (subst (λ step. Agrees tasks (without_first it.waits.task waiting) events run (after step now)) (sym it.is) there)

  quiet_kept :
      (made rest : List Step) (waiting : List WaitingCall) (events : List Step) (now : Progress) (left : List WaitingCall)
      → Agrees tasks waiting events (made ++ rest) now → IsQuietWork now.table waiting made
      → ((there : Progress) → there.table ≡ state_after now.table made → Agrees tasks (still_waiting waiting made) events rest there
      → quiet_step there.table (still_waiting waiting made) ≡ None → IsKnownRun there rest left)
      → IsKnownRun now (made ++ rest) left
  unfolding after
  quiet_kept [] rest waiting events now left agrees quiet later = later now refl agrees quiet
  quiet_kept (step ∷ made) rest waiting events now left agrees quiet later =
      let behind = quiet_kept made rest (waiting_after waiting step) events (after step now) left
      (quiet_behind waiting events step (made ++ rest) now agrees quiet.0) quiet.1 later in (
        (quiet_next waiting events step (made ++ rest) now agrees quiet.0, behind.0),
        (
          λ comes. absurd (cc (comes, quiet_inner waiting events step (made ++ rest) now agrees quiet.0)),
          behind.1,
        ),
      )

  -- ---- events

  call_comes : (waiting : List WaitingCall) (core task : ℕ) (call : Call) (events run : List Step) (now : Progress)
      → Agrees tasks waiting (steps.Call core task call ∷ events) run now
      → Agrees tasks (waiting ++ record { task = task; call = call } ∷ []) events run now
  call_comes waiting core task call events run now agrees = record {
    clocks = agrees.clocks;
    last = agrees.last;
    placed = agrees.placed;
    unchanged = agrees.unchanged;
    oldest = agrees.oldest;
    sound = agrees.sound;
    checked = agrees.checked;
    begins = agrees.begins;
    begun = agrees.begun;
    unmade = agrees.unmade;
    worked = agrees.worked;
    order = agrees.order;
    calls = agrees.calls ∙ sym (append_assoc waiting (record { task = task; call = call } ∷ []) (calls_in events));
    counts = agrees.counts;
    places = agrees.places;
    outside = agrees.outside;
  }

  outside_call : (event : Step) (events : List Step) → comes_from_outside event ≡ true → calls_in (event ∷ events) ≡ calls_in events
  outside_call (steps.Call core task call) events comes = absurd (cc comes)
  outside_call event events comes = refl

  outside_comes : (waiting : List WaitingCall) (event : Step) (events run : List Step) (now : Progress) → comes_from_outside event ≡ true
      → Agrees tasks waiting (event ∷ events) run now → Agrees tasks waiting events run now
  outside_comes waiting event events run now comes agrees = record {
    clocks = agrees.clocks;
    last = agrees.last;
    placed = agrees.placed;
    unchanged = agrees.unchanged;
    oldest = agrees.oldest;
    sound = agrees.sound;
    checked = agrees.checked;
    begins = agrees.begins;
    begun = agrees.begun;
    unmade = agrees.unmade;
    worked = agrees.worked;
    order = agrees.order;
    calls = agrees.calls ∙ ap (λ calls. waiting ++ calls) (outside_call event events comes);
    counts = agrees.counts;
    places = agrees.places;
    outside = agrees.outside;
  }

  once :
      (event : Step) (rest : List Step) (waiting : List WaitingCall) (there : Progress) (left : List WaitingCall) (events : List Step)
      → comes_from_outside event ≡ true → IsSettledFrom (step_of event there.table).1 waiting events rest left
      → Agrees tasks waiting (event ∷ events) (event ∷ rest) there → quiet_step there.table waiting ≡ None
      → ((now : Progress) (waiting : List WaitingCall) (run : List Step) (left : List WaitingCall) → IsSettledFrom now.table waiting events run left
      → Agrees tasks waiting events run now → IsKnownRun now run left)
      → IsKnownRun there (event ∷ rest) left
  unfolding after
  once event rest waiting there left events comes settled agreed none later =
      let agrees = outside_comes waiting event events (event ∷ rest) there comes agreed in
      let behind = later (after event there) waiting rest left settled (behind_outside waiting events event rest there agrees comes) in (
        (outside_next tasks waiting events event rest there agrees comes none, behind.0),
        (λ is. not_at_end tasks waiting events event rest there agrees comes none, behind.1),
      )

  pub settled_kept :
      (events : List Step) (now : Progress) (waiting : List WaitingCall) (run : List Step) (left : List WaitingCall) → Events events
      → IsSettledFrom now.table waiting events run left
      → Agrees tasks waiting events run now → IsKnownRun now run left
  settled_kept [] now waiting run left are settled agrees =
      subst (λ run. IsKnownRun now run left) (append-nil run)
      (quiet_kept run [] waiting [] now left (subst (λ run. Agrees tasks waiting [] run now) (sym (append-nil run)) agrees) settled.0
      (λ there same agreed none.
      ((end_next tasks (still_waiting waiting run) there agreed none, left_there tasks (still_waiting waiting run) there agreed ∙ settled.1), tt)))
  settled_kept (event ∷ events) now waiting run left are settled agrees =
      let quiet = settled.0 in
      let rest = settled.1 in
      let once = made_at_once event in
      let next = fold-append (λ (table : Table) (step : Step). (step_of step table).1) now.table quiet once in
      let later = subst (λ table. IsSettledFrom table (waiting_with (still_waiting waiting quiet) event) events rest left) next settled.4 in
      subst (λ run. IsKnownRun now run left) (sym settled.2)
      (quiet_kept quiet (once ++ rest) waiting (event ∷ events) now left (subst (λ run. Agrees tasks waiting (event ∷ events) run now) settled.2 agrees)
      settled.3
      (λ there same agreed none.
      made event rest (still_waiting waiting quiet) there left events are.0
      (subst (λ table. IsSettledFrom (state_after table once) (waiting_with (still_waiting waiting quiet) event) events rest left) (sym same) later) agreed none
      (λ now waiting run left. settled_kept events now waiting run left are.1)))
    where
      made : (event : Step) (rest : List Step) (waiting : List WaitingCall) (there : Progress) (left : List WaitingCall) (events : List Step)
          → is_event event ≡ true
          → IsSettledFrom (state_after there.table (made_at_once event)) (waiting_with waiting event) events rest left
          → Agrees tasks waiting (event ∷ events) (made_at_once event ++ rest) there → quiet_step there.table waiting ≡ None
          → ((now : Progress) (waiting : List WaitingCall) (run : List Step) (left : List WaitingCall) → IsSettledFrom now.table waiting events run left
          → Agrees tasks waiting events run now → IsKnownRun now run left)
          → IsKnownRun there (made_at_once event ++ rest) left
      made (steps.Call core task call) rest waiting there left events is settled agreed none later =
          later there (waiting ++ record { task = task; call = call } ∷ []) rest left settled (call_comes waiting core task call events rest there agreed)
      made (Switch core) rest waiting there left events is settled agreed none later = absurd (cc is)
      made Tick rest waiting there left events is settled agreed none later =
          once Tick rest waiting there left events refl settled agreed none later
      made (Interrupt core note) rest waiting there left events is settled agreed none later =
          once (Interrupt core note) rest waiting there left events refl settled agreed none later
      made (QueueInterrupt core queue direction) rest waiting there left events is settled agreed none later =
          once (QueueInterrupt core queue direction) rest waiting there left events refl settled agreed none later
      made (ResumeInterrupt core task) rest waiting there left events is settled agreed none later =
          once (ResumeInterrupt core task) rest waiting there left events refl settled agreed none later
      made (Pass units) rest waiting there left events is settled agreed none later =
          once (Pass units) rest waiting there left events refl settled agreed none later
