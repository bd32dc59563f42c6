-- How a run that keeps work goes on.
use Rattle.std.proofs.Common.{◌≡◌, ℕ, suc, ◌+◌, ◌*◌, ◌^◌, ◌<◌, ◌≤◌, Bool, true, false, cond, eqb, List, [], ◌∷◌, ◌++◌, drop, length, map, Option, Some, None, refl, sym, ap, subst, ◌∙◌, inl, inr, arith}
use Rattle.std.specs.Prelude.{◌⊎◌, All, filter_map, option_map, slice_get, slice_index, slice_set}
use Rattle.std.specs.List.{cons_option, filter, find, range_with_len, AllByRecursion}
use Rattle.std.specs.Option.{option_or}
use Rattle.std.proofs.lemmas.Bool.{cases_eq, cases_lt}
use Rattle.std.proofs.lemmas.Bool.Decides.{nat_tests}
use Rattle.std.proofs.lemmas.List.{drop_all, get_or-set_same, get_or-set_other, length-append, length-map, length-set}
use Rattle.std.proofs.lemmas.List.FromFn.{length-range_with_len}
use Rattle.std.proofs.lemmas.List.Elements.{All-from_recursion, All-get_or, recursion_from_All}
use Rattle.bench_types.specs.declared.header.Header.{Header}
use Rattle.bench_types.specs.declared.kernel_data.Settings.{Settings}
use Rattle.bench_types.specs.declared.step.Call.{Call}
use Rattle.bench_types.specs.declared.step.Step.{Step}
use Rattle.bench_types.specs.declared.step.Step.TheVariants.{Tick, Switch, Interrupt, QueueInterrupt, ResumeInterrupt, Pass}
use Rattle.bench_types.specs.declared.step.Step.TheVariants as steps
use Rattle.bench_types.specs.Header.{IsCheckedHeader}
use Rattle.bench_types.specs.Limits.{max_steps}
use Rattle.bench_types.specs.Session.{Session}
use Rattle.bench_types.specs.Step.{settings_of, IsCheckedStep}
use Rattle.bench_types.proofs.Passes.{checked_header}
use Rattle.bench_model.specs.Equal.{StandsFor}
use Rattle.bench_model.specs.Lists.{View}
use Rattle.bench_model.specs.Session.{step_of, state_after}
use Rattle.bench_model.specs.Sound.{IsSound}
use Rattle.bench_model.specs.Start.{start}
use Rattle.bench_model.specs.Table.{Table}
use Rattle.step_laws.proofs.Along.{settings_after, start_settings}
use Rattle.session_runs.proofs.Goes.{state_push}
use Rattle.step_times.specs.Times.{time_of}
use Rattle.settled_runs.specs.declared.waiting_call.WaitingCall.{WaitingCall}
use Rattle.settled_runs.specs.Settled.{finishes, is_finish, is_open, is_timely, on_its_core, quiet_step, switches}
use Rattle.settled_runs.specs.SettleLaws.{comes_from_outside}
use Rattle.workload_runs.specs.Situations.{is_working}
use Rattle.kept_runs.specs.declared.call_order.CallOrder.{CallOrder}
use Rattle.kept_runs.specs.declared.clocks.Clock.{Clock}
use Rattle.kept_runs.specs.declared.works.Outside.{Outside}
use Rattle.kept_runs.specs.declared.works.Unmade.{Unmade}
use Rattle.kept_runs.specs.Clocks.{Clocks, clock_after, zero_clock}
use Rattle.kept_runs.specs.OrderLaws.{HasBegun}
use Rattle.kept_runs.specs.Rule.{Progress, after, as_waiting, cut, due_calls, firsts, in_order, is_before_time, is_within_tick, next_step, outside_after, outside_step, unmade_after, without_first, worked_after}
use Rattle.kept_runs.specs.Works.{is_pass, with_clock}
use Rattle.kept_runs.proofs.Dues.{quiet_is}
use Rattle.kept_runs.proofs.Firsts.{all_at, waiting_is, IsDue}
use Rattle.kept_runs.proofs.Keeping.{keeping_after, next_checked, IsCheckedOutside, IsKeeping, MayBeMade}
use Rattle.kept_runs.proofs.Pieces as pieces
use Rattle.kept_runs.proofs.Pieces.{origin, outside_stays, quiet_inside, unmade_stays, IsFromOutside, IsQuiet}
use Rattle.keeping.specs.declared.keeping.Keeping.{Keeping}
use Rattle.keeping.specs.declared.works.Works.{Works}
use Rattle.keeping.specs.Elapsing.{AreSmall, IsSmall}
use Rattle.keeping.specs.Progress.{caller_of, progress_at_start, Holds, HoldsRest, IsComing, IsGone, IsShort}
use Rattle.keeping.specs.declared.queues.Queues.{Queues}
use Rattle.keeping.specs.Queues.{call_at, is_unmade, unmade_in, AreInRows}
use Rattle.keeping.specs.Works.{clock_at, worked_calls, AreFit, IsUnmade, IsWorksAtStart}
use Rattle.keeping.proofs.Dues.{callers, first_calls}
use Rattle.keeping.proofs.Rows.{all_picked, is_first, made_rows, made_unmade}

-- ---- the next step

pub quiet_first : (table : Table) (waiting : List WaitingCall) (step : Step) → Some step ≡ quiet_step table [] → Some step ≡ quiet_step table waiting
unfolding quiet_step
quiet_first table waiting step known = at (find (is_open table) (switches table)) (find (is_open table) (finishes table)) known
  where
    at : (a b : Option Step) → Some step ≡ option_or a (option_or b None)
        → Some step ≡ option_or a (option_or b (find (is_timely table) (map (on_its_core table) waiting)))
    at (Some one) b known = known
    at None (Some one) known = known
    at None None known = absurd (cc known)

module _ (now : Progress) where
  pub next_at_quiet : (step : Step) → Some step ≡ quiet_step now.table [] → Some step ≡ next_step now
  unfolding next_step
  next_at_quiet step known = ap (λ o. option_or o (outside_step now)) (quiet_first now.table (due_calls now) step known)

  pub next_at_due : (step : Step) → None ≡ quiet_step now.table []
      → Some step ≡ find (is_timely now.table) (map (on_its_core now.table) (due_calls now)) → Some step ≡ next_step now
  unfolding next_step
  next_at_due step none known =
      ap (λ o. option_or o (outside_step now)) (known ∙ sym (quiet_is now.table (due_calls now) (sym none)))

  pub next_at_outside : (o : Option Step) → None ≡ quiet_step now.table []
      → None ≡ find (is_timely now.table) (map (on_its_core now.table) (due_calls now)) → o ≡ outside_step now → o ≡ next_step now
  unfolding next_step
  next_at_outside o none nothing is =
      is ∙ ap (λ o. option_or o (outside_step now)) (nothing ∙ sym (quiet_is now.table (due_calls now) (sym none)))

  pub outside_known : (o : Option Outside) → o ≡ slice_get now.outside 0 → option_map (λ (next : Outside). cut now next.step) o ≡ outside_step now
  unfolding outside_step
  outside_known o is = ap (option_map (λ (next : Outside). cut now next.step)) is

  pub no_due : is_within_tick now ≡ true → None ≡ find (is_timely now.table) (map (on_its_core now.table) (due_calls now))
  unfolding due_calls
  no_due within =
      sym (ap (λ b. find (is_timely now.table) (map (on_its_core now.table) (cond b [] (in_order now.order now.table (worked_calls now))))) within)

  pub due_known : is_within_tick now ≡ false
      → find (is_timely now.table) (map (on_its_core now.table) (in_order now.order now.table (worked_calls now)))
      ≡ find (is_timely now.table) (map (on_its_core now.table) (due_calls now))
  unfolding due_calls
  due_known apart =
      sym (ap (λ b. find (is_timely now.table) (map (on_its_core now.table) (cond b [] (in_order now.order now.table (worked_calls now))))) apart)

-- ---- what is kept holds of the rule

each_to : {X : Type 0} (P Q : X → Type 0) (xs : List X) → ((x : X) → P x → Q x) → AllByRecursion P xs → AllByRecursion Q xs
each_to P Q [] goes all = tt
each_to P Q (x ∷ xs) goes all = (goes x all.0, each_to P Q xs goes all.1)

both_to : {X : Type 0} (P Q R : X → Type 0) (xs : List X) → ((x : X) → P x → Q x → R x) → AllByRecursion P xs → AllByRecursion Q xs → AllByRecursion R xs
both_to P Q R [] goes one other = tt
both_to P Q R (x ∷ xs) goes one other = (goes x one.0 other.0, both_to P Q R xs goes one.1 other.1)

unmade_may : (settings : Settings) (one : Unmade) → IsUnmade settings one → MayBeMade settings one
unmade_may settings one is waits known =
    let it = waiting_is one waits known in record {
      checked = is.checked waits.call it.call;
      task = (omega (arith, is.low, it.task), omega (arith, is.task, it.task));
      begins = is.begins waits.call it.call;
    }

module _ (keeping : Keeping) (now : Progress) (holds : Holds keeping now) where
  abbrev calls : List Unmade
  calls = keeping.works.calls.items

  abbrev heads : List ℕ
  heads = keeping.works.queues.heads.items

  pub kernel_here : (kernel : View) → StandsFor kernel (state_after (start keeping.run.header) keeping.run.steps) → StandsFor kernel now.table
  kernel_here kernel stands = subst (StandsFor kernel) holds.table stands

  pub fit_here : AreFit now.table.settings keeping.works
  fit_here = subst (λ settings. AreFit settings keeping.works) (sym holds.settings) holds.fit

  unmade_here : AllByRecursion (IsUnmade now.table.settings) now.unmade
  unfolding unmade_in
  unmade_here =
      subst (AllByRecursion (IsUnmade now.table.settings)) holds.rest.works.unmade
      (all_picked (IsUnmade now.table.settings) (call_at calls) (is_unmade heads calls) (length calls) (length calls) 0 (omega arith) (λ index low is.
      All-get_or (IsUnmade now.table.settings) calls index _ low fit_here.checked))

  comings_here : AllByRecursion (IsComing now.table.settings) now.outside
  comings_here =
      recursion_from_All (IsComing now.table.settings) now.outside (subst (λ settings. All (IsComing settings) now.outside) (sym holds.settings) holds.comings)

  pub keeping_here : IsKeeping now
  keeping_here = record {
    sound = holds.sound;
    few = holds.cores;
    may = each_to (IsUnmade now.table.settings) (MayBeMade now.table.settings) now.unmade (unmade_may now.table.settings) unmade_here;
    good = record {
      begun = each_to (IsUnmade now.table.settings) HasBegun now.unmade (λ one is call known. is.begins call known) unmade_here;
      outsides = each_to (IsComing now.table.settings) (λ (one : Outside). comes_from_outside one.step ≡ true) now.outside (λ one is. is.comes) comings_here;
    };
    checked = each_to (IsComing now.table.settings) (IsCheckedOutside now.table.settings) now.outside (λ one is. is.checked) comings_here;
  }

  pub small_here : AreSmall keeping.works.worked.items
  small_here task low =
      let same = holds.rest.works.worked task low in
      let room = holds.room in
      let units = holds.short.units task in
      let later = holds.short.later task in
      subst IsSmall (sym same) (omega (arith, units, room), omega (arith, later, room))

  module _ (step : Step) (next : next_step now ≡ Some step) where
    pub checked_next : IsCheckedStep (settings_of keeping.run.header) step
    checked_next = subst (λ settings. IsCheckedStep settings step) holds.settings (next_checked now step keeping_here next)

    from_outside : comes_from_outside step ≡ true → IsFromOutside now step
    from_outside comes = at (origin now step keeping_here.good.begun next)
      where
        at : IsQuiet now step ⊎ IsFromOutside now step → IsFromOutside now step
        at (inl quiet) = absurd (let inside = quiet_inside now step quiet in cc (comes, inside))
        at (inr it) = it

    -- there is a step from outside to come
    pub some_to_come : comes_from_outside step ≡ true → keeping.outside.come < length keeping.outside.steps.items
    some_to_come comes = elim (cases_lt keeping.outside.come (length keeping.outside.steps.items)) [
      | inl low ↦ low
      | inr past ↦
          absurd (let it = from_outside comes in
          let none = drop_all keeping.outside.come keeping.outside.steps.items past in
          cc (holds.rest.outside, it.are, none))
    ]

    first_heads : AllByRecursion (λ (one : Unmade). slice_index heads one.task < length calls) (firsts now.unmade)
    first_heads =
        subst (AllByRecursion (λ (one : Unmade). slice_index heads one.task < length calls))
        (sym (first_calls keeping.works now holds.sound fit_here holds.rest.works (is_before_time now) refl))
        (all_picked (λ (one : Unmade). slice_index heads one.task < length calls) (call_at calls) (is_first heads calls) (length calls) (length calls) 0
        (omega arith) (λ index low own.
        let head : slice_index heads (call_at calls index).task ≡ index = grind (arith, nat_tests, own) in omega (arith, head, low)))

    module _ (task : ℕ) (calls_it : caller_of step ≡ Some task) where
      -- it is a call of the task
      pub its_call : (core : ℕ) × (call : Call) × (step ≡ steps.Call core task call) × (is_finish call ≡ false)
      its_call = at step refl calls_it
        where
          at : (it : Step) → step ≡ it → caller_of it ≡ Some task → (core : ℕ) × (call : Call) × (step ≡ steps.Call core task call) × (is_finish call ≡ false)
          at (steps.Call core other call) is known = which (is_finish call) refl known
            where
              which : (b : Bool) → is_finish call ≡ b → cond b None (Some other) ≡ Some task
                  → (core : ℕ) × (call : Call) × (step ≡ steps.Call core task call) × (is_finish call ≡ false)
              which true ends known = absurd (cc known)
              which false begins known =
                  let same : other ≡ task = cc known in
                  (core, call, is ∙ ap (λ task. steps.Call core task call) same, begins)
          at it is known = absurd (cc known)

      pub user_head : (task < now.table.settings.tasks) × (slice_index heads task < length calls)
      user_head = at (origin now step keeping_here.good.begun next)
        where
          of_due : (waits : WaitingCall) → IsDue now waits → step ≡ on_its_core now.table waits
              → (task < now.table.settings.tasks) × (slice_index heads task < length calls)
          of_due waits due is =
              let call = its_call in
              let same : waits.task ≡ task = cc (is, call.2) in
              let one = waiting_is due.one waits due.is in
              let head = all_at (λ (one : Unmade). slice_index heads one.task < length calls) (firsts now.unmade) due.one first_heads due.among in
              let user = all_at (λ (one : Unmade). one.task < now.table.settings.tasks) (firsts now.unmade) due.one
              (subst (AllByRecursion (λ (one : Unmade). one.task < now.table.settings.tasks))
              (sym (first_calls keeping.works now holds.sound fit_here holds.rest.works (is_before_time now) refl))
              (all_picked (λ (one : Unmade). one.task < now.table.settings.tasks) (call_at calls) (is_first heads calls) (length calls) (length calls) 0
              (omega arith) (λ index low own. callers keeping.works now holds.sound fit_here holds.rest.works (is_before_time now) refl index low))) due.among in
              let there : due.one.task ≡ task = one.task ∙ same in
              (omega (arith, user, there), subst (λ task. slice_index heads task < length calls) there head)

          at : IsQuiet now step ⊎ IsFromOutside now step → (task < now.table.settings.tasks) × (slice_index heads task < length calls)
          at (inl (inl it)) = absurd (let none = ap caller_of it.is in cc (calls_it, none))
          at (inl (inr (inl it))) = absurd (let none = ap caller_of it.is in cc (calls_it, none))
          at (inl (inr (inr it))) = of_due it.waits it.may it.is
          at (inr it) =
              absurd (let comes = pieces.from_outside now step keeping_here.good it in
              let call = its_call in
              let inside = ap comes_from_outside call.2 in cc (comes, inside))

-- ---- behind a step, beside the kernel

-- neither time goes by nor is a call made
idle_unmade : (step : Step) (unmade : List Unmade) → caller_of step ≡ None → unmade_after step unmade ≡ unmade
idle_unmade Tick unmade none = refl
idle_unmade (Switch core) unmade none = refl
idle_unmade (Interrupt core note) unmade none = refl
idle_unmade (QueueInterrupt core queue direction) unmade none = refl
idle_unmade (ResumeInterrupt core task) unmade none = refl
idle_unmade (Pass units) unmade none = refl
idle_unmade (steps.Call core task call) unmade none = at (is_finish call) none
  where
    at : (b : Bool) → cond b None (Some task) ≡ None → cond b unmade (without_first task unmade) ≡ unmade
    at true none = refl
    at false none = absurd (cc none)

inside_worked : (step : Step) (table : Table) (worked : Clocks) (task : ℕ) → comes_from_outside step ≡ false → caller_of step ≡ None
    → worked_after step table worked task ≡ worked task
inside_worked Tick table worked task inside none = absurd (cc inside)
inside_worked (Switch core) table worked task inside none = refl
inside_worked (Interrupt core note) table worked task inside none = absurd (cc inside)
inside_worked (QueueInterrupt core queue direction) table worked task inside none = absurd (cc inside)
inside_worked (ResumeInterrupt core other) table worked task inside none = absurd (cc inside)
inside_worked (Pass units) table worked task inside none = absurd (cc inside)
inside_worked (steps.Call core other call) table worked task inside none = at (is_finish call) none
  where
    at : (b : Bool) → cond b None (Some other) ≡ None → cond b worked (with_clock worked other zero_clock) task ≡ worked task
    at true none = refl
    at false none = absurd (cc none)

outside_worked : (step : Step) (table : Table) (worked : Clocks) (task : ℕ) → comes_from_outside step ≡ true
    → worked_after step table worked task ≡ cond (is_working table task) (clock_after (time_of table.settings.units step) (worked task)) (worked task)
outside_worked Tick table worked task comes = refl
outside_worked (Switch core) table worked task comes = absurd (cc comes)
outside_worked (Interrupt core note) table worked task comes = refl
outside_worked (QueueInterrupt core queue direction) table worked task comes = refl
outside_worked (ResumeInterrupt core other) table worked task comes = refl
outside_worked (Pass units) table worked task comes = refl
outside_worked (steps.Call core other call) table worked task comes = absurd (cc comes)

module _ (old : Keeping) (now : Progress) (holds : Holds old now) (step : Step) (next : next_step now ≡ Some step) where
  pub gone_idle : comes_from_outside step ≡ false → None ≡ caller_of step → IsGone step now old
  unfolding after
  gone_idle inside known = record {
    rest = record {
      order = holds.rest.order;
      works = record {
        unmade = holds.rest.works.unmade ∙ sym (idle_unmade step now.unmade (sym known));
        worked = λ task low. holds.rest.works.worked task low ∙ sym (inside_worked step now.table now.worked task inside (sym known));
      };
      outside = holds.rest.outside ∙ sym (outside_stays step now.outside inside);
    };
    fit = holds.fit;
    few = holds.few;
  }

  module _ (task : ℕ) (known : Some task ≡ caller_of step) where
    user : task < now.table.settings.tasks
    user = (user_head old now holds step next task (sym known)).0

    pub task_low : task < (settings_of old.run.header).tasks
    task_low = subst (λ (settings : Settings). task < settings.tasks) holds.settings user

    pub head_low : slice_index old.works.queues.heads.items task < length old.works.calls.items
    head_low = (user_head old now holds step next task (sym known)).1

    each_caller : (index : ℕ) → index < length old.works.calls.items → (call_at old.works.calls.items index).task < (settings_of old.run.header).tasks
    each_caller index low = (All-get_or (IsUnmade (settings_of old.run.header)) old.works.calls.items index _ low holds.fit.checked).task

    pub gone_call :
        (works : Works) → works.calls.items ≡ old.works.calls.items
        → works.queues.heads.items
        ≡ slice_set old.works.queues.heads.items task (slice_index old.works.queues.next.items (slice_index old.works.queues.heads.items task))
        → works.queues.next.items ≡ old.works.queues.next.items → works.worked.items ≡ slice_set old.works.worked.items task zero_clock
        → comes_from_outside step ≡ false → IsGone step now (record old { works = works })
    unfolding after
    gone_call works calls heads links worked inside =
        let call = its_call old now holds step next task (sym known) in
        let old_heads = old.works.queues.heads.items in
        let later = slice_set old_heads task (slice_index old.works.queues.next.items (slice_index old_heads task)) in
        let rows = holds.fit.rows in
        let tasks = (settings_of old.run.header).tasks in
        let gone : unmade_after step now.unmade ≡ without_first task now.unmade
        = ap (λ step. unmade_after step now.unmade) call.2 ∙ ap (λ b. cond b now.unmade (without_first task now.unmade)) call.3 in
        record {
          rest = record {
            order = holds.rest.order;
            works = record {
              unmade = (λ i. unmade_in (heads i) (calls i))
                  ∙ made_unmade old.works.calls.items tasks old_heads old.works.queues.next.items rows each_caller task task_low head_low
                  ∙ ap (without_first task) holds.rest.works.unmade ∙ sym gone;
              worked = λ other low. at other (omega (arith, low, ap length worked, length-set old.works.worked.items task zero_clock));
            };
            outside = holds.rest.outside ∙ sym (outside_stays step now.outside inside);
          };
          fit = record {
            checked = subst (All (IsUnmade (settings_of old.run.header))) (sym calls) holds.fit.checked;
            worked_each = ap length worked ∙ length-set old.works.worked.items task zero_clock ∙ holds.fit.worked_each;
            rows = later_rows;
          };
          few = omega (arith, ap length calls, holds.few);
        }
      where
        clocks : worked_after step now.table now.worked ≡ with_clock now.worked task zero_clock
        clocks = let call = its_call old now holds step next task (sym known) in
            ap (λ step. worked_after step now.table now.worked) call.2 ∙ ap (λ b. cond b now.worked (with_clock now.worked task zero_clock)) call.3

        at : (other : ℕ) → other < length old.works.worked.items → clock_at works.worked.items other ≡ worked_after step now.table now.worked other
        at other low =
            ap (λ worked. clock_at worked other) worked
            ∙ elim (cases_eq other task) [
              | inl same ↦
                  let own : eqb other task ≡ true = grind (arith, nat_tests, same) in
                  ap (clock_at (slice_set old.works.worked.items task zero_clock)) same
                  ∙ get_or-set_same old.works.worked.items task zero_clock zero_clock (omega (arith, same, low))
                  ∙ sym (ap (λ b. cond b zero_clock (now.worked other)) own)
              | inr away ↦
                  let apart : eqb other task ≡ false = grind (arith, nat_tests, away) in
                  get_or-set_other old.works.worked.items task other zero_clock zero_clock away ∙ holds.rest.works.worked other low
                  ∙ sym (ap (λ b. cond b zero_clock (now.worked other)) apart)
            ]
            ∙ sym (ap (λ (clocks : Clocks). clocks other) clocks)

        later_rows : AreInRows works.calls.items (settings_of old.run.header).tasks works.queues.heads.items works.queues.next.items
        later_rows =
            subst (λ calls. AreInRows calls (settings_of old.run.header).tasks works.queues.heads.items works.queues.next.items) (sym calls)
            (subst (λ heads. AreInRows old.works.calls.items (settings_of old.run.header).tasks heads works.queues.next.items) (sym heads)
            (subst (AreInRows old.works.calls.items (settings_of old.run.header).tasks _) (sym links)
            (made_rows old.works.calls.items (settings_of old.run.header).tasks old.works.queues.heads.items old.works.queues.next.items holds.fit.rows
            each_caller task task_low head_low)))

  pub gone_outside :
      (new : Keeping) → comes_from_outside step ≡ true → new.run ≡ old.run → new.order ≡ old.order → new.works.calls.items ≡ old.works.calls.items
      → new.works.queues ≡ old.works.queues → length new.works.worked.items ≡ length old.works.worked.items
      → ((task : ℕ) → task < length old.works.worked.items → clock_at new.works.worked.items task
      ≡ cond (is_working now.table task) (clock_after (time_of now.table.settings.units step) (clock_at old.works.worked.items task))
      (clock_at old.works.worked.items task))
      → drop new.outside.come new.outside.steps.items ≡ outside_after step (drop old.outside.come old.outside.steps.items) → IsGone step now new
  unfolding after
  gone_outside new comes run order calls queues many clocks come =
      let settings : settings_of old.run.header ≡ settings_of new.run.header = sym (ap (λ (run : Session). settings_of run.header) run) in
      record {
        rest = record {
          order = order ∙ holds.rest.order;
          works = record {
            unmade = (λ i. unmade_in (queues i).heads.items (calls i)) ∙ holds.rest.works.unmade ∙ sym (unmade_stays step now.unmade comes);
            worked = λ task low.
                let few : task < length old.works.worked.items = omega (arith, low, many) in
                clocks task few
                ∙ ap (λ clock. cond (is_working now.table task) (clock_after (time_of now.table.settings.units step) clock) clock)
                (holds.rest.works.worked task few)
                ∙ sym (outside_worked step now.table now.worked task comes);
          };
          outside = come ∙ ap (outside_after step) holds.rest.outside;
        };
        fit = subst (λ settings. AreFit settings new.works) settings (record {
          checked = subst (All (IsUnmade (settings_of old.run.header))) (sym calls) holds.fit.checked;
          worked_each = many ∙ holds.fit.worked_each;
          rows = subst (λ calls. AreInRows calls (settings_of old.run.header).tasks new.works.queues.heads.items new.works.queues.next.items) (sym calls)
              (subst (λ (queues : Queues). AreInRows old.works.calls.items (settings_of old.run.header).tasks queues.heads.items queues.next.items) (sym queues)
              holds.fit.rows);
        });
        few = omega (arith, ap length calls, holds.few);
      }

  -- ---- behind a step

  later_short : (count : ℕ) → IsShort count now → IsShort (count + 1) (after step now)
  unfolding after
  later_short count short = record {
    units = λ task. (both task).0;
    later = λ task. (both task).1;
  }
    where
      one_more : (time : ℕ) (clock : Clock) → time < 2 ^ 32 → clock.units ≤ count * 2 ^ 32 → clock.later ≤ count
          → ((clock_after time clock).units ≤ (count + 1) * 2 ^ 32) × ((clock_after time clock).later ≤ count + 1)
      one_more time clock small units later = at (eqb time 0)
        where
          at : (b : Bool) → ((cond b (record clock { later = suc clock.later }) (record { units = clock.units + time; later = 0 })).units ≤ (count + 1) * 2 ^ 32)
              × ((cond b (record clock { later = suc clock.later }) (record { units = clock.units + time; later = 0 })).later ≤ count + 1)
          at true = (omega (arith, units), omega (arith, later))
          at false = (omega (arith, units, small), omega arith)

      small_time : time_of now.table.settings.units step < 2 ^ 32
      small_time = at step (checked_next old now holds step next)
        where
          at : (step : Step) → IsCheckedStep (settings_of old.run.header) step → time_of now.table.settings.units step < 2 ^ 32
          at Tick checked = which (eqb now.table.settings.units 1)
            where
              which : (b : Bool) → cond b 1 0 < 2 ^ 32
              which true = omega arith
              which false = omega arith
          at (Pass units) checked = which (eqb now.table.settings.units 1)
            where
              which : (b : Bool) → cond b 0 units < 2 ^ 32
              which true = omega arith
              which false = checked.words
          at other checked = omega arith

      kept : (task : ℕ) → ((now.worked task).units ≤ (count + 1) * 2 ^ 32) × ((now.worked task).later ≤ count + 1)
      kept task = let units = short.units task in let later = short.later task in (omega (arith, units), omega (arith, later))

      outside_both : (task : ℕ) (b : Bool)
          → ((cond b (clock_after (time_of now.table.settings.units step) (now.worked task)) (now.worked task)).units ≤ (count + 1) * 2 ^ 32)
          × ((cond b (clock_after (time_of now.table.settings.units step) (now.worked task)) (now.worked task)).later ≤ count + 1)
      outside_both task true = one_more (time_of now.table.settings.units step) (now.worked task) small_time (short.units task) (short.later task)
      outside_both task false = kept task

      call_both : (task : ℕ) (b : Bool)
          → ((cond b zero_clock (now.worked task)).units ≤ (count + 1) * 2 ^ 32) × ((cond b zero_clock (now.worked task)).later ≤ count + 1)
      call_both task true = (omega arith, omega arith)
      call_both task false = kept task

      both : (task : ℕ)
          → ((worked_after step now.table now.worked task).units ≤ (count + 1) * 2 ^ 32) × ((worked_after step now.table now.worked task).later ≤ count + 1)
      both task = at (comes_from_outside step) refl (caller_of step) refl
        where
          at : (b : Bool) → comes_from_outside step ≡ b → (o : Option ℕ) → caller_of step ≡ o
              → ((worked_after step now.table now.worked task).units ≤ (count + 1) * 2 ^ 32) × ((worked_after step now.table now.worked task).later ≤ count + 1)
          at true comes o known =
              subst (λ (clock : Clock). (clock.units ≤ (count + 1) * 2 ^ 32) × (clock.later ≤ count + 1))
              (sym (outside_worked step now.table now.worked task comes)) (outside_both task (is_working now.table task))
          at false inside None none =
              subst (λ (clock : Clock). (clock.units ≤ (count + 1) * 2 ^ 32) × (clock.later ≤ count + 1))
              (sym (inside_worked step now.table now.worked task inside none)) (kept task)
          at false inside (Some other) known =
              let call = its_call old now holds step next other known in
              let clocks : worked_after step now.table now.worked ≡ with_clock now.worked other zero_clock
              = ap (λ step. worked_after step now.table now.worked) call.2 ∙ ap (λ b. cond b now.worked (with_clock now.worked other zero_clock)) call.3 in
              subst (λ (clock : Clock). (clock.units ≤ (count + 1) * 2 ^ 32) × (clock.later ≤ count + 1))
              (sym (ap (λ (clocks : Clocks). clocks task) clocks)) (call_both task (eqb task other))

  pub held_after : (new : Keeping) → new.run ≡ record old.run { steps = old.run.steps ++ step ∷ [] } → new.passed ≡ is_pass step
      → HoldsRest new (after step now) → AreFit (settings_of old.run.header) new.works → length new.works.calls.items < 2 ^ 32
      → length old.run.steps < max_steps → Holds new (after step now)
  unfolding after
  held_after new run passed rest fit few room =
      let header : new.run.header ≡ old.run.header = ap (λ (run : Session). run.header) run in
      let made : new.run.steps ≡ old.run.steps ++ step ∷ [] = ap (λ (run : Session). run.steps) run in
      let keeping = keeping_after step now (keeping_here old now holds) (next_checked now step (keeping_here old now holds) next) in
      let settings = settings_after now.table step holds.sound in
      let count : length new.run.steps ≡ length old.run.steps + 1 = omega (arith, ap length made, length-append old.run.steps (step ∷ [])) in
      let same : (step_of step now.table).1.settings ≡ settings_of new.run.header = settings ∙ holds.settings ∙ ap settings_of (sym header) in
      record {
        rest = rest;
        passed = passed;
        table = ap (λ (run : Session). state_after (start run.header) run.steps) run ∙ state_push (start old.run.header) old.run.steps step
            ∙ ap (λ (table : Table). (step_of step table).1) holds.table;
        sound = keeping.sound;
        cores = keeping.few;
        settings = same;
        fit = subst (λ header. AreFit (settings_of header) new.works) (sym header) fit;
        few = few;
        comings = subst (λ settings. All (IsComing settings) (outside_after step now.outside)) same
            (All-from_recursion (IsComing (step_of step now.table).1.settings) (outside_after step now.outside)
            (both_to (IsCheckedOutside (step_of step now.table).1.settings) (λ (one : Outside). comes_from_outside one.step ≡ true)
            (IsComing (step_of step now.table).1.settings) (outside_after step now.outside) (λ one checked comes. record { checked = checked; comes = comes })
            keeping.checked keeping.good.outsides));
        room = omega (arith, count, room);
        short = subst (λ count. IsShort count (after step now)) (sym count) (later_short (length old.run.steps) holds.short);
      }

-- ---- the start

pub held_at_start :
    (keeping : Keeping) (order : CallOrder) (header : Header) (unmade : List Unmade) (outside : List Outside) → IsCheckedHeader header
    → keeping.run ≡ record { header = header; steps = [] } → keeping.order ≡ order → keeping.passed ≡ false
    → keeping.outside.come ≡ 0 → keeping.outside.steps.items ≡ outside → IsWorksAtStart unmade (settings_of header).tasks keeping.works
    → All (IsUnmade (settings_of header)) unmade → All (IsComing (settings_of header)) outside → length unmade < 2 ^ 32
    → IsSound (state_after (start keeping.run.header) keeping.run.steps) → Holds keeping (progress_at_start order header unmade outside)
unfolding progress_at_start
held_at_start keeping order header unmade outside checked run order_is passed none steps works calls comings few sound =
    let begun : state_after (start keeping.run.header) keeping.run.steps ≡ start header = ap (λ (run : Session). state_after (start run.header) run.steps) run in
    let same : settings_of header ≡ settings_of keeping.run.header = sym (ap (λ (run : Session). settings_of run.header) run) in
    let limits = checked_header header checked.passes in
    let count : length keeping.run.steps ≡ 0 = ap (λ (run : Session). length run.steps) run in
    record {
      rest = record {
        order = order_is;
        works = record {
          unmade = ap (unmade_in keeping.works.queues.heads.items) works.are ∙ works.all;
          worked = λ task low. works.none task;
        };
        outside = λ i. drop (none i) (steps i);
      };
      passed = passed;
      table = begun;
      sound = subst IsSound begun sound;
      cores = subst (λ settings. settings.cores < 2 ^ 32) (sym (start_settings header)) (omega (arith, limits.few_cores));
      settings = start_settings header ∙ same;
      fit = subst (λ settings. AreFit settings keeping.works) same (record {
        checked = subst (All (IsUnmade (settings_of header))) (sym works.are) calls;
        worked_each = works.worked_each;
        rows = subst (λ calls. AreInRows calls (settings_of header).tasks keeping.works.queues.heads.items keeping.works.queues.next.items) (sym works.are) works.rows;
      });
      few = omega (arith, ap length works.are, few);
      comings = subst (λ settings. All (IsComing settings) outside) same comings;
      room = omega (arith, count);
      short = record { units = λ task. omega arith; later = λ task. omega arith };
    }

-- ---- the end

fewer_mapped : {X Y : Type 0} (h : X → Option Y) (xs : List X) → length (filter_map h xs) ≤ length xs
fewer_mapped h [] = omega arith
fewer_mapped {X} {Y} h (x ∷ xs) = at (h x) (fewer_mapped h xs)
  where
    at : (o : Option Y) → length (filter_map h xs) ≤ length xs → length (cons_option o (filter_map h xs)) ≤ suc (length xs)
    at None rest = omega (arith, rest)
    at (Some y) rest = omega (arith, rest)

fewer_kept : {X : Type 0} (q : X → Bool) (xs : List X) → length (filter q xs) ≤ length xs
fewer_kept q [] = omega arith
fewer_kept q (x ∷ xs) = at (q x) (fewer_kept q xs)
  where
    at : (b : Bool) → length (filter q xs) ≤ length xs → length (cond b (x ∷ filter q xs) (filter q xs)) ≤ suc (length xs)
    at true rest = omega (arith, rest)
    at false rest = omega (arith, rest)

pub few_left : (heads : List ℕ) (items : List Unmade) → length (filter_map as_waiting (unmade_in heads items)) ≤ length items
unfolding unmade_in
few_left firsts_at items =
    let kept = fewer_kept (is_unmade firsts_at items) (range_with_len 0 (length items)) in
    let mapped = length-map (filter (is_unmade firsts_at items) (range_with_len 0 (length items))) (call_at items) in
    let first = fewer_mapped as_waiting (map (call_at items) (filter (is_unmade firsts_at items) (range_with_len 0 (length items)))) in
    let all = length-range_with_len 0 (length items) in
    omega (arith, kept, mapped, first, all)
