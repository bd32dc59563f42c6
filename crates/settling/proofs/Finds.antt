-- What the searches for the next piece of quiet work find.
use Rattle.std.proofs.Common.{◌≡◌, ℕ, suc, ◌+◌, ◌-◌, ◌<◌, ◌≤◌, ◌≢◌, Bool, true, false, cond, not, eqb, leb, ◌&&◌, List, [], ◌∷◌, ◌++◌, length, get_or, map}
use Rattle.std.proofs.Common.{Option, Some, None, refl, sym, ap, subst, ◌∙◌, inl, inr, arith}
use Rattle.std.specs.Prelude.{◌⊎◌, option_map, option_to_list, is_none, is_some, replicate, slice_index, slice_set}
use Rattle.std.specs.List.{find, filter}
use Rattle.std.specs.Option.{option_or, option_map_or}
use Rattle.std.proofs.lemmas.Bool.{cases_eq, cases_lt, and_parts}
use Rattle.std.proofs.lemmas.Bool.Decides.{nat_tests}
use Rattle.std.proofs.lemmas.List.{get_or_read, get_or-set_other, get_or-set_same, length-set, length-replicate, get_or-replicate}
use Rattle.std.proofs.Math.Numerals.{add-one}
use Rattle.bench_types.specs.declared.kernel_data.Settings.{Settings}
use Rattle.bench_types.specs.declared.reply.Refusal.{Refusal}
use Rattle.bench_types.specs.declared.step.Step.{Step}
use Rattle.bench_types.specs.declared.step.Step.TheVariants.{Tick, Switch}
use Rattle.bench_types.specs.declared.step.Step.TheVariants as steps
use Rattle.bench_types.specs.declared.step.Call.TheVariants.{Finish}
use Rattle.list_orders.specs.Search.{numbers}
use Rattle.bench_model.specs.Control.{current}
use Rattle.bench_model.specs.Equal.{StandsFor}
use Rattle.bench_model.specs.Lists.{View}
use Rattle.bench_model.specs.Refusals.{refusal}
use Rattle.bench_model.specs.Sound.{IsSound}
use Rattle.bench_model.specs.Table.{Table, stamp_queues}
use Rattle.settled_runs.specs.declared.waiting_call.WaitingCall.{WaitingCall}
use Rattle.settled_runs.specs.Settled.{is_early, is_finish, is_open, is_timely, switches, finishes, finish_on, runs_user_task, core_running, on_its_core}
use Rattle.settled_runs.specs.Settled.{quiet_step}
use Rattle.settled_runs.proofs.Rests.{running_below, runs_core}
use Rattle.settled_runs.proofs.Timely.{timely_same, timely_runs}
use Rattle.settling.specs.Places.{step_at, call_in, begins, is_call_of, is_waiting_call, on_core, waiting_at, made_from, can_come, AreLinked, AreQueues, HasCallers}
use Rattle.settling.specs.Places.{IsNext, IsSearched}
use Rattle.settling.proofs.Places.{none_of_numbers, one_of_numbers, found_place, waiting_suc}

pub same_settings : (kernel : View) (table : Table) → StandsFor kernel table → table.settings ≡ kernel.settings
same_settings kernel table stands = ap (λ (view : View). view.settings) stands.shows

pub same_cores : (kernel : View) (table : Table) → StandsFor kernel table → table.settings.cores ≡ kernel.settings.cores
same_cores kernel table stands = ap (λ (settings : Settings). settings.cores) (same_settings kernel table stands)

-- ---- switches and calls of `finish`

find_map : {X Y : Type 0} (f : X → Y) (q : Y → Bool) (xs : List X) → find q (map f xs) ≡ option_map f (find (λ x. q (f x)) xs)
find_map f q [] = refl
find_map f q (x ∷ xs) = at (q (f x)) (find_map f q xs)
  where
    at : (b : Bool) → find q (map f xs) ≡ option_map f (find (λ x. q (f x)) xs)
        → cond b (Some (f x)) (find q (map f xs)) ≡ option_map f (cond b (Some x) (find (λ x. q (f x)) xs))
    at true rest = refl
    at false rest = rest

find_kept : {X : Type 0} (p q : X → Bool) (xs : List X) → find q (filter p xs) ≡ find (λ x. p x && q x) xs
find_kept p q [] = refl
find_kept p q (x ∷ xs) = at (p x) (q x) (find_kept p q xs)
  where
    at : (b d : Bool) → find q (filter p xs) ≡ find (λ x. p x && q x) xs
        → find q (cond b (x ∷ filter p xs) (filter p xs)) ≡ cond (b && q x) (Some x) (find (λ x. p x && q x) xs)
    at true d rest = ap (λ o. cond (q x) (Some x) o) rest
    at false d rest = rest

pub open_known : (table : Table) (step : Step) (why : Option Refusal) (free : Bool) → why ≡ refusal stamp_queues step table → is_some why ≡ not free
    → is_open table step ≡ free
unfolding is_open
open_known table step why free same known = ap is_none (sym same) ∙ at why free known
  where
    at : (why : Option Refusal) (free : Bool) → is_some why ≡ not free → is_none why ≡ free
    at None true known = refl
    at None false known = absurd (cc (known))
    at (Some why) true known = absurd (cc (known))
    at (Some why) false known = refl

pub switch_found : (table : Table) (core : ℕ) → core < table.settings.cores → is_open table (Switch core) ≡ true
    → ((k : ℕ) → k < core → is_open table (Switch k) ≡ false) → Some (Switch core) ≡ find (is_open table) (switches table)
switch_found table core below free others =
    sym (find_map Switch (is_open table) (numbers table.settings.cores)
    ∙ ap (option_map Switch) (one_of_numbers (λ k. is_open table (Switch k)) core table.settings.cores below free others))

pub no_switch_found : (table : Table) → ((k : ℕ) → k < table.settings.cores → is_open table (Switch k) ≡ false) → None ≡ find (is_open table) (switches table)
no_switch_found table others =
    sym (find_map Switch (is_open table) (numbers table.settings.cores)
    ∙ ap (option_map Switch) (none_of_numbers (λ k. is_open table (Switch k)) table.settings.cores others))

finishes_as : (table : Table)
    → find (is_open table) (finishes table) ≡ option_map (finish_on table)
    (find (λ k. runs_user_task table k && is_open table (finish_on table k)) (numbers table.settings.cores))
finishes_as table =
    find_map (finish_on table) (is_open table) (filter (runs_user_task table) (numbers table.settings.cores))
    ∙ ap (option_map (finish_on table)) (find_kept (runs_user_task table) (λ k. is_open table (finish_on table k)) (numbers table.settings.cores))

pub finish_found : (table : Table) (core : ℕ) → core < table.settings.cores → (runs_user_task table core && is_open table (finish_on table core)) ≡ true
    → ((k : ℕ) → k < core → (runs_user_task table k && is_open table (finish_on table k)) ≡ false)
    → Some (finish_on table core) ≡ find (is_open table) (finishes table)
finish_found table core below free others =
    sym (finishes_as table
    ∙ ap (option_map (finish_on table))
    (one_of_numbers (λ k. runs_user_task table k && is_open table (finish_on table k)) core table.settings.cores below free others))

pub no_finish_found : (table : Table) → ((k : ℕ) → k < table.settings.cores → (runs_user_task table k && is_open table (finish_on table k)) ≡ false)
    → None ≡ find (is_open table) (finishes table)
no_finish_found table others =
    sym (finishes_as table
    ∙ ap (option_map (finish_on table)) (none_of_numbers (λ k. runs_user_task table k && is_open table (finish_on table k)) table.settings.cores others))

pub timely_known : (table : Table) (step : Step) (why : Option Refusal) → why ≡ refusal stamp_queues step table
    → option_map_or (λ why. not (is_early why)) why true ≡ is_timely table step
unfolding is_timely
timely_known table step why same = ap (λ why. option_map_or (λ why. not (is_early why)) why true) same

pub next_known : (table : Table) (waiting : List WaitingCall) (switch finish call : Option Step) → switch ≡ find (is_open table) (switches table)
    → finish ≡ find (is_open table) (finishes table) → call ≡ find (is_timely table) (map (on_its_core table) waiting)
    → option_or switch (option_or finish call) ≡ quiet_step table waiting
unfolding quiet_step
next_known table waiting switch finish call first second third = λ i. option_or (first i) (option_or (second i) (third i))

pub next_at_switch : (table : Table) (waiting : List WaitingCall) (step : Step) → Some step ≡ find (is_open table) (switches table)
    → Some step ≡ quiet_step table waiting
next_at_switch table waiting step first =
    next_known table waiting (Some step) (find (is_open table) (finishes table)) (find (is_timely table) (map (on_its_core table) waiting)) first refl refl

pub next_at_finish : (table : Table) (waiting : List WaitingCall) (step : Step) → None ≡ find (is_open table) (switches table)
    → Some step ≡ find (is_open table) (finishes table) → Some step ≡ quiet_step table waiting
next_at_finish table waiting step first second =
    next_known table waiting None (Some step) (find (is_timely table) (map (on_its_core table) waiting)) first second refl

pub next_at_call : (table : Table) (waiting : List WaitingCall) (call : Option Step) → None ≡ find (is_open table) (switches table)
    → None ≡ find (is_open table) (finishes table) → call ≡ find (is_timely table) (map (on_its_core table) waiting) → call ≡ quiet_step table waiting
next_at_call table waiting call first second third = next_known table waiting None None call first second third

-- where no call waits
pub next_at_rest : (table : Table) (finish : Option Step) → None ≡ find (is_open table) (switches table)
    → finish ≡ find (is_open table) (finishes table) → finish ≡ quiet_step table []
next_at_rest table None first second = next_known table [] None None None first second refl
next_at_rest table (Some step) first second = next_known table [] None (Some step) None first second refl

-- ---- calls that wait

-- a call that begins
begin_call : (step : Step) → begins step ≡ true → is_finish (call_in step).call ≡ false
begin_call Tick is = absurd (cc (is))
begin_call (Switch core) is = absurd (cc (is))
begin_call (steps.Interrupt core note) is = absurd (cc (is))
begin_call (steps.QueueInterrupt core queue direction) is = absurd (cc (is))
begin_call (steps.ResumeInterrupt core task) is = absurd (cc (is))
begin_call (steps.Pass units) is = absurd (cc (is))
begin_call (steps.Call core task call) is = at (is_finish call) is
  where
    at : (b : Bool) → not b ≡ true → b ≡ false
    at true none = absurd (cc (none))
    at false none = refl

-- a call of the task
module _ (task : ℕ) (step : Step) (is : is_call_of task step ≡ true) where
  both_are : (begins step ≡ true) × (eqb (call_in step).task task ≡ true)
  both_are = and_parts (begins step) (eqb (call_in step).task task) is

  pub its_task : (call_in step).task ≡ task
  its_task = grind (arith, nat_tests, both_are.1)

  pub it_begins : is_finish (call_in step).call ≡ false
  it_begins = begin_call step both_are.0

module _ (table : Table) (heads next : List ℕ) (session : List Step) (come : ℕ) (sound : IsSound table)
    (queues : AreQueues session come table.settings.tasks heads next) where
  running_task : (core : ℕ) → core < table.settings.cores → current table.control core < table.settings.tasks
  running_task core below = let sized = sound.consistent.sized in
      omega (arith, sized.rows, sound.consistent.in_place.is_task core (omega (arith, sized.cores, below)))

  -- the first call of all: nothing before it can come
  none_before : (cores first : ℕ) (found : Option Step) → cores ≡ table.settings.cores → IsSearched table heads session come cores first found → (k : ℕ)
      → k < first → can_come table heads session k ≡ false
  none_before cores first found all searched k low = at (can_come table heads session k) refl
    where
      at : (b : Bool) → can_come table heads session k ≡ b → b ≡ false
      at false none = refl
      at true can = absurd (let step = step_at session k in
          let task = (call_in step).task in
          let both = and_parts (is_waiting_call heads session k) (is_timely table (made_from table session k)) can in
          let waits = and_parts (begins step) (leb (slice_index heads task) k) both.0 in
          let begin = begin_call step waits.0 in
          let core = core_running table task in
          let below = running_below table task sound in
          let runs : current table.control core ≡ task =
          (let test = timely_runs table core task (call_in step).call begin both.1 in grind (arith, nat_tests, test)) in
          let head = slice_index heads task in
          let least : head ≤ k = grind (arith, nat_tests, waits.1) in
          let user : task < table.settings.tasks = subst (λ task. task < table.settings.tasks) runs (running_task core below) in
          let is_head = queues.calls task user (omega (arith, least, low, searched.within, queues.reached)) in
          let here : slice_index heads (current table.control core) ≡ head = ap (slice_index heads) runs in
          let early = searched.others core (omega (arith, below, all)) (omega (arith, here, least, low)) in
          let first_step = step_at session head in
          let same_place = ap (λ place. is_timely table (on_core core (step_at session place))) here in
          let there : is_timely table (steps.Call core (call_in first_step).task (call_in first_step).call) ≡ false = sym same_place ∙ early in
          let own = ap (λ task. is_timely table (steps.Call core task (call_in first_step).call)) (its_task task first_step is_head) in
          let like = timely_same table core task (call_in step).call (call_in first_step).call begin (it_begins task first_step is_head) in
          cc (both.1, there, own, like))

  pub search_ends : (cores first : ℕ) (found : Option Step) → cores ≡ table.settings.cores → IsSearched table heads session come cores first found
      → found ≡ find (is_timely table) (map (on_its_core table) (waiting_at heads session come))
  search_ends cores first found all searched =
      let before = none_before cores first found all searched in
      elim (cases_lt first come) [
        | inl low ↦
            let some = searched.some low in
            some.1 ∙ sym
            (found_place table heads session come
            ∙ ap (option_map (made_from table session)) (one_of_numbers (can_come table heads session) first come low some.0 before))
        | inr high ↦
            let same : first ≡ come = omega (arith, high, searched.within) in
            searched.none same
            ∙ sym (found_place table heads session come
            ∙ ap (option_map (made_from table session))
            (none_of_numbers (can_come table heads session) come (λ k low. before k (omega (arith, low, same)))))
      ]

  -- the search begins, and goes over one more core
  pub search_begins : IsSearched table heads session come 0 come None
  search_begins = record {
    within = omega arith;
    none = λ same. refl;
    some = λ low. absurd (omega (arith, low));
    others = λ core below. absurd (omega (arith, below));
  }

  module _ (core first : ℕ) (found : Option Step) (below : core < table.settings.cores) (searched : IsSearched table heads session come core first found) where
    -- the next call of the core's task is behind, or has not come, or its task has not come to it
    pub search_passes :
        (first ≤ slice_index heads (current table.control core)) ⊎
        (is_timely table (on_core core (step_at session (slice_index heads (current table.control core)))) ≡ false)
        → IsSearched table heads session come (suc core) first found
    search_passes why = record {
      within = searched.within;
      none = searched.none;
      some = searched.some;
      others = λ other low early. elim (cases_eq other core) as
          (λ _. is_timely table (on_core other (step_at session (slice_index heads (current table.control other)))) ≡ false) [
            | inl same ↦
                subst (λ core. is_timely table (on_core core (step_at session (slice_index heads (current table.control core)))) ≡ false) (sym same)
                (at why (subst (λ core. slice_index heads (current table.control core) < first) same early))
            | inr away ↦ searched.others other (omega (arith, low, away)) early
          ];
    }
      where
        at : (first ≤ slice_index heads (current table.control core)) ⊎
            (is_timely table (on_core core (step_at session (slice_index heads (current table.control core)))) ≡ false)
            → slice_index heads (current table.control core) < first
            → is_timely table (on_core core (step_at session (slice_index heads (current table.control core)))) ≡ false
        at (inl behind) early = absurd (omega (arith, behind, early))
        at (inr untimely) early = untimely

    -- it is before what was found, and may be made
    pub search_finds :
        slice_index heads (current table.control core) < first
        → is_timely table (on_core core (step_at session (slice_index heads (current table.control core)))) ≡ true
        → IsSearched table heads session come (suc core) (slice_index heads (current table.control core))
        (Some (on_core core (step_at session (slice_index heads (current table.control core)))))
    search_finds early timely = record {
      within = omega (arith, early, searched.within);
      none = λ same. absurd (omega (arith, same, early, searched.within));
      some = λ low. (can, ap Some (sym made));
      others = λ other low before. elim (cases_eq other core) as
          (λ _. is_timely table (on_core other (step_at session (slice_index heads (current table.control other)))) ≡ false) [
            | inl same ↦ absurd (omega (arith, ap (λ core. slice_index heads (current table.control core)) same, before))
            | inr away ↦ searched.others other (omega (arith, low, away)) (omega (arith, before, early))
          ];
    }
      where
        is_own : is_call_of (current table.control core) (step_at session (slice_index heads (current table.control core))) ≡ true
        is_own = queues.calls (current table.control core) (running_task core below) (omega (arith, early, searched.within, queues.reached))

        task_is : (call_in (step_at session (slice_index heads (current table.control core)))).task ≡ current table.control core
        task_is = its_task (current table.control core) (step_at session (slice_index heads (current table.control core))) is_own

        made : made_from table session (slice_index heads (current table.control core)) ≡ on_core core
            (step_at session (slice_index heads (current table.control core)))
        made =
            let step = step_at session (slice_index heads (current table.control core)) in
            ap (λ core. steps.Call core (call_in step).task (call_in step).call) (ap (core_running table) task_is ∙ runs_core table core sound below)

        can : can_come table heads session (slice_index heads (current table.control core)) ≡ true
        can =
            let head = slice_index heads (current table.control core) in
            let step = step_at session head in
            let begin = (both_are (current table.control core) step is_own).0 in
            let low : leb head head ≡ true = grind (arith, nat_tests) in
            let least : leb (slice_index heads (call_in step).task) head ≡ true = ap (λ task. leb (slice_index heads task) head) task_is ∙ low in
            let may : is_timely table (made_from table session head) ≡ true = ap (is_timely table) made ∙ timely in
            (λ i. (begin i && least i) && may i)

no_both : (b : Bool) → (b && false) ≡ false
no_both true = refl
no_both false = refl

pub and_left : (b d : Bool) → b ≡ false → (b && d) ≡ false
and_left true d none = absurd (cc (none))
and_left false d none = refl

-- the core's user task may finish, or not
pub user_known : (table : Table) (core task : ℕ) (free : Bool) → task ≡ current table.control core → table.settings.cores ≤ task
    → is_open table (steps.Call core task Finish) ≡ free → (runs_user_task table core && is_open table (finish_on table core)) ≡ free
user_known table core task free runs user known =
    let is : leb table.settings.cores task ≡ true = grind (arith, nat_tests, user) in
    let here : leb table.settings.cores (current table.control core) ≡ true = ap (leb table.settings.cores) (sym runs) ∙ is in
    ap (λ b. b && is_open table (finish_on table core)) here ∙ subst (λ task. is_open table (steps.Call core task Finish) ≡ free) runs known

-- the next core's task, where its next call is at this place
module _ (table : Table) (heads next : List ℕ) (session : List Step) (come : ℕ) (sound : IsSound table)
    (queues : AreQueues session come table.settings.tasks heads next)
    (core first place : ℕ) (found : Option Step) (below : core < table.settings.cores) (searched : IsSearched table heads session come core first found)
    (head : place ≡ slice_index heads (current table.control core)) where
  pub passes_as : (first ≤ place) ⊎ (is_timely table (on_core core (step_at session place)) ≡ false)
      → IsSearched table heads session come (core + 1) first found
  passes_as why =
      let there = subst (λ place. (first ≤ place) ⊎ (is_timely table (on_core core (step_at session place)) ≡ false)) head why in
      subst (λ cores. IsSearched table heads session come cores first found) (sym (add-one core))
      (search_passes table heads next session come sound queues core first found below searched there)

  pub finds_as : (step : Step) → step ≡ on_core core (step_at session place) → place < first → is_timely table step ≡ true
      → IsSearched table heads session come (core + 1) place (Some step)
  finds_as step same early timely =
      let at = same ∙ ap (λ place. on_core core (step_at session place)) head in
      let all =
      search_finds table heads next session come sound queues core first found below searched (omega (arith, head, early))
      (ap (is_timely table) (sym at) ∙ timely) in
      let moved =
      subst (λ cores. IsSearched table heads session come cores (slice_index heads (current table.control core))
      (Some (on_core core (step_at session (slice_index heads (current table.control core)))))) (sym (add-one core)) all in
      let placed =
      subst (λ place. IsSearched table heads session come (core + 1) place
      (Some (on_core core (step_at session (slice_index heads (current table.control core)))))) (sym head) moved in
      subst (λ step. IsSearched table heads session come (core + 1) place (Some step)) (sym at) placed

pub moved :
    (table : Table) (heads : List ℕ) (session : List Step) (come cores first place : ℕ) (found step : Option Step) → first ≡ place → found ≡ step
    → IsSearched table heads session come cores place step → IsSearched table heads session come cores first found
moved table heads session come cores first place found step same like searched =
    subst (λ first. IsSearched table heads session come cores first found) (sym same)
    (subst (λ found. IsSearched table heads session come cores place found) (sym like) searched)

-- ---- each task's calls in a row

pub linked_start : (session : List Step) (tasks : ℕ) (heads next : List ℕ) → heads ≡ replicate tasks (length session)
    → next ≡ replicate (length session) (length session) → AreLinked session (length session) tasks heads next
linked_start session tasks heads next first second = record {
  reached = omega arith;
  head_each = ap length first ∙ length-replicate tasks (length session);
  next_each = ap length second ∙ length-replicate (length session) (length session);
  first = λ task user.
      let here : slice_index heads task ≡ length session = ap (λ heads. slice_index heads task) first ∙ get_or-replicate tasks task (length session) 0 user in
      record {
        low = omega (arith, here);
        high = omega (arith, here);
        call = λ low. absurd (omega (arith, here, low));
        between = λ other past low. absurd (omega (arith, here, past, low));
      };
  after = λ task place past low is. absurd (omega (arith, past, low));
}

module _ (session : List Step) (from tasks : ℕ) (heads next : List ℕ) (linked : AreLinked session (suc from) tasks heads next) where
  here_low : from < length session
  here_low = omega (arith, linked.reached)

  -- the next calls from one place earlier on, where that is none of the task
  earlier : (task place : ℕ) → is_call_of task (step_at session from) ≡ false → IsNext session task (suc from) place → IsNext session task from place
  earlier task place none later = record {
    low = omega (arith, later.low);
    high = later.high;
    call = later.call;
    between = λ other past low. elim (cases_eq other from) [
      | inl same ↦ ap (λ other. is_call_of task (step_at session other)) same ∙ none
      | inr away ↦ later.between other (omega (arith, past, away)) low
    ];
  }

  -- a step that is no call that begins
  pub linked_other : begins (step_at session from) ≡ false → AreLinked session from tasks heads next
  linked_other none = record {
    reached = omega (arith, linked.reached);
    head_each = linked.head_each;
    next_each = linked.next_each;
    first = λ task user. earlier task (slice_index heads task) (ap (λ b. b && eqb (call_in (step_at session from)).task task) none) (linked.first task user);
    after = λ task place past low is. elim (cases_eq place from) [
      | inl same ↦ absurd (cc (is, same, ap (λ b. b && eqb (call_in (step_at session from)).task task) none))
      | inr away ↦ linked.after task place (omega (arith, past, away)) low is
    ];
  }

  -- a call of the task
  module _ (task : ℕ) (user : task < tasks) (is : is_call_of task (step_at session from) ≡ true) where
    pub linked_call : AreLinked session from tasks (slice_set heads task from) (slice_set next from (slice_index heads task))
    linked_call = record {
      reached = omega (arith, linked.reached);
      head_each = length-set heads task from ∙ linked.head_each;
      next_each = length-set next from (slice_index heads task) ∙ linked.next_each;
      first = λ other low. elim (cases_eq other task) [
        | inl same ↦ subst (λ other. IsNext session other from (slice_index (slice_set heads task from) other)) (sym same) own
        | inr away ↦
            subst (IsNext session other from) (sym (get_or-set_other heads task other from 0 away))
            (earlier other (slice_index heads other) (not_own other away) (linked.first other low))
      ];
      after = λ other place past low call. elim (cases_eq place from) [
        | inl same ↦
            subst (λ place. IsNext session other (suc place) (slice_index (slice_set next from (slice_index heads task)) place)) (sym same)
            (first_after other (ap (λ place. is_call_of other (step_at session place)) (sym same) ∙ call))
        | inr away ↦
            subst (IsNext session other (suc place)) (sym (get_or-set_other next from place (slice_index heads task) 0 away))
            (linked.after other place (omega (arith, past, away)) low call)
      ];
    }
      where
        own : IsNext session task from (slice_index (slice_set heads task from) task)
        own = subst (IsNext session task from) (sym (get_or-set_same heads task from 0 (omega (arith, user, linked.head_each)))) (record {
          low = omega arith;
          high = omega (arith, linked.reached);
          call = λ low. is;
          between = λ other past low. absurd (omega (arith, past, low));
        })

        caller_is : (call_in (step_at session from)).task ≡ task
        caller_is = its_task task (step_at session from) is

        not_own : (other : ℕ) → other ≢ task → is_call_of other (step_at session from) ≡ false
        not_own other away =
            let apart : eqb (call_in (step_at session from)).task other ≡ false = grind (arith, nat_tests, caller_is, away) in
            ap (λ b. begins (step_at session from) && b) apart ∙ no_both (begins (step_at session from))

        first_after : (other : ℕ) → is_call_of other (step_at session from) ≡ true
            → IsNext session other (suc from) (slice_index (slice_set next from (slice_index heads task)) from)
        first_after other call =
            let same : task ≡ other = sym caller_is ∙ its_task other (step_at session from) call in
            let here = get_or-set_same next from (slice_index heads task) 0 (omega (arith, linked.reached, linked.next_each)) in
            subst (IsNext session other (suc from)) (sym here)
            (subst (λ other. IsNext session other (suc from) (slice_index heads task)) same (linked.first task user))

-- before any step has come
pub queues_begin : (session : List Step) (tasks : ℕ) (heads next : List ℕ) → AreLinked session 0 tasks heads next → AreQueues session 0 tasks heads next
queues_begin session tasks heads next linked = record {
  reached = omega arith;
  head_each = linked.head_each;
  next_each = linked.next_each;
  few = λ task user. (linked.first task user).high;
  calls = λ task user. (linked.first task user).call;
  later = λ task place user past low is. elim (cases_lt place (slice_index heads task)) [
    | inl early ↦ absurd (cc (is, (linked.first task user).between place past early))
    | inr late ↦ late
  ];
  after = λ task place low is. linked.after task place (omega arith) low is;
}

caller_known : (step : Step) (task : ℕ) → Some task ≡ cond (begins step) (Some (call_in step).task) None → is_call_of task step ≡ true
caller_known step task known = at (begins step) refl known
  where
    at : (b : Bool) → begins step ≡ b → Some task ≡ cond b (Some (call_in step).task) None → is_call_of task step ≡ true
    at true is known =
        let same : task ≡ (call_in step).task = cc (known) in
        let own : eqb (call_in step).task task ≡ true = grind (arith, nat_tests, same) in
        (λ i. is i && own i)
    at false none known = absurd (cc (known))

pub none_known : (step : Step) → None ≡ cond (begins step) (Some (call_in step).task) None → begins step ≡ false
none_known step known = at (begins step) known
  where
    at : (b : Bool) → None ≡ cond b (Some (call_in step).task) None → b ≡ false
    at true known = absurd (cc (known))
    at false known = refl

-- one place earlier on
module _ (session : List Step) (place tasks : ℕ) (heads next : List ℕ) (some : 0 < place) (linked : AreLinked session place tasks heads next) where
  before_it : AreLinked session (suc (place - 1)) tasks heads next
  before_it = let same : place ≡ suc (place - 1) = omega (arith, some) in subst (λ place. AreLinked session place tasks heads next) same linked

  pub linked_none : None ≡ cond (begins (step_at session (place - 1))) (Some (call_in (step_at session (place - 1))).task) None
      → AreLinked session (place - 1) tasks heads next
  linked_none known = linked_other session (place - 1) tasks heads next before_it (none_known (step_at session (place - 1)) known)

  pub linked_some : (task old : ℕ) → HasCallers session tasks → old ≡ get_or heads task old
      → Some task ≡ cond (begins (step_at session (place - 1))) (Some (call_in (step_at session (place - 1))).task) None
      → AreLinked session (place - 1) tasks (slice_set heads task (place - 1)) (slice_set next (place - 1) old)
  linked_some task old callers read known =
      let step = step_at session (place - 1) in
      let is = caller_known step task known in
      let begin = (both_are task step is).0 in
      let user : task < tasks = subst (λ task. task < tasks) (its_task task step is) (callers (place - 1) (omega (arith, some, linked.reached)) begin) in
      let here : old ≡ slice_index heads task = get_or_read heads task old (omega (arith, user, linked.head_each)) read 0 in
      subst (λ old. AreLinked session (place - 1) tasks (slice_set heads task (place - 1)) (slice_set next (place - 1) old)) (sym here)
      (linked_call session (place - 1) tasks heads next before_it task user is)

-- ---- the calls that are left

pub waits_none : (step : Step) (here : Bool) → None ≡ cond (begins step) (Some (call_in step)) None
    → None ≡ cond (begins step && here) (Some (call_in step)) None
waits_none step here known = at (begins step) known
  where
    at : (b : Bool) → None ≡ cond b (Some (call_in step)) None → None ≡ cond (b && here) (Some (call_in step)) None
    at true known = absurd (cc (known))
    at false known = refl

pub waits_some : (step : Step) (heads : List ℕ) (place : ℕ) (waits : WaitingCall) (here : Bool) → Some waits ≡ cond (begins step) (Some (call_in step)) None
    → leb (slice_index heads waits.task) place ≡ here
    → cond here (Some waits) None ≡ cond (begins step && leb (slice_index heads (call_in step).task) place) (Some (call_in step)) None
waits_some step heads place waits here known low = at (begins step) known
  where
    at : (b : Bool) → Some waits ≡ cond b (Some (call_in step)) None
        → cond here (Some waits) None ≡ cond (b && leb (slice_index heads (call_in step).task) place) (Some (call_in step)) None
    at true known =
        let same : waits ≡ call_in step = cc (known) in
        let same_low : here ≡ leb (slice_index heads (call_in step).task) place = sym low
        ∙ ap (λ (waits : WaitingCall). leb (slice_index heads waits.task) place) same in
        (λ i. cond (same_low i) (Some (same i)) None)
    at false known = absurd (cc (known))

-- the task of a call that begins, as of one of so many
pub waits_low : (session : List Step) (place tasks : ℕ) (waits : WaitingCall) → HasCallers session tasks → place < length session
    → Some waits ≡ cond (begins (step_at session place)) (Some (call_in (step_at session place))) None → waits.task < tasks
waits_low session place tasks waits callers low known = at (begins (step_at session place)) refl known
  where
    at : (b : Bool) → begins (step_at session place) ≡ b → Some waits ≡ cond b (Some (call_in (step_at session place))) None → waits.task < tasks
    at true begin known = let same : waits ≡ call_in (step_at session place) = cc (known) in
        subst (λ (waits : WaitingCall). waits.task < tasks) (sym same) (callers place low begin)
    at false none known = absurd (cc (known))

-- one more place
pub left_more : (heads : List ℕ) (session : List Step) (place : ℕ) (before after : List WaitingCall) (found : Option WaitingCall)
    → before ≡ waiting_at heads session place → found ≡ cond (is_waiting_call heads session place) (Some (call_in (step_at session place))) None
    → after ≡ before ++ option_to_list found → after ≡ waiting_at heads session (place + 1)
left_more heads session place before after found first known grows =
    grows ∙ (λ i. first i ++ option_to_list (known i)) ∙ ap (λ rest. waiting_at heads session place ++ rest) (at (is_waiting_call heads session place))
    ∙ sym (waiting_suc heads session place) ∙ ap (waiting_at heads session) (sym (add-one place))
  where
    at : (b : Bool) → option_to_list (cond b (Some (call_in (step_at session place))) None) ≡ cond b (call_in (step_at session place) ∷ []) []
    at true = refl
    at false = refl

pub left_none : (heads : List ℕ) (session : List Step) → [] ≡ waiting_at heads session 0
unfolding waiting_at
left_none heads session = refl
