-- The work of tasks, one step further.
use Rattle.std.proofs.Common.{◌≡◌, ℕ, zero, suc, ◌+◌, ◌<◌, ◌≤◌, ◌^◌, ◌-◌, Bool, true, false, not, List, [], ◌∷◌, ◌++◌, length, get_or, map, Option, Some, None, refl, sym, ap, ap₂, subst, ◌∙◌, arith, add-one, ◌⊎◌, inl, inr}
use Rattle.std.specs.Prelude.{◌==◌, ◌&&◌, ◌||◌, count_by, filter, find, is_some, option_map, slice_get, if◌then◌else◌}
use Rattle.std.specs.List.{range_with_len, sum, sum_by}
use Rattle.std.specs.Option.{option_and_then, option_map_or, option_or, ForSome}
use Rattle.std.proofs.lemmas.List.Folds.{find-append}
use Rattle.list_orders.proofs.Stamped.{numbers_more}
use Rattle.std.proofs.lemmas.List.{ext_get_or, get_or-map}
use Rattle.std.proofs.lemmas.List.Elements.{All-weaker}
use Rattle.std.proofs.lemmas.List.Sums.{sum-map}
use Rattle.std.proofs.lemmas.List.{length-map, map-append}
use Rattle.std.proofs.lemmas.List.FromFn.{get_or-map-range_with_len, length-map-range_with_len, length-range_with_len}
use Rattle.std.proofs.lemmas.List.Filters.{length-filter_both}
use Rattle.bench_types.specs.declared.header.Header.{Header}
use Rattle.bench_types.specs.declared.kernel_data.Settings.{Settings}
use Rattle.bench_types.specs.declared.reply.Reply.{Reply}
use Rattle.bench_types.specs.declared.step.Step.{Step}
use Rattle.bench_types.specs.Limits.{max_steps}
use Rattle.bench_types.specs.Session.{Session}
use Rattle.bench_types.specs.Step.{settings_of}
use Rattle.list_orders.specs.Search.{numbers}
use Rattle.bench_model.specs.Equal.{StandsFor}
use Rattle.bench_model.specs.Lists.{View, list_queues, lists_of, view_of}
use Rattle.bench_model.specs.Session.{state_at, step_of}
use Rattle.bench_model.specs.Sound.{IsConsistent}
use Rattle.bench_model.specs.Start.{start}
use Rattle.bench_model.specs.Table.{Stamps, Table, stamp_queues}
use Rattle.bench_model.specs.Control.{current}
use Rattle.bench_model.specs.State.{call_at}
use Rattle.bench_model.specs.Tally.{Moment, is_call_of, is_finish_of, is_tick, is_timeout, moment_at, says_run_out}
use Rattle.bench_types.specs.Cause.{cause_of}
use Rattle.bench_types.specs.declared.step.Unfinished.{Unfinished}
use Rattle.bench_types.specs.declared.step.Step.TheVariants.{Tick, Switch, Interrupt, QueueInterrupt, ResumeInterrupt, Pass}
use Rattle.bench_types.specs.declared.step.Step.TheVariants as steps
use Rattle.order_laws.proofs.Looks.{suspended_seen}
use Rattle.task_jobs.specs.declared.crowd.Crowd.{Crowd}
use Rattle.task_jobs.specs.declared.durations.Durations.{Durations}
use Rattle.task_jobs.specs.declared.waits.Wake.{Wake}
use Rattle.task_jobs.specs.declared.work.First.{First}
use Rattle.task_jobs.specs.declared.work.Turn.{Turn}
use Rattle.task_jobs.specs.declared.work.Work.{Work}
use Rattle.task_jobs.specs.Course.{Course}
use Rattle.task_jobs.specs.Crowds.{first_crowd, GoesOn, IsCrowdAt}
use Rattle.task_jobs.specs.Works.{first_work, latencies_now, responses_now, turn_at, wake_at, with_turn, work_at, HasRoom, IsQuiet}
use Rattle.task_jobs.proofs.Lists.{filter_more}
use Rattle.task_jobs.proofs.Crowded.{crowd_begins, crowd_goes_on, sum_more}
use Rattle.task_jobs.proofs.Worked.{work_begins, work_goes_on, work_is_counted, work_is_told, work_stays}
use Rattle.run_numbers.specs.declared.subject.JobNumber.{JobNumber}
use Rattle.run_numbers.specs.declared.subject.JobNumber.TheVariants as job
use Rattle.run_numbers.specs.declared.subject.Subject.{Subject}
use Rattle.run_numbers.specs.Stretches.{time_of_step}
use Rattle.run_numbers.specs.declared.look.Look.{Look}
use Rattle.run_numbers.specs.declared.subject.Subject.TheVariants as subjects
use Rattle.run_numbers.specs.AfterStep.{is_it, known_before}
use Rattle.run_numbers.specs.Counted.{AreCrowded, AreWorked, IsUntouched, IsWorkOf}
use Rattle.run_numbers.specs.Looks.{look_of, IsRow}
use Rattle.run_numbers.specs.Taking.{takers_in, AreTakers, AreTimesKept, AreTurned, IsTimeKept}
use Rattle.run_numbers.specs.Past.{ticks_after}
use Rattle.run_numbers.specs.Progress.{crowd_in, job_number, nothing_known, work_in}
use Rattle.run_numbers.specs.Readings.{job_reading, only, reading_in_all, IsSubjectOf}
use Rattle.run_numbers.specs.TaskCourse.{course_of, release_by, takes_at, tick_times, time_before, waiters_of}
use Rattle.run_numbers.specs.Turns.{first_in, turn_by, wake_by, work_before}
use Rattle.run_numbers.specs.Work.{asks, asks_for_work, core_of, is_for_work, is_request_of, mutex_in, released, rests, retakes, takes}
use Rattle.run_numbers.proofs.Idle.{fails_first, not_finish, seat_kept}
use Rattle.run_numbers.proofs.Seeing.{ready_seen}

-- ---- as it is seen of a kernel

rests_seen : (table : Table) (task : ℕ) → IsConsistent table → task < table.settings.tasks → rests list_queues task (view_of table) ≡ rests stamp_queues task table
rests_seen table task sound low = rw (ready_seen table task sound low) (rw (suspended_seen table task sound low) refl)

released_seen : (table : Table) (task : ℕ) (step : Step) (ticks : List ℕ) (now : ℕ) → released list_queues task step (view_of table) ticks now
    ≡ released stamp_queues task step table ticks now
unfolding lists_of
released_seen table task step ticks now = refl

same_turn : {a a' b b' c c' i i' : Bool} {d d' t t' : Option ℕ} {w w' : Wake} {e e' f f' g g' h h' : ℕ} → a ≡ a' → b ≡ b' → c ≡ c' → d ≡ d' → w ≡ w' →
    i ≡ i' → t ≡ t' → e ≡ e' → f ≡ f' → g ≡ g' → h ≡ h' →
    let one : Turn = record {
      rests = a;
      asks = b;
      retakes = c;
      core = d;
      wake = w;
      in_call = i;
      takes = t;
      place = e;
      before = f;
      after = g;
      release = h;
    } in
    let other : Turn = record {
      rests = a';
      asks = b';
      retakes = c';
      core = d';
      wake = w';
      in_call = i';
      takes = t';
      place = e';
      before = f';
      after = g';
      release = h';
    } in
    one ≡ other
same_turn a b c d w i t e f g h = cc

same_wake : {a a' b b' c c' : Bool} → a ≡ a' → b ≡ b' → c ≡ c' →
    let one : Wake = record { ready = a; tick = b; in_vain = c } in
    let other : Wake = record { ready = a'; tick = b'; in_vain = c' } in
    one ≡ other
same_wake a b c = cc

same_first : {a a' c c' d d' : Bool} {b b' e e' : Option ℕ} → a ≡ a' → b ≡ b' → c ≡ c' → d ≡ d' → e ≡ e' →
    let one : First = record { rests = a; core = b; ready = c; in_call = d; takes = e } in
    let other : First = record { rests = a'; core = b'; ready = c'; in_call = d'; takes = e' } in
    one ≡ other
same_first a b c d e = cc

-- tests that are alike find the same
find_alike : (p q : ℕ → Bool) (n : ℕ) → ((k : ℕ) → k < n → p k ≡ q k) → find p (numbers n) ≡ find q (numbers n)
find_alike p q zero same = refl
find_alike p q (suc n) same =
    more p
    ∙ ap (λ found. option_or found (find p (n ∷ []))) (find_alike p q n (λ k low. same k (omega (arith, low))))
    ∙ ap (λ b. option_or (find q (numbers n)) (if b then Some n else None)) (same n (omega arith))
    ∙ sym (more q)
  where
    more : (p : ℕ → Bool) → find p (numbers (suc n)) ≡ option_or (find p (numbers n)) (find p (n ∷ []))
    more p = ap (λ k. find p (numbers k)) (sym (add-one n)) ∙ ap (find p) (numbers_more n) ∙ find-append p (numbers n) (n ∷ [])

-- ---- one step further

module _ (session : Session) (place : ℕ) (step : Step) (there : slice_get session.steps place ≡ Some step) where
  abbrev here : Table
  here = state_at session.header session.steps place

  abbrev later_table : Table
  later_table = state_at session.header session.steps (suc place)

  abbrev moment : Moment Stamps
  moment = record { before = here; step = step; reply = (step_of step here).0; after = later_table }

  abbrev time : ℕ → ℕ
  time = time_before session.header session.steps

  told_there : {X : Type 0} (f : Moment Stamps → X) (d : X) → option_map_or f (moment_at session.header session.steps place) d ≡ f moment
  unfolding moment_at
  told_there f d = rw there refl

  pub ticks_next : (ticks : List ℕ) → ticks ≡ tick_times session.header session.steps place
      → ticks_after step (time (suc place)) ticks ≡ tick_times session.header session.steps (suc place)
  ticks_next ticks are =
      ap (ticks_after step (time (suc place))) are ∙ sym (
      ap (map ended) (filter_more ticks_at place)
      ∙ map-append ended (filter ticks_at (numbers place)) (if ticks_at place then place ∷ [] else [])
      ∙ ap (λ b. map ended (filter ticks_at (numbers place)) ++ map ended (if b then place ∷ [] else [])) (ap (λ found. option_map_or is_tick found false) there)
      ∙ at (is_tick step))
    where
      ticks_at : ℕ → Bool
      ticks_at k = option_map_or is_tick (slice_get session.steps k) false

      ended : ℕ → ℕ
      ended k = time (suc k)

      none_more : (ns : List ℕ) → ns ++ [] ≡ ns
      none_more [] = refl
      none_more (n ∷ ns) = ap (λ rest. n ∷ rest) (none_more ns)

      at : (b : Bool) → map ended (filter ticks_at (numbers place)) ++ map ended (if b then place ∷ [] else [])
          ≡ (if b then tick_times session.header session.steps place ++ time (suc place) ∷ [] else tick_times session.header session.steps place)
      at true = refl
      at false = none_more (map ended (filter ticks_at (numbers place)))

  module _ (later : View) (stood : StandsFor later later_table) where
    low_there : (task : ℕ) → task < later.settings.tasks → task < later_table.settings.tasks
    low_there task low = omega (arith, low, ap (λ (v : View). v.settings.tasks) stood.shows)

    -- what the step is to a task
    turn_there : (reply : Reply) → reply ≡ (step_of step here).0 → (task : ℕ) → task < later.settings.tasks →
        turn_by step reply (suc place) (time place) (time (suc place)) (tick_times session.header session.steps (suc place)) later task
        ≡ turn_at (course_of session.header session.steps task) place
    turn_there reply answered task low =
        let course = course_of session.header session.steps task in
        let ticks = tick_times session.header session.steps (suc place) in
        same_turn
        (ap (λ (v : View). rests list_queues task v) (sym stood.shows) ∙ rests_seen later_table task stood.sound.consistent (low_there task low))
        (ap (asks task step) answered ∙ sym (told_there (λ (m : Moment Stamps). asks task m.step m.reply) false))
        (ap (retakes task step) answered ∙ sym (told_there (λ (m : Moment Stamps). retakes task m.step m.reply) false))
        (ap (λ (v : View). core_of task v) (sym stood.shows))
        (same_wake
        (ap (λ (v : View). list_queues.is_ready task v.orders) (sym stood.shows)
        ∙ ready_seen later_table task stood.sound.consistent (low_there task low))
        (sym (ap (λ found. option_map_or is_tick found false) there))
        (ap (λ (r : Reply). is_finish_of task step && says_run_out r) answered ∙ sym (told_there (is_timeout task) false)))
        (ap (λ (v : View). is_some (call_at v.calls task)) (sym stood.shows))
        (ap (λ (v : View). takes task v) (sym stood.shows))
        refl refl refl
        (ap (λ (v : View). released list_queues task step v ticks (time (suc place))) (sym stood.shows)
        ∙ released_seen later_table task step ticks (time (suc place))
        ∙ sym (told_there (release_by session.header session.steps task (suc place)) 0))

    turned_there : (reply : Reply) → reply ≡ (step_of step here).0 → (more : List ℕ) (next before after : ℕ) → next ≡ suc place → before ≡ time place
        → after ≡ time (suc place) → more ≡ tick_times session.header session.steps (suc place) → (task : ℕ) → task < later.settings.tasks
        → turn_by step reply next before after more later task ≡ turn_at (course_of session.header session.steps task) place
    turned_there reply answered more next before after place_is before_is after_is ticks_are task low =
        same_turn refl refl refl refl refl refl refl place_is before_is after_is
        (ap₂ (λ (ts : List ℕ) (n : ℕ). released list_queues task step later ts n) ticks_are after_is)
        ∙ turn_there reply answered task low

    -- a step that does not concern a task, and after which it looks as before, is nothing to it
    module _ (kernel : View) (stands : StandsFor kernel here) (row : List ℕ) (settings : later.settings ≡ kernel.settings)
        (cores : IsRow row kernel) where
      no_request : (task : ℕ) (s : Step) → is_call_of task s ≡ false → is_request_of task s ≡ false
      no_request task Tick is = refl
      no_request task (Switch core) is = refl
      no_request task (Interrupt core note) is = refl
      no_request task (QueueInterrupt core queue direction) is = refl
      no_request task (ResumeInterrupt core other) is = refl
      no_request task (Pass units) is = refl
      no_request task (steps.Call core caller call) is = fails_first (caller == task) (asks_for_work call) is

      some_kept : (call : Option Unfinished) → is_some (option_map cause_of call) ≡ is_some call
      some_kept None = refl
      some_kept (Some call) = refl

      table_low : (task : ℕ) → task < later.settings.tasks → task < here.settings.tasks
      table_low task low = omega (arith, low, ap (λ (s : Settings). s.tasks) settings, ap (λ (v : View). v.settings.tasks) stands.shows)

      quiet : (looks : List (Option Look)) (task : ℕ) → task < later.settings.tasks → look_of later task ≡ look_of kernel task
          → IsUntouched looks row (known_before kernel step) step later task → IsQuiet (course_of session.header session.steps task) place
      quiet looks task low same untouched =
          let high = low_there task low in
          let here_low = table_low task low in
          let not_call = untouched.apart.caller in
          record {
            rests =
                sym (rests_seen later_table task stood.sound.consistent high) ∙ ap (λ (v : View). rests list_queues task v) stood.shows
                ∙ ap (λ (look : Look). look.suspended || (not look.ready && not look.suspended && option_map_or is_for_work look.cause false)) same
                ∙ ap (λ (v : View). rests list_queues task v) (sym stands.shows) ∙ rests_seen here task stands.sound.consistent here_low;
            asks =
                told_there (λ (m : Moment Stamps). asks task m.step m.reply) false
                ∙ fails_first (is_request_of task step) _ (no_request task step not_call);
            core =
                ap (λ (v : View). core_of task v) stood.shows
                ∙ ap (λ (s : Settings). find (λ core. current later.control core == task) (numbers s.cores)) settings
                ∙ find_alike (λ core. current later.control core == task) (λ core. current kernel.control core == task) kernel.settings.cores
                (λ core within. sym (seat_kept kernel later row step (step_of step here).0 task settings cores untouched.apart core within))
                ∙ ap (λ (v : View). core_of task v) (sym stands.shows);
            ready =
                sym (ready_seen later_table task stood.sound.consistent high) ∙ ap (λ (v : View). list_queues.is_ready task v.orders) stood.shows
                ∙ ap (λ (look : Look). look.ready) same ∙ ap (λ (v : View). list_queues.is_ready task v.orders) (sym stands.shows)
                ∙ ready_seen here task stands.sound.consistent here_low;
            in_vain =
                told_there (is_timeout task) false
                ∙ fails_first (is_finish_of task step) _ (not_finish kernel later row step (step_of step here).0 task settings cores untouched.apart step not_call);
            in_call =
                ap (λ (v : View). is_some (call_at v.calls task)) stood.shows ∙ sym (some_kept (call_at later.calls task))
                ∙ ap (λ (look : Look). is_some look.cause) same ∙ some_kept (call_at kernel.calls task)
                ∙ ap (λ (v : View). is_some (call_at v.calls task)) (sym stands.shows);
            takes =
                ap (λ (v : View). takes task v) stood.shows ∙ ap (λ (look : Look). option_and_then mutex_in look.cause) same
                ∙ ap (λ (v : View). takes task v) (sym stands.shows);
          }

      pub more_worked : (reply : Reply) → reply ≡ (step_of step here).0 → later.settings ≡ settings_of session.header → (looks : List (Option Look))
          → ((task : ℕ) → task < later.settings.tasks → IsUntouched looks row (known_before kernel step) step later task → look_of later task ≡ look_of kernel task)
          → (works made : List Work) (ticks more : List ℕ) (next before after : ℕ) → AreWorked session place works ticks → length made ≡ length works
          → next ≡ suc place → before ≡ time place → after ≡ time (suc place) → more ≡ ticks_after step (time (suc place)) ticks
          → AreTurned (turn_by step reply next before after more later) (IsUntouched looks row (known_before kernel step) step later) later.settings.tasks works made
          → AreWorked session (suc place) made more
      more_worked reply answered header looks alike works made ticks more next before after worked size place_is before_is after_is ticks_are turned =
          let all_ticks = ticks_are ∙ ticks_next ticks worked.ticks in
          record {
            size = size ∙ worked.size;
            each = λ task within.
                let old : task < length works = omega (arith, within, size) in
                let low : task < later.settings.tasks = omega (arith, old, worked.size, ap (λ (s : Settings). s.tasks) header) in
                let course = course_of session.header session.steps task in
                elim (turned task low) [
                  | inl is ↦
                      is
                      ∙ ap₂ with_turn (turned_there reply answered more next before after place_is before_is after_is all_ticks task low) (worked.each task old)
                      ∙ sym (work_goes_on course place)
                  | inr kept ↦ kept.1 ∙ worked.each task old ∙ sym (work_stays course place (quiet looks task low (alike task low kept.0) kept.0))
                ];
            ticks = all_ticks;
          }

-- ---- the waits for a mutex

-- how many tasks take the mutex at a place, by their work
takers_are : (session : Session) (place : ℕ) (works : List Work) (ticks : List ℕ) → AreWorked session place works ticks → (mutex : ℕ)
    → takers_in works mutex ≡ (waiters_of session.header session.steps mutex).count place
takers_are session place works ticks worked mutex =
    let tasks = (settings_of session.header).tasks in
    sym (sum-map by_work works)
    ∙ ap sum (
    ext_get_or 0 (map by_work works) (map by_task (numbers tasks)) (length-map works by_work ∙ worked.size ∙ sym (length-map-range_with_len by_task 0 tasks))
    (λ task low.
    let within : task < length works = omega (arith, low, length-map works by_work) in
    let high : task < tasks = omega (arith, within, worked.size) in
    get_or-map by_work works task (first_work nothing_known) 0 within ∙ ap (λ (work : Work). if is_it work.takes mutex then 1 else 0) (worked.each task within)
    ∙ sym (get_or-map-range_with_len by_task 0 tasks task task 0 high (omega arith))))
    ∙ sum-map by_task (numbers tasks)
  where
    by_work : Work → ℕ
    by_work work = if is_it work.takes mutex then 1 else 0

    by_task : ℕ → ℕ
    by_task task = if is_it (takes_at session.header session.steps place task) mutex then 1 else 0

pub takers_of : (session : Session) (place : ℕ) (works : List Work) (ticks : List ℕ) (crowds : List Crowd) → AreWorked session place works ticks
    → AreCrowded session place crowds → AreTakers works crowds
takers_of session place works ticks crowds worked crowded mutex low = (crowded.each mutex low).tasks ∙ sym (takers_are session place works ticks worked mutex)

pub more_crowded : (session : Session) (place now : ℕ) (works : List Work) (ticks : List ℕ) (old new : List Crowd) → AreCrowded session place old
    → AreWorked session (suc place) works ticks → now ≡ time_before session.header session.steps (suc place) → length new ≡ length old
    → AreTakers works new → AreTimesKept now old new → AreCrowded session (suc place) new
more_crowded session place now works ticks old new crowded worked now_is size takers times = record {
  size = size ∙ crowded.size;
  each = λ mutex within.
      let low : mutex < length old = omega (arith, within, size) in
      let waiters = waiters_of session.header session.steps mutex in
      let kept = subst (λ now. IsTimeKept now (crowd_in old mutex) (crowd_in new mutex)) now_is (times mutex low) in
      let here = crowded.each mutex low in
      let on : waiters.time place ≤ waiters.time (suc place) =
      omega (arith, sum_more (time_of_step session.header session.steps) place) in
      crowd_goes_on waiters place (crowd_in old mutex) (crowd_in new mutex) here (record {
        tasks = takers mutex within ∙ takers_are session (suc place) works ticks worked mutex;
        time = on;
        since = kept.since (omega (arith, here.since, on));
        told = kept.told;
      });
}

pub first_crowded : (session : Session) (works : List Work) (ticks : List ℕ) (crowds : List Crowd) (mutexes : ℕ) → AreWorked session 0 works ticks
    → mutexes ≡ (settings_of session.header).mutexes → crowds ≡ map (λ mutex. first_crowd (takers_in works mutex)) (numbers mutexes)
    → AreCrowded session 0 crowds
first_crowded session works ticks crowds mutexes worked mutexes_are made =
    let of : ℕ → Crowd = λ mutex. first_crowd (takers_in works mutex) in
    let size : length crowds ≡ mutexes = ap (λ (cs : List Crowd). length cs) made ∙ length-map-range_with_len of 0 mutexes in
    record {
      size = size ∙ mutexes_are;
      each = λ mutex within.
          let low : mutex < mutexes = omega (arith, within, size) in
          let waiters = waiters_of session.header session.steps mutex in
          let own : crowd_in crowds mutex ≡ first_crowd (waiters.count 0) =
          ap (λ (cs : List Crowd). crowd_in cs mutex) made
          ∙ get_or-map-range_with_len of 0 mutexes mutex mutex (first_crowd 0) low (omega arith)
          ∙ ap first_crowd (takers_are session 0 works ticks worked mutex) in
          subst (IsCrowdAt waiters 0) (sym own) (crowd_begins waiters refl);
    }

-- no more ticks than places
pub few_ticks : (session : Session) (place : ℕ) (ticks : List ℕ) → ticks ≡ tick_times session.header session.steps place → length ticks ≤ place
few_ticks session place ticks are =
    let ticks_at : ℕ → Bool = λ k. option_map_or is_tick (slice_get session.steps k) false in
    let ended : ℕ → ℕ = λ k. time_before session.header session.steps (suc k) in
    omega (
      arith,
      ap (λ (ts : List ℕ). length ts) are,
      length-map (filter ticks_at (numbers place)) ended,
      length-filter_both ticks_at (λ k. not (ticks_at k)) (λ k. refl) (numbers place),
      length-range_with_len 0 place,
    )

-- ---- before any step

pub first_worked : (session : Session) (kernel : View) (works : List Work) → StandsFor kernel (start session.header) → kernel.settings ≡ settings_of session.header
    → works ≡ map (work_before kernel) (numbers kernel.settings.tasks) → AreWorked session 0 works []
unfolding state_at
first_worked session kernel works stands settings made = record {
  size = size;
  each = λ task within.
      let low : task < kernel.settings.tasks = omega (arith, within, size, ap (λ (s : Settings). s.tasks) settings) in
      let course = course_of session.header session.steps task in
      let seen : task < (start session.header).settings.tasks = omega (arith, low, ap (λ (v : View). v.settings.tasks) stands.shows) in
      ap (λ ws. work_in ws task) made
      ∙ get_or-map-range_with_len (work_before kernel) 0 kernel.settings.tasks task task (first_work nothing_known) low (omega arith)
      ∙ ap first_work
      (same_first
      (ap (λ (v : View). rests list_queues task v) (sym stands.shows) ∙ rests_seen (start session.header) task stands.sound.consistent seen)
      (ap (λ (v : View). core_of task v) (sym stands.shows))
      (ap (λ (v : View). list_queues.is_ready task v.orders) (sym stands.shows) ∙ ready_seen (start session.header) task stands.sound.consistent seen)
      (ap (λ (v : View). is_some (call_at v.calls task)) (sym stands.shows))
      (ap (λ (v : View). takes task v) (sym stands.shows)))
      ∙ sym (work_begins course refl refl);
  ticks = refl;
}
  where
    size : length works ≡ (settings_of session.header).tasks
    size =
        ap (λ (ws : List Work). length ws) made ∙ length-map-range_with_len (work_before kernel) 0 kernel.settings.tasks
        ∙ ap (λ (s : Settings). s.tasks) settings

-- ---- what is known of it

pub have_work_room : (session : Session) (place : ℕ) (works : List Work) (ticks : List ℕ) → AreWorked session place works ticks → place ≤ max_steps → (task : ℕ)
    → task < length works → HasRoom (work_in works task)
have_work_room session place works ticks worked few task within =
    let course = course_of session.header session.steps task in
    subst HasRoom (sym (worked.each task within)) (record {
      responses = omega (arith, few, work_is_counted.responses course place);
      latencies = omega (arith, few, work_is_counted.latencies course place);
      periods = omega (arith, few, work_is_counted.periods course place);
      histogram = All-weaker (λ count. count ≤ place) (λ count. count < 2 ^ 32 - 1) (λ count low. omega (arith, few, low))
          (work_at course place).histogram.counts (work_is_counted.histogram course place);
      moves = omega (arith, few, work_is_counted.moves course place);
      waits = omega (arith, few, work_is_counted.waits course place);
    })

pub job_told : (course : Course) (place now : ℕ) (work : Work) → work ≡ work_at course place → now ≡ course.time place → (number : JobNumber) → job_number now work
    number ≡ job_reading course place number
job_told course place now work is time job.Count =
    ap₂ (λ (n : ℕ) (w : Work). only (responses_now n w).count) time is ∙ ap (λ (all : Durations). only all.count) (work_is_told.responses course place)
job_told course place now work is time job.Response =
    ap₂ (λ (n : ℕ) (w : Work). reading_in_all (responses_now n w)) time is ∙ ap reading_in_all (work_is_told.responses course place)
job_told course place now work is time job.ShortestResponse = ap (λ (w : Work). only w.responses.shortest) is
job_told course place now work is time job.Latency =
    ap₂ (λ (n : ℕ) (w : Work). reading_in_all (latencies_now n w)) time is ∙ ap reading_in_all (work_is_told.latencies course place)
job_told course place now work is time job.Period = ap (λ (w : Work). reading_in_all w.periods) is
job_told course place now work is time job.ShortestPeriod = ap (λ (w : Work). only w.periods.shortest) is

-- the work of a subject is known
pub is_work_of : (session : Session) (works : List Work) (ticks : List ℕ) (crowds : List Crowd) → AreWorked session (length session.steps) works ticks
    → AreCrowded session (length session.steps) crowds → length session.steps ≤ max_steps → (subject : Subject)
    → IsSubjectOf (settings_of session.header) subject → IsWorkOf works crowds subject
is_work_of session works ticks crowds worked crowded few (subjects.Job task number) known =
    let within : task < length works = omega (arith, known, worked.size) in
    (within, have_work_room session (length session.steps) works ticks worked few task within)
is_work_of session works ticks crowds worked crowded few (subjects.Migrations task) known = omega (arith, known, worked.size)
is_work_of session works ticks crowds worked crowded few (subjects.RanOut task) known = omega (arith, known, worked.size)
is_work_of session works ticks crowds worked crowded few (subjects.Unfinished task) known = omega (arith, known, worked.size)
is_work_of session works ticks crowds worked crowded few (subjects.MutexWait mutex) known = omega (arith, known, crowded.size)
is_work_of session works ticks crowds worked crowded few (subjects.Time condition) known = tt
is_work_of session works ticks crowds worked crowded few (subjects.Steps event) known = tt
is_work_of session works ticks crowds worked crowded few (subjects.TopPriority task) known = tt
is_work_of session works ticks crowds worked crowded few (subjects.MostMessages queue) known = tt
is_work_of session works ticks crowds worked crowded few (subjects.NotMade task) known = tt
is_work_of session works ticks crowds worked crowded few (subjects.Run number) known = tt
