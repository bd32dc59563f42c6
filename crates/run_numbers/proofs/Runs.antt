-- The counters of all subjects, from the start of a run to its end.
use Rattle.std.proofs.Common.{◌≡◌, get_or, ℕ, zero, suc, ◌+◌, ◌-◌, ◌*◌, ◌==◌, ◌^◌, ◌<◌, ◌≤◌, Bool, true, false, List, [], ◌∷◌, ◌++◌, length, length-append, map, Option, Some, None, refl, sym}
use Rattle.std.proofs.Common.{ap, subst, ◌∙◌, arith, inl, inr}
use Rattle.std.proofs.lemmas.Option.{slice_get-get_or}
use Rattle.std.specs.Prelude.{◌≢◌, if◌then◌else◌, is_some, min, option_map, slice_get}
use Rattle.std.specs.List.{sum_by}
use Rattle.std.specs.Option.{option_map_or, ForSome}
use Rattle.std.proofs.lemmas.List.{ext_get_or, length-map, get_or-map}
use Rattle.std.specs.Prelude.{All}
use Rattle.std.proofs.lemmas.List.Elements.{All-get_or}
use Rattle.std.proofs.lemmas.List.FromFn.{length-range_with_len, length-map-range_with_len, get_or-map-range_with_len}
use Rattle.std.proofs.lemmas.List.Sums.{count_by-le-length}
use Rattle.bench_types.specs.declared.header.Header.{Header}
use Rattle.bench_types.specs.declared.reply.Reply.{Reply}
use Rattle.bench_types.specs.declared.step.Step.{Step}
use Rattle.bench_types.specs.declared.step.Step.TheVariants.{Tick}
use Rattle.bench_types.specs.Limits.{max_steps}
use Rattle.bench_types.specs.Session.{Session}
use Rattle.bench_types.specs.Step.{settings_of}
use Rattle.bench_types.specs.declared.kernel_data.Settings.{Settings}
use Rattle.list_orders.specs.Search.{numbers}
use Rattle.bench_model.specs.Control.{task_at}
use Rattle.bench_model.specs.Equal.{StandsFor}
use Rattle.bench_model.specs.Lists.{View, view_of, list_queues}
use Rattle.bench_model.specs.Queues.{queue_at}
use Rattle.bench_model.specs.Tallied.{one_if}
use Rattle.bench_model.specs.Session.{state_at, step_of}
use Rattle.bench_model.specs.Start.{start}
use Rattle.bench_model.specs.Table.{Stamps, Table, stamp_queues}
use Rattle.bench_model.specs.Tally.{Moment}
use Rattle.step_times.specs.Times.{time_of}
use Rattle.smp_kernel.specs.Raised.{raised_by}
use Rattle.settled_runs.specs.declared.waiting_call.WaitingCall.{WaitingCall}
use Rattle.run_numbers.specs.declared.counter.Counter.{Counter}
use Rattle.run_numbers.specs.declared.counter.Since.{Since}
use Rattle.run_numbers.specs.declared.subject.Condition.{Condition}
use Rattle.run_numbers.specs.declared.look.Look.{Look}
use Rattle.run_numbers.specs.declared.subject.Reading.{Reading}
use Rattle.run_numbers.specs.declared.subject.Subject.{Subject}
use Rattle.run_numbers.specs.declared.subject.Subject.TheVariants.{Time, Steps, TopPriority, MostMessages, NotMade, Job, Migrations, RanOut, Unfinished, MutexWait, Run}
use Rattle.run_numbers.specs.declared.taking.Plan.{Plan}
use Rattle.run_numbers.specs.AfterStep.{known_before, left_by}
use Rattle.run_numbers.specs.Conditions.{holds}
use Rattle.run_numbers.specs.Counted.{AreCounted, AreCrowded, AreTold, AreWorked, HaveRoom, IsOpen, IsUntouched, Tells}
use Rattle.run_numbers.specs.Counters.{first_counter, told, took, with_stretch, HasRoom, HasRoomFor}
use Rattle.run_numbers.specs.Gauge.{Gauge}
use Rattle.run_numbers.specs.Events.{happens}
use Rattle.run_numbers.specs.Gauges.{found, spell_after}
use Rattle.run_numbers.specs.Looks.{look_of, IsKnown, IsRow}
use Rattle.run_numbers.specs.Past.{Past, past, past_after}
use Rattle.task_jobs.specs.declared.crowd.Crowd.{Crowd}
use Rattle.task_jobs.specs.declared.work.Work.{Work}
use Rattle.task_jobs.specs.Crowds.{told as told_crowd}
use Rattle.run_numbers.specs.Progress.{counter_in, crowd_in, first, measured_at, measured_in, stepped, subject_in, work_in}
use Rattle.run_numbers.specs.Readings.{measured, only, run_number, run_time, IsSubjectOf}
use Rattle.run_numbers.specs.TaskCourse.{course_of}
use Rattle.run_numbers.proofs.Working.{job_told}
use Rattle.run_numbers.specs.SoFar.{gauge_at, in_use_at, passed}
use Rattle.run_numbers.specs.Moments.{passes_at}
use Rattle.run_numbers.specs.Stretches.{found_at, holds_at, stretch_at, time_of_step}
use Rattle.run_numbers.specs.Taking.{row_at, AreLooked, AreTaken, IsPlanOf}
use Rattle.run_numbers.specs.Tasks.{task_of}
use Rattle.run_numbers.proofs.Counting.{for_none, for_some, is_found as found_is, is_taken, IsFound}
use Rattle.run_numbers.proofs.Idle.{is_idle}
use Rattle.run_numbers.proofs.Lawful.{below_top}
use Rattle.run_numbers.proofs.Places.{find_top, next_state, sum_more, sum_within}
use Rattle.run_numbers.proofs.Steps.{gauge_more, kept}

-- ---- rooms

-- no more ticks or steps than places
few_passed : (header : Header) (steps : List Step) (passes : Moment Stamps → Bool) (place : ℕ) → passed header steps passes place ≤ place
few_passed header steps passes place = omega (arith, count_by-le-length (passes_at header steps passes) (numbers place), length-range_with_len 0 place)

-- the numbers of a condition can be told
room_at : (so_far : Past) (gauge : Gauge) (counter : Counter) → length so_far.places < 2 ^ 32 → so_far.elapsed < 2 ^ 64 → gauge.reading.total ≤ so_far.elapsed
    → told so_far counter ≡ gauge.reading → ForSome counter.since (IsOpen so_far gauge) → HasRoom so_far counter
room_at so_far gauge counter few little total same holding = at counter.since same holding
  where
    at : (since : Option Since) → option_map_or (with_stretch counter.reading so_far) since counter.reading ≡ gauge.reading
        → ForSome since (IsOpen so_far gauge) → HasRoom so_far (record { reading = counter.reading; since = since })
    at None same holding = record { few = few; little = little; opened = for_none _ }
    at (Some since) same holding =
        let opened = holding since refl in
        record {
          few = few;
          little = little;
          opened = for_some _ since (record {
            order = opened.order;
            begun = λ later. opened.some (omega (arith, opened.stretch, later));
            total = omega (arith, ap (λ (reading : Reading). reading.total) same, total, little);
          });
        }

-- those of one without a condition
plain_room : (so_far : Past) (counter : Counter) → length so_far.places < 2 ^ 32 → so_far.elapsed < 2 ^ 64 → is_some counter.since ≡ false
    → HasRoom so_far counter
plain_room so_far counter few little plain = at counter.since plain
  where
    at : (since : Option Since) → is_some since ≡ false → HasRoom so_far (record { reading = counter.reading; since = since })
    at None is = record { few = few; little = little; opened = for_none _ }
    at (Some since) is = absurd (cc is)

total_told : (so_far : Past) (counter : Counter) (n : ℕ) → is_some counter.since ≡ false → (told so_far counter).total ≡ n → counter.reading.total ≡ n
total_told so_far counter n plain is = at counter.since plain is
  where
    at : (since : Option Since) → is_some since ≡ false → (option_map_or (with_stretch counter.reading so_far) since counter.reading).total ≡ n
        → counter.reading.total ≡ n
    at None plain is = is
    at (Some since) plain is = absurd (cc plain)

-- no more time finds a condition than passes
found_little : (header : Header) (steps : List Step) (condition : Condition) (place : ℕ)
    → sum_by (found_at header steps condition) (numbers place) ≤ sum_by (time_of_step header steps) (numbers place)
found_little header steps condition place = sum_within (found_at header steps condition) (time_of_step header steps) less place
  where
    at : (holding : Bool) (time : ℕ) → (if holding then time else 0) ≤ time
    at true time = omega arith
    at false time = omega arith

    less : (place : ℕ) → found_at header steps condition place ≤ time_of_step header steps place
    less place = at (holds_at header steps condition place) (time_of_step header steps place)

-- ---- before any step

first_tells : (header : Header) (steps : List Step) (kernel : View) (subject : Subject) → view_of (start header) ≡ kernel
    → Tells kernel (past 0 []) subject (gauge_at header steps 0 subject) (first kernel subject)
unfolding state_at
first_tells header steps kernel (Time condition) shows = at (holds list_queues condition kernel) refl
  where
    at : (h : Bool) → holds list_queues condition kernel ≡ h
        → Tells kernel (past 0 []) (Time condition) (gauge_at header steps 0 (Time condition)) (first_counter 0 h)
    at true is = record {
      numbers = refl;
      opened = sym is;
      since = for_some _ (record { elapsed = 0; index = 0 }) (record {
        order = omega arith;
        stretch = refl;
        none = λ empty. refl;
        some = λ some. absurd (omega (arith, some));
        start = λ some. absurd (omega (arith, some));
      });
    }
    at false is = record { numbers = refl; opened = sym is; since = for_none _ }
first_tells header steps kernel (Steps event) shows = record { numbers = refl; opened = refl; since = for_none _ }
first_tells header steps kernel (TopPriority task) shows = record {
  numbers = ap only (sym (ap (λ (v : View). (task_at v.control task).in_use) shows) ∙ omega arith);
  opened = refl;
  since = for_none _;
}
first_tells header steps kernel (MostMessages queue) shows = record {
  numbers = ap only (sym (ap (λ (v : View). (queue_at v.queues queue).messages) shows) ∙ omega arith);
  opened = refl;
  since = for_none _;
}
first_tells header steps kernel (NotMade task) shows = record { numbers = refl; opened = refl; since = for_none _ }
first_tells header steps kernel (Job task number) shows = record { numbers = refl; opened = refl; since = for_none _ }
first_tells header steps kernel (Migrations task) shows = record { numbers = refl; opened = refl; since = for_none _ }
first_tells header steps kernel (RanOut task) shows = record { numbers = refl; opened = refl; since = for_none _ }
first_tells header steps kernel (Unfinished task) shows = record { numbers = refl; opened = refl; since = for_none _ }
first_tells header steps kernel (MutexWait mutex) shows = record { numbers = refl; opened = refl; since = for_none _ }
first_tells header steps kernel (Run number) shows = record { numbers = refl; opened = refl; since = for_none _ }

pub start_counted : (session : Session) (kernel : View) (plan : Plan) (counters : List Counter) (looks : List (Option Look)) (row : List ℕ)
    (so_far : Past) → StandsFor kernel (start session.header) → kernel.settings ≡ settings_of session.header
    → counters ≡ map (first kernel) plan.subjects.now → length looks ≡ plan.tasks
    → ((task : ℕ) (look : Look) → IsKnown looks task look → ⊥) → IsRow row kernel → so_far ≡ past 0 []
    → AreCounted session 0 kernel plan counters looks row so_far
unfolding state_at
start_counted session kernel plan counters looks row so_far stands settings made sights unknown cores none = record {
  stands = stands;
  settings = settings;
  size = ap (λ (cs : List Counter). length cs) made ∙ length-map plan.subjects.now (first kernel);
  each = λ k low.
      let subject = subject_in plan.subjects.now k in
      let own : first kernel subject ≡ counter_in counters k =
      sym (ap (λ cs. counter_in cs k) made ∙ get_or-map (first kernel) plan.subjects.now k (NotMade 0) (first_counter 0 false) low) in
      subst (λ (so_far : Past). Tells kernel so_far subject (gauge_at session.header session.steps 0 subject) (counter_in counters k)) (sym none)
      (subst (Tells kernel (past 0 []) subject (gauge_at session.header session.steps 0 subject)) own
      (first_tells session.header session.steps kernel subject stands.shows));
  sights = sights;
  looked = λ task look known. absurd (unknown task look known);
  cores = cores;
  few = omega (arith, ap (λ (so_far : Past). length so_far.places) none);
  elapsed = ap (λ (so_far : Past). so_far.elapsed) none;
  little = omega (arith, ap (λ (so_far : Past). so_far.elapsed) none);
}

-- ---- one place further

module _ (session : Session) (place : ℕ) (kernel : View) (plan : Plan) (counters : List Counter) (looks : List (Option Look)) (row : List ℕ)
    (so_far : Past) (counted : AreCounted session place kernel plan counters looks row so_far) (low : place < length session.steps) (few : length session.steps ≤ max_steps) where
  abbrev time_here : Step → ℕ
  time_here step = time_of session.header.config.units step

  -- the time so far, with that of the step
  abbrev later_past : Step → Past
  later_past step = past_after (time_here step) place so_far

  units_are : kernel.settings.units ≡ session.header.config.units
  units_are = ap (λ (settings : Settings). settings.units) counted.settings

  places_few : (step : Step) → length (later_past step).places ≤ place + 1
  places_few step = at (time_here step == 0)
    where
      at : (none : Bool) → length (if none then so_far.places else so_far.places ++ place ∷ []) ≤ place + 1
      at true = omega (arith, counted.few)
      at false = omega (arith, length-append so_far.places (place ∷ []), counted.few)

  time_little : (step : Step) → time_here step < 2 ^ 32 → (later_past step).elapsed ≤ (place + 1) * (2 ^ 32 - 1)
  time_little step timed = omega (arith, counted.little, timed)

  found_here : (step : Step) (k : ℕ) → k < length plan.subjects.now → let subject = subject_in plan.subjects.now k in
      IsFound kernel (later_past step) subject (found kernel step place subject (gauge_at session.header session.steps place subject)) (counter_in counters k)
  found_here step k within =
      let subject = subject_in plan.subjects.now k in
      let gauge = gauge_at session.header session.steps place subject in
      subst (λ units. IsFound kernel (past_after (time_of units step) place so_far) subject (found kernel step place subject gauge) (counter_in counters k))
      units_are (found_is kernel step place so_far session.header session.steps subject (counter_in counters k) (counted.each k within))

  -- one step more can be counted
  room_for : (step : Step) → time_here step < 2 ^ 32 → (subject : Subject) (counter : Counter)
      → IsFound kernel (later_past step) subject (found kernel step place subject (gauge_at session.header session.steps place subject)) counter
      → HasRoomFor (later_past step) subject counter
  room_for step timed (Time condition) counter it =
      let gauge = gauge_at session.header session.steps place (Time condition) in
      room_at (later_past step) (found kernel step place (Time condition) gauge) counter (omega (arith, places_few step, low, few))
      (omega (arith, time_little step timed, low, few)) (at (holds list_queues condition kernel)) it.tells.numbers it.tells.since
    where
      at : (b : Bool) → (spell_after b (time_of kernel.settings.units step) place (gauge_at session.header session.steps place (Time condition))).reading.total
          ≤ so_far.elapsed + time_here step
      at true = omega (
        arith,
        found_little session.header session.steps condition place,
        counted.elapsed,
        ap (λ units. time_of units step) units_are,
      )
      at false = omega (arith, found_little session.header session.steps condition place, counted.elapsed)
  room_for step timed (Steps event) counter it =
      let known = total_told (later_past step) counter _ it.tells.opened (ap (λ (reading : Reading). reading.total) it.tells.numbers) in
      omega (arith, known, few_passed session.header session.steps (happens stamp_queues event) place, low, few)
  room_for step timed (TopPriority task) counter it = tt
  room_for step timed (MostMessages queue) counter it = tt
  room_for step timed (NotMade task) counter it = tt
  room_for step timed (Job task number) counter it = tt
  room_for step timed (Migrations task) counter it = tt
  room_for step timed (RanOut task) counter it = tt
  room_for step timed (Unfinished task) counter it = tt
  room_for step timed (MutexWait mutex) counter it = tt
  room_for step timed (Run number) counter it = tt

  pub have_room : (step : Step) → time_here step < 2 ^ 32 → HaveRoom (later_past step) plan.subjects.now counters
  have_room step timed k within = room_for step timed (subject_in plan.subjects.now k) (counter_in counters k) (found_here step k within)

  -- the time so far can be counted too
  pub time_fits : (step : Step) → time_here step < 2 ^ 32 → so_far.elapsed + time_here step < 2 ^ 64
  time_fits step timed = omega (arith, time_little step timed, low, few)

  -- the step that stands there
  module _ (steps : List Step) (same : steps ≡ session.steps) where
    pub step_there : slice_get session.steps place ≡ Some (get_or steps place Tick)
    step_there =
        let within : place < length steps = omega (arith, low, ap (λ (steps : List Step). length steps) same) in
        ap (λ (steps : List Step). slice_get steps place) (sym same) ∙ slice_get-get_or steps place Tick within

    pub step_next : (step_of (get_or steps place Tick) (state_at session.header session.steps place)).1 ≡ state_at session.header session.steps (suc place)
    step_next =
        ap (λ (steps : List Step). (step_of (get_or steps place Tick) (state_at session.header session.steps place)).1) same
        ∙ sym (next_state session.header session.steps place Tick low)

  -- it is made
  module _ (step : Step) (there : slice_get session.steps place ≡ Some step) (later : View)
      (stood : StandsFor later (state_at session.header session.steps (suc place)))
      (next : (step_of step (state_at session.header session.steps place)).1 ≡ state_at session.header session.steps (suc place))
      (settings : later.settings ≡ kernel.settings) (plans : IsPlanOf kernel.settings plan)
      (core : ForSome (left_by kernel.control step) (λ left. left.0 < kernel.settings.cores)) where
    abbrev here : Table
    here = state_at session.header session.steps place

    abbrev reply : Reply
    reply = (step_of step here).0

    abbrev took_here : Subject → Counter → Counter
    took_here = took (known_before kernel step) step reply later (later_past step)

    of_table : (subject : Subject) → IsSubjectOf kernel.settings subject → IsSubjectOf here.settings subject
    of_table subject known = subst (λ (v : View). IsSubjectOf v.settings subject) (sym counted.stands.shows) known

    known_at : (k : ℕ) → k < length plan.subjects.now → IsSubjectOf kernel.settings (subject_in plan.subjects.now k)
    known_at k within = All-get_or (IsSubjectOf kernel.settings) plan.subjects.now k (NotMade 0) within plans.known

    table_units : here.settings.units ≡ session.header.config.units
    table_units = ap (λ (v : View). v.settings.units) counted.stands.shows ∙ units_are

    -- the gauge after the step
    gauge_next : (subject : Subject) → IsSubjectOf kernel.settings subject
        → stepped kernel step reply later place subject (gauge_at session.header session.steps place subject)
        ≡ gauge_at session.header session.steps (suc place) subject
    gauge_next subject known =
        let gauge = gauge_at session.header session.steps place subject in
        ap (λ (v : View). stepped v step reply later place subject gauge) (sym counted.stands.shows)
        ∙ ap (λ (v : View). stepped (view_of here) step reply v place subject gauge) (sym stood.shows)
        ∙ gauge_more session.header session.steps place step there counted.stands.sound.consistent table_units next subject (of_table subject known)

    taken_tells : (k : ℕ) → k < length plan.subjects.now → let subject = subject_in plan.subjects.now k in
        Tells later (later_past step) subject (gauge_at session.header session.steps (suc place) subject) (took_here subject (counter_in counters k))
    taken_tells k within =
        let subject = subject_in plan.subjects.now k in
        subst (λ (gauge : Gauge). Tells later (later_past step) subject gauge (took_here subject (counter_in counters k)))
        (gauge_next subject (known_at k within))
        (is_taken (known_before kernel step) step reply kernel later (later_past step) subject _ (counter_in counters k) (found_here step k within))

    -- the priority in use of a task that is not raised is told already
    top_told : (task : ℕ) (counter : Counter) → Tells kernel so_far (TopPriority task) (gauge_at session.header session.steps place (TopPriority task)) counter
        → ForSome (known_before kernel step).raised (λ (raised : ℕ × ℕ). raised.0 ≢ task) → (task_at later.control task).in_use ≤ counter.reading.total
    top_told task counter tells away =
        let total = total_told so_far counter _ tells.opened (ap (λ (reading : Reading). reading.total) tells.numbers) in
        let raises : raised_by kernel step ≢ Some task = not_raised (raised_by kernel step) away in
        let others = kept session.header session.steps place step there counted.stands.sound.consistent table_units next in
        let still = others task (λ is. raises (ap (λ (v : View). raised_by v step) (sym counted.stands.shows) ∙ is)) in
        let later_is = ap (λ (v : View). (task_at v.control task).in_use) stood.shows in
        let before = below_top (in_use_at session.header session.steps task) place place (omega arith) in
        omega (arith, total, still, later_is, before)
      where
        with_priority : ℕ → ℕ × ℕ
        with_priority other = (other, (task_at kernel.control other).in_use)

        not_raised : (raised : Option ℕ) → ForSome (option_map with_priority raised) (λ (raised : ℕ × ℕ). raised.0 ≢ task) → raised ≢ Some task
        not_raised None away is = absurd (cc is)
        not_raised (Some other) away is = let same : other ≡ task = cc is in away (with_priority other) refl same

    -- a task has a row of its own
    task_row : (tasks task : ℕ) (own : Option ℕ) → option_map_or (λ task. min task tasks) own tasks ≡ task → task < tasks → own ≡ Some task
    task_row tasks task None is low = absurd (omega (arith, is, low))
    task_row tasks task (Some other) is low = ap Some (omega (arith, is, low))

    -- a task that is untouched looks as it did
    pub looks_alike : (task : ℕ) → IsUntouched looks row (known_before kernel step) step later task → look_of later task ≡ look_of kernel task
    looks_alike task untouched = counted.looked task (look_of later task) untouched.known

    idle_at : (k : ℕ) → k < length plan.subjects.now → row_at plan k < plan.tasks
        → IsUntouched looks row (known_before kernel step) step later (row_at plan k) → took_here (subject_in plan.subjects.now k) (counter_in counters k)
        ≡ counter_in counters k
    idle_at k within own untouched =
        let subject = subject_in plan.subjects.now k in
        let task = row_at plan k in
        let tells = counted.each k within in
        let same = looks_alike task untouched in
        is_idle kernel later row step reply task settings counted.cores untouched.apart subject (later_past step) (counter_in counters k)
        (task_row plan.tasks task (task_of subject) refl own) (known_at k within) same core tells.opened
        (λ is. top_told task (counter_in counters k)
        (subst (λ (subject : Subject). Tells kernel so_far subject (gauge_at session.header session.steps place subject) (counter_in counters k)) is tells)
        untouched.apart.raised)

    pub more_counted : time_here step < 2 ^ 32 → (made : List Counter) (seen : List (Option Look)) (cores : List ℕ) → length made ≡ length counters → length seen ≡ length looks
        → AreTaken took_here (IsUntouched looks row (known_before kernel step) step later) plan counters made → AreLooked later seen → IsRow cores later
        → AreCounted session (suc place) later plan made seen cores (later_past step)
    more_counted timed made seen cores size sights taken looked row_is = record {
      stands = stood;
      settings = settings ∙ counted.settings;
      size = size ∙ counted.size;
      each = λ k within.
          let subject = subject_in plan.subjects.now k in
          let told : Tells later (later_past step) subject (gauge_at session.header session.steps (suc place) subject)
          (took_here subject (counter_in counters k)) = taken_tells k within in
          elim (taken k within) [
            | inl is ↦ subst (Tells later (later_past step) subject (gauge_at session.header session.steps (suc place) subject)) (sym is) told
            | inr it ↦
                subst (Tells later (later_past step) subject (gauge_at session.header session.steps (suc place) subject))
                (idle_at k within it.0 it.1 ∙ sym it.2) told
          ];
      sights = sights ∙ counted.sights;
      looked = looked;
      cores = row_is;
      few = omega (arith, places_few step);
      elapsed = ap (λ n. n + time_here step) counted.elapsed ∙ sym (sum_more (time_of_step session.header session.steps) place ∙ ap (λ n. sum_by (time_of_step session.header session.steps) (numbers place) + n) time_there);
      little = omega (arith, time_little step timed);
    }
      where
        time_there : time_of_step session.header session.steps place ≡ time_here step
        time_there = ap (λ (found : Option Step). option_map_or (time_of session.header.config.units) found 0) there

-- ---- after the last step

pub all_told : (session : Session) (kernel : View) (plan : Plan) (counters : List Counter) (looks : List (Option Look)) (row : List ℕ)
    (so_far : Past) → length session.steps ≤ max_steps → AreCounted session (length session.steps) kernel plan counters looks row so_far
    → AreTold session plan.subjects.now so_far counters
all_told session kernel plan counters looks row so_far few counted = record {
  size = counted.size;
  each = λ k within. (counted.each k within).numbers;
  elapsed = counted.elapsed;
  room = λ k within. at (subject_in plan.subjects.now k) (counter_in counters k) (counted.each k within);
}
  where
    n : ℕ
    n = length session.steps

    places_few : length so_far.places < 2 ^ 32
    places_few = omega (arith, few, counted.few)

    little : so_far.elapsed < 2 ^ 64
    little = omega (arith, few, counted.little)

    at : (subject : Subject) (counter : Counter) → Tells kernel so_far subject (gauge_at session.header session.steps (length session.steps) subject) counter
        → HasRoom so_far counter
    at (Time condition) counter tells =
        room_at so_far (gauge_at session.header session.steps (length session.steps) (Time condition)) counter places_few little
        (omega (arith, found_little session.header session.steps condition (length session.steps), counted.elapsed)) tells.numbers tells.since
    at (Steps event) counter tells = plain_room so_far counter places_few little tells.opened
    at (TopPriority task) counter tells = plain_room so_far counter places_few little tells.opened
    at (MostMessages queue) counter tells = plain_room so_far counter places_few little tells.opened
    at (NotMade task) counter tells = plain_room so_far counter places_few little tells.opened
    at (Job task number) counter tells = plain_room so_far counter places_few little tells.opened
    at (Migrations task) counter tells = plain_room so_far counter places_few little tells.opened
    at (RanOut task) counter tells = plain_room so_far counter places_few little tells.opened
    at (Unfinished task) counter tells = plain_room so_far counter places_few little tells.opened
    at (MutexWait mutex) counter tells = plain_room so_far counter places_few little tells.opened
    at (Run number) counter tells = plain_room so_far counter places_few little tells.opened

-- the numbers of a subject after the last step
module _ (session : Session) (so_far : Past) (works : List Work) (ticks : List ℕ) (worked : AreWorked session (length session.steps) works ticks)
    (crowds : List Crowd) (crowded : AreCrowded session (length session.steps) crowds) (time : so_far.elapsed ≡ run_time session.header session.steps) (left : List WaitingCall) where
  last_measured : (counter : Counter) (subject : Subject) → IsSubjectOf (settings_of session.header) subject
      → told so_far counter ≡ (gauge_at session.header session.steps (length session.steps) subject).reading
      → measured_in (length session.steps) so_far works crowds counter left subject ≡ measured session.header session.steps left subject
  last_measured counter (Time condition) known is =
      ap (λ (reading : Reading). record { subject = Time condition; reading = reading })
      (is ∙ rw (find_top (stretch_at session.header session.steps condition) (length session.steps)) refl)
  last_measured counter (Steps event) known is = ap (λ (reading : Reading). record { subject = Steps event; reading = reading }) is
  last_measured counter (TopPriority task) known is = ap (λ (reading : Reading). record { subject = TopPriority task; reading = reading }) is
  last_measured counter (MostMessages queue) known is = ap (λ (reading : Reading). record { subject = MostMessages queue; reading = reading }) is
  last_measured counter (NotMade task) known is = refl
  last_measured counter (Job task number) known is =
      ap (λ (reading : Reading). record { subject = Job task number; reading = reading })
      (job_told (course_of session.header session.steps task) (length session.steps) so_far.elapsed (work_in works task)
      (worked.each task (omega (arith, known, worked.size))) time number)
  last_measured counter (Migrations task) known is =
      ap (λ (work : Work). record { subject = Migrations task; reading = only work.moves.count })
      (worked.each task (omega (arith, known, worked.size)))
  last_measured counter (RanOut task) known is =
      ap (λ (work : Work). record { subject = RanOut task; reading = only work.waits.run_out })
      (worked.each task (omega (arith, known, worked.size)))
  last_measured counter (Unfinished task) known is =
      ap (λ (work : Work). record { subject = Unfinished task; reading = only (one_if work.in_call) })
      (worked.each task (omega (arith, known, worked.size)))
  last_measured counter (MutexWait mutex) known is =
      ap (λ (n : ℕ). record { subject = MutexWait mutex; reading = only n })
      (ap (λ now. told_crowd now (crowd_in crowds mutex)) time ∙ (crowded.each mutex (omega (arith, known, crowded.size))).total)
  last_measured counter (Run number) known is =
      ap (λ (time : ℕ). record { subject = Run number; reading = only (run_number time (length session.steps) left number) }) time

pub all_measured : (session : Session) (so_far : Past) (works : List Work) (ticks : List ℕ) (crowds : List Crowd) (counters : List Counter) (left : List WaitingCall) (subjects : List Subject)
    → AreTold session subjects so_far counters → AreWorked session (length session.steps) works ticks → AreCrowded session (length session.steps) crowds → All (IsSubjectOf (settings_of session.header)) subjects
    → map (measured_at (length session.steps) so_far works crowds counters left subjects) (numbers (length subjects)) ≡ map (measured session.header session.steps left) subjects
all_measured session so_far works ticks crowds counters left subjects are worked crowded known =
    let n = length subjects in
    let of = measured session.header session.steps left in
    let d = of (NotMade 0) in
    let at = measured_at (length session.steps) so_far works crowds counters left subjects in
    ext_get_or d (map at (numbers n)) (map of subjects)
    (length-map-range_with_len at 0 n ∙ sym (length-map subjects of))
    (λ k low.
    let within : k < n = omega (arith, low, length-map-range_with_len at 0 n) in
    get_or-map-range_with_len at 0 n k k d within (omega arith)
    ∙ last_measured session so_far works ticks worked crowds crowded are.elapsed left (counter_in counters k) (subject_in subjects k)
    (All-get_or (IsSubjectOf (settings_of session.header)) subjects k (NotMade 0) within known) (are.each k within)
    ∙ sym (get_or-map of subjects k (NotMade 0) d within))
