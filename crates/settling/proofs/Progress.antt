-- How a session is settled further.
use Rattle.std.proofs.Common.{◌≡◌, ℕ, suc, ◌+◌, ◌^◌, ◌<◌, ◌≤◌, Bool, true, false, cond, not, List, [], ◌∷◌, ◌++◌, length, drop, drop-cons, Some, None, refl}
use Rattle.std.proofs.Common.{sym, ap, subst, ◌∙◌, inl, inr, arith}
use Rattle.std.specs.Prelude.{All, slice_index, slice_set}
use Rattle.std.proofs.lemmas.List.{append-nil, drop_all}
use Rattle.std.proofs.lemmas.List.Elements.{All-get_or}
use Rattle.std.proofs.Math.Numerals.{add-one}
use Rattle.bench_types.specs.declared.kernel_data.Settings.{Settings}
use Rattle.bench_types.specs.declared.step.Step.{Step}
use Rattle.bench_types.specs.declared.step.Step.TheVariants.{Tick, Switch, Interrupt, QueueInterrupt, ResumeInterrupt, Pass}
use Rattle.bench_types.specs.declared.step.Step.TheVariants as steps
use Rattle.bench_types.specs.Limits.{max_steps}
use Rattle.bench_types.specs.Session.{IsCheckedSession, Session}
use Rattle.bench_types.specs.Step.{settings_of, IsCheckedStep}
use Rattle.bench_types.proofs.Passes.{checked_header}
use Rattle.bench_model.specs.Equal.{StandsFor}
use Rattle.bench_model.specs.Lists.{View}
use Rattle.bench_model.specs.Session.{step_of, state_after}
use Rattle.bench_model.specs.Sound.{IsSound}
use Rattle.bench_model.specs.Start.{start}
use Rattle.bench_model.specs.Table.{Table}
use Rattle.step_laws.proofs.Along.{settings_after, start_settings}
use Rattle.step_laws.proofs.Steps.{after_sound}
use Rattle.settled_runs.specs.declared.waiting_call.WaitingCall.{WaitingCall}
use Rattle.settled_runs.specs.Runs.{IsSettledTooLong}
use Rattle.settled_runs.specs.Settled.{is_event, is_finish, events_of, made_at_once, waiting_with, quiet_step, waiting_after, without_first, IsSettled}
use Rattle.settled_runs.specs.SettleLaws.{MayWait, comes_from_outside}
use Rattle.settled_runs.proofs.Leavings.{few_are_left}
use Rattle.settled_runs.proofs.Pieces.{CallMade, IsPiece, piece_of}
use Rattle.settled_runs.proofs.Rests.{IsGood, begin_waits, event_waits, piece_checked}
use Rattle.session_runs.specs.Run.{IsRunOf, RunView}
use Rattle.session_runs.proofs.Goes.{state_push}
use Rattle.settling.specs.declared.queues.Queues.{Queues}
use Rattle.settling.specs.declared.run.Settling.{Settling}
use Rattle.settling.specs.Places.{begins, call_in, step_at, waiting_at, AreQueues, HasCallers}
use Rattle.settling.specs.Progress.{waiting_in, with_step, IsAt, IsResting}
use Rattle.settling.specs.Ways.{IsOnTheWay}
use Rattle.settling.proofs.Finds.{none_known}
use Rattle.settling.proofs.Places.{come_event, come_other, come_queues, has_come, made_queues, made_waiting, waiting_may}
use Rattle.settling.proofs.Ways.{entered, event_way, piece_way, too_long, too_many, way_ends}

-- the table after the steps of a run
abbrev state_in : Session → Table
state_in run = state_after (start run.header) run.steps

abbrev run_with : Session → Step → Session
run_with run step = record run { steps = run.steps ++ step ∷ [] }

-- a step more at the end
state_moves : (run later : Session) (step : Step) (table : Table) → table ≡ state_in run → later ≡ run_with run step → (step_of step table).1 ≡ state_in later
state_moves run later step table state made =
    ap (λ (table : Table). (step_of step table).1) state ∙ sym (state_push (start run.header) run.steps step) ∙ sym (ap state_in made)

module _ (session : Session) (old : Settling) (here : IsAt session old) where
  pub all_checked : All (IsCheckedStep here.table.settings) session.steps
  all_checked = subst (λ settings. All (IsCheckedStep settings) session.steps) (sym here.settings) here.session_is.checked.steps

  pub good_here : IsGood here.table (waiting_in session old)
  good_here = record {
    sound = here.sound;
    few = let limits = checked_header session.header here.session_is.checked.header.passes in
        subst (λ settings. settings.cores < 2 ^ 32) (sym here.settings) (omega (arith, limits.few_cores));
    may = waiting_may here.table.settings old.queues.heads.items session.steps all_checked old.come here.queues.reached;
  }

  -- the kernel after the steps of the run
  module _ (kernel : View) where
    pub kernel_stands : StandsFor kernel (state_in old.run) → StandsFor kernel here.table
    kernel_stands stands = subst (StandsFor kernel) (sym here.state) stands

    settings_seen : kernel.settings ≡ settings_of old.run.header → here.table.settings ≡ kernel.settings
    settings_seen seen = here.settings ∙ ap settings_of (sym here.same_header) ∙ sym seen

    pub kernel_queues : kernel.settings ≡ settings_of old.run.header
        → AreQueues session.steps old.come kernel.settings.tasks old.queues.heads.items old.queues.next.items
    kernel_queues seen =
        subst (λ (settings : Settings). AreQueues session.steps old.come settings.tasks old.queues.heads.items old.queues.next.items) (settings_seen seen)
        here.queues

    pub kernel_checked : kernel.settings ≡ settings_of old.run.header → All (IsCheckedStep kernel.settings) session.steps
    kernel_checked seen = subst (λ settings. All (IsCheckedStep settings) session.steps) (settings_seen seen) all_checked

  -- a step that was checked under the settings of the table is one of the run
  checked_in_run : (step : Step) → IsCheckedStep here.table.settings step → IsCheckedStep (settings_of old.run.header) step
  checked_in_run step checked =
      subst (λ settings. IsCheckedStep settings step) (here.settings ∙ ap settings_of (sym here.same_header)) checked

  module _ (step : Step) (next : quiet_step here.table (waiting_in session old) ≡ Some step) where
    checked_next : IsCheckedStep here.table.settings step
    checked_next = piece_checked here.table (waiting_in session old) step good_here next

    pub piece_passes : IsCheckedStep (settings_of old.run.header) step
    piece_passes = checked_in_run step checked_next

    -- the piece was made, and what waits after it waits
    pub at_next :
        (new : Settling) → new.run ≡ run_with old.run step → new.come ≡ old.come
        → AreQueues session.steps old.come here.table.settings.tasks new.queues.heads.items new.queues.next.items
        → waiting_at new.queues.heads.items session.steps old.come ≡ waiting_after (waiting_in session old) step
        → length new.run.steps ≤ max_steps → IsAt session new
    at_next new run come queues waits room =
        let settings = settings_after here.table step here.sound in
        let way =
        piece_way session.header session.steps here.table (waiting_in session old) old.run.steps (events_of (drop old.come session.steps)) step next
        here.way in
        let reached =
        subst (λ waiting. IsOnTheWay session.header session.steps (step_of step here.table).1 waiting (events_of (drop old.come session.steps))
        (old.run.steps ++ step ∷ [])) (sym waits) way in
        let moved =
        subst (λ come. IsOnTheWay session.header session.steps (step_of step here.table).1 (waiting_at new.queues.heads.items session.steps come)
        (events_of (drop come session.steps)) (old.run.steps ++ step ∷ [])) (sym come) reached in
        record {
          session_is = here.session_is;
          same_header = ap (λ (run : Session). run.header) run ∙ here.same_header;
          table = (step_of step here.table).1;
          state = state_moves old.run new.run step here.table here.state run;
          sound = after_sound step here.table here.sound checked_next;
          settings = settings ∙ here.settings;
          queues =
              subst (λ (settings : Settings). AreQueues session.steps new.come settings.tasks new.queues.heads.items new.queues.next.items) (sym settings)
              (subst (λ come. AreQueues session.steps come here.table.settings.tasks new.queues.heads.items new.queues.next.items) (sym come) queues);
          way =
              subst (λ (run : Session). IsOnTheWay session.header session.steps (step_of step here.table).1 (waiting_in session new)
              (events_of (drop new.come session.steps)) run.steps) (sym run) moved;
          room = room;
        }

    idle_waits : (step : Step) (waiting : List WaitingCall) → begins step ≡ false → waiting_after waiting step ≡ waiting
    idle_waits Tick waiting none = refl
    idle_waits (Switch core) waiting none = refl
    idle_waits (Interrupt core note) waiting none = refl
    idle_waits (QueueInterrupt core queue direction) waiting none = refl
    idle_waits (ResumeInterrupt core task) waiting none = refl
    idle_waits (Pass units) waiting none = refl
    idle_waits (steps.Call core task call) waiting none = at (is_finish call) none
      where
        at : (b : Bool) → not b ≡ false → cond b waiting (without_first task waiting) ≡ waiting
        at true none = refl
        at false none = absurd (cc (none))

    -- a switch or a `finish`
    pub at_idle : (new : Settling) → None ≡ cond (begins step) (Some (call_in step).task) None → new ≡ with_step step old
        → length new.run.steps ≤ max_steps → IsAt session new
    at_idle new known made room =
        let none = none_known step known in
        let queues : new.queues ≡ old.queues = ap (λ (settling : Settling). settling.queues) made in
        at_next new (ap (λ (settling : Settling). settling.run) made) (ap (λ (settling : Settling). settling.come) made)
        (subst (λ (queues : Queues). AreQueues session.steps old.come here.table.settings.tasks queues.heads.items queues.next.items) (sym queues) here.queues)
        (ap (λ (queues : Queues). waiting_at queues.heads.items session.steps old.come) queues ∙ sym (idle_waits step (waiting_in session old) none)) room

    -- a call that waited
    is_call : IsPiece (MayWait here.table.settings) here.table (waiting_in session old) step → begins step ≡ true
        → CallMade (MayWait here.table.settings) here.table (waiting_in session old) step
    is_call (inl it) begin = absurd (cc (begin, ap begins it.is))
    is_call (inr (inl it)) begin = absurd (cc (begin, ap begins it.is))
    is_call (inr (inr it)) begin = it

    module _ (task : ℕ) (known : Some task ≡ cond (begins step) (Some (call_in step).task) None) where
      begin : begins step ≡ true
      begin = at (begins step) refl known
        where
          at : (b : Bool) → begins step ≡ b → Some task ≡ cond b (Some (call_in step).task) None → b ≡ true
          at true is known = refl
          at false is known = absurd (cc (known))

      made : CallMade (MayWait here.table.settings) here.table (waiting_in session old) step
      made = is_call (piece_of (MayWait here.table.settings) (begin_waits here.table.settings) here.table (waiting_in session old) step good_here.may next)
          begin

      task_is : task ≡ made.waits.task
      task_is = let same : task ≡ (call_in step).task = cc (known, begin) in same ∙ ap (λ step. (call_in step).task) made.is

      pub task_low : task < here.table.settings.tasks
      task_low = omega (arith, task_is, made.may.task.1)

      pub head_low : slice_index old.queues.heads.items task < old.come
      head_low =
          has_come session.steps old.queues.heads.items task old.come
          (subst (λ task. suc (length (without_first task (waiting_in session old))) ≡ length (waiting_in session old)) (sym task_is) made.fewer)

      pub at_call :
          (new : Settling) → new.run ≡ run_with old.run step → new.come ≡ old.come
          → new.queues.heads.items ≡ slice_set old.queues.heads.items task (slice_index old.queues.next.items (slice_index old.queues.heads.items task))
          → new.queues.next.items ≡ old.queues.next.items → length new.run.steps ≤ max_steps → IsAt session new
      at_call new run come heads links room =
          let tasks = here.table.settings.tasks in
          let later = slice_set old.queues.heads.items task (slice_index old.queues.next.items (slice_index old.queues.heads.items task)) in
          let queues = made_queues session.steps old.come tasks old.queues.heads.items old.queues.next.items here.queues task task_low head_low in
          let waits = made_waiting session.steps old.come tasks old.queues.heads.items old.queues.next.items here.queues task task_low head_low in
          let gone : waiting_after (waiting_in session old) step ≡ without_first task (waiting_in session old)
          = ap (waiting_after (waiting_in session old)) made.is
          ∙ ap (λ finish. cond finish (waiting_in session old) (without_first made.waits.task (waiting_in session old))) made.begins
          ∙ ap (λ task. without_first task (waiting_in session old)) (sym task_is) in
          at_next new run come
          (subst (λ (heads : List ℕ). AreQueues session.steps old.come tasks heads new.queues.next.items) (sym heads)
          (subst (λ (links : List ℕ). AreQueues session.steps old.come tasks later links) (sym links) queues))
          (ap (λ (heads : List ℕ). waiting_at heads session.steps old.come) heads ∙ waits ∙ sym gone) room

    -- where there is no room for it, the run is too long
    pub piece_too_long : max_steps ≤ length old.run.steps → IsSettledTooLong session
    piece_too_long full settled =
        too_long session.header session.steps here.table (waiting_in session old) old.run.steps (events_of (drop old.come session.steps)) step max_steps full
        next here.way settled.run settled.left settled.settled

-- ---- the start

caller_low : (settings : Settings) (step : Step) → begins step ≡ true → IsCheckedStep settings step → (call_in step).task < settings.tasks
caller_low settings Tick is checked = absurd (cc (is))
caller_low settings (Switch core) is checked = absurd (cc (is))
caller_low settings (Interrupt core note) is checked = absurd (cc (is))
caller_low settings (QueueInterrupt core queue direction) is checked = absurd (cc (is))
caller_low settings (ResumeInterrupt core task) is checked = absurd (cc (is))
caller_low settings (Pass units) is checked = absurd (cc (is))
caller_low settings (steps.Call core task call) is checked = (event_waits settings (steps.Call core task call) is checked core task call refl).task.1

pub callers_low : (session : Session) (tasks : ℕ) → IsCheckedSession session → (settings_of session.header).tasks ≡ tasks → HasCallers session.steps tasks
callers_low session tasks is same place low begin =
    let settings = settings_of session.header in
    let low = caller_low settings (step_at session.steps place) begin (All-get_or (IsCheckedStep settings) session.steps place Tick low is.checked.steps) in
    omega (arith, low, same)

pub at_start : (session : Session) (settling : Settling) → IsCheckedSession session → settling.run ≡ record { header = session.header; steps = [] }
    → settling.come ≡ 0 → IsSound (start session.header)
    → AreQueues session.steps 0 (settings_of session.header).tasks settling.queues.heads.items settling.queues.next.items → IsAt session settling
unfolding waiting_at
at_start session settling is begun none sound queues =
    let settings = start_settings session.header in
    let table = start session.header in record {
      session_is = is;
      same_header = ap (λ (run : Session). run.header) begun;
      table = table;
      state = sym (ap state_in begun);
      sound = sound;
      settings = settings;
      queues =
          subst (λ come. AreQueues session.steps come table.settings.tasks settling.queues.heads.items settling.queues.next.items) (sym none)
          (subst (λ (settings : Settings). AreQueues session.steps 0 settings.tasks settling.queues.heads.items settling.queues.next.items) (sym settings)
          queues);
      way =
          subst (λ (run : Session). IsOnTheWay session.header session.steps table (waiting_in session settling)
          (events_of (drop settling.come session.steps)) run.steps) (sym begun)
          (subst (λ come. IsOnTheWay session.header session.steps table (waiting_at settling.queues.heads.items session.steps come)
          (events_of (drop come session.steps)) []) (sym none) (entered session.header session.steps));
      room = omega (arith, ap (λ (run : Session). length run.steps) begun);
    }

-- ---- the next step comes

outside_once : (step : Step) → comes_from_outside step ≡ true → (made_at_once step ≡ step ∷ []) × (is_event step ≡ true)
outside_once Tick outside = (refl, refl)
outside_once (Switch core) outside = absurd (cc (outside))
outside_once (Interrupt core note) outside = (refl, refl)
outside_once (QueueInterrupt core queue direction) outside = (refl, refl)
outside_once (ResumeInterrupt core task) outside = (refl, refl)
outside_once (Pass units) outside = (refl, refl)
outside_once (steps.Call core task call) outside = absurd (cc (outside))

inside_once : (step : Step) → comes_from_outside step ≡ false → is_event step ≡ true → made_at_once step ≡ []
inside_once Tick inside is = absurd (cc (inside))
inside_once (Switch core) inside is = absurd (cc (is))
inside_once (Interrupt core note) inside is = absurd (cc (inside))
inside_once (QueueInterrupt core queue direction) inside is = absurd (cc (inside))
inside_once (ResumeInterrupt core task) inside is = absurd (cc (inside))
inside_once (Pass units) inside is = absurd (cc (inside))
inside_once (steps.Call core task call) inside is = refl

module _ (session : Session) (old : Settling) (resting : IsResting session old) (more : old.come < length session.steps) where
  abbrev step : Step
  step = step_at session.steps old.come

  abbrev table : Table
  table = resting.here.table

  abbrev later_events : List Step
  later_events = events_of (drop (suc old.come) session.steps)

  events_here : drop old.come session.steps ≡ step ∷ drop (suc old.come) session.steps
  events_here = drop-cons session.steps old.come Tick more

  checked_here : IsCheckedStep table.settings step
  checked_here = All-get_or (IsCheckedStep table.settings) session.steps old.come Tick more (all_checked session old resting.here)

  pub came_passes : IsCheckedStep (settings_of old.run.header) step
  came_passes = checked_in_run session old resting.here step checked_here

  -- what is not an event changes nothing
  way_other : is_event step ≡ false → IsOnTheWay session.header session.steps table (waiting_in session old) later_events old.run.steps
  way_other none =
      let same : events_of (drop old.come session.steps) ≡ later_events = ap events_of events_here
      ∙ ap (λ b. cond b (step ∷ later_events) later_events) none in
      subst (λ events. IsOnTheWay session.header session.steps table (waiting_in session old) events old.run.steps) same resting.here.way

  way_event : is_event step ≡ true
      → IsOnTheWay session.header session.steps (state_after table (made_at_once step)) (waiting_with (waiting_in session old) step) later_events
      (old.run.steps ++ made_at_once step)
  way_event is =
      let same : events_of (drop old.come session.steps) ≡ step ∷ later_events = ap events_of events_here
      ∙ ap (λ b. cond b (step ∷ later_events) later_events) is in
      event_way session.header session.steps table (waiting_in session old) old.run.steps later_events step resting.rests
      (subst (λ events. IsOnTheWay session.header session.steps table (waiting_in session old) events old.run.steps) same resting.here.way)

  callers : begins step ≡ true → (call_in step).task < table.settings.tasks
  callers begin = caller_low table.settings step begin checked_here

  at_came :
      (new : Settling) (later : Table) (waiting : List WaitingCall) → new.run.header ≡ old.run.header → later ≡ state_in new.run → IsSound later
      → later.settings ≡ table.settings → new.come ≡ old.come + 1
      → new.queues ≡ old.queues → waiting_at old.queues.heads.items session.steps (suc old.come) ≡ waiting
      → IsOnTheWay session.header session.steps later waiting later_events new.run.steps → length new.run.steps ≤ max_steps → IsAt session new
  at_came new later waiting header state sound settings come queues waits way room =
      let tasks = table.settings.tasks in
      let came = come_queues session.steps old.come tasks old.queues.heads.items old.queues.next.items resting.here.queues more in
      let next : new.come ≡ suc old.come = come ∙ add-one old.come in
      let Way : List WaitingCall → Type 0 = λ waiting. IsOnTheWay session.header session.steps later waiting later_events new.run.steps in
      let second = subst (λ waiting. Way waiting) (sym waits) way in
      let third = subst (λ (queues : Queues). Way (waiting_at queues.heads.items session.steps (suc old.come))) (sym queues) second in
      record {
        session_is = resting.here.session_is;
        same_header = header ∙ resting.here.same_header;
        table = later;
        state = state;
        sound = sound;
        settings = settings ∙ resting.here.settings;
        queues =
            subst (λ (settings : Settings). AreQueues session.steps new.come settings.tasks new.queues.heads.items new.queues.next.items) (sym settings)
            (subst (λ come. AreQueues session.steps come tasks new.queues.heads.items new.queues.next.items) (sym next)
            (subst (λ (queues : Queues). AreQueues session.steps (suc old.come) tasks queues.heads.items queues.next.items) (sym queues) came));
        way =
            subst (λ come. IsOnTheWay session.header session.steps later (waiting_at new.queues.heads.items session.steps come)
            (events_of (drop come session.steps)) new.run.steps) (sym next) third;
        room = room;
      }

  waits_event : is_event step ≡ true
      → waiting_at old.queues.heads.items session.steps (suc old.come) ≡ waiting_with (waiting_in session old) step
  waits_event is =
      come_event session.steps old.come table.settings.tasks old.queues.heads.items old.queues.next.items resting.here.queues more is callers

  way_made : (once : List Step) → made_at_once step ≡ once → is_event step ≡ true
      → IsOnTheWay session.header session.steps (state_after table once) (waiting_with (waiting_in session old) step) later_events (old.run.steps ++ once)
  way_made once same is =
      subst (λ once. IsOnTheWay session.header session.steps (state_after table once) (waiting_with (waiting_in session old) step) later_events
      (old.run.steps ++ once)) same (way_event is)

  -- a tick or an interrupt was made
  pub at_outside : (new : Settling) → comes_from_outside step ≡ true → new.run ≡ run_with old.run step → new.come ≡ old.come + 1
      → new.queues ≡ old.queues → length new.run.steps ≤ max_steps → IsAt session new
  at_outside new outside run come queues room =
      let once = outside_once step outside in
      let waiting = waiting_with (waiting_in session old) step in
      at_came new (step_of step table).1 waiting (ap (λ (run : Session). run.header) run)
      (state_moves old.run new.run step table resting.here.state run)
      (after_sound step table resting.here.sound checked_here) (settings_after table step resting.here.sound) come queues (waits_event once.1)
      (subst (λ (run : Session). IsOnTheWay session.header session.steps (step_of step table).1 waiting later_events run.steps) (sym run)
      (way_made (step ∷ []) once.0 once.1)) room

  -- a call waits, or a switch or a `finish` is left out
  pub at_inside : (new : Settling) → comes_from_outside step ≡ false → new.run ≡ old.run → new.come ≡ old.come + 1 → new.queues ≡ old.queues → IsAt session new
  at_inside new inside run come queues = at (is_event step) refl
    where
      header : new.run.header ≡ old.run.header
      header = ap (λ (run : Session). run.header) run

      state : table ≡ state_in new.run
      state = resting.here.state ∙ sym (ap state_in run)

      room : length new.run.steps ≤ max_steps
      room = omega (arith, ap (λ (run : Session). length run.steps) run, resting.here.room)

      at : (b : Bool) → is_event step ≡ b → IsAt session new
      at true is =
          let waiting = waiting_with (waiting_in session old) step in
          at_came new table waiting header state resting.here.sound refl come queues (waits_event is)
          (subst (λ run. IsOnTheWay session.header session.steps table waiting later_events run)
          (append-nil old.run.steps ∙ sym (ap (λ (run : Session). run.steps) run)) (way_made [] (inside_once step inside is) is)) room
      at false none =
          at_came new table (waiting_in session old) header state resting.here.sound refl come queues
          (come_other session.steps old.come table.settings.tasks old.queues.heads.items old.queues.next.items resting.here.queues more none)
          (subst (λ (run : Session). IsOnTheWay session.header session.steps table (waiting_in session old) later_events run.steps) (sym run)
          (way_other none)) room

  -- where there is no room for it, the run is too long
  pub come_too_long : comes_from_outside step ≡ true → max_steps ≤ length old.run.steps → IsSettledTooLong session
  come_too_long outside full settled =
      let once = outside_once step outside in
      let same : events_of (drop old.come session.steps) ≡ step ∷ later_events = ap events_of events_here
      ∙ ap (λ b. cond b (step ∷ later_events) later_events) once.1 in
      let some : 0 < length (made_at_once step) = omega (arith, ap length once.0) in
      too_many session.header session.steps table (waiting_in session old) old.run.steps later_events step max_steps full some resting.rests
      (subst (λ events. IsOnTheWay session.header session.steps table (waiting_in session old) events old.run.steps) same resting.here.way)
      settled.run settled.left settled.settled

-- ---- the end

-- all steps have come, and there is no quiet work to do
module _ (session : Session) (settling : Settling) (resting : IsResting session settling) (all : length session.steps ≤ settling.come)
    (left : List WaitingCall) (same : left ≡ waiting_in session settling) where
  settled_at : IsRunOf true session (record { session = settling.run; left = left })
  settled_at =
      let none : drop settling.come session.steps ≡ [] = drop_all settling.come session.steps all in
      let way =
      subst (λ events. IsOnTheWay session.header session.steps resting.here.table (waiting_in session settling) events settling.run.steps)
      (ap events_of none) resting.here.way in (
        resting.here.same_header,
        subst (IsSettled session.header session.steps settling.run.steps) (sym same)
            (way_ends session.header session.steps resting.here.table (waiting_in session settling) settling.run.steps resting.rests way),
      )

  pub run_at : (run : RunView) → run ≡ record { session = settling.run; left = left } → IsRunOf true session run
  run_at run made = subst (IsRunOf true session) (sym made) settled_at

  -- no more calls are left than a session has steps
  pub few_left : length left < 2 ^ 32
  few_left =
      let few = few_are_left session.header session.steps settling.run.steps left settled_at.1 in
      omega (arith, few, resting.here.session_is.few)
