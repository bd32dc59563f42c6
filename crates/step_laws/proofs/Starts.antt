-- The start of a checked header is sound, and seen as lists it is the start over lists.
use Rattle.order_laws.proofs.FirstBlocks.{first_tasks, first_blocks, first_values_below, first_values_length}
use Rattle.std.proofs.Common.{sym, ◌≡◌, ℕ, ◌*◌, zero, suc, ◌+◌, ◌-◌, ◌<◌, ◌≤◌, true, false, cond, ltb, List, [], ◌∷◌, ◌++◌, length, map, replicate, Bool, Option}
use Rattle.std.proofs.Common.{Some, None, Ok, refl, ap, ◌∙◌, add-zero, arith, inl, inr}
use Rattle.std.specs.Prelude.{slice_index_or, option_map, unwrap_or, All}
use Rattle.std.specs.List.{fold, range_with_len, AllByRecursion}
use Rattle.std.proofs.lemmas.Bool.Decides.{nat_tests}
use Rattle.std.proofs.lemmas.Bool.{cases_lt}
use Rattle.std.proofs.lemmas.List.{length-append, length-map, length-replicate, map-append, get_or_append_left, get_or-append_right, get_or-replicate}
use Rattle.std.proofs.lemmas.List.FromFn.{length-map-range_with_len, get_or-map-range_with_len}
use Rattle.bench_types.specs.declared.header.Header.{Header}
use Rattle.bench_types.specs.declared.header.QueueArgs.{QueueArgs}
use Rattle.bench_types.specs.declared.kernel_data.CoreLook.{CoreLook}
use Rattle.bench_types.specs.declared.note.Notification.{Notification}
use Rattle.bench_model.specs.Notes.{no_note}
use Rattle.bench_types.specs.declared.step.Unfinished.{Unfinished}
use Rattle.bench_types.proofs.Passes.{IsWithinLimits, checked_header}
use Rattle.bench_types.specs.Step.{settings_of, IsCheckedUnfinished}
use Rattle.bench_types.specs.Header.{header_check}
use Rattle.bench_model.specs.declared.row.TaskState.{TaskState}
use Rattle.bench_model.specs.declared.row.TaskState.TheVariants.{Ready}
use Rattle.bench_model.specs.declared.row.TaskRow.{TaskRow}
use Rattle.list_orders.specs.Search.{numbers, by_stamp, ranked}
use Rattle.bench_model.specs.Control.{core_at, current}
use Rattle.bench_model.specs.State.{call_at}
use Rattle.bench_model.specs.Seek.{after_switch}
use Rattle.bench_model.specs.Table.{Stamps, Table, stamp_queues, row_at, stamp_of, is_ready, stands_ready, wake_in, deadline_at}
use Rattle.bench_model.specs.Lists.{list_queues, lists_of, delayed_of, outranks, wakes_first, view_of}
use Rattle.bench_model.specs.Sound.{list_values, IsStamped, HasCurrentTasks, WakesInTime, HasWords, HasMutexes, IsConsistent, IsSound, IsWaiter, list_of_call}
use Rattle.bench_model.specs.Start.{first_look, first_control, first_queue, first_queues, ready_row, first_stamps, first_lists, unstarted, started, start, start_seen}
use Rattle.list_orders.proofs.Filters.{All-weaker}
use Rattle.step_laws.proofs.Nears.{turned_hold}
use Rattle.list_orders.proofs.Stamped.{numbers_below, by_stamp_listed, by_stamp_none, range_parts}
use Rattle.order_laws.proofs.Restamps.{standing_so, waits}
use Rattle.bench_model.specs.Turns.{AreByList, AreInTurn, WaitOnce}
use Rattle.bench_model.specs.Waiters.{list_awaited}
use Rattle.order_laws.proofs.SeenMoves.{same_seen, deadline_from}
use Rattle.order_laws.proofs.SeenSteps.{same_state}
use Rattle.rule_laws.proofs.Seeks.{after_switch_seen, after_switch_sound, after_switch_length}

-- where each is none, each is none
none_at : {A : Type 0} (n i : ℕ) → slice_index_or {A = Option A} (replicate n None) i None ≡ None
none_at zero i = refl
none_at (suc n) zero = refl
none_at (suc n) (suc i) = none_at n i

-- there is what each queue has
pub queues_length : (queues : Option (List QueueArgs)) → length (map first_queue (unwrap_or queues [])) ≡ unwrap_or (option_map length queues) 0
queues_length None = refl
queues_length (Some queues) = length-map queues first_queue

no_deadlines : (tick n : ℕ) → map (deadline_from tick) (replicate n None) ≡ replicate n None
no_deadlines tick zero = refl
no_deadlines tick (suc n) = ap (λ rest. None ∷ rest) (no_deadlines tick n)

-- the length of a list of two ranges
pub length_ranges : (f g : ℕ → TaskRow) (a b : ℕ) → length (map f (numbers a) ++ map g (numbers b)) ≡ a + b
length_ranges f g a b = omega (arith, length-append (map f (numbers a)) (map g (numbers b)), length-map-range_with_len f 0 a, length-map-range_with_len g 0 b)

module _ (header : Header) where
  abbrev cores : ℕ
  cores = header.config.cores

  abbrev users : ℕ
  users = length header.tasks

  abbrev first : Stamps
  first = first_stamps header

  first_length : length first.rows ≡ cores + users
  unfolding first_stamps
  first_length = length_ranges (λ core. ready_row (users + core)) ready_row cores users

  idle_row : (i : ℕ) → i < cores → row_at first i ≡ ready_row (users + i)
  unfolding first_stamps
  idle_row i low =
      get_or_append_left (map (λ core. ready_row (users + core)) (numbers cores)) (map ready_row (numbers users)) (ready_row 0) i
      (omega (arith, length-map-range_with_len (λ core. ready_row (users + core)) 0 cores))
      ∙ get_or-map-range_with_len (λ core. ready_row (users + core)) 0 cores i i (ready_row 0) low (omega arith)

  user_row : (i : ℕ) → cores ≤ i → i < cores + users → row_at first i ≡ ready_row (i - cores)
  unfolding first_stamps
  user_row i high low =
      get_or-append_right (map (λ core. ready_row (users + core)) (numbers cores)) (map ready_row (numbers users)) cores i (ready_row 0)
      (length-map-range_with_len (λ core. ready_row (users + core)) 0 cores) high
      ∙ get_or-map-range_with_len ready_row 0 users (i - cores) (i - cores) (ready_row 0) (omega arith) (omega arith)

  -- the stamp of each task, and whose stamp each is
  abbrev first_stamp : ℕ → ℕ
  first_stamp i = cond (ltb i cores) (users + i) (i - cores)

  abbrev holder : ℕ → ℕ
  holder stamp = cond (ltb stamp users) (cores + stamp) (stamp - users)

  first_row : (i : ℕ) → i < cores + users → row_at first i ≡ ready_row (first_stamp i)
  first_row i low = elim (cases_lt i cores) [
    | inl idle ↦ idle_row i idle ∙ ap ready_row (grind (arith, nat_tests, idle))
    | inr user ↦ user_row i user low ∙ ap ready_row (grind (arith, nat_tests, user))
  ]

  stamp_first : (i : ℕ) → i < cores + users → stamp_of first i ≡ first_stamp i
  stamp_first i low = ap (λ (r : TaskRow). r.stamp) (first_row i low)

  standing_first : (i : ℕ) → i < cores + users → (row_at first i).standing ≡ Ready
  standing_first i low = ap (λ (r : TaskRow). r.standing) (first_row i low)

  first_once : (i j : ℕ) → i < cores + users → j < cores + users → stamp_of first i ≡ stamp_of first j → i ≡ j
  first_once i j low high same = grind (arith, nat_tests, stamp_first i low, stamp_first j high, same)

  pub first_next : first.next ≡ cores + users
  unfolding first_stamps
  first_next = refl

  first_stamped : IsStamped first
  first_stamped = record {
    given = λ i low. grind (arith, nat_tests, first_length, first_next, stamp_first i (omega (arith, first_length)), low);
    once = λ i j low high same. first_once i j (omega (arith, first_length)) (omega (arith, first_length)) same;
  }

  holders : (b : ℕ) → b < cores + users → (holder b < cores + users) × (stamp_of first (holder b) ≡ b)
  holders b low =
      let fits : holder b < cores + users = grind (arith, nat_tests, low) in
      (fits, stamp_first (holder b) fits ∙ grind (arith, nat_tests, low))

  holders_low : (a n : ℕ) → a + n ≤ users → map holder (range_with_len a n) ≡ range_with_len (cores + a) n
  holders_low a zero fits = refl
  holders_low a (suc n) fits =
      let here : holder a ≡ cores + a = grind (arith, nat_tests, fits) in
      let shifted : cores + (a + 1) ≡ (cores + a) + 1 = omega arith in
      ap (λ i. i ∷ map holder (range_with_len (a + 1) n)) here ∙ ap (λ rest. (cores + a) ∷ rest)
      (holders_low (a + 1) n (omega arith) ∙ ap (λ k. range_with_len k n) shifted)

  holders_high : (a n : ℕ) → users ≤ a → map holder (range_with_len a n) ≡ range_with_len (a - users) n
  holders_high a zero high = refl
  holders_high a (suc n) high =
      let here : holder a ≡ a - users = grind (arith, nat_tests, high) in
      let shifted : (a + 1) - users ≡ (a - users) + 1 = omega arith in
      ap (λ i. i ∷ map holder (range_with_len (a + 1) n)) here ∙ ap (λ rest. (a - users) ∷ rest)
      (holders_high (a + 1) n (omega arith) ∙ ap (λ k. range_with_len k n) shifted)

  -- the user tasks in header order, then the idle tasks
  holders_all : map holder (numbers (cores + users)) ≡ range_with_len cores users ++ numbers cores
  holders_all =
      let sum : cores + users ≡ users + cores = omega arith in
      let low = holders_low 0 users (omega arith) ∙ ap (λ k. range_with_len k users) (add-zero cores) in
      let from : 0 + users ≡ users = omega arith in
      let none : users - users ≡ 0 = omega arith in
      let high = ap (λ k. map holder (range_with_len k cores)) from ∙ holders_high users cores (omega arith) ∙ ap (λ k. range_with_len k cores) none in
      ap (λ n. map holder (numbers n)) sum ∙ ap (map holder) (range_parts 0 users cores) ∙ map-append holder (range_with_len 0 users)
      (range_with_len (0 + users) cores) ∙ ap (λ xs. xs ++ map holder (range_with_len (0 + users) cores)) low ∙ ap (λ ys. range_with_len cores users ++ ys)
      high

  ready_first : standing_so stands_ready first ≡ range_with_len cores users ++ numbers cores
  ready_first =
      ap (λ n. by_stamp (stamp_of first) (λ i. stands_ready (row_at first i).standing) (numbers n) first.next) first_length
      ∙ ap (λ bound. by_stamp (stamp_of first) (λ i. stands_ready (row_at first i).standing) (numbers (cores + users)) bound) first_next
      ∙ by_stamp_listed (stamp_of first) holder (λ i. stands_ready (row_at first i).standing) (cores + users) (cores + users)
      (λ i low. ap stands_ready (standing_first i low)) holders first_once
      ∙ holders_all

  none_first : (test : TaskState → Bool) → test Ready ≡ false → standing_so test first ≡ []
  none_first test fails = by_stamp_none (stamp_of first) (λ i. test (row_at first i).standing) (numbers (length first.rows)) first.next
      (All-weaker (λ i. i < length first.rows) (λ i. test (row_at first i).standing ≡ false)
      (λ i low. ap test (standing_first i (omega (arith, first_length))) ∙ fails) (numbers (length first.rows)) (numbers_below (length first.rows)))

  -- seen as lists, before any core has selected
  first_seen : lists_of (first_control header) first ≡ first_lists header
  unfolding lists_of first_lists first_stamps ranked
  first_seen = same_seen _ _ _ _ _ _ _ _ _ _ _
      (ap (ranked (outranks (first_control header))) ready_first)
      refl
      (ap (λ ids. ranked wakes_first (map (delayed_of first) ids)) (none_first waits refl))
      refl
      (no_deadlines first.tick (cores + users))

  pub first_cores : length (first_control header).cores ≡ cores
  first_cores = length-map-range_with_len first_look 0 cores

  pub first_core : (c : ℕ) → c < cores → core_at (first_control header) c ≡ first_look c
  first_core c low = get_or-map-range_with_len first_look 0 cores c c (record { current = 0; pend = false; asked = false }) low (omega arith)

  first_current : (c : ℕ) → c < cores → current (first_control header) c ≡ c
  first_current c low = ap (λ (l : CoreLook). l.current) (first_core c low)

  first_ready : (i : ℕ) → i < cores + users → is_ready i first ≡ true
  first_ready i low = ap stands_ready (standing_first i low)

  first_placed : HasCurrentTasks (first_control header) first
  first_placed = record {
    is_task = λ c low. omega (arith, first_cores, first_length, first_current c (omega (arith, first_cores)));
    on_one_core = λ c d low high same. omega (arith, first_current c (omega (arith, first_cores)), first_current d (omega (arith, first_cores)), same);
    blocked_is_due = λ c low waits. absurd (cc
        (first_ready (current (first_control header) c) (omega (arith, first_cores, first_current c (omega (arith, first_cores)))), waits));
    idle_is_ready = λ i low. first_ready i (omega (arith, first_cores));
  }

  first_in_time : WakesInTime first
  first_in_time i wake low waits = absurd (cc (ap wake_in (standing_first i (omega (arith, first_length))), waits))

  first_deadline : (i : ℕ) → deadline_at first i ≡ None
  unfolding first_stamps
  first_deadline i = none_at (cores + users) i

  pub first_deadlines : length first.deadlines ≡ cores + users
  unfolding first_stamps
  first_deadlines = length-replicate (cores + users) None

  no_waiters : AllByRecursion (IsWaiter (settings_of header) first) first.waiters
  unfolding first_stamps
  no_waiters = tt

  no_turns : AreInTurn first first.waiters
  unfolding first_stamps
  no_turns = tt

  once_at_first : WaitOnce first.waiters
  unfolding first_stamps
  once_at_first = tt

  by_mutex_at_first : AreByList first.waiters
  unfolding first_stamps
  by_mutex_at_first = tt

  none_awaited : (i : ℕ) → list_awaited i first.waiters ≡ None
  unfolding first_stamps
  none_awaited i = refl

  values_at_first : length first.values ≡ list_values (settings_of header)
  unfolding first_stamps
  values_at_first = first_values_length header

  values_below : IsWithinLimits header → All (λ value. value < header.config.priorities) first.values
  unfolding first_stamps
  values_below valid = first_values_below header valid

  first_mutexes : IsWithinLimits header → HasMutexes (settings_of header) (replicate (cores + users) None) (replicate header.config.mutexes None) first
  first_mutexes valid = record {
    held_by_tasks = λ mutex task held. absurd (cc (none_at {A = ℕ} header.config.mutexes mutex, held));
    waits = no_waiters;
    once = once_at_first;
    by_list = by_mutex_at_first;
    awaited = λ i low blocked. none_awaited i ∙ sym (ap (list_of_call (settings_of header)) (none_at {A = Unfinished} (cores + users) i));
    turns = λ none. no_turns;
    values = values_below valid;
    deadlines = λ i deadline has. absurd (cc (first_deadline i, has));
  }

  first_calls : (i : ℕ) (call : Unfinished) → call_at (replicate (cores + users) None) i ≡ Some call → IsCheckedUnfinished (settings_of header) call
  first_calls i call found = absurd (cc (none_at {A = Unfinished} (cores + users) i, found))

  first_words : HasWords (replicate ((cores + users) * header.config.notes) no_note)
  first_words i low =
      let at = get_or-replicate ((cores + users) * header.config.notes) i no_note no_note
      (omega (arith, low, length-replicate ((cores + users) * header.config.notes) no_note)) in
      omega (arith, ap (λ (n : Notification). n.value) at)

  pub first_sound : IsWithinLimits header → IsConsistent (unstarted first header)
  unfolding unstarted
  first_sound valid = record {
    sized = record {
      cores = first_cores;
      controls = first_tasks header;
      calls = length-replicate (cores + users) None;
      notes = length-replicate ((cores + users) * header.config.notes) no_note;
      some_note = valid.some_note;
      holders = length-replicate header.config.mutexes None;
      queues = queues_length header.queues;
      rows = first_length;
      deadlines = first_deadlines;
      values = values_at_first;
      some_core = valid.some_core;
      idle_tasks = omega arith;
    };
    stamped = first_stamped;
    in_place = first_placed;
    in_time = first_in_time;
    blocks = first_blocks header valid;
    calls = first_calls;
    notes = first_words;
    mutexes = first_mutexes valid;
  }

-- cores that switch in turn, from a sound table
in_turn_rest : (core : ℕ) (cores : List ℕ) (table : Table) → AllByRecursion (λ c. c < length table.control.cores) cores → AllByRecursion
    (λ c. c < length (after_switch stamp_queues core table).control.cores) cores
in_turn_rest core cores table all = All-weaker (λ c. c < length table.control.cores) (λ c. c < length (after_switch stamp_queues core table).control.cores)
    (λ c h. omega (arith, after_switch_length core table)) cores all

in_turn_sound : (cores : List ℕ) (table : Table) → AllByRecursion (λ c. c < length table.control.cores) cores → IsConsistent table → IsConsistent
    (fold (λ table core. after_switch stamp_queues core table) table cores)
in_turn_sound [] table all sound = sound
in_turn_sound (core ∷ cores) table all sound =
    in_turn_sound cores (after_switch stamp_queues core table) (in_turn_rest core cores table all.1)
    (after_switch_sound table core sound (omega (arith, sound.sized.cores, all.0)))

in_turn_seen : (cores : List ℕ) (table : Table) → AllByRecursion (λ c. c < length table.control.cores) cores → IsConsistent table → view_of
    (fold (λ table core. after_switch stamp_queues core table) table cores) ≡ fold (λ view core. after_switch list_queues core view) (view_of table) cores
in_turn_seen [] table all sound = refl
in_turn_seen (core ∷ cores) table all sound =
    let low : core < table.settings.cores = omega (arith, sound.sized.cores, all.0) in
    in_turn_seen cores (after_switch stamp_queues core table) (in_turn_rest core cores table all.1) (after_switch_sound table core sound low)
    ∙ ap (λ view. fold (λ view core. after_switch list_queues core view) view cores) (after_switch_seen table core sound low)

pub unstarted_cores : (header : Header) → length (unstarted (first_stamps header) header).control.cores ≡ header.config.cores
unfolding unstarted
unstarted_cores header = first_cores header

first_turns : (header : Header) → AllByRecursion (λ c. c < length (unstarted (first_stamps header) header).control.cores) (numbers header.config.cores)
unfolding unstarted
first_turns header = All-weaker (λ c. c < header.config.cores) (λ c. c < length (first_control header).cores) (λ c h. omega (arith, first_cores header))
    (numbers header.config.cores) (numbers_below header.config.cores)

pub start_consistent : (header : Header) → header_check header ≡ Ok tt → IsConsistent (start header)
unfolding started
start_consistent header passes = in_turn_sound (numbers header.config.cores) (unstarted (first_stamps header) header) (first_turns header)
    (first_sound header (checked_header header passes))

unstarted_seen : (header : Header) → view_of (unstarted (first_stamps header) header) ≡ unstarted (first_lists header) header
unfolding unstarted
unstarted_seen header = same_state (settings_of header) (first_control header) (first_control header)
    (replicate (header.config.cores + length header.tasks) None) (replicate ((header.config.cores + length header.tasks) * header.config.notes) no_note)
    (replicate header.config.mutexes None) (first_queues header) None _ _ refl (first_seen header)

pub start_seen_lem : (header : Header) → header_check header ≡ Ok tt → view_of (start header) ≡ start_seen header
unfolding started
start_seen_lem header passes =
    in_turn_seen (numbers header.config.cores) (unstarted (first_stamps header) header) (first_turns header) (first_sound header (checked_header header passes))
    ∙ ap (λ view. fold (λ view core. after_switch list_queues core view) view (numbers header.config.cores)) (unstarted_seen header)

-- and no hold is open
in_turn_hold : (cores : List ℕ) (table : Table) → (fold (λ table core. after_switch stamp_queues core table) table cores).hold ≡ table.hold
in_turn_hold [] table = refl
in_turn_hold (core ∷ cores) table = in_turn_hold cores (after_switch stamp_queues core table) ∙ turned_hold core table

unstarted_hold : (header : Header) → (unstarted (first_stamps header) header).hold ≡ None
unfolding unstarted
unstarted_hold header = refl

pub start_sound : (header : Header) → header_check header ≡ Ok tt → IsSound (start header)
unfolding started
start_sound header passes = record {
  consistent = start_consistent header passes;
  held = λ hold is. absurd (cc (in_turn_hold (numbers header.config.cores) (unstarted (first_stamps header) header), unstarted_hold header, is));
}
