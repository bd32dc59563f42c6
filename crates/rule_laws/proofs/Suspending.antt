-- Suspended tasks: each rule as lists, that it keeps a table sound, and what wakes a suspended task.
use Rattle.std.proofs.Common.{◌≡◌, ℕ, suc, ◌+◌, ◌*◌, ◌<◌, ◌≤◌, ◌^◌, Bool, true, false, cond, not, eqb, ltb, leb, ◌&&◌, ◌||◌, List, [], ◌∷◌, length, map, Option, Some, None, refl, sym, ap, ap₂, subst, ◌∙◌, arith, inl, inr}
use Rattle.std.specs.Prelude.{is_some, option_map}
use Rattle.std.specs.List.{find, list_any}
use Rattle.std.specs.Option.{option_map_or}
use Rattle.std.proofs.Math.Nat.{suc-mul}
use Rattle.std.proofs.lemmas.Bool.{cases_lt}
use Rattle.std.proofs.lemmas.Bool.Decides.{nat_tests}
use Rattle.std.proofs.lemmas.List.{get_or_past}
use Rattle.std.proofs.lemmas.List.FromFn.{get_or-map-range_with_len, length-map-range_with_len}
use Rattle.bench_types.specs.declared.kernel_data.Waiter.{Waiter}
use Rattle.bench_types.specs.declared.note.Note.{Note}
use Rattle.bench_types.specs.declared.note.NoteState.{NoteState}
use Rattle.bench_types.specs.declared.note.NoteState.TheVariants.{NotWaiting, Waiting, Received}
use Rattle.bench_types.specs.declared.note.Notification.{Notification}
use Rattle.bench_types.specs.declared.reply.Reply.{Reply}
use Rattle.bench_types.specs.declared.reply.Reply.TheVariants.{Isr}
use Rattle.list_orders.specs.Search.{numbers, has}
use Rattle.list_orders.proofs.Bests.{found}
use Rattle.list_orders.proofs.Filters.{All-has, All-weaker, list_any_none}
use Rattle.list_orders.proofs.Stamped.{has-by_stamp, numbers_below, numbers_have}
use Rattle.bench_model.specs.declared.row.TaskState.{TaskState}
use Rattle.bench_model.specs.declared.row.TaskState.TheVariants.{Ready, Blocked}
use Rattle.bench_model.specs.Control.{Control, core_at, current, ask, ask_its_core, is_due, runs_on}
use Rattle.bench_model.specs.Lists as seen
use Rattle.bench_model.specs.Lists.{View, list_queues, lists_of, seen_of, view_of}
use Rattle.bench_model.specs.Notes.{no_note, note_at, is_waiting, slot_in, slot_of, unawaited}
use Rattle.bench_model.specs.Notifying.{notify}
use Rattle.bench_model.specs.Seek.{wake}
use Rattle.bench_model.specs.Sound.{HasCurrentTasks, HasWords, IsConsistent}
use Rattle.bench_model.specs.State.{State}
use Rattle.bench_model.specs.Suspending.{awaits_note, is_slot_of, is_suspended, resume_interrupted, resumed, suspended, without_waits}
use Rattle.bench_model.specs.Table.{Stamps, Table, stamp_queues, add_to_ready_list, due, first_waiter, is_ready, row_at, stamp_of, stands_ready, suspend, tasks_of, waits, wake_in, wakes_at}
use Rattle.bench_model.specs.Waiters.{list_awaited}
use Rattle.order_laws.proofs.Looks.{suspended_seen}
use Rattle.order_laws.proofs.Restamps.{IsGiven}
use Rattle.order_laws.proofs.SeenMoves.{suspend_seen}
use Rattle.order_laws.proofs.SeenSteps.{same_state}
use Rattle.order_laws.proofs.SoundMutexes.{standing_same, waits_not}
use Rattle.order_laws.proofs.SoundSteps.{IsDueWith, asked_due, suspend_sound, suspended_length, suspended_ready}
use Rattle.rule_laws.proofs.Notifying.{notes_sound, wakes_only_a_waiter}
use Rattle.rule_laws.proofs.PriorityAffinity.{its_core_more, its_core_sound, more_apart}
use Rattle.rule_laws.proofs.Seeks.{wake_seen, wake_sound}

-- ---- notifications that nobody awaits any more

pub unawaited_word : (note : Notification) → note.value < 2 ^ 32 → (unawaited note).value < 2 ^ 32
unfolding unawaited
unawaited_word note low = low

pub unawaited_waits : (note : Notification) → is_waiting (unawaited note).state ≡ false
unfolding unawaited
unawaited_waits note = at note.state
  where
    at : (state : NoteState) → is_waiting (cond (is_waiting state) NotWaiting state) ≡ false
    at NotWaiting = refl
    at Waiting = refl
    at Received = refl

module _ (entries task : ℕ) (notes : List Notification) where
  abbrev note_after : ℕ → Notification
  note_after slot = cond (is_slot_of entries task slot) (unawaited (note_at notes slot)) (note_at notes slot)

  pub waits_length : length (without_waits entries task notes) ≡ length notes
  unfolding without_waits
  waits_length = length-map-range_with_len note_after 0 (length notes)

  pub note_here : (slot : ℕ) → slot < length notes → note_at (without_waits entries task notes) slot ≡ note_after slot
  unfolding without_waits
  note_here slot below = get_or-map-range_with_len note_after 0 (length notes) slot slot no_note below (omega arith)

  waits_words : HasWords notes → HasWords (without_waits entries task notes)
  waits_words words slot low =
      let below : slot < length notes = omega (arith, waits_length) in
      subst (λ (note : Notification). note.value < 2 ^ 32) (sym (note_here slot below)) (at (is_slot_of entries task slot) (words slot below))
    where
      at : (b : Bool) → (note_at notes slot).value < 2 ^ 32 → (cond b (unawaited (note_at notes slot)) (note_at notes slot)).value < 2 ^ 32
      at true low = unawaited_word (note_at notes slot) low
      at false low = low

  its_slot : (index : ℕ) → index < entries → is_slot_of entries task (slot_in entries task index) ≡ true
  unfolding slot_in
  its_slot index below = grind (arith, nat_tests, suc-mul task entries, below)

  none_there : (index : ℕ) → index < entries → is_waiting (note_at (without_waits entries task notes) (slot_in entries task index)).state ≡ false
  none_there index low = elim (cases_lt (slot_in entries task index) (length notes)) [
    | inl below ↦
        ap (λ (note : Notification). is_waiting note.state) (note_here (slot_in entries task index) below
        ∙ ap (λ b. cond b (unawaited (note_at notes (slot_in entries task index))) (note_at notes (slot_in entries task index))) (its_slot index low)) ∙
        unawaited_waits (note_at notes (slot_in entries task index))
    | inr past ↦
        ap (λ (note : Notification). is_waiting note.state)
        (get_or_past (without_waits entries task notes) (slot_in entries task index) no_note (omega (arith, waits_length, past)))
  ]

  none_awaited : awaits_note entries task (without_waits entries task notes) ≡ false
  none_awaited =
      list_any_none (λ index. is_waiting (note_at (without_waits entries task notes) (slot_in entries task index)).state) (numbers entries)
      (All-weaker (λ index. index < entries)
      (λ index. is_waiting (note_at (without_waits entries task notes) (slot_in entries task index)).state ≡ false) none_there (numbers entries)
      (numbers_below entries))

-- ---- the core of a task that is suspended is due

abbrev keeps_running : Control → ℕ → ℕ → Bool
keeps_running control task core = eqb (current control core) task && not (core_at control core).asked

found_some : (p : ℕ → Bool) (n : ℕ) (ns : List ℕ) → has n ns ≡ true → p n ≡ true → is_some (find p ns) ≡ true
found_some p n [] there passes = absurd (cc (there))
found_some p n (m ∷ ms) there passes = grind (arith, nat_tests, there, passes, found_some p n ms)

its_core_due : (control : Control) (stamps : Stamps) (acting task : ℕ) → HasCurrentTasks control stamps → IsDueWith (ask_its_core acting task control) task
unfolding ask_its_core runs_on
its_core_due control stamps acting task place core low here =
    from (core_at control core).asked refl
  where
    more : length (ask_its_core acting task control).cores ≡ length control.cores
    more = (its_core_more acting task control).cores

    below : core < length control.cores
    below = omega (arith, more, low)

    on : current control core ≡ task
    on = sym ((its_core_more acting task control).currents core) ∙ here

    asks : (o : Option ℕ) → runs_on control task ≡ o → is_some o ≡ true → is_due (option_map_or (λ core. ask acting core control) o control) core ≡ true
    asks None is some = absurd (cc (some))
    asks (Some other) is some =
        let both = found (keeps_running control task) (numbers (length control.cores)) other is in
        let inside = All-has (λ c. c < length control.cores) other (numbers (length control.cores)) (numbers_below (length control.cores)) both.0 in
        let runs : current control other ≡ task = grind (arith, nat_tests, both.1) in
        let same = place.on_one_core core other below inside (on ∙ sym runs) in
        ap (is_due (ask acting other control)) same ∙ asked_due control acting other inside

    from : (b : Bool) → (core_at control core).asked ≡ b → is_due (ask_its_core acting task control) core ≡ true
    from true asked = (its_core_more acting task control).due core (grind (arith, asked))
    from false free =
        let keeps : keeps_running control task core ≡ true = grind (arith, nat_tests, on, free) in
        asks (runs_on control task) refl (found_some (keeps_running control task) core (numbers (length control.cores)) (numbers_have (length control.cores) core
        below) keeps)

-- ---- as lists

module _ (table : Table) (acting task : ℕ) (sound : IsConsistent table) (low : task < table.settings.tasks) where
  in_rows : task < length table.orders.rows
  in_rows = omega (arith, sound.sized.rows)

  abbrev gone : {Orders : Type 0} → (Orders → Orders) → State Orders → State Orders
  gone leaves state = record state {
    control = ask_its_core acting task state.control;
    notes = without_waits state.settings.notes task state.notes;
    orders = leaves state.orders;
  }

  gone_seen : view_of (gone (suspend task) table) ≡ gone (seen.suspend task) (view_of table)
  gone_seen =
      same_state table.settings _ _ table.calls (without_waits table.settings.notes task table.notes) table.holders table.queues table.hold _ _ refl
      (more_apart table.control (ask_its_core acting task table.control) (suspend task table.orders) (its_core_more acting task table.control) ∙
      suspend_seen table.control table.orders task sound.stamped.given in_rows)

  pub suspend_rule_seen : view_of (suspended stamp_queues acting task table) ≡ suspended list_queues acting task (view_of table)
  unfolding suspended
  suspend_rule_seen =
      at (is_suspended stamp_queues task table)
      ∙ ap (λ b. cond b (view_of table) (gone (seen.suspend task) (view_of table))) (sym (suspended_seen table task sound low))
    where
      at : (b : Bool) → view_of (cond b table (gone (suspend task) table)) ≡ cond b (view_of table) (gone (seen.suspend task) (view_of table))
      at true = refl
      at false = gone_seen

  pub resume_rule_seen : view_of (resumed stamp_queues acting task table) ≡ resumed list_queues acting task (view_of table)
  unfolding resumed
  resume_rule_seen =
      at (is_suspended stamp_queues task table)
      ∙ ap (λ b. cond b (wake list_queues acting task (view_of table)) (view_of table)) (sym (suspended_seen table task sound low))
    where
      at : (b : Bool) → view_of (cond b (wake stamp_queues acting task table) table) ≡ cond b (wake list_queues acting task (view_of table)) (view_of table)
      at true = wake_seen table acting task sound.stamped.given in_rows
      at false = refl

  abbrev answered : {Orders : Type 0} → Bool → State Orders → Reply × State Orders
  answered passes state = (Isr passes (core_at state.control acting).pend, state)

  pub interrupt_rule_seen : seen_of (resume_interrupted stamp_queues acting task table) ≡ resume_interrupted list_queues acting task (view_of table)
  unfolding resume_interrupted
  interrupt_rule_seen = ap₂ (λ passes view. answered passes view) (sym (suspended_seen table task sound low)) resume_rule_seen

  -- ---- soundness stays

  pub suspend_rule_sound : table.settings.cores ≤ task → IsConsistent (suspended stamp_queues acting task table)
  unfolding suspended
  suspend_rule_sound user = at (is_suspended stamp_queues task table)
    where
      notes : List Notification
      notes = without_waits table.settings.notes task table.notes

      told : IsConsistent (record table { notes = notes })
      told =
          notes_sound table notes sound (waits_length table.settings.notes task table.notes ∙ sound.sized.notes) (waits_words table.settings.notes task table.notes sound.notes)

      at : (b : Bool) → IsConsistent (cond b table (gone (suspend task) table))
      at true = sound
      at false =
          suspend_sound (record table { notes = notes; control = ask_its_core acting task table.control }) task
          (its_core_sound (record table { notes = notes }) acting task told) low user
          (its_core_due table.control table.orders acting task sound.in_place)

  pub resume_rule_sound : IsConsistent (resumed stamp_queues acting task table)
  unfolding resumed
  resume_rule_sound = at (is_suspended stamp_queues task table)
    where
      at : (b : Bool) → IsConsistent (cond b (wake stamp_queues acting task table) table)
      at true = wake_sound table acting task sound low
      at false = sound

  pub resume_interrupted_sound : IsConsistent (resume_interrupted stamp_queues acting task table).1
  unfolding resume_interrupted
  resume_interrupted_sound = resume_rule_sound

  -- ---- what a suspended task is

  waits_nothing : waits task (suspend task table.orders) ≡ false
  unfolding suspend
  waits_nothing = waits_not table.orders task (Blocked None) in_rows refl

  gone_suspended : is_suspended stamp_queues task (gone (suspend task) table) ≡ true
  unfolding is_suspended
  gone_suspended =
      let ready = suspended_ready table.orders task in_rows in
      let note = none_awaited table.settings.notes task table.notes in
      grind (arith, ready, waits_nothing, note)

  pub suspended_is_suspended : is_suspended stamp_queues task (suspended stamp_queues acting task table) ≡ true
  unfolding suspended
  suspended_is_suspended = at (is_suspended stamp_queues task table) refl
    where
      at : (b : Bool) → is_suspended stamp_queues task table ≡ b → is_suspended stamp_queues task (cond b table (gone (suspend task) table)) ≡ true
      at true is = is
      at false is = gone_suspended

  pub resumed_is_ready : is_suspended stamp_queues task table ≡ true → is_ready task (resumed stamp_queues acting task table).orders ≡ true
  unfolding resumed wake add_to_ready_list
  resumed_is_ready is =
      ap (λ b. is_ready task (cond b (wake stamp_queues acting task table) table).orders) is ∙ ap stands_ready (standing_same table.orders task Ready in_rows)

pub others_stay : (table : Table) (acting task : ℕ) → is_suspended stamp_queues task table ≡ false → resumed stamp_queues acting task table ≡ table
unfolding resumed
others_stay table acting task not_so = ap (λ b. cond b (wake stamp_queues acting task table) table) not_so

-- ---- what does not wake a suspended task

-- the parts of what a suspended task is
pub suspended_parts : (table : Table) (task : ℕ) → is_suspended stamp_queues task table ≡ true →
    (is_ready task table.orders ≡ false) × (waits task table.orders ≡ false) × (awaits_note table.settings.notes task table.notes ≡ false)
unfolding is_suspended
suspended_parts table task is =
    at (is_ready task table.orders) refl (waits task table.orders) refl (awaits_note table.settings.notes task table.notes) refl
  where
    at : (a : Bool) → is_ready task table.orders ≡ a → (b : Bool) → waits task table.orders ≡ b → (c : Bool) → awaits_note table.settings.notes task table.notes ≡ c
        → (a ≡ false) × (b ≡ false) × (c ≡ false)
    at false ready false waiting false note = (refl, refl, refl)
    at true ready b waiting c note = absurd (cc (is, ready))
    at false ready true waiting c note = absurd (cc (is, ready, waiting))
    at false ready false waiting true note = absurd (cc (is, ready, waiting, note))

pub none_at : (p : ℕ → Bool) (n : ℕ) (ns : List ℕ) → list_any p ns ≡ false → has n ns ≡ true → p n ≡ false
none_at p n [] none there = absurd (cc (there))
none_at p n (m ∷ ms) none there = grind (arith, nat_tests, none, there, none_at p n ms)

pub notify_wakes_none : (table : Table) (acting : ℕ) (note : Note) → note.index < table.settings.notes → is_suspended stamp_queues note.task table ≡ true
    → notify stamp_queues acting note table ≡ record table { notes = (notify stamp_queues acting note table).notes }
notify_wakes_none table acting note low is =
    wakes_only_a_waiter table acting note
    (none_at (λ index. is_waiting (note_at table.notes (slot_of table.settings note.task index)).state) note.index (numbers table.settings.notes)
    (suspended_parts table note.task is).2 (numbers_have table.settings.notes note.index low))

pub none_is_due : (table : Table) (task : ℕ) → is_suspended stamp_queues task table ≡ true → has task (due table.orders) ≡ false
unfolding due
none_is_due table task is =
    let stamps = table.orders in
    let none = no_wake (row_at stamps task).standing (suspended_parts table task is).1 in
    let not_now : wakes_at stamps.tick (row_at stamps task).standing ≡ false = ap (λ wake. option_map_or (λ at. eqb at stamps.tick) wake false) none in
    has-by_stamp (stamp_of stamps) (λ task. wakes_at stamps.tick (row_at stamps task).standing) (tasks_of stamps) task stamps.next ∙ grind
    (arith, not_now)
  where
    no_wake : (standing : TaskState) → (is_some (wake_in standing) || is_some (list_awaited task table.orders.waiters)) ≡ false → wake_in standing ≡ None
    no_wake Ready none = refl
    no_wake (Blocked None) none = refl
    no_wake (Blocked (Some at)) none = absurd (cc (none))

served_awaits : (list : ℕ) (waiters : List Waiter) (waiter : Waiter) → find (λ (w : Waiter). eqb w.wait.list list) waiters ≡ Some waiter
    → is_some (list_awaited waiter.task waiters) ≡ true
served_awaits list [] waiter is = absurd (cc (is))
served_awaits list (w ∷ ws) waiter is = at (eqb w.wait.list list) is (served_awaits list ws waiter)
  where
    found_here : (b : Bool) (rest : Option Waiter) → is_some (option_map (λ (w : Waiter). w.wait.list) rest) ≡ true → is_some
        (option_map (λ (w : Waiter). w.wait.list) (cond b (Some w) rest)) ≡ true
    found_here true rest later = refl
    found_here false rest later = later

    at : (b : Bool) → cond b (Some w) (find (λ (w : Waiter). eqb w.wait.list list) ws) ≡ Some waiter
        → (find (λ (w : Waiter). eqb w.wait.list list) ws ≡ Some waiter → is_some (list_awaited waiter.task ws) ≡ true)
        → is_some (list_awaited waiter.task (w ∷ ws)) ≡ true
    at true here rest =
        let same : w ≡ waiter = cc (here) in
        let its : eqb w.task waiter.task ≡ true = grind (arith, nat_tests, ap (λ (w : Waiter). w.task) same) in
        ap (λ b. is_some (option_map (λ (w : Waiter). w.wait.list) (cond b (Some w) (find (λ (w : Waiter). eqb w.task waiter.task) ws)))) its
    at false later rest = found_here (eqb w.task waiter.task) (find (λ (w : Waiter). eqb w.task waiter.task) ws) (rest later)

pub none_is_served : (table : Table) (list : ℕ) (waiter : Waiter) → first_waiter list table.orders ≡ Some waiter
    → is_suspended stamp_queues waiter.task table ≡ false
unfolding first_waiter
none_is_served table list waiter first = at (is_suspended stamp_queues waiter.task table) refl
  where
    at : (b : Bool) → is_suspended stamp_queues waiter.task table ≡ b → b ≡ false
    at false is = refl
    at true is =
        let waits_on = served_awaits list table.orders.waiters waiter first in
        let parts = suspended_parts table waiter.task is in
        grind (arith, waits_on, parts.1)
