-- The core that is asked, seeking and time slices: what the search finds, how each is seen, and that each keeps soundness.
use Rattle.std.proofs.Common.{◌≡◌, ℕ, ◌<◌, ◌≤◌, Bool, true, false, cond, not, eqb, ◌&&◌, ◌||◌, List, length, map, Option, Some, None, refl, sym, ap, subst, ◌∙◌}
use Rattle.std.proofs.Common.{arith, inl, inr}
use Rattle.std.specs.Option.{option_map_or}
use Rattle.std.proofs.lemmas.Bool.{cases_lt}
use Rattle.std.proofs.lemmas.List.{get_or_past, length-set}
use Rattle.std.proofs.lemmas.List.FromFn.{get_or-map-range_with_len, length-map-range_with_len}
use Rattle.bench_types.specs.declared.kernel_data.CoreLook.{CoreLook}
use Rattle.list_orders.specs.Search.{numbers}
use Rattle.bench_model.specs.Control.{Control, core_at, task_at, current, is_due, in_mask, ask, asked_by, asked_where, ask_each}
use Rattle.bench_model.specs.State.{after_select}
use Rattle.bench_model.specs.Table.{Stamps, Table, stamp_queues, is_ready, add_to_ready_list}
use Rattle.bench_model.specs.Lists as seen
use Rattle.bench_model.specs.Lists.{list_queues, lists_of, view_of}
use Rattle.bench_model.specs.Seek.{is_running, core_to_yield, seek, may_move, wake, after_eviction, after_switch, ready_in, shares_its_time, sliced}
use Rattle.rule_laws.specs.SeekLaws.{sought}
use Rattle.order_laws.proofs.AskedCores.{best_core}
use Rattle.order_laws.specs.AskedCores.{IsAnswer}
use Rattle.bench_model.specs.Sound.{IsConsistent}
use Rattle.list_orders.proofs.Filters.{All-weaker, filter_agrees, map_agrees}
use Rattle.order_laws.proofs.Restamps.{IsGiven}
use Rattle.order_laws.proofs.SeenMoves.{is_ready_seen, add_to_ready_seen}
use Rattle.order_laws.proofs.SeenSteps.{same_state, lists_of_cores, after_select_seen}
use Rattle.order_laws.proofs.SoundSteps.{IsAskedMore, asked_more, asked_runs, asked_is_due, more_sound, ready_sound, queued_length, after_select_sound}
use Rattle.list_orders.proofs.Stamped.{numbers_below}

-- the orders do not read the cores, of which seeking may ask one
seek_apart : (acting task : ℕ) (among : ℕ → Bool) (control : Control) (stamps : Stamps) → lists_of (seek acting task among control) stamps ≡ lists_of control
    stamps
unfolding seek
seek_apart acting task among control stamps = at (is_running control task) (core_to_yield control task among)
  where
    at : (b : Bool) (o : Option ℕ) → lists_of (cond b control (option_map_or (λ core. ask acting core control) o control)) stamps ≡ lists_of control stamps
    at true o = refl
    at false None = refl
    at false (Some core) = lists_of_cores control _ stamps

pub seek_seen : (table : Table) (acting task : ℕ) (among : ℕ → Bool) → view_of (sought acting task among table) ≡ sought acting task among (view_of table)
seek_seen table acting task among = same_state table.settings _ _ table.calls table.notes table.holders table.queues table.hold _ _ refl
    (seek_apart acting task among table.control table.orders)

pub wake_seen : (table : Table) (acting task : ℕ) → IsGiven table.orders → task < length table.orders.rows → view_of (wake stamp_queues acting task table) ≡
    wake list_queues acting task (view_of table)
unfolding wake
wake_seen table acting task given below =
    same_state table.settings _ _ table.calls table.notes table.holders table.queues table.hold _ _ refl
    (seek_apart acting task (in_mask table.control task) table.control (add_to_ready_list task table.orders) ∙ add_to_ready_seen table.control table.orders task
    given below)

after_eviction_seen : (table : Table) (core loser : ℕ) → IsGiven table.orders → loser < length table.orders.rows → view_of
    (after_eviction stamp_queues core loser table) ≡ after_eviction list_queues core loser (view_of table)
unfolding after_eviction
after_eviction_seen table core loser given below =
    at (lost && is_ready loser table.orders) (lost && seen.is_ready loser (lists_of table.control table.orders))
    (ap (λ b. lost && b) (sym (is_ready_seen table.control table.orders loser given below)))
  where
    lost : Bool
    lost = not (eqb (current table.control core) loser)

    at : (b d : Bool) → b ≡ d → view_of (cond b (sought core loser (may_move table.control loser (current table.control core) core) table) table) ≡ cond d
        (sought core loser (may_move table.control loser (current table.control core) core) (view_of table)) (view_of table)
    at true true same = seek_seen table core loser (may_move table.control loser (current table.control core) core)
    at false false same = refl
    at true false same = absurd (cc (same))
    at false true same = absurd (cc (same))

pub after_select_rows : (table : Table) (core : ℕ) → IsConsistent table → core < length table.control.cores → length
    (after_select stamp_queues core table).orders.rows ≡ length table.orders.rows
unfolding after_select
after_select_rows table core sound below = queued_length table.orders (current table.control core) (sound.in_place.is_task core below)

pub after_switch_seen : (table : Table) (core : ℕ) → IsConsistent table → core < table.settings.cores → view_of (after_switch stamp_queues core table) ≡
    after_switch list_queues core (view_of table)
unfolding after_switch
after_switch_seen table core sound low =
    let below : core < length table.control.cores = omega (arith, sound.sized.cores) in
    let loser = current table.control core in
    let on = sound.in_place.is_task core below in
    let there = after_select_sound core table sound below in
    after_eviction_seen (after_select stamp_queues core table) core loser there.stamped.given (omega (arith, on, after_select_rows table core sound below))
    ∙ ap (after_eviction list_queues core loser) (after_select_seen core table sound.stamped on)

-- the tasks of a ready list
ready_in_seen : (table : Table) (priority : ℕ) → IsConsistent table → ready_in stamp_queues priority table ≡ ready_in list_queues priority (view_of table)
ready_in_seen table priority sound =
    let tasks = length table.control.tasks in
    filter_agrees (λ task. is_ready task table.orders && eqb (task_at table.control task).in_use priority)
    (λ task. seen.is_ready task (lists_of table.control table.orders) && eqb (task_at table.control task).in_use priority) (numbers tasks)
    (All-weaker (λ task. task < tasks) _ (λ task below. ap (λ b. b && eqb (task_at table.control task).in_use priority)
    (sym (is_ready_seen table.control table.orders task sound.stamped.given (omega (arith, sound.sized.controls, sound.sized.rows))))) (numbers tasks)
    (numbers_below tasks))

shares_seen : (table : Table) (core : ℕ) → IsConsistent table → core < length table.control.cores → shares_its_time stamp_queues table core ≡ shares_its_time
    list_queues (view_of table) core
shares_seen table core sound below =
    let runs = current table.control core in
    let ready = is_ready_seen table.control table.orders runs sound.stamped.given (sound.in_place.is_task core below) in
    let list = ready_in_seen table (task_at table.control runs).in_use sound in
    cc (ready, list)

sliced_control : (table : Table) → IsConsistent table → ask_each 0 (shares_its_time stamp_queues table) table.control ≡ ask_each 0
    (shares_its_time list_queues (view_of table)) table.control
sliced_control table sound =
    let cores = length table.control.cores in
    ap (λ (looks : List CoreLook). record table.control { cores = looks })
    (map_agrees (asked_where 0 (shares_its_time stamp_queues table) table.control) (asked_where 0 (shares_its_time list_queues (view_of table)) table.control)
    (numbers cores)
    (All-weaker (λ core. core < cores) _ (λ core below. ap (λ b. cond b (asked_by 0 core (core_at table.control core)) (core_at table.control core))
    (shares_seen table core sound below)) (numbers cores) (numbers_below cores)))

pub sliced_seen : (table : Table) → IsConsistent table → view_of (sliced stamp_queues table) ≡ sliced list_queues (view_of table)
unfolding sliced
sliced_seen table sound = at table.settings.slicing
  where
    at : (b : Bool) → view_of (cond b (record table { control = ask_each 0 (shares_its_time stamp_queues table) table.control }) table) ≡ cond b
        (record (view_of table) { control = ask_each 0 (shares_its_time list_queues (view_of table)) table.control }) (view_of table)
    at true = same_state table.settings _ _ table.calls table.notes table.holders table.queues table.hold _ _ (sliced_control table sound)
        (lists_of_cores table.control _ table.orders)
    at false = refl

-- seeking asks one core, or none
pub seek_more : (acting task : ℕ) (among : ℕ → Bool) (control : Control) → IsAskedMore control (seek acting task among control)
unfolding seek
seek_more acting task among control = at (is_running control task) (core_to_yield control task among) refl
  where
    none : IsAskedMore control control
    none = record { cores = refl; tasks = refl; currents = λ c. refl; due = λ c is. is }

    at : (b : Bool) (o : Option ℕ) → core_to_yield control task among ≡ o → IsAskedMore control
        (cond b control (option_map_or (λ core. ask acting core control) o control))
    at true o same = none
    at false None same = none
    at false (Some core) same = asked_more control acting core (subst (IsAnswer control task among) same (best_core control task among)).0.0

pub ask_sound : (table : Table) (acting core : ℕ) → IsConsistent table → core < table.settings.cores → IsConsistent
    (record table { control = ask acting core table.control })
ask_sound table acting core sound low = more_sound table (ask acting core table.control)
    (asked_more table.control acting core (omega (arith, sound.sized.cores))) sound

pub seek_sound : (table : Table) (acting task : ℕ) (among : ℕ → Bool) → IsConsistent table → IsConsistent (sought acting task among table)
seek_sound table acting task among sound = more_sound table (seek acting task among table.control) (seek_more acting task among table.control) sound

pub wake_sound : (table : Table) (acting task : ℕ) → IsConsistent table → task < table.settings.tasks → IsConsistent (wake stamp_queues acting task table)
unfolding wake
wake_sound table acting task sound low =
    let readied = ready_sound table task sound low in
    more_sound (record table { orders = add_to_ready_list task table.orders }) (seek acting task (in_mask table.control task) table.control)
    (seek_more acting task (in_mask table.control task) table.control) readied

after_eviction_sound : (table : Table) (core loser : ℕ) → IsConsistent table → IsConsistent (after_eviction stamp_queues core loser table)
unfolding after_eviction
after_eviction_sound table core loser sound = at (not (eqb (current table.control core) loser) && is_ready loser table.orders)
  where
    among : ℕ → Bool
    among = may_move table.control loser (current table.control core) core

    at : (b : Bool) → IsConsistent (cond b (record table { control = seek core loser among table.control }) table)
    at true = seek_sound table core loser among sound
    at false = sound

pub after_switch_sound : (table : Table) (core : ℕ) → IsConsistent table → core < table.settings.cores → IsConsistent (after_switch stamp_queues core table)
unfolding after_switch
after_switch_sound table core sound low = after_eviction_sound (after_select stamp_queues core table) core (current table.control core)
    (after_select_sound core table sound (omega (arith, sound.sized.cores)))

after_eviction_length : (table : Table) (core loser : ℕ) → length (after_eviction stamp_queues core loser table).control.cores ≡ length table.control.cores
unfolding after_eviction
after_eviction_length table core loser = at (not (eqb (current table.control core) loser) && is_ready loser table.orders)
  where
    among : ℕ → Bool
    among = may_move table.control loser (current table.control core) core

    at : (b : Bool) → length (cond b (record table { control = seek core loser among table.control }) table).control.cores ≡ length table.control.cores
    at true = (seek_more core loser among table.control).cores
    at false = refl

after_select_length : (core : ℕ) (table : Table) → length (after_select stamp_queues core table).control.cores ≡ length table.control.cores
unfolding after_select
after_select_length core table = length-set table.control.cores core _

pub after_switch_length : (core : ℕ) (table : Table) → length (after_switch stamp_queues core table).control.cores ≡ length table.control.cores
unfolding after_switch
after_switch_length core table = after_eviction_length (after_select stamp_queues core table) core (current table.control core) ∙ after_select_length core table

-- the looks of cores some of which were asked
abbrev no_look : CoreLook
no_look = record { current = 0; pend = false; asked = false }

each_look : (acting : ℕ) (test : ℕ → Bool) (control : Control) (core : ℕ) → core < length control.cores → core_at (ask_each acting test control) core ≡
    asked_where acting test control core
each_look acting test control core below = get_or-map-range_with_len (asked_where acting test control) 0 (length control.cores) core core no_look below
    (omega arith)

each_past : (acting : ℕ) (test : ℕ → Bool) (control : Control) (core : ℕ) → length control.cores ≤ core → core_at (ask_each acting test control) core ≡ core_at
    control core
each_past acting test control core past =
    get_or_past (map (asked_where acting test control) (numbers (length control.cores))) core no_look
    (omega (arith, length-map-range_with_len (asked_where acting test control) 0 (length control.cores))) ∙ sym
    (get_or_past control.cores core no_look past)

where_runs : (acting : ℕ) (test : ℕ → Bool) (control : Control) (core : ℕ) → (asked_where acting test control core).current ≡ current control core
where_runs acting test control core = at (test core)
  where
    at : (b : Bool) → (cond b (asked_by acting core (core_at control core)) (core_at control core)).current ≡ current control core
    at true = asked_runs acting core (core_at control core)
    at false = refl

where_due : (acting : ℕ) (test : ℕ → Bool) (control : Control) (core : ℕ) → is_due control core ≡ true →
    ((asked_where acting test control core).pend || (asked_where acting test control core).asked) ≡ true
where_due acting test control core is = at (test core)
  where
    at : (b : Bool) → ((cond b (asked_by acting core (core_at control core)) (core_at control core)).pend ||
        (cond b (asked_by acting core (core_at control core)) (core_at control core)).asked) ≡ true
    at true = asked_is_due acting core (core_at control core)
    at false = is

pub each_more : (acting : ℕ) (test : ℕ → Bool) (control : Control) → IsAskedMore control (ask_each acting test control)
each_more acting test control = record {
  cores = length-map-range_with_len (asked_where acting test control) 0 (length control.cores);
  tasks = refl;
  currents = λ c. elim (cases_lt c (length control.cores)) [
    | inl below ↦ ap (λ (l : CoreLook). l.current) (each_look acting test control c below) ∙ where_runs acting test control c
    | inr past ↦ ap (λ (l : CoreLook). l.current) (each_past acting test control c past)
  ];
  due = λ c is. elim (cases_lt c (length control.cores)) [
    | inl below ↦ ap (λ (l : CoreLook). l.pend || l.asked) (each_look acting test control c below) ∙ where_due acting test control c is
    | inr past ↦ ap (λ (l : CoreLook). l.pend || l.asked) (each_past acting test control c past) ∙ is
  ];
}

pub sliced_sound : (table : Table) → IsConsistent table → IsConsistent (sliced stamp_queues table)
unfolding sliced
sliced_sound table sound = at table.settings.slicing
  where
    at : (b : Bool) → IsConsistent (cond b (record table { control = ask_each 0 (shares_its_time stamp_queues table) table.control }) table)
    at true = more_sound table (ask_each 0 (shares_its_time stamp_queues table) table.control) (each_more 0 (shares_its_time stamp_queues table) table.control)
        sound
    at false = sound
