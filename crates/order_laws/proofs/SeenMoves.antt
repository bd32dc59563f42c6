-- Each move of a table, seen as lists, is the move of what was seen of the table before.
use Rattle.bench_model.proofs.Ranks.{priority_of, outranks-IsRank, wakes_first-IsRank}
use Rattle.std.proofs.Common.{◌≡◌, ℕ, suc, ◌+◌, ◌-◌, ◌<◌, ◌≤◌, ◌%◌, ◌^◌, true, false, not, eqb, ◌&&◌, List, [], ◌∷◌, length, map, Option, Some, None, refl, sym}
use Rattle.std.proofs.Common.{ap, ap₂, ◌∙◌, arith, cond}
use Rattle.std.proofs.Common.{add-one}
use Rattle.std.proofs.Math.Nat.{mod-add-mod}
use Rattle.std.proofs.Math.ListN.{get_or-map}
use Rattle.std.specs.Prelude.{unwrap_or, is_some, option_map, slice_set}
use Rattle.std.specs.Option.{option_map_or}
use Rattle.std.specs.List.{filter, find, AllByRecursion}
use Rattle.std.proofs.lemmas.List.{append-nil, map-set}
use Rattle.std.proofs.lemmas.Bool.Decides.{nat_tests}
use Rattle.bench_types.specs.declared.kernel_data.Delayed.{Delayed}
use Rattle.bench_types.specs.declared.kernel_data.EventWait.{EventWait}
use Rattle.bench_types.specs.declared.kernel_data.Waiter.{Waiter}
use Rattle.bench_model.specs.declared.row.TaskState.{TaskState}
use Rattle.bench_model.specs.declared.row.TaskState.TheVariants.{Ready, Blocked}
use Rattle.list_orders.specs.Search.{numbers, by_stamp, placed, ranked, without, has}
use Rattle.bench_model.specs.Control.{Control, may_select}
use Rattle.bench_model.specs.Table.{Stamps, row_at, stamp_of, tasks_of, is_ready, stands_ready, wake_in, ahead, wakes_at, pick, add_to_ready_list}
use Rattle.bench_model.specs.Table.{delay, suspend, deadline_left, forget_deadline, set_list_value, advance, due}
use Rattle.bench_model.specs.Waiters.{list_value_of}
use Rattle.bench_model.specs.Lists as seen
use Rattle.bench_model.specs.Lists.{Lists, lists_of, delayed_of, outranks, wakes_first}
use Rattle.bench_model.specs.Sound.{IsStamped}
use Rattle.list_orders.proofs.Filters.{filter-map, find_filter, All-filter_passes, All-weaker, All-both, All-map}
use Rattle.list_orders.proofs.Ranks.{ranked-push, filter-ranked, list_any-ranked, All-ranked, ranked_same, map-ranked}
use Rattle.list_orders.proofs.Stamped.{numbers_below, numbers_have, has-by_stamp, All-by_stamp, All-by_stamp_passes, filter-by_stamp, by_stamp_agrees}
use Rattle.list_orders.proofs.Choices.{by_stamp_ordered, ranked_ordered, first_is_best}
use Rattle.order_laws.proofs.Entries.{entries, entries_initial, entries_over}
use Rattle.order_laws.proofs.Restamps.{IsGiven, standing_so, waits, has-standing_so, standing_so_moved}

-- whether a task is ready
pub is_ready_seen : (control : Control) (stamps : Stamps) (task : ℕ) → IsGiven stamps → task < length stamps.rows → has task (lists_of control stamps).ready ≡
    is_ready task stamps
unfolding lists_of
is_ready_seen control stamps task given below = list_any-ranked (outranks control) (λ m. eqb m task) (standing_so stands_ready stamps) ∙ has-standing_so
    stands_ready stamps task given below

-- the task that a core selects
pub pick_seen : (control : Control) (core : ℕ) (stamps : Stamps) → IsStamped stamps → seen.pick control core (lists_of control stamps) ≡ pick control core
    stamps
unfolding lists_of seen.pick pick
pick_seen control core stamps stamped =
    let n = length stamps.rows in
    let may = may_select control core in
    let test = λ (i : ℕ). is_ready i stamps && may i in
    let xs = by_stamp (stamp_of stamps) test (numbers n) stamps.next in
    let kept : filter may (ranked (outranks control) (standing_so stands_ready stamps)) ≡ ranked (outranks control) xs = filter-ranked (outranks control)
    (outranks-IsRank control) may (standing_so stands_ready stamps) ∙ ap (ranked (outranks control))
    (filter-by_stamp (stamp_of stamps) (λ i. is_ready i stamps) (numbers n) may stamps.next) in
    let among : (i : ℕ) → i < n → has i (ranked (outranks control) xs) ≡ test i = λ i h. list_any-ranked (outranks control) (λ m. eqb m i) xs ∙ grind
    (arith, nat_tests, has-by_stamp (stamp_of stamps) test (numbers n) i stamps.next, stamped.given i h, numbers_have n i h) in
    find_filter may (ranked (outranks control) (standing_so stands_ready stamps)) ∙ ap (find (λ _. true)) kept
    ∙ first_is_best (priority_of control) (stamp_of stamps) test n (ranked (outranks control) xs)
    (ranked_ordered (priority_of control) (stamp_of stamps) xs (by_stamp_ordered (stamp_of stamps) test (numbers n) stamps.next))
    (All-ranked (outranks control) (λ i. i < n) xs (All-by_stamp (stamp_of stamps) test (numbers n) (λ i. i < n) stamps.next (numbers_below n)))
    among stamped.once

abbrev pub lists_from : List ℕ → ℕ → List Delayed → List Waiter → List (Option ℕ) → List ℕ → Lists
lists_from ready tick delayed waiters deadlines values = record {
  ready = ready;
  tick = tick;
  delayed = delayed;
  waiters = waiters;
  deadlines = deadlines;
  values = values;
}

pub same_seen : (ready other : List ℕ) (tick later : ℕ) (delayed left : List Delayed) (waiters ones : List Waiter) (deadlines ends : List (Option ℕ))
    (values : List ℕ) → ready ≡ other → tick ≡ later → delayed ≡ left → waiters ≡ ones → deadlines ≡ ends → lists_from ready tick delayed waiters deadlines
    values ≡ lists_from other later left ones ends values
same_seen ready other tick later delayed left waiters ones deadlines ends values a b c d e = cc

-- the entries of tasks that wait for some ticks
abbrev pub delayed_from : ℕ → ℕ → TaskState → Delayed
delayed_from tick task standing = record { task = task; left = unwrap_or (wake_in standing) 0 - tick }

abbrev pub deadline_from : ℕ → Option ℕ → Option ℕ
deadline_from tick deadline = option_map (λ deadline. deadline - tick) deadline

-- the ready tasks without one
ready_without : (control : Control) (task : ℕ) (ids : List ℕ) → ranked (outranks control) (without task ids) ≡ without task (ranked (outranks control) ids)
ready_without control task ids = sym (filter-ranked (outranks control) (outranks-IsRank control) (λ m. not (eqb m task)) ids)

-- a task made ready
pub add_to_ready_seen : (control : Control) (stamps : Stamps) (task : ℕ) → IsGiven stamps → task < length stamps.rows → lists_of control
    (add_to_ready_list task stamps) ≡ seen.add_to_ready_list control task (lists_of control stamps)
unfolding lists_of add_to_ready_list seen.add_to_ready_list
add_to_ready_seen control stamps task given below =
    let ready = standing_so stands_ready stamps in
    same_seen _ _ _ _ _ _ _ _ _ _ _
    (ap (ranked (outranks control)) (standing_so_moved stamps task Ready below stands_ready given) ∙ ranked-push (outranks control) (without task ready) task ∙
    ap (placed (outranks control) task) (ready_without control task ready))
    refl
    (entries_over wakes_first waits (delayed_from stamps.tick) stamps task Ready below (λ e. e.task) (λ i s. refl) wakes_first-IsRank given refl)
    refl
    refl

-- a task that is suspended
pub suspend_seen : (control : Control) (stamps : Stamps) (task : ℕ) → IsGiven stamps → task < length stamps.rows → lists_of control (suspend task stamps) ≡
    seen.suspend task (lists_of control stamps)
unfolding lists_of suspend seen.suspend
suspend_seen control stamps task given below =
    let ready = standing_so stands_ready stamps in
    same_seen _ _ _ _ _ _ _ _ _ _ _
    (ap (ranked (outranks control)) (standing_so_moved stamps task (Blocked None) below stands_ready given ∙ append-nil (without task ready)) ∙ ready_without
    control task ready)
    refl
    (entries_over wakes_first waits (delayed_from stamps.tick) stamps task (Blocked None) below (λ e. e.task) (λ i s. refl) wakes_first-IsRank given refl)
    refl
    refl

ready_waits_not : (standing : TaskState) → stands_ready standing ≡ true → waits standing ≡ false
ready_waits_not Ready ready = refl
ready_waits_not (Blocked wake) ready = absurd (cc)

-- where a task stands that waits from now on
abbrev initial : Stamps → Option ℕ → TaskState
initial stamps ticks = Blocked (ahead stamps ticks)

-- one more entry, where there is what it is of
delayed_initial : (stamps : Stamps) (task : ℕ) (ticks : Option ℕ) (delayed : List Delayed) → cond (waits (initial stamps ticks))
    (placed wakes_first (delayed_from stamps.tick task (initial stamps ticks)) delayed) delayed ≡ option_map_or
    (λ left. placed wakes_first (record { task = task; left = left }) delayed) ticks delayed
delayed_initial stamps task None delayed = refl
delayed_initial stamps task (Some ticks) delayed =
    let now : (stamps.tick + ticks) - stamps.tick ≡ ticks = omega arith in
    ap (λ left. placed wakes_first (record { task = task; left = left }) delayed) now

deadline_initial : (stamps : Stamps) (ticks : Option ℕ) (wait : Option EventWait) → deadline_from stamps.tick (cond (is_some wait) (ahead stamps ticks) None) ≡
    cond (is_some wait) ticks None
deadline_initial stamps ticks None = refl
deadline_initial stamps None (Some wait) = refl
deadline_initial stamps (Some ticks) (Some wait) =
    let now : (stamps.tick + ticks) - stamps.tick ≡ ticks = omega arith in
    ap Some now

-- a ready task that waits from now on
pub delay_seen : (control : Control) (stamps : Stamps) (task : ℕ) (ticks : Option ℕ) (wait : Option EventWait) → IsGiven stamps → task < length stamps.rows →
    is_ready task stamps ≡ true → lists_of control (delay task ticks wait stamps) ≡ seen.delay task ticks wait (lists_of control stamps)
unfolding lists_of delay seen.delay
delay_seen control stamps task ticks wait given below ready_now =
    let ready = standing_so stands_ready stamps in
    let standing = initial stamps ticks in
    let none = ready_waits_not (row_at stamps task).standing ready_now in
    same_seen _ _ _ _ _ _ _ _ _ _ _
    (ap (ranked (outranks control)) (standing_so_moved stamps task standing below stands_ready given ∙ append-nil (without task ready)) ∙ ready_without control
    task ready)
    refl
    (entries_initial wakes_first waits (delayed_from stamps.tick) stamps task standing below given none ∙ delayed_initial stamps task ticks
    (entries wakes_first waits (delayed_from stamps.tick) stamps))
    refl
    (map-set (deadline_from stamps.tick) stamps.deadlines task _ ∙ ap (slice_set (map (deadline_from stamps.tick) stamps.deadlines) task)
    (deadline_initial stamps ticks wait))

pub deadline_left_seen : (control : Control) (stamps : Stamps) (task : ℕ) → seen.deadline_left task (lists_of control stamps) ≡ deadline_left task stamps
unfolding lists_of deadline_left
deadline_left_seen control stamps task = get_or-map (deadline_from stamps.tick) stamps.deadlines task None

pub forget_deadline_seen : (control : Control) (stamps : Stamps) (task : ℕ) → lists_of control (forget_deadline task stamps) ≡ seen.forget_deadline task
    (lists_of control stamps)
unfolding lists_of forget_deadline seen.forget_deadline
forget_deadline_seen control stamps task = same_seen _ _ _ _ _ _ _ _ _ _ _ refl refl refl refl (map-set (deadline_from stamps.tick) stamps.deadlines task None)

-- another list value
pub set_list_value_seen : (control : Control) (stamps : Stamps) (task value : ℕ) → lists_of control (set_list_value task value stamps) ≡ seen.set_list_value
    task value (lists_of control stamps)
unfolding lists_of set_list_value seen.set_list_value
set_list_value_seen control stamps task value = refl

pub list_value_seen : (control : Control) (stamps : Stamps) (task : ℕ) → seen.list_value task (lists_of control stamps) ≡ list_value_of task stamps.values
unfolding lists_of
list_value_seen control stamps task = refl

-- each waiting task still waits
abbrev pub IsAhead : Stamps → Type 0
IsAhead stamps = (i wake : ℕ) → i < length stamps.rows → wake_in (row_at stamps i).standing ≡ Some wake → stamps.tick < wake

-- no wake has gone by
abbrev pub IsNotPast : Stamps → Type 0
IsNotPast stamps = (i wake : ℕ) → i < length stamps.rows → wake_in (row_at stamps i).standing ≡ Some wake → stamps.tick ≤ wake

abbrev entry : ℕ → ℕ → Delayed
entry task left = record { task = task; left = left }

abbrev aged : Delayed → Delayed
aged e = record e { left = e.left - 1 }

some_left : (tick : ℕ) (wake : Option ℕ) → is_some wake ≡ true → ((at : ℕ) → wake ≡ Some at → tick < at) → 0 < unwrap_or wake 0 - tick
some_left tick None waiting ahead = absurd (cc)
some_left tick (Some at) waiting ahead = omega (arith, ahead at refl)

all_left : (stamps : Stamps) → IsAhead stamps → AllByRecursion (λ (e : Delayed). 0 < e.left) (map (delayed_of stamps) (standing_so waits stamps))
all_left stamps ahead =
    let test = λ (i : ℕ). waits (row_at stamps i).standing in
    let ids = numbers (length stamps.rows) in
    All-map (λ (e : Delayed). 0 < e.left) (delayed_of stamps) (standing_so waits stamps)
    (All-weaker (λ i. (test i ≡ true) × (i < length stamps.rows)) (λ i. 0 < (delayed_of stamps i).left)
    (λ i h. some_left stamps.tick (wake_in (row_at stamps i).standing) h.0 (λ wake. ahead i wake h.1)) (standing_so waits stamps)
    (All-both (λ i. test i ≡ true) (λ i. i < length stamps.rows) (standing_so waits stamps) (All-by_stamp_passes (stamp_of stamps) test ids stamps.next)
    (All-by_stamp (stamp_of stamps) test ids (λ i. i < length stamps.rows) stamps.next (numbers_below (length stamps.rows)))))

map_aged : (stamps : Stamps) (ids : List ℕ) → map aged (map (delayed_of stamps) ids) ≡ map (delayed_of (advance stamps)) ids
unfolding advance
map_aged stamps [] = refl
map_aged stamps (i ∷ ids) =
    let less : (unwrap_or (wake_in (row_at stamps i).standing) 0 - stamps.tick) - 1 ≡ unwrap_or (wake_in (row_at stamps i).standing) 0 - suc stamps.tick = omega
    arith in
    ap (λ left. entry i left ∷ map aged (map (delayed_of stamps) ids)) less ∙ ap (λ es. delayed_of (advance stamps) i ∷ es) (map_aged stamps ids)

one_more : (tick : ℕ) → suc tick % 2 ^ 32 ≡ (tick % 2 ^ 32 + 1) % 2 ^ 32
one_more tick = ap (λ n. n % 2 ^ 32) (sym (add-one tick)) ∙ sym (mod-add-mod tick (2 ^ 32) 1)

aged_deadline : (tick : ℕ) (deadline : Option ℕ) → deadline_from (suc tick) deadline ≡ option_map (λ left. left - 1) (deadline_from tick deadline)
aged_deadline tick None = refl
aged_deadline tick (Some deadline) =
    let less : deadline - suc tick ≡ (deadline - tick) - 1 = omega arith in
    ap Some less

aged_deadlines : (tick : ℕ) (deadlines : List (Option ℕ)) → map (deadline_from (suc tick)) deadlines ≡ map (option_map (λ left. left - 1))
    (map (deadline_from tick) deadlines)
aged_deadlines tick [] = refl
aged_deadlines tick (d ∷ ds) = ap₂ (λ first rest. first ∷ rest) (aged_deadline tick d) (aged_deadlines tick ds)

-- one tick more
pub advance_seen : (control : Control) (stamps : Stamps) → IsAhead stamps → lists_of control (advance stamps) ≡ seen.advance (lists_of control stamps)
unfolding lists_of advance seen.advance
advance_seen control stamps ahead =
    let waiting = standing_so waits stamps in
    same_seen _ _ _ _ _ _ _ _ _ _ _ refl (one_more stamps.tick)
    (ap (ranked wakes_first) (sym (map_aged stamps waiting))
    ∙ sym (map-ranked wakes_first wakes_first aged (λ (e : Delayed). 0 < e.left) (λ a b h k. grind (arith, nat_tests, h, k)) (map (delayed_of stamps) waiting)
    (all_left stamps ahead)))
    refl
    (aged_deadlines stamps.tick stamps.deadlines)

map_tasks : (stamps : Stamps) (ids : List ℕ) → map (λ (e : Delayed). e.task) (map (delayed_of stamps) ids) ≡ ids
map_tasks stamps [] = refl
map_tasks stamps (i ∷ ids) = ap (λ rest. i ∷ rest) (map_tasks stamps ids)

due_at : (tick : ℕ) (wake : Option ℕ) → ((at : ℕ) → wake ≡ Some at → tick ≤ at) → (is_some wake && eqb (unwrap_or wake 0 - tick) 0) ≡ option_map_or
    (λ at. eqb at tick) wake false
due_at tick None near = refl
due_at tick (Some at) near = grind (arith, nat_tests, near at refl)

-- the tasks whose wake is now
pub due_seen : (control : Control) (stamps : Stamps) → IsNotPast stamps → seen.due (lists_of control stamps) ≡ due stamps
unfolding lists_of due seen.due_tasks
due_seen control stamps near =
    let waiting = standing_so waits stamps in
    let none_left = λ (e : Delayed). eqb e.left 0 in
    let entries = map (delayed_of stamps) waiting in
    let kept : filter none_left (ranked wakes_first entries) ≡ filter none_left entries = filter-ranked wakes_first wakes_first-IsRank none_left entries
    ∙ ranked_same wakes_first (λ e. none_left e ≡ true) (λ a b h k. grind (arith, nat_tests, h, k)) (filter none_left entries)
    (All-filter_passes none_left entries) in
    let these : filter (λ i. none_left (delayed_of stamps i)) waiting ≡ due stamps = filter-by_stamp (stamp_of stamps) (λ i. waits (row_at stamps i).standing)
    (tasks_of stamps) (λ i. none_left (delayed_of stamps i)) stamps.next
    ∙ by_stamp_agrees (stamp_of stamps) (λ i. waits (row_at stamps i).standing && none_left (delayed_of stamps i))
    (λ i. wakes_at stamps.tick (row_at stamps i).standing) (tasks_of stamps) stamps.next
    (All-weaker (λ i. i < length stamps.rows) (λ i. (waits (row_at stamps i).standing && none_left (delayed_of stamps i)) ≡ wakes_at stamps.tick
    (row_at stamps i).standing) (λ i h. due_at stamps.tick (wake_in (row_at stamps i).standing) (λ wake. near i wake h)) (tasks_of stamps)
    (numbers_below (length stamps.rows))) in
    ap (map (λ (e : Delayed). e.task)) (kept ∙ filter-map none_left (delayed_of stamps) waiting) ∙ map_tasks stamps
    (filter (λ i. none_left (delayed_of stamps i)) waiting) ∙ these
