-- What the fields of the mutexes and of the event lists show.
use Rattle.std.proofs.Common.{◌≡◌, ◌≢◌, ℕ, ◌-◌, ◌<◌, ◌≤◌, ◌^◌, Bool, true, false, cond, eqb, ltb, List, [], ◌∷◌, map, set, replicate, length, Option, Some, None}
use Rattle.std.proofs.Common.{option_map, refl, sym, ap}
use Rattle.std.specs.Prelude.{All}
use Rattle.std.proofs.lemmas.Bool.Decides.{nat_tests}
use Rattle.std.proofs.Common.{subst, ◌∙◌, zero-add, arith}
use Rattle.std.specs.Option.{ForSome}
use Rattle.std.specs.List.{filter, find}
use Rattle.std.proofs.lemmas.List.{length-replicate, ext_get_or}
use Rattle.std.proofs.lemmas.List.Elements.{All-replicate}
use Rattle.std.proofs.lemmas.Option.{same_Some}
use Rattle.bench_types.specs.declared.kernel_data.EventWait.{EventWait}
use Rattle.bench_types.specs.declared.kernel_data.Waiter.{Waiter}
use Rattle.list_orders.specs.Search.{inserted}
use Rattle.index_lists.specs.Listed.{Listed, ListsView, empty_lists, with_list, items_of, list_of, key_of, without_item, keyed, lowest_first, first_of as first_item}
use Rattle.index_lists.specs.Listed.{EachInOneList}
use Rattle.bench_model.specs.Waiters.{without_waiter, first_of}
use Rattle.bench_model.specs.Control.{Control, task_at}
use Rattle.bench_model.specs.Waiters.{with_waiter, wait_of, with_value}
use Rattle.mutex_inherit.specs.Parts.{MutexPart, waiter_at, waiters_from, tasks_for, seen_mutexes, free_mutexes, inherited_part, valued}
use Rattle.mutex_inherit.specs.Shape.{AreKeys, AreWaiters, IsMutexShape}
use Rattle.mutex_inherit.proofs.Rows.{row_at, no_waiters, waiters_none, of_list, list_tasks, first_waiting, waiters_without, waiters_with, waiters_valued, waits_in, same_row}
use Rattle.mutex_inherit.proofs.Rows.{same_rows, first_key}

abbrev part_of : ℕ → ℕ → ℕ → List (Option ℕ) → List ℕ → List Waiter → MutexPart
part_of tasks priorities lists holders values waiters = record {
  tasks = tasks;
  priorities = priorities;
  lists = lists;
  holders = holders;
  waiters = waiters;
  values = values;
}

abbrev waiter_from : ℕ → ℕ → ℕ → Waiter
waiter_from task list priority = record { task = task; wait = record { list = list; priority = priority } }

abbrev the_none : Option ℕ
the_none = None

abbrev the_row : List Listed
the_row = []

-- the start
pub free_shape : (tasks priorities mutexes lists : ℕ) (values : List ℕ) → lists < 2 ^ 32 → mutexes ≤ lists → All (λ value. value < priorities) values → IsMutexShape
    tasks priorities lists (replicate mutexes None) values (empty_lists tasks lists)
free_shape tasks priorities mutexes lists values few own below = record {
  few_lists = few;
  of_mutexes = omega (arith, length-replicate mutexes (the_none), own);
  held_by_tasks = All-replicate (λ holder. ForSome holder (λ task. task < tasks)) mutexes None (λ task is. absurd (cc (is)));
  items = refl;
  each = length-replicate lists the_row;
  waiting = waiters_none priorities lists;
  list_values = below;
}

pub seen_free_mutexes : (tasks priorities mutexes lists : ℕ) (values : List ℕ) → seen_mutexes tasks priorities lists (replicate mutexes None) values
    (empty_lists tasks lists) ≡ free_mutexes tasks priorities mutexes lists values
seen_free_mutexes tasks priorities mutexes lists values = ap (part_of tasks priorities lists (replicate mutexes None) values) (no_waiters priorities 0 lists)

-- ---- fields that show a part
module _ (t n l : ℕ) (hs : List (Option ℕ)) (vs : List ℕ) (view : ListsView) (part : MutexPart) (is : seen_mutexes t n l hs vs view ≡ part) where
  pub tasks_seen : (m : ℕ) → items_of (row_at view.lists m) ≡ tasks_for m part.waiters
  tasks_seen m = list_tasks n m view.lists ∙ ap (λ (p : MutexPart). tasks_for m p.waiters) is

  pub list_seen : (task : ℕ) → list_of task view ≡ option_map (λ (wait : EventWait). wait.list) (wait_of task part.waiters)
  list_seen task = sym (waits_in n task view) ∙ ap (λ (p : MutexPart). option_map (λ (wait : EventWait). wait.list) (wait_of task p.waiters)) is

  pub free_seen : (task : ℕ) → wait_of task part.waiters ≡ None → list_of task view ≡ None
  free_seen task free = list_seen task ∙ ap (option_map (λ (wait : EventWait). wait.list)) free

  -- a waiter leaves, and one comes
  pub seen_leave : (task : ℕ) → seen_mutexes t n l hs vs (record view { lists = map (without_item task) view.lists }) ≡ record part
      { waiters = without_waiter task part.waiters }
  seen_leave task =
      ap (λ (ws : List Waiter). part_of t n l hs vs ws) (waiters_without n task 0 view.lists)
      ∙ ap (λ (p : MutexPart). record p { waiters = without_waiter task p.waiters }) is

  pub seen_enter : (task m priority : ℕ) → m < length view.lists → priority < n → AreWaiters n view.lists → seen_mutexes t n l hs vs
      (with_list m (inserted lowest_first (record { item = task; key = n - priority }) (row_at view.lists m)) view) ≡ record part
      { waiters = with_waiter (record { task = task; wait = record { list = m; priority = priority } }) part.waiters }
  seen_enter task m priority low below waiting =
      let x : Listed = record { item = task; key = n - priority } in
      let back : n - (n - priority) ≡ priority = omega (arith, below) in
      ap (λ (ws : List Waiter). part_of t n l hs vs ws) (waiters_with n 0 m x view.lists low (omega (arith, below), omega arith) (waiting m))
      ∙ ap (λ (j : ℕ). part_of t n l hs vs (with_waiter (record { task = task; wait = record { list = j; priority = n - (n - priority) } })
      (waiters_from n 0 view.lists))) (zero-add m)
      ∙ ap (λ (j : ℕ). part_of t n l hs vs (with_waiter (record { task = task; wait = record { list = m; priority = j } }) (waiters_from n 0 view.lists))) back
      ∙ ap (λ (p : MutexPart). record p { waiters = with_waiter (record { task = task; wait = record { list = m; priority = priority } }) p.waiters }) is

  -- a task gets another list value
  pub seen_valued : (task value : ℕ) → value < n → task < length vs → seen_mutexes t n l hs (set vs task value)
      (record view { lists = map (map (keyed task (n - value))) view.lists }) ≡ valued task value part
  seen_valued task value below low =
      let valid : ltb task (length vs) ≡ true = grind (arith, nat_tests, low) in
      ap (part_of t n l hs (set vs task value)) (waiters_valued n task value 0 view.lists below)
      ∙ ap (λ b. part_of t n l hs (set vs task value) (cond b (map (with_value task value) (waiters_from n 0 view.lists)) (waiters_from n 0 view.lists))) (sym valid)
      ∙ ap (valued task value) is

  -- the first of a list
  heads : (m : ℕ) (row : List Listed) → first_item row ≡ option_map (λ (w : Waiter). w.task) (find (λ _. true) (map (waiter_at n m) row))
  heads m [] = refl
  heads m (e ∷ row) = refl

  pub first_task_seen : (m : ℕ) → first_item (row_at view.lists m) ≡ option_map (λ (w : Waiter). w.task) (first_of m part.waiters)
  first_task_seen m =
      heads m (row_at view.lists m) ∙ ap (option_map (λ (w : Waiter). w.task)) (sym (first_waiting n m view.lists))
      ∙ ap (λ (p : MutexPart). option_map (λ (w : Waiter). w.task) (first_of m p.waiters)) is

  no_head : (m : ℕ) (row : List Listed) → first_item row ≡ None → None ≡ find (λ _. true) (map (waiter_at n m) row)
  no_head m [] none = refl
  no_head m (e ∷ row) none = absurd (cc (none))

  pub first_none : (m : ℕ) → first_item (row_at view.lists m) ≡ None → None ≡ first_of m part.waiters
  first_none m none = no_head m (row_at view.lists m) none ∙ sym (first_waiting n m view.lists) ∙ ap (λ (p : MutexPart). first_of m p.waiters) is

  module _ (waiting : AreWaiters n view.lists) (each : EachInOneList view) (m task : ℕ) (some : first_item (row_at view.lists m) ≡ Some task) where
    abbrev its_key : ℕ → Type 0
    its_key below = (0 < below) × (below ≤ n) × (key_of task view ≡ Some below) × (Some (waiter_from task m (n - below)) ≡ first_of m part.waiters)

    of_head : (row : List Listed) → row_at view.lists m ≡ row → first_item row ≡ Some task → (below : ℕ) × its_key below
    of_head [] row first = absurd (cc (first))
    of_head (e ∷ rest) row first =
        let item : e.item ≡ task = same_Some _ _ first in
        let keys : AreKeys n (e ∷ rest) = subst (AreKeys n) row (waiting m) in
        let found = ap (λ r. find (λ _. true) (map (waiter_at n m) r)) row in (
          e.key,
          (
            keys.0.0,
            keys.0.1,
            ap (λ i. key_of i view) (sym item) ∙ first_key m view e rest each row,
            ap (λ i. Some (waiter_from i m (n - e.key)))
                (sym item) ∙ sym found ∙ sym (first_waiting n m view.lists) ∙ ap (λ (p : MutexPart). first_of m p.waiters) is,
          ),
        )

    pub the_key : (below : ℕ) × its_key below
    the_key = of_head (row_at view.lists m) refl some

    pub key_low : (below : ℕ) → key_of task view ≡ Some below → below ≤ n
    key_low below has = omega (arith, the_key.1.1, same_Some _ _ (sym the_key.1.2 ∙ has))

    pub key_some : (below : ℕ) → key_of task view ≡ Some below → 0 < below
    key_some below has = omega (arith, the_key.1.0, same_Some _ _ (sym the_key.1.2 ∙ has))

    pub first_seen : (below : ℕ) → key_of task view ≡ Some below → Some (waiter_from task m (n - below)) ≡ first_of m part.waiters
    first_seen below has = ap (λ k. Some (waiter_from task m (n - k))) (sym (same_Some _ _ (sym the_key.1.2 ∙ has))) ∙ the_key.1.3

    pub has_key : key_of task view ≢ None
    has_key none = absurd (cc (sym the_key.1.2 ∙ none))

-- ---- a waiter that gets another list value is one still, in the same list
free_valued : (i task value : ℕ) (ws : List Waiter) → wait_of i ws ≡ None → wait_of i (map (with_value task value) ws) ≡ None
free_valued i task value [] free = refl
free_valued i task value (w ∷ ws) free = at (eqb w.task i) (eqb w.task task) refl free (free_valued i task value ws)
  where
    at : (b c : Bool) → eqb w.task i ≡ b → option_map (λ (v : Waiter). v.wait) (cond b (Some w) (find (λ (v : Waiter). eqb v.task i) ws)) ≡ None
        → (wait_of i ws ≡ None → wait_of i (map (with_value task value) ws) ≡ None)
        → option_map (λ (v : Waiter). v.wait) (cond (eqb (cond c (record w { wait = record w.wait { priority = value } }) w).task i)
        (Some (cond c (record w { wait = record w.wait { priority = value } }) w)) (find (λ (v : Waiter). eqb v.task i) (map (with_value task value) ws))) ≡ None
    at true c here free rest = absurd (cc free)
    at false true away free rest = ap (λ b. option_map (λ (v : Waiter). v.wait) (cond b (Some (record w { wait = record w.wait { priority = value } }))
        (find (λ (v : Waiter). eqb v.task i) (map (with_value task value) ws)))) away ∙ rest free
    at false false away free rest = ap (λ b. option_map (λ (v : Waiter). v.wait) (cond b (Some w)
        (find (λ (v : Waiter). eqb v.task i) (map (with_value task value) ws)))) away ∙ rest free

-- so a task that waits for none waits for none after one inherited
pub free_later : (i holder priority : ℕ) (control : Control) (part : MutexPart) → wait_of i part.waiters ≡ None → wait_of i
    (inherited_part control holder priority part).waiters ≡ None
free_later i holder priority control part free = at (ltb (task_at control holder).in_use priority) (ltb holder (length part.values))
  where
    at : (b c : Bool) → wait_of i (cond b (record part {
      waiters = cond c (map (with_value holder priority) part.waiters) part.waiters;
      values = set part.values holder priority;
    }) part).waiters ≡ None
    at true true = free_valued i holder priority part.waiters free
    at true false = free
    at false c = free

-- ---- two of them
module _ (t n l : ℕ) (hs : List (Option ℕ)) (vs : List ℕ) (view : ListsView) (part : MutexPart) (is : seen_mutexes t n l hs vs view ≡ part) (u o j : ℕ)
    (gs : List (Option ℕ)) (us : List ℕ) (view' : ListsView) (part' : MutexPart) (is' : seen_mutexes u o j gs us view' ≡ part')
    (shape : IsMutexShape t n l hs vs view) (shape' : IsMutexShape u o j gs us view')
    (alike : part.priorities ≡ part'.priorities) where
  same_n : o ≡ n
  same_n = ap (λ (p : MutexPart). p.priorities) is' ∙ sym alike ∙ sym (ap (λ (p : MutexPart). p.priorities) is)

  waiting' : AreWaiters n view'.lists
  waiting' = subst (λ j. AreWaiters j view'.lists) same_n shape'.waiting

  seen' : waiters_from n 0 view'.lists ≡ part'.waiters
  seen' = ap (λ j. waiters_from j 0 view'.lists) (sym same_n) ∙ ap (λ (p : MutexPart). p.waiters) is'

  pub same_lists : part.waiters ≡ part'.waiters → (k : ℕ) → row_at view.lists k ≡ row_at view'.lists k
  same_lists same k = same_rows n view.lists view'.lists shape.waiting waiting' (ap (λ (p : MutexPart). p.waiters) is ∙ same ∙ sym seen') k

  group : (k : ℕ) → filter (λ w. eqb w.wait.list k) part.waiters ≡ map (waiter_at n k) (row_at view.lists k)
  group k = ap (λ (p : MutexPart). filter (λ w. eqb w.wait.list k) p.waiters) (sym is) ∙ of_list n k view.lists

  group' : (k : ℕ) → filter (λ w. eqb w.wait.list k) part'.waiters ≡ map (waiter_at n k) (row_at view'.lists k)
  group' k = ap (filter (λ (w : Waiter). eqb w.wait.list k)) (sym seen') ∙ of_list n k view'.lists

  pub same_group : (k : ℕ) → row_at view.lists k ≡ row_at view'.lists k → filter (λ w. eqb w.wait.list k) part.waiters ≡ filter (λ w. eqb w.wait.list k)
      part'.waiters
  same_group k same = group k ∙ ap (map (waiter_at n k)) same ∙ sym (group' k)

  pub same_groups : part.lists ≡ part'.lists → ((k : ℕ) → k < l → filter (λ w. eqb w.wait.list k) part.waiters ≡ filter (λ w. eqb w.wait.list k)
      part'.waiters) → part.waiters ≡ part'.waiters
  same_groups lists same =
      let sized : length view.lists ≡ length view'.lists = shape.each ∙ ap (λ (p : MutexPart). p.lists) is ∙ lists ∙ sym
      (ap (λ (p : MutexPart). p.lists) is') ∙ sym shape'.each in
      let rows : view.lists ≡ view'.lists = ext_get_or the_row view.lists view'.lists sized
      (λ k low. same_row n k (row_at view.lists k) (row_at view'.lists k) (shape.waiting k) (waiting' k)
      (sym (group k) ∙ same k (omega (arith, low, shape.each)) ∙ group' k)) in
      sym (ap (λ (p : MutexPart). p.waiters) is) ∙ ap (waiters_from n 0) rows ∙ seen'
