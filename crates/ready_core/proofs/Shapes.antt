-- What the fields keep as tasks come to their ready lists and leave them.
use Rattle.std.proofs.Common.{◌≡◌, ◌≢◌, ℕ, ◌*◌, ◌<◌, ◌%◌, ◌^◌, ◌≤◌, true, false, not, eqb, ltb, ◌&&◌, List, [], ◌∷◌, ◌++◌, length, map, get_or, bit_and, bit_or}
use Rattle.std.proofs.Common.{w32, refl, sym, ap, subst, ◌∙◌, arith, length-append, inl, inr}
use Rattle.std.specs.Prelude.{slice_set, nat_lt}
use Rattle.std.specs.Int.{bit_not}
use Rattle.std.specs.List.{All, AllByRecursion}
use Rattle.std.proofs.Math.ListN.{get_or-map}
use Rattle.std.proofs.lemmas.Bool.{cases_eq, cases_lt, eqb-true}
use Rattle.std.proofs.lemmas.Bool.Decides.{nat_tests}
use Rattle.std.proofs.lemmas.List.{length-map, length-set, get_or_past, get_or-set_same, get_or-set_other}
use Rattle.std.proofs.lemmas.List.Elements.{All-get_or, All-set}
use Rattle.std.proofs.lemmas.Nat.Bits.{bit_at_set_same, bit_at_set_other, bit_at_clear_same, bit_at_clear_other}
use Rattle.bench_types.specs.declared.kernel_data.CoreLook.{CoreLook}
use Rattle.bench_types.specs.declared.kernel_data.TaskControl.{TaskControl}
use Rattle.list_orders.specs.Listings.{IsListing}
use Rattle.list_orders.specs.Search.{without, has}
use Rattle.list_orders.proofs.Filters.{All-filter, All-append, All-weaker, filter_all}
use Rattle.list_orders.proofs.Listings.{listing_without, listing_push, has-without}
use Rattle.list_orders.proofs.Stamped.{length_filter}
use Rattle.index_lists.specs.Listed.{Listed, ListsView, list_at, with_list, without_item, items_of}
use Rattle.bench_model.specs.Control.{Control, task_at, current}
use Rattle.bench_model.specs.ControlFields.{with_task}
use Rattle.order_laws.proofs.ControlBlocks.{block_other, in_use_kept}
use Rattle.ready_core.specs.Fields.{control_from, tasks_of, ready_below, has_priority, has_seat, is_set}
use Rattle.ready_core.specs.Shape.{IsShape}
use Rattle.ready_core.proofs.Seats.{bit_cleared}
use Rattle.ready_core.proofs.ReadyLists.{pushed_same, pushed_other, without_row, row_apart, ready_without}

abbrev no_task : TaskControl
no_task = record { base = 0; in_use = 0; mask = 0; preempt = false }

abbrev no_look : CoreLook
no_look = record { current = 0; pend = false; asked = false }

-- only the bits of priorities count
same_bits : (priorities : ℕ) (cores : List CoreLook) (tasks : List TaskControl) (view : ListsView) (listed : ℕ) (seats : List ℕ) → IsShape priorities cores
    tasks view listed seats → (bits : ℕ) → ((p : ℕ) → p < 32 → is_set bits p ≡ is_set listed p) → IsShape priorities cores tasks view bits seats
same_bits priorities cores tasks view listed seats shape bits same = record {
  few_cores = shape.few_cores;
  few_tasks = shape.few_tasks;
  few_priorities = shape.few_priorities;
  running = shape.running;
  in_use = shape.in_use;
  base = shape.base;
  items = shape.items;
  each = shape.each;
  at_home = shape.at_home;
  listings = shape.listings;
  bits = λ p under. same p under ∙ shape.bits p under;
  seated = shape.seated;
  at_core = shape.at_core;
}

module _ (priorities : ℕ) (cores : List CoreLook) (tasks : List TaskControl) (view : ListsView) (listed : ℕ) (seats : List ℕ)
    (shape : IsShape priorities cores tasks view listed seats) where
  abbrev control : Control
  control = control_from cores tasks

  abbrev rank : ℕ → ℕ
  rank task = (task_at control task).in_use

  module _ (t r : ℕ) (is : r ≡ rank t) (low : r < priorities) where
    within : r < length view.lists
    within = omega (arith, shape.each, low)

    -- a task that is not ready comes to the end of its list
    pub shape_push : t < length tasks → has t (ready_below view.lists priorities) ≡ false → IsShape priorities cores tasks
        (with_list r (list_at view r ++ record { item = t; key = 0 } ∷ []) view) (bit_or listed (1 * 2 ^ r % 4294967296)) seats
    shape_push below free = record {
      few_cores = shape.few_cores;
      few_tasks = shape.few_tasks;
      few_priorities = shape.few_priorities;
      running = shape.running;
      in_use = shape.in_use;
      base = shape.base;
      items = shape.items;
      each = length-set view.lists r _ ∙ shape.each;
      at_home = λ p under. elim (cases_eq p r) [
        | inl same ↦ rw (same, pushed_same view.lists r t within) (All-append (λ task. has_priority control r task ≡ true) (tasks_of view.lists r) (t ∷ [])
            (shape.at_home r low) (grind (arith, nat_tests, is), tt))
        | inr away ↦ rw (pushed_other view.lists r t p away) (shape.at_home p under)
      ];
      listings = λ p under. elim (cases_eq p r) [
        | inl same ↦ rw (same, pushed_same view.lists r t within) (listing_push (length tasks) t (tasks_of view.lists r) (shape.listings r low) below
            (row_apart view.lists t r priorities low free))
        | inr away ↦ rw (pushed_other view.lists r t p away) (shape.listings p under)
      ];
      bits = λ p under. elim (cases_eq p r) [
        | inl same ↦ rw (same, pushed_same view.lists r t within) (ap (λ b. eqb b 1) (bit_at_set_same w32 listed r (omega (arith, low, shape.few_priorities))) ∙
            grind (arith, nat_tests, length-append (tasks_of view.lists r) (t ∷ [])))
        | inr away ↦ rw (pushed_other view.lists r t p away) (ap (λ b. eqb b 1)
            (bit_at_set_other w32 listed r (omega (arith, low, shape.few_priorities)) p away) ∙ shape.bits p under)
      ];
      seated = shape.seated;
      at_core = shape.at_core;
    }

    abbrev left : List (List Listed)
    left = map (without_item t) view.lists

    -- the task is in no other list
    others_kept : (p : ℕ) → p ≢ r → tasks_of left p ≡ tasks_of view.lists p
    others_kept p away =
        without_row view.lists t p
        ∙ elim (cases_lt p priorities) [
          | inl under ↦ filter_all (λ m. not (eqb m t)) (tasks_of view.lists p)
              (All-weaker (λ task. has_priority control p task ≡ true) (λ task. not (eqb task t) ≡ true) apart (tasks_of view.lists p) (shape.at_home p under))
          | inr over ↦ ap (without t) (past over) ∙ sym (past over)
        ]
      where
        apart : (task : ℕ) → has_priority control p task ≡ true → not (eqb task t) ≡ true
        apart task home = elim (cases_eq task t) [
          | inl same ↦ absurd (away (sym (eqb-true (rank task) p home) ∙ ap rank same ∙ sym is))
          | inr other ↦ grind (arith, nat_tests, other)
        ]

        past : priorities ≤ p → tasks_of view.lists p ≡ []
        past over = ap items_of (get_or_past view.lists p [] (omega (arith, over, shape.each)))

    -- a task leaves its list, if it is in one, and the bit of the list is still right
    pub shape_leave : (bits : ℕ) → ((p : ℕ) → p < 32 → p ≢ r → is_set bits p ≡ is_set listed p) → is_set bits r ≡ nat_lt 0 (length (tasks_of left r)) → IsShape
        priorities cores tasks (record view { lists = left }) bits seats
    shape_leave bits others its = record {
      few_cores = shape.few_cores;
      few_tasks = shape.few_tasks;
      few_priorities = shape.few_priorities;
      running = shape.running;
      in_use = shape.in_use;
      base = shape.base;
      items = shape.items;
      each = length-map view.lists (without_item t) ∙ shape.each;
      at_home = λ p under. rw (without_row view.lists t p) (All-filter (λ task. has_priority control p task ≡ true) (λ m. not (eqb m t)) (tasks_of view.lists p)
          (shape.at_home p under));
      listings = λ p under. rw (without_row view.lists t p) (listing_without (length tasks) t (tasks_of view.lists p) (shape.listings p under));
      bits = λ p under. elim (cases_eq p r) [
        | inl same ↦ rw same its
        | inr away ↦ others p under away ∙ shape.bits p under ∙ ap (λ (xs : List ℕ). ltb 0 (length xs)) (sym (others_kept p away))
      ];
      seated = shape.seated;
      at_core = shape.at_core;
    }

  -- a bit that is cleared where the list is empty then
  module _ (t r : ℕ) (is : r ≡ rank t) (low : r < priorities) where
    low_bit : r < 32
    low_bit = omega (arith, low, shape.few_priorities)

    abbrev cleared : ℕ
    cleared = bit_and listed (bit_not w32 (1 * 2 ^ r % 4294967296))

    pub shape_emptied : length (tasks_of (left t r is low) r) ≡ 0 → IsShape priorities cores tasks (record view { lists = left t r is low }) cleared seats
    shape_emptied none = shape_leave t r is low cleared (λ p under away. ap (λ b. eqb b 1) (bit_at_clear_other w32 listed r low_bit p under away))
        (ap (λ b. eqb b 1) (bit_at_clear_same w32 listed r low_bit) ∙ grind (arith, nat_tests, none))

    pub shape_left : length (tasks_of (left t r is low) r) ≢ 0 → IsShape priorities cores tasks (record view { lists = left t r is low }) listed seats
    shape_left some =
        let fewer = length_filter (λ m. not (eqb m t)) (tasks_of view.lists r) in
        let sized = ap (λ (xs : List ℕ). length xs) (without_row view.lists t r) in
        shape_leave t r is low listed (λ p under away. refl) (shape.bits r low_bit ∙ grind (arith, nat_tests, some, fewer, sized))

  -- another control block for a task that is not ready
  pub shape_changed : (t : ℕ) (block : TaskControl) → block.in_use < priorities → block.base < priorities → has t (ready_below view.lists priorities) ≡ false →
      IsShape priorities cores (slice_set tasks t block) view listed seats
  shape_changed t block low low_base free = record {
    few_cores = shape.few_cores;
    few_tasks = omega (arith, length-set tasks t block, shape.few_tasks);
    few_priorities = shape.few_priorities;
    running = subst (λ n. All (λ (core : CoreLook). core.current < n) cores) (sym (length-set tasks t block)) shape.running;
    in_use = All-set (λ (task : TaskControl). task.in_use < priorities) tasks t block low shape.in_use;
    base = All-set (λ (task : TaskControl). task.base < priorities) tasks t block low_base shape.base;
    items = shape.items ∙ sym (length-set tasks t block);
    each = shape.each;
    at_home = λ p under. away p (tasks_of view.lists p) (row_apart view.lists t p priorities under free) (shape.at_home p under);
    listings = λ p under. subst (λ n. IsListing n (tasks_of view.lists p)) (sym (length-set tasks t block)) (shape.listings p under);
    bits = shape.bits;
    seated = shape.seated ∙ sym (length-set tasks t block);
    at_core = λ s low. shape.at_core s (omega (arith, low, length-set tasks t block));
  }
    where
      away : (p : ℕ) (xs : List ℕ) → has t xs ≡ false → AllByRecursion (λ task. has_priority control p task ≡ true) xs → AllByRecursion
          (λ task. has_priority (with_task t block control) p task ≡ true) xs
      away p [] absent home = tt
      away p (x ∷ xs) absent home =
          let other : x ≢ t = λ same. grind (arith, nat_tests, absent, same) in
          (ap (λ (task : TaskControl). eqb task.in_use p) (block_other control t block x other) ∙ home.0, away p xs (grind (arith, absent)) home.1)

  -- another control block with the same priorities
  pub shape_kept : (t : ℕ) (block : TaskControl) → t < length tasks → block.in_use ≡ (task_at control t).in_use → block.base ≡ (task_at control t).base →
      IsShape priorities cores (slice_set tasks t block) view listed seats
  shape_kept t block below same same_base = record {
    few_cores = shape.few_cores;
    few_tasks = omega (arith, length-set tasks t block, shape.few_tasks);
    few_priorities = shape.few_priorities;
    running = subst (λ n. All (λ (core : CoreLook). core.current < n) cores) (sym (length-set tasks t block)) shape.running;
    in_use = All-set (λ (task : TaskControl). task.in_use < priorities) tasks t block
        (omega (arith, same, All-get_or (λ (task : TaskControl). task.in_use < priorities) tasks t no_task below shape.in_use)) shape.in_use;
    base = All-set (λ (task : TaskControl). task.base < priorities) tasks t block
        (omega (arith, same_base, All-get_or (λ (task : TaskControl). task.base < priorities) tasks t no_task below shape.base)) shape.base;
    items = shape.items ∙ sym (length-set tasks t block);
    each = shape.each;
    at_home = λ p under. All-weaker (λ task. has_priority control p task ≡ true) (λ task. has_priority (with_task t block control) p task ≡ true)
        (λ task home. ap (λ m. eqb m p) (in_use_kept control t block same task) ∙ home) (tasks_of view.lists p) (shape.at_home p under);
    listings = λ p under. subst (λ n. IsListing n (tasks_of view.lists p)) (sym (length-set tasks t block)) (shape.listings p under);
    bits = shape.bits;
    seated = shape.seated ∙ sym (length-set tasks t block);
    at_core = λ s low. shape.at_core s (omega (arith, low, length-set tasks t block));
  }

  -- the core has another task
  module _ (core task : ℕ) (low : core < length cores) (below : task < length tasks) (a b : ℕ) where
    abbrev left_by : ℕ
    left_by = current control core

    abbrev risen : List ℕ
    risen = slice_set seats left_by (bit_and a (bit_not w32 (1 * 2 ^ core % 4294967296)))

    abbrev taken : List ℕ
    taken = slice_set risen task (bit_or b (1 * 2 ^ core % 4294967296))

    abbrev looks : List CoreLook
    looks = slice_set cores core (record { current = task; pend = false; asked = false })

    word : core < 32
    word = omega (arith, low, shape.few_cores)

    left_low : left_by < length seats
    left_low = omega (arith, shape.seated, All-get_or (λ (at : CoreLook). at.current < length tasks) cores core no_look low shape.running)

    far : (t : ℕ) → t < length tasks → (c : ℕ) → 32 ≤ c → is_set (get_or seats t 0) c ≡ false
    far t under c over = shape.at_core t under c ∙ grind (arith, nat_tests, over, shape.few_cores)

    -- without its task
    risen_at : a ≡ get_or seats left_by 0 → (t : ℕ) → t < length tasks → (c : ℕ) → is_set (get_or risen t 0) c ≡ (not (eqb c core) && has_seat control t c)
    risen_at is t under c = elim (cases_eq t left_by) [
      | inl same ↦
          ap (λ m. is_set (get_or risen m 0) c) same ∙ ap (λ m. is_set m c) (get_or-set_same seats left_by _ 0 left_low)
          ∙ bit_cleared a core c word (λ over. ap (λ m. is_set m c) is ∙ far left_by (omega (arith, left_low, shape.seated)) c over)
          ∙ ap (λ m. not (eqb c core) && is_set m c) is ∙ ap (λ d. not (eqb c core) && d) (shape.at_core left_by (omega (arith, left_low, shape.seated)) c)
          ∙ ap (λ m. not (eqb c core) && has_seat control m c) (sym same)
      | inr away ↦
          ap (λ m. is_set m c) (get_or-set_other seats left_by t _ 0 away) ∙ shape.at_core t under c
          ∙ elim (cases_eq c core) [
            | inl here ↦ rw here (grind (arith, nat_tests, away))
            | inr other ↦ grind (arith, nat_tests, other)
          ]
    ]

    current_now : current (control_from looks tasks) core ≡ task
    current_now = ap (λ (at : CoreLook). at.current) (get_or-set_same cores core (record { current = task; pend = false; asked = false }) no_look low)

    current_other : (c : ℕ) → c ≢ core → current (control_from looks tasks) c ≡ current control c
    current_other c away = ap (λ (at : CoreLook). at.current) (get_or-set_other cores core c (record { current = task; pend = false; asked = false }) no_look
        away)

    sized : length looks ≡ length cores
    sized = length-set cores core (record { current = task; pend = false; asked = false })

    taken_at : a ≡ get_or seats left_by 0 → b ≡ get_or risen task 0 → (t : ℕ) → t < length tasks → (c : ℕ) → is_set (get_or taken t 0) c ≡ has_seat
        (control_from looks tasks) t c
    taken_at is_left is t under c = elim (cases_eq t task) [
      | inl same ↦
          ap (λ m. is_set (get_or taken m 0) c) same ∙ ap (λ m. is_set m c)
          (get_or-set_same risen task _ 0 (omega
          (arith, below, shape.seated, length-set seats left_by (bit_and a (bit_not w32 (1 * 2 ^ core % 4294967296))))))
          ∙ elim (cases_eq c core) [
            | inl here ↦ ap (λ p. is_set (bit_or b (1 * 2 ^ core % 4294967296)) p) here ∙ ap (λ d. eqb d 1) (bit_at_set_same w32 b core word) ∙ grind
                (arith, nat_tests, here, same, sized, low, current_now)
            | inr other ↦ ap (λ d. eqb d 1) (bit_at_set_other w32 b core word c other) ∙ ap (λ m. is_set m c) is ∙ risen_at is_left task below c ∙ grind
                (arith, nat_tests, other, same, sized, current_other c other)
          ]
      | inr away ↦
          ap (λ m. is_set m c) (get_or-set_other risen task t _ 0 away) ∙ risen_at is_left t under c
          ∙ elim (cases_eq c core) [
            | inl here ↦ grind (arith, nat_tests, here, away, sized, current_now)
            | inr other ↦ grind (arith, nat_tests, other, sized, current_other c other)
          ]
    ]

    pub shape_run : a ≡ get_or seats left_by 0 → b ≡ get_or risen task 0 → IsShape priorities looks tasks view listed taken
    shape_run is_left is = record {
      few_cores = omega (arith, sized, shape.few_cores);
      few_tasks = shape.few_tasks;
      few_priorities = shape.few_priorities;
      running = All-set (λ (at : CoreLook). at.current < length tasks) cores core (record { current = task; pend = false; asked = false }) below shape.running;
      in_use = shape.in_use;
      base = shape.base;
      items = shape.items;
      each = shape.each;
      at_home = shape.at_home;
      listings = shape.listings;
      bits = shape.bits;
      seated = length-set risen task _ ∙ length-set seats left_by _ ∙ shape.seated;
      at_core = taken_at is_left is;
    }

module _ (priorities : ℕ) (cores : List CoreLook) (tasks : List TaskControl) (view : ListsView) (listed : ℕ) (seats : List ℕ)
    (shape : IsShape priorities cores tasks view listed seats)
    (t r : ℕ) (is : r ≡ rank priorities cores tasks view listed seats shape t) (low : r < priorities) where
  abbrev gone_lists : List (List Listed)
  gone_lists = map (without_item t) view.lists

  abbrev cleared_bits : ℕ
  cleared_bits = bit_and listed (bit_not w32 (1 * 2 ^ r % 4294967296))

  bit_low : r < 32
  bit_low = omega (arith, low, shape.few_priorities)

  -- a ready task goes to the end of its list, which is not empty before and after
  pub shape_turned : t < length tasks → has t (tasks_of view.lists r) ≡ true → IsShape priorities cores tasks
      (with_list r (without_item t (list_at view r) ++ record { item = t; key = 0 } ∷ []) (record view { lists = gone_lists })) listed seats
  shape_turned below there = elim (cases_eq (length (tasks_of gone_lists r)) 0) [
    | inl none ↦ back cleared_bits (shape_emptied priorities cores tasks view listed seats shape t r is low none)
        (λ p under away. ap (λ b. eqb b 1) (bit_at_clear_other w32 listed r bit_low p under away))
    | inr some ↦ back listed (shape_left priorities cores tasks view listed seats shape t r is low some) (λ p under away. refl)
  ]
    where
      gone : ListsView
      gone = record view { lists = gone_lists }

      absent : has t (ready_below gone_lists priorities) ≡ false
      absent = ap (has t) (ready_without view.lists t priorities) ∙ has-without t (ready_below view.lists priorities)

      row_is : list_at gone r ≡ without_item t (list_at view r)
      row_is = get_or-map (without_item t) view.lists r []

      some_there : (xs : List ℕ) → has t xs ≡ true → ltb 0 (length xs) ≡ true
      some_there [] has_it = absurd (cc (has_it))
      some_there (x ∷ xs) has_it = grind (arith, nat_tests)

      its_bit : is_set listed r ≡ true
      its_bit = shape.bits r bit_low ∙ some_there (tasks_of view.lists r) there

      back : (bits : ℕ) → IsShape priorities cores tasks gone bits seats → ((p : ℕ) → p < 32 → p ≢ r → is_set bits p ≡ is_set listed p) → IsShape priorities
          cores tasks (with_list r (without_item t (list_at view r) ++ record { item = t; key = 0 } ∷ []) gone) listed seats
      back bits split_there others =
          subst (λ (row : List Listed). IsShape priorities cores tasks (with_list r (row ++ record { item = t; key = 0 } ∷ []) gone) listed seats) row_is
          (same_bits priorities cores tasks (with_list r (list_at gone r ++ record { item = t; key = 0 } ∷ []) gone) (bit_or bits (1 * 2 ^ r % 4294967296))
          seats (shape_push priorities cores tasks gone bits seats split_there t r is low below absent) listed one)
        where
          one : (p : ℕ) → p < 32 → is_set listed p ≡ is_set (bit_or bits (1 * 2 ^ r % 4294967296)) p
          one p under = elim (cases_eq p r) [
            | inl same ↦ rw same (its_bit ∙ sym (ap (λ b. eqb b 1) (bit_at_set_same w32 bits r bit_low)))
            | inr away ↦ sym (others p under away) ∙ sym (ap (λ b. eqb b 1) (bit_at_set_other w32 bits r bit_low p away))
          ]

-- another look of a core with the same task
pub shape_looked : (priorities : ℕ) (cores : List CoreLook) (tasks : List TaskControl) (view : ListsView) (listed : ℕ) (seats : List ℕ) → IsShape priorities
    cores tasks view listed seats → (core : ℕ) (look : CoreLook) → core < length cores → look.current ≡ current (control_from cores tasks) core → IsShape
    priorities (slice_set cores core look) tasks view listed seats
shape_looked priorities cores tasks view listed seats shape core look low same = record {
  few_cores = omega (arith, sized, shape.few_cores);
  few_tasks = shape.few_tasks;
  few_priorities = shape.few_priorities;
  running = All-set (λ (at : CoreLook). at.current < length tasks) cores core look
      (omega (arith, same, All-get_or (λ (at : CoreLook). at.current < length tasks) cores core no_look low shape.running)) shape.running;
  in_use = shape.in_use;
  base = shape.base;
  items = shape.items;
  each = shape.each;
  at_home = shape.at_home;
  listings = shape.listings;
  bits = shape.bits;
  seated = shape.seated;
  at_core = λ t under c. shape.at_core t under c ∙ grind (arith, nat_tests, sized, kept c);
}
  where
    sized : length (slice_set cores core look) ≡ length cores
    sized = length-set cores core look

    kept : (c : ℕ) → current (control_from (slice_set cores core look) tasks) c ≡ current (control_from cores tasks) c
    kept c = elim (cases_eq c core) [
      | inl here ↦ rw here (ap (λ (at : CoreLook). at.current) (get_or-set_same cores core look no_look low) ∙ same)
      | inr away ↦ ap (λ (at : CoreLook). at.current) (get_or-set_other cores core c look no_look away)
    ]
