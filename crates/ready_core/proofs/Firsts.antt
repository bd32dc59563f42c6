-- The cores, control blocks and ready lists of a start, item by item.
use Rattle.std.proofs.Common.{◌≡◌, ◌≢◌, ℕ, zero, suc, ◌+◌, ◌-◌, ◌^◌, ◌<◌, ◌≤◌, Bool, true, false, cond, eqb, ltb, List, [], ◌∷◌, ◌++◌, length, map, replicate}
use Rattle.std.proofs.Common.{refl, sym, ap, ◌∙◌, arith, inl, inr}
use Rattle.std.specs.List.{range_with_len, IsDistinct}
use Rattle.std.proofs.lemmas.List.{length-map, length-replicate, get_or-replicate, get_or_past, map-append}
use Rattle.std.proofs.lemmas.List.Elements.{All-map, All-from_recursion, All-from_get_or, All-weaker, All-nil}
use Rattle.std.proofs.lemmas.List.FromFn.{length-range_with_len, length-map-range_with_len, get_or-map-range_with_len}
use Rattle.std.proofs.lemmas.Bool.{cases_eq, cases_lt}
use Rattle.std.proofs.lemmas.Bool.Decides.{nat_tests}
use Rattle.std.proofs.lemmas.Nat.Bits.{bit_at-zero, bit_at-pow_same, bit_at-pow_other}
use Rattle.bench_types.specs.declared.header.Header.{Header}
use Rattle.bench_types.specs.declared.kernel_data.CoreLook.{CoreLook}
use Rattle.bench_types.specs.declared.kernel_data.TaskControl.{TaskControl}
use Rattle.bench_types.proofs.Passes.{IsWithinLimits}
use Rattle.list_orders.specs.Search.{numbers, has, placed, ranked}
use Rattle.list_orders.proofs.Filters.{fold-append}
use Rattle.list_orders.proofs.Ranks.{list_any-ranked}
use Rattle.list_orders.proofs.Stamped.{numbers_below, numbers_more, range_parts}
use Rattle.index_lists.specs.Listed.{Listed, items_of, empty_lists}
use Rattle.bench_model.specs.Control.{Control, current}
use Rattle.bench_model.specs.Lists.{outranks}
use Rattle.bench_model.specs.Start.{first_look, first_control, first_lists, unstarted}
use Rattle.bench_model.specs.Cores.{cores_of}
use Rattle.order_laws.proofs.FirstBlocks.{first_tasks, first_blocks}
use Rattle.ready_core.specs.Fields.{seen_of, tasks_of, ready_below, control_from, has_seat, first_seat, is_set, unlisted, all_placed}
use Rattle.ready_core.specs.Shape.{IsShape}
use Rattle.ready_core.proofs.ReadyLists.{with_ready}

pub replicate_more : {X : Type 0} (n : ℕ) (x : X) → replicate (n + 1) x ≡ replicate n x ++ x ∷ []
replicate_more n x = let one : n + 1 ≡ suc n = omega arith in ap (λ m. replicate m x) one ∙ at n
  where
    at : (n : ℕ) → replicate (suc n) x ≡ replicate n x ++ x ∷ []
    at zero = refl
    at (suc n) = ap (λ xs. x ∷ xs) (at n)

pub range_upto : (a n : ℕ) → a ≤ n → range_with_len a (n + 1 - a) ≡ range_with_len a (n - a) ++ n ∷ []
range_upto a n low =
    let one : n + 1 - a ≡ (n - a) + 1 = omega arith in
    let last : a + (n - a) ≡ n = omega arith in
    ap (range_with_len a) one ∙ range_parts a (n - a) 1 ∙ ap (λ i. range_with_len a (n - a) ++ i ∷ []) last

-- lists without items
no_tasks : (lists p : ℕ) → tasks_of (replicate lists []) p ≡ []
no_tasks lists p = elim (cases_lt p lists) [
  | inl low ↦ ap items_of (get_or-replicate lists p [] [] low)
  | inr past ↦ ap items_of (get_or_past (replicate lists []) p [] (omega (arith, past, length-replicate {A = List Listed} lists [])))
]

pub none_ready : (lists n : ℕ) → ready_below (replicate lists []) n ≡ []
none_ready lists zero = refl
none_ready lists (suc n) = ap (λ xs. xs ++ ready_below (replicate lists []) n) (no_tasks lists n) ∙ none_ready lists n

-- at the start idle task c is on core c, and no other task on any
seated_at : (cores : ℕ) (tasks : List TaskControl) (t core : ℕ) → is_set (first_seat cores t) core ≡ has_seat
    (control_from (map first_look (numbers cores)) tasks) t core
seated_at cores tasks t core = elim (cases_lt core cores) [
  | inl low ↦
      let own : current (control_from (map first_look (numbers cores)) tasks) core ≡ core = ap (λ (at : CoreLook). at.current)
      (get_or-map-range_with_len first_look 0 cores core core (record { current = 0; pend = false; asked = false }) low (omega arith)) in
      elim (cases_eq core t) [
        | inl same ↦
            let idle : first_seat cores t ≡ 2 ^ core = grind (arith, nat_tests, low, same) in
            ap (λ m. is_set m core) idle ∙ ap (λ b. eqb b 1) (bit_at-pow_same core) ∙ grind (arith, nat_tests, own, same, low, sized)
        | inr away ↦ off away ∙ grind (arith, nat_tests, own, away)
      ]
  | inr over ↦ far over ∙ grind (arith, nat_tests, over, sized)
]
  where
    sized : length (map first_look (numbers cores)) ≡ cores
    sized = length-map-range_with_len first_look 0 cores

    off : core ≢ t → is_set (first_seat cores t) core ≡ false
    off away = at (ltb t cores)
      where
        at : (b : Bool) → is_set (cond b (2 ^ t) 0) core ≡ false
        at true = ap (λ d. eqb d 1) (bit_at-pow_other t core away) ∙ grind (arith, nat_tests)
        at false = ap (λ d. eqb d 1) (bit_at-zero core) ∙ grind (arith, nat_tests)

    far : cores ≤ core → is_set (first_seat cores t) core ≡ false
    far over = elim (cases_eq core t) [
      | inl same ↦
          let none : first_seat cores t ≡ 0 = grind (arith, nat_tests, over, same) in
          ap (λ m. is_set m core) none ∙ ap (λ d. eqb d 1) (bit_at-zero core) ∙ grind (arith, nat_tests)
      | inr away ↦ off away
    ]

pub seats_more : (cores n : ℕ) → map (first_seat cores) (numbers (n + 1)) ≡ map (first_seat cores) (numbers n) ++ first_seat cores n ∷ []
seats_more cores n = ap (map (first_seat cores)) (numbers_more n) ∙ map-append (first_seat cores) (numbers n) (n ∷ [])

pub first_shape : (header : Header) → IsWithinLimits header → IsShape header.config.priorities (first_control header).cores (first_control header).tasks
    (empty_lists (header.config.cores + length header.tasks) header.config.priorities) 0
    (map (first_seat header.config.cores) (numbers (header.config.cores + length header.tasks)))
unfolding IsDistinct
first_shape header limits =
    let cores = header.config.cores in
    let n = header.config.priorities in
    let controls = first_tasks header in
    record {
      few_cores = omega (arith, limits.few_cores, length-map (numbers cores) first_look, length-range_with_len 0 cores);
      few_tasks = omega (arith, limits.few_cores, limits.few_tasks, controls);
      few_priorities = limits.few_priorities;
      running = All-map (λ (core : CoreLook). core.current < length (first_control header).tasks) first_look (numbers cores)
          (All-weaker (λ i. i < cores) (λ i. i < length (first_control header).tasks) (λ i h. omega (arith, h, controls)) (numbers cores)
          (All-from_recursion (λ i. i < cores) (numbers cores) (numbers_below cores)));
      in_use = All-from_get_or (λ (task : TaskControl). task.in_use < header.config.priorities) (first_control header).tasks
          (record { base = 0; in_use = 0; mask = 0; preempt = false }) (λ i low. (first_blocks header limits i (omega (arith, controls, low))).in_use);
      base = All-from_get_or (λ (task : TaskControl). task.base < header.config.priorities) (first_control header).tasks
          (record { base = 0; in_use = 0; mask = 0; preempt = false }) (λ i low. (first_blocks header limits i (omega (arith, controls, low))).base);
      items = sym controls;
      each = length-replicate n [];
      at_home = λ p low. rw (no_tasks n p) tt;
      listings = λ p low. rw (no_tasks n p) (record { below = All-nil (λ i. i < length (first_control header).tasks); once = tt });
      bits = λ p low. rw (no_tasks n p) (ap (λ b. eqb b 1) (bit_at-zero p) ∙ grind (arith, nat_tests));
      seated = length-map-range_with_len (first_seat cores) 0 (cores + length header.tasks) ∙ sym controls;
      at_core = λ t low core. ap (λ m. is_set m core) (get_or-map-range_with_len (first_seat cores) 0 (cores + length header.tasks) t t 0
          (omega (arith, low, controls)) (omega arith)) ∙ seated_at cores (first_control header).tasks t core;
    }

pub seen_first : (header : Header) → seen_of header.config.priorities header.config.slicing (first_control header)
    (empty_lists (header.config.cores + length header.tasks) header.config.priorities) ≡ unlisted header
unfolding unstarted
seen_first header = ap (with_ready header.config.priorities header.config.slicing (first_control header))
    (none_ready header.config.priorities header.config.priorities)

pub unlisted_tasks : (header : Header) → length (unlisted header).control.tasks ≡ header.config.cores + length header.tasks
unfolding unstarted
unlisted_tasks header = first_tasks header

has-range : (t a n : ℕ) → t < a → has t (range_with_len a n) ≡ false
has-range t a zero low = refl
has-range t a (suc n) low = grind (arith, nat_tests, low, has-range t (a + 1) n (omega (arith, low)))

-- idle tasks are not among the user tasks, which come to their lists first
pub idle_later : (control : Control) (t a n : ℕ) → t < a → has t (all_placed control (range_with_len a n) []) ≡ false
unfolding ranked
idle_later control t a n low = list_any-ranked (outranks control) (λ m. eqb m t) (range_with_len a n) ∙ has-range t a n low

-- user tasks and after them idle tasks come to their lists
pub all_listed : (header : Header) (users : ℕ) → users ≡ length header.tasks → let cores = header.config.cores in let view = unlisted header in
    record view {
      ready = all_placed view.control (range_with_len 0 (cores - 0))
          (all_placed view.control (range_with_len cores (cores + users - cores)) view.ready);
    } ≡ cores_of (unstarted (first_lists header) header)
unfolding unstarted first_lists ranked
all_listed header users is =
    let cores = header.config.cores in
    let control = first_control header in
    let front = λ (ready : List ℕ) (t : ℕ). placed (outranks control) t ready in
    let all : cores - 0 ≡ cores = omega arith in
    let some : cores + users - cores ≡ length header.tasks = omega (arith, is) in
    ap (with_ready header.config.priorities header.config.slicing control)
    (ap (λ m. all_placed control (range_with_len 0 m) (all_placed control (range_with_len cores (cores + users - cores)) [])) all
    ∙ ap (λ m. all_placed control (numbers cores) (all_placed control (range_with_len cores m) [])) some
    ∙ sym (fold-append front [] (range_with_len cores (length header.tasks)) (numbers cores)))

pub looks_more : (n : ℕ) → map first_look (numbers (n + 1)) ≡ map first_look (numbers n) ++ first_look n ∷ []
looks_more n = ap (map first_look) (numbers_more n) ∙ map-append first_look (numbers n) (n ∷ [])
