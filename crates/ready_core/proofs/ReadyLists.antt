-- What ready lists show as tasks come and go.
use Rattle.std.proofs.Common.{◌≡◌, ◌≢◌, ℕ, zero, suc, ◌+◌, ◌<◌, ◌≤◌, Bool, true, false, not, eqb, ◌||◌, List, [], ◌∷◌, ◌++◌, length, map, take, get_or, Option}
use Rattle.std.proofs.Common.{Some, None, refl, sym, ap, ◌∙◌, arith, append_assoc, inl, inr}
use Rattle.std.specs.Prelude.{slice_set, is_some}
use Rattle.std.specs.List.{filter, list_any, AllByRecursion}
use Rattle.std.proofs.Math.ListN.{get_or-map}
use Rattle.std.proofs.lemmas.Bool.{cases_eq, eqb-true}
use Rattle.std.proofs.lemmas.Bool.Decides.{nat_tests}
use Rattle.std.proofs.lemmas.List.{length-map, get_or-set_same, get_or-set_other, map-append, append-nil, take_more, take_all}
use Rattle.std.proofs.lemmas.List.Quantifiers.{position-Some}
use Rattle.std.proofs.lemmas.List.Elements.{filter-append, recursion_from_All}
use Rattle.list_orders.specs.Listings.{IsListing}
use Rattle.list_orders.specs.Search.{placed, without, has}
use Rattle.list_orders.proofs.Filters.{filter_all, filter_none, filter-map, list_any-append, list_any-map, has-filter, All-append, All-filter, All-weaker}
use Rattle.index_lists.specs.Listed.{Listed, ListsView, items_of, has_item, without_item, list_of}
use Rattle.index_lists.proofs.Frees.{some_list}
use Rattle.bench_model.specs.Control.{Control, task_at}
use Rattle.bench_model.specs.Lists.{outranks}
use Rattle.bench_model.specs.Cores.{CoresView}
use Rattle.ready_core.specs.Fields.{tasks_of, ready_below, has_priority}

abbrev pub row_at : List (List Listed) → ℕ → List Listed
row_at lists p = get_or lists p []

-- the lists with the task at the end of one
abbrev pub pushed : List (List Listed) → ℕ → ℕ → List (List Listed)
pushed lists r t = slice_set lists r (row_at lists r ++ record { item = t; key = 0 } ∷ [])

pub pushed_same : (lists : List (List Listed)) (r t : ℕ) → r < length lists → tasks_of (pushed lists r t) r ≡ tasks_of lists r ++ t ∷ []
pushed_same lists r t low =
    let entry : Listed = record { item = t; key = 0 } in
    let row = row_at lists r ++ entry ∷ [] in
    ap items_of (get_or-set_same lists r row [] low) ∙ map-append (λ (e : Listed). e.item) (row_at lists r) (entry ∷ [])

pub pushed_other : (lists : List (List Listed)) (r t p : ℕ) → p ≢ r → tasks_of (pushed lists r t) p ≡ tasks_of lists p
pushed_other lists r t p away = ap items_of (get_or-set_other lists r p (row_at lists r ++ record { item = t; key = 0 } ∷ []) [] away)

-- the lists without the task
pub without_row : (lists : List (List Listed)) (t p : ℕ) → tasks_of (map (without_item t) lists) p ≡ without t (tasks_of lists p)
without_row lists t p = ap items_of (get_or-map (without_item t) lists p []) ∙ sym (filter-map (λ m. not (eqb m t)) (λ (e : Listed). e.item) (row_at lists p))

pub ready_without : (lists : List (List Listed)) (t n : ℕ) → ready_below (map (without_item t) lists) n ≡ without t (ready_below lists n)
ready_without lists t zero = refl
ready_without lists t (suc n) =
    let others = map (without_item t) lists in
    ap (λ xs. xs ++ ready_below others n) (without_row lists t n) ∙ ap (λ xs. without t (tasks_of lists n) ++ xs) (ready_without lists t n)
    ∙ sym (filter-append (λ m. not (eqb m t)) (tasks_of lists n) (ready_below lists n))

-- lists that are alike below n show the same
pub ready_kept : (lists others : List (List Listed)) (n : ℕ) → ((p : ℕ) → p < n → tasks_of lists p ≡ tasks_of others p) → ready_below lists n ≡ ready_below
    others n
ready_kept lists others zero same = refl
ready_kept lists others (suc n) same =
    ap (λ xs. xs ++ ready_below lists n) (same n (omega arith)) ∙ ap (λ xs. tasks_of others n ++ xs)
    (ready_kept lists others n (λ p low. same p (omega (arith, low))))

turned : (a b : Bool) → (a || b) ≡ (b || (a || false))
turned true true = refl
turned true false = refl
turned false true = refl
turned false false = refl

-- a task is ready where it is in some list
ready_has : (lists : List (List Listed)) (t n : ℕ) → n ≤ length lists → has t (ready_below lists n) ≡ list_any (has_item t) (take n lists)
ready_has lists t zero low = refl
ready_has lists t (suc n) low =
    let one : n + 1 ≡ suc n = omega arith in
    let row = row_at lists n in
    let more : take (suc n) lists ≡ take n lists ++ row ∷ [] = ap (λ m. take m lists) (sym one) ∙ take_more lists n [] (omega (arith, low)) in
    let both = list_any-append (λ m. eqb m t) (tasks_of lists n) (ready_below lists n) in
    let here = list_any-map (λ m. eqb m t) (λ (e : Listed). e.item) row in
    let parts = ap (list_any (has_item t)) more ∙ list_any-append (has_item t) (take n lists) (row ∷ []) in
    both ∙ ap (λ b. b || has t (ready_below lists n)) here ∙ ap (λ b. has_item t row || b) (ready_has lists t n (omega (arith, low))) ∙ turned (has_item t row)
    (list_any (has_item t) (take n lists)) ∙ sym parts

pub ready_listed : (view : ListsView) (t n : ℕ) → length view.lists ≡ n → has t (ready_below view.lists n) ≡ is_some (list_of t view)
ready_listed view t n sized =
    ready_has view.lists t n (omega (arith, sized)) ∙ ap (list_any (has_item t)) (take_all n view.lists (omega (arith, sized))) ∙ sym (some_list t view)

-- a task that is not ready is in no list
pub row_apart : (lists : List (List Listed)) (t p n : ℕ) → p < n → has t (ready_below lists n) ≡ false → has t (tasks_of lists p) ≡ false
row_apart lists t p zero low absent = absurd (omega (arith, low))
row_apart lists t p (suc n) low absent =
    let both = list_any-append (λ m. eqb m t) (tasks_of lists n) (ready_below lists n) in
    elim (cases_eq p n) [
      | inl same ↦ rw same (grind (arith, both, absent))
      | inr away ↦ row_apart lists t p n (omega (arith, low, away)) (grind (arith, both, absent))
    ]

-- a task of a row is in a list
pub row_listed : (view : ListsView) (t p n : ℕ) → length view.lists ≡ n → p < n → has t (tasks_of view.lists p) ≡ true → is_some (list_of t view) ≡ true
row_listed view t p n sized low here = at (has t (ready_below view.lists n)) refl
  where
    at : (b : Bool) → has t (ready_below view.lists n) ≡ b → is_some (list_of t view) ≡ true
    at true ready = sym (ready_listed view t n sized) ∙ ready
    at false absent = absurd (cc (row_apart view.lists t p n low absent, here))

-- the tasks of listings are below the bound
pub tasks_low : (bound : ℕ) (lists : List (List Listed)) (n : ℕ) → ((p : ℕ) → p < n → IsListing bound (tasks_of lists p)) → AllByRecursion (λ t. t < bound)
    (ready_below lists n)
tasks_low bound lists zero listings = tt
tasks_low bound lists (suc n) listings =
    All-append (λ t. t < bound) (tasks_of lists n) (ready_below lists n)
    (recursion_from_All (λ t. t < bound) (tasks_of lists n) (listings n (omega arith)).below)
    (tasks_low bound lists n (λ p low. listings p (omega (arith, low))))

abbrev pub with_ready : ℕ → Bool → Control → List ℕ → CoresView
with_ready priorities slicing control ready = record { priorities = priorities; slicing = slicing; control = control; ready = ready }

module _ (control : Control) where
  abbrev pub rank : ℕ → ℕ
  rank task = (task_at control task).in_use

  -- in each list below n stand tasks of its priority
  abbrev pub AreAtHome : List (List Listed) → ℕ → Type 0
  AreAtHome lists n = (p : ℕ) → p < n → AllByRecursion (λ task. has_priority control p task ≡ true) (tasks_of lists p)

  ready_low : (lists : List (List Listed)) (n : ℕ) → AreAtHome lists n → AllByRecursion (λ task. rank task < n) (ready_below lists n)
  ready_low lists zero home = tt
  ready_low lists (suc n) home =
      All-append (λ task. rank task < suc n) (tasks_of lists n) (ready_below lists n)
      (All-weaker (λ task. has_priority control n task ≡ true) (λ task. rank task < suc n) (λ task is. grind (arith, nat_tests, is)) (tasks_of lists n)
      (home n (omega arith)))
      (All-weaker (λ task. rank task < n) (λ task. rank task < suc n) (λ task low. omega (arith, low)) (ready_below lists n)
      (ready_low lists n (λ p low. home p (omega (arith, low)))))

  -- the ready tasks of a priority are those of its list
  pub ready_of : (lists : List (List Listed)) (r n : ℕ) → AreAtHome lists n → r < n → filter (has_priority control r) (ready_below lists n) ≡ tasks_of lists r
  ready_of lists r zero home low = absurd (omega (arith, low))
  ready_of lists r (suc n) home low =
      let here = home n (omega arith) in
      let later : AreAtHome lists n = λ p below. home p (omega (arith, below)) in
      let row = tasks_of lists n in
      let rest = ready_below lists n in
      filter-append (has_priority control r) row rest
      ∙ elim (cases_eq r n) [
        | inl same ↦
            ap (λ xs. xs ++ filter (has_priority control r) rest) (filter_all (has_priority control r) row
            (All-weaker (λ t. has_priority control n t ≡ true) (λ t. has_priority control r t ≡ true) (λ t is. grind (arith, nat_tests, is, same)) row
            here))
            ∙ ap (λ xs. row ++ xs) (filter_none (has_priority control r) rest
            (All-weaker (λ t. rank t < n) (λ t. has_priority control r t ≡ false) (λ t below. grind (arith, nat_tests, below, same)) rest
            (ready_low lists n later)))
            ∙ append-nil row ∙ ap (tasks_of lists) (sym same)
        | inr away ↦
            ap (λ xs. xs ++ filter (has_priority control r) rest) (filter_none (has_priority control r) row
            (All-weaker (λ t. has_priority control n t ≡ true) (λ t. has_priority control r t ≡ false) (λ t is. grind (arith, nat_tests, is, away)) row
            here))
            ∙ ready_of lists r n later (omega (arith, low, away))
      ]

  -- a ready task is in the list of its priority
  pub in_its_row : (lists : List (List Listed)) (t n : ℕ) → AreAtHome lists n → rank t < n → has t (tasks_of lists (rank t)) ≡ has t (ready_below lists n)
  in_its_row lists t n home low =
      ap (has t) (sym (ready_of lists (rank t) n home low)) ∙ has-filter (has_priority control (rank t)) t (ready_below lists n) ∙ grind (arith, nat_tests)

  placed_later : (t : ℕ) (xs ys : List ℕ) → AllByRecursion (λ y. rank t ≤ rank y) xs → placed (outranks control) t (xs ++ ys) ≡ xs ++ placed (outranks control)
      t ys
  unfolding placed
  placed_later t xs ys front =
      let ahead = λ (y : ℕ). outranks control y t in
      let after = λ (y : ℕ). not (outranks control y t) in
      let kept = filter_all ahead xs (All-weaker (λ y. rank t ≤ rank y) (λ y. ahead y ≡ true) (λ y h. grind (arith, nat_tests, h)) xs front) in
      let gone = filter_none after xs (All-weaker (λ y. rank t ≤ rank y) (λ y. after y ≡ false) (λ y h. grind (arith, nat_tests, h)) xs front) in
      ap (λ zs. zs ++ t ∷ filter after (xs ++ ys)) (filter-append ahead xs ys ∙ ap (λ zs. zs ++ filter ahead ys) kept)
      ∙ ap (λ zs. (xs ++ filter ahead ys) ++ t ∷ zs) (filter-append after xs ys ∙ ap (λ zs. zs ++ filter after ys) gone)
      ∙ append_assoc xs (filter ahead ys) (t ∷ filter after ys)

  placed_first : (t : ℕ) (ys : List ℕ) → AllByRecursion (λ y. rank y < rank t) ys → placed (outranks control) t ys ≡ t ∷ ys
  unfolding placed
  placed_first t ys lower =
      let ahead = λ (y : ℕ). outranks control y t in
      let after = λ (y : ℕ). not (outranks control y t) in
      ap (λ zs. zs ++ t ∷ filter after ys) (filter_none ahead ys
      (All-weaker (λ y. rank y < rank t) (λ y. ahead y ≡ false) (λ y h. grind (arith, nat_tests, h)) ys lower))
      ∙ ap (λ zs. t ∷ zs) (filter_all after ys (All-weaker (λ y. rank y < rank t) (λ y. after y ≡ true) (λ y h. grind (arith, nat_tests, h)) ys lower))

  -- a task that is pushed to the list of its priority is placed among the ready tasks
  pub placed_last : (lists : List (List Listed)) (r t n : ℕ) → AreAtHome lists n → n ≤ length lists → r < n → rank t ≡ r → ready_below (pushed lists r t) n ≡
      placed (outranks control) t (ready_below lists n)
  placed_last lists r t zero home sized low is = absurd (omega (arith, low))
  placed_last lists r t (suc n) home sized low is =
      let here = home n (omega arith) in
      let later : AreAtHome lists n = λ p below. home p (omega (arith, below)) in
      let more = pushed lists r t in
      let row = tasks_of lists n in
      let rest = ready_below lists n in
      elim (cases_eq r n) [
        | inl same ↦
            ap (λ xs. xs ++ ready_below more n) (ap (tasks_of more) (sym same) ∙ pushed_same lists r t (omega (arith, sized, low)) ∙ ap
            (λ p. tasks_of lists p ++ t ∷ []) same)
            ∙ ap (λ xs. (row ++ t ∷ []) ++ xs) (ready_kept more lists n (λ p below. pushed_other lists r t p (omega (arith, below, same))))
            ∙ append_assoc row (t ∷ []) rest
            ∙ ap (λ xs. row ++ xs) (sym (placed_first t rest (All-weaker (λ y. rank y < n) (λ y. rank y < rank t) (λ y below. omega (arith, below, is, same))
            rest (ready_low lists n later))))
            ∙ sym (placed_later t row rest (All-weaker (λ y. has_priority control n y ≡ true) (λ y. rank t ≤ rank y)
            (λ y h. grind (arith, nat_tests, h, is, same)) row here))
        | inr away ↦
            ap (λ xs. xs ++ ready_below more n) (pushed_other lists r t n (omega (arith, away)))
            ∙ ap (λ xs. row ++ xs) (placed_last lists r t n later (omega (arith, sized)) (omega (arith, low, away)) is)
            ∙ sym (placed_later t row rest (All-weaker (λ y. has_priority control n y ≡ true) (λ y. rank t ≤ rank y)
            (λ y h. grind (arith, nat_tests, h, is, low)) row here))
      ]

  -- the list that a ready task is in is that of its priority
  pub listed_in : (view : ListsView) (t n : ℕ) → length view.lists ≡ n → AreAtHome view.lists n → has t (ready_below view.lists n) ≡ true → list_of t view ≡
      Some (rank t)
  listed_in view t n sized home ready = at (list_of t view) refl
    where
      in_row : (xs : List ℕ) (p : ℕ) → AllByRecursion (λ task. has_priority control p task ≡ true) xs → has t xs ≡ true → rank t ≡ p
      in_row [] p all there = absurd (cc (there))
      in_row (x ∷ xs) p all there = elim (cases_eq x t) [
        | inl same ↦ ap rank (sym same) ∙ eqb-true (rank x) p all.0
        | inr other ↦ in_row xs p all.1 (grind (arith, nat_tests, there, other))
      ]

      at : (o : Option ℕ) → list_of t view ≡ o → o ≡ Some (rank t)
      at None is = absurd (cc (ap is_some is, sym (ready_listed view t n sized), ready))
      at (Some p) is =
          let found = position-Some (has_item t) view.lists p [] is in
          ap Some (sym (in_row (tasks_of view.lists p) p (home p (omega (arith, sized, found.0)))
          (list_any-map (λ m. eqb m t) (λ (e : Listed). e.item) (row_at view.lists p) ∙ found.1)))

  -- a task that goes to the end of the list of its priority is placed among the other ready tasks
  pub placed_turned : (lists : List (List Listed)) (r t n : ℕ) → AreAtHome lists n → n ≤ length lists → r < n → rank t ≡ r → ready_below
      (slice_set (map (without_item t) lists) r (without_item t (row_at lists r) ++ record { item = t; key = 0 } ∷ [])) n ≡ placed (outranks control) t
      (without t (ready_below lists n))
  placed_turned lists r t n home sized low is =
      let left = map (without_item t) lists in
      let kept : AreAtHome left n = λ p below. rw (without_row lists t p)
      (All-filter (λ task. has_priority control p task ≡ true) (λ m. not (eqb m t)) (tasks_of lists p) (home p below)) in
      ap (λ (row : List Listed). ready_below (slice_set left r (row ++ record { item = t; key = 0 } ∷ [])) n) (sym (get_or-map (without_item t) lists r []))
      ∙ placed_last left r t n kept (omega (arith, sized, length-map lists (without_item t))) low is
      ∙ ap (placed (outranks control) t) (ready_without lists t n)

-- a list without a task that it doesn't have
pub without_absent : (t : ℕ) (xs : List ℕ) → has t xs ≡ false → without t xs ≡ xs
without_absent t [] absent = refl
without_absent t (x ∷ xs) absent =
    let other : eqb x t ≡ false = grind (arith, absent) in
    let rest : without t xs ≡ xs = without_absent t xs (grind (arith, absent)) in
    grind (arith, other, rest)
