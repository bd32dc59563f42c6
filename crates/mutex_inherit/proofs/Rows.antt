-- What lists of waiters show as a waiter comes and goes, and what is found in them.
use Rattle.std.proofs.Common.{◌≡◌, ◌≢◌, ℕ, zero, suc, ◌+◌, ◌-◌, ◌<◌, ◌≤◌, Bool, true, false, cond, not, eqb, leb, ltb, ◌||◌, ◌&&◌, List, [], ◌∷◌, ◌++◌, length}
use Rattle.std.proofs.Common.{map, set, get_or, replicate, Option, Some, None, option_map, unwrap_or, refl, sym, ap, ◌∙◌, get_or-set_same}
use Rattle.std.proofs.Common.{get_or-set_other, arith, inl, inr, zero-add}
use Rattle.std.specs.List.{filter, find, list_any, position_or_len, AllByRecursion}
use Rattle.std.proofs.Math.ListN.{get_or-map}
use Rattle.std.proofs.lemmas.Bool.{cases_eq}
use Rattle.std.proofs.lemmas.Bool.Decides.{nat_tests}
use Rattle.std.proofs.lemmas.List.{append-nil, map-append}
use Rattle.std.proofs.lemmas.List.Elements.{filter-append}
use Rattle.bench_types.specs.declared.kernel_data.EventWait.{EventWait}
use Rattle.bench_types.specs.declared.kernel_data.Waiter.{Waiter}
use Rattle.list_orders.specs.Search.{inserted}
use Rattle.list_orders.proofs.Filters.{filter_all, filter_none, filter-map, find_filter, list_any-map, All-append, All-map, All-weaker, All_each}
use Rattle.list_orders.proofs.Filters.{All-filter}
use Rattle.list_orders.proofs.Insertions.{All-inserted, inserted_behind, inserted_here}
use Rattle.index_lists.specs.Listed.{Listed, ListsView, items_of, has_item, without_item, list_of, key_of, keyed, lowest_first, EachInOneList}
use Rattle.bench_model.specs.Waiters.{waits_first, without_waiter, first_of}
use Rattle.bench_model.specs.Waiters.{wait_of, with_value}
use Rattle.mutex_inherit.specs.Parts.{waiter_at, waiters_from, tasks_for}
use Rattle.mutex_inherit.specs.Shape.{AreKeys, AreWaiters}

abbrev pub row_at : List (List Listed) → ℕ → List Listed
row_at rows m = get_or rows m []

abbrev waits_for : ℕ → Waiter → Bool
waits_for m waiter = eqb waiter.wait.list m

abbrev is_key : ℕ → Listed → Type 0
is_key n entry = (0 < entry.key) × (entry.key ≤ n)

next_of_sum : (m k : ℕ) → (m + 1) + k ≡ m + suc k
next_of_sum m k = omega arith

-- ---- a waiter that is inserted in one of two parts
inserted_left : (x : Waiter) (xs ys : List Waiter) → AllByRecursion (λ y. waits_first y x ≡ false) ys → inserted waits_first x (xs ++ ys) ≡ inserted waits_first
    x xs ++ ys
inserted_left x [] [] later = refl
inserted_left x [] (y ∷ ys) later = inserted_here waits_first x y ys later.0
inserted_left x (z ∷ zs) ys later = at (waits_first z x) refl (inserted_left x zs ys later)
  where
    at : (b : Bool) → waits_first z x ≡ b → inserted waits_first x (zs ++ ys) ≡ inserted waits_first x zs ++ ys → inserted waits_first x (z ∷ (zs ++ ys)) ≡
        inserted waits_first x (z ∷ zs) ++ ys
    at true on rest =
        inserted_behind waits_first x z (zs ++ ys) on ∙ ap (λ ws. z ∷ ws) rest ∙ sym (ap (λ ws. ws ++ ys) (inserted_behind waits_first x z zs on))
    at false off rest = inserted_here waits_first x z (zs ++ ys) off ∙ sym (ap (λ ws. ws ++ ys) (inserted_here waits_first x z zs off))

inserted_right : (x : Waiter) (xs ys : List Waiter) → AllByRecursion (λ y. waits_first y x ≡ true) xs → inserted waits_first x (xs ++ ys) ≡ xs ++ inserted
    waits_first x ys
inserted_right x [] ys ahead = refl
inserted_right x (z ∷ zs) ys ahead = inserted_behind waits_first x z (zs ++ ys) ahead.0 ∙ ap (λ ws. z ∷ ws) (inserted_right x zs ys ahead.1)

-- ---- event lists, the first of which is list m
module _ (n : ℕ) where
  one_list : (m : ℕ) (row : List Listed) → AllByRecursion (λ (w : Waiter). w.wait.list ≡ m) (map (waiter_at n m) row)
  one_list m row = All-map (λ (w : Waiter). w.wait.list ≡ m) (waiter_at n m) row (All_each (λ e. (waiter_at n m e).wait.list ≡ m) (λ e. refl) row)

  from_list : (m : ℕ) (rows : List (List Listed)) → AllByRecursion (λ (w : Waiter). m ≤ w.wait.list) (waiters_from n m rows)
  from_list m [] = tt
  from_list m (row ∷ rows) =
      All-append (λ (w : Waiter). m ≤ w.wait.list) (map (waiter_at n m) row) (waiters_from n (m + 1) rows)
      (All-weaker (λ (w : Waiter). w.wait.list ≡ m) (λ (w : Waiter). m ≤ w.wait.list) (λ w is. omega (arith, is)) (map (waiter_at n m) row) (one_list m row))
      (All-weaker (λ (w : Waiter). m + 1 ≤ w.wait.list) (λ (w : Waiter). m ≤ w.wait.list) (λ w low. omega (arith, low)) (waiters_from n (m + 1) rows)
      (from_list (m + 1) rows))

  -- the waiters in a list are those that stand in it
  pub of_list_from : (m k : ℕ) (rows : List (List Listed)) → filter (waits_for (m + k)) (waiters_from n m rows) ≡ map (waiter_at n (m + k)) (row_at rows k)
  of_list_from m zero [] = refl
  of_list_from m (suc k) [] = refl
  of_list_from m zero (row ∷ rows) =
      let none : m + 0 ≡ m = omega arith in
      let here = map (waiter_at n m) row in
      let rest = waiters_from n (m + 1) rows in
      ap (λ j. filter (waits_for j) (here ++ rest)) none
      ∙ filter-append (waits_for m) here rest
      ∙ ap (λ ws. ws ++ filter (waits_for m) rest) (filter_all (waits_for m) here
      (All-weaker (λ (w : Waiter). w.wait.list ≡ m) (λ w. waits_for m w ≡ true) (λ w is. grind (arith, nat_tests, is)) here (one_list m row)))
      ∙ ap (λ ws. here ++ ws) (filter_none (waits_for m) rest (All-weaker (λ (w : Waiter). m + 1 ≤ w.wait.list) (λ w. waits_for m w ≡ false)
      (λ w low. grind (arith, nat_tests, low)) rest (from_list (m + 1) rows)))
      ∙ append-nil here ∙ ap (λ j. map (waiter_at n j) row) (sym none)
  of_list_from m (suc k) (row ∷ rows) =
      let here = map (waiter_at n m) row in
      let rest = waiters_from n (m + 1) rows in
      filter-append (waits_for (m + suc k)) here rest
      ∙ ap (λ ws. ws ++ filter (waits_for (m + suc k)) rest) (filter_none (waits_for (m + suc k)) here
      (All-weaker (λ (w : Waiter). w.wait.list ≡ m) (λ w. waits_for (m + suc k) w ≡ false) (λ w is. grind (arith, nat_tests, is)) here (one_list m row)))
      ∙ ap (λ j. filter (waits_for j) rest) (sym (next_of_sum m k))
      ∙ of_list_from (m + 1) k rows
      ∙ ap (λ j. map (waiter_at n j) (row_at rows k)) (next_of_sum m k)

  pub of_list : (k : ℕ) (rows : List (List Listed)) → filter (waits_for k) (waiters_from n 0 rows) ≡ map (waiter_at n k) (row_at rows k)
  of_list k rows = ap (λ j. filter (waits_for j) (waiters_from n 0 rows)) (sym (zero-add k)) ∙ of_list_from 0 k rows ∙ ap (λ j. map (waiter_at n j) (row_at rows k))
      (zero-add k)

  tasks_in : (m : ℕ) (row : List Listed) → map (λ (w : Waiter). w.task) (map (waiter_at n m) row) ≡ items_of row
  tasks_in m [] = refl
  tasks_in m (e ∷ row) = ap (λ ts. e.item ∷ ts) (tasks_in m row)

  pub list_tasks : (k : ℕ) (rows : List (List Listed)) → items_of (row_at rows k) ≡ tasks_for k (waiters_from n 0 rows)
  list_tasks k rows = sym (tasks_in k (row_at rows k)) ∙ ap (map (λ (w : Waiter). w.task)) (sym (of_list k rows))

  -- the first that waits in a list is the first that stands in it
  pub first_waiting : (k : ℕ) (rows : List (List Listed)) → first_of k (waiters_from n 0 rows) ≡ find (λ _. true) (map (waiter_at n k) (row_at rows k))
  first_waiting k rows = find_filter (waits_for k) (waiters_from n 0 rows) ∙ ap (find (λ _. true)) (of_list k rows)

  -- ---- a waiter leaves, and one comes
  pub waiters_without : (t m : ℕ) (rows : List (List Listed)) → waiters_from n m (map (without_item t) rows) ≡ without_waiter t (waiters_from n m rows)
  waiters_without t m [] = refl
  waiters_without t m (row ∷ rows) =
      let stays = λ (w : Waiter). not (eqb w.task t) in
      ap (λ ws. ws ++ waiters_from n (m + 1) (map (without_item t) rows)) (sym (filter-map stays (waiter_at n m) row))
      ∙ ap (λ ws. filter stays (map (waiter_at n m) row) ++ ws) (waiters_without t (m + 1) rows)
      ∙ sym (filter-append stays (map (waiter_at n m) row) (waiters_from n (m + 1) rows))

  keeps : (m : ℕ) (a b : Listed) → is_key n a → is_key n b → waits_first (waiter_at n m a) (waiter_at n m b) ≡ lowest_first a b
  keeps m a b ka kb = at (leb a.key b.key) refl
    where
      at : (b' : Bool) → leb a.key b.key ≡ b' → (ltb m m || (eqb m m && leb (n - b.key) (n - a.key))) ≡ b'
      at true is =
          let low : n - b.key ≤ n - a.key = grind (arith, nat_tests, is, ka.1, kb.1) in
          grind (arith, nat_tests, low)
      at false is =
          let high : n - a.key < n - b.key = grind (arith, nat_tests, is, ka.1, kb.1) in
          grind (arith, nat_tests, high)

  map-inserted : (m : ℕ) (x : Listed) (xs : List Listed) → is_key n x → AreKeys n xs → map (waiter_at n m) (inserted lowest_first x xs) ≡ inserted waits_first
      (waiter_at n m x) (map (waiter_at n m) xs)
  map-inserted m x [] here all = refl
  map-inserted m x (y ∷ ys) here all = at (lowest_first y x) refl (map-inserted m x ys here all.1)
    where
      at : (b : Bool) → lowest_first y x ≡ b → map (waiter_at n m) (inserted lowest_first x ys) ≡ inserted waits_first (waiter_at n m x) (map (waiter_at n m) ys)
          → map (waiter_at n m) (inserted lowest_first x (y ∷ ys)) ≡ inserted waits_first (waiter_at n m x) (map (waiter_at n m) (y ∷ ys))
      at true on rest =
          ap (map (waiter_at n m)) (inserted_behind lowest_first x y ys on)
          ∙ ap (λ ws. waiter_at n m y ∷ ws) rest
          ∙ sym (inserted_behind waits_first (waiter_at n m x) (waiter_at n m y) (map (waiter_at n m) ys) (keeps m y x all.0 here ∙ on))
      at false off rest =
          ap (map (waiter_at n m)) (inserted_here lowest_first x y ys off)
          ∙ sym (inserted_here waits_first (waiter_at n m x) (waiter_at n m y) (map (waiter_at n m) ys) (keeps m y x all.0 here ∙ off))

  pub waiters_with : (m k : ℕ) (x : Listed) (rows : List (List Listed)) → k < length rows → is_key n x → AreKeys n (row_at rows k) → waiters_from n m
      (set rows k (inserted lowest_first x (row_at rows k))) ≡ inserted waits_first (waiter_at n (m + k) x) (waiters_from n m rows)
  waiters_with m k x [] low here all = absurd (omega (arith, low))
  waiters_with m zero x (row ∷ rows) low here all =
      let none : m + 0 ≡ m = omega arith in
      let rest = waiters_from n (m + 1) rows in
      let w = waiter_at n m x in
      ap (λ ws. ws ++ rest) (map-inserted m x row here all)
      ∙ sym (inserted_left w (map (waiter_at n m) row) rest (All-weaker (λ (y : Waiter). m + 1 ≤ y.wait.list) (λ y. waits_first y w ≡ false)
      (λ y above. grind (arith, nat_tests, above)) rest (from_list (m + 1) rows)))
      ∙ ap (λ j. inserted waits_first (waiter_at n j x) (map (waiter_at n m) row ++ rest)) (sym none)
  waiters_with m (suc k) x (row ∷ rows) low here all =
      let here_row = map (waiter_at n m) row in
      let rest = waiters_from n (m + 1) rows in
      let w = waiter_at n (m + suc k) x in
      ap (λ ws. here_row ++ ws) (waiters_with (m + 1) k x rows (omega (arith, low)) here all)
      ∙ ap (λ j. here_row ++ inserted waits_first (waiter_at n j x) rest) (next_of_sum m k)
      ∙ sym (inserted_right w here_row rest (All-weaker (λ (y : Waiter). y.wait.list ≡ m) (λ y. waits_first y w ≡ true) (λ y is. grind (arith, nat_tests, is))
      here_row (one_list m row)))

  -- ---- a waiter gets another list value
  row_valued : (t value m : ℕ) (row : List Listed) → value < n → map (waiter_at n m) (map (keyed t (n - value)) row) ≡ map (with_value t value)
      (map (waiter_at n m) row)
  row_valued t value m [] low = refl
  row_valued t value m (e ∷ row) low = cc (at (eqb e.item t), row_valued t value m row low)
    where
      at : (b : Bool) → waiter_at n m (cond b (record e { key = n - value }) e) ≡ cond b
          (record { task = e.item; wait = record { list = m; priority = value } }) (waiter_at n m e)
      at true = let back : n - (n - value) ≡ value = omega (arith, low) in
          ap (λ p. record { task = e.item; wait = record { list = m; priority = p } }) back
      at false = refl

  pub waiters_valued : (t value m : ℕ) (rows : List (List Listed)) → value < n → waiters_from n m (map (map (keyed t (n - value))) rows) ≡ map
      (with_value t value) (waiters_from n m rows)
  waiters_valued t value m [] low = refl
  waiters_valued t value m (row ∷ rows) low =
      ap (λ ws. ws ++ waiters_from n (m + 1) (map (map (keyed t (n - value))) rows)) (row_valued t value m row low)
      ∙ ap (λ ws. map (with_value t value) (map (waiter_at n m) row) ++ ws) (waiters_valued t value (m + 1) rows low)
      ∙ sym (map-append (with_value t value) (map (waiter_at n m) row) (waiters_from n (m + 1) rows))

  -- ---- the list that a task waits in
  wait_later : (t : ℕ) (xs ys : List Waiter) → list_any (λ (w : Waiter). eqb w.task t) xs ≡ false → wait_of t (xs ++ ys) ≡ wait_of t ys
  wait_later t [] ys away = refl
  wait_later t (x ∷ xs) ys away = grind (arith, away, wait_later t xs ys)

  abbrev list_of_wait : EventWait → ℕ
  list_of_wait wait = wait.list

  wait_here : (t m : ℕ) (row : List Listed) (ys : List Waiter) → has_item t row ≡ true → option_map list_of_wait (wait_of t (map (waiter_at n m) row ++ ys)) ≡ Some
      m
  wait_here t m [] ys here = absurd (cc (here))
  wait_here t m (e ∷ row) ys here = at (eqb e.item t) refl (wait_here t m row ys)
    where
      at : (b : Bool) → eqb e.item t ≡ b → (has_item t row ≡ true → option_map list_of_wait (wait_of t (map (waiter_at n m) row ++ ys)) ≡ Some m) → option_map
          list_of_wait (option_map (λ (w : Waiter). w.wait) (cond b (Some (waiter_at n m e)) (find (λ (w : Waiter). eqb w.task t) (map (waiter_at n m) row ++ ys))))
          ≡ Some m
      at true is rest = refl
      at false is rest = rest (grind (arith, here, is))

  abbrev place_in : ℕ → ℕ → List (List Listed) → Option ℕ
  place_in t m rows = cond (ltb (position_or_len (has_item t) rows) (length rows)) (Some (m + position_or_len (has_item t) rows)) None

  waits_at : (t m : ℕ) (rows : List (List Listed)) → option_map list_of_wait (wait_of t (waiters_from n m rows)) ≡ place_in t m rows
  waits_at t m [] = refl
  waits_at t m (row ∷ rows) = at (has_item t row) refl (waits_at t (m + 1) rows)
    where
      rest : List Waiter
      rest = waiters_from n (m + 1) rows

      pol : ℕ
      pol = position_or_len (has_item t) rows

      at : (b : Bool) → has_item t row ≡ b → option_map list_of_wait (wait_of t rest) ≡ place_in t (m + 1) rows → option_map list_of_wait
          (wait_of t (map (waiter_at n m) row ++ rest)) ≡ cond (ltb (cond (not b) (1 + pol) 0) (suc (length rows))) (Some (m + cond (not b) (1 + pol) 0)) None
      at true here later =
          let within : ltb 0 (suc (length rows)) ≡ true = grind (arith, nat_tests) in
          let none : m + 0 ≡ m = omega arith in
          wait_here t m row rest here ∙ ap Some (sym none) ∙ ap (λ b. cond b (Some (m + 0)) None) (sym within)
      at false away later =
          let shift : (m + 1) + pol ≡ m + (1 + pol) = omega arith in
          let alike : ltb pol (length rows) ≡ ltb (1 + pol) (suc (length rows)) = grind (arith, nat_tests) in
          ap (option_map list_of_wait) (wait_later t (map (waiter_at n m) row) rest (list_any-map (λ (w : Waiter). eqb w.task t) (waiter_at n m) row ∙ away))
          ∙ later
          ∙ ap (λ j. cond (ltb pol (length rows)) (Some j) None) shift
          ∙ ap (λ b. cond b (Some (m + (1 + pol))) None) alike

  pub waits_in : (t : ℕ) (view : ListsView) → option_map list_of_wait (wait_of t (waiters_from n 0 view.lists)) ≡ list_of t view
  waits_in t view =
      let pol = position_or_len (has_item t) view.lists in
      waits_at t 0 view.lists ∙ ap (λ j. cond (ltb pol (length view.lists)) (Some j) None) (zero-add pol)

  -- ---- lists are known by their waiters
  pub same_row : (m : ℕ) (xs ys : List Listed) → AreKeys n xs → AreKeys n ys → map (waiter_at n m) xs ≡ map (waiter_at n m) ys → xs ≡ ys
  same_row m [] [] kx ky same = refl
  same_row m [] (y ∷ ys) kx ky same = absurd (cc (same))
  same_row m (x ∷ xs) [] kx ky same = absurd (cc (same))
  same_row m (x ∷ xs) (y ∷ ys) kx ky same =
      let first : waiter_at n m x ≡ waiter_at n m y = cc (same) in
      let rest : map (waiter_at n m) xs ≡ map (waiter_at n m) ys = cc (same) in
      let item : x.item ≡ y.item = ap (λ (w : Waiter). w.task) first in
      let left : n - x.key ≡ n - y.key = ap (λ (w : Waiter). w.wait.priority) first in
      let key : x.key ≡ y.key = omega (arith, left, kx.0.1, ky.0.1) in
      let entry : x ≡ y = ap (λ i. record { item = i; key = x.key }) item ∙ ap (λ k. record { item = y.item; key = k }) key in
      cc (entry, same_row m xs ys kx.1 ky.1 rest)

  pub same_rows : (xs ys : List (List Listed)) → AreWaiters n xs → AreWaiters n ys → waiters_from n 0 xs ≡ waiters_from n 0 ys → (k : ℕ) → row_at xs k ≡ row_at
      ys k
  same_rows xs ys wx wy same k = same_row k (row_at xs k) (row_at ys k) (wx k) (wy k)
      (sym (of_list k xs) ∙ ap (filter (waits_for k)) same ∙ of_list k ys)

-- ---- what the lists keep
pub empty_row : (lists k : ℕ) → row_at (replicate lists []) k ≡ []
empty_row zero zero = refl
empty_row zero (suc k) = refl
empty_row (suc lists) zero = refl
empty_row (suc lists) (suc k) = empty_row lists k

pub no_waiters : (n m lists : ℕ) → waiters_from n m (replicate lists []) ≡ []
no_waiters n m zero = refl
no_waiters n m (suc lists) = no_waiters n (m + 1) lists

pub waiters_none : (n lists : ℕ) → AreWaiters n (replicate lists [])
waiters_none n lists = λ m. rw (empty_row lists m) tt

pub waiters_gone : (n u : ℕ) (rows : List (List Listed)) → AreWaiters n rows → AreWaiters n (map (without_item u) rows)
waiters_gone n u rows waiting = λ m. rw (get_or-map (without_item u) rows m [])
    (All-filter (is_key n) (λ (e : Listed). not (eqb e.item u)) (row_at rows m) (waiting m))

pub waiters_keyed : (n u key : ℕ) (rows : List (List Listed)) → 0 < key → key ≤ n → AreWaiters n rows → AreWaiters n (map (map (keyed u key)) rows)
waiters_keyed n u key rows some low waiting = λ m. rw (get_or-map (map (keyed u key)) rows m [])
    (All-map (is_key n) (keyed u key) (row_at rows m) (All-weaker (is_key n) (λ e. is_key n (keyed u key e)) (λ e is. at e (eqb e.item u) is) (row_at rows m)
    (waiting m)))
  where
    at : (e : Listed) (b : Bool) → is_key n e → is_key n (cond b (record e { key = key }) e)
    at e true is = (some, low)
    at e false is = is

module _ (n k : ℕ) (x : Listed) (rows : List (List Listed)) (low : k < length rows) (key : is_key n x) (waiting : AreWaiters n rows) where
  abbrev more : List (List Listed)
  more = set rows k (inserted lowest_first x (row_at rows k))

  its_row : row_at more k ≡ inserted lowest_first x (row_at rows k)
  its_row = get_or-set_same rows k (inserted lowest_first x (row_at rows k)) [] low

  other_row : (m : ℕ) → m ≢ k → row_at more m ≡ row_at rows m
  other_row m away = get_or-set_other rows k m (inserted lowest_first x (row_at rows k)) [] away

  pub waiters_more : AreWaiters n more
  waiters_more = λ m. elim (cases_eq m k) [
    | inl same ↦ rw (same, its_row) (All-inserted lowest_first x (is_key n) (row_at rows k) key (waiting k))
    | inr away ↦ rw (other_row m away) (waiting m)
  ]

-- ---- the key of the first of a list
found_row : (t k : ℕ) (rows : List (List Listed)) → has_item t (row_at rows k) ≡ true → ((j : ℕ) → has_item t (row_at rows j) ≡ true → j ≡ k) → find
    (has_item t) rows ≡ Some (row_at rows k)
found_row t zero [] here sole = absurd (cc (here))
found_row t (suc k) [] here sole = absurd (cc (here))
found_row t zero (row ∷ rows) here sole = ap (λ b. cond b (Some row) (find (has_item t) rows)) here
found_row t (suc k) (row ∷ rows) here sole = at (has_item t row) refl (found_row t k rows here (λ j there. omega (arith, sole (suc j) there)))
  where
    at : (b : Bool) → has_item t row ≡ b → find (has_item t) rows ≡ Some (row_at rows k) → cond b (Some row) (find (has_item t) rows) ≡ Some (row_at rows k)
    at true first later = absurd (omega (arith, sole 0 first))
    at false away later = later

-- the first of a list, and its key
pub first_key : (k : ℕ) (view : ListsView) (e : Listed) (rest : List Listed) → EachInOneList view → row_at view.lists k ≡ e ∷ rest → key_of e.item view ≡ Some
    e.key
first_key k view e rest each is =
    let itself : eqb e.item e.item ≡ true = grind (arith, nat_tests) in
    let here : has_item e.item (row_at view.lists k) ≡ true = ap (has_item e.item) is ∙ ap (λ b. b || has_item e.item rest) itself in
    let row = found_row e.item k view.lists here (λ j there. each.one_list e.item j k there here) in
    ap (λ o. option_map (λ (d : Listed). d.key) (find (λ (d : Listed). eqb d.item e.item) (unwrap_or o []))) row
    ∙ ap (λ r. option_map (λ (d : Listed). d.key) (find (λ (d : Listed). eqb d.item e.item) r)) is
    ∙ ap (λ b. option_map (λ (d : Listed). d.key) (cond b (Some e) (find (λ (d : Listed). eqb d.item e.item) rest))) itself
