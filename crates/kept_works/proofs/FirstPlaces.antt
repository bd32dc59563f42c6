-- Counts of the steps of rows, and the first of the places at an index or behind it.
use Rattle.std.proofs.Common.{◌≡◌, ℕ, zero, suc, ◌+◌, ◌<◌, ◌≤◌, Bool, true, false, cond, eqb, ◌&&◌, List, ◌∷◌, length, map, take, drop, get_or, count_by, find, filter_map, Option, Some, None, All, is_some, nat_le, refl, sym, ap, ◌∙◌, inl, inr, arith}
use Rattle.std.specs.Prelude.{option_map, slice_index_or, slice_set}
use Rattle.std.specs.List.{cons_option, range_with_len}
use Rattle.std.specs.Option.{option_map_or}
use Rattle.std.proofs.lemmas.Bool.{cases_eq, le-leb, lt-leb}
use Rattle.std.proofs.lemmas.Bool.Decides.{nat_tests}
use Rattle.std.proofs.lemmas.List.{get_or-set_same, get_or-set_other}
use Rattle.std.proofs.lemmas.List.Elements.{recursion_from_All, All-take, All-weaker}
use Rattle.std.proofs.lemmas.List.FromFn.{length-map-range_with_len}
use Rattle.std.proofs.lemmas.List.Sums.{length-filter, sum_by_more}
use Rattle.std.proofs.lemmas.Option.{slice_get-get_or}
use Rattle.bench_types.specs.declared.step.Step.{Step}
use Rattle.bench_types.specs.declared.step.Step.TheVariants.{Tick}
use Rattle.list_orders.specs.Search.{numbers}
use Rattle.list_orders.proofs.Filters.{filter_agrees}
use Rattle.settled_runs.specs.Settled.{is_event}
use Rattle.kept_runs.specs.Items.{is_alike, passes_at, place_of_event, places_of, settled_place}
use Rattle.kept_works.specs.Places.{event_place, is_in_row, place_from, row_of, AreRowsOf, HasRow}
use Rattle.kept_works.specs.Rows.{row_at}
use Rattle.kept_works.proofs.Placings.{same_filter}
use Rattle.kept_works.proofs.Rowed.{alike_in_row, row_is_event, row_low}

-- ---- counts

-- one more in a row
counted : (come : List ℕ) (row other : ℕ) → row < length come
    → get_or (slice_set come row (get_or come row 0 + 1)) other 0 ≡ get_or come other 0 + cond (eqb row other) 1 0
counted come row other within = elim (cases_eq other row) [
  | inl own ↦
      let yes : eqb row other ≡ true = grind (arith, nat_tests, own) in
      ap (λ (other : ℕ). get_or (slice_set come row (get_or come row 0 + 1)) other 0) own
      ∙ get_or-set_same come row (get_or come row 0 + 1) 0 within
      ∙ (λ i. get_or come (sym own i) 0 + cond (sym yes i) 1 0)
  | inr away ↦
      let no : eqb row other ≡ false = grind (arith, nat_tests, away) in
      let none : get_or come other 0 ≡ get_or come other 0 + 0 = omega arith in
      get_or-set_other come row other (get_or come row 0 + 1) 0 away ∙ none ∙ ap (λ (b : Bool). get_or come other 0 + cond b 1 0) (sym no)
]

-- of each row so many steps are among the first n
abbrev pub AreCounts : ℕ → List Step → ℕ → List ℕ → Type 0
AreCounts tasks document n come = (row : ℕ) → row ≤ tasks → get_or come row 0 ≡ count_by (is_in_row tasks row) (take n document)

module _ (tasks : ℕ) (document : List Step) (index : ℕ) (d : Step) (within : index < length document) where
  -- the steps of a row, with one step more
  one_counted : (o : Option ℕ) (row : ℕ) → row_of tasks (get_or document index d) ≡ o
      → count_by (is_in_row tasks row) (take (index + 1) document)
      ≡ count_by (is_in_row tasks row) (take index document) + cond (option_map_or (λ (own : ℕ). eqb own row) o false) 1 0
  one_counted o row is =
      sum_by_more (λ (step : Step). cond (is_in_row tasks row step) 1 0) document index d within
      ∙ ap (λ (o : Option ℕ). count_by (is_in_row tasks row) (take index document) + cond (option_map_or (λ (own : ℕ). eqb own row) o false) 1 0) is

  -- a step counts in its row
  pub counts_on : (come : List ℕ) (row : ℕ) → row_of tasks (get_or document index d) ≡ Some row → row < length come → AreCounts tasks document index come
      → AreCounts tasks document (index + 1) (slice_set come row (get_or come row 0 + 1))
  counts_on come row is low counts other within =
      counted come row other low
      ∙ ap (λ (n : ℕ). n + cond (eqb row other) 1 0) (counts other within)
      ∙ sym (one_counted (Some row) other is)

  -- one that is in none counts in none
  pub counts_pass : (come : List ℕ) → row_of tasks (get_or document index d) ≡ None → AreCounts tasks document index come → AreCounts tasks document (index + 1) come
  counts_pass come is counts other within =
      let none : count_by (is_in_row tasks other) (take index document) ≡ count_by (is_in_row tasks other) (take index document) + 0 = omega arith in
      counts other within ∙ none ∙ sym (one_counted None other is)

-- ---- the first place

-- the place of a number that passes
abbrev own_place : (ℕ → Bool) → (ℕ → ℕ) → ℕ → Option ℕ
own_place test place n = cond (test n) (Some (place n)) None

module _ (test : ℕ → Bool) (place : ℕ → ℕ) (last : ℕ) where
  -- the first place of a number is that of the first that passes
  first_of : (a n : ℕ)
      → slice_index_or (filter_map (λ (place : Option ℕ). place) (map (own_place test place) (range_with_len a n))) 0 last
      ≡ option_map_or place (find test (range_with_len a n)) last
  first_of a zero = refl
  first_of a (suc n) = at (test a) (first_of (a + 1) n)
    where
      at : (b : Bool)
          → slice_index_or (filter_map (λ (place : Option ℕ). place) (map (own_place test place) (range_with_len (a + 1) n))) 0 last
          ≡ option_map_or place (find test (range_with_len (a + 1) n)) last
          → slice_index_or (cons_option (cond b (Some (place a)) None) (filter_map (λ (place : Option ℕ). place) (map (own_place test place) (range_with_len (a + 1) n)))) 0 last
          ≡ option_map_or place (cond b (Some a) (find test (range_with_len (a + 1) n))) last
      at true rest = refl
      at false rest = rest

  -- where all are behind the index
  all_behind : (index a n : ℕ) → index ≤ a
      → find (λ (later : ℕ). nat_le index later && test later) (range_with_len a n) ≡ find test (range_with_len a n)
  all_behind index a zero low = refl
  all_behind index a (suc n) low =
      (λ i. cond (le-leb index a low i && test a) (Some a) (find (λ (later : ℕ). nat_le index later && test later) (range_with_len (a + 1) n)))
      ∙ ap (cond (test a) (Some a)) (all_behind index (a + 1) n (omega arith))

  -- the first place of a number from an index on is that of the first one there that passes
  first_from : (k index a n : ℕ) → a + k ≡ index
      → slice_index_or (filter_map (λ (place : Option ℕ). place) (drop k (map (own_place test place) (range_with_len a n)))) 0 last
      ≡ option_map_or place (find (λ (later : ℕ). nat_le index later && test later) (range_with_len a n)) last
  first_from zero index a n is =
      let low : index ≤ a = omega (arith, is) in
      first_of a n ∙ ap (λ (o : Option ℕ). option_map_or place o last) (sym (all_behind index a n low))
  first_from (suc k) index a zero is = refl
  first_from (suc k) index a (suc n) is =
      let next : a + 1 + k ≡ index = omega (arith, is) in
      let no : nat_le index a ≡ false = lt-leb index a (omega (arith, is)) in
      first_from k index (a + 1) n next
      ∙ ap
      (λ (b : Bool). option_map_or place
      (cond (b && test a) (Some a) (find (λ (later : ℕ). nat_le index later && test later) (range_with_len (a + 1) n))) last) (sym no)

-- two functions that agree below a bound make one list
pub same_below : {X : Type 0} (f g : ℕ → X) (a n : ℕ) → ((k : ℕ) → k < a + n → f k ≡ g k) → map f (range_with_len a n) ≡ map g (range_with_len a n)
same_below f g a zero same = refl
same_below f g a (suc n) same =
    λ i. same a (omega arith) i ∷ same_below f g (a + 1) n (λ k below. same k (omega (arith, below))) i

-- ---- the places of a document

-- tests that agree at each step count as many, and pass steps at the same places
same_count : (p q : Step → Bool) (steps : List Step) → All (λ (step : Step). p step ≡ q step) steps → count_by p steps ≡ count_by q steps
same_count p q steps same =
    sym (length-filter p steps)
    ∙ ap (λ (steps : List Step). length steps) (filter_agrees p q steps (recursion_from_All (λ (step : Step). p step ≡ q step) steps same))
    ∙ length-filter q steps

passes_in : (test : Step → Bool) (run : List Step) (place : ℕ) → place < length run → passes_at test run place ≡ test (get_or run place Tick)
passes_in test run place within = ap (λ (o : Option Step). option_map_or test o false) (slice_get-get_or run place Tick within)

same_places : (p q : Step → Bool) (run : List Step) → All (λ (step : Step). p step ≡ q step) run → places_of p run ≡ places_of q run
same_places p q run same =
    same_filter (passes_at p run) (passes_at q run) (length run)
    (λ place within. passes_in p run place within ∙ same place Tick within ∙ sym (passes_in q run place within))

module _ (tasks : ℕ) (document settled : List Step) (rows : List (List ℕ)) (are : AreRowsOf tasks settled rows)
    (here : All (HasRow tasks) document) (there : All (HasRow tasks) settled) where
  -- the place of the step at the index, if it is an event
  abbrev place_at : ℕ → ℕ
  place_at index = place_of_event document settled index (get_or document index Tick)

  abbrev is_event_at : ℕ → Bool
  is_event_at index = passes_at is_event document index

  -- an event comes where as many steps of its row came before it
  in_one_row : (index : ℕ) (step : Step) (row : ℕ) → HasRow tasks step → row_of tasks step ≡ Some row
      → slice_index_or (row_at rows row) (count_by (is_in_row tasks row) (take index document)) (length settled)
      ≡ place_of_event document settled index step
  in_one_row index step row own is =
      let alike : (steps : List Step) → All (HasRow tasks) steps → All (λ (other : Step). is_in_row tasks row other ≡ is_alike step other) steps =
      λ steps all. All-weaker (HasRow tasks) (λ (other : Step). is_in_row tasks row other ≡ is_alike step other)
      (λ other has. sym (alike_in_row tasks step row other own is has)) steps all in
      let places = are.each row (row_low tasks step row own is)
      ∙ same_places (is_in_row tasks row) (is_alike step) settled (alike settled there) in
      let count = same_count (is_in_row tasks row) (is_alike step) (take index document)
      (alike (take index document) (All-take (HasRow tasks) index document here)) in
      λ i. slice_index_or (places i) (count i) (length settled)

  at_row : (index : ℕ) (step : Step) (o : Option ℕ) → HasRow tasks step → row_of tasks step ≡ o
      → option_map (λ (row : ℕ). slice_index_or (row_at rows row) (count_by (is_in_row tasks row) (take index document)) (length settled)) o
      ≡ cond (is_some o) (Some (place_of_event document settled index step)) None
  at_row index step None own is = refl
  at_row index step (Some row) own is = λ i. Some (in_one_row index step row own is i)

  -- an event has its own place, and no other step has one
  event_own : (index : ℕ) → index < length document → event_place tasks document rows (length settled) index ≡ own_place is_event_at place_at index
  event_own index within =
      let step = get_or document index Tick in
      at_row index step (row_of tasks step) (here index Tick within) refl
      ∙ ap (λ (b : Bool). cond b (Some (place_at index)) None)
      (row_is_event tasks step ∙ sym (passes_in is_event document index within))

  -- the first own place from an index on is that which belongs to the step there
  place_own : (own : List (Option ℕ)) (index : ℕ) → own ≡ map (event_place tasks document rows (length settled)) (numbers (length document))
      → place_from own (length settled) index ≡ settled_place document settled index
  unfolding settled_place
  place_own own index is =
      ap (λ (own : List (Option ℕ)). place_from own (length settled) index)
      (is ∙ same_below (event_place tasks document rows (length settled)) (own_place is_event_at place_at) 0 (length document)
      (λ index within. event_own index (omega (arith, within))))
      ∙ first_from is_event_at place_at (length settled) index index 0 (length document) (omega arith)

  -- the places of the document's steps and of its end
  pub document_places : (own : List (Option ℕ)) (places : List ℕ)
      → own ≡ map (event_place tasks document rows (length settled)) (numbers (length document))
      → places ≡ map (place_from own (length settled)) (numbers (suc (length own)))
      → places ≡ map (settled_place document settled) (numbers (suc (length document)))
  document_places own places is are_from =
      let many : length own ≡ length document =
      ap (λ (own : List (Option ℕ)). length own) is ∙ length-map-range_with_len (event_place tasks document rows (length settled)) 0 (length document) in
      are_from
      ∙ ap (λ (n : ℕ). map (place_from own (length settled)) (numbers (suc n))) many
      ∙ same_below (place_from own (length settled)) (settled_place document settled) 0 (suc (length document)) (λ index within. place_own own index is)
