-- The places of a run's steps, one step after another.
use Rattle.std.proofs.Common.{◌≡◌, ℕ, zero, suc, ◌+◌, ◌<◌, ◌≤◌, Bool, false, cond, eqb, List, [], ◌∷◌, ◌++◌, length, map, take, get_or, Option, Some, None, refl, sym, ap, ◌∙◌, arith}
use Rattle.std.specs.Prelude.{slice_get, slice_index_or, slice_set}
use Rattle.std.specs.List.{filter, range_with_len}
use Rattle.std.specs.Option.{option_map_or}
use Rattle.std.proofs.lemmas.List.{append-nil, length-append, length-set, length-take-le, take_more}
use Rattle.std.proofs.lemmas.List.Elements.{filter-append}
use Rattle.bench_types.specs.declared.step.Step.{Step}
use Rattle.list_orders.specs.Search.{numbers}
use Rattle.list_orders.proofs.Stamped.{numbers_more}
use Rattle.kept_runs.specs.Items.{passes_at, places_of}
use Rattle.kept_works.specs.Places.{is_in_row, row_of, AreRowsOf}
use Rattle.kept_works.specs.Rows.{row_at}
use Rattle.kept_works.proofs.Loops.{row_put}

filter_one : (p q : ℕ → Bool) (n : ℕ) → p n ≡ q n → filter p (n ∷ []) ≡ filter q (n ∷ [])
filter_one p q n same = ap (λ (b : Bool). cond b (n ∷ []) []) same

pub same_filter : (p q : ℕ → Bool) (n : ℕ) → ((k : ℕ) → k < n → p k ≡ q k) → filter p (numbers n) ≡ filter q (numbers n)
same_filter p q zero same = refl
same_filter p q (suc n) same =
    let is : suc n ≡ n + 1 = omega arith in
    ap (λ (n : ℕ). filter p (numbers n)) is ∙ ap (filter p) (numbers_more n) ∙ filter-append p (numbers n) (n ∷ [])
    ∙ (λ i. same_filter p q n (λ k below. same k (omega arith)) i ++ filter_one p q n (same n (omega arith)) i)
    ∙ sym (ap (λ (n : ℕ). filter q (numbers n)) is ∙ ap (filter q) (numbers_more n) ∙ filter-append q (numbers n) (n ∷ []))

got_before : (run : List Step) (step : Step) (k : ℕ) → k < length run → slice_get (run ++ step ∷ []) k ≡ slice_get run k
got_before [] step k within = absurd (omega arith)
got_before (one ∷ run) step zero within = refl
got_before (one ∷ run) step (suc k) within = got_before run step k (omega arith)

got_last : (test : Step → Bool) (run : List Step) (step : Step) → passes_at test (run ++ step ∷ []) (length run) ≡ test step
got_last test [] step = refl
got_last test (one ∷ run) step = got_last test run step

-- the place of a step more comes last, if it passes
pub places_more : (test : Step → Bool) (run : List Step) (step : Step)
    → places_of test (run ++ step ∷ []) ≡ places_of test run ++ cond (test step) (length run ∷ []) []
places_more test run step =
    ap (λ (n : ℕ). filter (passes_at test (run ++ step ∷ [])) (numbers n)) (length-append run (step ∷ []))
    ∙ ap (filter (passes_at test (run ++ step ∷ []))) (numbers_more (length run))
    ∙ filter-append (passes_at test (run ++ step ∷ [])) (numbers (length run)) (length run ∷ [])
    ∙ (λ i. same_filter (passes_at test (run ++ step ∷ [])) (passes_at test run) (length run)
    (λ k within. ap (λ (o : Option Step). option_map_or test o false) (got_before run step k within)) i
    ++ cond (got_last test run step i) (length run ∷ []) [])

-- a list that has at each index what a function says
pub each_from : (f : ℕ → ℕ) (e first n : ℕ) (xs : List ℕ) → length xs ≡ n → ((k : ℕ) → k < n → slice_index_or xs k e ≡ f (first + k))
    → xs ≡ map f (range_with_len first n)
each_from f e first zero [] many same = refl
each_from f e first zero (x ∷ xs) many same = absurd (omega (arith, many))
each_from f e first (suc n) [] many same = absurd (omega (arith, many))
each_from f e first (suc n) (x ∷ xs) many same =
    let here : first + 0 ≡ first = omega arith in
    let rest : length xs ≡ n = omega (arith, many) in
    let head : x ≡ f first = same 0 (omega arith) ∙ ap f here in
    let tail : xs ≡ map f (range_with_len (first + 1) n) =
    each_from f e (first + 1) n xs rest
    (λ k within. same (suc k) (omega arith) ∙ ap f (let next : first + suc k ≡ first + 1 + k = omega arith in next)) in
    ap (λ (y : ℕ). y ∷ xs) head ∙ ap (λ (ys : List ℕ). f first ∷ ys) tail

-- the places of a step more of a run
places_on : (test : Step → Bool) (run : List Step) (place : ℕ) (d : Step) → place < length run
    → places_of test (take (place + 1) run) ≡ places_of test (take place run) ++ cond (test (get_or run place d)) (place ∷ []) []
places_on test run place d within =
    ap (places_of test) (take_more run place d within)
    ∙ places_more test (take place run) (get_or run place d)
    ∙ ap (λ (n : ℕ). places_of test (take place run) ++ cond (test (get_or run place d)) (n ∷ []) []) (length-take-le place run (omega arith))

module _ (tasks : ℕ) (run : List Step) (place : ℕ) (d : Step) (within : place < length run) where
  in_rows : (o : Option ℕ) (row : ℕ) → row_of tasks (get_or run place d) ≡ o
      → places_of (is_in_row tasks row) (take (place + 1) run)
      ≡ places_of (is_in_row tasks row) (take place run) ++ cond (option_map_or (λ (own : ℕ). eqb own row) o false) (place ∷ []) []
  in_rows o row is =
      places_on (is_in_row tasks row) run place d within
      ∙ ap (λ (o : Option ℕ). places_of (is_in_row tasks row) (take place run) ++ cond (option_map_or (λ (own : ℕ). eqb own row) o false) (place ∷ []) []) is

  -- a step that is in a row is put behind those of the row
  pub rows_on : (rows : List (List ℕ)) (row : ℕ) → row_of tasks (get_or run place d) ≡ Some row → row ≤ tasks → AreRowsOf tasks (take place run) rows
      → AreRowsOf tasks (take (place + 1) run) (slice_set rows row (row_at rows row ++ place ∷ []))
  rows_on rows row is low are = record {
    many = length-set rows row (row_at rows row ++ place ∷ []) ∙ are.many;
    each = λ other within.
        row_put rows row other place (omega (arith, low, are.many))
        ∙ ap (λ (places : List ℕ). places ++ cond (eqb row other) (place ∷ []) []) (are.each other within)
        ∙ sym (in_rows (Some row) other is);
  }

  -- one that is in none changes nothing
  pub rows_pass : (rows : List (List ℕ)) → row_of tasks (get_or run place d) ≡ None → AreRowsOf tasks (take place run) rows → AreRowsOf tasks (take (place + 1) run) rows
  rows_pass rows is are = record {
    many = are.many;
    each = λ other within.
        are.each other within ∙ sym (append-nil (places_of (is_in_row tasks other) (take place run))) ∙ sym (in_rows None other is);
  }
