-- The changes of a family may be made.
use Rattle.std.proofs.Common.{◌≡◌, ℕ, zero, suc, ◌+◌, ◌-◌, ◌%◌, ◌^◌, ◌<◌, ◌≤◌, Bool, true, false, cond, List, [], ◌∷◌, ◌++◌, length, map, flat_map, Option}
use Rattle.std.proofs.Common.{Some, None, refl, sym, subst, arith}
use Rattle.std.specs.Prelude.{All, nat_le, slice_get, option_and_then}
use Rattle.std.specs.List.{cons_option, filter_map, range_with_len, AllByRecursion}
use Rattle.std.proofs.Math.Nat.{mod-eq_of_lt}
use Rattle.std.proofs.Math.Pow.{pow-lt}
use Rattle.std.proofs.lemmas.Bool.Decides.{nat_tests}
use Rattle.std.proofs.lemmas.List.Elements.{All-from_recursion}
use Rattle.std.proofs.lemmas.Nat.{pow_pos}
use Rattle.std.proofs.lemmas.Option.{slice_get_within}
use Rattle.bench_types.specs.declared.step.Step.{Step}
use Rattle.bench_types.specs.Header.{cores_of_mask, IsCheckedHeader}
use Rattle.bench_types.proofs.Passes.{checked_header}
use Rattle.list_orders.specs.Search.{numbers}
use Rattle.list_orders.proofs.Filters.{All-append, All-filter, All-map, All-weaker}
use Rattle.list_orders.proofs.Stamped.{numbers_below, range_all}
use Rattle.run_sources.specs.declared.source.Source.{Source}
use Rattle.run_sources.specs.Sources.{header_of, steps_of}
use Rattle.ranked_changes.specs.declared.change.Change.{Change}
use Rattle.ranked_changes.specs.declared.change.Change.TheVariants as change
use Rattle.ranked_changes.specs.declared.change.Family.{Family}
use Rattle.ranked_changes.specs.Changed.{IsChangeOf, IsUserTask}
use Rattle.ranked_changes.specs.Changes.{all_cores, are_two_tasks, caller, caller_at, changes_of, each_mask, exchange_at, exchange_with, mask_changes, masks_of, next_event, single_masks}
use Rattle.ranked_changes.specs.Changes.{order_changes, other_masks, other_priorities, priority_changes, user_tasks}

-- ---- lists

all_flat_map : {X Y : Type 0} (P : Y → Type 0) (f : X → List Y) (xs : List X) → AllByRecursion (λ x. AllByRecursion P (f x)) xs → AllByRecursion P
    (flat_map f xs)
all_flat_map P f [] all = tt
all_flat_map P f (x ∷ xs) all = All-append P (f x) (flat_map f xs) all.0 (all_flat_map P f xs all.1)

all_filter_map : {X Y : Type 0} (P : Y → Type 0) (h : X → Option Y) (xs : List X) → AllByRecursion (λ x. (y : Y) → h x ≡ Some y → P y) xs → AllByRecursion P
    (filter_map h xs)
all_filter_map P h [] all = tt
all_filter_map P h (x ∷ xs) all = here (h x) refl (all_filter_map P h xs all.1)
  where
    here : (found : Option _) → h x ≡ found → AllByRecursion P (filter_map h xs) → AllByRecursion P (cons_option found (filter_map h xs))
    here None none rest = rest
    here (Some y) some rest = (all.0 y some, rest)

-- ---- tasks

module _ (source : Source) (is : IsCheckedHeader (header_of source)) where
  allowed_priorities : AllByRecursion (IsChangeOf source) (priority_changes (header_of source))
  allowed_priorities = all_flat_map _ _ _ (All-weaker (λ task. IsUserTask (header_of source) task) _ each (user_tasks (header_of source))
      (range_all (header_of source).config.cores (length (header_of source).tasks)))
    where
      each : (task : ℕ) → IsUserTask (header_of source) task → AllByRecursion (IsChangeOf source)
          (map (change.Priority task) (other_priorities (header_of source) task))
      each task user =
          All-map (IsChangeOf source) (change.Priority task) (other_priorities (header_of source) task)
          (All-filter _ _ (numbers (header_of source).config.priorities) (All-weaker (λ priority. priority < (header_of source).config.priorities)
          (λ priority. IsChangeOf source (change.Priority task priority)) (λ priority low. ((user, low), tt)) (numbers (header_of source).config.priorities)
          (numbers_below (header_of source).config.priorities)))

  -- a mask below the power of a number of cores means some core of them
  abbrev pub Fits : ℕ → ℕ → Type 0
  Fits cores mask = (0 < cores_of_mask cores mask) × (mask < 2 ^ 32)

  fits : (cores mask : ℕ) → cores ≤ 32 → 0 < mask → mask < 2 ^ cores → Fits cores mask
  fits cores mask few some low =
      let same : mask % 2 ^ cores ≡ mask = mod-eq_of_lt low in
      (subst (λ n. 0 < n) (sym same) some, wide (32 - cores) (omega (arith, few)))
    where
      wide : (more : ℕ) → cores + more ≡ 32 → mask < 2 ^ 32
      wide zero all = let same : cores ≡ 32 = omega (arith, all) in subst (λ n. mask < 2 ^ n) same low
      wide (suc more) all =
          let below : cores < 32 = omega (arith, all) in
          let less : 2 ^ cores < 2 ^ 32 = pow-lt below in
          omega (arith, less, low)

  singles_fit : (cores : ℕ) → cores ≤ 32 → AllByRecursion (Fits cores) (single_masks cores)
  singles_fit cores few =
      All-map (Fits cores) (λ core. 2 ^ core) (numbers cores) (All-weaker (λ core. core < cores) (λ core. Fits cores (2 ^ core))
      (λ core low. fits cores (2 ^ core) few (pow_pos core) (pow-lt low)) (numbers cores) (numbers_below cores))

  each_fits : (cores : ℕ) → cores ≤ 32 → AllByRecursion (Fits cores) (each_mask cores)
  each_fits cores few = at (nat_le cores 4) refl
    where
      all : 0 < cores → Fits cores (all_cores cores)
      all some =
          let more : 2 ^ 0 < 2 ^ cores = pow-lt some in
          fits cores (all_cores cores) few (omega (arith, more)) (omega (arith, more))

      at : (small : Bool) → nat_le cores 4 ≡ small → AllByRecursion (Fits cores)
          (cond small (range_with_len 1 (all_cores cores)) (single_masks cores ++ all_cores cores ∷ []))
      at true is_small =
          All-weaker (λ mask. (1 ≤ mask) × (mask < 1 + all_cores cores)) (Fits cores)
          (λ mask within. fits cores mask few (omega (arith, within.0)) (omega (arith, within.1, pow_pos cores)))
          (range_with_len 1 (all_cores cores)) (range_all 1 (all_cores cores))
      at false is_large =
          let many : 4 < cores = grind (arith, nat_tests, is_large) in
          All-append (Fits cores) (single_masks cores) (all_cores cores ∷ []) (singles_fit cores few) (all (omega (arith, many)), tt)

  masks_fit : (family : Family) (cores : ℕ) → cores ≤ 32 → AllByRecursion (Fits cores) (masks_of family cores)
  masks_fit family cores few = at family.mask family.pin
    where
      at : (mask pin : Bool) → AllByRecursion (Fits cores) (cond mask (each_mask cores) (cond pin (single_masks cores) []))
      at true pin = each_fits cores few
      at false true = singles_fit cores few
      at false false = tt

  allowed_masks : (family : Family) → AllByRecursion (IsChangeOf source) (mask_changes family (header_of source))
  allowed_masks family = all_flat_map _ _ _ (All-weaker (λ task. IsUserTask (header_of source) task) _ each (user_tasks (header_of source))
      (range_all (header_of source).config.cores (length (header_of source).tasks)))
    where
      each : (task : ℕ) → IsUserTask (header_of source) task → AllByRecursion (IsChangeOf source) (map (change.Mask task) (other_masks family (header_of source) task))
      each task user =
          let few = (checked_header (header_of source) is.passes).few_cores in
          All-map (IsChangeOf source) (change.Mask task) (other_masks family (header_of source) task)
          (All-filter _ _ (masks_of family (header_of source).config.cores) (All-weaker (Fits (header_of source).config.cores)
          (λ mask. IsChangeOf source (change.Mask task mask)) (λ mask fit. ((user, fit.0, fit.1), tt)) (masks_of family (header_of source).config.cores)
          (masks_fit family (header_of source).config.cores few)))

  -- ---- order

  caller_there : (steps : List Step) (place task : ℕ) → caller_at steps place ≡ Some task → place < length steps
  caller_there steps place task calls = at (slice_get steps place) refl calls
    where
      at : (step : Option Step) → slice_get steps place ≡ step → option_and_then caller step ≡ Some task → place < length steps
      at None none is = absurd (cc is)
      at (Some step) some is = slice_get_within steps place step some

  exchange_allowed : (place : ℕ) (made : Change) → exchange_at (steps_of source) place ≡ Some made → IsChangeOf source made
  exchange_allowed place made found = at (next_event (steps_of source) place) found
    where
      steps : List Step
      steps = (steps_of source)

      both : (later : ℕ) (one other : Option ℕ) → caller_at (steps_of source) place ≡ one → caller_at (steps_of source) later ≡ other
          → cond (are_two_tasks one other) (Some (change.Order place later)) None ≡ Some made → IsChangeOf source made
      both later None other first second is = absurd (cc is)
      both later (Some task) None first second is = absurd (cc is)
      both later (Some task) (Some another) first second is =
          elim (are_two_tasks (Some task) (Some another)) as (λ b. cond b (Some (change.Order place later)) None ≡ Some made → IsChangeOf source made) [
            | true ↦ λ same. let this : change.Order place later ≡ made = cc same in
                subst (IsChangeOf source) this (tt, (caller_there (steps_of source) place task first, caller_there (steps_of source) later another second))
            | false ↦ λ same. absurd (cc same)
          ] is

      at : (later : Option ℕ) → option_and_then (exchange_with (steps_of source) place) later ≡ Some made → IsChangeOf source made
      at None is = absurd (cc is)
      at (Some later) is = both later (caller_at (steps_of source) place) (caller_at (steps_of source) later) refl refl is

  allowed_orders : AllByRecursion (IsChangeOf source) (order_changes (steps_of source))
  allowed_orders =
      all_filter_map (IsChangeOf source) (exchange_at (steps_of source)) (numbers (length (steps_of source)))
      (All-weaker (λ place. place < length (steps_of source)) _ (λ place low made found. exchange_allowed place made found) (numbers (length (steps_of source)))
      (numbers_below (length (steps_of source))))

  all_if : (wanted : Bool) (changes : List Change) → AllByRecursion (IsChangeOf source) changes → AllByRecursion (IsChangeOf source) (cond wanted changes [])
  all_if true changes all = all
  all_if false changes all = tt

  pub allowed : (family : Family) → All (IsChangeOf source) (changes_of source family)
  allowed family =
      let P = IsChangeOf source in
      let one = all_if family.priority (priority_changes (header_of source)) allowed_priorities in
      let three = all_if family.order (order_changes (steps_of source)) allowed_orders in
      All-from_recursion P (changes_of source family) (All-append P _ _ (All-append P _ _ one (allowed_masks family)) three)
