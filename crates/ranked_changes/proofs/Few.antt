-- A family has no more changes than a number of 32 bits counts.
use Rattle.std.proofs.Common.{◌≡◌, ℕ, zero, suc, ◌*◌, ◌^◌, ◌<◌, ◌≤◌, Bool, true, false, cond, not, ◌==◌, List, [], ◌∷◌, ◌++◌, length, map, flat_map, Option}
use Rattle.std.proofs.Common.{Some, None, refl, arith, length-append}
use Rattle.std.specs.Prelude.{nat_le}
use Rattle.std.specs.List.{cons_option, filter_map, range_with_len}
use Rattle.std.proofs.Math.Nat.{pow-le-pow_right}
use Rattle.std.proofs.lemmas.Bool.Decides.{nat_tests}
use Rattle.std.proofs.lemmas.List.{length-map}
use Rattle.std.proofs.lemmas.List.FromFn.{length-range_with_len}
use Rattle.bench_types.specs.Header.{cores_of_mask, IsCheckedHeader}
use Rattle.bench_types.specs.Limits.{max_steps}
use Rattle.bench_types.proofs.Passes.{checked_header}
use Rattle.bench_model.specs.Edits.{args_of}
use Rattle.list_orders.specs.Search.{numbers}
use Rattle.list_orders.proofs.Stamped.{length_filter}
use Rattle.run_sources.specs.declared.source.Source.{Source}
use Rattle.run_sources.specs.Sources.{header_of, steps_of}
use Rattle.ranked_changes.specs.declared.change.Change.{Change}
use Rattle.ranked_changes.specs.declared.change.Change.TheVariants as change
use Rattle.ranked_changes.specs.declared.change.Family.{Family}
use Rattle.ranked_changes.specs.Changes.{all_cores, changes_of, each_mask, exchange_at, mask_changes, masks_of, order_changes, other_masks, other_priorities, priority_changes, single_masks}
use Rattle.ranked_changes.specs.Changes.{user_tasks}

-- each of some numbers has so many at most
flat_few : {X : Type 0} (f : ℕ → List X) (most : ℕ) → ((n : ℕ) → length (f n) ≤ most) → (ns : List ℕ) → length (flat_map f ns) ≤ most * length ns
flat_few f most each [] = omega arith
flat_few f most each (n ∷ ns) = omega (arith, length-append (f n) (flat_map f ns), each n, flat_few f most each ns)

filtered_few : {X Y : Type 0} (h : X → Option Y) (xs : List X) → length (filter_map h xs) ≤ length xs
filtered_few h [] = omega arith
filtered_few h (x ∷ xs) =
    elim (h x) as (λ found. length (cons_option found (filter_map h xs)) ≤ suc (length xs)) [
      | None ↦ omega (arith, filtered_few h xs)
      | Some y ↦ omega (arith, filtered_few h xs)
    ]

singles_few : (cores : ℕ) → cores ≤ 32 → length (single_masks cores) ≤ 32
singles_few cores few = omega (arith, length-map (numbers cores) (λ core. 2 ^ core), length-range_with_len 0 cores, few)

each_few : (cores : ℕ) → cores ≤ 32 → length (each_mask cores) ≤ 33
each_few cores few = at (nat_le cores 4) refl
  where
    at : (small : Bool) → nat_le cores 4 ≡ small → length (cond small (range_with_len 1 (all_cores cores)) (single_masks cores ++ all_cores cores ∷ [])) ≤ 33
    at true is_small =
        let low : cores ≤ 4 = grind (arith, nat_tests, is_small) in
        let some : zero < 2 = omega arith in
        let most : 2 ^ cores ≤ 2 ^ 4 = pow-le-pow_right some low in
        omega (arith, length-range_with_len 1 (all_cores cores), most)
    at false is_large = omega (arith, length-append (single_masks cores) (all_cores cores ∷ []), singles_few cores few)

masks_few : (family : Family) (cores : ℕ) → cores ≤ 32 → length (masks_of family cores) ≤ 33
masks_few family cores few = at family.mask family.pin
  where
    at : (mask pin : Bool) → length (cond mask (each_mask cores) (cond pin (single_masks cores) [])) ≤ 33
    at true pin = each_few cores few
    at false true = omega (arith, singles_few cores few)
    at false false = omega arith

if_few : (wanted : Bool) (changes : List Change) (most : ℕ) → length changes ≤ most → length (cond wanted changes []) ≤ most
if_few true changes most few = few
if_few false changes most few = omega arith

module _ (source : Source) (is : IsCheckedHeader (header_of source)) (few : length (steps_of source) ≤ max_steps) where
  tasks_few : length (user_tasks (header_of source)) ≤ 512
  tasks_few = omega (
    arith,
    length-range_with_len (header_of source).config.cores (length (header_of source).tasks),
    (checked_header (header_of source) is.passes).few_tasks,
  )

  priorities_few : length (priority_changes (header_of source)) ≤ 32 * 512
  priorities_few =
      omega (arith, flat_few (λ task. map (change.Priority task) (other_priorities (header_of source) task)) 32 each (user_tasks (header_of source)), tasks_few)
    where
      each : (task : ℕ) → length (map (change.Priority task) (other_priorities (header_of source) task)) ≤ 32
      each task =
          omega (
            arith,
            length-map (other_priorities (header_of source) task) (change.Priority task),
            length_filter (λ priority. not (priority == (args_of (header_of source) task).priority)) (numbers (header_of source).config.priorities),
            length-range_with_len 0 (header_of source).config.priorities,
            (checked_header (header_of source) is.passes).few_priorities,
          )

  other_masks_few : (family : Family) → length (mask_changes family (header_of source)) ≤ 33 * 512
  other_masks_few family = omega (arith, flat_few (λ task. map (change.Mask task) (other_masks family (header_of source) task)) 33 each (user_tasks (header_of source)), tasks_few)
    where
      each : (task : ℕ) → length (map (change.Mask task) (other_masks family (header_of source) task)) ≤ 33
      each task =
          omega (
            arith,
            length-map (other_masks family (header_of source) task) (change.Mask task),
            length_filter (λ mask. not (cores_of_mask (header_of source).config.cores mask == cores_of_mask (header_of source).config.cores
                (args_of (header_of source) task).mask)) (masks_of family (header_of source).config.cores),
            masks_few family (header_of source).config.cores (checked_header (header_of source) is.passes).few_cores,
          )

  orders_few : length (order_changes (steps_of source)) ≤ max_steps
  orders_few = omega (arith, filtered_few (exchange_at (steps_of source)) (numbers (length (steps_of source))), length-range_with_len 0 (length (steps_of source)), few)

  pub changes_few : (family : Family) → length (changes_of source family) < 2 ^ 32
  changes_few family =
      let priorities = cond family.priority (priority_changes (header_of source)) [] in
      let masks = mask_changes family (header_of source) in
      let orders = cond family.order (order_changes (steps_of source)) [] in
      omega (
        arith,
        length-append (priorities ++ masks) orders,
        length-append priorities masks,
        if_few family.priority (priority_changes (header_of source)) (32 * 512) priorities_few,
        other_masks_few family,
        if_few family.order (order_changes (steps_of source)) max_steps orders_few,
      )
