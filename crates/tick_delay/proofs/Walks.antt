-- The waiting tasks one after the other: who stands at a place, and right after it.
use Rattle.std.proofs.Common.{◌≡◌, ◌≢◌, ℕ, zero, suc, ◌+◌, ◌-◌, ◌<◌, ◌≤◌, true, false, cond, not, eqb, List, [], ◌∷◌, ◌++◌, length, map, take, drop, get_or}
use Rattle.std.proofs.Common.{Option, Some, None, option_map, refl, sym, ap, ◌∙◌, inl, inr, length-append, arith}
use Rattle.std.specs.List.{find, IsDistinct}
use Rattle.std.proofs.lemmas.Bool.{cases_lt}
use Rattle.std.proofs.lemmas.Bool.Decides.{nat_tests, Decides-eqb}
use Rattle.std.specs.Option.{option_eq}
use Rattle.std.proofs.lemmas.List.{get_or-map, length-map, drop-map, drop_more, drop_all, take_all, take_more_same, drop-append-le, get_or_append_left}
use Rattle.std.proofs.lemmas.List.{get_or-append_right}
use Rattle.std.proofs.Math.Seq.{drop-append-add}
use Rattle.std.proofs.lemmas.List.Elements.{All-from_recursion}
use Rattle.std.proofs.lemmas.Option.{same_Some}
use Rattle.bench_types.proofs.Equalities.{option_decides}
use Rattle.bench_types.specs.declared.kernel_data.Delayed.{Delayed}
use Rattle.list_orders.specs.Listings.{IsListing}
use Rattle.list_orders.proofs.Listings.{listing_length}
use Rattle.index_lists.specs.Listed.{Listed, items_of, has_item, first_of}
use Rattle.bench_model.specs.Looks.{left_in}
use Rattle.tick_delay.specs.Parts.{first_task}
use Rattle.tick_delay.specs.Shape.{delayed_at}
use Rattle.tick_delay.proofs.Turns.{tasks_seen}
use Rattle.tick_delay.proofs.Waits.{task_of}

abbrev none : Delayed
none = record { task = 0; left = 0 }

-- two numbers that may be there pass no test of being unequal where they are equal
pub same_option : (a b : Option ℕ) → not (option_eq eqb a b) ≡ false → a ≡ b
same_option a b equal = (option_decides Decides-eqb a b).0 (grind (arith, equal))

-- ---- the task at a place
at_place : (ds : List Delayed) (k : ℕ) → k < length ds → first_task (drop k ds) ≡ Some (get_or ds k none).task
at_place ds k within = ap first_task (drop_more ds k none within)

past_end : (ds : List Delayed) (k : ℕ) → length ds ≤ k → first_task (drop k ds) ≡ None
past_end ds k past = ap first_task (drop_all k ds past)

-- where no task stands at the place, the list is at its end
pub ended : (ds : List Delayed) (k : ℕ) → first_task (drop k ds) ≡ None → length ds ≤ k
ended ds k over = elim (cases_lt k (length ds)) [ inl within ↦ absurd (cc (at_place ds k within, over)) | inr past ↦ past ]

pub placed_within : (ds : List Delayed) (k task : ℕ) → first_task (drop k ds) ≡ Some task → k < length ds
placed_within ds k task first = elim (cases_lt k (length ds)) [ inl within ↦ within | inr past ↦ absurd (cc (past_end ds k past, first)) ]

task_at_place : (ds : List Delayed) (k task : ℕ) → first_task (drop k ds) ≡ Some task → (get_or ds k none).task ≡ task
task_at_place ds k task first = same_Some (get_or ds k none).task task (sym (at_place ds k (placed_within ds k task first)) ∙ first)

pub placed_task : (ds : List Delayed) (k task : ℕ) → first_task (drop k ds) ≡ Some task → get_or (map task_of ds) k 0 ≡ task
placed_task ds k task first = get_or-map task_of ds k none 0 (placed_within ds k task first) ∙ task_at_place ds k task first

-- the ticks left of a task at a place are those of the entry there
left_at_place : (ds : List Delayed) (k : ℕ) → k < length ds → IsDistinct eqb (map task_of ds)
    → left_in (get_or ds k none).task ds ≡ Some (get_or ds k none).left
unfolding IsDistinct
left_at_place [] k within once = absurd (omega arith)
left_at_place (d ∷ ds) zero within once =
    let itself : eqb d.task d.task ≡ true = grind (arith, nat_tests) in
    ap (λ b. option_map (λ (e : Delayed). e.left) (cond b (Some d) (find (λ (e : Delayed). eqb e.task d.task) ds))) itself
left_at_place (d ∷ ds) (suc k) within once =
    let low : k < length ds = omega arith in
    let apart : eqb d.task (get_or ds k none).task ≡ false = ap (eqb d.task) (sym (get_or-map task_of ds k none 0 low))
    ∙ All-from_recursion (λ n. eqb d.task n ≡ false) (map task_of ds) once.0 k 0 (omega (arith, length-map ds task_of)) in
    ap (λ b. option_map (λ (e : Delayed). e.left) (cond b (Some d) (find (λ (e : Delayed). eqb e.task (get_or ds k none).task) ds))) apart
    ∙ left_at_place ds k low once.1

same_delay : (a b : Delayed) → a.task ≡ b.task → a.left ≡ b.left → a ≡ b
same_delay a b task left = ap (λ n. record { task = n; left = a.left }) task ∙ ap (λ n. record { task = b.task; left = n }) left

module _ (ds es : List Delayed) (k : ℕ) (so_far : take k ds ≡ take k es) where
  -- the next entry is the same in both where it is one task's with the same ticks left
  pub one_more_same : (n m task : ℕ) → IsListing n (map task_of ds) → IsListing m (map task_of es) → first_task (drop k ds) ≡ Some task
      → first_task (drop k es) ≡ Some task → left_in task ds ≡ left_in task es → take (k + 1) ds ≡ take (k + 1) es
  one_more_same n m task one other first first2 left =
      let within = placed_within ds k task first in
      let within2 = placed_within es k task first2 in
      let here = task_at_place ds k task first in
      let there = task_at_place es k task first2 in
      let lefts : Some (get_or ds k none).left ≡ Some (get_or es k none).left =
      sym (left_at_place ds k within one.once) ∙ ap (λ t. left_in t ds) here ∙ left ∙ ap (λ t. left_in t es) (sym there)
      ∙ left_at_place es k within2 other.once in
      take_more_same ds es k none within within2 so_far
      (same_delay (get_or ds k none) (get_or es k none) (here ∙ sym there) (same_Some (get_or ds k none).left (get_or es k none).left lefts))

  -- two lists that were the same up to the end of both are equal
  pub same_to_end : length ds ≤ k → length es ≤ k → ds ≡ es
  same_to_end past past2 = sym (take_all k ds past) ∙ so_far ∙ take_all k es past2

pub waiting_length : (n : ℕ) (ds : List Delayed) → IsListing n (map task_of ds) → length ds ≤ n
waiting_length n ds listing = omega (arith, length-map ds task_of, listing_length n (map task_of ds) listing)

-- ---- the task after one
first_seen : (tick : ℕ) (xs : List Listed) → first_task (map (delayed_at tick) xs) ≡ first_of xs
first_seen tick [] = refl
first_seen tick (x ∷ xs) = refl

first_nil : (xs : List Listed) → first_of xs ≡ None → xs ≡ []
first_nil [] none = refl
first_nil (x ∷ xs) none = absurd (cc (none))

first_here : (n : ℕ) (xs ys : List Listed) → Some n ≡ first_of xs → Some n ≡ first_of (xs ++ ys)
first_here n [] ys some = absurd (cc (some))
first_here n (x ∷ xs) ys some = some

-- an item at a place of a list stands in the list
has_placed : (task j : ℕ) (xs : List Listed) → j < length xs → get_or (items_of xs) j 0 ≡ task → has_item task xs ≡ true
has_placed task j [] within is = absurd (omega arith)
has_placed task zero (x ∷ xs) within is = grind (arith, nat_tests, is)
has_placed task (suc j) (x ∷ xs) within is = grind (arith, nat_tests, has_placed task j xs (omega arith) is)

-- the task at the place stands in the first of two lists or in the second, and those after it in order
module _ (tick : ℕ) (this next : List Listed) (k task : ℕ) (within : k < length (map (delayed_at tick) (this ++ next)))
    (is : get_or (map task_of (map (delayed_at tick) (this ++ next))) k 0 ≡ task) where
  place : get_or (items_of (this ++ next)) k 0 ≡ task
  place = ap (λ ns. get_or ns k 0) (sym (tasks_seen tick (this ++ next))) ∙ is

  after : first_task (drop (k + 1) (map (delayed_at tick) (this ++ next))) ≡ first_of (drop (k + 1) (this ++ next))
  after = ap first_task (drop-map (delayed_at tick) (k + 1) (this ++ next)) ∙ first_seen tick (drop (k + 1) (this ++ next))

  length_both : length (map (delayed_at tick) (this ++ next)) ≡ length this + length next
  length_both = length-map (this ++ next) (delayed_at tick) ∙ length-append this next

  item_at : (j : ℕ) (xs : List Listed) → j < length xs → get_or (items_of xs) j 0 ≡ (get_or xs j (record { item = 0; key = 0 })).item
  item_at j xs low = get_or-map (λ (e : Listed). e.item) xs j (record { item = 0; key = 0 }) 0 low

  in_this : k < length this → get_or (items_of this) k 0 ≡ task
  in_this low =
      item_at k this low ∙ ap (λ (e : Listed). e.item) (sym (get_or_append_left this next (record { item = 0; key = 0 }) k low))
      ∙ sym (item_at k (this ++ next) (omega (arith, low, length-append this next))) ∙ place

  in_next : length this ≤ k → (k - length this < length next) × (get_or (items_of next) (k - length this) 0 ≡ task)
  in_next past =
      let low : k - length this < length next = omega (arith, past, within, length_both) in (
        low,
        item_at (k - length this) next low ∙ ap (λ (e : Listed). e.item)
            (sym (get_or-append_right this next (length this) k (record { item = 0; key = 0 }) refl past))
            ∙ sym (item_at k (this ++ next) (omega (arith, within, length-map (this ++ next) (delayed_at tick)))) ∙ place,
      )

  after_this : k < length this → first_task (drop (k + 1) (map (delayed_at tick) (this ++ next))) ≡ first_of (drop (k + 1) this ++ next)
  after_this low = after ∙ ap first_of (drop-append-le (k + 1) this next (omega (arith, low)))

  after_next : length this ≤ k → first_task (drop (k + 1) (map (delayed_at tick) (this ++ next))) ≡ first_of (drop ((k - length this) + 1) next)
  after_next past =
      let sum : k + 1 ≡ length this + ((k - length this) + 1) = omega (arith, past) in
      after ∙ ap (λ n. first_of (drop n (this ++ next))) sum ∙ ap first_of (drop-append-add this next ((k - length this) + 1))

  -- another stands after it in its list
  pub next_in_list : (n : ℕ) → ((j : ℕ) → j < length this → get_or (items_of this) j 0 ≡ task → Some n ≡ first_of (drop (j + 1) this))
      → ((j : ℕ) → j < length next → get_or (items_of next) j 0 ≡ task → Some n ≡ first_of (drop (j + 1) next))
      → Some n ≡ first_task (drop (k + 1) (map (delayed_at tick) (this ++ next)))
  next_in_list n here there = elim (cases_lt k (length this)) [
    | inl low ↦ first_here n (drop (k + 1) this) next (here k low (in_this low)) ∙ sym (after_this low)
    | inr past ↦ there (k - length this) (in_next past).0 (in_next past).1 ∙ sym (after_next past)
  ]

  -- it is the last of the first list
  pub next_in_second : ((j : ℕ) → j < length this → get_or (items_of this) j 0 ≡ task → None ≡ first_of (drop (j + 1) this)) → has_item task next ≢ true
      → first_of next ≡ first_task (drop (k + 1) (map (delayed_at tick) (this ++ next)))
  next_in_second here away = elim (cases_lt k (length this)) [
    | inl low ↦ ap (λ xs. first_of (xs ++ next)) (sym (first_nil (drop (k + 1) this) (sym (here k low (in_this low))))) ∙ sym (after_this low)
    | inr past ↦ absurd (away (has_placed task (k - length this) next (in_next past).0 (in_next past).1))
  ]

  -- it is the last of the second list
  pub none_after : ((j : ℕ) → j < length next → get_or (items_of next) j 0 ≡ task → None ≡ first_of (drop (j + 1) next)) → has_item task this ≢ true
      → None ≡ first_task (drop (k + 1) (map (delayed_at tick) (this ++ next)))
  none_after there away = elim (cases_lt k (length this)) [
    | inl low ↦ absurd (away (has_placed task k this low (in_this low)))
    | inr past ↦ there (k - length this) (in_next past).0 (in_next past).1 ∙ sym (after_next past)
  ]
