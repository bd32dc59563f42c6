-- What a list of waiting tasks in the order of their wakes keeps when one comes, one goes, or a tick passes, and who is due.
use Rattle.std.proofs.Common.{◌≡◌, ℕ, ◌<◌, Bool, true, false, cond, not, eqb, List, [], ◌∷◌, map, refl, sym, arith}
use Rattle.std.specs.List.{filter, IsDistinct, AllByRecursion}
use Rattle.std.specs.List.Sorted.{IsPermutation}
use Rattle.std.proofs.lemmas.List.Elements.{All-cons}
use Rattle.std.proofs.lemmas.List.Sorted.{All-permutation}
use Rattle.std.proofs.lemmas.Map.Keys.{IsDistinct-head, IsDistinct-cons, IsDistinct-IsPermutation}
use Rattle.std.proofs.lemmas.Bool.Decides.{nat_tests}
use Rattle.bench_types.specs.declared.kernel_data.Delayed.{Delayed}
use Rattle.list_orders.specs.Search.{without, has}
use Rattle.bench_model.specs.Lists.{without_delay, due_tasks}
use Rattle.list_orders.proofs.Filters.{filter-map}
use Rattle.tick_delay.specs.Parts.{is_delayed}
use Rattle.list_orders.specs.Listings.{IsListing}

abbrev pub task_of : Delayed → ℕ
task_of entry = entry.task

abbrev elapsed : Delayed → Bool
elapsed entry = eqb entry.left 0

pub map-cancelled : (task : ℕ) (waiting : List Delayed) → map task_of (without_delay task waiting) ≡ without task (map task_of waiting)
map-cancelled task waiting = sym (filter-map (λ m. not (eqb m task)) task_of waiting)

-- a task that doesn't wait is not among those that wait
pub not_among : (task : ℕ) (waiting : List Delayed) → is_delayed task waiting ≡ false → has task (map task_of waiting) ≡ false
not_among task [] free = refl
not_among task (entry ∷ waiting) free = grind (arith, free, not_among task waiting)

pub none_elapsed : (waiting : List Delayed) → due_tasks waiting ≡ [] → AllByRecursion (λ entry. 0 < entry.left) waiting
unfolding due_tasks
none_elapsed [] none = tt
none_elapsed (entry ∷ waiting) none = at (eqb entry.left 0) refl none (none_elapsed waiting)
  where
    at : (b : Bool) → eqb entry.left 0 ≡ b → map task_of (cond b (entry ∷ filter elapsed waiting) (filter elapsed waiting)) ≡ [] →
        (map task_of (filter elapsed waiting) ≡ [] → AllByRecursion (λ entry. 0 < entry.left) waiting) → (0 < entry.left) × AllByRecursion
        (λ entry. 0 < entry.left) waiting
    at true ends some rest = absurd (cc (some))
    at false left none rest = (grind (arith, nat_tests, left), rest none)

apart_from : (task : ℕ) (tasks : List ℕ) → has task tasks ≡ false → AllByRecursion (λ other. eqb task other ≡ false) tasks
apart_from task [] free = tt
apart_from task (other ∷ tasks) free = (grind (arith, nat_tests, free), apart_from task tasks (grind (arith, free)))

pub listing_more : (n task : ℕ) (tasks : List ℕ) → IsListing n tasks → task < n → has task tasks ≡ false → IsListing n (task ∷ tasks)
listing_more n task tasks listing low free = record {
  below = All-cons (λ i. i < n) task tasks low listing.below;
  once = IsDistinct-cons eqb task tasks (apart_from task tasks free) listing.once;
}

pub listing_permuted : (n : ℕ) (tasks others : List ℕ) → IsPermutation tasks others → IsListing n tasks → IsListing n others
listing_permuted n tasks others permuted listing = record {
  below = All-permutation (λ i. i < n) tasks others permuted listing.below;
  once = IsDistinct-IsPermutation eqb (λ x y. grind (arith, nat_tests)) tasks others permuted listing.once;
}

others_kept : (task : ℕ) (waiting : List Delayed) → AllByRecursion (λ other. eqb task other ≡ false) (map task_of waiting) → without_delay task waiting ≡
    waiting
others_kept task [] apart = refl
others_kept task (entry ∷ waiting) apart = grind (arith, nat_tests, apart.0, others_kept task waiting apart.1)

-- where it has none, it is the first of those that are due
pub first_is_due : (entry : Delayed) (waiting : List Delayed) → IsDistinct eqb (map task_of (entry ∷ waiting)) → eqb entry.left 0 ≡ true → due_tasks
    (entry ∷ waiting) ≡ entry.task ∷ due_tasks (without_delay entry.task (entry ∷ waiting))
unfolding due_tasks
first_is_due entry waiting once ends =
    let rest = others_kept entry.task waiting (IsDistinct-head eqb entry.task (map task_of waiting) once) in
    let itself : eqb entry.task entry.task ≡ true = grind (arith, nat_tests) in
    grind (arith, itself, ends, rest)
