-- Which tasks are ready and on no core, as tasks come to their ready lists and leave them.
use Rattle.std.proofs.Common.{◌≡◌, ℕ, ◌<◌, Bool, true, false, not, eqb, ◌&&◌, ◌||◌, List, length, map, replicate, get_or, refl, sym, ap, subst, ◌∙◌, arith, inl}
use Rattle.std.proofs.Common.{inr}
use Rattle.std.specs.Prelude.{slice_set}
use Rattle.std.proofs.lemmas.Bool.{cases_eq}
use Rattle.std.proofs.lemmas.Bool.Decides.{nat_tests}
use Rattle.std.proofs.lemmas.List.{ext_get_or, length-set, length-replicate, get_or-replicate, get_or-set_same, get_or-set_other}
use Rattle.std.proofs.lemmas.List.FromFn.{get_or-map-range_with_len, length-map-range_with_len}
use Rattle.list_orders.specs.Search.{numbers, has, placed, without}
use Rattle.list_orders.proofs.Filters.{has-filter}
use Rattle.list_orders.proofs.Ranks.{list_any-placed}
use Rattle.index_lists.specs.Listed.{ListsView, empty_lists}
use Rattle.bench_model.specs.Control.{Control, current}
use Rattle.bench_model.specs.Tally.{is_current}
use Rattle.ready_core.specs.Fields.{has_seat, is_set, ready_below}
use Rattle.ready_core.specs.Shape.{IsFlagged}
use Rattle.ready_core.proofs.Firsts.{none_ready}
use Rattle.ready_core.proofs.Seats.{some_bit}

module _ (priorities : ℕ) (view : ListsView) (seats : List ℕ) (waiting : List Bool) (flags : IsFlagged priorities view seats waiting) where
  abbrev is_listed : ℕ → Bool
  is_listed t = has t (ready_below view.lists priorities)

  abbrev free : ℕ → Bool
  free t = eqb (get_or seats t 0) 0

  -- the same tasks are ready
  pub flags_kept : (other : ListsView) → ((s : ℕ) → has s (ready_below other.lists priorities) ≡ is_listed s) → IsFlagged priorities other seats waiting
  flags_kept other same = record { sized = flags.sized; at_task = λ s low. flags.at_task s low ∙ ap (λ b. b && free s) (sym (same s)) }

  -- one more task is ready
  pub flags_pushed : (t seat : ℕ) (other : ListsView) → seat ≡ get_or seats t 0 → t < length seats →
      ((s : ℕ) → has s (ready_below other.lists priorities) ≡ (eqb t s || is_listed s)) → IsFlagged priorities other seats (slice_set waiting t (eqb seat 0))
  flags_pushed t seat other is low more = record {
    sized = length-set waiting t (eqb seat 0) ∙ flags.sized;
    at_task = λ s under. elim (cases_eq s t) [
      | inl here ↦ subst (λ m. get_or (slice_set waiting t (eqb seat 0)) m false ≡ (has m (ready_below other.lists priorities) && free m)) (sym here)
          (get_or-set_same waiting t (eqb seat 0) false (omega (arith, low, flags.sized)) ∙ ap (λ n. eqb n 0) is ∙ grind (arith, nat_tests, more t))
      | inr away ↦ get_or-set_other waiting t s (eqb seat 0) false away ∙ flags.at_task s under ∙ grind (arith, nat_tests, more s, away)
    ];
  }

  -- a task is ready no more
  pub flags_left : (t : ℕ) (other : ListsView) → t < length seats → ((s : ℕ) → has s (ready_below other.lists priorities) ≡ (not (eqb s t) && is_listed s)) →
      IsFlagged priorities other seats (slice_set waiting t false)
  flags_left t other low fewer = record {
    sized = length-set waiting t false ∙ flags.sized;
    at_task = λ s under. elim (cases_eq s t) [
      | inl here ↦ subst (λ m. get_or (slice_set waiting t false) m false ≡ (has m (ready_below other.lists priorities) && free m)) (sym here)
          (get_or-set_same waiting t false false (omega (arith, low, flags.sized)) ∙ grind (arith, nat_tests, fewer t))
      | inr away ↦ get_or-set_other waiting t s false false away ∙ flags.at_task s under ∙ grind (arith, nat_tests, fewer s, away)
    ];
  }

  -- a task has a core less, and another one more
  pub flags_run : (left task fewer more : ℕ) (ready : Bool) → left < length seats → task < length seats → ready ≡ is_listed left → eqb more 0 ≡ false
      → IsFlagged priorities view (slice_set (slice_set seats left fewer) task more) (slice_set (slice_set waiting left (ready && eqb fewer 0)) task false)
  flags_run left task fewer more ready low below is some = record {
    sized = length-set (slice_set waiting left (ready && eqb fewer 0)) task false ∙ length-set waiting left (ready && eqb fewer 0) ∙ flags.sized ∙ sym seated;
    at_task = λ s under. elim (cases_eq s task) [
      | inl here ↦ subst At (sym here)
          (get_or-set_same (slice_set waiting left (ready && eqb fewer 0)) task false false
          (omega (arith, below, flags.sized, length-set waiting left (ready && eqb fewer 0)))
          ∙ off (is_listed task) ∙ ap (λ n. is_listed task && eqb n 0) (sym
          (get_or-set_same (slice_set seats left fewer) task more 0 (omega (arith, below, length-set seats left fewer)))))
      | inr away ↦
          get_or-set_other (slice_set waiting left (ready && eqb fewer 0)) task s false false away
          ∙ elim (cases_eq s left) [
            | inl same ↦ subst (λ m. get_or (slice_set waiting left (ready && eqb fewer 0)) m false ≡
                (is_listed m && eqb (get_or (slice_set seats left fewer) m 0) 0)) (sym same)
                (get_or-set_same waiting left (ready && eqb fewer 0) false (omega (arith, low, flags.sized)) ∙ ap (λ b. b && eqb fewer 0) is ∙ ap
                (λ n. is_listed left && eqb n 0) (sym (get_or-set_same seats left fewer 0 low)))
            | inr other ↦ get_or-set_other waiting left s (ready && eqb fewer 0) false other ∙ flags.at_task s (omega (arith, under, seated)) ∙ ap
                (λ n. is_listed s && eqb n 0) (sym (get_or-set_other seats left s fewer 0 other))
          ]
          ∙ ap (λ n. is_listed s && eqb n 0) (sym (get_or-set_other (slice_set seats left fewer) task s more 0 away))
    ];
  }
    where
      seated : length (slice_set (slice_set seats left fewer) task more) ≡ length seats
      seated = length-set (slice_set seats left fewer) task more ∙ length-set seats left fewer

      At : ℕ → Type 0
      At m = get_or (slice_set (slice_set waiting left (ready && eqb fewer 0)) task false) m false ≡
          (is_listed m && eqb (get_or (slice_set (slice_set seats left fewer) task more) m 0) 0)

      off : (b : Bool) → false ≡ (b && eqb more 0)
      off true = sym some
      off false = refl

  -- the flags, task by task
  pub flags_shown : (control : Control) (ready : List ℕ) → ready_below view.lists priorities ≡ ready → length seats ≡ length control.tasks →
      ((t : ℕ) → t < length seats → (core : ℕ) → is_set (get_or seats t 0) core ≡ has_seat control t core)
      → waiting ≡ map (λ t. has t ready && not (is_current control t)) (numbers (length control.tasks))
  flags_shown control ready is sized seated = ext_get_or false waiting (map shown (numbers (length control.tasks)))
      (flags.sized ∙ sized ∙ sym (length-map-range_with_len shown 0 (length control.tasks)))
      (λ t low. let under : t < length seats = omega (arith, low, flags.sized) in
      flags.at_task t under ∙ ap (λ (xs : List ℕ). has t xs && free t) is
      ∙ ap (λ b. has t ready && b) (turned (free t) (some_bit (get_or seats t 0) (length control.cores) (λ core. eqb (current control core) t)
      (seated t under)))
      ∙ sym (get_or-map-range_with_len shown 0 (length control.tasks) t t false (omega (arith, under, sized)) (omega arith)))
    where
      shown : ℕ → Bool
      shown t = has t ready && not (is_current control t)

      turned : {b : Bool} (a : Bool) → not a ≡ b → a ≡ not b
      turned a same = grind (arith, same)

-- no task is ready
pub first_flags : (priorities items : ℕ) (seats : List ℕ) → length seats ≡ items → IsFlagged priorities (empty_lists items priorities) seats
    (replicate items false)
first_flags priorities items seats sized = record {
  sized = length-replicate items false ∙ sym sized;
  at_task = λ t low. get_or-replicate items t false false (omega (arith, low, sized)) ∙ ap (λ (xs : List ℕ). has t xs && eqb (get_or seats t 0) 0)
      (sym (none_ready priorities priorities));
}

-- a task that goes to the end of its list is ready before and after
pub has_placed_again : (front : ℕ → ℕ → Bool) (t s : ℕ) (xs : List ℕ) → has t xs ≡ true → has s (placed front t (without t xs)) ≡ has s xs
has_placed_again front t s xs there = elim (cases_eq s t) [
  | inl here ↦ list_any-placed front (λ m. eqb m s) t (without t xs) ∙ subst (λ m. (eqb t m || has m (without t xs)) ≡ has m xs) (sym here)
      (grind (arith, nat_tests, there))
  | inr away ↦ list_any-placed front (λ m. eqb m s) t (without t xs) ∙ grind (arith, nat_tests, away, has-filter (λ m. not (eqb m t)) s xs)
]
