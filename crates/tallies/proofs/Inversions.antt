-- Inverted waits, counted priority by priority and along each ready list.
use Rattle.std.proofs.Common.{◌≡◌, ℕ, zero, suc, ◌+◌, ◌-◌, ◌<◌, ◌≤◌, ◌^◌, Bool, true, false, cond, not, ◌&&◌, ◌||◌, eqb, nat_lt, List, [], ◌∷◌, length, map}
use Rattle.std.proofs.Common.{take, get_or, Some, None, refl, sym, ap, subst, ◌∙◌, arith, inl, inr}
use Rattle.std.specs.Prelude.{nat_le, slice_get, slice_set}
use Rattle.std.specs.List.{AllByRecursion, IsDistinct}
use Rattle.std.proofs.lemmas.Bool.{cases_eq, cases_lt}
use Rattle.std.proofs.lemmas.Bool.Decides.{nat_tests}
use Rattle.std.proofs.lemmas.List.{ext_get_or, length-set, get_or-set_same, get_or-set_other, take_more, take_all}
use Rattle.std.proofs.lemmas.Option.{get_or_from_slice_get, slice_get_within, slice_get_cases}
use Rattle.list_orders.specs.Listings.{IsListing}
use Rattle.list_orders.specs.Search.{numbers, has}
use Rattle.list_orders.proofs.Filters.{has-filter, list_any-append}
use Rattle.bench_model.specs.Control.{Control, task_at, is_idle}
use Rattle.bench_model.specs.Seek.{effective}
use Rattle.bench_model.specs.Lists.{View, is_ready}
use Rattle.bench_model.specs.Tally.{TaskTally, is_current, outranks_some}
use Rattle.bench_model.specs.Tallied.{one_if, tally_at}
use Rattle.session_laws.proofs.Tallies.{each_at, length_each, numbers_so, own_items}
use Rattle.ready_core.specs.Fields.{has_priority}
use Rattle.smp_kernel.specs.Kernel.{ready_list, wants_core, StandsForSome}
use Rattle.tallies.specs.Counting.{inverted, inverted_in, is_inverted, with_inversion}
use Rattle.tallies.proofs.Additions.{nothing}
use Rattle.tallies.proofs.TickCounts.{same_counts}

-- ---- along one list

-- an item at a place is there, and in no earlier place of a list of distinct numbers
item_there : (xs : List ℕ) (k x : ℕ) → slice_get xs k ≡ Some x → has x xs ≡ true
item_there [] k x is = absurd (cc (is))
item_there (y ∷ xs) zero x is = let same : y ≡ x = cc (is) in grind (arith, nat_tests, same)
item_there (y ∷ xs) (suc k) x is = grind (arith, item_there xs k x is)

all_at : (P : ℕ → Type 0) (xs : List ℕ) (k x : ℕ) → AllByRecursion P xs → slice_get xs k ≡ Some x → P x
all_at P [] k x all is = absurd (cc (is))
all_at P (y ∷ xs) zero x all is = let same : y ≡ x = cc (is) in subst P same all.0
all_at P (y ∷ xs) (suc k) x all is = all_at P xs k x all.1 is

not_before : (xs : List ℕ) (k x : ℕ) → IsDistinct eqb xs → slice_get xs k ≡ Some x → has x (take k xs) ≡ false
unfolding IsDistinct
not_before [] k x once is = absurd (cc (is))
not_before (y ∷ xs) zero x once is = refl
not_before (y ∷ xs) (suc k) x once is =
    let apart : eqb y x ≡ false = all_at (λ z. eqb y z ≡ false) xs k x once.0 is in
    grind (arith, apart, not_before xs k x once.1 is)

has_more : (xs : List ℕ) (k x t : ℕ) → slice_get xs k ≡ Some x → has t (take (k + 1) xs) ≡ (has t (take k xs) || eqb x t)
has_more xs k x t is =
    ap (has t) (take_more xs k 0 (slice_get_within xs k x is)) ∙ list_any-append (λ m. eqb m t) (take k xs) (get_or xs k 0 ∷ [])
    ∙ ap (λ n. has t (take k xs) || (eqb n t || false)) (get_or_from_slice_get xs k x 0 is) ∙ grind arith

-- two ticks that are not both counted, as one
twice : (a b c : Bool) (tally : TaskTally) → one_if a + one_if b ≡ one_if c → with_inversion b (with_inversion a tally) ≡ with_inversion c tally
twice a b c tally sum = same_counts refl refl (omega (arith, sum))

none_added : (tally : TaskTally) → with_inversion false tally ≡ tally
none_added tally = same_counts refl refl (omega arith)

module _ (before : View) where
  abbrev rank : ℕ → ℕ
  rank task = (task_at before.control task).in_use

  -- the tasks at the first places of a ready list are counted
  pub record IsAlong (priority : ℕ) (old : List TaskTally) (place : ℕ) (now : List TaskTally) : Type 0 where
    pub size : length now ≡ length old
    pub each : (t : ℕ) → t < length old → tally_at now t ≡ with_inversion (has t (take place (ready_list before priority)) && is_inverted before t)
        (tally_at old t)

  pub along_first : (priority : ℕ) (old : List TaskTally) → IsAlong priority old 0 old
  along_first priority old = record { size = refl; each = λ t low. sym (none_added (tally_at old t)) }

  -- a task of the list is ready and has its priority
  pub of_list : (priority place task : ℕ) → slice_get (ready_list before priority) place ≡ Some task → (has_priority before.control priority task ≡ true) ×
      (is_ready task before.orders ≡ true)
  of_list priority place task is =
      let there = sym (has-filter (has_priority before.control priority) task before.orders.ready) ∙ item_there (ready_list before priority) place task is in
      (grind (arith, there), grind (arith, there))

  module _ (priority : ℕ) (old now : List TaskTally) (place task : ℕ) (along : IsAlong priority old place now) (tasks : ℕ)
      (listing : IsListing tasks (ready_list before priority)) (is : slice_get (ready_list before priority) place ≡ Some task) where
    -- the task there was not counted yet
    pub along_here : task < length old → tally_at now task ≡ tally_at old task
    along_here low =
        along.each task low ∙ ap (λ b. with_inversion (b && is_inverted before task) (tally_at old task))
        (not_before (ready_list before priority) place task listing.once is) ∙ none_added (tally_at old task)

    pub along_more : task < length old → IsAlong priority old (place + 1) (slice_set now task (with_inversion (is_inverted before task) (tally_at now task)))
    along_more low = let after = with_inversion (is_inverted before task) (tally_at now task) in record {
      size = length-set now task after ∙ along.size;
      each = λ t under. elim (cases_eq t task) [
        | inl here ↦ subst (λ m. get_or (slice_set now task after) m nothing ≡ with_inversion
            (has m (take (place + 1) (ready_list before priority)) && is_inverted before m) (tally_at old m)) (sym here)
            (get_or-set_same now task after nothing (omega (arith, low, along.size)) ∙ ap (with_inversion (is_inverted before task)) (along_here low) ∙ ap
            (λ b. with_inversion (b && is_inverted before task) (tally_at old task)) (sym counted))
        | inr away ↦
            get_or-set_other now task t after nothing away ∙ along.each t under
            ∙ ap (λ b. with_inversion (b && is_inverted before t) (tally_at old t))
            (sym (has_more (ready_list before priority) place task t is ∙ grind (arith, nat_tests, away)))
      ];
    }
      where
        counted : has task (take (place + 1) (ready_list before priority)) ≡ true
        counted = has_more (ready_list before priority) place task task is ∙ grind (arith, nat_tests)

  -- the list is at its end
  pub along_all : (priority : ℕ) (old now : List TaskTally) (place : ℕ) → IsAlong priority old place now → length (ready_list before priority) ≤ place → now ≡
      inverted_in before priority old
  unfolding inverted_in
  along_all priority old now place along past =
      ext_get_or nothing now (map counted (numbers (length old))) (along.size ∙ sym (length_each counted (length old)))
      (λ t low.
      let under : t < length old = omega (arith, low, along.size) in
      along.each t under ∙ ap (λ xs. with_inversion (has t xs && is_inverted before t) (tally_at old t)) (take_all place (ready_list before priority) past)
      ∙ ap (λ b. with_inversion b (tally_at old t)) (ap (λ b. b && is_inverted before t)
      (has-filter (has_priority before.control priority) t before.orders.ready) ∙ ready_twice (has_priority before.control priority t)
      (is_ready t before.orders) (is_current before.control t) (outranks_some before.control t))
      ∙ sym (each_at counted (length old) t nothing under))
    where
      counted : ℕ → TaskTally
      counted t = with_inversion (has_priority before.control priority t && is_inverted before t) (tally_at old t)

      ready_twice : (home ready current outranks : Bool) → ((home && ready) && ((ready && not current) && outranks)) ≡
          (home && ((ready && not current) && outranks))
      ready_twice true ready current outranks = grind arith
      ready_twice false ready current outranks = refl

  -- ---- priority by priority

  abbrev is_between : ℕ → ℕ → ℕ → Bool
  is_between from upto task = nat_le from (rank task) && nat_lt (rank task) upto

  -- the tasks of priorities from one on, and below another, are counted
  abbrev pub inverted_upto : ℕ → ℕ → List TaskTally → List TaskTally
  inverted_upto from upto old = map (λ t. with_inversion (is_between from upto t && is_inverted before t) (tally_at old t)) (numbers (length old))

  pub length_upto : (from upto : ℕ) (old : List TaskTally) → length (inverted_upto from upto old) ≡ length old
  length_upto from upto old = length_each (λ t. with_inversion (is_between from upto t && is_inverted before t) (tally_at old t)) (length old)

  upto_at : (from upto : ℕ) (old : List TaskTally) (t : ℕ) → t < length old → tally_at (inverted_upto from upto old) t ≡ with_inversion
      (is_between from upto t && is_inverted before t) (tally_at old t)
  upto_at from upto old t low = each_at (λ t. with_inversion (is_between from upto t && is_inverted before t) (tally_at old t)) (length old) t nothing low

  pub upto_none : (from : ℕ) (old : List TaskTally) → old ≡ inverted_upto from from old
  upto_none from old =
      sym (numbers_so (λ t. with_inversion (is_between from from t && is_inverted before t) (tally_at old t)) (tally_at old) (length old) (length old) refl
      (λ t low. ap (λ b. with_inversion (b && is_inverted before t) (tally_at old t)) (empty from (rank t)) ∙ none_added (tally_at old t))
      ∙ own_items old nothing)
    where
      empty : (from r : ℕ) → (nat_le from r && nat_lt r from) ≡ false
      empty from r = grind (arith, nat_tests)

  -- a task of the next priority was not counted yet
  pub upto_room : (from upto : ℕ) (old : List TaskTally) (t : ℕ) → t < length old → has_priority before.control upto t ≡ true → (tally_at old t).counts.inverted
      < 2 ^ 32 - 1 → (tally_at (inverted_upto from upto old) t).counts.inverted < 2 ^ 32 - 1
  upto_room from upto old t low home room =
      let apart : is_between from upto t ≡ false = grind (arith, nat_tests, home) in
      let same = upto_at from upto old t low ∙ ap (λ b. with_inversion (b && is_inverted before t) (tally_at old t)) apart ∙ none_added (tally_at old t) in
      subst (λ (x : TaskTally). x.counts.inverted < 2 ^ 32 - 1) (sym same) room

  pub upto_more : (from upto : ℕ) (old : List TaskTally) → from ≤ upto → inverted_in before upto (inverted_upto from upto old) ≡ inverted_upto from (upto + 1)
      old
  unfolding inverted_in
  upto_more from upto old order =
      let mid = inverted_upto from upto old in
      numbers_so (λ t. with_inversion (has_priority before.control upto t && is_inverted before t) (tally_at mid t))
      (λ t. with_inversion (is_between from (upto + 1) t && is_inverted before t) (tally_at old t)) (length mid) (length old) (length_upto from upto old)
      (λ t low.
      ap (with_inversion (has_priority before.control upto t && is_inverted before t)) (upto_at from upto old t (omega (arith, low, length_upto from upto old)))
      ∙ twice (is_between from upto t && is_inverted before t) (has_priority before.control upto t && is_inverted before t)
      (is_between from (upto + 1) t && is_inverted before t) (tally_at old t) (parts (rank t) (is_inverted before t)))
    where
      parts : (r : ℕ) (b : Bool) → one_if ((nat_le from r && nat_lt r upto) && b) + one_if (eqb r upto && b) ≡ one_if
          ((nat_le from r && nat_lt r (upto + 1)) && b)
      parts r true = grind (arith, nat_tests, order)
      parts r false = grind (arith, nat_tests)

  -- all priorities that count are counted
  pub upto_all : (from upto : ℕ) (old : List TaskTally) → ((t : ℕ) → t < length old → rank t < upto) →
      ((t : ℕ) → t < length old → rank t < from → false ≡ outranks_some before.control t) → inverted_upto from upto old ≡ inverted before old
  unfolding inverted
  upto_all from upto old below none =
      numbers_so (λ t. with_inversion (is_between from upto t && is_inverted before t) (tally_at old t))
      (λ t. with_inversion (is_inverted before t) (tally_at old t)) (length old) (length old) refl
      (λ t low. ap (λ b. with_inversion b (tally_at old t)) (elim (cases_lt (rank t) from) [
        | inl under ↦ lower (is_between from upto t) (wants_core before t) (outranks_some before.control t) (none t low under)
        | inr over ↦ let all : is_between from upto t ≡ true = grind (arith, nat_tests, over, below t low) in ap (λ b. b && is_inverted before t) all
      ]))
    where
      lower : (a b c : Bool) → false ≡ c → (a && (b && c)) ≡ (b && c)
      lower a b c off = grind (arith, off)

-- nothing stands at or after a place where nothing stands
pub ends_there : (xs : List ℕ) (k : ℕ) → slice_get xs k ≡ None → length xs ≤ k
ends_there xs k none = elim (slice_get_cases xs k).1 [
  | inl there ↦ absurd (cc (none, there.2))
  | inr past ↦ past.0
]

-- a priority in use is one that there is
pub rank_low : (view : View) → StandsForSome view → (t : ℕ) → t < view.settings.tasks → (task_at view.control t).in_use < view.settings.priorities
rank_low view some t low =
    subst (λ (v : View). (task_at v.control t).in_use < v.settings.priorities) some.1.shows
    (some.1.sound.consistent.blocks t (omega (arith, low, ap (λ (v : View). v.settings.tasks) some.1.shows))).in_use

pub effective_low : (control : Control) (t : ℕ) → effective control t ≤ (task_at control t).in_use + 1
effective_low control t = at (is_idle control t)
  where
    at : (b : Bool) → cond b 0 (suc (task_at control t).in_use) ≤ (task_at control t).in_use + 1
    at true = omega arith
    at false = omega arith
