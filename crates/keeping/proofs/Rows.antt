-- What is not made, and the first calls of it.
use Rattle.std.proofs.Common.{◌≡◌, ◌≢◌, ℕ, zero, suc, ◌+◌, ◌<◌, ◌≤◌, Bool, true, false, cond, not, eqb, leb, ◌&&◌, List, [], ◌∷◌, length, map, refl, sym, ap, subst, ◌∙◌, inl, inr, arith}
use Rattle.std.specs.Prelude.{slice_index, slice_set}
use Rattle.std.specs.List.{filter, range_with_len, AllByRecursion}
use Rattle.std.proofs.lemmas.Bool.{cases_eq, cases_lt}
use Rattle.std.proofs.lemmas.Bool.Decides.{nat_tests}
use Rattle.std.proofs.lemmas.List.{get_or-set_same, get_or-set_other, length-set}
use Rattle.kept_runs.specs.declared.works.Unmade.{Unmade}
use Rattle.kept_runs.specs.Rule.{firsts, without_first}
use Rattle.kept_runs.proofs.Firsts.{firsts_all}
use Rattle.keeping.specs.Queues.{call_at, is_of, is_unmade, unmade_in, AreInRows, IsNext}

-- ---- filters

pub filter_two : {X : Type 0} (q p r : X → Bool) (xs : List X) → AllByRecursion (λ x. (q x && p x) ≡ r x) xs → filter p (filter q xs) ≡ filter r xs
filter_two q p r [] same = refl
filter_two q p r (x ∷ xs) same = at (q x) same.0 (filter_two q p r xs same.1)
  where
    at : (b : Bool) → (b && p x) ≡ r x → filter p (filter q xs) ≡ filter r xs
        → filter p (cond b (x ∷ filter q xs) (filter q xs)) ≡ cond (r x) (x ∷ filter r xs) (filter r xs)
    at true is rest = λ i. cond (is i) (x ∷ rest i) (rest i)
    at false is rest = rest ∙ ap (λ b. cond b (x ∷ filter r xs) (filter r xs)) is

pub filter_same : {X : Type 0} (p r : X → Bool) (xs : List X) → AllByRecursion (λ x. p x ≡ r x) xs → filter p xs ≡ filter r xs
filter_same p r [] same = refl
filter_same p r (x ∷ xs) same = let rest = filter_same p r xs same.1 in λ i. cond (same.0 i) (x ∷ rest i) (rest i)

pub filter_all : {X : Type 0} (p : X → Bool) (xs : List X) → AllByRecursion (λ x. p x ≡ true) xs → filter p xs ≡ xs
filter_all p [] all = refl
filter_all p (x ∷ xs) all = let rest = filter_all p xs all.1 in λ i. cond (all.0 i) (x ∷ rest i) (rest i)

pub each_all : {X : Type 0} (P : X → Type 0) (xs : List X) → ((x : X) → P x) → AllByRecursion P xs
each_all P [] each = tt
each_all P (x ∷ xs) each = (each x, each_all P xs each)

-- what holds of the items at numbers holds of those that are picked
pub all_picked : {X : Type 0} (P : X → Type 0) (f : ℕ → X) (q : ℕ → Bool) (most n i : ℕ) → i + n ≤ most → ((k : ℕ) → k < most → q k ≡ true → P (f k))
    → AllByRecursion P (map f (filter q (range_with_len i n)))
all_picked P f q most zero i few each = tt
all_picked P f q most (suc n) i few each = at (q i) refl (all_picked P f q most n (i + 1) (omega (arith, few)) each)
  where
    at : (b : Bool) → q i ≡ b → AllByRecursion P (map f (filter q (range_with_len (i + 1) n)))
        → AllByRecursion P (map f (cond b (i ∷ filter q (range_with_len (i + 1) n)) (filter q (range_with_len (i + 1) n))))
    at true is rest = (each i (omega (arith, few)) is, rest)
    at false is rest = rest

-- ---- numbers

leb_step : (i head : ℕ) → head ≢ i → leb i head ≡ leb (i + 1) head
leb_step i head away = elim (cases_lt head i) [
  | inl low ↦
      let first : leb i head ≡ false = grind (arith, nat_tests, low) in
      let second : leb (i + 1) head ≡ false = grind (arith, nat_tests, low) in
      first ∙ sym second
  | inr high ↦
      let more : i + 1 ≤ head = omega (arith, high, away) in
      let first : leb i head ≡ true = grind (arith, nat_tests, high) in
      let second : leb (i + 1) head ≡ true = grind (arith, nat_tests, more) in
      first ∙ sym second
]

-- the index is that of its task's first call
abbrev pub is_first : List ℕ → List Unmade → ℕ → Bool
is_first heads calls index = eqb (slice_index heads (call_at calls index).task) index

module _ (calls : List Unmade) (tasks : ℕ) (heads next : List ℕ) (rows : AreInRows calls tasks heads next)
    (callers : (index : ℕ) → index < length calls → (call_at calls index).task < tasks) where
  abbrev head_of : Unmade → ℕ
  head_of one = slice_index heads one.task

  -- a first call is the task's own
  pub own_task : (task index : ℕ) → task < tasks → slice_index heads task ≡ index → index < length calls → (call_at calls index).task ≡ task
  own_task task index low here below =
      let own = subst (λ index. is_of calls task index ≡ true) here (rows.own task low (omega (arith, here, below))) in
      grind (arith, nat_tests, own)

  -- ---- the first calls

  module _ (i : ℕ) (below : i < length calls) where
    points : (o : Unmade) → o.task < tasks → head_of (call_at calls i) ≤ i
        → (not (eqb o.task (call_at calls i).task) && leb i (head_of o)) ≡ leb (i + 1) (head_of o)
    points o low passed = elim (cases_eq (head_of o) i) [
      | inl same ↦
          let own : (call_at calls i).task ≡ o.task = own_task o.task i low same below in
          let test : eqb o.task (call_at calls i).task ≡ true = grind (arith, nat_tests, own) in
          let none : leb (i + 1) (head_of o) ≡ false = grind (arith, nat_tests, same) in
          ap (λ b. not b && leb i (head_of o)) test ∙ sym none
      | inr away ↦ at (eqb o.task (call_at calls i).task) refl away
    ]
      where
        at : (b : Bool) → eqb o.task (call_at calls i).task ≡ b → head_of o ≢ i → (not b && leb i (head_of o)) ≡ leb (i + 1) (head_of o)
        at false other away = leb_step i (head_of o) away
        at true own away =
            let same : o.task ≡ (call_at calls i).task = grind (arith, nat_tests, own) in
            let heads_same : head_of o ≡ head_of (call_at calls i) = ap (slice_index heads) same in
            let none : leb (i + 1) (head_of o) ≡ false = grind (arith, nat_tests, heads_same, passed) in
            sym none

    points_past : (o : Unmade) → o.task < tasks → i < head_of (call_at calls i) → leb i (head_of o) ≡ leb (i + 1) (head_of o)
    points_past o low past = elim (cases_eq (head_of o) i) [
      | inl same ↦
          let own : (call_at calls i).task ≡ o.task = own_task o.task i low same below in
          let heads_same : head_of (call_at calls i) ≡ head_of o = ap (slice_index heads) own in
          absurd (omega (arith, heads_same, same, past))
      | inr away ↦ leb_step i (head_of o) away
    ]

  abbrev left_from : ℕ → ℕ → List Unmade
  left_from i n = map (call_at calls) (filter (is_unmade heads calls) (range_with_len i n))

  left_callers : (n i : ℕ) → i + n ≡ length calls → AllByRecursion (λ (o : Unmade). o.task < tasks) (firsts (left_from i n))
  left_callers n i all =
      firsts_all (λ (o : Unmade). o.task < tasks) (left_from i n)
      (all_picked (λ (o : Unmade). o.task < tasks) (call_at calls) (is_unmade heads calls) (length calls) n i (omega (arith, all)) (λ k low is. callers k low))

  all_weak : {X : Type 0} (P Q : X → Type 0) (xs : List X) → ((x : X) → P x → Q x) → AllByRecursion P xs → AllByRecursion Q xs
  all_weak P Q [] goes all = tt
  all_weak P Q (x ∷ xs) goes all = (goes x all.0, all_weak P Q xs goes all.1)

  firsts_from : (n i : ℕ) → i + n ≡ length calls
      → filter (λ (o : Unmade). leb i (head_of o)) (firsts (left_from i n)) ≡ map (call_at calls) (filter (is_first heads calls) (range_with_len i n))
  firsts_from zero i all = refl
  firsts_from (suc n) i all = elim (cases_lt i (head_of (call_at calls i))) [
    | inl past ↦
        let gone : is_unmade heads calls i ≡ false = grind (arith, nat_tests, past) in
        let apart : is_first heads calls i ≡ false = grind (arith, nat_tests, past) in
        rw gone
        (rw apart
        (filter_same (λ (o : Unmade). leb i (head_of o)) (λ (o : Unmade). leb (i + 1) (head_of o)) (firsts (left_from (i + 1) n))
        (all_weak (λ (o : Unmade). o.task < tasks) _ (firsts (left_from (i + 1) n)) (λ o low. points_past i (omega (arith, all)) o low past)
        (left_callers n (i + 1) (omega (arith, all))))
        ∙ firsts_from n (i + 1) (omega (arith, all))))
    | inr passed ↦
        let left : is_unmade heads calls i ≡ true = grind (arith, nat_tests, passed) in
        let two : filter (λ (o : Unmade). leb i (head_of o)) (filter (λ (o : Unmade). not (eqb o.task (call_at calls i).task)) (firsts (left_from (i + 1) n)))
        ≡ map (call_at calls) (filter (is_first heads calls) (range_with_len (i + 1) n))
        = filter_two (λ (o : Unmade). not (eqb o.task (call_at calls i).task)) (λ (o : Unmade). leb i (head_of o)) (λ (o : Unmade). leb (i + 1) (head_of o))
        (firsts (left_from (i + 1) n))
        (all_weak (λ (o : Unmade). o.task < tasks) _ (firsts (left_from (i + 1) n)) (λ o low. points i (omega (arith, all)) o low passed)
        (left_callers n (i + 1) (omega (arith, all))))
        ∙ firsts_from n (i + 1) (omega (arith, all)) in
        let same : leb i (head_of (call_at calls i)) ≡ is_first heads calls i = tests passed in
        rw left (rw two (rw same (picked (is_first heads calls i))))
  ]
    where
      tests : head_of (call_at calls i) ≤ i → leb i (head_of (call_at calls i)) ≡ eqb (head_of (call_at calls i)) i
      tests passed = elim (cases_eq (head_of (call_at calls i)) i) [
        | inl same ↦
            let first : leb i (head_of (call_at calls i)) ≡ true = grind (arith, nat_tests, same) in
            let second : eqb (head_of (call_at calls i)) i ≡ true = grind (arith, nat_tests, same) in
            first ∙ sym second
        | inr away ↦
            let first : leb i (head_of (call_at calls i)) ≡ false = grind (arith, nat_tests, passed, away) in
            let second : eqb (head_of (call_at calls i)) i ≡ false = grind (arith, nat_tests, away) in
            first ∙ sym second
      ]

      picked : (b : Bool)
          → cond b (call_at calls i ∷ map (call_at calls) (filter (is_first heads calls) (range_with_len (i + 1) n)))
          (map (call_at calls) (filter (is_first heads calls) (range_with_len (i + 1) n)))
          ≡ map (call_at calls) (cond b (i ∷ filter (is_first heads calls) (range_with_len (i + 1) n)) (filter (is_first heads calls) (range_with_len (i + 1) n)))
      picked true = refl
      picked false = refl

  -- the first calls are those at the heads
  pub firsts_are : firsts (unmade_in heads calls) ≡ map (call_at calls) (filter (is_first heads calls) (range_with_len 0 (length calls)))
  unfolding unmade_in
  firsts_are =
      sym (filter_all (λ (o : Unmade). leb 0 (head_of o)) (firsts (left_from 0 (length calls)))
      (each_all (λ (o : Unmade). leb 0 (head_of o) ≡ true) (firsts (left_from 0 (length calls))) (λ o. grind (arith, nat_tests))))
      ∙ firsts_from (length calls) 0 (omega arith)

  -- ---- a call is made

  module _ (task : ℕ) (user : task < tasks) (some : slice_index heads task < length calls) where
    abbrev head : ℕ
    head = slice_index heads task

    abbrev later : List ℕ
    later = slice_set heads task (slice_index next head)

    its_next : IsNext calls task (suc head) (slice_index next head)
    its_next = rows.after task head some (rows.own task user some)

    head_here : slice_index later task ≡ slice_index next head
    head_here = get_or-set_same heads task _ 0 (omega (arith, user, rows.head_each))

    head_other : (other : ℕ) → other ≢ task → slice_index later other ≡ slice_index heads other
    head_other other away = get_or-set_other heads task other _ 0 away

    -- past the one that was made the task's calls are not before its next one
    past_next : (index : ℕ) → head < index → (call_at calls index).task ≡ task → slice_index next head ≤ index
    past_next index past own = elim (cases_lt index (slice_index next head)) [
      | inl low ↦
          let none = its_next.between index (omega (arith, past)) low in
          let is : is_of calls task index ≡ true = grind (arith, nat_tests, own) in
          absurd (cc (is, none))
      | inr high ↦ high
    ]

    same_past : (index : ℕ) → head < index → is_unmade later calls index ≡ is_unmade heads calls index
    same_past index past = elim (cases_eq (call_at calls index).task task) [
      | inl own ↦
          let now : slice_index later (call_at calls index).task ≡ slice_index next head = ap (slice_index later) own ∙ head_here in
          let before : slice_index heads (call_at calls index).task ≡ head = ap (slice_index heads) own in
          let least = past_next index past own in
          let first : is_unmade later calls index ≡ true = grind (arith, nat_tests, now, least) in
          let second : is_unmade heads calls index ≡ true = grind (arith, nat_tests, before, past) in
          first ∙ sym second
      | inr away ↦ ap (λ head. leb head index) (head_other (call_at calls index).task away)
    ]

    rest_same : (n i : ℕ) → head < i → filter (is_unmade later calls) (range_with_len i n) ≡ filter (is_unmade heads calls) (range_with_len i n)
    rest_same zero i past = refl
    rest_same (suc n) i past =
        let rest = rest_same n (i + 1) (omega (arith, past)) in
        let same = same_past i past in
        λ j. cond (same j) (i ∷ rest j) (rest j)

    without_from : (n i : ℕ) → i + n ≡ length calls → i ≤ head
        → map (call_at calls) (filter (is_unmade later calls) (range_with_len i n))
        ≡ without_first task (map (call_at calls) (filter (is_unmade heads calls) (range_with_len i n)))
    without_from zero i all low = absurd (omega (arith, all, low, some))
    without_from (suc n) i all low = elim (cases_eq i head) [
      | inl here ↦ at_head here
      | inr away ↦ before (omega (arith, low, away)) (without_from n (i + 1) (omega (arith, all)) (omega (arith, low, away)))
    ]
      where
        at_head : i ≡ head → map (call_at calls) (filter (is_unmade later calls) (range_with_len i (suc n)))
            ≡ without_first task (map (call_at calls) (filter (is_unmade heads calls) (range_with_len i (suc n))))
        at_head here =
            let own : (call_at calls i).task ≡ task = own_task task i user (sym here) (omega (arith, here, some)) in
            let test : eqb (call_at calls i).task task ≡ true = grind (arith, nat_tests, own) in
            let before : slice_index heads (call_at calls i).task ≡ head = ap (slice_index heads) own in
            let now : slice_index later (call_at calls i).task ≡ slice_index next head = ap (slice_index later) own ∙ head_here in
            let left : is_unmade heads calls i ≡ true = grind (arith, nat_tests, before, here) in
            let made : is_unmade later calls i ≡ false = let high = its_next.low in grind (arith, nat_tests, now, here, high) in
            rw left (rw made (rw test (ap (map (call_at calls)) (rest_same n (i + 1) (omega (arith, here))))))

        before : i < head
            → map (call_at calls) (filter (is_unmade later calls) (range_with_len (i + 1) n))
            ≡ without_first task (map (call_at calls) (filter (is_unmade heads calls) (range_with_len (i + 1) n)))
            → map (call_at calls) (filter (is_unmade later calls) (range_with_len i (suc n)))
            ≡ without_first task (map (call_at calls) (filter (is_unmade heads calls) (range_with_len i (suc n))))
        before early rest = elim (cases_eq (call_at calls i).task task) [
          | inl own ↦
              let first : slice_index heads (call_at calls i).task ≡ head = ap (slice_index heads) own in
              let now : slice_index later (call_at calls i).task ≡ slice_index next head = ap (slice_index later) own ∙ head_here in
              let left : is_unmade heads calls i ≡ false = grind (arith, nat_tests, first, early) in
              let made : is_unmade later calls i ≡ false = let high = its_next.low in grind (arith, nat_tests, now, early, high) in
              rw left (rw made rest)
          | inr away ↦
              let same : is_unmade later calls i ≡ is_unmade heads calls i = ap (λ head. leb head i) (head_other (call_at calls i).task away) in
              let test : eqb (call_at calls i).task task ≡ false = grind (arith, nat_tests, away) in
              rw same (which (is_unmade heads calls i) test rest)
        ]
          where
            which : (b : Bool) → eqb (call_at calls i).task task ≡ false
                → map (call_at calls) (filter (is_unmade later calls) (range_with_len (i + 1) n))
                ≡ without_first task (map (call_at calls) (filter (is_unmade heads calls) (range_with_len (i + 1) n)))
                → map (call_at calls) (cond b (i ∷ filter (is_unmade later calls) (range_with_len (i + 1) n)) (filter (is_unmade later calls) (range_with_len (i + 1) n)))
                ≡ without_first task
                (map (call_at calls) (cond b (i ∷ filter (is_unmade heads calls) (range_with_len (i + 1) n)) (filter (is_unmade heads calls) (range_with_len (i + 1) n))))
            which true test rest = rw test (ap (λ rest. call_at calls i ∷ rest) rest)
            which false test rest = rest

    pub made_unmade : unmade_in later calls ≡ without_first task (unmade_in heads calls)
    unfolding unmade_in
    made_unmade = without_from (length calls) 0 (omega arith) (omega arith)

    pub made_rows : AreInRows calls tasks later next
    made_rows = record {
      head_each = length-set heads task _ ∙ rows.head_each;
      next_each = rows.next_each;
      few = λ other low. elim (cases_eq other task) [
        | inl same ↦ omega (arith, ap (slice_index later) same, head_here, its_next.high)
        | inr away ↦ omega (arith, head_other other away, rows.few other low)
      ];
      own = λ other low. elim (cases_eq other task) as (λ _. slice_index later other < length calls → is_of calls other (slice_index later other) ≡ true) [
        | inl same ↦ λ below.
            let at : slice_index later other ≡ slice_index next head = ap (slice_index later) same ∙ head_here in
            (λ k. is_of calls (same k) (at k)) ∙ its_next.own (omega (arith, at, below))
        | inr away ↦ λ below.
            let at = head_other other away in
            ap (is_of calls other) at ∙ rows.own other low (omega (arith, at, below))
      ];
      after = rows.after;
    }
