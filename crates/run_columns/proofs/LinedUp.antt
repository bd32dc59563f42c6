-- Columns by slots: they are few, they ascend, and they are lined up.
use Rattle.std.proofs.Common.{◌≡◌, ℕ, zero, suc, ◌+◌, ◌-◌, ◌<◌, ◌≤◌, max, min, List, [], ◌∷◌, ◌++◌, length, map, filter, take, get_or, Bool, true}
use Rattle.std.proofs.Common.{false, cond, eqb, refl, subst, sym, ap, ◌∙◌, add-one, zero-add, Some, arith, inl, inr}
use Rattle.std.specs.Prelude.{sum, slice_get, slice_index_or, slice_set, if◌then◌else◌}
use Rattle.std.proofs.lemmas.Bool.{cases_eq, eq-eqb, eqb-false, eqb-true}
use Rattle.std.proofs.lemmas.Option.{slice_get-get_or}
use Rattle.std.proofs.lemmas.List.{ext_get_or, get_or-set_other, get_or-set_same, length-set, map-append, take_all}
use Rattle.std.proofs.lemmas.List.Filters.{length-filter_more}
use Rattle.std.proofs.lemmas.List.FromFn.{get_or-map-range_with_len, length-map-range_with_len}
use Rattle.std.proofs.lemmas.List.Sums.{sum_by-append}
use Rattle.list_orders.specs.Search.{numbers}
use Rattle.list_orders.proofs.Stamped.{numbers_more}
use Rattle.run_columns.specs.SlotColumns.{at_or_last, column_at, places_in, places_with, slot_column, slot_columns, slot_width, Ascend, AreLinedUp, AreSlots, BeginsSlot, Rise}

-- one where it is so
abbrev ones : Bool → ℕ
ones b = cond b 1 0

-- ---- what rises at each step

rise : (f : ℕ → ℕ) → ((n : ℕ) → f n ≤ f (suc n)) → (p more : ℕ) → f p ≤ f (p + more)
rise f step p zero = let e : p ≡ p + 0 = omega arith in subst (λ (n : ℕ). f p ≤ f n) e (omega arith)
rise f step p (suc more) =
    let e : suc (p + more) ≡ p + suc more = omega arith in
    let early = rise f step p more in
    let next = step (p + more) in
    subst (λ (n : ℕ). f p ≤ f n) e (omega (arith, early, next))

pub ordered : (f : ℕ → ℕ) → ((n : ℕ) → f n ≤ f (suc n)) → (p q : ℕ) → p ≤ q → f p ≤ f q
ordered f step p q before = let e : p + (q - p) ≡ q = omega (arith, before) in subst (λ (n : ℕ). f p ≤ f n) e (rise f step p (q - p))

-- ---- the number at a place

pub here : (listed : List ℕ) (place : ℕ) → place < length listed → at_or_last listed place ≡ get_or listed place 0
here listed place low = let e : min place (length listed - 1) ≡ place = omega (arith, low) in ap (λ n. get_or listed n 0) e

pub at_end : (listed : List ℕ) (place : ℕ) → length listed ≤ place → at_or_last listed place ≡ at_or_last listed (length listed)
at_end listed place past =
    let e : min place (length listed - 1) ≡ min (length listed) (length listed - 1) = omega (arith, past) in ap (λ n. get_or listed n 0) e

-- no slot is behind that of the last place
pub slot_low : (slots : List ℕ) (place : ℕ) → AreSlots slots → place < length slots → get_or slots place 0 ≤ at_or_last slots (length slots)
slot_low slots place are low =
    subst (λ (n : ℕ). n ≤ at_or_last slots (length slots)) (here slots place low) (are.rise place (length slots) (omega (arith, low)))

-- ---- places in a slot

pub places_more : (slots : List ℕ) (count slot : ℕ) → count < length slots → places_with slots (count + 1) slot ≡ places_with slots count slot + ones
    (eqb (get_or slots count 0) slot)
places_more slots count slot early = length-filter_more (λ other. eqb other slot) slots count 0 early

same_one : (n : ℕ) → ones (eqb n n) ≡ 1
same_one n = ap (λ (b : Bool). ones b) (eq-eqb n n refl)

differ_none : (m n : ℕ) → (n ≡ m → ⊥) → ones (eqb m n) ≡ 0
differ_none m n away = at (eqb m n) refl
  where
    at : (b : Bool) → eqb m n ≡ b → ones b ≡ 0
    at true same = absurd (away (sym (eqb-true m n same)))
    at false other = refl

-- one more in the place's own slot
pub own_more : (slots : List ℕ) (place : ℕ) → place < length slots → places_with slots (place + 1) (at_or_last slots place) ≡ places_with slots place
    (at_or_last slots place) + 1
own_more slots place early =
    let own = at_or_last slots place in
    let more = places_more slots place own early in
    let one : ones (eqb (get_or slots place 0) own) ≡ 1 = subst (λ n. ones (eqb n own) ≡ 1) (here slots place early) (same_one own) in
    omega (arith, more, one)

places_room : (slots : List ℕ) (n slot : ℕ) → places_with slots n slot ≤ places_in slots slot
places_room [] zero slot = omega arith
places_room [] (suc n) slot = omega arith
places_room (x ∷ slots) zero slot = omega arith
places_room (x ∷ slots) (suc n) slot = at (eqb x slot) (places_room slots n slot)
  where
    at : (b : Bool) → places_with slots n slot ≤ places_in slots slot → length
        (if b then x ∷ filter (λ other. eqb other slot) (take n slots) else filter (λ other. eqb other slot) (take n slots)) ≤ length
        (if b then x ∷ filter (λ other. eqb other slot) slots else filter (λ other. eqb other slot) slots)
    at true rest = omega (arith, rest)
    at false rest = rest

pub all_places : (slots : List ℕ) (slot : ℕ) → places_with slots (length slots) slot ≡ places_in slots slot
all_places slots slot = ap (λ xs. length (filter (λ other. eqb other slot) xs)) (take_all (length slots) slots (omega arith))

-- ---- columns

pub sum_more : (f : ℕ → ℕ) (n : ℕ) → sum (map f (numbers (n + 1))) ≡ sum (map f (numbers n)) + f n
sum_more f n =
    ap (λ ns. sum (map f ns)) (numbers_more n)
    ∙ ap sum (map-append f (numbers n) (n ∷ []))
    ∙ sum_by-append (λ k. k) (map f (numbers n)) (f n ∷ [])
    ∙ ap (λ (k : ℕ). sum (map f (numbers n)) + k) (zero-add (f n))

pub column_more : (before after : List ℕ) (slot : ℕ) → slot_column before after (slot + 1) ≡ slot_column before after slot + slot_width before after slot
column_more before after slot = sum_more (slot_width before after) slot

columns_ordered : (before after : List ℕ) (p q : ℕ) → p ≤ q → slot_column before after p ≤ slot_column before after q
columns_ordered before after =
    ordered (slot_column before after) (λ n. subst (λ (m : ℕ). slot_column before after n ≤ slot_column before after m) (add-one n)
    (let more = column_more before after n in omega (arith, more)))

-- a slot leaves room for all places of the run in it
module _ (before after run : List ℕ) (rises : Rise run) (wide : (slot : ℕ) → places_in run slot ≤ slot_width before after slot) where
  next_column : (p : ℕ) → p < length run → column_at before after run p < column_at before after run (p + 1)
  next_column p early = at (eqb slot next) refl
    where
      slot : ℕ
      slot = at_or_last run p

      next : ℕ
      next = at_or_last run (p + 1)

      own : places_with run (p + 1) slot ≡ places_with run p slot + 1
      own = own_more run p early

      at : (b : Bool) → eqb slot next ≡ b → column_at before after run p < column_at before after run (p + 1)
      at true same = subst (λ t. slot_column before after slot + places_with run p slot < slot_column before after t + places_with run (p + 1) t)
          (eqb-true slot next same) (omega (arith, own))
      at false other =
          let apart = eqb-false slot next other in
          let later : slot + 1 ≤ next = let up = rises p (p + 1) (omega arith) in omega (arith, apart, up) in
          let room = places_room run (p + 1) slot in
          let more = column_more before after slot in
          let behind = columns_ordered before after (slot + 1) next later in
          let enough = wide slot in
          omega (arith, own, room, more, behind, enough)

  columns_ascend : (p more : ℕ) → p + more < length run → column_at before after run p < column_at before after run (p + more + 1)
  columns_ascend p zero few = let e : p + 1 ≡ p + 0 + 1 = omega arith in subst (λ (n : ℕ). column_at before after run p < column_at before after run n) e
      (next_column p (omega (arith, few)))
  columns_ascend p (suc more) few =
      let e : p + more + 1 + 1 ≡ p + suc more + 1 = omega arith in
      let early = columns_ascend p more (omega (arith, few)) in
      let next = next_column (p + more + 1) (omega (arith, few)) in
      subst (λ (n : ℕ). column_at before after run p < column_at before after run n) e (omega (arith, early, next))

  pub ascends : Ascend (slot_columns before after run)
  ascends p q earlier few =
      let f = column_at before after run in
      let last : q < suc (length run) = subst (λ (n : ℕ). q < n) (length-map-range_with_len f 0 (suc (length run))) few in
      let at_p = get_or-map-range_with_len f 0 (suc (length run)) p p 0 (omega (arith, earlier, last)) (zero-add p) in
      let at_q = get_or-map-range_with_len f 0 (suc (length run)) q q 0 last (zero-add q) in
      let there : p + (q - suc p) + 1 ≡ q = omega (arith, earlier) in
      let up = subst (λ (n : ℕ). f p < f n) there (columns_ascend p (q - suc p) (omega (arith, earlier, last))) in
      subst (λ (a : ℕ). a < slice_index_or (slot_columns before after run) q 0) (sym at_p) (subst (λ (b : ℕ). f p < b) (sym at_q) up)

-- where it is the first place in its slot, it stands at the first column of the slot
first_column : (before after run : List ℕ) (place : ℕ) → place < length run → BeginsSlot run place → slice_get (slot_columns before after run) place ≡ Some
    (slot_column before after (at_or_last run place))
first_column before after run place early first =
    let f = column_at before after run in
    let within : place < length (slot_columns before after run) = subst (λ (n : ℕ). place < n) (sym (length-map-range_with_len f 0 (suc (length run))))
    (omega (arith, early)) in
    slice_get-get_or (slot_columns before after run) place 0 within
    ∙ ap Some (get_or-map-range_with_len f 0 (suc (length run)) place place 0 (omega (arith, early)) (zero-add place)
    ∙ ap (λ (n : ℕ). slot_column before after (at_or_last run place) + n) first ∙ omega arith)

pub lined_up : (before after : List ℕ) → AreSlots before → AreSlots after → AreLinedUp before after
lined_up before after are others = record {
  before_ascend = ascends before after before are.rise (λ slot. omega arith);
  after_ascend = ascends before after after others.rise (λ slot. omega arith);
  aligned = λ p q in_before in_after first later same. first_column before after before p in_before first ∙ ap (λ slot. Some (slot_column before after slot))
      same ∙ sym (first_column before after after q in_after later);
}

-- ---- few enough for numbers of 32 bits

sum_differs : (x n : ℕ) → n ≤ x → sum (map (λ slot. ones (eqb x slot)) (numbers n)) ≡ 0
sum_differs x zero above = refl
sum_differs x (suc n) above =
    subst (λ m. sum (map (λ slot. ones (eqb x slot)) (numbers m)) ≡ 0) (add-one n)
    (let more = sum_more (λ slot. ones (eqb x slot)) n in
    let early = sum_differs x n (omega (arith, above)) in
    let now : ones (eqb x n) ≡ 0 = differ_none x n (λ (e : n ≡ x). absurd (omega (arith, e, above))) in
    omega (arith, more, early, now))

sum_one : (x n : ℕ) → sum (map (λ slot. ones (eqb x slot)) (numbers n)) ≤ 1
sum_one x zero = omega arith
sum_one x (suc n) =
    subst (λ m. sum (map (λ slot. ones (eqb x slot)) (numbers m)) ≤ 1) (add-one n)
    (let more = sum_more (λ slot. ones (eqb x slot)) n in at (eqb x n) refl more (sum_one x n))
  where
    at : (b : Bool) → eqb x n ≡ b → sum (map (λ slot. ones (eqb x slot)) (numbers (n + 1))) ≡ sum (map (λ slot. ones (eqb x slot)) (numbers n)) + ones (eqb x n)
        → sum (map (λ slot. ones (eqb x slot)) (numbers n)) ≤ 1 → sum (map (λ slot. ones (eqb x slot)) (numbers (n + 1))) ≤ 1
    at true same more early = let is = eqb-true x n same in let none = sum_differs x n (omega (arith, is)) in let one : ones (eqb x n) ≡ 1 = ap (λ b. ones b)
        same in omega (arith, more, none, one)
    at false other more early = let none : ones (eqb x n) ≡ 0 = ap (λ b. ones b) other in omega (arith, more, none, early)

sum_both : (f g h : ℕ → ℕ) → ((n : ℕ) → f n ≤ g n + h n) → (n : ℕ) → sum (map f (numbers n)) ≤ sum (map g (numbers n)) + sum (map h (numbers n))
sum_both f g h each zero = omega arith
sum_both f g h each (suc n) =
    subst (λ m. sum (map f (numbers m)) ≤ sum (map g (numbers m)) + sum (map h (numbers m))) (add-one n)
    (let fs = sum_more f n in let gs = sum_more g n in let hs = sum_more h n in let early = sum_both f g h each n in let now = each n in omega
    (arith, fs, gs, hs, early, now))

count_more : (x : ℕ) (slots : List ℕ) (slot : ℕ) → places_in (x ∷ slots) slot ≤ ones (eqb x slot) + places_in slots slot
count_more x slots slot = at (eqb x slot)
  where
    at : (b : Bool) → length (if b then x ∷ filter (λ other. eqb other slot) slots else filter (λ other. eqb other slot) slots) ≤ ones b + places_in slots slot
    at true = omega arith
    at false = omega arith

sum_in : (slots : List ℕ) (n : ℕ) → sum (map (places_in slots) (numbers n)) ≤ length slots
sum_in [] zero = omega arith
sum_in [] (suc n) =
    subst (λ m. sum (map (places_in []) (numbers m)) ≤ 0) (add-one n)
    (let more = sum_more (places_in []) n in let early = sum_in [] n in omega (arith, more, early))
sum_in (x ∷ slots) n =
    let both = sum_both (places_in (x ∷ slots)) (λ slot. ones (eqb x slot)) (places_in slots) (count_more x slots) n in
    let one = sum_one x n in
    let rest = sum_in slots n in
    omega (arith, both, one, rest)

sum_width : (before after : List ℕ) (n : ℕ) → slot_column before after n ≤ n + sum (map (places_in before) (numbers n)) + sum (map (places_in after) (numbers n))
sum_width before after zero = omega arith
sum_width before after (suc n) =
    subst (λ m. slot_column before after m ≤ m + sum (map (places_in before) (numbers m)) + sum (map (places_in after) (numbers m))) (add-one n)
    (let more = column_more before after n in
    let first = sum_more (places_in before) n in
    let second = sum_more (places_in after) n in
    let early = sum_width before after n in
    omega (arith, more, first, second, early))

pub columns_few : (before after : List ℕ) (slot : ℕ) → slot_column before after slot ≤ slot + length before + length after
columns_few before after slot =
    let all = sum_width before after slot in
    let first = sum_in before slot in
    let second = sum_in after slot in
    omega (arith, all, first, second)

pub places_few : (slots : List ℕ) (count slot : ℕ) → count ≤ length slots → places_with slots count slot ≤ count
places_few slots zero slot few = omega arith
places_few slots (suc count) slot few =
    subst (λ n. places_with slots n slot ≤ n) (add-one count)
    (let more = places_more slots count slot (omega (arith, few)) in
    let before = places_few slots count slot (omega (arith, few)) in
    let one = at_most_one (eqb (get_or slots count 0) slot) in
    omega (arith, more, before, one))
  where
    at_most_one : (b : Bool) → ones b ≤ 1
    at_most_one true = omega arith
    at_most_one false = omega arith

-- ---- what the loops know

pub map_numbers_more : (f : ℕ → ℕ) (n : ℕ) → map f (numbers (n + 1)) ≡ map f (numbers n) ++ f n ∷ []
map_numbers_more f n = ap (map f) (numbers_more n) ∙ map-append f (numbers n) (n ∷ [])

-- a list has for each slot what a function gives
pub record AreEach (f : ℕ → ℕ) (count : ℕ) (listed : List ℕ) : Type 0 where
  pub size : length listed ≡ count
  pub each : (k : ℕ) → k < count → get_or listed k 0 ≡ f k

pub each_of : (f : ℕ → ℕ) (count : ℕ) (listed : List ℕ) → listed ≡ map f (numbers count) → AreEach f count listed
each_of f count listed are = record {
  size = ap length are ∙ length-map-range_with_len f 0 count;
  each = λ k low. ap (λ xs. get_or xs k 0) are ∙ get_or-map-range_with_len f 0 count k k 0 low (zero-add k);
}

pub list_of : (f : ℕ → ℕ) (count : ℕ) (listed : List ℕ) → AreEach f count listed → listed ≡ map f (numbers count)
list_of f count listed are =
    ext_get_or 0 listed (map f (numbers count)) (are.size ∙ sym (length-map-range_with_len f 0 count))
    (λ k low. let low_count : k < count = omega (arith, low, are.size) in are.each k low_count ∙ sym
    (get_or-map-range_with_len f 0 count k k 0 low_count (zero-add k)))

-- one more for one slot
pub bumped : (f g : ℕ → ℕ) (count slot : ℕ) (listed : List ℕ) → AreEach f count listed → slot < count → ((k : ℕ) → g k ≡ f k + ones (eqb slot k))
    → AreEach g count (slice_set listed slot (get_or listed slot 0 + 1))
bumped f g count slot listed are low more = record {
  size = length-set listed slot (get_or listed slot 0 + 1) ∙ are.size;
  each = λ k below. elim (cases_eq k slot) [
    | inl same ↦ subst (λ j. get_or (slice_set listed slot (get_or listed slot 0 + 1)) j 0 ≡ g j) (sym same)
        (get_or-set_same listed slot (get_or listed slot 0 + 1) 0 (omega (arith, low, are.size)) ∙ bump (are.each slot low) (more slot) (same_one slot))
    | inr away ↦ get_or-set_other listed slot k (get_or listed slot 0 + 1) 0 away ∙ are.each k below ∙ stay (more k) (differ_none slot k away)
  ];
}
  where
    bump : get_or listed slot 0 ≡ f slot → g slot ≡ f slot + ones (eqb slot slot) → ones (eqb slot slot) ≡ 1 → get_or listed slot 0 + 1 ≡ g slot
    bump was now one = omega (arith, was, now, one)

    stay : {k : ℕ} → g k ≡ f k + ones (eqb slot k) → ones (eqb slot k) ≡ 0 → f k ≡ g k
    stay now none = omega (arith, now, none)

-- the slots up to the last place of either run
abbrev pub slot_count : List ℕ → List ℕ → ℕ
slot_count slots later = suc (max (at_or_last slots (length slots)) (at_or_last later (length later)))

-- the columns of the first places of a run, and of the next place in each slot
pub record ColumnsSoFar (slots later run columns next : List ℕ) (place : ℕ) : Type 0 where
  pub made : columns ≡ map (column_at slots later run) (numbers place)
  pub free : AreEach (λ slot. slot_column slots later slot + places_with run place slot) (slot_count slots later) next

pub columns_none : (slots later run next : List ℕ) → next ≡ map (slot_column slots later) (numbers (slot_count slots later)) → ColumnsSoFar slots later run [] next 0
columns_none slots later run next are =
    let each = each_of (slot_column slots later) (slot_count slots later) next are in
    record {
      made = refl;
      free = record {
        size = each.size;
        each = λ k low. let e = each.each k low in omega (arith, e);
      };
    }

pub columns_more : (slots later run columns more next : List ℕ) (place column : ℕ) → AreSlots run → at_or_last run (length run) ≤ max
    (at_or_last slots (length slots)) (at_or_last later (length later))
    → place < length run → ColumnsSoFar slots later run columns next place → column ≡ get_or next (get_or run place 0) 0 → more ≡ columns ++ column ∷ []
    → ColumnsSoFar slots later run more (slice_set next (get_or run place 0) (get_or next (get_or run place 0) 0 + 1)) (place + 1)
columns_more slots later run columns more next place column are low early were is pushed =
    let slot = get_or run place 0 in
    let within : slot < slot_count slots later = let under = slot_low run place are early in omega (arith, under, low) in
    let stands : column ≡ column_at slots later run place = is ∙ were.free.each slot within ∙ ap (λ (s : ℕ). slot_column slots later s + places_with run place s)
    (sym (here run place early)) in
    record {
      made = pushed ∙ ap (λ (xs : List ℕ). xs ++ column ∷ []) were.made
          ∙ ap (λ (n : ℕ). map (column_at slots later run) (numbers place) ++ n ∷ []) stands
          ∙ sym (map_numbers_more (column_at slots later run) place);
      free = bumped (λ s. slot_column slots later s + places_with run place s) (λ s. slot_column slots later s + places_with run (place + 1) s)
          (slot_count slots later) slot next were.free within
          (λ k. let one = places_more run place k early in omega (arith, one));
    }

-- a column has 32 bits
pub column_few : (slots later run columns next : List ℕ) (place slot : ℕ) → AreSlots slots → AreSlots later → AreSlots run → place ≤ length run → slot < slot_count
    slots later
    → ColumnsSoFar slots later run columns next place → get_or next slot 0 + 1 < 4294967296
column_few slots later run columns next place slot one other are early within were =
    let is = were.free.each slot within in
    let most = columns_few slots later slot in
    let back = places_few run place slot early in
    let few = one.few in
    let few_too = other.few in
    let few_run = are.few in
    let low = one.low in
    let low_too = other.low in
    omega (arith, is, most, back, few, few_too, few_run, low, low_too, within, early)

-- the end behind the last place
pub columns_all : (slots later run columns more next : List ℕ) (place column last : ℕ) → place ≡ length run → last ≡ at_or_last run (length run)
    → last < slot_count slots later → ColumnsSoFar slots later run columns next place → column ≡ get_or next last 0 → more ≡ columns ++ column ∷ []
    → more ≡ slot_columns slots later run
columns_all slots later run columns more next place column last end ends within were is pushed =
    let f = column_at slots later run in
    let stands : column ≡ f place = is ∙ were.free.each last within ∙ ap (λ (s : ℕ). slot_column slots later s + places_with run place s)
    (ends ∙ ap (at_or_last run) (sym end)) in
    pushed ∙ ap (λ (xs : List ℕ). xs ++ column ∷ []) were.made
    ∙ ap (λ (n : ℕ). map f (numbers place) ++ n ∷ []) stands
    ∙ sym (map_numbers_more f place)
    ∙ ap (λ (n : ℕ). map f (numbers n)) (let e : place + 1 ≡ suc (length run) = omega (arith, end) in e)

-- one more slot has its first column
pub start_more : (slots later counts more starts pushed : List ℕ) (count slot start width : ℕ) → counts ≡ map (places_in slots) (numbers count)
    → more ≡ map (places_in later) (numbers count) → slot < count → starts ≡ map (slot_column slots later) (numbers slot)
    → start ≡ slot_column slots later slot → pushed ≡ starts ++ start ∷ [] → width ≡ max 1 (max (get_or counts slot 0) (get_or more slot 0))
    → (pushed ≡ map (slot_column slots later) (numbers (slot + 1))) × (start + width ≡ slot_column slots later (slot + 1))
start_more slots later counts more starts pushed count slot start width are are_more low were now made is = (
  made ∙ ap (λ (xs : List ℕ). xs ++ start ∷ []) were ∙ ap (λ (x : ℕ). map (slot_column slots later) (numbers slot) ++ x ∷ []) now ∙ sym
      (map_numbers_more (slot_column slots later) slot),
  (let first = (each_of (places_in slots) count counts are).each slot low in
      let second = (each_of (places_in later) count more are_more).each slot low in
      let next = column_more slots later slot in
      omega (arith, first, second, next, now, is)),
)
