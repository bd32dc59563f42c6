-- Where parts of given lengths begin: which places these are, and when they ascend.
use Rattle.std.proofs.Common.{◌≡◌, ◌⊎◌, inl, inr, ⊎_elim, ℕ, zero, suc, ◌+◌, ◌<◌, ◌≤◌, Bool, true, false, eqb, ◌||◌, List, [], ◌∷◌, ◌++◌, length, take, refl}
use Rattle.std.proofs.Common.{sym, ap, subst, ◌∙◌, arith, length-append}
use Rattle.std.specs.Prelude.{⊤, Some, slice_get, slice_index}
use Rattle.std.specs.List.Sorted.{IsStrictlyIncreasing}
use Rattle.std.proofs.lemmas.List.Folds.{list_any-append}
use Rattle.std.proofs.lemmas.Bool.Decides.{nat_tests}
use Rattle.list_orders.specs.Search.{has}
use Rattle.meeting_laws.proofs.Places.{has_first, has_rest, has_later}
use Rattle.segment_laws.specs.Segments.{SegmentView, all_steps, lengths, starts}

-- ---- lists that have a place

pub first_or_rest : (first place : ℕ) (places : List ℕ) → has place (first ∷ places) ≡ true → (first ≡ place) ⊎ (has place places ≡ true)
first_or_rest first place places found = at (eqb first place) refl
  where
    at : (b : Bool) → eqb first place ≡ b → (first ≡ place) ⊎ (has place places ≡ true)
    at true is = inl (grind (arith, nat_tests, is))
    at false is = inr (has_later first place places is found)

pub has_either : (place : ℕ) (xs ys : List ℕ) → has place (xs ++ ys) ≡ true → (has place xs ≡ true) ⊎ (has place ys ≡ true)
has_either place xs ys found = at (has place xs) refl (sym (list_any-append (λ m. eqb m place) xs ys) ∙ found)
  where
    at : (b : Bool) → has place xs ≡ b → (b || has place ys) ≡ true → (has place xs ≡ true) ⊎ (has place ys ≡ true)
    at true is later = inl is
    at false is later = inr later

pub has_left : (place : ℕ) (xs ys : List ℕ) → has place xs ≡ true → has place (xs ++ ys) ≡ true
has_left place xs ys found = list_any-append (λ m. eqb m place) xs ys ∙ ap (λ b. b || has place ys) found

pub has_right : (place : ℕ) (xs ys : List ℕ) → has place ys ≡ true → has place (xs ++ ys) ≡ true
has_right place xs ys found = list_any-append (λ m. eqb m place) xs ys ∙ at (has place xs)
  where
    at : (b : Bool) → (b || has place ys) ≡ true
    at true = refl
    at false = found

-- ---- places where parts begin

abbrev pub total : List ℕ → ℕ
total [] = 0
total (n ∷ ns) = n + total ns

pub total_append : (xs ys : List ℕ) → total (xs ++ ys) ≡ total xs + total ys
total_append [] ys = omega arith
total_append (x ∷ xs) ys = omega (arith, total_append xs ys)

pub all_length : (segments : List SegmentView) → length (all_steps segments) ≡ total (lengths segments)
all_length [] = refl
all_length (segment ∷ segments) = omega (arith, length-append segment.steps (all_steps segments), all_length segments)

pub starts_append : (place : ℕ) (xs ys : List ℕ) → starts place (xs ++ ys) ≡ starts place xs ++ starts (place + total xs) ys
starts_append place [] ys =
    let same : place ≡ place + 0 = omega arith in
    ap (λ p. starts p ys) same
starts_append place (x ∷ xs) ys =
    let same : place + x + total xs ≡ place + (x + total xs) = omega arith in
    ap (λ places. place ∷ places) (starts_append (place + x) xs ys ∙ ap (λ p. starts (place + x) xs ++ starts p ys) same)

pub start_from : (n place : ℕ) (xs : List ℕ) → has n (starts place xs) ≡ true → place ≤ n
start_from n place [] found = absurd (cc found)
start_from n place (x ∷ xs) found =
    ⊎_elim (λ here. omega (arith, here)) (λ later. omega (arith, start_from n (place + x) xs later)) (first_or_rest place n (starts (place + x) xs) found)

pub start_until : (n place : ℕ) (xs : List ℕ) → has n (starts place xs) ≡ true → n ≤ place + total xs
start_until n place [] found = absurd (cc found)
start_until n place (x ∷ xs) found =
    ⊎_elim (λ here. omega (arith, here)) (λ later. omega (arith, start_until n (place + x) xs later)) (first_or_rest place n (starts (place + x) xs) found)

-- as far after another begin
pub start_moved : (n m place next : ℕ) (xs : List ℕ) → m + place ≡ n + next → has n (starts place xs) ≡ true → has m (starts next xs) ≡ true
start_moved n m place next [] far found = absurd (cc found)
start_moved n m place next (x ∷ xs) far found =
    ⊎_elim
    (λ here.
    let first : m ≡ next = omega (arith, far, here) in
    ap (λ p. has p (starts next (x ∷ xs))) first ∙ has_first next (starts (next + x) xs))
    (λ later. has_rest next m (starts (next + x) xs) (start_moved n m (place + x) (next + x) xs (omega (arith, far)) later))
    (first_or_rest place n (starts (place + x) xs) found)

-- the place of a segment, and the segment of a place
pub start_at : (segments : List SegmentView) (i place : ℕ) (segment : SegmentView) → slice_get segments i ≡ Some segment → has
    (place + length (all_steps (take i segments))) (starts place (lengths segments)) ≡ true
start_at [] i place segment found = absurd (cc found)
start_at (first ∷ segments) zero place segment found =
    let same : place + 0 ≡ place = omega arith in
    ap (λ p. has p (starts place (lengths (first ∷ segments)))) same ∙ has_first place (starts (place + length first.steps) (lengths segments))
start_at (first ∷ segments) (suc i) place segment found =
    let rest = starts (place + length first.steps) (lengths segments) in
    let n = place + length (all_steps (take (suc i) (first ∷ segments))) in
    let same : n ≡ place + length first.steps + length (all_steps (take i segments)) = omega (arith, length-append first.steps (all_steps (take i segments))) in
    has_rest place n rest (ap (λ p. has p rest) same ∙ start_at segments i (place + length first.steps) segment found)

pub start_found : (segments : List SegmentView) (n place : ℕ) → has n (starts place (lengths segments)) ≡ true → (i : ℕ) × (segment : SegmentView) ×
    (slice_get segments i ≡ Some segment) × (n ≡ place + length (all_steps (take i segments)))
start_found [] n place found = absurd (cc found)
start_found (first ∷ segments) n place found =
    ⊎_elim
    (λ here. (0, first, refl, omega (arith, here)))
    (λ later.
    let rest = start_found segments n (place + length first.steps) later in
    (suc rest.0, rest.1, rest.2, omega (arith, rest.3, length-append first.steps (all_steps (take rest.0 segments)))))
    (first_or_rest place n (starts (place + length first.steps) (lengths segments)) found)

pub more_steps : (segments : List SegmentView) (i j : ℕ) → i ≤ j → length (all_steps (take i segments)) ≤ length (all_steps (take j segments))
more_steps segments zero j few = omega arith
more_steps [] (suc i) j few = omega arith
more_steps (first ∷ segments) (suc i) zero few = absurd (omega (arith, few))
more_steps (first ∷ segments) (suc i) (suc j) few =
    omega (
      arith,
      length-append first.steps (all_steps (take i segments)),
      length-append first.steps (all_steps (take j segments)),
      more_steps segments i j
          (omega (arith, few)),
    )

-- where the segment at an index begins
pub starts_at : (segments : List SegmentView) (base index : ℕ) → index < length segments → slice_get (starts base (lengths segments)) index ≡ Some
    (base + length (all_steps (take index segments)))
starts_at [] base index early = absurd (omega (arith, early))
starts_at (first ∷ segments) base zero early =
    let same : base ≡ base + 0 = omega arith in
    ap Some same
starts_at (first ∷ segments) base (suc index) early =
    let same : base + length first.steps + length (all_steps (take index segments)) ≡ base + length (first.steps ++ all_steps (take index segments)) = omega
    (arith, length-append first.steps (all_steps (take index segments))) in
    starts_at segments (base + length first.steps) index (omega (arith, early)) ∙ ap Some same

-- ---- places that ascend

abbrev pub ArePositive : List ℕ → Type 0
ArePositive [] = ⊤
ArePositive (x ∷ xs) = (1 ≤ x) × ArePositive xs

-- each but the last is positive
abbrev pub AreParts : List ℕ → Type 0
AreParts [] = ⊤
AreParts (x ∷ xs) = ((xs ≡ []) ⊎ (1 ≤ x)) × AreParts xs

pub parts_ascend : (place : ℕ) (xs : List ℕ) → AreParts xs → IsStrictlyIncreasing (starts place xs)
parts_ascend place [] parts k within = absurd (omega (arith, within))
parts_ascend place (x ∷ []) parts k within = absurd (omega (arith, within))
parts_ascend place (x ∷ y ∷ ys) parts zero within =
    ⊎_elim (λ none. absurd (cc none)) (λ (some : 1 ≤ x). omega (arith, some)) parts.0
parts_ascend place (x ∷ y ∷ ys) parts (suc k) within =
    let rest = starts (place + x) (y ∷ ys) in
    let next : suc (k + 1) ≡ suc k + 1 = omega arith in
    subst (λ j. slice_index rest k < slice_index (place ∷ rest) j) next (parts_ascend (place + x) (y ∷ ys) parts.1 k (omega (arith, within)))

pub ascend_parts : (place : ℕ) (xs : List ℕ) → IsStrictlyIncreasing (starts place xs) → AreParts xs
ascend_parts place [] up = tt
ascend_parts place (x ∷ []) up = (inl refl, tt)
ascend_parts place (x ∷ y ∷ ys) up = (inr some, ascend_parts (place + x) (y ∷ ys) rest_up)
  where
    rest : List ℕ
    rest = starts (place + x) (y ∷ ys)

    some : 1 ≤ x
    some =
        let low : place < place + x = up 0 (omega arith) in
        omega (arith, low)

    rest_up : (k : ℕ) → k + 1 < length (starts (place + x) (y ∷ ys)) → slice_index (starts (place + x) (y ∷ ys)) k < slice_index (starts (place + x) (y ∷ ys))
        (k + 1)
    rest_up k within =
        let next : suc k + 1 ≡ suc (k + 1) = omega arith in
        subst (λ j. slice_index rest k < slice_index (place ∷ rest) j) next (up (suc k) (omega (arith, within)))

pub parts_back : (xs ys : List ℕ) → AreParts (xs ++ ys) → AreParts ys
parts_back [] ys parts = parts
parts_back (x ∷ xs) ys parts = parts_back xs ys parts.1

pub parts_front : (xs : List ℕ) (y : ℕ) (ys : List ℕ) → AreParts (xs ++ y ∷ ys) → ArePositive xs
parts_front [] y ys parts = tt
parts_front (x ∷ xs) y ys parts = (⊎_elim (λ none. absurd (some xs none)) (λ low. low) parts.0, parts_front xs y ys parts.1)
  where
    some : (xs : List ℕ) → xs ++ y ∷ ys ≡ [] → ⊥
    some [] none = cc none
    some (x ∷ xs) none = cc none

pub parts_join : (xs ys : List ℕ) → ArePositive xs → AreParts ys → AreParts (xs ++ ys)
parts_join [] ys positive parts = parts
parts_join (x ∷ xs) ys positive parts = (inr positive.0, parts_join xs ys positive.1 parts)
