-- Lists whose items are all different.
use Rattle.std.proofs.Common.{◌≡◌, ◌≢◌, ℕ, zero, suc, ◌+◌, ◌<◌, ◌≤◌, Bool, true, ◌&&◌, ltb, leb, List, [], ◌∷◌, ◌++◌, map, flat_map, AllPairs, ap, subst, arith}
use Rattle.std.specs.List.{range_with_len, AllByRecursion}
use Rattle.std.proofs.lemmas.Bool.{and_parts}
use Rattle.std.proofs.lemmas.Bool.Decides.{nat_tests}
use Rattle.std.proofs.lemmas.List.Elements.{All-from_recursion}
use Rattle.std.proofs.lemmas.List.Kept.{AllPairs-cons}
use Rattle.list_orders.specs.Search.{numbers}
use Rattle.list_orders.proofs.Filters.{All-append, All-weaker}
use Rattle.list_orders.proofs.Stamped.{range_all}

-- no item is one after it
abbrev pub Apart : {X : Type 0} → List X → Type 0
Apart [] = Unit {0}
Apart (x ∷ xs) = AllByRecursion (λ y. x ≢ y) xs × Apart xs

pub all_map : {X Y : Type 0} (P : Y → Type 0) (f : X → Y) (xs : List X) → AllByRecursion (λ x. P (f x)) xs → AllByRecursion P (map f xs)
all_map P f [] each = tt
all_map P f (x ∷ xs) each = (each.0, all_map P f xs each.1)

pub all_flat_map : {X Y : Type 0} (P : Y → Type 0) (f : X → List Y) (xs : List X) → AllByRecursion (λ x. AllByRecursion P (f x)) xs → AllByRecursion P (flat_map f xs)
all_flat_map P f [] each = tt
all_flat_map P f (x ∷ xs) each = All-append P (f x) (flat_map f xs) each.0 (all_flat_map P f xs each.1)

pub apart_pairs : {X : Type 0} (xs : List X) → Apart xs → AllPairs (λ x y. x ≢ y) xs
apart_pairs [] apart = λ i j d before within. absurd (omega arith)
apart_pairs (x ∷ xs) apart =
    AllPairs-cons (λ x y. x ≢ y) x xs (All-from_recursion (λ y. x ≢ y) xs apart.0) (apart_pairs xs apart.1)

pub apart_append : {X : Type 0} (xs ys : List X) → Apart xs → Apart ys → AllByRecursion (λ x. AllByRecursion (λ y. x ≢ y) ys) xs → Apart (xs ++ ys)
apart_append [] ys left right across = right
apart_append (x ∷ xs) ys left right across =
    (All-append (λ y. x ≢ y) xs ys left.0 across.0, apart_append xs ys left.1 right across.1)

-- what belongs to one item each, as names to their subject
module _ {X Y : Type 0} (Of : X → Y → Type 0) (one : (x z : X) (y : Y) → Of x y → Of z y → x ≡ z) where
  module _ (f : X → List Y) where
    away : (x : X) (y : Y) → Of x y → (zs : List X) → AllByRecursion (λ z. x ≢ z) zs → AllByRecursion (λ z. AllByRecursion (Of z) (f z)) zs
        → AllByRecursion (λ w. y ≢ w) (flat_map f zs)
    away x y of [] others all = tt
    away x y of (z ∷ zs) others all =
        All-append (λ w. y ≢ w) (f z) (flat_map f zs)
        (All-weaker (Of z) (λ w. y ≢ w) (λ w its same. others.0 (one x z w (subst (Of x) same of) its)) (f z) all.0)
        (away x y of zs others.1 all.1)

    pub apart_flat_map : (xs : List X) → Apart xs → AllByRecursion (λ x. Apart (f x)) xs → AllByRecursion (λ x. AllByRecursion (Of x) (f x)) xs → Apart
        (flat_map f xs)
    apart_flat_map [] apart each all = tt
    apart_flat_map (x ∷ xs) apart each all =
        apart_append (f x) (flat_map f xs) each.0 (apart_flat_map xs apart.1 each.1 all.1)
        (All-weaker (Of x) (λ y. AllByRecursion (λ w. y ≢ w) (flat_map f xs)) (λ y of. away x y of xs apart.0 all.1) (f x) all.0)

  pub apart_map : (g : X → Y) (xs : List X) → Apart xs → AllByRecursion (λ x. Of x (g x)) xs → Apart (map g xs)
  apart_map g [] apart all = tt
  apart_map g (x ∷ xs) apart all = (others xs apart.0 all.1, apart_map g xs apart.1 all.1)
    where
      others : (zs : List X) → AllByRecursion (λ z. x ≢ z) zs → AllByRecursion (λ z. Of z (g z)) zs → AllByRecursion (λ w. g x ≢ w) (map g zs)
      others [] apart its = tt
      others (z ∷ zs) apart its = ((λ same. apart.0 (one x z (g z) (subst (Of x) same all.0) its.0)), others zs apart.1 its.1)

range_apart : (a n : ℕ) → Apart (range_with_len a n)
range_apart a zero = tt
range_apart a (suc n) = (
  All-weaker (λ i. (a + 1 ≤ i) × (i < a + 1 + n)) (λ i. a ≢ i) (λ i within same. omega (arith, within.0, same)) (range_with_len (a + 1) n) (range_all (a + 1) n),
  range_apart (a + 1) n,
)

pub numbers_apart : (n : ℕ) → Apart (numbers n)
numbers_apart n = range_apart 0 n

-- ranks that rise, from one on and below another
abbrev pub rises : ℕ → ℕ → List ℕ → Bool
rises low high [] = true
rises low high (n ∷ ns) = leb low n && (ltb n high && rises (n + 1) high ns)

-- Lists of ranked items of which something holds, by stretches of their ranks.
module _ {X : Type 0} (rank : X → ℕ) (P : X → Type 0) where
  abbrev pub IsWithin : ℕ → ℕ → X → Type 0
  IsWithin low high x = (low ≤ rank x) × (rank x < high) × P x

  -- items of ranks from low on and below high, all different
  abbrev pub Stretch : ℕ → ℕ → List X → Type 0
  Stretch low high xs = AllByRecursion (IsWithin low high) xs × Apart xs

  pub stretch : (low high : ℕ) (xs : List X) → rises low high (map rank xs) ≡ true → AllByRecursion P xs → Stretch low high xs
  stretch low high [] rise all = (tt, tt)
  stretch low high (x ∷ xs) rise all =
      let parts = and_parts (leb low (rank x)) (ltb (rank x) high && rises (rank x + 1) high (map rank xs)) rise in
      let others = and_parts (ltb (rank x) high) (rises (rank x + 1) high (map rank xs)) parts.1 in
      let least : low ≤ rank x = grind (arith, nat_tests, parts.0) in
      let most : rank x < high = grind (arith, nat_tests, others.0) in
      let later = stretch (rank x + 1) high xs others.1 all.1 in (
        (
          (least, most, all.0),
          All-weaker (IsWithin (rank x + 1) high) (IsWithin low high) (λ y within. (omega (arith, within.0, least), within.1, within.2)) xs later.0,
        ),
        (
          All-weaker (IsWithin (rank x + 1) high) (λ y. x ≢ y) (λ y within same. omega (arith, within.0, ap rank same)) xs later.0,
          later.1,
        ),
      )

  pub join : (low mid high : ℕ) (xs ys : List X) → low ≤ mid → mid ≤ high → Stretch low mid xs → Stretch mid high ys → Stretch low high (xs ++ ys)
  join low mid high xs ys first last left right = (
    All-append (IsWithin low high) xs ys
        (All-weaker (IsWithin low mid) (IsWithin low high) (λ x within. (within.0, omega (arith, within.1, last), within.2)) xs left.0)
        (All-weaker (IsWithin mid high) (IsWithin low high) (λ y within. (omega (arith, within.0, first), within.1, within.2)) ys right.0),
    apart_append xs ys left.1 right.1
        (All-weaker (IsWithin low mid) (λ x. AllByRecursion (λ y. x ≢ y) ys)
        (λ x lower. All-weaker (IsWithin mid high) (λ y. x ≢ y) (λ y upper same. omega (arith, lower.1, upper.0, ap rank same)) ys right.0) xs left.0),
  )

  -- the items of each of some, which belong to one of them
  pub join_all : {Z : Type 0} (Of : Z → X → Type 0) → ((y z : Z) (x : X) → Of y x → Of z x → y ≡ z) → (f : Z → List X) (low high : ℕ) (zs : List Z) → Apart zs →
      AllByRecursion (λ z. Stretch low high (f z)) zs → AllByRecursion (λ z. AllByRecursion (Of z) (f z)) zs → Stretch low high (flat_map f zs)
  join_all {Z} Of one f low high zs apart each its = (
    all_flat_map (IsWithin low high) f zs
        (All-weaker (λ z. Stretch low high (f z)) (λ z. AllByRecursion (IsWithin low high) (f z)) (λ z both. both.0) zs each),
    apart_flat_map Of one f zs apart (All-weaker (λ z. Stretch low high (f z)) (λ z. Apart (f z)) (λ z both. both.1) zs each) its,
  )

  pub join_map : {Z : Type 0} (Of : Z → X → Type 0) → ((y z : Z) (x : X) → Of y x → Of z x → y ≡ z) → (g : Z → X) (low high : ℕ) (zs : List Z) → Apart zs →
      AllByRecursion (λ z. IsWithin low high (g z)) zs → AllByRecursion (λ z. Of z (g z)) zs → Stretch low high (map g zs)
  join_map Of one g low high zs apart each its = (all_map (IsWithin low high) g zs each, apart_map Of one g zs apart its)

-- of which something else holds too
pub stretch_weaker : {X : Type 0} (rank : X → ℕ) (P Q : X → Type 0) → ((x : X) → P x → Q x) → (low high : ℕ) (xs : List X) → Stretch rank P low high xs →
    Stretch rank Q low high xs
stretch_weaker rank P Q weaker low high xs whole =
    (All-weaker (IsWithin rank P low high) (IsWithin rank Q low high) (λ x within. (within.0, within.1, weaker x within.2)) xs whole.0, whole.1)

-- below a higher rank too
pub stretch_higher : {X : Type 0} (rank : X → ℕ) (P : X → Type 0) (low mid high : ℕ) (xs : List X) → mid ≤ high → Stretch rank P low mid xs → Stretch rank P low
    high xs
stretch_higher rank P low mid high xs below whole = (
  All-weaker (IsWithin rank P low mid) (IsWithin rank P low high) (λ x within. (within.0, omega (arith, within.1, below), within.2)) xs whole.0,
  whole.1,
)
