-- What lists contain: of a test, a map, a filter, and of stretches.
use Rattle.std.proofs.Common.{◌≡◌, ◌<◌, ℕ, zero, suc, List, [], ◌∷◌, filter, flat_map, map, Bool, true, false, inl, inr, refl, sym, ap, subst, ◌∙◌, zero-add, true≢false, arith}
use Rattle.std.specs.Prelude.{◌⊎◌, ◌||◌, Contains, Decides, if◌then◌else◌}
use Rattle.std.specs.List.{list_any}
use Rattle.std.proofs.lemmas.List.Elements.{Contains-append_cases, Contains-append_left, Contains-append_right}
use Rattle.std.proofs.lemmas.List.FromFn.{get_or-range_with_len, length-range_with_len}
use Rattle.list_orders.specs.Search.{numbers}
use Rattle.run_pictures.specs.declared.stretch.Stretch.{Stretch}
use Rattle.run_pictures.specs.StretchesOf.{extended, stretches_of}

pub or_true : (a b : Bool) → b ≡ true → (a || b) ≡ true
or_true true b is = refl
or_true false b is = is

module _ {X : Type 0} where
  pub none : (y : X) → Contains [] y → ⊥
  none y (k, within, is) = omega (arith, within)

  pub here : (x : X) (xs : List X) → Contains (x ∷ xs) x
  here x xs = (0, omega arith, refl)

  pub there : (x y : X) (xs : List X) → Contains xs y → Contains (x ∷ xs) y
  there x y xs (k, within, is) = (suc k, omega (arith, within), is)

  pub here_or : (x y : X) (xs : List X) → Contains (x ∷ xs) y → (x ≡ y) ⊎ Contains xs y
  here_or x y xs (zero, within, is) = inl is
  here_or x y xs (suc k, within, is) = inr (k, omega (arith, within), is)

  -- ---- tests

  pub any_from : (p : X → Bool) (xs : List X) → list_any p xs ≡ true → (x : X) × Contains xs x × (p x ≡ true)
  any_from p [] is = absurd (true≢false (sym is))
  any_from p (x ∷ xs) is = at (p x) refl (any_from p xs) is
    where
      at : (b : Bool) → p x ≡ b → (list_any p xs ≡ true → (y : X) × Contains xs y × (p y ≡ true)) → (b || list_any p xs) ≡ true
          → (y : X) × Contains (x ∷ xs) y × (p y ≡ true)
      at true passes more is = (x, here x xs, passes)
      at false fails more is = let rest = more is in (rest.0, there x rest.0 xs rest.1, rest.2)

  pub any_to : (p : X → Bool) (xs : List X) (x : X) → Contains xs x → p x ≡ true → list_any p xs ≡ true
  any_to p [] x has is = absurd (none x has)
  any_to p (y ∷ xs) x has is = elim (here_or y x xs has) [
    | inl same ↦ ap (λ b. b || list_any p xs) (ap p same ∙ is)
    | inr rest ↦ or_true (p y) (list_any p xs) (any_to p xs x rest is)
  ]

  pub filter_to : (p : X → Bool) (xs : List X) (x : X) → Contains xs x → p x ≡ true → Contains (filter p xs) x
  filter_to p [] x has is = absurd (none x has)
  filter_to p (y ∷ xs) x has is = at (p y) refl (λ rest. filter_to p xs x rest is)
    where
      at : (b : Bool) → p y ≡ b → (Contains xs x → Contains (filter p xs) x) → Contains (if b then y ∷ filter p xs else filter p xs) x
      at true passes more = elim (here_or y x xs has) [
        | inl same ↦ subst (λ z. Contains (z ∷ filter p xs) x) (sym same) (here x (filter p xs))
        | inr rest ↦ there y x (filter p xs) (more rest)
      ]
      at false fails more = elim (here_or y x xs has) [
        | inl same ↦ absurd (true≢false (sym is ∙ sym (ap p same) ∙ fails))
        | inr rest ↦ more rest
      ]

  pub filter_from : (p : X → Bool) (xs : List X) (x : X) → Contains (filter p xs) x → Contains xs x × (p x ≡ true)
  filter_from p [] x has = absurd (none x has)
  filter_from p (y ∷ xs) x has = at (p y) refl (filter_from p xs x) has
    where
      at : (b : Bool) → p y ≡ b → (Contains (filter p xs) x → Contains xs x × (p x ≡ true)) → Contains (if b then y ∷ filter p xs else filter p xs) x
          → Contains (y ∷ xs) x × (p x ≡ true)
      at true passes more has = elim (here_or y x (filter p xs) has) [
        | inl same ↦ (subst (λ z. Contains (z ∷ xs) x) (sym same) (here x xs), sym (ap p same) ∙ passes)
        | inr rest ↦ let found = more rest in (there y x xs found.0, found.1)
      ]
      at false fails more has = let found = more has in (there y x xs found.0, found.1)

module _ {X Y : Type 0} where
  pub flat_to : (f : X → List Y) (xs : List X) (x : X) (y : Y) → Contains xs x → Contains (f x) y → Contains (flat_map f xs) y
  flat_to f [] x y has is = absurd (none x has)
  flat_to f (z ∷ xs) x y has is = elim (here_or z x xs has) [
    | inl same ↦ Contains-append_left (f z) (flat_map f xs) y (subst (λ z. Contains (f z) y) (sym same) is)
    | inr rest ↦ Contains-append_right (f z) (flat_map f xs) y (flat_to f xs x y rest is)
  ]

  pub flat_from : (f : X → List Y) (xs : List X) (y : Y) → Contains (flat_map f xs) y → (x : X) × Contains xs x × Contains (f x) y
  flat_from f [] y has = absurd (none y has)
  flat_from f (z ∷ xs) y has = elim (Contains-append_cases (f z) (flat_map f xs) y has) [
    | inl first ↦ (z, here z xs, first)
    | inr rest ↦ let found = flat_from f xs y rest in (found.0, there z found.0 xs found.1, found.2)
  ]

  pub map_to : (f : X → Y) (xs : List X) (x : X) → Contains xs x → Contains (map f xs) (f x)
  map_to f [] x has = absurd (none x has)
  map_to f (z ∷ xs) x has = elim (here_or z x xs has) [
    | inl same ↦ subst (λ z. Contains (f z ∷ map f xs) (f x)) (sym same) (here (f x) (map f xs))
    | inr rest ↦ there (f z) (f x) (map f xs) (map_to f xs x rest)
  ]

  pub map_from : (f : X → Y) (xs : List X) (y : Y) → Contains (map f xs) y → (x : X) × Contains xs x × (f x ≡ y)
  map_from f [] y has = absurd (none y has)
  map_from f (z ∷ xs) y has = elim (here_or (f z) y (map f xs) has) [
    | inl same ↦ (z, here z xs, same)
    | inr rest ↦ let found = map_from f xs y rest in (found.0, there z found.0 xs found.1, found.2)
  ]

pub number_to : (n k : ℕ) → k < n → Contains (numbers n) k
number_to n k few = (k, omega (arith, few, length-range_with_len 0 n), get_or-range_with_len 0 n k k few ∙ zero-add k)

pub number_from : (n k : ℕ) → Contains (numbers n) k → k < n
number_from n k (i, within, is) =
    let few : i < n = omega (arith, within, length-range_with_len 0 n) in
    omega (arith, few, is, get_or-range_with_len 0 n i k few)

-- ---- stretches

-- one of the stretches has the value
abbrev pub HasValue : {X : Type 0} → List (Stretch X) → X → Type 0
HasValue {X} stretches value = (stretch : Stretch X) × Contains stretches stretch × (stretch.value ≡ value)

module _ {X : Type 0} (same : X → X → Bool) (tells : (a b : X) → Decides (same a b) (a ≡ b)) where
  next_from : (place : ℕ) (value other : X) (stretches : List (Stretch X)) → HasValue (extended same place value stretches) other →
      (value ≡ other) ⊎ HasValue stretches other
  next_from place value other [] (stretch, has, is) = elim (here_or (record { first = place; last = place; value = value }) stretch [] has) [
    | inl one ↦ inl (ap (λ (s : Stretch X). s.value) one ∙ is)
    | inr rest ↦ absurd (none stretch rest)
  ]
  next_from place value other (first ∷ stretches) (stretch, has, is) = at (same first.value value) has
    where
      at : (b : Bool) → Contains (if b then record first { first = place } ∷ stretches else record { first = place; last = place; value = value } ∷ first ∷
          stretches) stretch → (value ≡ other) ⊎ HasValue (first ∷ stretches) other
      at true has = elim (here_or (record first { first = place }) stretch stretches has) [
        | inl one ↦ inr (first, here first stretches, ap (λ (s : Stretch X). s.value) one ∙ is)
        | inr rest ↦ inr (stretch, there first stretch stretches rest, is)
      ]
      at false has = elim (here_or (record { first = place; last = place; value = value }) stretch (first ∷ stretches) has) [
        | inl one ↦ inl (ap (λ (s : Stretch X). s.value) one ∙ is)
        | inr rest ↦ inr (stretch, rest, is)
      ]

  pub value_from : (place : ℕ) (values : List X) (value : X) → HasValue (stretches_of same place values) value → Contains values value
  value_from place [] value (stretch, has, is) = absurd (none stretch has)
  value_from place (first ∷ values) value has = elim (next_from place first value (stretches_of same (suc place) values) has) [
    | inl one ↦ subst (λ v. Contains (v ∷ values) value) (sym one) (here value values)
    | inr rest ↦ there first value values (value_from (suc place) values value rest)
  ]

  first_to : (place : ℕ) (value : X) (stretches : List (Stretch X)) → HasValue (extended same place value stretches) value
  first_to place value [] = (record { first = place; last = place; value = value }, here _ [], refl)
  first_to place value (first ∷ stretches) = at (same first.value value) (tells first.value value)
    where
      at : (b : Bool) → Decides b (first.value ≡ value) → HasValue
          (if b then record first { first = place } ∷ stretches else record { first = place; last = place; value = value } ∷ first ∷ stretches) value
      at true decides = (record first { first = place }, here _ stretches, decides.0 refl)
      at false decides = (record { first = place; last = place; value = value }, here _ (first ∷ stretches), refl)

  next_to : (place : ℕ) (value other : X) (stretches : List (Stretch X)) → HasValue stretches other → HasValue (extended same place value stretches) other
  next_to place value other [] (stretch, has, is) = absurd (none stretch has)
  next_to place value other (first ∷ stretches) (stretch, has, is) = at (same first.value value)
    where
      at : (b : Bool) → HasValue (if b then record first { first = place } ∷ stretches else record { first = place; last = place; value = value } ∷ first ∷
          stretches) other
      at true = elim (here_or first stretch stretches has) [
        | inl one ↦ (record first { first = place }, here _ stretches, ap (λ (s : Stretch X). s.value) one ∙ is)
        | inr rest ↦ (stretch, there _ stretch stretches rest, is)
      ]
      at false = (stretch, there _ stretch (first ∷ stretches) has, is)

  pub value_to : (place : ℕ) (values : List X) (value : X) → Contains values value → HasValue (stretches_of same place values) value
  value_to place [] value has = absurd (none value has)
  value_to place (first ∷ values) value has = elim (here_or first value values has) [
    | inl one ↦ subst (λ v. HasValue (extended same place v (stretches_of same (suc place) values)) value) (sym one)
        (first_to place value (stretches_of same (suc place) values))
    | inr rest ↦ next_to place first value (stretches_of same (suc place) values) (value_to (suc place) values value rest)
  ]
