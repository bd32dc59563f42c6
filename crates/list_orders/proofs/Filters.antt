-- Filters of lists, and which of two tests pass what a filter keeps.
use Rattle.std.proofs.Common.{◌≡◌, ℕ, Bool, true, false, cond, not, eqb, ◌&&◌, ◌||◌, List, [], ◌∷◌, ◌++◌, map, Some, None, refl, ap, arith}
use Rattle.std.specs.List.{filter, find, fold, list_any, list_all, AllByRecursion}
use Rattle.std.proofs.lemmas.Bool.Decides.{nat_tests}
use Rattle.std.proofs.lemmas.Bool.{eqb-true}
use Rattle.std.proofs.Common.{subst}
use Rattle.list_orders.specs.Search.{has}

module _ {X : Type 0} where
  pub filter-filter : (p q : X → Bool) (xs : List X) → filter p (filter q xs) ≡ filter q (filter p xs)
  filter-filter p q [] = refl
  filter-filter p q (x ∷ xs) = grind (arith, filter-filter p q xs)

  pub filter_both : (p q : X → Bool) (xs : List X) → filter (λ x. p x && q x) xs ≡ filter q (filter p xs)
  filter_both p q [] = refl
  filter_both p q (x ∷ xs) = grind (arith, filter_both p q xs)

  pub filter_agrees : (p q : X → Bool) (xs : List X) → AllByRecursion (λ x. p x ≡ q x) xs → filter p xs ≡ filter q xs
  filter_agrees p q [] same = refl
  filter_agrees p q (x ∷ xs) same = grind (arith, same.0, filter_agrees p q xs same.1)

  pub filter_all : (p : X → Bool) (xs : List X) → AllByRecursion (λ x. p x ≡ true) xs → filter p xs ≡ xs
  filter_all p [] passes = refl
  filter_all p (x ∷ xs) passes = grind (arith, passes.0, filter_all p xs passes.1)

  pub filter_none : (p : X → Bool) (xs : List X) → AllByRecursion (λ x. p x ≡ false) xs → filter p xs ≡ []
  filter_none p [] fails = refl
  filter_none p (x ∷ xs) fails = grind (arith, fails.0, filter_none p xs fails.1)

  pub list_any_none : (p : X → Bool) (xs : List X) → AllByRecursion (λ x. p x ≡ false) xs → list_any p xs ≡ false
  list_any_none p [] fails = refl
  list_any_none p (x ∷ xs) fails = grind (arith, fails.0, list_any_none p xs fails.1)

  pub All-filter : (P : X → Type 0) (p : X → Bool) (xs : List X) → AllByRecursion P xs → AllByRecursion P (filter p xs)
  All-filter P p [] all = tt
  All-filter P p (x ∷ xs) all = elim (p x) as (λ b. AllByRecursion P (cond b (x ∷ filter p xs) (filter p xs)))
      [ true ↦ (all.0, All-filter P p xs all.1) | false ↦ All-filter P p xs all.1 ]

  pub All-filter_passes : (p : X → Bool) (xs : List X) → AllByRecursion (λ x. p x ≡ true) (filter p xs)
  All-filter_passes p [] = tt
  All-filter_passes p (x ∷ xs) = kept (p x) refl (All-filter_passes p xs)
    where
      kept : (b : Bool) → p x ≡ b → AllByRecursion (λ y. p y ≡ true) (filter p xs) → AllByRecursion (λ y. p y ≡ true) (cond b (x ∷ filter p xs) (filter p xs))
      kept true passes rest = (passes, rest)
      kept false fails rest = rest

  pub All-weaker : (P Q : X → Type 0) → ((x : X) → P x → Q x) → (xs : List X) → AllByRecursion P xs → AllByRecursion Q xs
  All-weaker P Q weaker [] all = tt
  All-weaker P Q weaker (x ∷ xs) all = (weaker x all.0, All-weaker P Q weaker xs all.1)

  pub All-both : (P Q : X → Type 0) (xs : List X) → AllByRecursion P xs → AllByRecursion Q xs → AllByRecursion (λ x. P x × Q x) xs
  All-both P Q [] ps qs = tt
  All-both P Q (x ∷ xs) ps qs = ((ps.0, qs.0), All-both P Q xs ps.1 qs.1)

  pub All_each : (P : X → Type 0) → ((x : X) → P x) → (xs : List X) → AllByRecursion P xs
  All_each P each [] = tt
  All_each P each (x ∷ xs) = (each x, All_each P each xs)

  pub All-append : (P : X → Type 0) (xs ys : List X) → AllByRecursion P xs → AllByRecursion P ys → AllByRecursion P (xs ++ ys)
  All-append P [] ys left right = right
  All-append P (x ∷ xs) ys left right = (left.0, All-append P xs ys left.1 right)

  pub fold-append : {A : Type 0} (f : A → X → A) (a : A) (xs ys : List X) → fold f a (xs ++ ys) ≡ fold f (fold f a xs) ys
  fold-append f a [] ys = refl
  fold-append f a (x ∷ xs) ys = fold-append f (f a x) xs ys

  pub list_any-append : (p : X → Bool) (xs ys : List X) → list_any p (xs ++ ys) ≡ (list_any p xs || list_any p ys)
  list_any-append p [] ys = refl
  list_any-append p (x ∷ xs) ys = grind (arith, list_any-append p xs ys)

  -- what passes a test is among those that a filter keeps or among those that it drops
  pub list_any_parts : (p q : X → Bool) (xs : List X) → (list_any p (filter q xs) || list_any p (filter (λ x. not (q x)) xs)) ≡ list_any p xs
  list_any_parts p q [] = refl
  list_any_parts p q (x ∷ xs) = grind (arith, list_any_parts p q xs)

  pub find_filter : (p : X → Bool) (xs : List X) → find p xs ≡ find (λ _. true) (filter p xs)
  find_filter p [] = refl
  find_filter p (x ∷ xs) = grind (arith, find_filter p xs)

  pub find_none : (p : X → Bool) (xs : List X) → AllByRecursion (λ x. p x ≡ false) xs → find p xs ≡ None
  find_none p [] fails = refl
  find_none p (x ∷ xs) fails = grind (arith, fails.0, find_none p xs fails.1)

  -- where all that pass are one item, that is found or none
  pub find_sole : (p : X → Bool) (x : X) (xs : List X) → AllByRecursion (λ y. p y ≡ true → y ≡ x) xs → find p xs ≡ cond (list_any p xs) (Some x) None
  find_sole p x [] sole = refl
  find_sole p x (y ∷ ys) sole = at (p y) refl (find_sole p x ys sole.1)
    where
      at : (b : Bool) → p y ≡ b → find p ys ≡ cond (list_any p ys) (Some x) None → cond b (Some y) (find p ys) ≡ cond (b || list_any p ys) (Some x) None
      at true is rest = ap Some (sole.0 is)
      at false is rest = rest

  pub list_all_from : (p : X → Bool) (xs : List X) → AllByRecursion (λ x. p x ≡ true) xs → list_all p xs ≡ true
  list_all_from p [] passes = refl
  list_all_from p (x ∷ xs) passes = grind (arith, passes.0, list_all_from p xs passes.1)

  pub list_all_each : (p : X → Bool) (xs : List X) → list_all p xs ≡ true → AllByRecursion (λ x. p x ≡ true) xs
  list_all_each p [] passes = tt
  list_all_each p (x ∷ xs) passes = (grind (arith, passes), list_all_each p xs (grind (arith, passes)))

module _ {X Y : Type 0} where
  pub map_agrees : (f g : X → Y) (xs : List X) → AllByRecursion (λ x. f x ≡ g x) xs → map f xs ≡ map g xs
  map_agrees f g [] same = refl
  map_agrees f g (x ∷ xs) same = grind (arith, same.0, map_agrees f g xs same.1)

  pub filter-map : (p : Y → Bool) (f : X → Y) (xs : List X) → filter p (map f xs) ≡ map f (filter (λ x. p (f x)) xs)
  filter-map p f [] = refl
  filter-map p f (x ∷ xs) = grind (arith, filter-map p f xs)

  pub list_any-map : (p : Y → Bool) (f : X → Y) (xs : List X) → list_any p (map f xs) ≡ list_any (λ x. p (f x)) xs
  list_any-map p f [] = refl
  list_any-map p f (x ∷ xs) = ap (λ b. p (f x) || b) (list_any-map p f xs)

  pub All-map : (P : Y → Type 0) (f : X → Y) (xs : List X) → AllByRecursion (λ x. P (f x)) xs → AllByRecursion P (map f xs)
  All-map P f [] all = tt
  All-map P f (x ∷ xs) all = (all.0, All-map P f xs all.1)

-- what holds of each number of a list holds of one that it has
pub All-has : (P : ℕ → Type 0) (n : ℕ) (ns : List ℕ) → AllByRecursion P ns → has n ns ≡ true → P n
All-has P n [] all found = absurd (cc)
All-has P n (m ∷ ms) all found = at (eqb m n) refl (All-has P n ms all.1)
  where
    at : (b : Bool) → eqb m n ≡ b → (has n ms ≡ true → P n) → P n
    at true same rest = subst P (eqb-true m n same) all.0
    at false other rest = rest (grind (arith, found, other))

pub has-filter : (p : ℕ → Bool) (n : ℕ) (ns : List ℕ) → has n (filter p ns) ≡ (p n && has n ns)
has-filter p n [] = grind arith
has-filter p n (m ∷ ms) = grind (arith, nat_tests, has-filter p n ms)

-- the one number of a list that passes a test is what a search finds
pub find_unique : (p : ℕ → Bool) (n : ℕ) (ns : List ℕ) → has n ns ≡ true → p n ≡ true → AllByRecursion (λ m. p m ≡ true → m ≡ n) ns → find p ns ≡ Some n
find_unique p n [] found passes only = absurd (cc)
find_unique p n (m ∷ ms) found passes only = grind (arith, nat_tests, found, passes, only.0, find_unique p n ms)
