-- Lists in the order of a rank: what a filter, a map and one more item do to them.
use Rattle.std.proofs.Common.{◌≡◌, Bool, true, false, cond, not, ◌||◌, List, [], ◌∷◌, ◌++◌, map, map-id, refl, sym, ap, ◌∙◌, append_assoc, arith}
use Rattle.std.specs.List.{filter, fold, list_any, AllByRecursion}
use Rattle.std.proofs.lemmas.List.Elements.{filter-append}
use Rattle.std.proofs.lemmas.List.{append-nil, map-append}
use Rattle.list_orders.specs.Search.{placed, ranked}
use Rattle.list_orders.proofs.Filters.{filter-filter, filter_agrees, filter_all, filter_none, All-filter, All-filter_passes, All-append, All-weaker}
use Rattle.list_orders.proofs.Filters.{fold-append, list_any-append, list_any_parts, filter-map}

-- of two items one stays in front of the other, and so on along a chain
pub record IsRank {X : Type 0} (front : X → X → Bool) : Type 0 where
  pub total : (a b : X) → front a b ≡ false → front b a ≡ true
  pub chain : (a b c : X) → front a b ≡ true → front b c ≡ true → front a c ≡ true

-- each item splits the list into those that stay in front of it, and those after
Splits : {X : Type 0} → (X → X → Bool) → List X → Type 0
Splits {X} front xs = (x : X) → filter (λ y. front y x) xs ++ filter (λ y. not (front y x)) xs ≡ xs

module _ {X : Type 0} (front : X → X → Bool) where
  abbrev ahead : X → X → Bool
  ahead x y = front y x

  abbrev following : X → X → Bool
  following x y = not (front y x)

  -- an item after the others is placed in their order
  pub ranked-push : (xs : List X) (x : X) → ranked front (xs ++ x ∷ []) ≡ placed front x (ranked front xs)
  unfolding ranked
  ranked-push xs x = fold-append (λ done y. placed front y done) [] xs (x ∷ [])

  pub list_any-placed : (p : X → Bool) (x : X) (xs : List X) → list_any p (placed front x xs) ≡ (p x || list_any p xs)
  unfolding placed
  list_any-placed p x xs = grind (arith, list_any-append p (filter (ahead x) xs) (x ∷ filter (following x) xs), list_any_parts p (ahead x) xs)

  list_any-fold : (p : X → Bool) (done xs : List X) → list_any p (fold (λ done x. placed front x done) done xs) ≡ (list_any p done || list_any p xs)
  list_any-fold p done [] = grind arith
  list_any-fold p done (x ∷ xs) = grind (arith, list_any-fold p (placed front x done) xs, list_any-placed p x done)

  -- a ranked list has the items of the list
  pub list_any-ranked : (p : X → Bool) (xs : List X) → list_any p (ranked front xs) ≡ list_any p xs
  unfolding ranked
  list_any-ranked p xs = list_any-fold p [] xs

  pub All-placed : (P : X → Type 0) (x : X) (xs : List X) → P x → AllByRecursion P xs → AllByRecursion P (placed front x xs)
  unfolding placed
  All-placed P x xs here all = All-append P (filter (ahead x) xs) (x ∷ filter (following x) xs) (All-filter P (ahead x) xs all)
      (here, All-filter P (following x) xs all)

  All-fold : (P : X → Type 0) (done xs : List X) → AllByRecursion P done → AllByRecursion P xs → AllByRecursion P (fold (λ done x. placed front x done) done xs)
  All-fold P done [] before all = before
  All-fold P done (x ∷ xs) before all = All-fold P (placed front x done) xs (All-placed P x done all.0 before) all.1

  pub All-ranked : (P : X → Type 0) (xs : List X) → AllByRecursion P xs → AllByRecursion P (ranked front xs)
  unfolding ranked
  All-ranked P xs all = All-fold P [] xs tt all

  -- a filter that keeps the item places it among those that it keeps
  pub filter-placed : (p : X → Bool) (x : X) (xs : List X) → p x ≡ true → filter p (placed front x xs) ≡ placed front x (filter p xs)
  unfolding placed
  filter-placed p x xs passes = grind (
    arith,
    filter-append p (filter (ahead x) xs) (x ∷ filter (following x) xs),
    passes,
    filter-filter p (ahead x) xs,
    filter-filter p (following x) xs,
  )

  -- a filter that drops it leaves what it keeps of the others
  filter-placed_out : (p : X → Bool) (x : X) (xs : List X) → Splits front xs → p x ≡ false → filter p (placed front x xs) ≡ filter p xs
  unfolding placed Splits
  filter-placed_out p x xs splits fails = grind (
    arith,
    filter-append p (filter (ahead x) xs) (x ∷ filter (following x) xs),
    fails,
    filter-append p
        (filter (ahead x) xs) (filter (following x) xs),
    ap (filter p) (splits x),
  )

  later : IsRank front → (x z : X) → front x z ≡ false → (y : X) → not (front y x) ≡ true → front y z ≡ false
  later rank x z last y off = apart (front y z) refl
    where
      apart : (b : Bool) → front y z ≡ b → b ≡ false
      apart true on = grind (arith, off, last, on, rank.total y x, rank.chain x y z)
      apart false on = refl

  placed_last : (P : X → Type 0) → ((a b : X) → P a → P b → front a b ≡ true) → (done : List X) (x : X) → AllByRecursion P done → P x → placed front x done ≡
      done ++ x ∷ []
  unfolding placed
  placed_last P tie done x before here =
      let all : AllByRecursion (λ y. front y x ≡ true) done = All-weaker P (λ y. front y x ≡ true) (λ y h. tie y x h here) done before in
      grind (
        arith,
        filter_all (ahead x) done all,
        filter_none (following x) done
            (All-weaker (λ y. front y x ≡ true) (λ y. not (front y x) ≡ false) (λ y h. ap not h) done all),
      )

  -- each item still splits a list after one more was placed, where the item goes after x or before it
  splits_after : IsRank front → (x z : X) (xs : List X) → Splits front xs → front x z ≡ true → filter (ahead z) (placed front x xs) ++ filter (following z)
      (placed front x xs) ≡ placed front x xs
  unfolding placed Splits
  splits_after rank x z xs splits first =
      let before = filter (ahead x) xs in
      let after = filter (following x) xs in
      let passes : AllByRecursion (λ y. front y z ≡ true) before = All-weaker (λ y. front y x ≡ true) (λ y. front y z ≡ true) (λ y h. rank.chain y x z h first)
      before (All-filter_passes (ahead x) xs) in
      let kept = filter_all (ahead z) before passes in
      let dropped = filter_none (following z) before (All-weaker (λ y. front y z ≡ true) (λ y. not (front y z) ≡ false) (λ y h. ap not h) before passes) in
      let halves = ap (filter (following x)) (splits z) in
      grind (
        arith,
        filter-append (ahead z) before (x ∷ after),
        filter-append (following z) before (x ∷ after),
        kept,
        dropped,
        first,
        halves,
        filter-append
            (following x) (filter (ahead z) xs) (filter (following z) xs),
        filter-filter (following x) (ahead z) xs,
        filter-filter (following x) (following z) xs,
        append_assoc before (x ∷ filter (ahead z) after) (filter (following z) after),
      )

  splits_before : IsRank front → (x z : X) (xs : List X) → Splits front xs → front x z ≡ false → filter (ahead z) (placed front x xs) ++ filter (following z)
      (placed front x xs) ≡ placed front x xs
  unfolding placed Splits
  splits_before rank x z xs splits last =
      let before = filter (ahead x) xs in
      let after = filter (following x) xs in
      let fails : AllByRecursion (λ y. front y z ≡ false) after = All-weaker (λ y. not (front y x) ≡ true) (λ y. front y z ≡ false) (later rank x z last) after
      (All-filter_passes (following x) xs) in
      let dropped = filter_none (ahead z) after fails in
      let kept = filter_all (following z) after (All-weaker (λ y. front y z ≡ false) (λ y. not (front y z) ≡ true) (λ y h. ap not h) after fails) in
      let halves = ap (filter (ahead x)) (splits z) in
      grind (
        arith,
        filter-append (ahead z) before (x ∷ after),
        filter-append (following z) before (x ∷ after),
        kept,
        dropped,
        last,
        halves,
        filter-append
            (ahead x) (filter (ahead z) xs) (filter (following z) xs),
        filter-filter (ahead x) (ahead z) xs,
        filter-filter (ahead x) (following z) xs,
        append-nil
            (filter (ahead z) before),
        append_assoc (filter (ahead z) before) (filter (following z) before) (x ∷ after),
      )

  splits-placed : IsRank front → (x : X) (xs : List X) → Splits front xs → Splits front (placed front x xs)
  unfolding Splits
  splits-placed rank x xs splits z = either (front x z) refl
    where
      either : (b : Bool) → front x z ≡ b → filter (ahead z) (placed front x xs) ++ filter (following z) (placed front x xs) ≡ placed front x xs
      either true first = splits_after rank x z xs splits first
      either false last = splits_before rank x z xs splits last

  filter-placed_either : (p : X → Bool) (x : X) (xs : List X) → Splits front xs → filter p (placed front x xs) ≡ cond (p x) (placed front x (filter p xs))
      (filter p xs)
  filter-placed_either p x xs splits = either (p x) refl
    where
      either : (b : Bool) → p x ≡ b → filter p (placed front x xs) ≡ cond b (placed front x (filter p xs)) (filter p xs)
      either true passes = filter-placed p x xs passes
      either false fails = filter-placed_out p x xs splits fails

  filter-fold : IsRank front → (p : X → Bool) (done xs : List X) → Splits front done → filter p (fold (λ done x. placed front x done) done xs) ≡ fold
      (λ done x. placed front x done) (filter p done) (filter p xs)
  filter-fold rank p done [] splits = refl
  filter-fold rank p done (x ∷ xs) splits =
      let one = filter-placed_either p x done splits in
      let rest = filter-fold rank p (placed front x done) xs (splits-placed rank x done splits) in
      grind (arith, one, rest)

  -- what a filter keeps of a ranked list is what it keeps of the list, ranked
  pub filter-ranked : IsRank front → (p : X → Bool) (xs : List X) → filter p (ranked front xs) ≡ ranked front (filter p xs)
  unfolding ranked Splits
  filter-ranked rank p xs = filter-fold rank p [] xs (λ x. refl)

  same-fold : (P : X → Type 0) → ((a b : X) → P a → P b → front a b ≡ true) → (done xs : List X) → AllByRecursion P done → AllByRecursion P xs → fold
      (λ done x. placed front x done) done xs ≡ done ++ xs
  same-fold P tie done [] before all = sym (append-nil done)
  same-fold P tie done (x ∷ xs) before all =
      let last = placed_last P tie done x before all.0 in
      let rest = same-fold P tie (done ++ x ∷ []) xs (All-append P done (x ∷ []) before (all.0, tt)) all.1 in
      grind (arith, last, rest, append_assoc done (x ∷ []) xs)

  -- a list whose items are of one rank stays as it is
  pub ranked_same : (P : X → Type 0) → ((a b : X) → P a → P b → front a b ≡ true) → (xs : List X) → AllByRecursion P xs → ranked front xs ≡ xs
  unfolding ranked
  ranked_same P tie xs all = same-fold P tie [] xs tt all

module _ {X Y : Type 0} (front : X → X → Bool) (other : Y → Y → Bool) (f : X → Y) (P : X → Type 0)
    (keeps : (a b : X) → P a → P b → other (f a) (f b) ≡ front a b) where
  map-placed : (x : X) (xs : List X) → P x → AllByRecursion P xs → map f (placed front x xs) ≡ placed other (f x) (map f xs)
  unfolding placed
  map-placed x xs here all =
      let ahead_same = filter_agrees (λ y. other (f y) (f x)) (λ y. front y x) xs
      (All-weaker P (λ y. other (f y) (f x) ≡ front y x) (λ y h. keeps y x h here) xs all) in
      let after_same = filter_agrees (λ y. not (other (f y) (f x))) (λ y. not (front y x)) xs
      (All-weaker P (λ y. not (other (f y) (f x)) ≡ not (front y x)) (λ y h. ap not (keeps y x h here)) xs all) in
      grind (
        arith,
        map-append f (filter (λ y. front y x) xs) (x ∷ filter (λ y. not (front y x)) xs),
        filter-map (λ y. other y (f x)) f xs,
        filter-map
            (λ y. not (other y (f x))) f xs,
        ahead_same,
        after_same,
      )

  map-fold : (done xs : List X) → AllByRecursion P done → AllByRecursion P xs → map f (fold (λ done x. placed front x done) done xs) ≡ fold
      (λ done y. placed other y done) (map f done) (map f xs)
  map-fold done [] before all = refl
  map-fold done (x ∷ xs) before all = map-fold (placed front x done) xs (All-placed front P x done all.0 before) all.1 ∙ ap
      (λ ys. fold (λ done y. placed other y done) ys (map f xs)) (map-placed x done all.0 before)

  -- a map that keeps the rank of items of P keeps the order of a ranked list of them
  pub map-ranked : (xs : List X) → AllByRecursion P xs → map f (ranked front xs) ≡ ranked other (map f xs)
  unfolding ranked
  map-ranked xs all = map-fold [] xs tt all

-- two ranks that agree on the items of P rank a list of them alike
pub ranked_agrees : {X : Type 0} (front other : X → X → Bool) (P : X → Type 0) → ((a b : X) → P a → P b → other a b ≡ front a b) → (xs : List X) →
    AllByRecursion P xs → ranked other xs ≡ ranked front xs
ranked_agrees front other P same xs all = ap (ranked other) (sym (map-id xs)) ∙ sym (map-ranked front other (λ x. x) P same xs all) ∙ map-id (ranked front xs)
