-- Paths and rings: what stands beside a node, and what a node that comes or goes leaves of them.
use Rattle.std.proofs.Common.{◌≡◌, ◌≢◌, ℕ, ◌<◌, true, false, eqb, List, [], ◌∷◌, ◌++◌, length, reverse, set, get_or, refl, sym, ap, subst, ◌∙◌, arith}
use Rattle.std.proofs.Common.{get_or-set_other, get_or-set_same, length-set, append_assoc}
use Rattle.std.specs.List.{IsDistinct, AllByRecursion}
use Rattle.std.proofs.lemmas.Bool.Decides.{nat_tests}
use Rattle.std.proofs.lemmas.Grind.{reverse_onto}
use Rattle.std.proofs.lemmas.List.{reverse-append, set_comm}
use Rattle.std.proofs.lemmas.List.Sorted.{IsPermutation-reverse}
use Rattle.std.proofs.lemmas.Map.Keys.{IsDistinct-IsPermutation}
use Rattle.list_orders.specs.Search.{has}
use Rattle.list_orders.proofs.Filters.{list_any-append}
use Rattle.index_lists.specs.Rings.{IsPath, IsRing, first_or, last_or}

-- what stands between two parts of a path
pub path_middle : (named : List ℕ) (from : ℕ) (xs ys : List ℕ) (to : ℕ) → IsPath named from (xs ++ ys) to → get_or named (last_or from xs) 0 ≡ first_or to ys
path_middle named from [] [] to path = path
path_middle named from [] (y ∷ ys) to path = path.0
path_middle named from (x ∷ xs) ys to path = path_middle named x xs ys to path.1

away_from : (p from : ℕ) (nodes : List ℕ) → has p (from ∷ nodes) ≡ false → from ≢ p
away_from p from nodes away same = absurd (grind (arith, nat_tests, away, same))

not_later : (p from : ℕ) (nodes : List ℕ) → has p (from ∷ nodes) ≡ false → has p nodes ≡ false
not_later p from nodes away = grind (arith, away)

-- a write at a node that is not on the path leaves it
pub path_apart : (named : List ℕ) (p v from : ℕ) (nodes : List ℕ) (to : ℕ) → has p (from ∷ nodes) ≡ false → IsPath named from nodes to → IsPath (set named p v)
    from nodes to
path_apart named p v from [] to away path = get_or-set_other named p from v 0 (away_from p from [] away) ∙ path
path_apart named p v from (x ∷ xs) to away path =
    (get_or-set_other named p from v 0 (away_from p from (x ∷ xs) away) ∙ path.0, path_apart named p v x xs to (not_later p from (x ∷ xs) away) path.1)

pub has_last : (from : ℕ) (xs : List ℕ) → has (last_or from xs) (from ∷ xs) ≡ true
has_last from [] = grind (arith, nat_tests)
has_last from (x ∷ xs) = grind (arith, has_last x xs)

pub has_first : (to : ℕ) (xs : List ℕ) → has (first_or to xs) (to ∷ xs) ≡ true
has_first to [] = grind (arith, nat_tests)
has_first to (x ∷ xs) = grind (arith, nat_tests)

all_apart : (x : ℕ) (ys : List ℕ) → AllByRecursion (λ y. eqb x y ≡ false) ys → has x ys ≡ false
all_apart x [] apart = refl
all_apart x (y ∷ ys) apart = grind (arith, nat_tests, apart.0, all_apart x ys apart.1)

apart_from_has : (x : ℕ) (ys : List ℕ) → has x ys ≡ false → AllByRecursion (λ y. eqb x y ≡ false) ys
apart_from_has x [] away = tt
apart_from_has x (y ∷ ys) away = (grind (arith, nat_tests, away), apart_from_has x ys (not_later x y ys away))

-- distinct numbers: the first is none of the others
pub distinct_head : (x : ℕ) (xs : List ℕ) → IsDistinct eqb (x ∷ xs) → has x xs ≡ false
unfolding IsDistinct
distinct_head x xs once = all_apart x xs once.0

pub distinct_tail : (x : ℕ) (xs : List ℕ) → IsDistinct eqb (x ∷ xs) → IsDistinct eqb xs
unfolding IsDistinct
distinct_tail x xs once = once.1

pub distinct_cons : (x : ℕ) (xs : List ℕ) → has x xs ≡ false → IsDistinct eqb xs → IsDistinct eqb (x ∷ xs)
unfolding IsDistinct
distinct_cons x xs away once = (apart_from_has x xs away, once)

pub distinct_nil : IsDistinct eqb []
unfolding IsDistinct
distinct_nil = tt

-- the last of some nodes is not one before them
before_last : (a x : ℕ) (xs ys : List ℕ) → has a (x ∷ (xs ++ ys)) ≡ false → a ≢ last_or x xs
before_last a x xs ys away same =
    let there : has a (x ∷ xs) ≡ true = subst (λ m. has m (x ∷ xs) ≡ true) (sym same) (has_last x xs) in
    absurd (grind (arith, away, there, list_any-append (λ m. eqb m a) xs ys))

-- a path round a node that goes
pub path_spliced : (named : List ℕ) (from : ℕ) (xs : List ℕ) (i : ℕ) (ys : List ℕ) (to : ℕ) → IsDistinct eqb (from ∷ (xs ++ ys)) → last_or from xs < length
    named → IsPath named from (xs ++ i ∷ ys) to → IsPath (set named (last_or from xs) (first_or to ys)) from (xs ++ ys) to
path_spliced named from [] i [] to once low path = get_or-set_same named from to 0 low
path_spliced named from [] i (y ∷ ys) to once low path =
    (get_or-set_same named from y 0 low, path_apart named from y y ys to (distinct_head from (y ∷ ys) once) path.1.1)
path_spliced named from (x ∷ xs) i ys to once low path = (
  get_or-set_other named (last_or x xs) from _ 0 (before_last from x xs ys (distinct_head from (x ∷ (xs ++ ys)) once)) ∙ path.0,
  path_spliced named x xs i ys
      to (distinct_tail from (x ∷ (xs ++ ys)) once) low path.1,
)

-- a path with a node that comes
pub path_inserted : (named : List ℕ) (from : ℕ) (xs : List ℕ) (i : ℕ) (ys : List ℕ) (to : ℕ) → IsDistinct eqb (from ∷ (xs ++ ys)) → has i (from ∷ (xs ++ ys)) ≡
    false → last_or from xs < length named → i < length named → IsPath named from (xs ++ ys) to → IsPath
    (set (set named (last_or from xs) i) i (first_or to ys)) from (xs ++ i ∷ ys) to
path_inserted named from [] i ys to once away low in_range path = (
  get_or-set_other (set named from i) i from _ 0 (away_from i from ys away) ∙ get_or-set_same
      named from i 0 low,
  rest ys away once path,
)
  where
    here : (v : ℕ) → get_or (set (set named from i) i v) i 0 ≡ v
    here v = get_or-set_same (set named from i) i v 0 (omega (arith, in_range, length-set named from i))

    rest : (zs : List ℕ) → has i (from ∷ zs) ≡ false → IsDistinct eqb (from ∷ zs) → IsPath named from zs to → IsPath (set (set named from i) i (first_or to zs))
        i zs to
    rest [] away once path = here to
    rest (z ∷ zs) away once path = (
      here z,
      path_apart (set named from i) i z z zs to (not_later i from (z ∷ zs) away)
          (path_apart named from i z zs to (distinct_head from (z ∷ zs) once) path.1),
    )
path_inserted named from (x ∷ xs) i ys to once away low in_range path = (
  get_or-set_other (set named (last_or x xs) i) i from _ 0 (away_from i from (x ∷ (xs ++ ys)) away) ∙ get_or-set_other named (last_or x xs) from i 0
      (before_last from x xs ys (distinct_head from (x ∷ (xs ++ ys)) once)) ∙ path.0,
  path_inserted named x xs i ys to
      (distinct_tail from (x ∷ (xs ++ ys)) once) (not_later i from (x ∷ (xs ++ ys)) away) low in_range path.1,
)

-- backwards
reverse_cons : (x : ℕ) (xs : List ℕ) → reverse (x ∷ xs) ≡ reverse xs ++ x ∷ []
reverse_cons x xs = reverse_onto xs x []

first_or-push : (end : ℕ) (xs : List ℕ) (y : ℕ) → first_or end (xs ++ y ∷ []) ≡ first_or y xs
first_or-push end [] y = refl
first_or-push end (x ∷ xs) y = refl

last_or-push : (start : ℕ) (xs : List ℕ) (y : ℕ) → last_or start (xs ++ y ∷ []) ≡ y
last_or-push start [] y = refl
last_or-push start (x ∷ xs) y = last_or-push x xs y

pub first_or-reverse : (end : ℕ) (xs : List ℕ) → first_or end (reverse xs) ≡ last_or end xs
first_or-reverse end [] = refl
first_or-reverse end (x ∷ xs) = ap (first_or end) (reverse_cons x xs) ∙ first_or-push end (reverse xs) x ∙ first_or-reverse x xs

pub last_or-reverse : (start : ℕ) (xs : List ℕ) → last_or start (reverse xs) ≡ first_or start xs
last_or-reverse start [] = refl
last_or-reverse start (x ∷ xs) = ap (last_or start) (reverse_cons x xs) ∙ last_or-push start (reverse xs) x

has-reverse : (p : ℕ) (xs : List ℕ) → has p (reverse xs) ≡ has p xs
has-reverse p [] = refl
has-reverse p (x ∷ xs) = grind (arith, ap (has p) (reverse_cons x xs), list_any-append (λ m. eqb m p) (reverse xs) (x ∷ []), has-reverse p xs)

turned : (xs : List ℕ) (i : ℕ) (ys : List ℕ) → reverse (xs ++ i ∷ ys) ≡ reverse ys ++ i ∷ reverse xs
turned xs i ys = reverse-append xs (i ∷ ys) ∙ ap (λ zs. zs ++ reverse xs) (reverse_cons i ys) ∙ append_assoc (reverse ys) (i ∷ []) (reverse xs)

distinct_turned : (end : ℕ) (xs ys : List ℕ) → IsDistinct eqb (end ∷ (xs ++ ys)) → IsDistinct eqb (end ∷ (reverse ys ++ reverse xs))
distinct_turned end xs ys once =
    subst (λ zs. IsDistinct eqb (end ∷ zs)) (reverse-append xs ys)
    (distinct_cons end (reverse (xs ++ ys)) (has-reverse end (xs ++ ys) ∙ distinct_head end (xs ++ ys) once)
    (IsDistinct-IsPermutation eqb (λ x y. grind (arith, nat_tests)) (xs ++ ys) (reverse (xs ++ ys)) (IsPermutation-reverse (xs ++ ys))
    (distinct_tail end (xs ++ ys) once)))

not_first : (i end : ℕ) (xs ys : List ℕ) → has i (end ∷ (xs ++ ys)) ≡ false → i ≢ first_or end ys
not_first i end xs ys away same =
    let there : has i (end ∷ ys) ≡ true = subst (λ m. has m (end ∷ ys) ≡ true) (sym same) (has_first end ys) in
    absurd (grind (arith, away, there, list_any-append (λ m. eqb m i) xs ys))

away_turned : (i end : ℕ) (xs ys : List ℕ) → has i (end ∷ (xs ++ ys)) ≡ false → has i (end ∷ (reverse ys ++ reverse xs)) ≡ false
away_turned i end xs ys away = grind (
  arith,
  away,
  list_any-append (λ m. eqb m i) xs ys,
  list_any-append (λ m. eqb m i) (reverse ys) (reverse xs),
  has-reverse i
      xs,
  has-reverse i ys,
)

module _ (named named_back : List ℕ) (end : ℕ) where
  -- writes at nodes that are not on a ring leave it
  pub ring_apart : (p v q w : ℕ) (nodes : List ℕ) → has p (end ∷ nodes) ≡ false → has q (end ∷ nodes) ≡ false → IsRing named named_back end nodes → IsRing
      (set named p v) (set named_back q w) end nodes
  ring_apart p v q w nodes away away_too ring = record {
    forwards = path_apart named p v end nodes end away ring.forwards;
    backwards = path_apart named_back q w end (reverse nodes) end (grind (arith, away_too, has-reverse q nodes)) ring.backwards;
  }

  -- the node before a place in a ring, and the one after it
  pub ring_after : (xs ys : List ℕ) → IsRing named named_back end (xs ++ ys) → get_or named (last_or end xs) 0 ≡ first_or end ys
  ring_after xs ys ring = path_middle named end xs ys end ring.forwards

  pub ring_before : (xs ys : List ℕ) → IsRing named named_back end (xs ++ ys) → get_or named_back (first_or end ys) 0 ≡ last_or end xs
  ring_before xs ys ring =
      ap (λ m. get_or named_back m 0) (sym (last_or-reverse end ys))
      ∙ path_middle named_back end (reverse ys) (reverse xs) end (subst (λ zs. IsPath named_back end zs end) (reverse-append xs ys) ring.backwards)
      ∙ first_or-reverse end xs

  -- the node after one in the middle
  pub ring_next : (xs : List ℕ) (i : ℕ) (ys : List ℕ) → IsRing named named_back end (xs ++ i ∷ ys) → get_or named i 0 ≡ first_or end ys
  ring_next xs i ys ring =
      ap (λ m. get_or named m 0) (sym (last_or-push end xs i))
      ∙ path_middle named end (xs ++ i ∷ []) ys end (subst (λ zs. IsPath named end zs end) (sym (append_assoc xs (i ∷ []) ys)) ring.forwards)

  pub ring_spliced : (xs : List ℕ) (i : ℕ) (ys : List ℕ) → IsDistinct eqb (end ∷ (xs ++ ys)) → last_or end xs < length named → first_or end ys < length
      named_back → IsRing named named_back end (xs ++ i ∷ ys) → IsRing (set named (last_or end xs) (first_or end ys))
      (set named_back (first_or end ys) (last_or end xs)) end (xs ++ ys)
  ring_spliced xs i ys once low low_too ring = record {
    forwards = path_spliced named end xs i ys end once low ring.forwards;
    backwards = rw (reverse-append xs ys, ← last_or-reverse end ys, ← first_or-reverse end xs)
        (path_spliced named_back end (reverse ys) i (reverse xs) end (distinct_turned end xs ys once) (rw (last_or-reverse end ys) low_too)
        (subst (λ zs. IsPath named_back end zs end) (turned xs i ys) ring.backwards));
  }

  pub ring_inserted : (xs : List ℕ) (i : ℕ) (ys : List ℕ) → IsDistinct eqb (end ∷ (xs ++ ys)) → has i (end ∷ (xs ++ ys)) ≡ false → last_or end xs < length named
      → i < length named → first_or end ys < length named_back → i < length named_back → IsRing named named_back end (xs ++ ys) → IsRing
      (set (set named (last_or end xs) i) i (first_or end ys)) (set (set named_back i (last_or end xs)) (first_or end ys) i) end (xs ++ i ∷ ys)
  ring_inserted xs i ys once away low in_range low_too in_range_too ring = record {
    forwards = path_inserted named end xs i ys end once away low in_range ring.forwards;
    backwards =
        let other : i ≢ first_or end ys = not_first i end xs ys away in
        rw (turned xs i ys, set_comm named_back i (first_or end ys) (last_or end xs) i other, ← last_or-reverse end ys, ← first_or-reverse end xs)
        (path_inserted named_back end (reverse ys) i (reverse xs) end (distinct_turned end xs ys once) (away_turned i end xs ys away)
        (rw (last_or-reverse end ys) low_too) in_range_too (subst (λ zs. IsPath named_back end zs end) (reverse-append xs ys) ring.backwards));
  }

-- ---- distinct numbers with one more, and with one less
pub distinct_inserted : (xs : List ℕ) (i : ℕ) (ys : List ℕ) → IsDistinct eqb (xs ++ ys) → has i (xs ++ ys) ≡ false → IsDistinct eqb (xs ++ i ∷ ys)
distinct_inserted [] i ys once away = distinct_cons i ys away once
distinct_inserted (x ∷ xs) i ys once away =
    distinct_cons x (xs ++ i ∷ ys) (grind (
      arith,
      nat_tests,
      away,
      distinct_head x (xs ++ ys) once,
      list_any-append (λ m. eqb m x) xs ys,
      list_any-append
          (λ m. eqb m x) xs (i ∷ ys),
    ))
    (distinct_inserted xs i ys (distinct_tail x (xs ++ ys) once) (not_later i x (xs ++ ys) away))

pub distinct_spliced : (xs : List ℕ) (i : ℕ) (ys : List ℕ) → IsDistinct eqb (xs ++ i ∷ ys) → IsDistinct eqb (xs ++ ys)
distinct_spliced [] i ys once = distinct_tail i ys once
distinct_spliced (x ∷ xs) i ys once =
    distinct_cons x (xs ++ ys) (grind (
      arith,
      distinct_head x (xs ++ i ∷ ys) once,
      list_any-append (λ m. eqb m x) xs ys,
      list_any-append (λ m. eqb m x) xs
          (i ∷ ys),
    ))
    (distinct_spliced xs i ys (distinct_tail x (xs ++ i ∷ ys) once))

pub distinct_middle : (xs : List ℕ) (i : ℕ) (ys : List ℕ) → IsDistinct eqb (xs ++ i ∷ ys) → has i (xs ++ ys) ≡ false
distinct_middle [] i ys once = distinct_head i ys once
distinct_middle (x ∷ xs) i ys once =
    grind (
      arith,
      nat_tests,
      distinct_head x (xs ++ i ∷ ys) once,
      list_any-append (λ m. eqb m x) xs (i ∷ ys),
      distinct_middle xs i ys
          (distinct_tail x (xs ++ i ∷ ys) once),
    )
