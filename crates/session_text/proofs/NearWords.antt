-- The first of the least of a list, as a loop finds it, and the nearest of some words.
use Rattle.std.proofs.Common.{◌≡◌, ℕ, true, false, List, [], ◌∷◌, ◌++◌, Option, Some, None, option_map, refl, sym, ap, ◌∙◌, arith, append_assoc}
use Rattle.std.specs.Prelude.{nat_le, nat_lt, IfSome, MatchOption}
use Rattle.std.specs.List.{find, list_all}
use Rattle.std.specs.Option.{option_map_or, option_or}
use Rattle.std.proofs.lemmas.Bool.Decides.{nat_tests}
use Rattle.std.proofs.lemmas.List.Folds.{find-append, list_all-append}
use Rattle.session_text.specs.declared.nearest.Near.{Near}
use Rattle.session_text.specs.Nearest.{distance}

module _ {X : Type 0} (key : X → ℕ) where
  -- w is the first of the least: those before it are greater, and none after it is less
  pub record IsFirstLeast (xs : List X) (w : X) : Type 0 where
    pub before : List X
    pub after : List X
    pub split : xs ≡ before ++ w ∷ after
    pub greater : list_all (λ y. nat_lt (key w) (key y)) before ≡ true
    pub least : list_all (λ y. nat_le (key w) (key y)) after ≡ true

  -- what a loop keeps of the items that it has passed
  abbrev pub Keeps : List X → Option X → Type 0
  Keeps xs best = MatchOption best (xs ≡ []) (IsFirstLeast xs)

  less_all : (a b : ℕ) → nat_lt a b ≡ true → (ys : List X) → list_all (λ y. nat_le b (key y)) ys ≡ true → list_all (λ y. nat_lt a (key y)) ys ≡ true
  less_all a b low [] all = refl
  less_all a b low (y ∷ ys) all =
      let later : list_all (λ y. nat_le b (key y)) ys ≡ true → list_all (λ y. nat_lt a (key y)) ys ≡ true = less_all a b low ys in
      grind (arith, nat_tests, low, all, later)

  at_most : (a : ℕ) (ys : List X) → list_all (λ y. nat_lt a (key y)) ys ≡ true → list_all (λ y. nat_le a (key y)) ys ≡ true
  at_most a [] all = refl
  at_most a (y ∷ ys) all =
      let later : list_all (λ y. nat_lt a (key y)) ys ≡ true → list_all (λ y. nat_le a (key y)) ys ≡ true = at_most a ys in
      grind (arith, nat_tests, all, later)

  -- what is greater than an item of the list is not the least of it
  not_least : (x w : X) (before after : List X) → nat_lt (key w) (key x) ≡ true → list_all (λ y. nat_le (key x) (key y)) (before ++ w ∷ after) ≡ false
  not_least x w before after more =
      let parts = list_all-append (λ y. nat_le (key x) (key y)) before (w ∷ after) in
      grind (arith, nat_tests, parts, more)

  none_before : (w : X) (xs before after ys : List X) → xs ≡ before ++ w ∷ after → list_all (λ y. nat_lt (key w) (key y)) ys ≡ true
      → find (λ x. list_all (λ y. nat_le (key x) (key y)) xs) ys ≡ None
  none_before w xs before after [] split greater = refl
  none_before w xs before after (y ∷ ys) split greater =
      let first : nat_lt (key w) (key y) ≡ true = grind (arith, greater) in
      let others : list_all (λ y. nat_lt (key w) (key y)) ys ≡ true = grind (arith, greater) in
      rw (ap (list_all (λ z. nat_le (key y) (key z))) split ∙ not_least y w before after first) (none_before w xs before after ys split others)

  pub found : (xs : List X) (w : X) → IsFirstLeast xs w → find (λ x. list_all (λ y. nat_le (key x) (key y)) xs) xs ≡ Some w
  found xs w is =
      let test = λ (x : X). list_all (λ y. nat_le (key x) (key y)) xs in
      let parts = list_all-append (λ y. nat_le (key w) (key y)) is.before (w ∷ is.after) in
      let whole = ap (list_all (λ y. nat_le (key w) (key y))) is.split in
      let front = at_most (key w) is.before is.greater in
      let passes : test w ≡ true = grind (arith, nat_tests, whole, parts, front, is.least) in
      ap (find test) is.split ∙ find-append test is.before (w ∷ is.after)
      ∙ ap (λ o. option_or o (find test (w ∷ is.after))) (none_before w xs is.before is.after is.before is.split is.greater)
      ∙ rw passes refl

  -- a greater or an equal one after it leaves it the first of the least
  pub keeps : (xs : List X) (w x : X) → IsFirstLeast xs w → nat_lt (key x) (key w) ≡ false → IsFirstLeast (xs ++ x ∷ []) w
  keeps xs w x is no_less =
      let parts = list_all-append (λ y. nat_le (key w) (key y)) is.after (x ∷ []) in
      record {
        before = is.before;
        after = is.after ++ x ∷ [];
        split = ap (λ ys. ys ++ x ∷ []) is.split ∙ append_assoc is.before (w ∷ is.after) (x ∷ []);
        greater = is.greater;
        least = grind (arith, nat_tests, parts, is.least, no_less);
      }

  -- a lesser one takes its place
  pub takes : (xs : List X) (w x : X) → IsFirstLeast xs w → nat_lt (key x) (key w) ≡ true → IsFirstLeast (xs ++ x ∷ []) x
  takes xs w x is less =
      let front = less_all (key x) (key w) less is.before (at_most (key w) is.before is.greater) in
      let back = less_all (key x) (key w) less is.after is.least in
      let parts = list_all-append (λ y. nat_lt (key x) (key y)) is.before (w ∷ is.after) in
      record {
        before = xs;
        after = [];
        split = refl;
        greater = ap (list_all (λ y. nat_lt (key x) (key y))) is.split ∙ grind (arith, parts, front, back, less);
        least = refl;
      }

  pub begins : (xs : List X) (x : X) → xs ≡ [] → IsFirstLeast (xs ++ x ∷ []) x
  begins xs x none = record { before = []; after = []; split = ap (λ ys. ys ++ x ∷ []) none; greater = refl; least = refl }

  pub found_by : (xs : List X) (best : Option X) → Keeps xs best → best ≡ find (λ x. list_all (λ y. nat_le (key x) (key y)) xs) xs
  found_by xs (Some w) is = sym (found xs w is)
  found_by xs None none = sym (ap (λ ys. find (λ x. list_all (λ y. nat_le (key x) (key y)) ys) ys) none)

-- ---- words, by their distance from a text

abbrev pub word_in : Option Near → Option (List ℕ)
word_in best = option_map (λ near. near.word.now) best

-- the best of the words so far, with its distance
pub record Holds (text : List ℕ) (seen : List (List ℕ)) (best : Option Near) : Type 0 where
  pub kept : Keeps (distance text) seen (word_in best)
  pub measured : IfSome best (λ near. near.distance ≡ distance text near.word.now)

pub holds_next : (text : List ℕ) (seen : List (List ℕ)) (best : Option Near) (next : Near) → Holds text seen best → next.distance ≡ distance text next.word.now
    → option_map_or (λ near. nat_lt next.distance near.distance) best true ≡ true → Holds text (seen ++ next.word.now ∷ []) (Some next)
holds_next text seen None next so_far is less = record { kept = begins (distance text) seen next.word.now so_far.kept; measured = is }
holds_next text seen (Some near) next so_far is less =
    let nearer : nat_lt (distance text next.word.now) (distance text near.word.now) ≡ true = rw (← is, ← so_far.measured) less in
    record { kept = takes (distance text) seen near.word.now next.word.now so_far.kept nearer; measured = is }

pub holds_same : (text : List ℕ) (seen : List (List ℕ)) (best : Option Near) (next : Near) → Holds text seen best → next.distance ≡ distance text next.word.now
    → option_map_or (λ near. nat_lt next.distance near.distance) best true ≡ false → Holds text (seen ++ next.word.now ∷ []) best
holds_same text seen None next so_far is less = absurd (cc less)
holds_same text seen (Some near) next so_far is less =
    let no_nearer : nat_lt (distance text next.word.now) (distance text near.word.now) ≡ false = rw (← is, ← so_far.measured) less in
    record { kept = keeps (distance text) seen near.word.now next.word.now so_far.kept no_nearer; measured = so_far.measured }
