-- Lists in the order of a rank: ranking leaves them, and a new item goes to one place.
use Rattle.std.proofs.Common.{◌≡◌, Bool, true, false, cond, not, List, [], ◌∷◌, ◌++◌, suc, ◌+◌, take, drop, refl, sym, ap, subst, ◌∙◌, append_assoc, arith}
use Rattle.std.specs.List.{filter, fold, prefix_len, AllByRecursion}
use Rattle.std.proofs.lemmas.List.{append-nil}
use Rattle.list_orders.specs.Search.{placed, ranked}
use Rattle.list_orders.proofs.Choices.{IsOrdered}
use Rattle.list_orders.proofs.Filters.{filter_all, filter_none, All-append, All-both, All-weaker}
use Rattle.list_orders.proofs.Ranks.{IsRank, ranked-push}
use Rattle.list_orders.proofs.Scans.{ordered-ranked}

module _ {X : Type 0} (front : X → X → Bool) (rank : IsRank front) where
  fold_ordered : (done xs : List X) → AllByRecursion (λ x. AllByRecursion (λ y. front y x ≡ true) done) xs → IsOrdered front xs → fold
      (λ done x. placed front x done) done xs ≡ done ++ xs
  unfolding placed
  fold_ordered done [] before ordered = sym (append-nil done)
  fold_ordered done (x ∷ xs) before ordered =
      let last : placed front x done ≡ done ++ x ∷ [] = grind (
        arith,
        filter_all (λ y. front y x) done before.0,
        filter_none (λ y. not (front y x)) done
            (All-weaker (λ y. front y x ≡ true) (λ y. not (front y x) ≡ false) (λ y h. ap not h) done before.0),
      ) in
      let later = All-weaker (λ z. AllByRecursion (λ y. front y z ≡ true) done × (front x z ≡ true))
      (λ z. AllByRecursion (λ y. front y z ≡ true) (done ++ x ∷ [])) (λ z h. All-append (λ y. front y z ≡ true) done (x ∷ []) h.0 (h.1, tt)) xs
      (All-both (λ z. AllByRecursion (λ y. front y z ≡ true) done) (λ z. front x z ≡ true) xs before.1 ordered.0) in
      ap (λ ys. fold (λ done x. placed front x done) ys xs) last ∙ fold_ordered (done ++ x ∷ []) xs later ordered.1 ∙ append_assoc done (x ∷ []) xs

  none_before : (xs : List X) → AllByRecursion (λ x. AllByRecursion (λ y. front y x ≡ true) []) xs
  none_before [] = tt
  none_before (x ∷ xs) = (tt, none_before xs)

  -- a list in order stays as it is
  pub ranked-ordered : (xs : List X) → IsOrdered front xs → ranked front xs ≡ xs
  unfolding ranked
  ranked-ordered xs ordered = fold_ordered [] xs (none_before xs) ordered

  -- ranking a list twice is ranking it once
  ranked_twice : (xs : List X) → ranked front (ranked front xs) ≡ ranked front xs
  ranked_twice xs = ranked-ordered (ranked front xs) (ordered-ranked front rank xs)

  -- a list in order stays so when an item is placed
  pub ranked-placed : (x : X) (xs : List X) → ranked front xs ≡ xs → ranked front (placed front x xs) ≡ placed front x xs
  ranked-placed x xs order =
      let push : ranked front (xs ++ x ∷ []) ≡ placed front x xs = ranked-push front xs x ∙ ap (placed front x) order in
      ap (ranked front) (sym push) ∙ ranked_twice (xs ++ x ∷ []) ∙ push

  after_too : (x y z : X) → front y x ≡ false → front y z ≡ true → front z x ≡ false
  after_too x y z last first = apart (front z x) refl
    where
      apart : (b : Bool) → front z x ≡ b → b ≡ false
      apart true on = absurd (cc (rank.chain y z x first on, last))
      apart false on = refl

  ordered_place : (x : X) (xs : List X) → IsOrdered front xs → placed front x xs ≡ take (prefix_len (λ y. front y x) xs) xs ++ x ∷ drop
      (prefix_len (λ y. front y x) xs) xs
  unfolding placed
  ordered_place x [] ordered = refl
  ordered_place x (y ∷ ys) ordered = at (front y x) refl (ordered_place x ys ordered.1)
    where
      at : (b : Bool) → front y x ≡ b → filter (λ z. front z x) ys ++ x ∷ filter (λ z. not (front z x)) ys ≡ take (prefix_len (λ z. front z x) ys) ys ++ x ∷
          drop (prefix_len (λ z. front z x) ys) ys
          → cond b (y ∷ filter (λ z. front z x) ys) (filter (λ z. front z x) ys) ++ x ∷ cond (not b) (y ∷ filter (λ z. not (front z x)) ys)
          (filter (λ z. not (front z x)) ys) ≡ take (cond b (1 + prefix_len (λ z. front z x) ys) 0) (y ∷ ys) ++ x ∷ drop
          (cond b (1 + prefix_len (λ z. front z x) ys) 0) (y ∷ ys)
      at true ahead rest =
          let index = prefix_len (λ z. front z x) ys in
          let more : suc index ≡ 1 + index = omega arith in
          subst (λ i. y ∷ placed front x ys ≡ take i (y ∷ ys) ++ x ∷ drop i (y ∷ ys)) more (ap (λ zs. y ∷ zs) rest)
      at false following rest =
          let others = All-weaker (λ z. front y z ≡ true) (λ z. front z x ≡ false) (λ z h. after_too x y z following h) ys ordered.0 in
          grind (
            arith,
            filter_none (λ z. front z x) ys others,
            filter_all (λ z. not (front z x)) ys
                (All-weaker (λ z. front z x ≡ false) (λ z. not (front z x) ≡ true) (λ z h. ap not h) ys others),
          )

  -- in a list in order an item goes after those that stay in front of it from the first on
  pub placed_at : (x : X) (xs : List X) → ranked front xs ≡ xs → placed front x xs ≡ take (prefix_len (λ y. front y x) xs) xs ++ x ∷ drop
      (prefix_len (λ y. front y x) xs) xs
  placed_at x xs order = ordered_place x xs (subst (IsOrdered front) order (ordered-ranked front rank xs))

  -- and all others stay after the first
  pub first_in_order : (x : X) (xs : List X) → ranked front (x ∷ xs) ≡ x ∷ xs → AllByRecursion (λ y. front x y ≡ true) xs
  first_in_order x xs order = (subst (IsOrdered front) order (ordered-ranked front rank (x ∷ xs))).0
