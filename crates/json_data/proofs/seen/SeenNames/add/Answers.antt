use Rattle.std.proofs.Common.{◌≡◌, ℕ, List, Bool, true, false, cond, ◌||◌, refl, sym, ap, ◌∙◌, arith, bytes_eq}
use Rattle.std.specs.Borrow.{Bor}
use Rattle.std.specs.BTreeSet.{BTreeSet, contains_by, Updates}
use Rattle.std.specs.Cmp.Lexicographic.{slice_cmp}
use Rattle.std.specs.List.{list_any}
use Rattle.std.specs.Ordering.{nat_cmp}
use Rattle.std.proofs.lemmas.Map.Text.{is_eq-slice_cmp}
use Rattle.std.proofs.lemmas.Slice.Eq.{bytes_eq-Decides}
use Rattle.arrayvec.specs.ArrayVec.{ArrayVec}
use Rattle.json_data.proofs.seen.SeenNames.add.Goals as goal

either : (b c : Bool) → cond b true c ≡ (b || c)
either true c = refl
either false c = refl

flip : (xs ys : List ℕ) → bytes_eq xs ys ≡ bytes_eq ys xs
flip xs ys = by (bytes_eq xs ys) (bytes_eq ys xs) refl refl
  where
    by : (b c : Bool) → bytes_eq xs ys ≡ b → bytes_eq ys xs ≡ c → b ≡ c
    by true true p q = refl
    by false false p q = refl
    by true false p q = absurd (cc (
      q,
      (bytes_eq-Decides ys xs).1 (sym
          ((bytes_eq-Decides xs ys).0 p)),
    ))
    by false true p q = absurd (cc (
      p,
      (bytes_eq-Decides xs ys).1 (sym
          ((bytes_eq-Decides ys xs).0 q)),
    ))

-- the names in the tree, and one more
tree_more : (key : Bor (List ℕ)) (old new : BTreeSet (Bor (List ℕ)))
    → Updates (λ x y. slice_cmp nat_cmp x.now y.now) old new key true → (other : List ℕ)
    → contains_by (λ more. slice_cmp nat_cmp other more.now) new
    ≡ (bytes_eq other key.now || contains_by (λ more. slice_cmp nat_cmp other more.now) old)
tree_more key old new updates other =
    let had = contains_by (λ (more : Bor (List ℕ)). slice_cmp nat_cmp other more.now) old in
    updates.0 (record { ref_ptr = (0, 0); now = other })
    ∙ ap (λ b. cond b true had) (is_eq-slice_cmp key.now other ∙ flip key.now other)
    ∙ either (bytes_eq other key.now) had

swapped : (a b c d : Bool) → c ≡ (b || d) → (a || c) ≡ (b || (a || d))
swapped a b c d is = grind arith

pub returns-in_ok-insert-in-Err-clause-there : goal.returns-in_ok-insert-in-Err-clause-there
returns-in_ok-insert-in-Err-clause-there c other =
    let name = c.args.name in
    let had = contains_by (λ (more : Bor
    (List ℕ)). slice_cmp nat_cmp other more.now) c.args.self.now.more in
    let has = contains_by (λ (more : Bor
    (List ℕ)). slice_cmp nat_cmp other more.now) c.insert.new.self in
    ap (λ (few : ArrayVec (Bor (List ℕ))). list_any (λ (one : Bor
    (List ℕ)). bytes_eq other one.now) few.items || has) c.in-Err.ensures.err
    ∙ swapped (list_any (λ (one : Bor
    (List ℕ)). bytes_eq other one.now) c.args.self.now.few.items)
    (bytes_eq other name.now) has had
    (tree_more name c.args.self.now.more c.insert.new.self c.in_ok-insert-in-Err.ensures.updates
    other)
