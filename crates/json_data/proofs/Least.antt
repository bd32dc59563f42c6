-- The least of some names is that of any order of them.
use Rattle.std.proofs.Common.{◌≡◌, ℕ, List, Bool, true, false, cond, Option, Some, None, refl, sym, ap, ◌∙◌, bytes_eq, Ordering, Less, Equal, Greater}
use Rattle.std.specs.Cmp.{IsStrictWeakOrder}
use Rattle.std.specs.Cmp.Lexicographic.{slice_cmp}
use Rattle.std.specs.List.{list_any}
use Rattle.std.specs.Option.{option_map_or}
use Rattle.std.specs.Ordering.{is_eq, is_lt, nat_cmp, ordering_reverse}
use Rattle.std.proofs.lemmas.Cmp.{nat_list_cmp_total}
use Rattle.std.proofs.lemmas.List.MinMax.{ranks_by}
use Rattle.std.proofs.lemmas.Map.Text.{is_eq-slice_cmp}
use Rattle.std.proofs.lemmas.Slice.Eq.{bytes_eq-Decides}
use Rattle.json_data.specs.Reading.{lesser, lesser_unknown}

abbrev is_less : List ℕ → List ℕ → Bool
is_less x y = is_lt (slice_cmp nat_cmp x y)

ranked : IsStrictWeakOrder is_less
ranked = ranks_by nat_list_cmp_total (λ (name : List ℕ). name)

-- names of which neither is less are the same
tied : (x y : List ℕ) → is_less x y ≡ false → is_less y x ≡ false → x ≡ y
tied x y one other = by (slice_cmp nat_cmp x y) refl one
  where
    by : (o : Ordering) → slice_cmp nat_cmp x y ≡ o → is_lt o ≡ false → x ≡ y
    by Less is low = absurd (cc low)
    by Equal is low = (bytes_eq-Decides x y).0 (sym (is_eq-slice_cmp x y) ∙ ap is_eq is)
    by Greater is low = absurd (cc (sym (ap is_lt (nat_list_cmp_total.antisymm y x ∙ ap ordering_reverse is)) ∙ other))

-- the lesser of two, in either order
both : (x y : List ℕ) → lesser x y ≡ lesser y x
both x y = by (is_less y x) (is_less x y) refl refl
  where
    by : (b e : Bool) → is_less y x ≡ b → is_less x y ≡ e → cond b y x ≡ cond e x y
    by true false p q = refl
    by false true p q = refl
    by true true p q = absurd (cc (sym q ∙ ranked.one_way y x p))
    by false false p q = tied x y q p

-- the least of three, in either order of two of them
three : (x y least : List ℕ) → lesser x (lesser y least) ≡ lesser y (lesser x least)
three x y least = by (is_less least y) (is_less least x) refl refl
  where
    by : (b e : Bool) → is_less least y ≡ b → is_less least x ≡ e → lesser x (cond b least y) ≡ lesser y (cond e least x)
    by true true p q = ap (λ b. cond b least x) q ∙ sym (ap (λ b. cond b least y) p)
    by true false p q = ap (λ b. cond b least x) q ∙ sym (is_first (is_less x y) refl)
      where
        is_first : (b : Bool) → is_less x y ≡ b → cond b x y ≡ x
        is_first true r = refl
        is_first false r = absurd (cc (sym p ∙ ranked.chain least x y q r))
    by false true p q = is_first (is_less y x) refl ∙ sym (ap (λ b. cond b least y) p)
      where
        is_first : (b : Bool) → is_less y x ≡ b → cond b y x ≡ y
        is_first true r = refl
        is_first false r = absurd (cc (sym q ∙ ranked.chain least y x p r))
    by false false p q = both x y

second : (x least : List ℕ) → lesser x (lesser x least) ≡ lesser x least
second x least = by (is_less least x) refl
  where
    same : (b : Bool) → cond b x x ≡ x
    same true = refl
    same false = refl

    by : (b : Bool) → is_less least x ≡ b → lesser x (cond b least x) ≡ cond b least x
    by true p = ap (λ b. cond b least x) p
    by false p = same (is_less x x)

-- ---- with the names that are known

pub twice : (known : List (List ℕ)) (x : List ℕ) (least : Option (List ℕ)) → lesser_unknown known x (lesser_unknown known x least) ≡ lesser_unknown known x
    least
twice known x least = by (list_any (bytes_eq x) known) least
  where
    by : (b : Bool) (least : Option (List ℕ)) → cond b (cond b least (Some (option_map_or (lesser x) least x)))
        (Some (option_map_or (lesser x) (cond b least (Some (option_map_or (lesser x) least x))) x)) ≡ cond b least (Some (option_map_or (lesser x) least x))
    by true least = refl
    by false None = ap Some (same (is_less x x))
      where
        same : (b : Bool) → cond b x x ≡ x
        same true = refl
        same false = refl
    by false (Some least) = ap Some (second x least)

pub swap : (known : List (List ℕ)) (x y : List ℕ) (least : Option (List ℕ)) → lesser_unknown known x (lesser_unknown known y least) ≡ lesser_unknown known y
    (lesser_unknown known x least)
swap known x y least = by (list_any (bytes_eq x) known) (list_any (bytes_eq y) known) least
  where
    by : (b e : Bool) (least : Option (List ℕ)) → cond b (cond e least (Some (option_map_or (lesser y) least y)))
        (Some (option_map_or (lesser x) (cond e least (Some (option_map_or (lesser y) least y))) x))
        ≡ cond e (cond b least (Some (option_map_or (lesser x) least x)))
        (Some (option_map_or (lesser y) (cond b least (Some (option_map_or (lesser x) least x))) y))
    by true e least = refl
    by false true least = refl
    by false false None = ap Some (both x y)
    by false false (Some least) = ap Some (three x y least)
