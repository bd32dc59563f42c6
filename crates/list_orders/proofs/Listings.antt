-- Lists of distinct numbers below a bound: how long they are, and what keeps them so.
use Rattle.std.proofs.Common.{◌≡◌, ℕ, ◌<◌, ◌≤◌, Bool, true, false, cond, not, eqb, List, [], ◌∷◌, ◌++◌, length, refl, sym, ◌∙◌, arith, length-append}
use Rattle.std.specs.List.{filter, list_any, IsDistinct}
use Rattle.std.specs.Cmp.{nat_eq_equiv}
use Rattle.std.proofs.lemmas.Bool.Decides.{nat_tests}
use Rattle.std.proofs.lemmas.List.Elements.{All-filter, All-push, recursion_from_All}
use Rattle.std.proofs.lemmas.Map.Keys.{IsDistinct-push}
use Rattle.std.proofs.lemmas.Map.Steps.{length-le_from_distinct_below}
use Rattle.list_orders.specs.Search.{without, has}
use Rattle.list_orders.proofs.Filters as filters
use Rattle.list_orders.proofs.Filters.{All-has, has-filter}
use Rattle.list_orders.specs.Listings.{IsListing}

IsDistinct-filter : (p : ℕ → Bool) (xs : List ℕ) → IsDistinct eqb xs → IsDistinct eqb (filter p xs)
unfolding IsDistinct
IsDistinct-filter p [] once = tt
IsDistinct-filter p (x ∷ xs) once = elim (p x) as (λ b. IsDistinct eqb (cond b (x ∷ filter p xs) (filter p xs)))
    [ true ↦ (filters.All-filter (λ y. eqb x y ≡ false) p xs once.0, IsDistinct-filter p xs once.1) | false ↦ IsDistinct-filter p xs once.1 ]

pub listing_without : (n t : ℕ) (xs : List ℕ) → IsListing n xs → IsListing n (without t xs)
listing_without n t xs listing = record {
  below = All-filter (λ m. not (eqb m t)) (λ i. i < n) xs listing.below;
  once = IsDistinct-filter (λ m. not (eqb m t)) xs listing.once;
}

pub has-without : (t : ℕ) (xs : List ℕ) → has t (without t xs) ≡ false
has-without t xs = grind (arith, nat_tests, has-filter (λ m. not (eqb m t)) t xs)

has_either_way : (t : ℕ) (xs : List ℕ) → list_any (eqb t) xs ≡ has t xs
has_either_way t [] = refl
has_either_way t (x ∷ xs) = grind (arith, nat_tests, has_either_way t xs)

pub listing_push : (n t : ℕ) (xs : List ℕ) → IsListing n xs → t < n → has t xs ≡ false → IsListing n (xs ++ t ∷ [])
listing_push n t xs listing low free = record {
  below = All-push (λ i. i < n) xs t listing.below low;
  once = IsDistinct-push nat_eq_equiv xs t listing.once (has_either_way t xs ∙ free);
}

pub listing_length : (n : ℕ) (xs : List ℕ) → IsListing n xs → length xs ≤ n
listing_length n xs listing =
    length-le_from_distinct_below xs n listing.once (λ q found. All-has (λ i. i < n) q xs (recursion_from_All (λ i. i < n) xs listing.below)
    (sym (has_either_way q xs) ∙ found))

-- a listing without some number below n is shorter than n
pub listing_room : (n t : ℕ) (xs : List ℕ) → IsListing n xs → t < n → has t xs ≡ false → length xs < n
listing_room n t xs listing low free =
    omega (arith, length-append xs (t ∷ []), listing_length n (xs ++ t ∷ []) (listing_push n t xs listing low free))
