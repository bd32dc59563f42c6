-- A run is known up to the first of all that limits that.
use Rattle.std.proofs.Common.{◌≡◌, zero, suc, ◌<◌, ◌≤◌, Bool, true, false, cond, ltb, List, [], ◌∷◌, Some, None, refl, ap, arith}
use Rattle.std.specs.Prelude.{All, Contains, fold}
use Rattle.std.specs.List.{AllByRecursion}
use Rattle.std.proofs.lemmas.Bool.Decides.{nat_tests}
use Rattle.std.proofs.lemmas.List.Elements.{All-from_recursion}
use Rattle.kept_runs.specs.declared.known_limit.KnownLimit.{KnownLimit}
use Rattle.kept_runs.specs.KeptLaws.{KnownUntilComesFirst}
use Rattle.kept_runs.specs.Known.{earlier, known_until, limits}
use Rattle.kept_runs.proofs.Firsts.{contains_later}

-- no other one comes earlier
abbrev IsFirstOf : List KnownLimit → KnownLimit → Type 0
IsFirstOf all limit = Contains all limit × AllByRecursion (λ (other : KnownLimit). limit.place ≤ other.place) all

first_of : (all : List KnownLimit) (one limit : KnownLimit) → fold earlier (Some one) all ≡ Some limit → IsFirstOf (one ∷ all) limit
first_of [] one limit is =
    let same : one ≡ limit = cc is in
    let place : one.place ≡ limit.place = ap (λ (one : KnownLimit). one.place) same in
    ((0, omega arith, same), (omega (arith, place), tt))
first_of (other ∷ all) one limit is = at (ltb other.place one.place) refl is (first_of all other limit) (first_of all one limit)
  where
    later : Contains (one ∷ all) limit → Contains (one ∷ other ∷ all) limit
    later (zero, low, same) = (zero, omega arith, same)
    later (suc place, low, same) = (suc (suc place), omega (arith, low), same)

    at : (b : Bool) → ltb other.place one.place ≡ b → fold earlier (cond b (Some other) (Some one)) all ≡ Some limit
        → (fold earlier (Some other) all ≡ Some limit → IsFirstOf (other ∷ all) limit)
        → (fold earlier (Some one) all ≡ Some limit → IsFirstOf (one ∷ all) limit) → IsFirstOf (one ∷ other ∷ all) limit
    at true less is with_other with_one =
        let rest = with_other is in
        let below : other.place < one.place = grind (arith, nat_tests, less) in
        let first = rest.1.0 in
        (contains_later one (other ∷ all) limit rest.0, (omega (arith, below, first), rest.1))
    at false more is with_other with_one =
        let rest = with_one is in
        let above : one.place ≤ other.place = grind (arith, nat_tests, more) in
        let first = rest.1.0 in
        (later rest.0, (first, (omega (arith, above, first), rest.1.1)))

some_first : (all : List KnownLimit) (one : KnownLimit) → (limit : KnownLimit) × (fold earlier (Some one) all ≡ Some limit)
some_first [] one = (one, refl)
some_first (other ∷ all) one = at (ltb other.place one.place) (some_first all other) (some_first all one)
  where
    at : (b : Bool) → (limit : KnownLimit) × (fold earlier (Some other) all ≡ Some limit)
        → (limit : KnownLimit) × (fold earlier (Some one) all ≡ Some limit)
        → (limit : KnownLimit) × (fold earlier (cond b (Some other) (Some one)) all ≡ Some limit)
    at true with_other with_one = with_other
    at false with_other with_one = with_one

found_first : (all : List KnownLimit) (limit : KnownLimit) → fold earlier None all ≡ Some limit
    → Contains all limit × All (λ (other : KnownLimit). limit.place ≤ other.place) all
found_first [] limit is = absurd (cc is)
found_first (one ∷ all) limit is =
    let both = first_of all one limit is in
    (both.0, All-from_recursion (λ (other : KnownLimit). limit.place ≤ other.place) (one ∷ all) both.1)

none_found : (all : List KnownLimit) → fold earlier None all ≡ None → all ≡ []
none_found [] is = refl
none_found (one ∷ all) is = let some = some_first all one in absurd (cc (is, some.1))

pub known_until_comes_first : KnownUntilComesFirst
unfolding known_until
known_until_comes_first order session edits settled run =
    (found_first (limits order session edits settled run), none_found (limits order session edits settled run))
