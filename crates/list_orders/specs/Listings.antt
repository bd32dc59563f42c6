-- Lists of distinct numbers below a bound.
use Rattle.std.specs.Prelude.{ℕ, ◌<◌, List, All, nat_eq}
use Rattle.std.specs.List.{IsDistinct}

-- each number is below n, and is in the list once
pub record IsListing (n : ℕ) (list : List ℕ) : Type 0 where
  pub below : All (λ i. i < n) list
  pub once : IsDistinct nat_eq list
