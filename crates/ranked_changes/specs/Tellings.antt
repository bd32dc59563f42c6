-- What is told of long work.
use Rattle.std.specs.Prelude.{◌≡◌, ℕ, ◌<◌, ◌≤◌, List, [], ◌∷◌}

-- each count is greater than the one before, and the last is this one; where there is none, this
-- one is the one before
abbrev pub GrowsTo : ℕ → List ℕ → ℕ → Type 0
GrowsTo before [] last = last ≡ before
GrowsTo before (count ∷ later) last = (before < count) × GrowsTo count later last

-- each count of so many in all is told, one after the other, and nothing else
abbrev pub TellsEach : {P : Type 0} → (P → ℕ → ℕ → P → Type 0) → ℕ → List ℕ → P → P → Type 0
TellsEach tells all [] old new = new ≡ old
TellsEach {P} tells all (count ∷ later) old new =
    (next : P) × tells old count all next × TellsEach tells all later next new

-- it is told how many of all are done, more each time, and in the end that so many are
pub record TellsUpTo {P : Type 0} (tells : P → ℕ → ℕ → P → Type 0) (all done : ℕ) (old new : P)
    : Type 0 where
  pub counts : List ℕ
  pub grows : GrowsTo 0 counts done
  pub told : TellsEach tells all counts old new

-- the same, up to some of all
pub record TellsSome {P : Type 0} (tells : P → ℕ → ℕ → P → Type 0) (all : ℕ) (old new : P)
    : Type 0 where
  pub done : ℕ
  pub within : done ≤ all
  pub told : TellsUpTo tells all done old new
