-- The laws of equal kernels. Each is a clause of a public function.
use Rattle.std.specs.Prelude.{◌≡◌, ◌↔◌, true}
use Rattle.bench_model.specs.Alike.{SamePairwise}
use Rattle.bench_model.specs.Equal.{Same}
use Rattle.bench_model.specs.SameTest.{is_same}
use Rattle.bench_model.specs.Sound.{IsConsistent}
use Rattle.bench_model.specs.Table.{Table}

-- what can be seen of two tables is equal just where they are alike pair by pair
abbrev pub SameIsAlike : Type 0
SameIsAlike = (a b : Table) → IsConsistent a → IsConsistent b → (Same a b ↔ SamePairwise a b)

-- the test of equal kernels tells just whether what can be seen of them is equal
abbrev pub SameIsTested : Type 0
SameIsTested = (a b : Table) → ((is_same a b ≡ true) ↔ Same a b)
