-- Equal kernels: what can be seen of them is equal.
use Rattle.std.specs.Prelude.{◌≡◌}
use Rattle.bench_model.specs.Table.{Table}
use Rattle.bench_model.specs.Lists.{View, view_of}
use Rattle.bench_model.specs.Sound.{IsSound}

-- equal settings, tick counts, cores with their flags, control blocks and unfinished calls, and
-- equal orders: the equality that the theorems speak of, of all that can be seen
abbrev pub Same : Table → Table → Type 0
Same a b = view_of a ≡ view_of b

-- a kernel of which this can be seen stands for the table
pub record StandsFor (view : View) (table : Table) : Type 0 where
  pub sound : IsSound table
  pub shows : view_of table ≡ view
