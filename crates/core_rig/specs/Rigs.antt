-- What a rig keeps.
use Rattle.std.specs.Prelude.{◌≡◌, ◌≤◌}
use Rattle.bench_types.specs.declared.header.Header.{Header}
use Rattle.bench_types.specs.Header.{IsCheckedHeader}
use Rattle.bench_types.specs.Limits.{max_steps}
use Rattle.port_locks.specs.Seats.{PairView}

-- the pair's header was checked, and so was its limit
pub record IsRig (pair : PairView) (header : Header) : Type 0 where
  pub checked : IsCheckedHeader header
  pub same : pair.terms.header ≡ header
  pub cores : pair.cores ≡ header.config.cores
  pub limit : pair.terms.limit ≤ max_steps
