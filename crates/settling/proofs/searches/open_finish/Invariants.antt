use Rattle.std.proofs.Common.{◌≡◌, ℕ, ◌<◌, ◌&&◌, false}
use Rattle.bench_model.specs.Equal.{StandsFor}
use Rattle.bench_model.specs.Table.{Table}
use Rattle.settled_runs.specs.Settled.{is_open, finish_on, runs_user_task}
use Rattle.settling.proofs.searches.open_finish.Given as goal

abbrev pub invariant-loop-core : goal.invariant-loop-core
invariant-loop-core l = (table : Table) → StandsFor l.kernel table → (k : ℕ) → k < l.core
    → (runs_user_task table k && is_open table (finish_on table k)) ≡ false
