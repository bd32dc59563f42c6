use Rattle.std.proofs.Common.{◌≤◌, length}
use Rattle.std.specs.Prelude.{All}
use Rattle.bench_types.specs.Step.{settings_of}
use Rattle.keeping.specs.Progress.{IsComing}
use Rattle.keeping_tests.proofs.runs.checked_comings.Given as goal

abbrev pub invariant-loop-one : goal.invariant-loop-one
invariant-loop-one l = record { all : All (IsComing (settings_of l.header)) l.checked.items }
