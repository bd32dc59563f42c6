use Rattle.std.proofs.Common.{◌≡◌}
use Rattle.session_runs.specs.Made.{row_at}
use Rattle.session_runs.proofs.walk.go_on.Given as goal

abbrev pub invariant-loop-place : goal.invariant-loop-place
invariant-loop-place l = l.row ≡ row_at l.run.session l.place
