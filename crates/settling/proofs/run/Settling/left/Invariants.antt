use Rattle.std.proofs.Common.{◌≡◌}
use Rattle.settling.specs.Places.{waiting_at}
use Rattle.settling.proofs.run.Settling.left.Given as goal

abbrev pub invariant-loop-place : goal.invariant-loop-place
invariant-loop-place l = l.left.items ≡ waiting_at l.self.queues.heads.items l.steps l.place
