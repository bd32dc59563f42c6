use Rattle.std.proofs.Common.{◌≡◌}
use Rattle.worked_sessions.proofs.replay.push_steps.Given as goal

abbrev pub invariant-loop-index : goal.invariant-loop-index
invariant-loop-index l = l.played.kernel.settings ≡ l.fn.played.kernel.settings
