use Rattle.slow_replay.proofs.SlowRuns.{IsReplaying}
use Rattle.slow_replay.proofs.slow.replay_slow.Given as goal

abbrev pub invariant-loop-step : goal.invariant-loop-step
invariant-loop-step l = IsReplaying l.header l.steps l.step-index l.table l.outcomes.items
