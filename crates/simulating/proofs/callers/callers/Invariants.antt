use Rattle.std.proofs.Common.{◌≡◌, take}
use Rattle.simulating.specs.Callers.{callers}
use Rattle.simulating.proofs.callers.callers.Given as goal

abbrev pub invariant-loop-step : goal.invariant-loop-step
invariant-loop-step l = l.tasks.items ≡ callers (take l.step-index l.steps)
