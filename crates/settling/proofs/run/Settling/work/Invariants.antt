use Rattle.std.proofs.Common.{◌≡◌, ◌-◌, ℕ, length}
use Rattle.bench_types.specs.Limits.{max_steps}
use Rattle.settling.specs.Progress.{HasCounted, IsAt}
use Rattle.settling.proofs.run.Settling.work.Given as goal

abbrev pub invariant-loop-step : goal.invariant-loop-step
invariant-loop-step l = record {
  here : IsAt l.session l.self;
  come : l.self.come ≡ l.initial.self.come;
  counted : (first : ℕ) → HasCounted first l.initial.meter l.initial.self → HasCounted first l.meter l.self;
}

abbrev pub decreases-loop-step : goal.decreases-loop-step
decreases-loop-step l = max_steps - length l.self.run.steps
