use Rattle.std.proofs.Common.{◌≡◌, ◌<◌, drop, take, IfSome}
use Rattle.tick_delay.specs.Parts.{first_task}
use Rattle.tick_delay.proofs.delays.Delays.has_same_waits.Given as goal

-- the entries so far are the same, and the tasks are those of the next place
abbrev pub invariant-loop-place : goal.invariant-loop-place
invariant-loop-place l = record {
  same : take l._place l.self.delayed ≡ take l._place l.other.delayed;
  mine : l.mine ≡ first_task (drop l._place l.self.delayed);
  theirs : l.theirs ≡ first_task (drop l._place l.other.delayed);
  low : IfSome l.mine (λ task. task < l.self.tasks);
}
