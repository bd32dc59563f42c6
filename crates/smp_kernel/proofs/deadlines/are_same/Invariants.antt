use Rattle.std.proofs.Common.{◌≡◌, ◌<◌, ℕ, None, get_or}
use Rattle.smp_kernel.specs.Deadlines.{lefts}
use Rattle.smp_kernel.proofs.deadlines.are_same.Given as goal

-- as much is left to the tasks before this one
abbrev pub invariant-loop-task : goal.invariant-loop-task
invariant-loop-task l = (task : ℕ) → task < l.task → get_or (lefts l.passed l.ends) task None ≡ get_or (lefts l.other_passed l.others) task None
