-- Where a slow seek looks for a core.
use Rattle.std.specs.Prelude.{ℕ, Bool, Option, Some, None}
use Rattle.bench_model.specs.Control.{Control, current, in_mask}
use Rattle.bench_model.specs.Seek.{may_move}

-- a task that lost no core may go to the cores of its mask; one that lost a core, to where the task
-- that took it leaves it
abbrev pub may_go : Control → ℕ → Option ℕ → ℕ → Bool
may_go control task None = in_mask control task
may_go control task (Some lost) = may_move control task (current control lost) lost
