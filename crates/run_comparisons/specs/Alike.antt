-- Steps of two runs that stand beside one another.
use Rattle.std.specs.Prelude.{◌≡◌, Bool, true, false, ◌&&◌, ◌==◌}
use Rattle.bench_types.specs.declared.step.Step.{Step}
use Rattle.bench_types.specs.declared.step.Step.TheVariants.{Tick, Switch, Call, Interrupt, QueueInterrupt, ResumeInterrupt, Pass}
use Rattle.bench_model.specs.SameTest.{are_same_calls, are_same_directions, are_same_notes}

-- they are equal, or one call of one task, on whatever cores
abbrev pub are_alike : Step → Step → Bool
are_alike Tick Tick = true
are_alike (Switch core) (Switch other) = core == other
are_alike (Call core task call) (Call other caller made) =
    task == caller && are_same_calls call made
are_alike (Interrupt core note) (Interrupt other sent) = core == other && are_same_notes note sent
are_alike (QueueInterrupt core queue direction) (QueueInterrupt other others way) =
    core == other && queue == others && are_same_directions direction way
are_alike (ResumeInterrupt core task) (ResumeInterrupt other resumed) =
    core == other && task == resumed
are_alike (Pass units) (Pass others) = units == others
are_alike step other = false

-- they are one step, or one call of one task, on whatever cores: the same in words of equality
abbrev pub MayShareRow : Step → Step → Type 0
MayShareRow (Call core task call) (Call other caller made) = (task ≡ caller) × (call ≡ made)
MayShareRow step other = step ≡ other
