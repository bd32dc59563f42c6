-- Tasks of which a test gives numbers alone.
use Rattle.std.specs.Prelude.{ℕ, ◌+◌, List, [], ◌∷◌, ◌++◌, codes, decimal}
use Rattle.bench_types.specs.declared.header.TaskArgs.{TaskArgs}

-- tasks of these priorities and masks, which are named by T and their number, of which this is the
-- first
abbrev pub numbered : ℕ → List (ℕ × ℕ) → List TaskArgs
numbered number [] = []
numbered number (task ∷ tasks) =
    record { name = codes "T" ++ decimal number; priority = task.0; mask = task.1 }
    ∷ numbered (number + 1) tasks
