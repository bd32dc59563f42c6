-- What the lines of edits that are each tried alone have to do with one another.
use Rattle.std.specs.Prelude.{◌≡◌, ℕ, ◌+◌, List, ◌++◌, length, codes, decimal}
use Rattle.bench_types.specs.declared.edit.Edit.{Edit}
use Rattle.bench_model.specs.Meeting.{CheckpointedSession}
use Rattle.bench_commands.specs.Answer.{trial_text, trials_text}

-- the lines of edits in two parts are those of all of them, where the second goes on counting
abbrev pub PartsAreWhole : Type 0
PartsAreWhole =
    (kept : CheckpointedSession) (index : ℕ) (first second : List Edit)
    → trials_text kept index (first ++ second)
    ≡ trials_text kept index first ++ trials_text kept (index + length first) second

-- of an edit's lines the first tells its index, and nothing else of them depends on that
abbrev pub IndexIsPrinted : Type 0
IndexIsPrinted =
    (kept : CheckpointedSession) (edit : Edit)
    → (rest : List ℕ)
    × ((index : ℕ) → trial_text kept index edit ≡ codes "edit " ++ decimal index ++ rest)
