-- Changes and numbers in words.
use Rattle.std.specs.Prelude.{ℕ, List, ◌++◌, codes, decimal}
use Rattle.bench_types.specs.declared.header.Header.{Header}
use Rattle.bench_types.specs.Header.{name_of}
use Rattle.bench_types.specs.Limits.{max_steps}
use Rattle.bench_model.specs.Edits.{args_of}
use Rattle.ranked_changes.specs.declared.change.Change.{Change}
use Rattle.ranked_changes.specs.declared.change.Change.TheVariants.{Priority, Mask, Order}
use Rattle.ranked_changes.specs.declared.judge.Verdict.{Verdict}
use Rattle.ranked_changes.specs.declared.judge.Verdict.TheVariants.{Number, TooLong}
use Rattle.report_figures.specs.Table.{change_text}

-- what of a task is another number than its own
abbrev pub task_words : Header → List ℕ → ℕ → ℕ → ℕ → List ℕ
task_words header what task number own =
    what ++ name_of header task ++ codes " " ++ decimal number ++ codes ", was " ++ decimal own

-- what the change is, and what the task had before it
unfoldable pub change_words : Header → Change → List ℕ
change_words header (Priority task priority) =
    task_words header (codes "priority of ") task priority (args_of header task).priority
change_words header (Mask task mask) =
    task_words header (codes "mask of ") task mask (args_of header task).mask
change_words header (Order first second) =
    codes "calls at places " ++ decimal first ++ codes " and " ++ decimal second
    ++ codes " exchanged"

-- a number, and how it differs from the one before
unfoldable pub number_words : ℕ → ℕ → List ℕ
number_words before after =
    decimal after ++ codes " (" ++ change_text before after ++ codes ")"

-- the number that was found, or that there is none
abbrev pub verdict_words : ℕ → Verdict → List ℕ
verdict_words before (Number after) = number_words before after
verdict_words before TooLong = codes "more than " ++ decimal max_steps ++ codes " steps"
