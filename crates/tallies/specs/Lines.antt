-- The lines of tallies.
use Rattle.std.specs.Prelude.{ℕ, suc, List, [], ◌∷◌, ◌++◌, flat_map, codes, decimal}
use Rattle.bench_types.specs.declared.header.Header.{Header}
use Rattle.bench_types.specs.declared.tally.Tally.{Tally}
use Rattle.bench_types.specs.Header.{name_of}
use Rattle.bench_model.specs.Tally.{TaskTally}

-- a number after a space
abbrev pub after_space : ℕ → List ℕ
after_space n = codes " " ++ decimal n

-- the ticks that a task ran on each core
unfoldable pub run_text : List ℕ → List ℕ
run_text run = codes " run" ++ flat_map after_space run

-- a count after its name
unfoldable pub count_text : List ℕ → ℕ → List ℕ
count_text name count = codes " " ++ name ++ after_space count

-- its other counts; `in` is how often a switch put it on a core
unfoldable pub counts_text : Tally → List ℕ
counts_text counts =
    count_text (codes "wait") counts.wait ++ count_text (codes "inverted") counts.inverted
    ++ count_text (codes "in") counts.switched ++ count_text (codes "displaced") counts.displaced
    ++ count_text (codes "timeouts") counts.timeouts ++ count_text (codes "top") counts.top

unfoldable pub task_text : Header → ℕ → List ℕ
task_text header task = codes "task " ++ name_of header task

-- the line of a task: its name and its tally
unfoldable pub tally_line : Header → ℕ → TaskTally → List ℕ
tally_line header task tally =
    task_text header task ++ run_text tally.run ++ counts_text tally.counts ++ codes "\n"

-- the lines of tasks, the first of which has the number
abbrev pub tally_lines : Header → ℕ → List TaskTally → List ℕ
tally_lines header task [] = []
tally_lines header task (tally ∷ rest) =
    tally_line header task tally ++ tally_lines header (suc task) rest
