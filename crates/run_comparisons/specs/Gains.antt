-- What each task gained and lost by edits of a session.
use Rattle.std.specs.Prelude.{ℕ, ◌+◌, ◌-◌, ◌==◌, List, [], ◌∷◌, ◌++◌, flat_map, codes, decimal, nat_lt, if◌then◌else◌}
use Rattle.list_orders.specs.Search.{numbers}
use Rattle.bench_types.specs.declared.header.Header.{Header}
use Rattle.bench_types.specs.declared.tally.Tally.{Tally}
use Rattle.bench_types.specs.Header.{name_of}
use Rattle.bench_types.specs.Limits.{max_cores, max_tasks}
use Rattle.bench_model.specs.Tallied.{run_at, tally_at}
use Rattle.bench_model.specs.Tally.{TaskTally}

-- how much more or less there is
abbrev pub difference_text : ℕ → ℕ → List ℕ
difference_text before after =
    if nat_lt before after then codes "+" ++ decimal (after - before)
    else codes "-" ++ decimal (before - after)

-- the same after a name; nothing where there is as much
abbrev pub gain_text : List ℕ → ℕ → ℕ → List ℕ
gain_text name before after =
    if before == after then []
    else codes " " ++ name ++ codes " " ++ difference_text before after

-- of the ticks that found the task on the core
abbrev pub run_gain : ℕ → ℕ → ℕ → List ℕ
run_gain core before after = gain_text (codes "run on core " ++ decimal core) before after

-- core by core; a core that there is not has none
abbrev pub run_gained : TaskTally → TaskTally → List ℕ
run_gained before after =
    flat_map (λ core. run_gain core (run_at before core) (run_at after core))
    (numbers max_cores)

-- the other counts, by the names that a tally gives them
unfoldable pub counts_gained : Tally → Tally → List ℕ
counts_gained before after =
    gain_text (codes "wait") before.wait after.wait
    ++ gain_text (codes "inverted") before.inverted after.inverted
    ++ gain_text (codes "in") before.switched after.switched
    ++ gain_text (codes "displaced") before.displaced after.displaced
    ++ gain_text (codes "timeouts") before.timeouts after.timeouts
    ++ gain_text (codes "top") before.top after.top

abbrev pub gains_of : TaskTally → TaskTally → List ℕ
gains_of before after = run_gained before after ++ counts_gained before.counts after.counts

-- a line with these gains of the task; none where there are none
abbrev pub line_with : Header → ℕ → List ℕ → List ℕ
line_with header task [] = []
line_with header task (byte ∷ rest) =
    codes "task " ++ name_of header task ++ (byte ∷ rest) ++ codes "\n"

abbrev pub gains_line : Header → List TaskTally → List TaskTally → ℕ → List ℕ
gains_line header before after task =
    line_with header task (gains_of (tally_at before task) (tally_at after task))

-- a line for each task that fared otherwise, by all numbers that a task may have
unfoldable pub gains_text : Header → List TaskTally → List TaskTally → List ℕ
gains_text header before after =
    flat_map (gains_line header before after) (numbers (max_cores + max_tasks))
