-- Why nothing is told of an input.
use Rattle.std.specs.Prelude.{ℕ, List, [], ◌++◌, codes, decimal, Option}
use Rattle.bench_types.specs.declared.header.Header.{Header}
use Rattle.bench_types.specs.Limits.{max_steps}
use Rattle.program_io.specs.Hint.{too_long_line, too_many_steps_line}
use Rattle.program_io.specs.Outputs.{Printed, refusal}
use Rattle.program_io.specs.Refusal.{refusal_line}
use Rattle.simulating.specs.Notes.{too_long_text}
use Rattle.task_programs.specs.Limits.{max_ticks}

-- a refusal line, and what people are told
abbrev pub refused_lines : List ℕ → List ℕ → Printed
refused_lines line hint = refusal (line ++ hint)

-- the refusal line of a code, and what people are told
abbrev pub refused_for : List ℕ → List ℕ → Printed
refused_for code hint = refused_lines (refusal_line code []) hint

-- H3: the input is too long
abbrev pub too_long_input : Printed
too_long_input = refused_for (codes "H3") too_long_line

-- J2: the session has too many steps
abbrev pub too_many_steps : Printed
too_many_steps = refused_for (codes "J2") too_many_steps_line

-- that the settled run has more steps than a session may have
abbrev pub settled_too_long_line : List ℕ
settled_too_long_line =
    codes "the settled run has more than " ++ decimal max_steps ++ codes " steps\n"

-- J2: the same, with the refusal line
abbrev pub settled_too_long : Printed
settled_too_long = refused_for (codes "J2") settled_too_long_line

-- that the first change of work, which stands at this place among the edits, is shown by runs that
-- keep work alone
abbrev pub work_path : ℕ → List ℕ
work_path place = codes "edits[" ++ decimal place ++ codes "].edit"

abbrev pub no_kept_line : ℕ → List ℕ
no_kept_line place =
    work_path place ++ codes ": a change of work is shown by --keep-work alone\n"

-- H2: the same, with the refusal line
abbrev pub no_kept : ℕ → Printed
no_kept place = refused_lines (refusal_line (codes "H2") (work_path place)) (no_kept_line place)

-- that the run that keeps work, or the settled run before the edits, has
abbrev pub kept_too_long_line : List ℕ
kept_too_long_line =
    codes "the run that keeps work, or the settled run before the edits, has more than "
    ++ decimal max_steps ++ codes " steps\n"

-- J2: the same, with the refusal line
abbrev pub kept_too_long : Printed
kept_too_long = refused_for (codes "J2") kept_too_long_line

-- J2: the run of a workload has more steps than a session may have, and this task alone made the
-- last calls
abbrev pub simulated_too_long : Header → Option ℕ → Printed
simulated_too_long header caller =
    refused_for (codes "J2") (too_long_text header caller ++ codes "\n")

-- that there are more ticks than a workload may have
abbrev pub too_many_ticks_line : List ℕ
too_many_ticks_line =
    codes "ticks: a workload goes on for " ++ decimal max_ticks ++ codes " ticks at most\n"

-- F5: the same, with the refusal line
abbrev pub too_many_ticks : Printed
too_many_ticks = refused_lines (refusal_line (codes "F5") (codes "ticks")) too_many_ticks_line

-- that a document is no workload
abbrev pub no_workload_line : List ℕ
no_workload_line =
    codes "top: expected a workload, an object with ticks and with neither session nor steps\n"

-- H2: the same, with the refusal line
abbrev pub no_workload : Printed
no_workload = refused_lines (refusal_line (codes "H2") (codes "top")) no_workload_line
