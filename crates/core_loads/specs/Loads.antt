-- How much of a run each task had each core, in percent.
use Rattle.std.specs.Prelude.{ℕ, ◌+◌, ◌-◌, ◌*◌, ◌/◌, ◌%◌, ◌^◌, min, ◌==◌, ◌&&◌, Bool, true, false, List, [], ◌++◌, length, map, flat_map, find, codes, decimal, if◌then◌else◌}
use Rattle.std.specs.List.{sum_by}
use Rattle.std.specs.Option.{option_map_or}
use Rattle.list_orders.specs.Search.{numbers}
use Rattle.bench_types.specs.declared.header.Header.{Header}
use Rattle.bench_types.specs.Header.{name_of}
use Rattle.run_numbers.specs.declared.subject.Condition.TheVariants.{RunningOn, Idle}
use Rattle.run_numbers.specs.declared.subject.Subject.{Subject}
use Rattle.run_numbers.specs.declared.subject.Subject.TheVariants.{Time, Run}
use Rattle.run_numbers.specs.declared.subject.Whole.TheVariants as whole
use Rattle.report_figures.specs.declared.figures.Figure.{Figure}
use Rattle.report_figures.specs.declared.figures.Part.{Part}
use Rattle.report_figures.specs.declared.figures.Part.TheVariants.{Total}
use Rattle.report_figures.specs.Table.{right_aligned}
use Rattle.core_loads.specs.declared.loads.Load.{Load}
use Rattle.core_loads.specs.declared.loads.Load.TheVariants.{OfTask, OfIdle, OfRun}

-- ---- times of a run

-- the subject is this time
abbrev pub is_time_of : Load → Subject → Bool
is_time_of (OfTask task core) (Time (RunningOn runs on)) = runs == task && on == core
is_time_of (OfIdle core) (Time (Idle on)) = on == core
is_time_of OfRun (Run whole.Time) = true
is_time_of load subject = false

abbrev pub is_total : Part → Bool
is_total Total = true
is_total part = false

-- the figure is the total of it
abbrev pub is_load : Load → Figure → Bool
is_load load figure = is_total figure.part && is_time_of load figure.subject

-- the time among the figures, 0 where there is none
abbrev pub time_of : List Figure → Load → ℕ
time_of figures load = option_map_or (λ figure. figure.value) (find (is_load load) figures) 0

-- the time of the task on each of so many cores
abbrev pub times_of_task : List Figure → ℕ → ℕ → List ℕ
times_of_task figures cores task =
    map (λ core. time_of figures (OfTask task core)) (numbers cores)

-- the time that each of them had its idle task
abbrev pub times_of_idle : List Figure → ℕ → List ℕ
times_of_idle figures cores = map (λ core. time_of figures (OfIdle core)) (numbers cores)

-- all times together
abbrev pub total : List ℕ → ℕ
total times = sum_by (λ time. time) times

-- ---- percent

-- the tenths of a percent that a time is of the run's, to the nearest; at most what 64 bits hold
abbrev pub share : ℕ → ℕ → ℕ
share time run = min ((time * 1000 + run / 2) / run) (2 ^ 64 - 1)

-- so many tenths of a percent
unfoldable pub percent_text : ℕ → List ℕ
percent_text tenths = decimal (tenths / 10) ++ codes "." ++ decimal (tenths % 10) ++ codes "%"

-- a time in a column, with a space behind it
unfoldable pub cell_text : ℕ → ℕ → List ℕ
cell_text run time = right_aligned (percent_text (share time run)) ++ codes " "

-- ---- the table

-- a line: each time, all of them, and whose they are
unfoldable pub row_text : ℕ → List ℕ → List ℕ → List ℕ
row_text run times name =
    flat_map (cell_text run) times ++ cell_text run (total times) ++ name ++ codes "\n"

-- the head of a core's column
unfoldable pub core_head : ℕ → List ℕ
core_head core = right_aligned (codes "core " ++ decimal core) ++ codes " "

-- the heads of so many columns, of all, and of the table
unfoldable pub head_text : ℕ → List ℕ → List ℕ
head_text cores title =
    flat_map core_head (numbers cores) ++ right_aligned (codes "all") ++ codes " " ++ title
    ++ codes "\n"

-- the line of the user task with the index
unfoldable pub task_row : Header → List Figure → ℕ → List ℕ
task_row header figures user =
    row_text (time_of figures OfRun)
    (times_of_task figures header.config.cores (header.config.cores + user))
    (name_of header (header.config.cores + user))

-- the line of the idle tasks
unfoldable pub idle_row : Header → List Figure → List ℕ
idle_row header figures =
    row_text (time_of figures OfRun) (times_of_idle figures header.config.cores)
    (codes "idle")

-- the table under an empty line; nothing of a run that takes no time
unfoldable pub load_table : Header → List Figure → List ℕ → List ℕ
load_table header figures title = if time_of figures OfRun == 0 then []
    else codes "\n" ++ head_text header.config.cores title
    ++ flat_map (task_row header figures) (numbers (length header.tasks))
    ++ idle_row header figures
