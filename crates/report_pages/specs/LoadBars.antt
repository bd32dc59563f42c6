-- Loads as bars, piece by piece.
use Rattle.std.specs.Prelude.{ℕ, ◌+◌, ◌/◌, ◌%◌, ◌==◌, List, [], ◌∷◌, ◌++◌, length, flat_map, codes, if◌then◌else◌}
use Rattle.list_orders.specs.Search.{numbers}
use Rattle.bench_types.specs.declared.header.Header.{Header}
use Rattle.bench_types.specs.Header.{name_of}
use Rattle.report_figures.specs.declared.figures.Figure.{Figure}
use Rattle.core_loads.specs.declared.loads.Load.TheVariants.{OfRun}
use Rattle.core_loads.specs.Loads.{share, time_of, times_of_idle, times_of_task, total}
use Rattle.run_pages.specs.Page.{Piece, fixed, told, number, pieces_text}
use Rattle.report_pages.specs.declared.texts.TheConstants.{ALL, ALL_END, CELL, CELL_BAR, CELL_END, CORE, CORE_END, HEADS, HEADS_END, LOAD, LOAD_END, POINT, TABLE, TABLE_END}

-- a bar of so many tenths of a percent
unfoldable pub bar_pieces : ℕ → List Piece
bar_pieces tenths = fixed CELL.now ∷ number tenths ∷ fixed CELL_BAR.now ∷ []

-- the percent
unfoldable pub percent_pieces : ℕ → List Piece
percent_pieces tenths =
    number (tenths / 10) ∷ fixed POINT.now ∷ number (tenths % 10) ∷ fixed CELL_END.now ∷ []

-- both in a cell
unfoldable pub cell_pieces : ℕ → List Piece
cell_pieces tenths = bar_pieces tenths ++ percent_pieces tenths

-- the percent alone
unfoldable pub all_pieces : ℕ → List Piece
all_pieces tenths =
    fixed ALL.now ∷ number (tenths / 10) ∷ fixed POINT.now ∷ number (tenths % 10)
    ∷ fixed ALL_END.now ∷ []

-- a bar of a time in a run that takes so long
abbrev pub bar_of : ℕ → ℕ → List Piece
bar_of run time = cell_pieces (share time run)

-- a line: a bar for each time, all of them, and whose they are
unfoldable pub row_pieces : ℕ → List ℕ → List ℕ → List Piece
row_pieces run times name =
    fixed LOAD.now ∷ flat_map (bar_of run) times ++ all_pieces (share (total times) run)
    ++ told name ∷ fixed LOAD_END.now ∷ []

-- the head of a core's column
unfoldable pub core_pieces : ℕ → List Piece
core_pieces core = fixed CORE.now ∷ number core ∷ fixed CORE_END.now ∷ []

-- the title, and the heads of so many columns
unfoldable pub heads_pieces : ℕ → List ℕ → List Piece
heads_pieces cores title =
    fixed TABLE.now ∷ told title ∷ fixed HEADS.now ∷ flat_map core_pieces (numbers cores)
    ++ fixed HEADS_END.now ∷ []

-- the line of the user task with the index
unfoldable pub task_pieces : Header → List Figure → ℕ → List Piece
task_pieces header figures user =
    row_pieces (time_of figures OfRun)
    (times_of_task figures header.config.cores (header.config.cores + user))
    (name_of header (header.config.cores + user))

-- the line of the idle tasks
unfoldable pub idle_pieces : Header → List Figure → List Piece
idle_pieces header figures =
    row_pieces (time_of figures OfRun) (times_of_idle figures header.config.cores)
    (codes "idle")

-- the table
unfoldable pub table_pieces : Header → List Figure → List ℕ → List Piece
table_pieces header figures title =
    heads_pieces header.config.cores title
    ++ flat_map (task_pieces header figures) (numbers (length header.tasks))
    ++ idle_pieces header figures ++ fixed TABLE_END.now ∷ []

-- nothing of a run that takes no time
unfoldable pub load_pieces : Header → List Figure → List ℕ → List Piece
load_pieces header figures title =
    if time_of figures OfRun == 0 then [] else table_pieces header figures title

-- ---- how the parts of the table stand there

abbrev pub cells_text : ℕ → List ℕ → List ℕ
cells_text run times = flat_map (λ time. pieces_text (bar_of run time)) times

abbrev pub cores_text : ℕ → List ℕ
cores_text cores = flat_map (λ core. pieces_text (core_pieces core)) (numbers cores)

abbrev pub tasks_text : Header → List Figure → List ℕ
tasks_text header figures =
    flat_map (λ user. pieces_text (task_pieces header figures user))
    (numbers (length header.tasks))
