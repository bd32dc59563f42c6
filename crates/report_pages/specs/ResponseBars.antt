-- How long the responses of tasks are, as bars, piece by piece.
use Rattle.std.specs.Prelude.{ℕ, suc, ◌+◌, ◌-◌, ◌==◌, List, [], ◌∷◌, ◌++◌, length, flat_map, slice_get, slice_index_or, if◌then◌else◌}
use Rattle.std.specs.List.{sum}
use Rattle.std.specs.Option.{option_map_or}
use Rattle.list_orders.specs.Search.{numbers}
use Rattle.bench_types.specs.declared.header.Header.{Header}
use Rattle.bench_types.specs.Header.{name_of}
use Rattle.task_jobs.specs.declared.histogram.Histogram.{Histogram}
use Rattle.task_jobs.specs.Histograms.{intervals, least_time}
use Rattle.run_pages.specs.Page.{Piece, fixed, told, number, pieces_text}
use Rattle.report_pages.specs.declared.texts.TheConstants.{COLON, COUNT, COUNT_BAR, COUNT_END, INTERVAL, INTERVAL_END, JOBS, JOBS_END, TABLE, TABLE_END, TO}

-- the greatest time of an interval; of the last what 64 bits hold
abbrev pub most_time : ℕ → ℕ
most_time k = least_time (suc k) - 1

-- the times of an interval
unfoldable pub interval_pieces : ℕ → List Piece
interval_pieces k =
    fixed INTERVAL.now ∷ number (least_time k) ∷ fixed TO.now ∷ number (most_time k)
    ∷ fixed INTERVAL_END.now ∷ []

-- a bar of a count, where all are so many
unfoldable pub bar_pieces : ℕ → ℕ → List Piece
bar_pieces all count =
    number all ∷ fixed COUNT.now ∷ number count ∷ fixed COUNT_BAR.now ∷ []

-- the count
unfoldable pub number_pieces : ℕ → List Piece
number_pieces count = number count ∷ fixed COUNT_END.now ∷ []

-- both in a cell
unfoldable pub count_pieces : ℕ → ℕ → List Piece
count_pieces all count = bar_pieces all count ++ number_pieces count

-- the line of an interval
unfoldable pub line_pieces : ℕ → ℕ → ℕ → List Piece
line_pieces k all count = interval_pieces k ++ count_pieces all count

-- unless its count is 0
abbrev pub row_pieces : ℕ → Histogram → ℕ → List Piece
row_pieces all histogram k = if slice_index_or histogram.counts k 0 == 0 then []
    else line_pieces k all (slice_index_or histogram.counts k 0)

-- the title of a task's table
unfoldable pub caption_pieces : List ℕ → List ℕ → ℕ → List Piece
caption_pieces title name all =
    fixed TABLE.now ∷ told name ∷ fixed COLON.now ∷ told title ∷ fixed JOBS.now
    ∷ number all ∷ fixed JOBS_END.now ∷ []

-- the table of a task of which so many jobs ended
unfoldable pub table_pieces : List ℕ → List ℕ → ℕ → Histogram → List Piece
table_pieces title name all histogram =
    caption_pieces title name all ++ flat_map (row_pieces all histogram) (numbers intervals)
    ++ fixed TABLE_END.now ∷ []

-- if a job of it ended
unfoldable pub histogram_pieces : List ℕ → List ℕ → Histogram → List Piece
histogram_pieces title name histogram = if sum histogram.counts == 0 then []
    else table_pieces title name (sum histogram.counts) histogram

-- that of the task with the index
unfoldable pub task_pieces : Header → List Histogram → List ℕ → ℕ → List Piece
task_pieces header responses title task =
    option_map_or (histogram_pieces title (name_of header task)) (slice_get responses task) []

-- the tables of all user tasks
unfoldable pub response_pieces : Header → List Histogram → List ℕ → List Piece
response_pieces header responses title =
    flat_map (λ user. task_pieces header responses title (header.config.cores + user))
    (numbers (length header.tasks))

-- ---- how the lines of a table stand there

unfoldable pub rows_text : ℕ → Histogram → List ℕ
rows_text all histogram =
    flat_map (λ k. pieces_text (row_pieces all histogram k)) (numbers intervals)

abbrev pub tasks_text : Header → List Histogram → List ℕ → List ℕ
tasks_text header responses title =
    flat_map
    (λ user. pieces_text (task_pieces header responses title (header.config.cores + user)))
    (numbers (length header.tasks))
