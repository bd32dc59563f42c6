-- The report of a run, piece by piece.
use Rattle.std.specs.Prelude.{ℕ, List, [], ◌∷◌, ◌++◌, codes}
use Rattle.bench_types.specs.declared.header.Header.{Header}
use Rattle.report_figures.specs.Table.{run_table, runs_table}
use Rattle.run_pages.specs.Page.{Piece, fixed, told}
use Rattle.report_pages.specs.declared.texts.TheConstants.{NUMBERS, NUMBERS_END, RESPONSE_AFTER, RESPONSE_BEFORE}
use Rattle.report_pages.specs.LoadBars.{load_pieces}
use Rattle.report_pages.specs.ResponseBars.{response_pieces}
use Rattle.report_pages.specs.Told.{Told}

-- the numbers as a text
unfoldable pub numbers_pieces : List ℕ → List Piece
numbers_pieces table = fixed NUMBERS.now ∷ told table ∷ fixed NUMBERS_END.now ∷ []

-- the numbers, the loads and the responses
unfoldable pub run_pieces : Header → Told → List Piece
run_pieces header run =
    numbers_pieces (run_table header run.figures)
    ++ load_pieces header run.figures (codes "load")
    ++ response_pieces header run.responses (codes "response")

-- the loads of both runs
unfoldable pub loads_pieces : Header → Told → Told → List Piece
loads_pieces header before after =
    load_pieces header before.figures (codes "load before")
    ++ load_pieces header after.figures (codes "load after")

-- the responses of the tasks of both
unfoldable pub responses_pieces : Header → Told → Told → List Piece
responses_pieces header before after =
    response_pieces header before.responses RESPONSE_BEFORE.now
    ++ response_pieces header after.responses RESPONSE_AFTER.now

-- the numbers of both beside each other, their loads and their responses
unfoldable pub runs_pieces : Header → Told → Told → List Piece
runs_pieces header before after =
    numbers_pieces (runs_table header before.figures after.figures)
    ++ loads_pieces header before after ++ responses_pieces header before after
