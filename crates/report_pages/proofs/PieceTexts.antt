-- The texts of pieces one after another.
use Rattle.std.proofs.Common.{◌≡◌, ℕ, ◌+◌, List, [], ◌∷◌, ◌++◌, length, flat_map, refl, ap, ap₂, append-nil, codes, ◌∙◌}
use Rattle.std.specs.List.{sum}
use Rattle.std.proofs.lemmas.Grind.{flat_map-append}
use Rattle.list_orders.specs.Search.{numbers}
use Rattle.bench_types.specs.declared.header.Header.{Header}
use Rattle.core_loads.specs.Loads.{share, total}
use Rattle.report_figures.specs.declared.figures.Figure.{Figure}
use Rattle.report_figures.specs.Table.{run_table, runs_table}
use Rattle.run_pictures.specs.Escape.{escaped}
use Rattle.run_pages.specs.Page.{Piece, fixed, told, piece_text, pieces_text}
use Rattle.task_jobs.specs.declared.histogram.Histogram.{Histogram}
use Rattle.task_jobs.specs.Histograms.{intervals}
use Rattle.report_pages.specs.declared.texts.TheConstants.{HEADS, HEADS_END, LOAD, LOAD_END, RESPONSE_AFTER, RESPONSE_BEFORE, TABLE, TABLE_END}
use Rattle.report_pages.specs.LoadBars.{all_pieces, bar_of, cell_pieces, cells_text, core_pieces, cores_text, heads_pieces, idle_pieces, percent_pieces, row_pieces, table_pieces, task_pieces, tasks_text}
use Rattle.report_pages.specs.Report.{loads_pieces, numbers_pieces, responses_pieces, run_pieces, runs_pieces}
use Rattle.report_pages.specs.ResponseBars.{caption_pieces, count_pieces, interval_pieces, line_pieces, response_pieces, rows_text}
use Rattle.report_pages.specs.LoadBars as loads
use Rattle.report_pages.specs.ResponseBars as bars
use Rattle.report_pages.specs.LoadBars.{load_pieces}
use Rattle.report_pages.specs.Told.{Told}

both : (a b : List Piece) → pieces_text (a ++ b) ≡ pieces_text a ++ pieces_text b
both a b = flat_map-append piece_text a b

-- what is made of each of several
pub each : {X : Type 0} (f : X → List Piece) (xs : List X) → pieces_text (flat_map f xs) ≡ flat_map (λ x. pieces_text (f x)) xs
each f [] = refl
each f (x ∷ xs) = both (f x) (flat_map f xs) ∙ ap (λ text. pieces_text (f x) ++ text) (each f xs)

-- ---- loads

pub cell_texts : (tenths : ℕ) → pieces_text (cell_pieces tenths) ≡ pieces_text (loads.bar_pieces tenths) ++ pieces_text (percent_pieces tenths)
unfolding cell_pieces
cell_texts tenths = both (loads.bar_pieces tenths) (percent_pieces tenths)

pub row_texts : (run : ℕ) (times name : List ℕ) → pieces_text (row_pieces run times name)
    ≡ LOAD.now ++ ((cells_text run times ++ pieces_text (all_pieces (share (total times) run))) ++ (flat_map escaped name ++ LOAD_END.now))
unfolding row_pieces
row_texts run times name =
    let all = all_pieces (share (total times) run) in
    let last = told name ∷ fixed LOAD_END.now ∷ [] in
    ap (λ text. LOAD.now ++ text)
    (both (flat_map (bar_of run) times ++ all) last
    ∙ ap₂ (λ (a b : List ℕ). a ++ (flat_map escaped name ++ b))
    (both (flat_map (bar_of run) times) all ∙ ap (λ text. text ++ pieces_text all) (each (bar_of run) times)) (append-nil LOAD_END.now))

pub heads_texts : (cores : ℕ) (title : List ℕ) → pieces_text (heads_pieces cores title)
    ≡ TABLE.now ++ (flat_map escaped title ++ (HEADS.now ++ (cores_text cores ++ HEADS_END.now)))
unfolding heads_pieces
heads_texts cores title =
    ap (λ text. TABLE.now ++ (flat_map escaped title ++ (HEADS.now ++ text)))
    (both (flat_map core_pieces (numbers cores)) (fixed HEADS_END.now ∷ [])
    ∙ ap₂ (λ (a b : List ℕ). a ++ b) (each core_pieces (numbers cores)) (append-nil HEADS_END.now))

pub table_texts : (header : Header) (figures : List Figure) (title : List ℕ) → pieces_text (table_pieces header figures title)
    ≡ ((pieces_text (heads_pieces header.config.cores title) ++ tasks_text header figures) ++ pieces_text (idle_pieces header figures)) ++ TABLE_END.now
unfolding table_pieces
table_texts header figures title =
    let heads = heads_pieces header.config.cores title in
    let tasks = flat_map (task_pieces header figures) (numbers (length header.tasks)) in
    let idle = idle_pieces header figures in
    both (heads ++ tasks ++ idle) (fixed TABLE_END.now ∷ [])
    ∙ ap₂ (λ (a b : List ℕ). a ++ b)
    (both (heads ++ tasks) idle
    ∙ ap (λ text. text ++ pieces_text idle)
    (both heads tasks ∙ ap (λ text. pieces_text heads ++ text) (each (task_pieces header figures) (numbers (length header.tasks)))))
    (append-nil TABLE_END.now)

-- ---- responses

pub count_texts : (all count : ℕ) → pieces_text (count_pieces all count) ≡ pieces_text (bars.bar_pieces all count) ++ pieces_text (bars.number_pieces count)
unfolding count_pieces
count_texts all count = both (bars.bar_pieces all count) (bars.number_pieces count)

pub line_texts : (k all count : ℕ) → pieces_text (line_pieces k all count) ≡ pieces_text (interval_pieces k) ++ pieces_text (count_pieces all count)
unfolding line_pieces
line_texts k all count = both (interval_pieces k) (count_pieces all count)

pub histogram_texts : (title name : List ℕ) (all : ℕ) (histogram : Histogram) → pieces_text (bars.table_pieces title name all histogram)
    ≡ (pieces_text (caption_pieces title name all) ++ rows_text all histogram) ++ TABLE_END.now
unfolding bars.table_pieces rows_text
histogram_texts title name all histogram =
    let caption = caption_pieces title name all in
    let rows = flat_map (bars.row_pieces all histogram) (numbers intervals) in
    both (caption ++ rows) (fixed TABLE_END.now ∷ [])
    ∙ ap₂ (λ (a b : List ℕ). a ++ b)
    (both caption rows ∙ ap (λ text. pieces_text caption ++ text) (each (bars.row_pieces all histogram) (numbers intervals)))
    (append-nil TABLE_END.now)

pub response_texts : (header : Header) (responses : List Histogram) (title : List ℕ) → pieces_text (response_pieces header responses title)
    ≡ bars.tasks_text header responses title
unfolding response_pieces
response_texts header responses title =
    each (λ user. bars.task_pieces header responses title (header.config.cores + user)) (numbers (length header.tasks))

-- ---- reports

pub run_texts : (header : Header) (run : Told) → pieces_text (run_pieces header run)
    ≡ (pieces_text (numbers_pieces (run_table header run.figures)) ++ pieces_text (load_pieces header run.figures (codes "load")))
    ++ pieces_text (response_pieces header run.responses (codes "response"))
unfolding run_pieces
run_texts header run =
    let table = numbers_pieces (run_table header run.figures) in
    let loads = load_pieces header run.figures (codes "load") in
    let responses = response_pieces header run.responses (codes "response") in
    both (table ++ loads) responses ∙ ap (λ text. text ++ pieces_text responses) (both table loads)

pub loads_texts : (header : Header) (before after : Told) → pieces_text (loads_pieces header before after)
    ≡ pieces_text (load_pieces header before.figures (codes "load before")) ++ pieces_text (load_pieces header after.figures (codes "load after"))
unfolding loads_pieces
loads_texts header before after =
    both (load_pieces header before.figures (codes "load before")) (load_pieces header after.figures (codes "load after"))

pub responses_texts : (header : Header) (before after : Told) → pieces_text (responses_pieces header before after)
    ≡ pieces_text (response_pieces header before.responses RESPONSE_BEFORE.now)
    ++ pieces_text (response_pieces header after.responses RESPONSE_AFTER.now)
unfolding responses_pieces
responses_texts header before after =
    both (response_pieces header before.responses RESPONSE_BEFORE.now) (response_pieces header after.responses RESPONSE_AFTER.now)

pub runs_texts : (header : Header) (before after : Told) → pieces_text (runs_pieces header before after)
    ≡ (pieces_text (numbers_pieces (runs_table header before.figures after.figures)) ++ pieces_text (loads_pieces header before after))
    ++ pieces_text (responses_pieces header before after)
unfolding runs_pieces
runs_texts header before after =
    let table = numbers_pieces (runs_table header before.figures after.figures) in
    let loads = loads_pieces header before after in
    let responses = responses_pieces header before after in
    both (table ++ loads) responses ∙ ap (λ text. text ++ pieces_text responses) (both table loads)
