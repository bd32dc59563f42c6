-- Which marks of HTML the pieces of a report have.
use Rattle.std.proofs.Common.{◌≡◌, ℕ, ◌+◌, ◌/◌, ◌%◌, ◌-◌, ◌==◌, Bool, true, false, List, [], ◌∷◌, ◌++◌, length, flat_map, codes, refl, All, Option, Some, None, arith, lit<}
use Rattle.std.specs.Prelude.{slice_get, slice_index_or, if◌then◌else◌}
use Rattle.std.specs.List.{sum}
use Rattle.std.specs.Option.{option_map_or}
use Rattle.std.proofs.lemmas.List.Elements.{All-cons}
use Rattle.list_orders.specs.Search.{numbers}
use Rattle.bench_types.specs.declared.header.Header.{Header}
use Rattle.bench_types.specs.Header.{name_of}
use Rattle.core_loads.specs.declared.loads.Load.TheVariants.{OfRun}
use Rattle.core_loads.specs.Loads.{share, time_of, times_of_idle, times_of_task, total}
use Rattle.report_figures.specs.declared.figures.Figure.{Figure}
use Rattle.report_figures.specs.Table.{run_table, runs_table}
use Rattle.run_pages.specs.Page.{Piece, fixed, told}
use Rattle.run_pages.proofs.MarksFound.{number_has_none, words_have_none}
use Rattle.task_jobs.specs.declared.histogram.Histogram.{Histogram}
use Rattle.task_jobs.specs.Histograms.{intervals, least_time}
use Rattle.report_pages.specs.declared.texts.TheConstants.{HEADS_END, LOAD_END, RESPONSE_AFTER, RESPONSE_BEFORE, TABLE_END}
use Rattle.report_pages.specs.LoadBars.{all_pieces, bar_of, cell_pieces, core_pieces, heads_pieces, idle_pieces, load_pieces, percent_pieces, row_pieces, table_pieces, task_pieces}
use Rattle.report_pages.specs.Marks.{IsPlain, RunIsPlain, RunsArePlain}
use Rattle.report_pages.specs.Report.{loads_pieces, numbers_pieces, responses_pieces, run_pieces, runs_pieces}
use Rattle.report_pages.specs.ResponseBars.{caption_pieces, count_pieces, histogram_pieces, interval_pieces, line_pieces, most_time, response_pieces}
use Rattle.report_pages.specs.LoadBars as loads
use Rattle.report_pages.specs.ResponseBars as bars
use Rattle.report_pages.specs.Told.{Told}

-- each of the pieces is plain
abbrev ArePlain : List Piece → Type 0
ArePlain [] = Unit {0}
ArePlain (piece ∷ rest) = IsPlain piece × ArePlain rest

both : (a b : List Piece) → ArePlain a → ArePlain b → ArePlain (a ++ b)
both [] b plain more = more
both (piece ∷ a) b plain more = (plain.0, both a b plain.1 more)

each : {X : Type 0} (f : X → List Piece) → ((x : X) → ArePlain (f x)) → (xs : List X) → ArePlain (flat_map f xs)
each f plain [] = tt
each f plain (x ∷ xs) = both (f x) (flat_map f xs) (plain x) (each f plain xs)

all_plain : (pieces : List Piece) → ArePlain pieces → All IsPlain pieces
all_plain [] plain = λ k d l. absurd (omega arith)
all_plain (piece ∷ rest) plain = All-cons IsPlain piece rest plain.0 (all_plain rest plain.1)

-- ---- loads

bar_plain : (tenths : ℕ) → ArePlain (loads.bar_pieces tenths)
unfolding loads.bar_pieces
bar_plain tenths = ((8, lit< tt, refl), (number_has_none tenths, ((9, lit< tt, refl), tt)))

percent_plain : (tenths : ℕ) → ArePlain (percent_pieces tenths)
unfolding percent_pieces
percent_plain tenths = (number_has_none (tenths / 10), ((10, lit< tt, refl), (number_has_none (tenths % 10), ((11, lit< tt, refl), tt))))

cell_plain : (tenths : ℕ) → ArePlain (cell_pieces tenths)
unfolding cell_pieces
cell_plain tenths = both (loads.bar_pieces tenths) (percent_pieces tenths) (bar_plain tenths) (percent_plain tenths)

of_all_plain : (tenths : ℕ) → ArePlain (all_pieces tenths)
unfolding all_pieces
of_all_plain tenths = ((12, lit< tt, refl), (number_has_none (tenths / 10), ((10, lit< tt, refl), (number_has_none (tenths % 10), ((13, lit< tt, refl), tt)))))

row_plain : (run : ℕ) (times name : List ℕ) → ArePlain (row_pieces run times name)
unfolding row_pieces
row_plain run times name =
    let all = all_pieces (share (total times) run) in
    let last = told name ∷ fixed LOAD_END.now ∷ [] in (
      (7, lit< tt, refl),
      both (flat_map (bar_of run) times ++ all) last
          (both (flat_map (bar_of run) times) all (each (bar_of run) (λ time. cell_plain (share time run)) times) (of_all_plain (share (total times) run)))
          (words_have_none name, ((14, lit< tt, refl), tt)),
    )

core_plain : (core : ℕ) → ArePlain (core_pieces core)
unfolding core_pieces
core_plain core = ((4, lit< tt, refl), (number_has_none core, ((5, lit< tt, refl), tt)))

heads_plain : (cores : ℕ) (title : List ℕ) → ArePlain (heads_pieces cores title)
unfolding heads_pieces
heads_plain cores title = (
  (2, lit< tt, refl),
  (
    words_have_none title,
    (
      (3, lit< tt, refl),
      both (flat_map core_pieces (numbers cores)) (fixed HEADS_END.now ∷ []) (each core_pieces core_plain (numbers cores)) ((6, lit< tt, refl), tt),
    ),
  ),
)

task_plain : (header : Header) (figures : List Figure) (user : ℕ) → ArePlain (task_pieces header figures user)
unfolding task_pieces
task_plain header figures user =
    row_plain (time_of figures OfRun) (times_of_task figures header.config.cores (header.config.cores + user))
    (name_of header (header.config.cores + user))

idle_plain : (header : Header) (figures : List Figure) → ArePlain (idle_pieces header figures)
unfolding idle_pieces
idle_plain header figures = row_plain (time_of figures OfRun) (times_of_idle figures header.config.cores) (codes "idle")

table_plain : (header : Header) (figures : List Figure) (title : List ℕ) → ArePlain (table_pieces header figures title)
unfolding table_pieces
table_plain header figures title =
    let heads = heads_pieces header.config.cores title in
    let tasks = flat_map (task_pieces header figures) (numbers (length header.tasks)) in
    let idle = idle_pieces header figures in
    let last = fixed TABLE_END.now ∷ [] in
    both (heads ++ tasks ++ idle) last
    (both (heads ++ tasks) idle
    (both heads tasks (heads_plain header.config.cores title)
    (each (task_pieces header figures) (task_plain header figures) (numbers (length header.tasks))))
    (idle_plain header figures)) ((15, lit< tt, refl), tt)

unless : (b : Bool) (pieces : List Piece) → ArePlain pieces → ArePlain (if b then [] else pieces)
unless true pieces plain = tt
unless false pieces plain = plain

load_plain : (header : Header) (figures : List Figure) (title : List ℕ) → ArePlain (load_pieces header figures title)
unfolding load_pieces
load_plain header figures title = unless (time_of figures OfRun == 0) (table_pieces header figures title) (table_plain header figures title)

-- ---- responses

interval_plain : (k : ℕ) → ArePlain (interval_pieces k)
unfolding interval_pieces
interval_plain k = ((19, lit< tt, refl), (number_has_none (least_time k), ((20, lit< tt, refl), (number_has_none (most_time k), ((21, lit< tt, refl), tt)))))

of_count_plain : (all count : ℕ) → ArePlain (bars.bar_pieces all count)
unfolding bars.bar_pieces
of_count_plain all count = (number_has_none all, ((22, lit< tt, refl), (number_has_none count, ((23, lit< tt, refl), tt))))

of_number_plain : (count : ℕ) → ArePlain (bars.number_pieces count)
unfolding bars.number_pieces
of_number_plain count = (number_has_none count, ((24, lit< tt, refl), tt))

count_plain : (all count : ℕ) → ArePlain (count_pieces all count)
unfolding count_pieces
count_plain all count = both (bars.bar_pieces all count) (bars.number_pieces count) (of_count_plain all count) (of_number_plain count)

line_plain : (k all count : ℕ) → ArePlain (line_pieces k all count)
unfolding line_pieces
line_plain k all count = both (interval_pieces k) (count_pieces all count) (interval_plain k) (count_plain all count)

of_interval_plain : (all : ℕ) (histogram : Histogram) (k : ℕ) → ArePlain (bars.row_pieces all histogram k)
of_interval_plain all histogram k =
    let count = slice_index_or histogram.counts k 0 in
    unless (count == 0) (line_pieces k all count) (line_plain k all count)

caption_plain : (title name : List ℕ) (all : ℕ) → ArePlain (caption_pieces title name all)
unfolding caption_pieces
caption_plain title name all = ((2, lit< tt, refl), (words_have_none name, ((16, lit< tt, refl), (words_have_none title, ((17, lit< tt, refl), (number_has_none all, ((18, lit< tt, refl), tt)))))))

of_task_plain : (title name : List ℕ) (all : ℕ) (histogram : Histogram) → ArePlain (bars.table_pieces title name all histogram)
unfolding bars.table_pieces
of_task_plain title name all histogram =
    let rows = flat_map (bars.row_pieces all histogram) (numbers intervals) in
    let last = fixed TABLE_END.now ∷ [] in
    both (caption_pieces title name all ++ rows) last
    (both (caption_pieces title name all) rows (caption_plain title name all)
    (each (bars.row_pieces all histogram) (of_interval_plain all histogram) (numbers intervals))) ((15, lit< tt, refl), tt)

histogram_plain : (title name : List ℕ) (histogram : Histogram) → ArePlain (histogram_pieces title name histogram)
unfolding histogram_pieces
histogram_plain title name histogram =
    let all = sum histogram.counts in
    unless (all == 0) (bars.table_pieces title name all histogram) (of_task_plain title name all histogram)

bars_plain : (header : Header) (responses : List Histogram) (title : List ℕ) (task : ℕ) → ArePlain (bars.task_pieces header responses title task)
unfolding bars.task_pieces
bars_plain header responses title task = at (slice_get responses task)
  where
    at : (found : Option Histogram) → ArePlain (option_map_or (histogram_pieces title (name_of header task)) found [])
    at None = tt
    at (Some histogram) = histogram_plain title (name_of header task) histogram

response_plain : (header : Header) (responses : List Histogram) (title : List ℕ) → ArePlain (response_pieces header responses title)
unfolding response_pieces
response_plain header responses title =
    each (λ user. bars.task_pieces header responses title (header.config.cores + user))
    (λ user. bars_plain header responses title (header.config.cores + user)) (numbers (length header.tasks))

-- ---- reports

numbers_plain : (table : List ℕ) → ArePlain (numbers_pieces table)
unfolding numbers_pieces
numbers_plain table = ((0, lit< tt, refl), (words_have_none table, ((1, lit< tt, refl), tt)))

pub run_is_plain : RunIsPlain
unfolding run_pieces
run_is_plain header run =
    let loads = load_pieces header run.figures (codes "load") in
    let responses = response_pieces header run.responses (codes "response") in
    let table = numbers_pieces (run_table header run.figures) in
    all_plain (run_pieces header run)
    (both (table ++ loads) responses
    (both table loads (numbers_plain (run_table header run.figures)) (load_plain header run.figures (codes "load")))
    (response_plain header run.responses (codes "response")))

loads_plain : (header : Header) (before after : Told) → ArePlain (loads_pieces header before after)
unfolding loads_pieces
loads_plain header before after =
    both (load_pieces header before.figures (codes "load before")) (load_pieces header after.figures (codes "load after"))
    (load_plain header before.figures (codes "load before")) (load_plain header after.figures (codes "load after"))

responses_plain : (header : Header) (before after : Told) → ArePlain (responses_pieces header before after)
unfolding responses_pieces
responses_plain header before after =
    both (response_pieces header before.responses RESPONSE_BEFORE.now) (response_pieces header after.responses RESPONSE_AFTER.now)
    (response_plain header before.responses RESPONSE_BEFORE.now) (response_plain header after.responses RESPONSE_AFTER.now)

pub runs_are_plain : RunsArePlain
unfolding runs_pieces
runs_are_plain header before after =
    let loads = loads_pieces header before after in
    let responses = responses_pieces header before after in
    let table = numbers_pieces (runs_table header before.figures after.figures) in
    all_plain (runs_pieces header before after)
    (both (table ++ loads) responses
    (both table loads (numbers_plain (runs_table header before.figures after.figures)) (loads_plain header before after))
    (responses_plain header before after))
