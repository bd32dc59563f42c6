-- Which marks of HTML stand in a report.
use Rattle.std.specs.Prelude.{◌≡◌, ℕ, List, [], ◌∷◌, ◌++◌, true, decimal, flat_map, All, Contains}
use Rattle.bench_types.specs.declared.header.Header.{Header}
use Rattle.run_pictures.specs.Escape.{escaped}
use Rattle.run_pages.specs.Marks.{fixed_texts, has_no_mark}
use Rattle.run_pages.specs.Page.{page_text, pieces_text, Piece, fixed, told, number, drawn}
use Rattle.run_pages.specs.Shown.{Shown}
use Rattle.report_pages.specs.declared.texts.TheConstants.{ALL, ALL_END, CELL, CELL_BAR, CELL_END, COLON, CORE, CORE_END, COUNT, COUNT_BAR, COUNT_END, HEADS, HEADS_END}
use Rattle.report_pages.specs.declared.texts.TheConstants.{INTERVAL, INTERVAL_END, JOBS, JOBS_END, LOAD, LOAD_END, NUMBERS, NUMBERS_END, POINT, TABLE, TABLE_END, TO}
use Rattle.report_pages.specs.Report.{run_pieces, runs_pieces}
use Rattle.report_pages.specs.Told.{Told}

-- what is the same in all reports
abbrev pub report_texts : List (List ℕ)
report_texts =
    NUMBERS.now ∷ NUMBERS_END.now ∷ TABLE.now ∷ HEADS.now ∷ CORE.now ∷ CORE_END.now
    ∷ HEADS_END.now ∷ LOAD.now ∷ CELL.now ∷ CELL_BAR.now ∷ POINT.now ∷ CELL_END.now ∷ ALL.now
    ∷ ALL_END.now ∷ LOAD_END.now ∷ TABLE_END.now ∷ COLON.now ∷ JOBS.now ∷ JOBS_END.now
    ∷ INTERVAL.now ∷ TO.now ∷ INTERVAL_END.now ∷ COUNT.now ∷ COUNT_BAR.now ∷ COUNT_END.now ∷ []

-- a piece is the same in all reports, or has no mark of HTML
abbrev pub IsPlain : Piece → Type 0
IsPlain (fixed text) = Contains report_texts text
IsPlain (told words) = has_no_mark (flat_map escaped words) ≡ true
IsPlain (number value) = has_no_mark (decimal value) ≡ true
IsPlain (drawn picture) = ⊥

-- a piece is the same in all pages or reports, or the picture, or has no mark of HTML
abbrev pub IsPlainIn : List ℕ → Piece → Type 0
IsPlainIn picture (fixed text) = Contains (fixed_texts ++ report_texts) text
IsPlainIn picture (told words) = has_no_mark (flat_map escaped words) ≡ true
IsPlainIn picture (number value) = has_no_mark (decimal value) ≡ true
IsPlainIn picture (drawn part) = part ≡ picture

-- the text is made of such pieces
pub record IsMadeOfPlain (picture text : List ℕ) : Type 0 where
  pub pieces : List Piece
  pub plain : All (IsPlainIn picture) pieces
  pub is : text ≡ pieces_text pieces

-- so is a whole page whose report is the text of plain pieces
abbrev pub PageIsPlain : Type 0
PageIsPlain =
    (shown : Shown) (report : List Piece) → All IsPlain report
    → shown.report ≡ pieces_text report → IsMadeOfPlain shown.picture (page_text shown)

-- all pieces of a report are plain, and those of one of two runs
abbrev pub RunIsPlain : Type 0
RunIsPlain = (header : Header) (run : Told) → All IsPlain (run_pieces header run)

abbrev pub RunsArePlain : Type 0
RunsArePlain =
    (header : Header) (before after : Told) → All IsPlain (runs_pieces header before after)
