-- The page of a run, piece by piece: its picture, and its texts place by place.
use Rattle.std.specs.Prelude.{ℕ, suc, List, [], ◌∷◌, ◌++◌, flat_map, decimal, Option, Some, None}
use Rattle.run_pictures.specs.Escape.{escaped}
use Rattle.run_pages.specs.declared.script.TheConstants.{SCRIPT, SCRIPT_HASH}
use Rattle.run_pages.specs.declared.style.TheConstants.{BLOCK, BLOCK_END, BLOCK_WORDS, COMPARISON, COMPARISON_LINK, END, LINK, LINK_END, LINK_NAME}
use Rattle.run_pages.specs.declared.style.TheConstants.{OPENING, PARTS, PICTURE, PLACES, REPORT, REPORT_END, SCRIPT_OPENING, SECTION_END, STYLE, TITLE, TRACE, TRACE_END}
use Rattle.run_pages.specs.Shown.{Shown}

-- a piece of a page
pub data Piece : Type 0 where
  -- what is the same in all pages
  fixed : List ℕ → Piece
  -- words of the run
  told : List ℕ → Piece
  number : ℕ → Piece
  -- the SVG, or the report as HTML
  drawn : List ℕ → Piece

-- how it stands in the page
abbrev pub piece_text : Piece → List ℕ
piece_text (fixed text) = text
piece_text (told words) = flat_map escaped words
piece_text (number value) = decimal value
piece_text (drawn picture) = picture

-- how they stand there one after another
abbrev pub pieces_text : List Piece → List ℕ
pieces_text pieces = flat_map piece_text pieces

-- the first lines, with the title, and the heading
unfoldable pub heading_pieces : List ℕ → List Piece
heading_pieces title =
    fixed OPENING.now ∷ fixed SCRIPT_HASH.now ∷ fixed TITLE.now ∷ told title
    ∷ fixed STYLE.now ∷ told title ∷ fixed PARTS.now ∷ []

-- the comparison as one of the parts, where there is one
abbrev pub comparison_link : Option (List ℕ) → List Piece
comparison_link None = []
comparison_link (Some words) = fixed COMPARISON_LINK.now ∷ []

-- a link to a place
unfoldable pub link_pieces : ℕ → List Piece
link_pieces place =
    fixed LINK.now ∷ number place ∷ fixed LINK_NAME.now ∷ number place
    ∷ fixed LINK_END.now ∷ []

-- a link to each of the places, the first of which has the number
abbrev pub links_pieces : ℕ → List (List ℕ) → List Piece
links_pieces first [] = []
links_pieces first (words ∷ rest) = link_pieces first ++ links_pieces (suc first) rest

-- what the trace tells of a place, between tags that have its number
unfoldable pub block_pieces : ℕ → List ℕ → List Piece
block_pieces place words =
    fixed BLOCK.now ∷ number place ∷ fixed BLOCK_WORDS.now ∷ told words
    ∷ fixed BLOCK_END.now ∷ []

-- the places, the first of which has the number
abbrev pub blocks_pieces : ℕ → List (List ℕ) → List Piece
blocks_pieces first [] = []
blocks_pieces first (words ∷ rest) = block_pieces first words ++ blocks_pieces (suc first) rest

-- a part of the page that is a text
unfoldable pub section_pieces : List ℕ → List ℕ → List Piece
section_pieces opening words =
    fixed opening ∷ told words ∷ fixed SECTION_END.now ∷ []

-- the comparison, where there is one
abbrev pub comparison_pieces : Option (List ℕ) → List Piece
comparison_pieces None = []
comparison_pieces (Some words) = section_pieces COMPARISON.now words

-- what stands before the picture
unfoldable pub opening_pieces : Shown → List Piece
opening_pieces shown =
    heading_pieces shown.title ++ comparison_link shown.comparison ++ fixed PICTURE.now ∷ []

-- the list of places
abbrev pub list_pieces : ℕ → List (List ℕ) → List Piece
list_pieces first places = fixed PLACES.now ∷ links_pieces first places

-- what the trace tells, from its opening to its end
abbrev pub told_pieces : ℕ → List (List ℕ) → List Piece
told_pieces first places =
    fixed TRACE.now ∷ blocks_pieces first places ++ fixed TRACE_END.now ∷ []

-- a link to each place, and the trace
unfoldable pub trace_pieces : ℕ → List (List ℕ) → List Piece
trace_pieces first places = list_pieces first places ++ told_pieces first places

-- the comparison, and the report opens
unfoldable pub texts_pieces : Shown → List Piece
texts_pieces shown = comparison_pieces shown.comparison ++ fixed REPORT.now ∷ []

-- the script and the end
unfoldable pub closing_pieces : List Piece
closing_pieces =
    fixed REPORT_END.now ∷ fixed SCRIPT_OPENING.now ∷ fixed SCRIPT.now ∷ fixed END.now ∷ []

-- the whole page
unfoldable pub page_pieces : Shown → List Piece
page_pieces shown =
    opening_pieces shown ++ drawn shown.picture ∷ trace_pieces shown.first shown.places
    ++ texts_pieces shown ++ drawn shown.report ∷ closing_pieces

unfoldable pub page_text : Shown → List ℕ
page_text shown = pieces_text (page_pieces shown)
