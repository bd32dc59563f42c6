-- Which marks of HTML stand in a page, and that its fixed texts lead nowhere else.
use Rattle.std.specs.Prelude.{◌≡◌, ◌⊎◌, ℕ, List, [], ◌∷◌, ◌==◌, ◌&&◌, ◌||◌, Bool, true, not, codes, decimal, flat_map, nat_eq, Contains}
use Rattle.std.specs.List.{starts_with}
use Rattle.run_pictures.specs.Escape.{escaped}
use Rattle.run_pages.specs.declared.script.TheConstants.{SCRIPT, SCRIPT_HASH}
use Rattle.run_pages.specs.declared.style.TheConstants.{BLOCK, BLOCK_END, BLOCK_WORDS, COMPARISON, COMPARISON_LINK, END, LINK, LINK_END, LINK_NAME}
use Rattle.run_pages.specs.declared.style.TheConstants.{OPENING, PARTS, PICTURE, PLACES, REPORT, REPORT_END, SCRIPT_OPENING, SECTION_END, STYLE, TITLE, TRACE, TRACE_END}
use Rattle.run_pages.specs.Page.{Piece, fixed, told, number, drawn}
use Rattle.run_pages.specs.Shown.{Shown}

-- behind a `&`, the text begins with the rest of the name of a mark
abbrev pub ends_name : List ℕ → Bool
ends_name text =
    starts_with nat_eq text (codes "amp;") || starts_with nat_eq text (codes "lt;")
    || starts_with nat_eq text (codes "gt;") || starts_with nat_eq text (codes "quot;")
    || starts_with nat_eq text (codes "#39;")

-- it is a mark of HTML: `<`, `>` or a quote, or a `&` that begins no name of one
abbrev pub is_mark_before : List ℕ → ℕ → Bool
is_mark_before rest byte =
    byte == 60 || byte == 62 || byte == 34 || byte == 39 || (byte == 38 && not (ends_name rest))

-- no mark of HTML stands in the text
abbrev pub has_no_mark : List ℕ → Bool
has_no_mark [] = true
has_no_mark (byte ∷ rest) = not (is_mark_before rest byte) && has_no_mark rest

-- what is the same in all pages
abbrev pub fixed_texts : List (List ℕ)
fixed_texts =
    OPENING.now ∷ SCRIPT_HASH.now ∷ TITLE.now ∷ STYLE.now ∷ PARTS.now ∷ COMPARISON_LINK.now
    ∷ PICTURE.now ∷ PLACES.now ∷ LINK.now ∷ LINK_NAME.now ∷ LINK_END.now ∷ TRACE.now ∷ BLOCK.now
    ∷ BLOCK_WORDS.now ∷ BLOCK_END.now ∷ TRACE_END.now ∷ COMPARISON.now ∷ REPORT.now
    ∷ SECTION_END.now ∷ SCRIPT_OPENING.now ∷ SCRIPT.now ∷ END.now ∷ REPORT_END.now ∷ []

-- a piece is the same in all pages, or the picture or the report, or has no mark of HTML
abbrev pub IsSafe : Shown → Piece → Type 0
IsSafe shown (fixed text) = Contains fixed_texts text
IsSafe shown (told words) = has_no_mark (flat_map escaped words) ≡ true
IsSafe shown (number value) = has_no_mark (decimal value) ≡ true
IsSafe shown (drawn part) = (part ≡ shown.picture) ⊎ (part ≡ shown.report)

-- the text begins with what has a browser load something, or with a link to another page
abbrev pub leads_away : List ℕ → Bool
leads_away text =
    starts_with nat_eq text (codes "src=") || starts_with nat_eq text (codes "url(")
    || starts_with nat_eq text (codes "@import")
    || (starts_with nat_eq text (codes "href=")
    && not (starts_with nat_eq text (codes "href='#")))

-- nothing in the text does so
abbrev pub stays_here : List ℕ → Bool
stays_here [] = true
stays_here (byte ∷ rest) = not (leads_away (byte ∷ rest)) && stays_here rest
