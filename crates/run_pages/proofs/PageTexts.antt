-- The texts of pieces one after another.
use Rattle.std.proofs.Common.{◌≡◌, ℕ, suc, List, [], ◌∷◌, ◌++◌, refl, ap, append_assoc, ◌∙◌}
use Rattle.std.specs.Prelude.{Result, Ok, Err, OnOk, is_ok, if◌then◌else◌}
use Rattle.std.proofs.lemmas.Grind.{flat_map-append}
use Rattle.std.proofs.lemmas.List.{append-nil}
use Rattle.run_pages.specs.declared.script.TheConstants.{SCRIPT}
use Rattle.run_pages.specs.declared.style.TheConstants.{END, PICTURE, REPORT, REPORT_END, SCRIPT_OPENING, TRACE, TRACE_END}
use Rattle.run_pages.specs.Page.{fixed, drawn, piece_text, pieces_text, blocks_pieces, block_pieces, closing_pieces, comparison_link, comparison_pieces, heading_pieces, link_pieces, links_pieces, opening_pieces, list_pieces, page_pieces, page_text, texts_pieces, told_pieces, trace_pieces}
use Rattle.run_pages.specs.Shown.{Shown}

-- the text of the links, link by link
abbrev pub links_told : ℕ → List (List ℕ) → List ℕ
links_told first [] = []
links_told first (words ∷ rest) = pieces_text (link_pieces first) ++ links_told (suc first) rest

pub links_are : (first : ℕ) (places : List (List ℕ)) → pieces_text (links_pieces first places) ≡ links_told first places
links_are first [] = refl
links_are first (words ∷ rest) = flat_map-append piece_text (link_pieces first) (links_pieces (suc first) rest) ∙ ap (λ text. pieces_text (link_pieces first) ++ text)
    (links_are (suc first) rest)

-- the text of the trace, place by place
abbrev pub blocks_told : ℕ → List (List ℕ) → List ℕ
blocks_told first [] = []
blocks_told first (words ∷ rest) = pieces_text (block_pieces first words) ++ blocks_told (suc first) rest

pub blocks_are : (first : ℕ) (places : List (List ℕ)) → pieces_text (blocks_pieces first places) ≡ blocks_told first places
blocks_are first [] = refl
blocks_are first (words ∷ rest) = flat_map-append piece_text (block_pieces first words) (blocks_pieces (suc first) rest) ∙
    ap (λ text. pieces_text (block_pieces first words) ++ text) (blocks_are (suc first) rest)

pub opening_texts : (shown : Shown) → pieces_text (opening_pieces shown) ≡
    (pieces_text (heading_pieces shown.title) ++ pieces_text (comparison_link shown.comparison)) ++ (PICTURE.now ++ [])
unfolding opening_pieces
opening_texts shown = flat_map-append piece_text (heading_pieces shown.title ++ comparison_link shown.comparison) (fixed PICTURE.now ∷ []) ∙
    ap (λ text. text ++ (PICTURE.now ++ [])) (flat_map-append piece_text (heading_pieces shown.title) (comparison_link shown.comparison))

pub told_texts : (first : ℕ) (places : List (List ℕ)) → pieces_text (told_pieces first places) ≡
    TRACE.now ++ pieces_text (blocks_pieces first places) ++ TRACE_END.now
told_texts first places = flat_map-append piece_text (fixed TRACE.now ∷ blocks_pieces first places) (fixed TRACE_END.now ∷ [])
    ∙ ap (λ text. TRACE.now ++ pieces_text (blocks_pieces first places) ++ text) (append-nil TRACE_END.now)

pub trace_texts : (first : ℕ) (places : List (List ℕ)) → pieces_text (trace_pieces first places) ≡
    pieces_text (list_pieces first places) ++ pieces_text (told_pieces first places)
unfolding trace_pieces
trace_texts first places = flat_map-append piece_text (list_pieces first places) (told_pieces first places)

pub middle_texts : (shown : Shown) → pieces_text (texts_pieces shown) ≡ pieces_text (comparison_pieces shown.comparison) ++ REPORT.now
unfolding texts_pieces
middle_texts shown = flat_map-append piece_text (comparison_pieces shown.comparison) (fixed REPORT.now ∷ [])
    ∙ ap (λ text. pieces_text (comparison_pieces shown.comparison) ++ text) (append-nil REPORT.now)

-- what a text is where the last words were written
pub written : {T E : Type 0} (result : Result T E) (text after before : List ℕ) → text ≡ (if is_ok result then after else before) → OnOk result (text ≡ after)
written (Ok value) text after before is = is
written (Err e) text after before is = tt

in_order : (before a b c d : List ℕ) → (((before ++ a) ++ b) ++ c) ++ d ≡ before ++ (a ++ (b ++ (c ++ (d ++ []))))
in_order before a b c d = simp (append-nil, append_assoc) refl

pub closing_texts : (before : List ℕ) → (((before ++ REPORT_END.now) ++ SCRIPT_OPENING.now) ++ SCRIPT.now) ++ END.now ≡ before ++ pieces_text closing_pieces
unfolding closing_pieces
closing_texts before = in_order before REPORT_END.now SCRIPT_OPENING.now SCRIPT.now END.now

pub page_texts : (shown : Shown) → page_text shown ≡
    ((pieces_text (opening_pieces shown) ++ (shown.picture ++ pieces_text (trace_pieces shown.first shown.places))) ++ pieces_text (texts_pieces shown))
    ++ (shown.report ++ pieces_text closing_pieces)
unfolding page_text page_pieces
page_texts shown =
    let opening = opening_pieces shown in
    let trace = drawn shown.picture ∷ trace_pieces shown.first shown.places in
    let texts = texts_pieces shown in
    flat_map-append piece_text (opening ++ trace ++ texts) (drawn shown.report ∷ closing_pieces)
    ∙ ap (λ text. text ++ (shown.report ++ pieces_text closing_pieces))
    (flat_map-append piece_text (opening ++ trace) texts ∙ ap (λ text. text ++ pieces_text texts) (flat_map-append piece_text opening trace))
