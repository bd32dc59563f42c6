-- Which marks of HTML the pieces of a page have.
use Rattle.std.proofs.Common.{◌≡◌, ℕ, suc, zero, ◌<◌, List, [], ◌∷◌, ◌++◌, ◌==◌, ◌/◌, ◌%◌, flat_map, Bool, true, false, nat_lt, codes, decimal, refl, All, Contains, Option, Some, None, arith, inl, inr, lit<}
use Rattle.std.specs.Prelude.{if◌then◌else◌}
use Rattle.std.specs.Fmt.{digit_glyph, digits, digits_onto}
use Rattle.std.proofs.lemmas.List.Elements.{All-cons}
use Rattle.run_pictures.specs.Escape.{escaped}
use Rattle.run_pages.specs.declared.style.TheConstants.{COMPARISON, PICTURE, REPORT, TRACE, TRACE_END}
use Rattle.run_pages.specs.Marks.{has_no_mark, fixed_texts, IsSafe}
use Rattle.run_pages.specs.Page.{Piece, fixed, drawn, blocks_pieces, block_pieces, closing_pieces, comparison_link, comparison_pieces, heading_pieces, link_pieces, links_pieces, list_pieces, opening_pieces, page_pieces, section_pieces, texts_pieces, told_pieces, trace_pieces}
use Rattle.run_pages.specs.Shown.{Shown}

-- ---- words

-- an escaped byte adds no mark before a text without marks
byte_has_none : (byte : ℕ) (rest : List ℕ) → has_no_mark rest ≡ true → has_no_mark (escaped byte ++ rest) ≡ true
byte_has_none byte rest h = go (byte == 38) (byte == 60) (byte == 62) (byte == 34) (byte == 39) (nat_lt byte 128) refl refl refl refl refl
  where
    go : (amp less more double single few : Bool) → (byte == 38) ≡ amp → (byte == 60) ≡ less → (byte == 62) ≡ more → (byte == 34) ≡ double → (byte == 39) ≡ single
        → has_no_mark ((if amp then codes "&amp;" else (if less then codes "&lt;" else
        (if more then codes "&gt;" else (if double then codes "&quot;" else (if single then codes "&#39;" else (if few then byte ∷ [] else codes "?")))))) ++ rest) ≡
        true
    go true less more double single few a l m d s = h
    go false true more double single few a l m d s = h
    go false false true double single few a l m d s = h
    go false false false true single few a l m d s = h
    go false false false false true few a l m d s = h
    go false false false false false true a l m d s = rw (a, l, m, d, s) h
    go false false false false false false a l m d s = h

pub words_have_none : (words : List ℕ) → has_no_mark (flat_map escaped words) ≡ true
words_have_none [] = refl
words_have_none (byte ∷ words) = byte_has_none byte (flat_map escaped words) (words_have_none words)

-- ---- numbers

digit_has_none : (digit : ℕ) (rest : List ℕ) → digit < 10 → has_no_mark rest ≡ true → has_no_mark (digit_glyph false digit ∷ rest) ≡ true
digit_has_none zero rest l h = h
digit_has_none (suc zero) rest l h = h
digit_has_none (suc (suc zero)) rest l h = h
digit_has_none (suc (suc (suc zero))) rest l h = h
digit_has_none (suc (suc (suc (suc zero)))) rest l h = h
digit_has_none (suc (suc (suc (suc (suc zero))))) rest l h = h
digit_has_none (suc (suc (suc (suc (suc (suc zero)))))) rest l h = h
digit_has_none (suc (suc (suc (suc (suc (suc (suc zero))))))) rest l h = h
digit_has_none (suc (suc (suc (suc (suc (suc (suc (suc zero)))))))) rest l h = h
digit_has_none (suc (suc (suc (suc (suc (suc (suc (suc (suc zero))))))))) rest l h = h
digit_has_none (suc (suc (suc (suc (suc (suc (suc (suc (suc (suc more)))))))))) rest l h = absurd (omega arith)

digits_have_none : (most value : ℕ) (rest : List ℕ) → has_no_mark rest ≡ true → has_no_mark (digits_onto most 10 false value rest) ≡ true
digits_have_none zero value rest h = h
digits_have_none (suc most) value rest h = go (value / 10 == 0) (digit_has_none (value % 10) rest (omega arith) h)
    (digits_have_none most (value / 10) (digit_glyph false (value % 10) ∷ rest) (digit_has_none (value % 10) rest (omega arith) h))
  where
    go : (last : Bool) → has_no_mark (digit_glyph false (value % 10) ∷ rest) ≡ true
        → has_no_mark (digits_onto most 10 false (value / 10) (digit_glyph false (value % 10) ∷ rest)) ≡ true
        → has_no_mark (if last then digit_glyph false (value % 10) ∷ rest else digits_onto most 10 false (value / 10) (digit_glyph false (value % 10) ∷ rest)) ≡ true
    go true one more = one
    go false one more = more

pub number_has_none : (value : ℕ) → has_no_mark (decimal value) ≡ true
unfolding digits
number_has_none value = digits_have_none 64 value [] refl

-- ---- pieces

-- each of the pieces is safe
abbrev AreSafe : Shown → List Piece → Type 0
AreSafe shown [] = Unit {0}
AreSafe shown (piece ∷ rest) = IsSafe shown piece × AreSafe shown rest

both_safe : (shown : Shown) (a b : List Piece) → AreSafe shown a → AreSafe shown b → AreSafe shown (a ++ b)
both_safe shown [] b safe more = more
both_safe shown (piece ∷ a) b safe more = (safe.0, both_safe shown a b safe.1 more)

all_safe : (shown : Shown) (pieces : List Piece) → AreSafe shown pieces → All (IsSafe shown) pieces
all_safe shown [] safe = λ k d l. absurd (omega arith)
all_safe shown (piece ∷ rest) safe = All-cons (IsSafe shown) piece rest safe.0 (all_safe shown rest safe.1)

heading_safe : (shown : Shown) (title : List ℕ) → AreSafe shown (heading_pieces title)
unfolding heading_pieces
heading_safe shown title =
    ((0, lit< tt, refl), ((1, lit< tt, refl), ((2, lit< tt, refl), (words_have_none title, ((3, lit< tt, refl), (words_have_none title, ((4, lit< tt, refl), tt)))))))

comparison_link_safe : (shown : Shown) (part : Option (List ℕ)) → AreSafe shown (comparison_link part)
comparison_link_safe shown None = tt
comparison_link_safe shown (Some words) = ((5, lit< tt, refl), tt)

link_safe : (shown : Shown) (place : ℕ) → AreSafe shown (link_pieces place)
unfolding link_pieces
link_safe shown place = ((8, lit< tt, refl), (number_has_none place, ((9, lit< tt, refl), (number_has_none place, ((10, lit< tt, refl), tt)))))

links_safe : (shown : Shown) (first : ℕ) (places : List (List ℕ)) → AreSafe shown (links_pieces first places)
links_safe shown first [] = tt
links_safe shown first (words ∷ rest) = both_safe shown (link_pieces first) (links_pieces (suc first) rest) (link_safe shown first) (links_safe shown (suc first) rest)

block_safe : (shown : Shown) (place : ℕ) (words : List ℕ) → AreSafe shown (block_pieces place words)
unfolding block_pieces
block_safe shown place words = ((12, lit< tt, refl), (number_has_none place, ((13, lit< tt, refl), (words_have_none words, ((14, lit< tt, refl), tt)))))

blocks_safe : (shown : Shown) (first : ℕ) (places : List (List ℕ)) → AreSafe shown (blocks_pieces first places)
blocks_safe shown first [] = tt
blocks_safe shown first (words ∷ rest) =
    both_safe shown (block_pieces first words) (blocks_pieces (suc first) rest) (block_safe shown first words) (blocks_safe shown (suc first) rest)

section_safe : (shown : Shown) (opening words : List ℕ) → Contains fixed_texts opening → AreSafe shown (section_pieces opening words)
unfolding section_pieces
section_safe shown opening words has = (has, (words_have_none words, ((18, lit< tt, refl), tt)))

comparison_safe : (shown : Shown) (part : Option (List ℕ)) → AreSafe shown (comparison_pieces part)
comparison_safe shown None = tt
comparison_safe shown (Some words) = section_safe shown COMPARISON.now words (16, lit< tt, refl)

opening_safe : (shown : Shown) → AreSafe shown (opening_pieces shown)
unfolding opening_pieces
opening_safe shown = both_safe shown (heading_pieces shown.title ++ comparison_link shown.comparison) (fixed PICTURE.now ∷ [])
    (both_safe shown (heading_pieces shown.title) (comparison_link shown.comparison) (heading_safe shown shown.title) (comparison_link_safe shown shown.comparison))
    ((6, lit< tt, refl), tt)

trace_safe : (shown : Shown) (first : ℕ) (places : List (List ℕ)) → AreSafe shown (trace_pieces first places)
unfolding trace_pieces
trace_safe shown first places =
    both_safe shown (list_pieces first places) (told_pieces first places) ((7, lit< tt, refl), links_safe shown first places)
    (both_safe shown (fixed TRACE.now ∷ blocks_pieces first places) (fixed TRACE_END.now ∷ []) ((11, lit< tt, refl), blocks_safe shown first places)
    ((15, lit< tt, refl), tt))

texts_safe : (shown : Shown) → AreSafe shown (texts_pieces shown)
unfolding texts_pieces
texts_safe shown =
    both_safe shown (comparison_pieces shown.comparison) (fixed REPORT.now ∷ []) (comparison_safe shown shown.comparison) ((17, lit< tt, refl), tt)

closing_safe : (shown : Shown) → AreSafe shown closing_pieces
unfolding closing_pieces
closing_safe shown = ((22, lit< tt, refl), ((19, lit< tt, refl), ((20, lit< tt, refl), ((21, lit< tt, refl), tt))))

page_safe : (shown : Shown) → AreSafe shown (page_pieces shown)
unfolding page_pieces
page_safe shown =
    let opening = opening_pieces shown in
    let trace = drawn shown.picture ∷ trace_pieces shown.first shown.places in
    let texts = texts_pieces shown in
    both_safe shown (opening ++ trace ++ texts) (drawn shown.report ∷ closing_pieces)
    (both_safe shown (opening ++ trace) texts
    (both_safe shown opening trace (opening_safe shown) (inl refl, trace_safe shown shown.first shown.places)) (texts_safe shown))
    (inr refl, closing_safe shown)

pub pieces_safe : (shown : Shown) → All (IsSafe shown) (page_pieces shown)
pieces_safe shown = all_safe shown (page_pieces shown) (page_safe shown)
