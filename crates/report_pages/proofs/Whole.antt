-- Which marks of HTML a page has whose report is made of plain pieces.
use Rattle.std.proofs.Common.{◌≡◌, ◌∙◌, ℕ, List, [], ◌∷◌, ◌++◌, flat_map, refl, ap, sym, subst, All, inl, inr}
use Rattle.std.specs.Prelude.{◌⊎◌}
use Rattle.std.specs.List.{AllByRecursion}
use Rattle.std.proofs.lemmas.Grind.{flat_map-append}
use Rattle.std.proofs.lemmas.List.Elements.{All-from_recursion, Contains-append_left, Contains-append_right, recursion_from_All}
use Rattle.run_pages.specs.Marks.{fixed_texts, IsSafe}
use Rattle.run_pages.specs.Page.{page_pieces, page_text, piece_text, pieces_text, Piece, fixed, told, number, drawn}
use Rattle.run_pages.specs.Shown.{Shown}
use Rattle.run_pages.proofs.MarksFound.{pieces_safe}
use Rattle.report_pages.specs.Marks.{report_texts, IsMadeOfPlain, IsPlain, IsPlainIn, PageIsPlain}

-- the same text, made of plain pieces
record Made (picture : List ℕ) (pieces : List Piece) : Type 0 where
  made : List Piece
  plain : AllByRecursion (IsPlainIn picture) made
  same : pieces_text pieces ≡ pieces_text made

both_plain : (picture : List ℕ) (a b : List Piece) → AllByRecursion (IsPlainIn picture) a → AllByRecursion (IsPlainIn picture) b
    → AllByRecursion (IsPlainIn picture) (a ++ b)
both_plain picture [] b plain more = more
both_plain picture (piece ∷ a) b plain more = (plain.0, both_plain picture a b plain.1 more)

-- the pieces of a report are plain in a page
in_page : (picture : List ℕ) (pieces : List Piece) → AllByRecursion IsPlain pieces → AllByRecursion (IsPlainIn picture) pieces
in_page picture [] plain = tt
in_page picture (fixed text ∷ rest) plain = (Contains-append_right fixed_texts report_texts text plain.0, in_page picture rest plain.1)
in_page picture (told words ∷ rest) plain = (plain.0, in_page picture rest plain.1)
in_page picture (number value ∷ rest) plain = (plain.0, in_page picture rest plain.1)
in_page picture (drawn part ∷ rest) plain = absurd plain.0

module _ (shown : Shown) (report : List Piece) (plain : AllByRecursion IsPlain report) (is : shown.report ≡ pieces_text report) where
  with_piece : (piece : Piece) (pieces : List Piece) → IsPlainIn shown.picture piece → Made shown.picture pieces → Made shown.picture (piece ∷ pieces)
  with_piece piece pieces own rest = record {
    made = piece ∷ rest.made;
    plain = (own, rest.plain);
    same = ap (λ text. piece_text piece ++ text) rest.same;
  }

  -- the report is put in by its pieces
  with_part : (part : List ℕ) (pieces : List Piece) → (part ≡ shown.picture) ⊎ (part ≡ shown.report) → Made shown.picture pieces
      → Made shown.picture (drawn part ∷ pieces)
  with_part part pieces (inl picture) rest = with_piece (drawn part) pieces picture rest
  with_part part pieces (inr told_in) rest = record {
    made = report ++ rest.made;
    plain = both_plain shown.picture report rest.made (in_page shown.picture report plain) rest.plain;
    same = ap (λ text. text ++ pieces_text pieces) (told_in ∙ is) ∙ ap (λ text. pieces_text report ++ text) rest.same
        ∙ sym (flat_map-append piece_text report rest.made);
  }

  whole : (pieces : List Piece) → AllByRecursion (IsSafe shown) pieces → Made shown.picture pieces
  whole [] safe = record { made = []; plain = tt; same = refl }
  whole (fixed text ∷ rest) safe = with_piece (fixed text) rest (Contains-append_left fixed_texts report_texts text safe.0) (whole rest safe.1)
  whole (told words ∷ rest) safe = with_piece (told words) rest safe.0 (whole rest safe.1)
  whole (number value ∷ rest) safe = with_piece (number value) rest safe.0 (whole rest safe.1)
  whole (drawn part ∷ rest) safe = with_part part rest safe.0 (whole rest safe.1)

text_is : (shown : Shown) → page_text shown ≡ pieces_text (page_pieces shown)
unfolding page_text
text_is shown = refl

pub page_is_plain : PageIsPlain
page_is_plain shown report plain is =
    let pieces = page_pieces shown in
    let it =
    whole shown report (recursion_from_All IsPlain report plain) is pieces (recursion_from_All (IsSafe shown) pieces (pieces_safe shown)) in
    record {
      pieces = it.made;
      plain = All-from_recursion (IsPlainIn shown.picture) it.made it.plain;
      is = text_is shown ∙ it.same;
    }
