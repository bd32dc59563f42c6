-- Words as text of XML have none of its marks.
use Rattle.std.proofs.Common.{◌≡◌, ℕ, List, [], ◌∷◌, ◌==◌, ◌&&◌, flat_map, Bool, true, false, nat_lt, codes, refl, ap₂, ◌∙◌}
use Rattle.std.specs.Prelude.{if◌then◌else◌}
use Rattle.std.specs.List.{list_all}
use Rattle.std.proofs.lemmas.List.Folds.{list_all-append}
use Rattle.run_pictures.specs.Escape.{escaped, is_no_mark}

byte_escaped : (byte : ℕ) → list_all is_no_mark (escaped byte) ≡ true
byte_escaped byte = go (byte == 38) (byte == 60) (byte == 62) (byte == 34) (byte == 39) (nat_lt byte 128) refl refl refl refl
  where
    go : (amp less more double single few : Bool) → (byte == 60) ≡ less → (byte == 62) ≡ more → (byte == 34) ≡ double → (byte == 39) ≡ single
        → list_all is_no_mark (if amp then codes "&amp;" else (if less then codes "&lt;" else
        (if more then codes "&gt;" else (if double then codes "&quot;" else (if single then codes "&#39;" else (if few then byte ∷ [] else codes "?")))))) ≡
        true
    go true less more double single few l m d s = refl
    go false true more double single few l m d s = refl
    go false false true double single few l m d s = refl
    go false false false true single few l m d s = refl
    go false false false false true few l m d s = refl
    go false false false false false true l m d s = rw (l, m, d, s) refl
    go false false false false false false l m d s = refl

pub words_escaped : (words : List ℕ) → list_all is_no_mark (flat_map escaped words) ≡ true
words_escaped [] = refl
words_escaped (byte ∷ words) = list_all-append is_no_mark (escaped byte) (flat_map escaped words) ∙ ap₂ (λ (a b : Bool). a && b) (byte_escaped byte)
    (words_escaped words)
