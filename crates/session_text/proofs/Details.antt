-- What a value is, as tests tell it one after another; and words, as they are listed.
use Rattle.std.proofs.Common.{◌≡◌, ℕ, ◌-◌, ◌≤◌, List, [], ◌∷◌, ◌++◌, length, get_or, drop, take, map, flat_map, codes, Bor, refl, ap, sym, ◌∙◌, arith}
use Rattle.std.proofs.lemmas.List.{take_all}
use Rattle.std.proofs.lemmas.List.Folds.{flat_map-map}
use Rattle.std.specs.Prelude.{is_some, option_and_then, if◌then◌else◌}
use Rattle.serde_json.specs.Data.{Data, unsigned, negative, float, null, boolean, number, string, array, object}
use Rattle.serde_json.specs.Find.{as_array, as_bool, as_null, as_number, as_object, as_str, as_u64}
use Rattle.session_text.specs.declared.detail.Found.TheVariants.{Whole, Other, Null, Text, Flag, Array, Object}
use Rattle.session_text.specs.Detail.{found_of, listed}

pub found_by_tests : (d : Data) → found_of d ≡ (if is_some (as_str d) then Text else if is_some (as_bool d) then Flag else if is_some (as_array d) then Array
    else if is_some (as_object d) then Object else if is_some (as_null d) then Null else if is_some (option_and_then as_u64 (as_number d)) then Whole else
    Other)
found_by_tests null = refl
found_by_tests (boolean b) = refl
found_by_tests (number (unsigned n)) = refl
found_by_tests (number (negative z)) = refl
found_by_tests (number (float x)) = refl
found_by_tests (string s) = refl
found_by_tests (array ds) = refl
found_by_tests (object ms) = refl

-- the first word, then the others
pub listed_some : (words : List (Bor (List ℕ))) (d : Bor (List ℕ)) → 1 ≤ length words → (get_or words 0 d).now ++ flat_map (λ word. codes ", " ++ word.now)
    (take (length words - 1) (drop 1 words)) ≡ listed (map (λ word. word.now) words)
listed_some [] d some = absurd (omega (arith, some))
listed_some (word ∷ rest) d some =
    let all : take (length (word ∷ rest) - 1) rest ≡ rest = take_all (length (word ∷ rest) - 1) rest (omega arith) in
    ap (λ (others : List ℕ). word.now ++ others) (ap (flat_map (λ (word : Bor (List ℕ)). codes ", " ++ word.now)) all ∙ sym
    (flat_map-map (λ other. codes ", " ++ other) (λ (word : Bor (List ℕ)). word.now) rest))
