-- The first part of a path, and the index that digits write.
use Rattle.std.proofs.Common.{◌≡◌, ℕ, ◌+◌, ◌<◌, ◌≤◌, List, [], ◌∷◌, length, take, drop, Bool, true, false, cond, ◌&&◌, Some, None, refl, sym, ap, ◌∙◌, subst}
use Rattle.std.proofs.Common.{arith, map, filter}
use Rattle.std.specs.Prelude.{Result, Err, nat_lt, ◌^◌, ◌==◌}
use Rattle.std.specs.Result.{OkIff}
use Rattle.std.specs.List.{list_all, onto_first, slice_split, position_or_len}
use Rattle.std.specs.Char.{is_ascii_digit, digit_value}
use Rattle.std.specs.Str.Parse.{AllDigits, IsNumeral, ParsesUnsigned, digits_value, without_leading_plus}
use Rattle.std.proofs.lemmas.Bool.Decides.{nat_tests}
use Rattle.std.proofs.lemmas.List.{take_all, drop_all, length-take}
use Rattle.std.proofs.lemmas.List.Splits.{slice_split_first, slice_split-cons_no}
use Rattle.std.proofs.lemmas.Str.{digit_value_digit}
use Rattle.text_locations.specs.Path.{Part, has_bytes, index_of, index_or_name, is_separator, parts}

-- a list without a separator is one piece
split_none : (p : ℕ → Bool) (xs : List ℕ) → length xs ≤ position_or_len p xs → slice_split p xs ≡ xs ∷ []
split_none p [] le = refl
split_none p (x ∷ xs) le = by (p x) refl (split_none p xs)
  where
    by : (b : Bool) → p x ≡ b → (length xs ≤ position_or_len p xs → slice_split p xs ≡ xs ∷ []) → slice_split p (x ∷ xs) ≡ (x ∷ xs) ∷ []
    by true is rest = let here : position_or_len p (x ∷ xs) ≡ 0 = rw is refl in absurd (omega arith)
    by false is rest =
        let more : position_or_len p (x ∷ xs) ≡ 1 + position_or_len p xs = rw is refl in
        slice_split-cons_no p x xs is ∙ ap (onto_first x) (rest (omega arith))

abbrev parts_in : List (List ℕ) → List Part
parts_in pieces = map index_or_name (filter has_bytes pieces)

some_piece : (piece : List ℕ) (more : List (List ℕ)) → 0 < length piece → parts_in (piece ∷ more) ≡ index_or_name piece ∷ parts_in more
some_piece piece more some = by (has_bytes piece) (grind (arith, nat_tests))
  where
    by : (b : Bool) → b ≡ true → map index_or_name (cond b (piece ∷ filter has_bytes more) (filter has_bytes more)) ≡ index_or_name piece ∷ parts_in more
    by true is = refl
    by false is = absurd (cc is)

alone : (piece : List ℕ) → parts_in (piece ∷ []) ≡ parts_in (piece ∷ slice_split is_separator [])
alone piece = refl

-- the pieces of a path up to its first separator, and after it
split_first : (path : List ℕ) → parts path ≡ parts_in (take (position_or_len is_separator path) path ∷ slice_split is_separator
    (drop (position_or_len is_separator path + 1) path))
split_first path = at (nat_lt (position_or_len is_separator path) (length path)) refl
  where
    at : (b : Bool) → nat_lt (position_or_len is_separator path) (length path) ≡ b
        → parts path ≡ parts_in (take (position_or_len is_separator path) path ∷ slice_split is_separator (drop (position_or_len is_separator path + 1) path))
    at true less = ap parts_in (slice_split_first is_separator path 0 (grind (arith, nat_tests)))
    at false more =
        let all : length path ≤ position_or_len is_separator path = grind (arith, nat_tests) in
        let front = take_all (position_or_len is_separator path) path all in
        let back = drop_all (position_or_len is_separator path + 1) path (omega arith) in
        ap parts_in (split_none is_separator path all) ∙ alone path
        ∙ ap (λ piece. parts_in (piece ∷ slice_split is_separator [])) (sym front) ∙ ap
        (λ rest. parts_in (take (position_or_len is_separator path) path ∷ slice_split is_separator rest)) (sym back)

pub first_piece : (path : List ℕ) (end : ℕ) → end ≡ position_or_len is_separator path → end ≤ length path → 0 < end → parts path ≡ index_or_name (take end path)
    ∷ parts (drop (end + 1) path)
first_piece path end is within some =
    split_first path
    ∙ subst (λ e. parts_in (take e path ∷ slice_split is_separator (drop (e + 1) path)) ≡ index_or_name (take end path) ∷ parts (drop (end + 1) path)) is
    (some_piece (take end path) (slice_split is_separator (drop (end + 1) path)) (simp length-take (omega arith)))

pub no_piece : (path : List ℕ) (end : ℕ) → end ≡ position_or_len is_separator path → end ≡ 0 → parts path ≡ parts (drop (end + 1) path)
no_piece path end is none =
    split_first path
    ∙ subst (λ e. parts_in (take e path ∷ slice_split is_separator (drop (e + 1) path)) ≡ parts (drop (end + 1) path)) is
    (ap (λ e. parts_in (take e path ∷ slice_split is_separator (drop (end + 1) path))) none)

-- ---- the index

is_digit_value : (c : ℕ) → is_ascii_digit c ≡ true → digit_value c < 10
is_digit_value c is =
    let low : 48 ≤ c = grind (arith, nat_tests) in
    let high : c ≤ 57 = grind (arith, nat_tests) in
    omega (arith, digit_value_digit c (low, high))

all_digits : (ds : List ℕ) → list_all is_ascii_digit ds ≡ true → AllDigits 10 ds
all_digits [] is = tt
all_digits (c ∷ cs) is =
    let first : is_ascii_digit c ≡ true = grind arith in
    let rest : list_all is_ascii_digit cs ≡ true = grind arith in
    (is_digit_value c first, all_digits cs rest)

no_plus : (ds : List ℕ) → list_all is_ascii_digit ds ≡ true → without_leading_plus ds ≡ ds
no_plus [] is = refl
no_plus (c ∷ cs) is =
    let first : is_ascii_digit c ≡ true = grind arith in
    let other : (c == 43) ≡ false = grind (arith, nat_tests) in
    ap (λ b. drop (cond b 1 0) (c ∷ cs)) other

pub index_refused : {E : Type 0} (ds : List ℕ) (e : E) (r : Result ℕ E) → list_all is_ascii_digit ds ≡ true → ParsesUnsigned 64 10 ds r → r ≡ Err e → None ≡
    index_of ds
index_refused {E} ds e r all read is = by (has_bytes ds) (list_all is_ascii_digit ds) (nat_lt (digits_value 10 ds) (2 ^ 64)) refl refl
  where
    refused : ¬ (IsNumeral 10 (without_leading_plus ds) × (digits_value 10 (without_leading_plus ds) < 2 ^ 64))
    refused = subst (λ (o : Result ℕ E). OkIff o (IsNumeral 10 (without_leading_plus ds) × (digits_value 10 (without_leading_plus ds) < 2 ^ 64))
        (digits_value 10 (without_leading_plus ds))) is read

    never : ¬ (IsNumeral 10 ds × (digits_value 10 ds < 2 ^ 64))
    never = subst (λ (bs : List ℕ). ¬ (IsNumeral 10 bs × (digits_value 10 bs < 2 ^ 64))) (no_plus ds all) refused

    by : (some digits fits : Bool) → has_bytes ds ≡ some → nat_lt (digits_value 10 ds) (2 ^ 64) ≡ fits → None ≡ cond (some && digits && fits)
        (Some (digits_value 10 ds)) None
    by true true true some fits = absurd (never ((grind (arith, nat_tests, some), all_digits ds all), grind (arith, nat_tests, fits)))
    by true true false some fits = refl
    by true false fits some less = refl
    by false digits fits some less = refl
