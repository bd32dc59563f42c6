-- Texts that clap takes as numbers of a range, and what is read of them.
use Rattle.std.proofs.Common.{◌≡◌, ◌∙◌, ◌&&◌, ◌<◌, ℕ, ◌^◌, ◌==◌, Bool, true, false, true≢false, List, [], ◌∷◌, cond, drop, nat_le, pos, Option, Some, None}
use Rattle.std.proofs.Common.{Result, Ok, Err, unwrap_or, refl, sym, ap, subst, arith}
use Rattle.std.proofs.lemmas.Bool.{ne_eqb}
use Rattle.std.proofs.lemmas.Int.{ints}
use Rattle.std.proofs.lemmas.Str.Parse.{digit_from_value}
use Rattle.std.specs.Prelude.{IfSome, is_ok}
use Rattle.std.specs.List.{list_all}
use Rattle.std.specs.Option.{option_map_or}
use Rattle.std.specs.Str.Parse.{ExplainsUnsignedError, HasUnsignedDigitsIfOk, IsNumeral, ParsesUnsigned, starts_with_minus, without_leading_plus}
use Rattle.std.specs.declared.num.ParseIntError.{ParseIntError}
use Rattle.clap.specs.Lexer.{without_minus}
use Rattle.clap.specs.Matches.{ReadsOne, StepsValues, one_text}
use Rattle.clap.specs.Values.{IsSignedIn, IsUnsignedIn}
use Rattle.clap.specs.ValueTests.{accepts, is_unsigned_in}
use Rattle.clap.specs.Words.{Text, one_of, rows_of}
use Rattle.clap.specs.declared.builder.value_parser.ValueParser.TheVariants.{Signed, Unsigned}
use Rattle.clap.specs.declared.parser.matches.Found.{Found}
use Rattle.clap.proofs.ValueTestLemmas.{Accepts-accepts, accepts-Accepts}
use Rattle.clap.proofs.WalkLemmas.{both, one_text-rows}
use Rattle.command_words.specs.Asking.{number_in, number_of}

-- ---- texts that clap takes

without_minus-cond : (text : Text) → without_minus text ≡ cond (starts_with_minus text) (drop 1 text) text
without_minus-cond [] = refl
without_minus-cond (x ∷ xs) = go (x == 45)
  where
    go : (is : Bool) → unwrap_or (cond is (Some xs) None) (x ∷ xs) ≡ cond is xs (x ∷ xs)
    go true = refl
    go false = refl

-- no plus sign stands before digits
no_plus : (digits : Text) → IsNumeral 10 digits → without_leading_plus digits ≡ digits
no_plus [] numeral = refl
no_plus (x ∷ xs) numeral =
    let other : (x == 43) ≡ false = ne_eqb _ _ (λ e. omega (arith, digit_from_value x numeral.1.0)) in
    ap (λ (b : Bool). drop (cond b 1 0) (x ∷ xs)) other

in_range : (least most : ℕ) (text : Text) → IsSignedIn (pos least) (pos most) text → IsUnsignedIn least most (without_minus text)
in_range least most text taken = subst (λ (t : Text). IsUnsignedIn least most t) (sym (without_minus-cond text)) (go (starts_with_minus text) refl)
  where
    -- behind a hyphen a zero alone is taken
    go : (is : Bool) → starts_with_minus text ≡ is → IsUnsignedIn least most (cond (starts_with_minus text) (drop 1 text) text)
    go true minus =
        let numeral : IsNumeral 10 (drop 1 text) = rw minus at taken.0 in
        let low = rw minus at taken.2 in
        let same = no_plus (drop 1 text) numeral in
        rw (minus, same) (numeral, omega (arith, ints), omega (arith, ints), omega (arith, ints))
    go false minus =
        let numeral : IsNumeral 10 (without_leading_plus text) = rw minus at taken.0 in
        let fits = rw minus at taken.1 in
        let low = rw minus at taken.2 in
        let high = rw minus at taken.3 in
        rw minus (numeral, omega (arith, ints, fits.sfits), omega (arith, ints), omega (arith, ints))

-- what the typed getters read of a text that clap takes
pub number_taken : (least most : ℕ) (text : Text) → accepts false (Signed (pos least) (pos most)) text ≡ true → is_unsigned_in least most (without_minus text) ≡
    true
number_taken least most text e = Accepts-accepts false (Unsigned least most) (without_minus text)
    (in_range least most text (accepts-Accepts false (Signed (pos least) (pos most)) text e))

-- ---- the number that a text writes

-- it is in the range
pub number_within : (least most : ℕ) (text : Text) → is_unsigned_in least most text ≡ true → (nat_le least (number_of text) && nat_le (number_of text) most) ≡
    true
number_within least most text e = (both _ _ (both _ _ e).1).1

-- what `parse` says of an unsigned number of k bits
abbrev pub Parses : ℕ → Text → Result ℕ ParseIntError → Type 0
Parses k text r = ParsesUnsigned k 10 text r × ExplainsUnsignedError 10 text r × HasUnsignedDigitsIfOk text r

module _ (k least most : ℕ) (fits : most < 2 ^ k) where
  is_read : (text : Text) → is_unsigned_in least most text ≡ true → IsNumeral 10 (without_leading_plus text) × (number_of text < 2 ^ k)
  is_read text e =
      let taken = accepts-Accepts false (Unsigned least most) text e in
      (taken.0, omega (arith, taken.3, fits))

  number_is : (text : Text) → is_unsigned_in least most text ≡ true → (r : Result ℕ ParseIntError) → Parses k text r → r ≡ Ok (number_of text)
  number_is text taken (Ok n) parses = ap (λ (n : ℕ). Ok n) parses.0.1
  number_is text taken (Err e) parses = absurd (parses.0 (is_read text taken))

  number_read : (other : ℕ) (found : Option Text) → IfSome found (λ text. is_unsigned_in least most text ≡ true) → (read : Option ℕ) →
      (found ≡ None → read ≡ None) → ((text : Text) → found ≡ Some text → ReadsOne (Parses k) text read)
      → unwrap_or read other ≡ option_map_or number_of found other
  number_read other None taken read none some = ap (λ r. unwrap_or r other) (none refl)
  number_read other (Some text) taken (Some n) none some = (some text refl).0.1
  number_read other (Some text) taken None none some =
      let error = some text refl in
      absurd (error.1.0 (is_read text taken))

  -- what is read of an option, or else this number, is what its row says
  pub number_is_read : (found : Found) (id : Text) (other : ℕ) → IfSome (one_of id (rows_of found)) (λ text. is_unsigned_in least most text ≡ true) →
      (read : Option ℕ) → (one_text found id ≡ None → read ≡ None)
      → ((text : Text) → one_text found id ≡ Some text → ReadsOne (Parses k) text read) → unwrap_or read other ≡ number_in id (rows_of found) other
  number_is_read found id other taken read none some =
      let row = one_text-rows found id in
      number_read other (one_text found id) (subst (λ (text : Option Text). IfSome text (λ text. is_unsigned_in least most text ≡ true)) (sym row) taken) read
      none some ∙ ap (λ (text : Option Text). option_map_or number_of text other) row

  -- no value that is left fails to be read
  pub none_fails : (before after : List Text) (r : Result ℕ ParseIntError) (e : ParseIntError) → StepsValues (Parses k) before after (Some r) → list_all
      (is_unsigned_in least most) before ≡ true → r ≡ Err e → ⊥
  none_fails [] after r e steps taken is = steps
  none_fails (text ∷ texts) after r e steps taken is =
      let parts = both (is_unsigned_in least most text) (list_all (is_unsigned_in least most) texts) taken in
      true≢false (ap is_ok (sym (number_is text parts.0 r steps.0) ∙ is))

-- at the end none is left
pub all_read : (k : ℕ) (before after : List Text) → StepsValues {T = ℕ} (Parses k) before after None → before ≡ []
all_read k [] after steps = refl
all_read k (text ∷ texts) after steps = absurd steps
