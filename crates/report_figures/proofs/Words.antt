-- The words of a text, which full stops part, and the numbers among them.
use Rattle.std.proofs.Common.{◌≡◌, ℕ, ◌<◌, ◌^◌, Bool, true, false, eqb, List, [], ◌∷◌, ◌++◌, map, bytes_eq, codes, decimal, refl, sym, ap, subst, ◌∙◌, append_assoc, append-nil, arith, eqb-true, ne_eqb}
use Rattle.std.specs.List.{list_any}
use Rattle.std.specs.Char.{digit_value, is_digit}
use Rattle.std.specs.Str.Parse.{AllDigits, IsNumeral, digits_value}
use Rattle.std.proofs.lemmas.Bool.{or_left, or_right}
use Rattle.std.proofs.lemmas.Bool.Decides.{nat_tests}
use Rattle.std.proofs.lemmas.Fmt.{decimal_is_IsNumeral}

-- a byte before words: a full stop parts them, and any other stands in the first
abbrev part_at : Bool → ℕ → List ℕ × List (List ℕ) → List ℕ × List (List ℕ)
part_at true c parts = ([], parts.0 ∷ parts.1)
part_at false c parts = (c ∷ parts.0, parts.1)

-- the first word of a text, and those after it
abbrev pub split : List ℕ → List ℕ × List (List ℕ)
split [] = ([], [])
split (c ∷ cs) = part_at (eqb c 46) c (split cs)

abbrev pub words_in : List ℕ → List (List ℕ)
words_in text = (split text).0 ∷ (split text).1

part_further : (b : Bool) (c : ℕ) (parts : List ℕ × List (List ℕ)) (more : List (List ℕ)) → part_at b c (parts.0, parts.1 ++ more) ≡
    ((part_at b c parts).0, (part_at b c parts).1 ++ more)
part_further true c parts more = refl
part_further false c parts more = refl

split_append : (a b : List ℕ) → split (a ++ 46 ∷ b) ≡ ((split a).0, (split a).1 ++ words_in b)
split_append [] b = refl
split_append (c ∷ a) b = ap (part_at (eqb c 46) c) (split_append a b) ∙ part_further (eqb c 46) c (split a) (words_in b)

pub words_append : (a b : List ℕ) → words_in (a ++ 46 ∷ b) ≡ words_in a ++ words_in b
words_append a b = ap (λ parts. parts.0 ∷ parts.1) (split_append a b)

-- the text of words
abbrev pub joined : List ℕ → List (List ℕ) → List ℕ
joined w [] = w
joined w (v ∷ vs) = w ++ 46 ∷ joined v vs

joined_part : (b : Bool) (c : ℕ) (w : List ℕ) (ws : List (List ℕ)) → (b ≡ true → c ≡ 46) → joined (part_at b c (w, ws)).0 (part_at b c (w, ws)).1 ≡ c ∷ joined w ws
joined_part true c w ws is = ap (λ d. d ∷ joined w ws) (sym (is refl))
joined_part false c w [] is = refl
joined_part false c w (v ∷ vs) is = refl

pub joined_split : (text : List ℕ) → joined (split text).0 (split text).1 ≡ text
joined_split [] = refl
joined_split (c ∷ cs) =
    joined_part (eqb c 46) c (split cs).0 (split cs).1 (λ is. eqb-true c 46 is) ∙ ap (λ text. c ∷ text) (joined_split cs)

-- a word is a number where it begins with a digit
pub data Token : Type 0 where
  Text : List ℕ → Token
  Number : ℕ → Token

abbrev spelled : Bool → List ℕ → Token
spelled true word = Number (digits_value 10 word)
spelled false word = Text word

abbrev pub token : List ℕ → Token
token [] = Text []
token (c ∷ cs) = spelled (is_digit c 10) (c ∷ cs)

abbrev pub tokens_in : List ℕ → List Token
tokens_in text = map token (words_in text)

no_stop : (c : ℕ) → digit_value c < 10 → eqb c 46 ≡ false
no_stop c digit = ne_eqb c 46 (λ same. omega (arith, subst (λ d. digit_value d < 10) same digit))

split_digits : (ds : List ℕ) → AllDigits 10 ds → split ds ≡ (ds, [])
split_digits [] digits = refl
split_digits (c ∷ cs) digits = rw (no_stop c digits.0, split_digits cs digits.1) refl

token_numeral : (ds : List ℕ) → IsNumeral 10 ds → token ds ≡ Number (digits_value 10 ds)
token_numeral [] numeral = absurd (omega (arith, numeral.0))
token_numeral (c ∷ cs) numeral =
    let digit : is_digit c 10 ≡ true = grind (arith, nat_tests, numeral.1.0) in
    ap (λ b. spelled b (c ∷ cs)) digit

module _ (n : ℕ) (small : n < 2 ^ 64) where
  number_token : token (decimal n) ≡ Number n
  number_token = let numeral = decimal_is_IsNumeral n small in token_numeral (decimal n) numeral.0 ∙ ap Number numeral.1

  number_words : split (decimal n) ≡ (decimal n, [])
  number_words = split_digits (decimal n) (decimal_is_IsNumeral n small).0.1

  -- a number that ends a text, and one before a full stop
  pub number_last : tokens_in (decimal n) ≡ Number n ∷ []
  number_last = ap (λ parts. map token (parts.0 ∷ parts.1)) number_words ∙ ap (λ t. t ∷ []) number_token

  pub number_end : tokens_in (decimal n ++ []) ≡ Number n ∷ []
  number_end = ap tokens_in (append-nil (decimal n)) ∙ number_last

  pub number_then : (rest : List ℕ) → tokens_in (decimal n ++ 46 ∷ rest) ≡ Number n ∷ tokens_in rest
  number_then rest =
      ap (map token) (words_append (decimal n) rest) ∙ ap (λ parts. map token ((parts.0 ∷ parts.1) ++ words_in rest)) number_words
      ∙ ap (λ t. t ∷ tokens_in rest) number_token

  pub number_between : (word rest : List ℕ) → tokens_in ((decimal n ++ 46 ∷ word) ++ rest) ≡ Number n ∷ tokens_in (word ++ rest)
  number_between word rest = ap tokens_in (append_assoc (decimal n) (46 ∷ word) rest) ∙ number_then (word ++ rest)

  pub number_before : (word rest : List ℕ) → tokens_in (((decimal n ++ 46 ∷ []) ++ word) ++ rest) ≡ Number n ∷ tokens_in (word ++ rest)
  number_before word rest =
      ap (λ text. tokens_in (text ++ rest)) (append_assoc (decimal n) (46 ∷ []) word) ∙ number_between word rest

-- The first words of what the numbers of a task are named by, after the name of the task.
abbrev keys : List (List ℕ)
keys =
    codes "run" ∷ codes "ready" ∷ codes "blocked" ∷ codes "suspended" ∷ codes "calls" ∷ codes "inherited" ∷ codes "preemption_off" ∷ codes "switches"
    ∷ codes "inheritances" ∷ codes "timeouts" ∷ codes "refused" ∷ codes "late" ∷ codes "preempted" ∷ codes "notifications" ∷ codes "top_priority"
    ∷ codes "migrations" ∷ codes "ran_out" ∷ codes "unfinished" ∷ codes "not_made" ∷ codes "jobs" ∷ codes "response" ∷ codes "latency" ∷ codes "period" ∷ []

abbrev pub is_key : Token → Bool
is_key (Text word) = list_any (λ key. bytes_eq word key) keys
is_key (Number n) = false

abbrev pub has_key : List Token → Bool
has_key tokens = list_any is_key tokens

abbrev cutting : Bool → List ℕ → List (List ℕ) × List (List ℕ) → List (List ℕ) → List (List ℕ) × List (List ℕ)
cutting true word parts words = (word ∷ parts.0, parts.1)
cutting false word parts words = ([], word ∷ words)

-- words up to the last key, and those from there on
pub cut : List (List ℕ) → List (List ℕ) × List (List ℕ)
cut [] = ([], [])
cut (word ∷ words) = cutting (has_key (map token words)) word (cut words) words

module _ (key : List ℕ) (rest : List (List ℕ)) (is : is_key (token key) ≡ true) where
  key_there : (front : List (List ℕ)) → has_key (map token (front ++ key ∷ rest)) ≡ true
  key_there [] = or_left (is_key (token key)) (has_key (map token rest)) is
  key_there (word ∷ front) = or_right (is_key (token word)) (has_key (map token (front ++ key ∷ rest))) (key_there front)

  pub cut_at : has_key (map token rest) ≡ false → (front : List (List ℕ)) → cut (front ++ key ∷ rest) ≡ (front, key ∷ rest)
  unfolding cut
  cut_at none [] = ap (λ b. cutting b key (cut rest) rest) none
  cut_at none (word ∷ front) =
      ap (λ b. cutting b word (cut (front ++ key ∷ rest)) (front ++ key ∷ rest)) (key_there front)
      ∙ ap (λ parts. (word ∷ parts.0, parts.1)) (cut_at none front)
