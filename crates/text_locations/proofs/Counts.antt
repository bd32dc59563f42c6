-- A text has at most one token more than bytes.
use Rattle.std.proofs.Common.{ℕ, suc, ◌≤◌, List, [], ◌∷◌, length, Bool, true, false, arith}
use Rattle.json.specs.Token.{Token}
use Rattle.json.specs.Lex.{Lexeme, token, comma, colon, Class, quote, backslash, operator, space, other, class, Mode, between, in_word, in_string, in_escape}
use Rattle.json.specs.Lex.{lex_byte, lex, Place, fresh, after_value, after_comma, after_key, begins_colon, may_begin, may_close, if_allowed, place_token}
use Rattle.json.specs.Lex.{punctuate, tokens}

lex_byte_short : (m : Mode) (c : Class) (x : ℕ) (xs : List ℕ) (k : Mode → List Lexeme) → ((next : Mode) → length (k next) ≤ length xs) → length
    (lex_byte m c x xs k) ≤ suc (length xs)
lex_byte_short between quote x xs k short = omega (arith, short in_string)
lex_byte_short between backslash x xs k short = omega (arith, short in_word)
lex_byte_short between operator x xs k short = omega (arith, short between)
lex_byte_short between space x xs k short = omega (arith, short between)
lex_byte_short between other x xs k short = omega (arith, short in_word)
lex_byte_short in_word quote x xs k short = omega (arith, short in_word)
lex_byte_short in_word backslash x xs k short = omega (arith, short in_word)
lex_byte_short in_word operator x xs k short = omega (arith, short between)
lex_byte_short in_word space x xs k short = omega (arith, short between)
lex_byte_short in_word other x xs k short = omega (arith, short in_word)
lex_byte_short in_string quote x xs k short = omega (arith, short between)
lex_byte_short in_string backslash x xs k short = omega (arith, short in_escape)
lex_byte_short in_string operator x xs k short = omega (arith, short in_string)
lex_byte_short in_string space x xs k short = omega (arith, short in_string)
lex_byte_short in_string other x xs k short = omega (arith, short in_string)
lex_byte_short in_escape c x xs k short = omega (arith, short in_string)

lex_short : (m : Mode) (xs : List ℕ) → length (lex m xs) ≤ length xs
unfolding lex
lex_short m [] = omega arith
lex_short m (x ∷ xs) = lex_byte_short m (class x) x xs (λ next. lex next xs) (λ next. lex_short next xs)

allowed_short : (b : Bool) (t : Token) (k : Place → List Token) (next : Place) (n : ℕ) → ((p : Place) → length (k p) ≤ suc n) → length
    (if_allowed b t k next) ≤ suc (suc n)
allowed_short true t k next n short = omega (arith, short next)
allowed_short false t k next n short = omega arith

placed_short : (p : Place) (t : Token) (b : Bool) (k : Place → List Token) (n : ℕ) → ((next : Place) → length (k next) ≤ suc n) → length
    (place_token p t b k) ≤ suc (suc n)
placed_short p Token.begin_object b k n short = allowed_short (may_begin p) Token.begin_object k fresh n short
placed_short p Token.end_object b k n short = allowed_short (may_close p) Token.end_object k after_value n short
placed_short p Token.begin_array b k n short = allowed_short (may_begin p) Token.begin_array k fresh n short
placed_short p Token.end_array b k n short = allowed_short (may_close p) Token.end_array k after_value n short
placed_short p (Token.key s) b k n short = omega arith
placed_short p (Token.string s) true k n short = allowed_short (may_begin p) (Token.key s) k after_key n short
placed_short p (Token.string s) false k n short = allowed_short (may_begin p) (Token.string s) k after_value n short
placed_short p (Token.number s) b k n short = allowed_short (may_begin p) (Token.number s) k after_value n short
placed_short p (Token.boolean v) b k n short = allowed_short (may_begin p) (Token.boolean v) k after_value n short
placed_short p Token.null b k n short = allowed_short (may_begin p) Token.null k after_value n short
placed_short p Token.bad b k n short = omega arith

punctuate_short : (p : Place) (ls : List Lexeme) → length (punctuate p ls) ≤ suc (length ls)
unfolding punctuate
punctuate_short fresh [] = omega arith
punctuate_short after_value [] = omega arith
punctuate_short after_comma [] = omega arith
punctuate_short after_key [] = omega arith
punctuate_short fresh (token t ∷ ls) = placed_short fresh t (begins_colon ls) (λ next. punctuate next ls) (length ls) (λ next. punctuate_short next ls)
punctuate_short after_value (token t ∷ ls) = placed_short after_value t (begins_colon ls) (λ next. punctuate next ls) (length ls)
    (λ next. punctuate_short next ls)
punctuate_short after_comma (token t ∷ ls) = placed_short after_comma t (begins_colon ls) (λ next. punctuate next ls) (length ls)
    (λ next. punctuate_short next ls)
punctuate_short after_key (token t ∷ ls) = placed_short after_key t (begins_colon ls) (λ next. punctuate next ls) (length ls) (λ next. punctuate_short next ls)
punctuate_short fresh (comma ∷ ls) = omega arith
punctuate_short after_value (comma ∷ ls) = omega (arith, punctuate_short after_comma ls)
punctuate_short after_comma (comma ∷ ls) = omega arith
punctuate_short after_key (comma ∷ ls) = omega arith
punctuate_short fresh (colon ∷ ls) = omega arith
punctuate_short after_value (colon ∷ ls) = omega arith
punctuate_short after_comma (colon ∷ ls) = omega arith
punctuate_short after_key (colon ∷ ls) = omega (arith, punctuate_short fresh ls)

pub tokens_short : (text : List ℕ) → length (tokens text) ≤ suc (length text)
tokens_short text = omega (arith, punctuate_short fresh (lex between text), lex_short between text)
