-- What serde_json reads of a text, by what `json` reads of it and by what its tokens hold.
use Rattle.std.proofs.Common.{◌≡◌, ◌≢◌, ◌⊎◌, inl, inr, ⊎_elim, ℕ, ◌+◌, ◌<◌, ◌≤◌, List, [], ◌∷◌, length, Bool, true, false, ◌&&◌, Option, Some, None, is_some, option_and_then, Result, Ok, Err}
use Rattle.std.proofs.Common.{arith, append-nil, refl, sym, ap, ◌∙◌, subst}
use Rattle.std.specs.Prelude.{IfOk, IsSome, nat_le, unwrap_or}
use Rattle.std.proofs.lemmas.Bool.Decides.{nat_tests}
use Rattle.json.specs.Token.{Token}
use Rattle.json.specs.Lex.{tokens}
use Rattle.json.specs.Json.{Json, document, value, if_last}
use Rattle.json.specs.Scratch.{tape_room}
use Rattle.json.specs.Tree.{json_tokens, depth}
use Rattle.json.specs.declared.error.Error.{Error}
use Rattle.json.specs.declared.error.Error.TheVariants as error
use Rattle.json.specs.declared.scratch.Scratch.{Scratch}
use Rattle.json.specs.declared.tape.TheConstants.{MAX_LEN}
use Rattle.json.proofs.Found.{one_reading, Some_inj}
use Rattle.json.proofs.Nesting.{value-depth}
use Rattle.json.proofs.Printed.Trees.{value-json_tokens}
use Rattle.json.proofs.Unique.Spelling.{tokens-document, value-json_tokens_back}
use Rattle.serde_json.specs.Data.{Data}
use Rattle.serde_json.specs.Read.{of_json, max_depth, read}
use Rattle.json_data.specs.Reading.{data_at, data_of, are_in_range}
use Rattle.json_data.specs.Refusal.{refusal_of, IsTape, MayLackMemory}
use Rattle.json_data.specs.View.{document_view, tokens_view}
use Rattle.json_data.specs.declared.document.Document.{Document}
use Rattle.json_data.specs.declared.document.Refused.{Refused}
use Rattle.json_data.specs.declared.document.Refused.TheVariants.{NoMemory, NotJson}
use Rattle.json_data.proofs.Ranges.{range_of_json}

-- a value is read at each depth that is enough for it
pub value_in : (d e : ℕ) (ts r : List Token) (j : Json) → value d ts ≡ Some (j, r) → depth j ≤ e → value e ts ≡ Some (j, r)
value_in d e ts r j is deep = subst (λ t. value e t ≡ Some (j, r)) (sym (value-json_tokens_back d ts r j is)) (value-json_tokens j e r deep)

abbrev read_from : Option (Json × List Token) → Option Data
read_from o = option_and_then of_json (option_and_then (λ p. if_last p.0 p.1) o)

-- what is no document of `json` is none of serde_json
pub not_read : (t : List ℕ) → document t ≡ None → read t ≡ None
not_read t none = at (value max_depth (tokens t)) refl
  where
    at : (o : Option (Json × List Token)) → value max_depth (tokens t) ≡ o → read_from o ≡ None
    at None is = refl
    at (Some (j, x ∷ xs)) is = refl
    at (Some (j, [])) is =
        let wide : depth j ≤ 128 = omega (arith, value-depth max_depth (tokens t) [] j is) in
        let whole : document t ≡ Some j = ap (λ o. option_and_then (λ (p : Json × List Token). if_last p.0 p.1) o)
        (value_in max_depth 128 (tokens t) [] j is wide) in
        absurd (cc (none, whole))

-- the tokens of a document that nests no deeper than serde_json allows begin with its value
deep_enough : (t : List ℕ) (j : Json) → document t ≡ Some j → depth j ≤ max_depth → value max_depth (tokens t) ≡ Some (j, [])
deep_enough t j is deep =
    subst (λ ts. value max_depth ts ≡ Some (j, [])) (append-nil (json_tokens j) ∙ sym (tokens-document t j is)) (value-json_tokens j max_depth [] deep)

too_deep : (t : List ℕ) (j : Json) → document t ≡ Some j → nat_le (depth j) max_depth ≡ false → value max_depth (tokens t) ≡ None
too_deep t j is deep = at (value max_depth (tokens t)) refl
  where
    at : (o : Option (Json × List Token)) → value max_depth (tokens t) ≡ o → o ≡ None
    at None found = refl
    at (Some (k, r)) found =
        let here : value (depth j) (tokens t) ≡ Some (j, []) = subst (λ ts. value (depth j) ts ≡ Some (j, []))
        (append-nil (json_tokens j) ∙ sym (tokens-document t j is)) (value-json_tokens j (depth j) [] (omega arith)) in
        let same : (k, r) ≡ (j, []) = Some_inj (k, r) (j, []) (one_reading max_depth (depth j) (tokens t) (k, r) (j, []) found here) in
        let less : depth j ≤ max_depth = subst (λ (i : Json). depth i ≤ max_depth) (ap (λ (p : Json × List Token). p.0) same)
        (value-depth max_depth (tokens t) r k found) in
        absurd (grind (arith, nat_tests, less, deep))

and_true : (b : Bool) → (b && true) ≡ b
and_true b = grind arith

-- the tokens of a document are in range where serde_json reads it
range_of : (t : List ℕ) (j : Json) → document t ≡ Some j → are_in_range max_depth (tokens t) ≡ (nat_le (depth j) max_depth && is_some (of_json j))
unfolding are_in_range
range_of t j is =
    ap (are_in_range max_depth) (tokens-document t j is ∙ sym (append-nil (json_tokens j))) ∙ range_of_json max_depth j [] ∙ and_true _

pub accepted : (t : List ℕ) → IsSome (document t) → are_in_range max_depth (tokens t) ≡ true → is_some (data_at (tokens t)) ≡ true
accepted t some range = at (document t) refl some
  where
    at : (o : Option Json) → document t ≡ o → IsSome o → is_some (data_at (tokens t)) ≡ true
    at None is none = absurd (cc none)
    at (Some j) is _ =
        let both = sym (range_of t j is) ∙ range in
        let deep : depth j ≤ max_depth = grind (arith, nat_tests, both) in
        rw (deep_enough t j is deep) (grind (arith, both))

pub accepted_tape : (ts : List Token) → IsTape ts → are_in_range max_depth ts ≡ true → is_some (data_at ts) ≡ true
accepted_tape ts tape range =
    subst (λ ts. is_some (data_at ts) ≡ true) (sym tape.1) (accepted tape.0 tape.2 (ap (are_in_range max_depth) (sym tape.1) ∙ range))

pub accepted_read : (t : List ℕ) → IsSome (document t) → are_in_range max_depth (tokens t) ≡ true → read t ≡ Some (data_of (tokens t))
accepted_read t some range = at (document t) refl some
  where
    some_of : (o : Option Data) → is_some o ≡ true → (d : Data) → o ≡ Some (unwrap_or o d)
    some_of (Some x) is d = refl
    some_of None is d = absurd (cc is)

    at : (o : Option Json) → document t ≡ o → IsSome o → read t ≡ Some (data_of (tokens t))
    at None is none = absurd (cc none)
    at (Some j) is _ =
        let both = sym (range_of t j is) ∙ range in
        let deep : depth j ≤ max_depth = grind (arith, nat_tests, both) in
        rw (deep_enough t j is deep) (some_of (of_json j) (grind (arith, both)) _)

pub refused : (t : List ℕ) → IsSome (document t) → are_in_range max_depth (tokens t) ≡ false → read t ≡ None
refused t some range = at (document t) refl some
  where
    none_of : (o : Option Data) → is_some o ≡ false → o ≡ None
    none_of None is = refl
    none_of (Some x) is = absurd (cc is)

    by : (j : Json) (b : Bool) → document t ≡ Some j → nat_le (depth j) max_depth ≡ b → read t ≡ None
    by j true is deep =
        let both = sym (range_of t j is) ∙ range in
        rw (deep_enough t j is (grind (arith, nat_tests, deep))) (none_of (of_json j) (grind (arith, both, deep)))
    by j false is deep = rw (too_deep t j is deep) refl

    at : (o : Option Json) → document t ≡ o → IsSome o → read t ≡ None
    at None is none = absurd (cc none)
    at (Some j) is _ = by j (nat_le (depth j) max_depth) is refl

-- what comes of the tape of a text
pub read_of_tape : (t : List ℕ) (ts : List Token) (result : Result Document Refused) → ts ≡ tokens t → IsSome (document t) →
    IfOk result (λ d. (tokens_view d ≡ ts) × (are_in_range max_depth ts ≡ true)) → IfOk result (λ d. read t ≡ Some (document_view d))
read_of_tape t ts (Err why) is some both = tt
read_of_tape t ts (Ok d) is some both =
    accepted_read t some (ap (are_in_range max_depth) (sym is) ∙ both.1) ∙ ap (λ ts. Some (data_of ts)) (sym (both.0 ∙ is))

pub tokens_of_tape : (t : List ℕ) (ts : List Token) (result : Result Document Refused) → ts ≡ tokens t →
    IfOk result (λ d. (tokens_view d ≡ ts) × (are_in_range max_depth ts ≡ true)) → IfOk result (λ d. tokens_view d ≡ tokens t)
tokens_of_tape t ts (Err why) is both = tt
tokens_of_tape t ts (Ok d) is both = both.0 ∙ is

pub far_tape : (t : List ℕ) (ts : List Token) → ts ≡ tokens t → IsSome (document t) → are_in_range max_depth ts ≡ false → read t ≡ None
far_tape t ts is some far = refused t some (ap (are_in_range max_depth) (sym is) ∙ far)

-- what comes of a text without a tape
pub no_tape : (t : List ℕ) (e : Error) → (e ≡ error.Invalid → document t ≡ None) → refusal_of e ≡ NotJson → read t ≡ None
no_tape t error.Invalid none is = not_read t (none refl)
no_tape t error.OutOfMemory none is = absurd (cc is)
no_tape t error.TooLong none is = absurd (cc is)
no_tape t error.DuplicateKey none is = absurd (cc is)

-- why there is no memory for a tape, in a buffer of so many places
pub no_room : {A : Type 0} (scratch : Scratch A) (t : List ℕ) (places : ℕ) (e : Error) →
    (e ≡ error.OutOfMemory → (places < length (tokens t)) ⊎ (tape_room scratch < length t + 64)) → (e ≡ error.TooLong → MAX_LEN < length t) →
    e ≢ error.DuplicateKey → refusal_of e ≡ NoMemory → MayLackMemory scratch t
no_room scratch t places error.Invalid memory long never is = absurd (cc is)
no_room scratch t places error.OutOfMemory memory long never is =
    ⊎_elim (λ few. inl (grind (arith, few))) (λ little. inr (inl little)) (memory refl)
no_room scratch t places error.TooLong memory long never is = inr (inr (long refl))
no_room scratch t places error.DuplicateKey memory long never is = absurd (never refl)
