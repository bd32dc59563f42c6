-- What the program reads of the matches is what the rows of the command say.
use Rattle.std.proofs.Common.{◌≡◌, ◌∙◌, ◌||◌, Bool, true, false, true≢false, Option, Some, None, codes, is_some, not, refl, sym, ap, subst, bytes_eq}
use Rattle.std.specs.Prelude.{IfSome}
use Rattle.std.specs.Option.{option_map_or}
use Rattle.std.proofs.lemmas.Slice.Eq.{bytes_eq-Decides}
use Rattle.clap.specs.Matches.{one_text}
use Rattle.clap.specs.Walk.{is_empty, is_simple_arg}
use Rattle.clap.specs.Words.{Text, one_of, rows_of}
use Rattle.clap.specs.declared.builder.arg.Arg.{Arg}
use Rattle.clap.specs.declared.parser.matches.Found.{Found}
use Rattle.clap.proofs.WalkLemmas.{both, one_text-rows}
use Rattle.command_words.specs.Asking.{flag_in, is_flag}

-- a simple argument is read at its own command alone
pub simple_is_local : (a : Arg) → is_simple_arg a ≡ true → a.global ≡ false
simple_is_local a e =
    let defaults = (both (is_empty a.overrides.items) _ e).1 in
    let groups = (both (is_empty a.default_vals_ifs.items) _ defaults).1 in
    let delimiter = (both (is_empty a.groups.items) _ groups).1 in
    let terminator = (both (not (is_some a.val_delim)) _ delimiter).1 in
    let hyphens = (both (not (is_some a.terminator)) _ terminator).1 in
    let numbers = (both (not a.allow_hyphen_values) _ hyphens).1 in
    let equals = (both (not a.allow_negative_numbers) _ numbers).1 in
    let ends = (both (not a.require_equals) _ equals).1 in
    is_false a.global (both (not a.last) (not a.global) ends).1
  where
    is_false : (b : Bool) → not b ≡ true → b ≡ false
    is_false true e = absurd (true≢false (sym e))
    is_false false e = refl

-- what is read of the text of a flag
flag_read : (found : Option Text) → IfSome found (λ text. is_flag text ≡ true) → (read : Bool) → (found ≡ None → read ≡ false) →
    (found ≡ Some (codes "true") → read ≡ true)
    → (found ≡ Some (codes "false") → read ≡ false) → read ≡ option_map_or (bytes_eq (codes "true")) found false
flag_read None taken read none given others = none refl
flag_read (Some text) taken read none given others = go (bytes_eq text (codes "true")) (bytes_eq text (codes "false")) refl refl
  where
    go : (a b : Bool) → bytes_eq text (codes "true") ≡ a → bytes_eq text (codes "false") ≡ b → read ≡ bytes_eq (codes "true") text
    go true b is_a is_b =
        let same : text ≡ codes "true" = (bytes_eq-Decides text (codes "true")).0 is_a in
        given (ap (λ (t : Text). Some t) same) ∙ ap (λ (t : Text). bytes_eq (codes "true") t) (sym same)
    go false true is_a is_b =
        let same : text ≡ codes "false" = (bytes_eq-Decides text (codes "false")).0 is_b in
        others (ap (λ (t : Text). Some t) same) ∙ ap (λ (t : Text). bytes_eq (codes "true") t) (sym same)
    go false false is_a is_b = absurd (true≢false (sym taken ∙ ap (λ (is : Bool). is || bytes_eq text (codes "false")) is_a ∙ is_b))

-- what is read of a flag is what its row says
pub flag_is_read : (found : Found) (id : Text) → IfSome (one_of id (rows_of found)) (λ text. is_flag text ≡ true) → (read : Bool) →
    (one_text found id ≡ None → read ≡ false) → (one_text found id ≡ Some (codes "true") → read ≡ true)
    → (one_text found id ≡ Some (codes "false") → read ≡ false) → read ≡ flag_in id (rows_of found)
flag_is_read found id taken read none given others =
    let row = one_text-rows found id in
    flag_read (one_text found id) (subst (λ (text : Option Text). IfSome text (λ text. is_flag text ≡ true)) (sym row) taken) read none given others ∙ ap
    (λ (text : Option Text). option_map_or (bytes_eq (codes "true")) text false) row
