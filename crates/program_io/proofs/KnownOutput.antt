-- What was written so far, to bytes that are known or not.
use Rattle.std.proofs.Common.{◌≡◌, ◌≢◌, ◌≤◌, ℕ, zero, suc, ◌+◌, ◌-◌, List, ◌++◌, take, drop, length, Option, Some, None, Result, Ok, Err, refl, sym, ap, ◌∙◌}
use Rattle.std.proofs.Common.{append_assoc, subst, arith}
use Rattle.std.proofs.Math.Seq.{take-add}
use Rattle.std.proofs.lemmas.List.{take_all, length-drop}
use Rattle.std.specs.Io.KnownBytes.{Appends}
use Rattle.std.specs.declared.io.Error.{Error}
use Rattle.program_io.specs.declared.writing.WriteFault.{WriteFault}
use Rattle.program_io.specs.Device.{failures_after, later_fault, took_some, write_fault}

-- two writes in a row
pub appends_append : (a b c : Option (List ℕ)) (xs ys : List ℕ) → Appends a b xs → Appends b c ys → Appends a c (xs ++ ys)
appends_append None b c xs ys first then = tt
appends_append (Some xa) None c xs ys first then = absurd first
appends_append (Some xa) (Some xb) None xs ys first then = absurd then
appends_append (Some xa) (Some xb) (Some xc) xs ys first then = then ∙ ap (λ before. before ++ ys) first ∙ append_assoc xa xs ys

-- what is left of a text is all of its rest
pub take_rest : (n : ℕ) (text : List ℕ) → take (length text - n) (drop n text) ≡ drop n text
take_rest n text = take_all (length text - n) (drop n text) (omega (arith, length-drop n text))

-- a text is written piece by piece
pub appends_piece : (a b c : Option (List ℕ)) (n m : ℕ) (text : List ℕ) → Appends a b (take n text) → Appends b c
    (take m (take (length text - n) (drop n text))) → Appends a c (take (n + m) text)
appends_piece a b c n m text first then = subst (λ bytes. Appends a c bytes)
    (ap (λ rest. take n text ++ take m rest) (take_rest n text) ∙ sym (take-add n m text))
    (appends_append a b c (take n text) (take m (take (length text - n) (drop n text))) first then)

-- the count of a good result
abbrev is_count : {E : Type 0} → ℕ → Result ℕ E → ℕ
is_count other (Ok n) = n
is_count other (Err fault) = other

-- a write that took a byte did not fail
pub none_counted : {E : Type 0} (result : Result ℕ E) (count failures : ℕ) → result ≡ Ok count → count ≢ 0 → failures_after (took_some result) failures ≡
    failures
none_counted (Ok zero) count failures took some = absurd (some (ap (λ r. is_count 0 r) (sym took)))
none_counted (Ok (suc n)) count failures took some = refl
none_counted (Err fault) count failures took some = absurd (some (ap (λ r. is_count 0 r) (sym took)))

-- nor is there another reason why the last one did
pub none_later : (result : Result ℕ Error) (count : ℕ) (fault : Option WriteFault) → result ≡ Ok count → count ≢ 0 → later_fault (write_fault result) fault ≡
    fault
none_later (Ok zero) count fault took some = absurd (some (ap (λ r. is_count 0 r) (sym took)))
none_later (Ok (suc n)) count fault took some = refl
none_later (Err error) count fault took some = absurd (some (ap (λ r. is_count 0 r) (sym took)))

-- the whole text was written
pub appends_whole : (a b : Option (List ℕ)) (n : ℕ) (text : List ℕ) → length text ≤ n → Appends a b (take n text) → Appends a b text
appends_whole a b n text all written = subst (λ bytes. Appends a b bytes) (take_all n text all) written
