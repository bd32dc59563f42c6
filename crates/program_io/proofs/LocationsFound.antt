-- The location of a fault in the bytes of an input, by whether they are a text.
use Rattle.std.proofs.Common.{◌≡◌, ℕ, Bool, true, false, List, Option, None, Result, Ok, Err, IfOk, refl, subst}
use Rattle.std.specs.Prelude.{if◌then◌else◌}
use Rattle.std.specs.Str.{IsUtf8, is_utf8}
use Rattle.std.proofs.lemmas.Str.{IsUtf8-from_is_utf8, is_utf8-from_IsUtf8}
use Rattle.text_locations.specs.declared.location.TextLocation.{TextLocation}
use Rattle.text_locations.specs.Leads.{location_of}
use Rattle.program_io.specs.Placed.{fault_location}

pub placed_text : {E : Type 0} (input text path : List ℕ) (result : Result (Option TextLocation) E) → text ≡ input → IsUtf8 input → IfOk result
    (λ found. found ≡ location_of text path) → IfOk result (λ location. location ≡ fault_location input path)
unfolding fault_location
placed_text input text path (Err e) same utf8 is = tt
placed_text input text path (Ok found) same utf8 is = rw (is_utf8-from_IsUtf8 input utf8) (subst (λ text. found ≡ location_of text path) same is)

no_text : (location : Option TextLocation) (test : Bool) → (test ≡ true → ⊥) → None ≡ (if test then location else None)
no_text location true never = absurd (never refl)
no_text location false never = refl

pub placeless : (input path : List ℕ) → ¬ (IsUtf8 input) → None ≡ fault_location input path
unfolding fault_location
placeless input path none = no_text (location_of input path) (is_utf8 input) (λ is. none (IsUtf8-from_is_utf8 input is))
