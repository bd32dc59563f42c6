-- What a terminal is told when it is read.
use Rattle.std.proofs.Common.{◌≡◌, ℕ, List, Bool, true, false, Result, Ok, Err, subst}
use Rattle.std.specs.Prelude.{is_ok, OnErr, OnOk}
use Rattle.std.specs.Io.KnownBytes.{Appends}
use Rattle.program_io.specs.Device.{failures_after, AppendsPrefix}
use Rattle.program_io.specs.Device.{DeviceState}
use Rattle.program_io.specs.Prompt.{prompt, Prompts}

-- where it is due, the prompt was written or failed to be, and that is counted
pub prompted : {A E : Type 0} (due : Bool) (old new : DeviceState) (text : List ℕ) (result : Result A E) → due ≡ true → text ≡ prompt → OnOk result
    (Appends old.bytes new.bytes text) → OnErr result (AppendsPrefix old.bytes new.bytes text)
    → new.failures ≡ failures_after (is_ok result) old.failures → Prompts due old new
prompted false old new text result due same whole part count = absurd (cc due)
prompted true old new text (Ok done) due same whole part count = record {
  printed = true;
  tells = subst (λ (text : List ℕ). Appends old.bytes new.bytes text) same whole;
  failures = count;
}
prompted true old new text (Err fault) due same whole part count = record {
  printed = false;
  tells = subst (λ (text : List ℕ). AppendsPrefix old.bytes new.bytes text) same part;
  failures = count;
}
