-- One text after another.
use Rattle.std.proofs.Common.{◌≡◌, ℕ, List, ◌++◌, Result, Ok, Err, ap, ◌∙◌, append_assoc}
use Rattle.std.specs.Prelude.{OnOk, is_ok, if◌then◌else◌}

-- a text after a text
pub ending_printed : {E : Type 0} (r : Result (Unit {0}) E) (before between after text ending pushed : List ℕ) → between ≡ before ++ text → after ≡
    (if is_ok r then between ++ pushed else between) → pushed ≡ ending → OnOk r (after ≡ before ++ (text ++ ending))
ending_printed (Ok done) before between after text ending pushed first second is =
    second ∙ ap (λ (some : List ℕ). some ++ pushed) first ∙ ap (λ (some : List ℕ). before ++ text ++ some) is ∙ append_assoc before text ending
ending_printed (Err why) before between after text ending pushed first second is = tt
