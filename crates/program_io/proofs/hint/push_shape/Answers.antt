use Rattle.std.proofs.Common.{◌≡◌, ◌++◌, ℕ, List, Result, Ok, Err, is_ok}
use Rattle.std.specs.Prelude.{OnOk, codes, string_bytes, if◌then◌else◌}
use Rattle.program_io.proofs.hint.push_shape.Goals as goal

-- a push that went well
pushed : {A E : Type 0} (result : Result A E) (new old more : List ℕ) → new ≡ (if is_ok result then old ++ more else old) → OnOk result (new ≡ old ++ more)
pushed (Ok done) new old more is = is
pushed (Err fault) new old more is = tt

pub returns-in-HasSteps : goal.returns-in-HasSteps
returns-in-HasSteps c = rw c.in-HasSteps.is (pushed c.push_str-in-HasSteps.result (string_bytes c.push_str-in-HasSteps.new.self) (string_bytes c.args.text.now)
    (codes "the session of a rig has no steps") c.push_str-in-HasSteps.ensures.bytes)
