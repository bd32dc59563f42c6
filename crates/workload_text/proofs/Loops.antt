-- Reading one item after another, as a loop does.
use Rattle.std.proofs.Common.{List, ◌++◌, Result, Ok}
use Rattle.session_text.specs.declared.fault.TextFault.{TextFault}
use Rattle.session_text.specs.ReadingRules.{◌>>=◌}

-- what was read before, and what is still read
abbrev pub with_front : {A : Type 0} → List A → Result (List A) TextFault → Result (List A) TextFault
with_front front reading = reading >>= λ others. Ok (front ++ others)
