-- The line of a refused input.
use Rattle.std.specs.Prelude.{◌≡◌, ℕ, List, [], ◌∷◌, ◌++◌, codes}
use Rattle.bench_types.specs.Codes.{fault_code}
use Rattle.session_text.specs.declared.fault.TextFault.{TextFault}
use Rattle.session_text.specs.declared.fault.Why.{Why}
use Rattle.session_text.specs.declared.fault.Why.TheVariants.{NotJson, BadShape, NoMemory}
use Rattle.session_text.specs.declared.fault.Why.TheVariants as why
use Rattle.program_io.specs.Hint.{IsFaultHint}
use Rattle.program_io.specs.Outputs.{Printed}
use Rattle.program_io.specs.Twice.{twice_note_of_refused, warned}

-- a text after a space
abbrev pub spaced : List ℕ → List ℕ
spaced text = codes " " ++ text

-- the code of a refusal; want of memory is none, and has no line
abbrev pub why_text : Why → List ℕ
why_text NotJson = codes "H1"
why_text BadShape = codes "H2"
why_text (why.Bench fault) = fault_code fault
why_text NoMemory = []

-- a path is left out where it is empty
abbrev pub path_text : List ℕ → List ℕ
path_text [] = []
path_text (byte ∷ rest) = spaced (byte ∷ rest)

abbrev pub refusal_line : List ℕ → List ℕ → List ℕ
refusal_line code path = codes "refused" ++ spaced code ++ path_text path ++ codes "\n"

-- of a text that was not read its refusal line and what people are told, put together like this,
-- and before that a line where a member stands twice
pub record IsPrintedFault (Puts : List ℕ → List ℕ → Printed) (input : List ℕ) (fault : TextFault)
    (printed : Printed) : Type 0 where
  pub hint : List ℕ
  pub is_hint : IsFaultHint input fault.why fault.path fault.detail hint
  pub is_printed :
      printed
      ≡ warned (twice_note_of_refused input)
      (Puts (refusal_line (why_text fault.why) fault.path) hint)
