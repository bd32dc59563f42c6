-- What a reading gives: a value, or the first fault. And what a function that reads may answer.
use Rattle.std.specs.Prelude.{◌≡◌, ℕ, List, [], Option, Some, None, Result, Ok, Err}
use Rattle.session_text.specs.declared.detail.Detail.{Detail}
use Rattle.session_text.specs.declared.detail.Detail.TheVariants as detail
use Rattle.session_text.specs.declared.fault.Why.TheVariants.{BadShape, NoMemory}
use Rattle.session_text.specs.declared.fault.TextFault.{TextFault}
use Rattle.session_text.specs.declared.fault.ReadFault.{ReadFault}
use Rattle.session_text.specs.declared.fault.ReadFault.TheVariants.{Memory, Fault}
use Rattle.session_text.specs.Path.{path_text}

infixl 10 ◌>>=◌
abbrev pub ◌>>=◌ : {A B : Type 0} → Result A TextFault → (A → Result B TextFault)
    → Result B TextFault
Ok x >>= next = next x
Err fault >>= next = Err fault

-- H2 at a location, with what more is known of it
abbrev pub bad_shape : List ℕ → Detail → TextFault
bad_shape at more = record { why = BadShape; path = path_text at; detail = more }

-- what was looked for at a location, or H2 there
abbrev pub found : {A : Type 0} → Option A → List ℕ → Detail → Result A TextFault
found (Some x) at more = Ok x
found None at more = Err (bad_shape at more)

-- A reading stops at this fault, unless memory runs out before.
abbrev pub StopsAt : TextFault → ReadFault → Type 0
StopsAt fault Memory = Unit {0}
StopsAt fault (Fault first) = first.value ≡ fault

-- A reading ends in this way, unless memory runs out before.
abbrev pub Ends : {A : Type 0} → ReadFault → Result A TextFault → Type 0
Ends Memory reading = Unit {0}
Ends (Fault fault) reading = reading ≡ Err fault.value

-- A function returned what the reading gives, unless memory ran out. Its value is seen by `view`.
abbrev pub Gives : {A B : Type 0} → (A → B) → Result A ReadFault → Result B TextFault → Type 0
Gives view (Ok x) reading = reading ≡ Ok (view x)
Gives view (Err stop) reading = Ends stop reading

-- memory ran out
abbrev pub no_memory : TextFault
no_memory = record { why = NoMemory; path = []; detail = detail.None }

-- what a caller is told of it
abbrev pub known : ReadFault → TextFault
known Memory = no_memory
known (Fault fault) = fault.value
